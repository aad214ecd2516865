use Rattle.std.proofs.Common.{◌≡◌, drop, Some}
use Rattle.utf8.specs.Machine.{accepts, pending}
use Rattle.utf8.proofs.scan.Given as goal

abbrev pub invariant-loop-b : goal.invariant-loop-b
invariant-loop-b l = accepts (Some l.state) (drop l.b-index l.bytes) ≡ accepts (Some (pending 0 128 191)) l.bytes
