use Rattle.std.proofs.Common.{◌≡◌, ◌+◌, ◌-◌, ◌*◌}
use Rattle.fuel.specs.Vectors.{first, vectors}
use Rattle.fuel.proofs.vectors.find.Given as goal

abbrev pub invariant-loop-i : goal.invariant-loop-i
invariant-loop-i g l =
    first g.T.Vector.named (vectors g.T.GuestType.SIZE g.T.GuestType.ALIGN g.T.GuestType.parsed l.memory l.array.count l.array.ptr)
    ≡ first g.T.Vector.named (vectors g.T.GuestType.SIZE g.T.GuestType.ALIGN g.T.GuestType.parsed l.memory (l.array.count - l.i) (l.array.ptr + g.T.GuestType.SIZE * l.i))
