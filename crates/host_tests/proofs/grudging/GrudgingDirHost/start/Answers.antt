use Rattle.host_tests.proofs.Grudges.{start_law}
use Rattle.std.proofs.Common.{rules}
use Rattle.host_tests.proofs.grudging.GrudgingDirHost.start.Goals as goal

-- a record is to be shown, which the tactics do not build from a lemma
pub returns : goal.returns
returns c = start_law c.args.self.now _ (search rules) (search rules) (search rules) c.new.ensures
