use Rattle.memory_host.proofs.Kept.{start_kept}
use Rattle.memory_host.proofs.in_memory.dir_host.MemoryHostDirHost.start.Goals as goal

-- a record is to be shown, which the tactics do not build from a lemma
pub returns : goal.returns
returns c = start_kept c.args.self.now c.start.new.self c.start.result c.start.ensures
