use Rattle.std.proofs.Common.{arith, rules}
use Rattle.fixed_vec.proofs.Fronts.{front_pasted}
use Rattle.fixed_vec.proofs.FixedVec.try_paste.Goals as goal

pub returns-clause-ok : goal.returns-clause-ok
returns-clause-ok g c = rw (← c.self.view_is) (front_pasted c.self.inside.places c.args.others.now c.copy_from_slice.new.self c.self.inside.len c.args.start _ c.max-self-inside.result (omega arith) (search rules) (search rules) (search rules) (search rules) (search rules))
