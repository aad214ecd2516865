use Rattle.std.proofs.Common.{◌+◌, [], drop, Some, Option, eqb, sym, ap, ◌∙◌}
use Rattle.std.proofs.lemmas.List.{at_drop_more, at_drop_all}
use Rattle.utf8.specs.declared.Pending.{Pending}
use Rattle.utf8.specs.Machine.{accepts}
use Rattle.utf8.proofs.Rules.{decided}
use Rattle.utf8.proofs.scan.Goals as goal

-- the lemma takes what the loop has gone through, put together from several facts
pub returns-in_err-state : goal.returns-in_err-state
returns-in_err-state c =
    let bs = c.args.bytes.now in
    let i = c.loop-b.b-index in
    let next = sym (at_drop_more (accepts (Some c.loop-b.state)) bs i 0 c.loop-b-test.true) in
    decided bs (accepts c.from_residual.result []) (ap (λ (o : Option Pending). accepts o []) c.from_residual.ensures ∙ ap (λ (o : Option Pending). accepts o (drop (i + 1) bs)) c.in_err-state.ensures ∙ next ∙ c.loop-b.invariant)

pub returns : goal.returns
returns c = decided c.args.bytes.now (eqb c.loop-b.state.more 0) (sym (at_drop_all (accepts (Some c.loop-b.state)) c.args.bytes.now c.loop-b.b-index c.loop-b-test.false) ∙ c.loop-b.invariant)
