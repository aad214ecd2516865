use Rattle.std.proofs.Common.{None, Some, rules}
use Rattle.std.proofs.lemmas.Iterator.{IsFirst-from_position, YieldsList-from_slice}
use borrow.Author.Tests.{tests}
use Rattle.handles.specs.Slots.{is_free}
use Rattle.handles.proofs.First.{Passes, Fails, index_is}
use Rattle.handles.proofs.handles.Handles.first_free.Goals as goal

-- the lemma on searches takes the closure's meaning, which the tactics do not make up
pub returns-in_err-index : goal.returns-in_err-index
returns-in_err-index c =
    let slots = c.args.self.now in
    rw c.from_residual.ensures
    (index_is is_free slots None (IsFirst-from_position _ _ None (Passes is_free) (Fails is_free) c.in_err-index.ensures.ran (YieldsList-from_slice slots cc) (λ x q k. search (rules, tests)) (λ x q k. search (rules, tests))))

pub returns : goal.returns
returns c =
    let slots = c.args.self.now in
    index_is is_free slots (Some c.in_ok-index.index)
    (IsFirst-from_position _ _ (Some c.in_ok-index.index) (Passes is_free) (Fails is_free) c.in_ok-index.ensures.ran (YieldsList-from_slice slots cc) (λ x q k. search (rules, tests)) (λ x q k. search (rules, tests)))
