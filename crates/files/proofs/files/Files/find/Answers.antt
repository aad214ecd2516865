use Rattle.std.proofs.Common.{◌≡◌, ◌↔◌, ◌<◌, Bool, List, ℕ, Option, IsSome, IfSome, None, Some, ap, ◌∙◌, sym, rules, arith}
use Rattle.std.proofs.lemmas.Iterator.{IsFirst-from_position, YieldsList-from_slice}
use Rattle.std.specs.Str.{bytes_eq}
use borrow.Author.Tests.{tests}
use Rattle.handles.specs.declared.file_number.FileNumber.{FileNumber}
use Rattle.handles.proofs.First.{Passes, Fails, index_is}
use Rattle.storage.specs.declared.file.File.{File}
use Rattle.storage.specs.File.{name_of}
use Rattle.files.specs.declared.files.Files.{Files}
use Rattle.files.specs.Lists.{index_of, Found, listing}
use Rattle.files.proofs.Maps.{position_from-map}
use Rattle.files.proofs.files.Files.find.Goals as goal

-- the file's name is the one that is looked for
abbrev has_name : List ℕ → File → Bool
has_name name f = bytes_eq (name_of f) name

numbered : (fs : Files) (name : List ℕ) (i : ℕ) (r : Option FileNumber) → index_of name (listing fs).names ≡ Some i → i < 8 → (IsSome r ↔ (i < 8)) → IfSome r (λ f. f.number ≡ i) → Found (listing fs) name r
numbered fs name i (Some f) e h some value = e ∙ ap Some (sym value)
numbered fs name i None e h some value = let no = some.1 h in cc

-- the lemma on searches takes the closure's meaning, which the tactics do not make up
pub returns-in_err-index : goal.returns-in_err-index
returns-in_err-index c =
    let files = c.listed.result.now in
    let name = c.args.name.now in
    rw c.from_residual.ensures
    (ap (index_of name) (sym c.listed.ensures.names)
    ∙ position_from-map (λ (other : List ℕ). bytes_eq other name) name_of 0 files
    ∙ index_is (has_name name) files None (IsFirst-from_position _ _ None (Passes (has_name name)) (Fails (has_name name)) c.in_err-index.ensures.ran (YieldsList-from_slice files cc) (λ x q k. search (rules, tests)) (λ x q k. search (rules, tests))))

pub returns : goal.returns
returns c =
    let files = c.listed.result.now in
    let name = c.args.name.now in
    let i = c.in_ok-index.index in
    let first = IsFirst-from_position _ _ (Some i) (Passes (has_name name)) (Fails (has_name name)) c.in_ok-index.ensures.ran (YieldsList-from_slice files cc) (λ x q k. search (rules, tests)) (λ x q k. search (rules, tests)) in
    let found : index_of name (listing c.args.self.now).names ≡ Some i =
    ap (index_of name) (sym c.listed.ensures.names)
    ∙ position_from-map (λ (other : List ℕ). bytes_eq other name) name_of 0 files
    ∙ index_is (has_name name) files (Some i) first in
    numbered c.args.self.now name i c.new.result found (omega (arith, first.0)) c.new.ensures.some c.new.ensures.value
