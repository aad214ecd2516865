-- A file that is created and then written.
use Rattle.std.proofs.Common.{◌≡◌, ◌↔◌, ℕ, ◌<◌, ◌≤◌, false, List, [], ◌∷◌, ◌++◌, length, get_or, set, Ok, Err, Result, IsOk, OnOk, refl, ap, ◌∙◌, ⊎_elim, arith, rules}
use Rattle.std.specs.Result.{is_ok}
use Rattle.std.proofs.lemmas.Bool.Decides.{nat_tests}
use Rattle.std.proofs.lemmas.List.{get_or-set_same, get_or_past, set-set, length-set, same_lists, places}
use Rattle.std.proofs.lemmas.Bool.{cases_lt}
use Rattle.errno.specs.declared.ErrorCode.{ErrorCode}
use Rattle.fixed_vec.specs.declared.CapacityError.{CapacityError}
use Rattle.host.specs.Laws.{written}
use Rattle.storage.specs.Held.{too_large}
use Rattle.files.specs.Lists.{Listing, content_at, with_content, with_file}

emptied : (xs : List (List ℕ)) (i : ℕ) → get_or (set xs i []) i [] ≡ []
emptied xs i = ⊎_elim (λ (h : i < length xs). get_or-set_same xs i [] [] h) (λ (h : length xs ≤ i). get_or_past (set xs i []) i [] (let l = length-set xs i [] in omega (arith, l))) (cases_lt i (length xs))

first_bytes : (bytes : List ℕ) → written [] 0 bytes ≡ bytes
first_bytes [] = refl
first_bytes (b ∷ bytes) = same_lists _ _ (search (rules, places)) (λ k d h. grind (arith, places))

pub filed : (l middle after : Listing) (f n : ℕ) (name bytes : List ℕ) → middle ≡ with_file l f name [] → after ≡ with_content middle f (written (content_at middle f) 0 bytes) → f ≡ n → after ≡ with_file l n name bytes
filed l middle after f n name bytes em ea en =
    let put : set (set l.contents f []) f (written (get_or (set l.contents f []) f []) 0 bytes) ≡ set l.contents f bytes =
    ap (λ content. set (set l.contents f []) f (written content 0 bytes)) (emptied l.contents f)
    ∙ ap (λ content. set (set l.contents f []) f content) (first_bytes bytes)
    ∙ set-set l.contents f [] bytes in
    ea
    ∙ ap (λ (m : Listing). with_content m f (written (content_at m f) 0 bytes)) em
    ∙ (λ i. record { names = l.names ++ name ∷ []; contents = put i })
    ∙ ap (λ k. with_file l k name bytes) en

-- a write of no more than a file holds is accepted
pub wrote_all : {A : Type 0} (wrote : Result (Unit {0}) (CapacityError)) (told : Result (Unit {0}) ErrorCode) (bytes : List ℕ) → length bytes ≤ 2048 → (IsOk wrote ↔ (too_large 2048 0 bytes ≡ false)) → OnOk wrote A → is_ok told ≡ is_ok wrote → (told ≡ Ok tt) × A
wrote_all (Ok u) (Ok v) bytes h fits ok same = (refl, ok)
wrote_all (Ok u) (Err e) bytes h fits ok same = cc
wrote_all (Err e) told bytes h fits ok same = let no = fits.1 (fitting bytes h) in cc
  where
    fitting : (bs : List ℕ) → length bs ≤ 2048 → too_large 2048 0 bs ≡ false
    fitting bs l = grind (arith, nat_tests)
