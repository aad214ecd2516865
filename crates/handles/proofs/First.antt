-- The index of the first element that passes a test.
use Rattle.std.proofs.Common.{◌≡◌, ℕ, zero, suc, ◌+◌, ◌<◌, Bool, true, false, cond, List, [], ◌∷◌, length, Some, None, Option, MatchOption, refl, ap, ◌∙◌, arith}
use Rattle.std.specs.List.{AllWithin, HoldsAt, position_from}

module _ {X : Type 0} (test : X → Bool) where
  abbrev pub Passes : X → Type 0
  Passes x = test x ≡ true

  abbrev pub Fails : X → Type 0
  Fails x = test x ≡ false

  none_passes : (n : ℕ) (xs : List X) → AllWithin Fails xs 0 (length xs) → position_from test n xs ≡ None
  none_passes n [] fails = refl
  none_passes n (x ∷ xs) fails =
      ap (λ b. cond b (Some n) (position_from test (n + 1) xs)) (fails 0 x (omega arith) (omega arith))
      ∙ none_passes (n + 1) xs (λ k d l h. fails (suc k) d (omega arith) (omega (arith, h)))

  first_passes : (n i : ℕ) (xs : List X) → i < length xs → HoldsAt Passes xs i → AllWithin Fails xs 0 i → position_from test n xs ≡ Some (n + i)
  first_passes n i [] h passes fails = absurd (omega (arith, h))
  first_passes n zero (x ∷ xs) h passes fails =
      ap (λ b. cond b (Some n) (position_from test (n + 1) xs)) (passes x)
      ∙ ap Some (let e : n ≡ n + 0 = omega arith in e)
  first_passes n (suc i) (x ∷ xs) h passes fails =
      ap (λ b. cond b (Some n) (position_from test (n + 1) xs)) (fails 0 x (omega arith) (omega arith))
      ∙ first_passes (n + 1) i xs (omega (arith, h)) (λ d. passes d) (λ k d l m. fails (suc k) d (omega arith) (omega (arith, m)))
      ∙ ap Some (let e : n + 1 + i ≡ n + suc i = omega arith in e)

  -- what a search told of the elements, as the index
  pub index_is : (xs : List X) (r : Option ℕ) → MatchOption r (AllWithin Fails xs 0 (length xs)) (λ i. (i < length xs) × HoldsAt Passes xs i × AllWithin Fails xs 0 i) → position_from test 0 xs ≡ r
  index_is xs None told = none_passes 0 xs told
  index_is xs (Some i) told = first_passes 0 i xs told.0 told.1 told.2 ∙ ap Some (let e : 0 + i ≡ i = omega arith in e)
