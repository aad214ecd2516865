-- The front of a list in which a part was overwritten.
use Rattle.std.proofs.Common.{◌≡◌, ℕ, ◌+◌, ◌≤◌, max, List, ◌++◌, length, take, drop, append_assoc, arith, rules}
use borrow.Rule.Slice.PartMut.{put_mid}
use Rattle.std.proofs.lemmas.List.{same_lists, places, drop-drop}
use Rattle.fixed_vec.specs.Items.{pasted}

-- a write to a part, as what lies before it, what is written and what lies behind
middle : {T : Type 0} (a k m : ℕ) (xs ys zs : List T) → k ≡ m → ys ≡ zs → put_mid a k xs ys ≡ take a xs ++ zs ++ drop (a + m) xs
middle a k m xs ys zs e f = rw (e, f) (simp (append_assoc, drop-drop))

pub front_pasted : {T : Type 0} (xs ys zs : List T) (len at k end : ℕ) → k ≡ length ys → zs ≡ ys → end ≡ max len (at + length ys) → at ≤ len → len ≤ length xs → at + length ys ≤ length xs → take end (put_mid at k xs zs) ≡ pasted (take len xs) at ys
front_pasted xs ys zs len at k end ek ez e a l h = rw (middle at k (length ys) xs zs ys ek ez, e) (same_lists _ _ (search (rules, places)) (λ k d h. grind (arith, places)))
