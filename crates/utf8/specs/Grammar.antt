-- UTF-8 by the grammar of RFC 3629, section 4, rule by rule.
use Rattle.std.specs.Prelude.{◌≡◌, ℕ, ◌≤◌, ◌⊎◌, List, [], ◌∷◌, ◌++◌}

-- %xLO-HI: a byte within a range
pub record Within (lo hi b : ℕ) : Type 0 where
  pub least : lo ≤ b
  pub most : b ≤ hi

-- the ranges of the bytes of a character, one after the other
abbrev pub Row : Type 0
Row = List (ℕ × ℕ)

-- bytes that match a row, one for each range
abbrev pub Matches : Row → List ℕ → Type 0
Matches [] [] = Unit {0}
Matches [] (b ∷ bs) = ⊥
Matches (r ∷ rs) [] = ⊥
Matches (r ∷ rs) (b ∷ bs) = Within r.0 r.1 b × Matches rs bs

abbrev pub utf8_tail : ℕ × ℕ
utf8_tail = (0x80, 0xBF)

abbrev pub utf8_1 : List Row
utf8_1 = ((0x00, 0x7F) ∷ []) ∷ []

abbrev pub utf8_2 : List Row
utf8_2 = ((0xC2, 0xDF) ∷ utf8_tail ∷ []) ∷ []

abbrev pub utf8_3 : List Row
utf8_3 = ((0xE0, 0xE0) ∷ (0xA0, 0xBF) ∷ utf8_tail ∷ []) ∷ ((0xE1, 0xEC) ∷ utf8_tail ∷ utf8_tail ∷ []) ∷ ((0xED, 0xED) ∷ (0x80, 0x9F) ∷ utf8_tail ∷ []) ∷ ((0xEE, 0xEF) ∷ utf8_tail ∷ utf8_tail ∷ []) ∷ []

abbrev pub utf8_4 : List Row
utf8_4 = ((0xF0, 0xF0) ∷ (0x90, 0xBF) ∷ utf8_tail ∷ utf8_tail ∷ []) ∷ ((0xF1, 0xF3) ∷ utf8_tail ∷ utf8_tail ∷ utf8_tail ∷ []) ∷ ((0xF4, 0xF4) ∷ (0x80, 0x8F) ∷ utf8_tail ∷ utf8_tail ∷ []) ∷ []

-- bytes that match one of the rows
abbrev pub OneOf : List Row → List ℕ → Type 0
OneOf [] bs = ⊥
OneOf (r ∷ rs) bs = Matches r bs ⊎ OneOf rs bs

-- UTF8-char = UTF8-1 / UTF8-2 / UTF8-3 / UTF8-4
abbrev pub Utf8Char : List ℕ → Type 0
Utf8Char = OneOf (utf8_1 ++ utf8_2 ++ utf8_3 ++ utf8_4)

abbrev pub Utf8Chars : List (List ℕ) → Type 0
Utf8Chars [] = Unit {0}
Utf8Chars (c ∷ cs) = Utf8Char c × Utf8Chars cs

abbrev pub joined : List (List ℕ) → List ℕ
joined [] = []
joined (c ∷ cs) = c ++ joined cs

-- UTF8-octets = *( UTF8-char )
abbrev pub Utf8Octets : List ℕ → Type 0
Utf8Octets bs = (cs : List (List ℕ)) × Utf8Chars cs × (joined cs ≡ bs)
