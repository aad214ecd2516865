-- What a contract sees of a `FixedVec`.
use Rattle.std.specs.Prelude.{ℕ, ◌+◌, ◌-◌, List, ◌++◌, length, take, drop, replicate}

-- the elements in order, and what lies in the unused room, of which no clause says anything
pub record FixedVec (T : Type 0) : Type 0 where
  pub items : List T
  pub spare : List T

-- bytes with another behind them, as often as is wanting for a length
abbrev pub padded : List ℕ → ℕ → ℕ → List ℕ
padded bytes len byte = bytes ++ replicate (len - length bytes) byte

-- elements with others over them, from an index on
abbrev pub pasted : {T : Type 0} → List T → ℕ → List T → List T
pasted xs i ys = take i xs ++ ys ++ drop (i + length ys) xs
