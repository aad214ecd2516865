-- Bytes that are written over others, and behind them.
use Rattle.std.proofs.Common.{◌≡◌, ℕ, ◌<◌, List, [], ◌∷◌, length, refl, arith}
use Rattle.fixed_vec.specs.Items.{padded, pasted}
use Rattle.host.specs.Laws.{written}

-- what is pasted over bytes with zeros behind them is written
pub written_so : (xs : List ℕ) (p : ℕ) (ys : List ℕ) → 0 < length ys → written xs p ys ≡ pasted (padded xs p 0) p ys
written_so xs p [] h = absurd (omega (arith, h))
written_so xs p (y ∷ ys) h = refl
