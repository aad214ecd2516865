-- Which writes are too large.
use Rattle.std.specs.Prelude.{ℕ, ◌+◌, Bool, ◌&&◌, List, length, nat_lt}

-- a write that is not empty ends past the limit
abbrev pub too_large : ℕ → ℕ → List ℕ → Bool
too_large limit offset bytes = nat_lt 0 (length bytes) && nat_lt limit (offset + length bytes)
