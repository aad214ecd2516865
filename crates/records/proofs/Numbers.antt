-- The bytes of std's numbers are the little-endian ones.
use Rattle.std.proofs.Common.{◌≡◌, ℕ}
use native.Mathlib.Nat.{div-div-eq-div-mul}
use Rattle.std.specs.Int.{w32, w64, to_le_bytes}
use Rattle.records.specs.Layout.{little_endian}

pub bytes_of_four : (x : ℕ) → to_le_bytes w32 x ≡ little_endian 4 x
bytes_of_four x = simp div-div-eq-div-mul

pub bytes_of_eight : (x : ℕ) → to_le_bytes w64 x ≡ little_endian 8 x
bytes_of_eight x = simp div-div-eq-div-mul
