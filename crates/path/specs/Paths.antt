-- A path in a guest's memory, and what it costs.
use Rattle.std.specs.Prelude.{◌≡◌, ℕ, if◌then◌else◌, List, Ok, Err, Result}
use Rattle.errno.specs.declared.Error.{Error}
use Rattle.memory.specs.declared.GuestError.TheVariants.{PtrOutOfBounds, InvalidUtf8}
use Rattle.memory.specs.declared.Region.{Region}
use Rattle.memory.specs.Ranges.{bytes_at, in_memory, told}
use Rattle.utf8.specs.Grammar.{Utf8Octets}
use Rattle.fuel.specs.Charges.{Outcome, charge}

-- the bytes of a path are charged for, and then its range is checked
abbrev pub found : List ℕ → Region → ℕ → Outcome (List ℕ)
found memory path fuel = charge path.len fuel (λ rest. (if in_memory memory path.ptr path.len then Ok (bytes_at memory path.ptr path.len) else Err (told PtrOutOfBounds), rest))

-- what was found is answered exactly if it is UTF-8
abbrev pub Checked : Result (List ℕ) Error → Result (List ℕ) Error → Type 0
Checked (Err e) answer = answer ≡ Err e
Checked (Ok bytes) (Ok path) = (path ≡ bytes) × Utf8Octets bytes
Checked (Ok bytes) (Err e) = (e ≡ told InvalidUtf8) × (Utf8Octets bytes → ⊥)

abbrev pub ReadString : List ℕ → Region → ℕ → Result (List ℕ) Error → ℕ → Type 0
ReadString memory path fuel answer after = Checked (found memory path fuel).0 answer × (after ≡ (found memory path fuel).1)
