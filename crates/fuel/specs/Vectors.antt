-- The first vector of an array that is not empty, and what finding it costs.
use Rattle.std.specs.Prelude.{ℕ, zero, suc, ◌+◌, ◌*◌, if◌then◌else◌, List, [], ◌∷◌, Some, None, Ok, Err, Option, Result, ◌==◌}
use Rattle.memory.specs.declared.GuestError.{GuestError}
use Rattle.memory.specs.declared.Region.{Region}
use Rattle.records.specs.Layout.{read_at}
use Rattle.memory.specs.Ranges.{told}
use Rattle.fuel.specs.declared.vectors.Array.{Array}
use Rattle.fuel.specs.Charges.{Outcome, charge}

-- the vectors of an array, each as it is read
abbrev pub vectors : {X : Type 0} → ℕ → ℕ → (List ℕ → X) → List ℕ → ℕ → ℕ → List (Result X GuestError)
vectors size align parsed memory zero ptr = []
vectors size align parsed memory (suc n) ptr = read_at size align parsed memory ptr ∷ vectors size align parsed memory n (ptr + size)

-- what the first one names that is not empty, unless one before it cannot be read
abbrev pub first : {X : Type 0} → (X → Region) → List (Result X GuestError) → Result (Option Region) GuestError
first named [] = Ok None
first named (Err fault ∷ rest) = Err fault
first named (Ok x ∷ rest) = if (named x).len == 0 then first named rest else Ok (Some (named x))

-- the buffer is charged for; without one it is empty, and nothing is charged
abbrev pub bought : Result (Option Region) GuestError → ℕ → Outcome Region
bought (Err fault) fuel = (Err (told fault), fuel)
bought (Ok None) fuel = (Ok (record { ptr = 0; len = 0 }), fuel)
bought (Ok (Some buffer)) fuel = charge buffer.len fuel (λ rest. (Ok buffer, rest))

abbrev pub first_non_empty : {X : Type 0} → ℕ → ℕ → (List ℕ → X) → (X → Region) → List ℕ → Array → ℕ → Outcome Region
first_non_empty size align parsed named memory array fuel = charge (size * array.count) fuel (bought (first named (vectors size align parsed memory array.count array.ptr)))
