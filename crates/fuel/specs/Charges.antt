-- What is charged, and what a refusal leaves of the fuel.
use Rattle.std.specs.Prelude.{◌≡◌, ℕ, ◌-◌, if◌then◌else◌, Ok, Err, Result, nat_le}
use Rattle.errno.specs.declared.Errno.TheVariants.{Nomem}
use Rattle.errno.specs.declared.Error.{Error}
use Rattle.errno.specs.declared.Error.TheVariants.{Errno}

-- an answer, and the fuel after it
abbrev pub Outcome : Type 0 → Type 0
Outcome X = Result X Error × ℕ

-- the answer and the fuel after a call are those of an outcome
abbrev pub Is : {X : Type 0} → Outcome X → Result X Error → ℕ → Type 0
Is outcome answer fuel = (answer ≡ outcome.0) × (fuel ≡ outcome.1)

-- a charge larger than the fuel is refused with nomem and leaves it; otherwise it is taken, and what is next happens with the rest
abbrev pub charge : {X : Type 0} → ℕ → ℕ → (ℕ → Outcome X) → Outcome X
charge amount fuel next =
    if nat_le amount fuel then next (fuel - amount)
    else (Err (Errno Nomem), fuel)

abbrev pub charged : ℕ → ℕ → Outcome (Unit {0})
charged amount fuel = charge amount fuel (λ rest. (Ok tt, rest))
