-- One vector of an array after the other.
use Rattle.std.proofs.Common.{◌≡◌, ℕ, suc, ◌+◌, ◌-◌, ◌*◌, ◌<◌, List, ◌∷◌, Result, mul-add, arith}
use Rattle.memory.specs.declared.GuestError.{GuestError}
use Rattle.memory.specs.declared.Region.{Region}
use Rattle.records.specs.Layout.{read_at}
use Rattle.fuel.specs.Vectors.{first, vectors}

-- what is found from the i-th vector on, by what that one was read as
pub from_here : {X : Type 0} (named : X → Region) (size align : ℕ) (parsed : List ℕ → X) (memory : List ℕ) (count ptr i at : ℕ) (o : Result X GuestError)
    → i < count → at ≡ ptr + size * i → o ≡ read_at size align parsed memory at
    → first named (vectors size align parsed memory (count - i) (ptr + size * i)) ≡ first named (o ∷ vectors size align parsed memory (count - (i + 1)) (ptr + size * (i + 1)))
from_here named size align parsed memory count ptr i at o h a e =
    let fewer : count - i ≡ suc (count - (i + 1)) = omega arith in
    let after : ptr + size * i + size ≡ ptr + size * (i + 1) = omega (arith, mul-add size i 1) in
    rw (fewer, e, a, after)
