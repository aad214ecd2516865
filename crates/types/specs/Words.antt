-- What a guest's words may say.
use Rattle.std.specs.Prelude.{◌≡◌, ℕ, ◌<◌, ◌≤◌, Bool, Ok, Err, Result, ◌==◌, bit_and}
use Rattle.errno.specs.declared.Errno.{Errno}
use Rattle.errno.specs.declared.Errno.TheVariants.{Inval}

-- a word below the limit is taken for what has that number, and any other is refused with inval
abbrev pub Taken : {X : Type 0} → (X → ℕ) → ℕ → ℕ → Result X Errno → Type 0
Taken number limit word (Ok x) = (word < limit) × (number x ≡ word)
Taken number limit word (Err e) = (limit ≤ word) × (e ≡ Inval)

-- every bit of the one word is set in the other
abbrev pub contains : ℕ → ℕ → Bool
contains word bits = bit_and word bits == bits

-- the named bits of oflags
abbrev pub creat : ℕ
creat = 1

abbrev pub directory : ℕ
directory = 2

abbrev pub excl : ℕ
excl = 4

abbrev pub trunc : ℕ
trunc = 8

-- the named bits of a host's descriptor flags that say what may be done
abbrev pub read : ℕ
read = 1

abbrev pub write : ℕ
write = 2
