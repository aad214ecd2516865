-- How numbers and records lie in a guest's memory, by witx.
use Rattle.std.specs.Prelude.{◌≡◌, ℕ, zero, suc, ◌+◌, ◌*◌, ◌/◌, ◌%◌, if◌then◌else◌, List, [], ◌∷◌, ◌++◌, Ok, Err, Result, ◌==◌}
use Rattle.types.specs.Numbers.{filetype_number, filetype_of}
use Rattle.memory.specs.Ranges.{bytes_at, in_memory, with_bytes}
use Rattle.memory.specs.declared.GuestError.{GuestError}
use Rattle.memory.specs.declared.GuestError.TheVariants.{PtrOutOfBounds, PtrNotAligned}
use Rattle.records.specs.declared.dirent.Dirent.{Dirent}
use Rattle.records.specs.declared.io_vector.IoVector.{IoVector}

-- the n bytes of a number, the lowest first
abbrev pub little_endian : ℕ → ℕ → List ℕ
little_endian zero x = []
little_endian (suc n) x = x % 256 ∷ little_endian n (x / 256)

-- the number that bytes make, the lowest first
abbrev pub number : List ℕ → ℕ
number [] = 0
number (b ∷ bs) = b + 256 * number bs

-- the number in the n bytes of a record from an offset on
abbrev pub field : List ℕ → ℕ → ℕ → ℕ
field bs offset n = number (bytes_at bs offset n)

-- buf, 4 bytes at 0; buf_len, 4 at 4
abbrev pub vector_bytes : {read_only : ℕ} → IoVector read_only → List ℕ
vector_bytes x = little_endian 4 x.buf ++ little_endian 4 x.buf_len

abbrev pub vector_of : {read_only : ℕ} → List ℕ → IoVector read_only
vector_of bs = record { buf = field bs 0 4; buf_len = field bs 4 4 }

-- d_next, 8 bytes at 0; d_ino, 8 at 8; d_namlen, 4 at 16; d_type, 1 at 20; zeros up to 24
abbrev pub dirent_bytes : Dirent → List ℕ
dirent_bytes d = little_endian 8 d.d_next ++ little_endian 8 d.d_ino ++ little_endian 4 d.d_namlen ++ (filetype_number d.d_type ∷ 0 ∷ 0 ∷ 0 ∷ [])

abbrev pub dirent_of : List ℕ → Dirent
dirent_of bs = record { d_next = field bs 0 8; d_ino = field bs 8 8; d_namlen = field bs 16 4; d_type = filetype_of (field bs 20 1) }

-- something is at an address that is aligned and from which on so many bytes end within the memory
abbrev pub placed : {X : Type 0} → ℕ → ℕ → List ℕ → ℕ → X → Result X GuestError
placed size align memory ptr x =
    if ptr % align == 0 then (if in_memory memory ptr size then Ok x else Err PtrOutOfBounds)
    else Err PtrNotAligned

abbrev pub read_at : {X : Type 0} → ℕ → ℕ → (List ℕ → X) → List ℕ → ℕ → Result X GuestError
read_at size align parsed memory ptr = placed size align memory ptr (parsed (bytes_at memory ptr size))

-- a refused write changes nothing
abbrev pub Leaves : Result (Unit {0}) GuestError → List ℕ → List ℕ → List ℕ → Type 0
Leaves (Ok done) before changed after = after ≡ changed
Leaves (Err e) before changed after = after ≡ before

abbrev pub WriteAt : ℕ → ℕ → List ℕ → List ℕ → ℕ → Result (Unit {0}) GuestError → List ℕ → Type 0
WriteAt size align bs memory ptr r after = (r ≡ placed size align memory ptr tt) × Leaves r memory (with_bytes memory ptr bs) after
