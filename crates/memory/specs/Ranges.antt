-- A guest's memory, and what may be named in it.
use Rattle.std.specs.Prelude.{ℕ, ◌+◌, Bool, if◌then◌else◌, List, ◌++◌, length, take, drop, Ok, Err, Result, nat_le}
use Rattle.std.specs.Borrow.{Bor}
use Rattle.errno.specs.declared.Error.{Error}
use Rattle.errno.specs.declared.Error.TheVariants.{Errno, Trap}
use Rattle.errno.specs.declared.TrapCause.TheVariants.{Pointer}
use Rattle.errno.specs.declared.Errno.TheVariants.{Ilseq}
use Rattle.memory.specs.declared.GuestError.{GuestError}
use Rattle.memory.specs.declared.GuestError.TheVariants.{PtrOutOfBounds, PtrNotAligned, InvalidUtf8}
use Rattle.memory.specs.declared.Region.{Region}

-- what a call answers for each fault
abbrev pub told : GuestError → Error
told PtrOutOfBounds = Trap Pointer
told PtrNotAligned = Trap Pointer
told InvalidUtf8 = Errno Ilseq

-- n bytes from an address on
abbrev pub bytes_at : List ℕ → ℕ → ℕ → List ℕ
bytes_at memory ptr n = take n (drop ptr memory)

-- the memory with other bytes from an address on
abbrev pub with_bytes : List ℕ → ℕ → List ℕ → List ℕ
with_bytes memory ptr bs = take ptr memory ++ bs ++ drop (ptr + length bs) memory

-- n bytes from an address on end within the memory; none do from an address behind its end
abbrev pub in_memory : List ℕ → ℕ → ℕ → Bool
in_memory memory ptr n = nat_le (ptr + n) (length memory)

abbrev pub checked : List ℕ → Region → Result (Unit {0}) GuestError
checked memory region = if in_memory memory region.ptr region.len then Ok tt else Err PtrOutOfBounds

-- an answer with the bytes themselves in place of a reference to them
abbrev pub bytes_of : {E : Type 0} → Result (Bor (List ℕ)) E → Result (List ℕ) E
bytes_of (Ok bytes) = Ok bytes.now
bytes_of (Err e) = Err e
