-- The numbers that witx gives file types and whence.
use Rattle.std.specs.Prelude.{ℕ, if◌then◌else◌, ◌==◌}
use Rattle.types.specs.declared.filetype.Filetype.{Filetype}
use Rattle.types.specs.declared.filetype.Filetype.TheVariants.{Unknown, BlockDevice, CharacterDevice, Directory, RegularFile, SymbolicLink}
use Rattle.types.specs.declared.whence.Whence.{Whence}
use Rattle.types.specs.declared.whence.Whence.TheVariants.{Set, Cur, End}

abbrev pub filetype_number : Filetype → ℕ
filetype_number Unknown = 0
filetype_number BlockDevice = 1
filetype_number CharacterDevice = 2
filetype_number Directory = 3
filetype_number RegularFile = 4
filetype_number SymbolicLink = 7

abbrev pub filetype_of : ℕ → Filetype
filetype_of n =
    if n == 1 then BlockDevice
    else if n == 2 then CharacterDevice
    else if n == 3 then Directory
    else if n == 4 then RegularFile
    else if n == 7 then SymbolicLink
    else Unknown

abbrev pub whence_number : Whence → ℕ
whence_number Set = 0
whence_number Cur = 1
whence_number End = 2
