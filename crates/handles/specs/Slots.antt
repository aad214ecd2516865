-- What is behind a handle, and which one is free.
use Rattle.std.specs.Prelude.{◌≡◌, ℕ, Bool, true, false, if◌then◌else◌, List, Some, None, Ok, Err, Option, Result, slice_index_or}
use Rattle.std.specs.List.{position_from}
use Rattle.errno.specs.declared.ErrorCode.{ErrorCode}
use Rattle.errno.specs.declared.ErrorCode.TheVariants.{BadDescriptor}
use Rattle.types.specs.declared.Handle.{Handle}
use Rattle.types.specs.declared.flags.DescriptorFlags.{DescriptorFlags}
use Rattle.types.specs.Words.{contains}
use Rattle.handles.specs.declared.file_number.FileNumber.{FileNumber}
use Rattle.handles.specs.declared.open.Node.TheVariants.{Directory, File}
use Rattle.handles.specs.declared.open.Opened.{Opened}
use Rattle.handles.specs.declared.open.Open.{Open}
use Rattle.handles.specs.declared.open.Open.TheVariants.{Free, Node, Stream, Stdin, Stdout, Stderr}

abbrev pub open_at : List Open → ℕ → Open
open_at slots h = slice_index_or slots h Free

abbrev pub opened_of : Open → Result Opened ErrorCode
opened_of Free = Err BadDescriptor
opened_of (Node opened) = Ok opened
opened_of (Stream stream) = Err BadDescriptor
opened_of Stdin = Err BadDescriptor
opened_of Stdout = Err BadDescriptor
opened_of Stderr = Err BadDescriptor

abbrev pub opened_at : List Open → ℕ → Result Opened ErrorCode
opened_at slots h = opened_of (open_at slots h)

abbrev pub directory_of : Result Opened ErrorCode → Result (Unit {0}) ErrorCode
directory_of (Ok opened) = elim opened.node [ Directory ↦ Ok tt | File f ↦ Err BadDescriptor ]
directory_of (Err c) = Err c

abbrev pub directory_at : List Open → ℕ → Result (Unit {0}) ErrorCode
directory_at slots h = directory_of (opened_at slots h)

abbrev pub file_of : Result Opened ErrorCode → Result (FileNumber × DescriptorFlags) ErrorCode
file_of (Ok opened) = elim opened.node [ Directory ↦ Err BadDescriptor | File f ↦ Ok (f, opened.flags) ]
file_of (Err c) = Err c

abbrev pub file_at : List Open → ℕ → Result (FileNumber × DescriptorFlags) ErrorCode
file_at slots h = file_of (opened_at slots h)

abbrev pub for_use : Result (FileNumber × DescriptorFlags) ErrorCode → ℕ → Result (FileNumber × DescriptorFlags) ErrorCode
for_use (Ok f) needed = if contains f.1.0 needed then Ok f else Err BadDescriptor
for_use (Err c) needed = Err c

abbrev pub file_for : List Open → ℕ → ℕ → Result (FileNumber × DescriptorFlags) ErrorCode
file_for slots h needed = for_use (file_at slots h) needed

abbrev pub is_free : Open → Bool
is_free Free = true
is_free (Node opened) = false
is_free (Stream stream) = false
is_free Stdin = false
is_free Stdout = false
is_free Stderr = false

abbrev pub first_free : List Open → Option ℕ
first_free slots = position_from is_free 0 slots

abbrev pub FirstFree : List Open → Option Handle → Type 0
FirstFree slots (Some h) = first_free slots ≡ Some h.0
FirstFree slots None = first_free slots ≡ None
