-- What is answered to an asking of the directory, and what there is after it.
use Rattle.std.specs.Prelude.{◌≡◌, ℕ, ◌+◌, ◌<◌, ◌≤◌, if◌then◌else◌, ◌&&◌, ◌||◌, List, [], length, Some, None, Ok, Err, MatchBool, Option, Result, slice_index_or}
use Rattle.errno.specs.declared.ErrorCode.{ErrorCode}
use Rattle.errno.specs.declared.ErrorCode.TheVariants.{Exist, IsDirectory, NoEntry, InsufficientSpace, NotDirectory}
use Rattle.types.specs.declared.Handle.{Handle}
use Rattle.types.specs.declared.flags.DescriptorFlags.{DescriptorFlags}
use Rattle.types.specs.declared.filetype.Filetype.TheVariants.{RegularFile}
use Rattle.types.specs.Words.{contains, creat, directory, excl, trunc}
use Rattle.host.specs.declared.token.Fresh.{Fresh}
use Rattle.host.specs.declared.token.NodeKind.{NodeKind}
use Rattle.host.specs.declared.token.NodeKind.TheVariants.{File as FileNode, Directory as DirectoryNode}
use Rattle.host.specs.declared.answers.DirEntry.{DirEntry}
use Rattle.handles.specs.declared.file_number.FileNumber.{FileNumber}
use Rattle.handles.specs.declared.open.Open.{Open}
use Rattle.handles.specs.declared.open.Open.TheVariants.{Node}
use Rattle.handles.specs.declared.open.Node.{Node as NodeOf}
use Rattle.handles.specs.declared.open.Node.TheVariants.{Directory, File}
use Rattle.handles.specs.Slots.{directory_at, first_free}
use Rattle.handles.specs.Names.{is_dot, is_name}
use Rattle.files.specs.Lists.{Found}
use Rattle.files.specs.Lists as lists
use Rattle.memory_files.specs.Disk.{Disk, with_files, with_content, Outcome}
use Rattle.memory_files.specs.Askings.{give}

-- the entries' number, and the entry at an index
abbrev pub count_in : Disk → Result (Unit {0}) ErrorCode → Result ℕ ErrorCode
count_in d (Ok is) = Ok (length d.files.names)
count_in d (Err c) = Err c

abbrev pub entry_count : Disk → ℕ → Result ℕ ErrorCode
entry_count d h = count_in d (directory_at d.slots h)

abbrev pub EntryOf : List (List ℕ) → ℕ → Result DirEntry ErrorCode → Type 0
EntryOf names i (Ok e) = (i < length names) × (e.filetype ≡ RegularFile) × (e.serial ≡ i + 1) × (e.name.items ≡ slice_index_or names i [])
EntryOf names i (Err c) = (length names ≤ i) × (c ≡ NoEntry)

abbrev pub EntryIn : Disk → Result (Unit {0}) ErrorCode → ℕ → Result DirEntry ErrorCode → Type 0
EntryIn d (Ok is) i r = EntryOf d.files.names i r
EntryIn d (Err c) i r = r ≡ Err c

abbrev pub EntryAt : Disk → ℕ → ℕ → Result DirEntry ErrorCode → Type 0
EntryAt d h i r = EntryIn d (directory_at d.slots h) i r

abbrev pub node_of : NodeOf → DescriptorFlags → Open
node_of node flags = Node (record { node = node; flags = flags })

abbrev pub fresh : NodeKind → Handle → Fresh
fresh kind h = record { handle = h; kind = kind }

abbrev pub open_directory : Disk → ℕ → DescriptorFlags → Outcome Fresh
open_directory d oflags flags =
    if contains oflags creat || contains oflags trunc then (Err IsDirectory, d)
    else give d (node_of Directory flags) (fresh DirectoryNode) (first_free d.slots)

-- a file that is there, emptied if that is asked
abbrev pub give_file : Disk → FileNumber → ℕ → DescriptorFlags → Option ℕ → Outcome Fresh
give_file d f oflags flags None = (Err InsufficientSpace, d)
give_file d f oflags flags (Some h) = give (if contains oflags trunc then with_content d f [] else d) (node_of (File f) flags) (fresh FileNode) (Some h)

abbrev pub open_existing : Disk → FileNumber → ℕ → DescriptorFlags → Outcome Fresh
open_existing d f oflags flags =
    if contains oflags creat && contains oflags excl then (Err Exist, d)
    else if contains oflags directory then (Err NotDirectory, d)
    else give_file d f oflags flags (first_free d.slots)

-- the number that a new file gets, if there is room for one
abbrev pub Next : List (List ℕ) → Option FileNumber → Type 0
Next names (Some f) = f.number ≡ length names
Next names None = 8 ≤ length names

abbrev pub with_file : Disk → FileNumber → List ℕ → Disk
with_file d f name = with_files d (lists.with_file d.files f.number name [])

abbrev pub new_file : Disk → Option FileNumber → List ℕ → DescriptorFlags → ℕ → Outcome Fresh
new_file d None name flags h = (Err InsufficientSpace, d)
new_file d (Some f) name flags h = give (with_file d f name) (node_of (File f) flags) (fresh FileNode) (Some h)

-- the opening ends so
abbrev pub Ends : Outcome Fresh → Result Fresh ErrorCode → Disk → Type 0
Ends outcome r d' = ◌≡◌ {A = Outcome Fresh} (r, d') outcome

abbrev pub NewFile : Disk → Option ℕ → List ℕ → DescriptorFlags → Result Fresh ErrorCode → Disk → Type 0
NewFile d None name flags r d' = Ends (Err InsufficientSpace, d) r d'
NewFile d (Some h) name flags r d' = (next : Option FileNumber) × Next d.files.names next × Ends (new_file d next name flags h) r d'

abbrev pub OpenNew : Disk → List ℕ → ℕ → DescriptorFlags → Result Fresh ErrorCode → Disk → Type 0
OpenNew d name oflags flags r d' = MatchBool (contains oflags creat) (MatchBool (contains oflags directory) (Ends (Err NoEntry, d) r d') (NewFile d (first_free d.slots) name flags r d')) (Ends (Err NoEntry, d) r d')

abbrev pub OpenFound : Disk → Option FileNumber → List ℕ → ℕ → DescriptorFlags → Result Fresh ErrorCode → Disk → Type 0
OpenFound d (Some f) name oflags flags r d' = Ends (open_existing d f oflags flags) r d'
OpenFound d None name oflags flags r d' = OpenNew d name oflags flags r d'

abbrev pub OpenName : Disk → List ℕ → ℕ → DescriptorFlags → Result Fresh ErrorCode → Disk → Type 0
OpenName d name oflags flags r d' = (found : Option FileNumber) × Found d.files name found × OpenFound d found name oflags flags r d'

abbrev pub OpenIn : Disk → Result (Unit {0}) ErrorCode → List ℕ → ℕ → DescriptorFlags → Result Fresh ErrorCode → Disk → Type 0
OpenIn d (Ok is) path oflags flags r d' = MatchBool (is_dot path) (Ends (open_directory d oflags flags) r d') (MatchBool (is_name path) (OpenName d path oflags flags r d') (Ends (Err NoEntry, d) r d'))
OpenIn d (Err c) path oflags flags r d' = Ends (Err c, d) r d'

abbrev pub OpenAt : Disk → ℕ → List ℕ → ℕ → DescriptorFlags → Result Fresh ErrorCode → Disk → Type 0
OpenAt d h path oflags flags r d' = OpenIn d (directory_at d.slots h) path oflags flags r d'
