-- The law of each asking: meaning and buffer before, arguments, answer, buffer and meaning after.
-- A refusal leaves both as they were. What is answered is answered of a live handle of the kind that fits.
use Rattle.std.specs.Prelude.{◌≡◌, ℕ, ◌+◌, ◌-◌, ◌<◌, ◌≤◌, min, Bool, true, false, if◌then◌else◌, IsTrue, List, [], ◌∷◌, ◌++◌, map, length, take, drop, replicate, Some, None, Ok, Err, Option, Result, ◌==◌}
use Rattle.errno.specs.declared.ErrorCode.{ErrorCode}
use Rattle.types.specs.declared.filetype.Filetype.{Filetype}
use Rattle.types.specs.declared.filetype.Filetype.TheVariants.{Unknown, BlockDevice, CharacterDevice, Directory, RegularFile, SymbolicLink}
use Rattle.types.specs.Words.{contains, creat, trunc}
use Rattle.host.specs.declared.token.Fresh.{Fresh}
use Rattle.host.specs.declared.token.FileStream.{FileStream}
use Rattle.host.specs.declared.token.NodeKind.{NodeKind}
use Rattle.host.specs.declared.token.NodeKind.TheVariants.{File as FileNode, Directory as DirectoryNode}
use Rattle.host.specs.declared.answers.StreamError.{StreamError}
use Rattle.host.specs.declared.answers.StreamError.TheVariants.{Closed, LastOperationFailed}
use Rattle.host.specs.declared.answers.Stat.{Stat}
use Rattle.host.specs.declared.answers.DirEntry.{DirEntry}
use Rattle.host.specs.declared.answers.Preopen.{Preopen}
use Rattle.host.specs.declared.answers.Start.{Start}
use Rattle.host.specs.Meaning.{Source, queue, place, Kind, file, directory, input, output, Live, Entry, readable, faulty, Meaning, waits, with_handles, with_live, with_content, with_waiting, with_taken, at}

-- the handle h is live, of a kind
abbrev pub Stands : Meaning → ℕ → Kind → Live → Type 0
Stands m h kind l = (m.live h ≡ Some l) × (l.kind ≡ kind)

-- k of at most so many bytes are brought: one at least, unless there are none
abbrev pub SomeOf : ℕ → ℕ → Type 0
SomeOf most k = (k ≤ most) × (0 < most → 0 < k)

-- the buffer after k bytes were brought into it: they come first, and the rest stays
abbrev pub filled : List ℕ → ℕ → List ℕ → List ℕ
filled bytes k buffer = take k bytes ++ drop k buffer

abbrev pub ReadAt : Meaning → ℕ → ℕ → List ℕ → Result ℕ ErrorCode → List ℕ → Meaning → Type 0
ReadAt m h p buffer (Ok k) buffer' m' = (f : Live) × Stands m h file f × SomeOf (min (length buffer) (length (m.content f.node) - p)) k × (buffer' ≡ filled (drop p (m.content f.node)) k buffer) × (m' ≡ m)
ReadAt m h p buffer (Err c) buffer' m' = (buffer' ≡ buffer) × (m' ≡ m)

-- the file's bytes, and zeros behind them up to p
abbrev pub padded : List ℕ → ℕ → List ℕ
padded content p = content ++ replicate (p - length content) 0

-- bytes with others over them, from p on
abbrev pub pasted : List ℕ → ℕ → List ℕ → List ℕ
pasted content p bytes = take p content ++ bytes ++ drop (p + length bytes) content

-- the file's bytes once others stand at p; no bytes change nothing
abbrev pub written : List ℕ → ℕ → List ℕ → List ℕ
written content p [] = content
written content p (b ∷ bytes) = pasted (padded content p) p (b ∷ bytes)

abbrev pub WriteAt : Meaning → ℕ → ℕ → List ℕ → Result ℕ ErrorCode → Meaning → Type 0
WriteAt m h p bytes (Ok k) m' = (f : Live) × Stands m h file f × (k ≤ length bytes) × (m' ≡ with_content m f.node (written (m.content f.node) p (take k bytes)))
WriteAt m h p bytes (Err c) m' = m' ≡ m

abbrev pub Append : Meaning → ℕ → List ℕ → Result ℕ ErrorCode → Meaning → Type 0
Append m h bytes (Ok k) m' = (f : Live) × Stands m h file f × (k ≤ length bytes) × (m' ≡ with_content m f.node (m.content f.node ++ take k bytes))
Append m h bytes (Err c) m' = m' ≡ m

abbrev pub kind_of : NodeKind → Kind
kind_of FileNode = file
kind_of DirectoryNode = directory

-- a file or a directory is live behind h
abbrev pub Node : Meaning → ℕ → Live → Type 0
Node m h l = (kind : NodeKind) × Stands m h (kind_of kind) l

-- type, open flags, serial number and size are told as they are
abbrev pub Told : Meaning → Live → Stat → Type 0
Told m l stat = (m.filetype l.node ≡ Some stat.filetype) × (stat.flags ≡ l.flags) × (stat.serial ≡ m.serial l.node) × (stat.size ≡ length (m.content l.node))

abbrev pub StatOf : Meaning → ℕ → Result Stat ErrorCode → Meaning → Type 0
StatOf m h (Ok stat) m' = (l : Live) × Node m h l × Told m l stat × (m' ≡ m)
StatOf m h (Err c) m' = m' ≡ m

-- a stream on the file, from p on
abbrev pub stream_on : Live → ℕ → Live
stream_on f p = record { kind = input (place p); node = f.node; flags = f.flags }

abbrev pub ReadViaStream : Meaning → ℕ → ℕ → Result FileStream ErrorCode → Meaning → Type 0
ReadViaStream m h p (Ok stream) m' = (f : Live) × Stands m h file f × (m.live stream.handle.0 ≡ None) × (m' ≡ with_live m stream.handle.0 (Some (stream_on f p)))
ReadViaStream m h p (Err c) m' = m' ≡ m

-- k bytes are taken from the input behind h: the queue loses them, or the place moves on
abbrev pub took : Meaning → ℕ → Live → Source → ℕ → Meaning
took m h l queue k = with_waiting m l.node (drop k (m.waiting l.node))
took m h l (place p) k = with_live m h (Some (stream_on l (p + k)))

abbrev pub ReadStream : Meaning → ℕ → List ℕ → Result ℕ StreamError → List ℕ → Meaning → Type 0
ReadStream m h buffer (Ok k) buffer' m' = (l : Live) × (s : Source) × Stands m h (input s) l × (k ≤ min (length buffer) (length (waits m l.node s))) × (0 < length buffer → 0 < k) × (buffer' ≡ filled (waits m l.node s) k buffer) × (m' ≡ took m h l s k)
ReadStream m h buffer (Err Closed) buffer' m' = (l : Live) × (s : Source) × Stands m h (input s) l × (0 < length buffer) × (waits m l.node s ≡ []) × (buffer' ≡ buffer) × (m' ≡ m)
ReadStream m h buffer (Err (LastOperationFailed c)) buffer' m' = (buffer' ≡ buffer) × (m' ≡ m)

abbrev pub WriteStream : Meaning → ℕ → List ℕ → Result (Unit {0}) ErrorCode → Meaning → Type 0
WriteStream m h bytes (Ok done) m' = (l : Live) × Stands m h output l × (m' ≡ with_taken m l.node (m.taken l.node ++ bytes))
WriteStream m h bytes (Err c) m' = m' ≡ m

-- whether or not a fault is reported
abbrev pub DropHandle : Meaning → ℕ → Meaning → Type 0
DropHandle m h m' = m' ≡ with_live m h None

-- what an opening does to the files: nothing, it empties the one that it opens, or it adds it, empty, with its type,
-- its serial number and its entry, a name at some index of some directory's listing
pub record Addition : Type 0 where
  pub filetype : Filetype
  pub serial : ℕ
  pub directory : ℕ
  pub index : ℕ
  pub name : List ℕ

pub data Effect : Type 0 where
  nothing : Effect
  emptied : Effect
  added : Addition → Effect

abbrev pub node_kind : Filetype → NodeKind
node_kind Directory = DirectoryNode
node_kind Unknown = FileNode
node_kind BlockDevice = FileNode
node_kind CharacterDevice = FileNode
node_kind RegularFile = FileNode
node_kind SymbolicLink = FileNode

abbrev pub listed : Addition → List Entry → List Entry
listed a entries = take a.index entries ++ readable a.filetype a.name a.serial ∷ drop a.index entries

abbrev pub done : Meaning → ℕ → Effect → Meaning
done m node nothing = m
done m node emptied = with_content m node []
done m node (added a) = record { live = m.live; filetype = at node (Some a.filetype) m.filetype; serial = at node a.serial m.serial; content = at node [] m.content; listing = at a.directory (listed a (m.listing a.directory)) m.listing; waiting = m.waiting; taken = m.taken }

abbrev pub Allowed : Meaning → ℕ → ℕ → Effect → Type 0
Allowed m oflags node nothing = Unit {0}
Allowed m oflags node emptied = IsTrue (contains oflags trunc)
Allowed m oflags node (added a) = IsTrue (contains oflags creat) × (m.filetype node ≡ None) × (node_kind a.filetype ≡ FileNode) × (m.filetype a.directory ≡ Some Directory) × (a.index ≤ length (m.listing a.directory))

pub record Opened (m : Meaning) (oflags : ℕ) (fresh : Fresh) (m' : Meaning) : Type 0 where
  pub effect : Effect
  pub opened : Live
  pub filetype : Filetype
  pub allowed : Allowed m oflags opened.node effect
  pub new : m.live fresh.handle.0 ≡ None
  pub typed : (done m opened.node effect).filetype opened.node ≡ Some filetype
  pub kind : (fresh.kind ≡ node_kind filetype) × (opened.kind ≡ kind_of fresh.kind)
  pub after : m' ≡ with_live (done m opened.node effect) fresh.handle.0 (Some opened)

abbrev pub OpenAt : Meaning → ℕ → ℕ → Result Fresh ErrorCode → Meaning → Type 0
OpenAt m h oflags (Ok fresh) m' = (d : Live) × Stands m h directory d × Opened m oflags fresh m'
OpenAt m h oflags (Err c) m' = m' ≡ m

abbrev pub EntryCount : Meaning → ℕ → Result ℕ ErrorCode → Meaning → Type 0
EntryCount m h (Ok n) m' = (d : Live) × Stands m h directory d × (n ≡ length (m.listing d.node)) × (m' ≡ m)
EntryCount m h (Err c) m' = m' ≡ m

-- the entries behind h; a handle that is no live directory has none
abbrev pub entries_of : Meaning → Option Live → List Entry
entries_of m None = []
entries_of m (Some l) = elim l.kind [ file ↦ [] | directory ↦ m.listing l.node | input s ↦ [] | output ↦ [] ]

-- of the entries from the asked one on; only a faulty one, or one that does not exist, is refused
abbrev pub EntryIs : List Entry → Result DirEntry ErrorCode → Type 0
EntryIs [] (Ok e) = ⊥
EntryIs [] (Err c) = Unit {0}
EntryIs (readable filetype name serial ∷ entries) (Ok e) = (e.filetype ≡ filetype) × (e.serial ≡ serial) × (e.name.items ≡ name)
EntryIs (readable filetype name serial ∷ entries) (Err c) = ⊥
EntryIs (faulty code ∷ entries) (Ok e) = ⊥
EntryIs (faulty code ∷ entries) (Err c) = c ≡ code

abbrev pub EntryAt : Meaning → ℕ → ℕ → Result DirEntry ErrorCode → Meaning → Type 0
EntryAt m h i r m' = EntryIs (drop i (entries_of m (m.live h))) r × (m' ≡ m)

abbrev pub preopens : Start → List Preopen
preopens s = s.preopens.items

-- all handles that a start gives
abbrev pub given : Start → List ℕ
given s = s.stdin.handle.0 ∷ s.stdout.handle.0 ∷ s.stderr.handle.0 ∷ map (λ p. p.handle.0) (preopens s)

abbrev pub among : ℕ → List ℕ → Bool
among x [] = false
among x (y ∷ ys) = if x == y then true else among x ys

-- no two alike
abbrev pub Apart : List ℕ → Type 0
Apart [] = Unit {0}
Apart (x ∷ xs) = (among x xs ≡ false) × Apart xs

-- each is a live directory, with a name of at most 255 bytes
abbrev pub Preopened : Meaning → List Preopen → Type 0
Preopened m [] = Unit {0}
Preopened m (p ∷ ps) = ((d : Live) × Stands m p.handle.0 directory d × (m.filetype d.node ≡ Some Directory)) × (length p.name.items ≤ 255) × Preopened m ps

-- every handle from before has ended, and the given ones are live; all else stays
pub record Started (m : Meaning) (s : Start) (m' : Meaning) : Type 0 where
  pub stdin : (l : Live) × Stands m' s.stdin.handle.0 (input queue) l
  pub stdout : (l : Live) × Stands m' s.stdout.handle.0 output l
  pub stderr : (l : Live) × Stands m' s.stderr.handle.0 output l
  pub directories : Preopened m' (preopens s)
  pub few : length (preopens s) ≤ 8
  pub apart : Apart (given s)
  pub only : (h : ℕ) → among h (given s) ≡ false → m'.live h ≡ None
  pub rest : m' ≡ with_handles m m'.live
