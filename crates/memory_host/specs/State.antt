-- What the memory host holds, and what that means.
use Rattle.std.specs.Prelude.{ℕ, ◌+◌, if◌then◌else◌, List, [], ◌∷◌, length, Some, None, Option, ◌==◌, nat_lt, slice_index_or}
use Rattle.types.specs.declared.filetype.Filetype.{Filetype}
use Rattle.types.specs.declared.filetype.Filetype.TheVariants.{Directory, RegularFile}
use Rattle.host.specs.Meaning.{Entry, readable, Meaning}
use Rattle.handles.specs.Lives.{lives, directory_node, stdin_node, stdout_node, stderr_node}
use Rattle.memory_files.specs.Disk.{Disk, blank, disk as disk_of}
use Rattle.memory_host.specs.declared.in_memory.MemoryHost.{MemoryHost}

pub record State : Type 0 where
  pub disk : Disk
  pub input : List ℕ
  pub stdout : List ℕ
  pub stderr : List ℕ

abbrev pub state : MemoryHost → State
state m = record { disk = disk_of m.disk; input = m.input.now; stdout = m.stdout.taken.items; stderr = m.stderr.taken.items }

abbrev pub with_disk : State → Disk → State
with_disk s d = record { disk = d; input = s.input; stdout = s.stdout; stderr = s.stderr }

-- nothing is open, and there are no files
abbrev pub empty : List ℕ → State
empty input = record { disk = blank; input = input; stdout = []; stderr = [] }

-- files have the serial numbers from 1 on, the directory has 0
abbrev pub serial_of : ℕ → ℕ
serial_of node = if node == directory_node then 0 else node + 1

abbrev pub type_of : List (List ℕ) → ℕ → Option Filetype
type_of names node =
    if node == directory_node then Some Directory
    else if nat_lt node (length names) then Some RegularFile
    else None

-- the entries of the files from a node on
abbrev pub entries : ℕ → List (List ℕ) → List Entry
entries node [] = []
entries node (name ∷ names) = readable RegularFile name (node + 1) ∷ entries (node + 1) names

abbrev pub means : State → Meaning
means s = record {
  live = lives s.disk.slots;
  filetype = type_of s.disk.files.names;
  serial = serial_of;
  content = λ node. slice_index_or s.disk.files.contents node [];
  listing = λ node. if node == directory_node then entries 0 s.disk.files.names else [];
  waiting = λ node. if node == stdin_node then s.input else [];
  taken = λ node. if node == stdout_node then s.stdout else if node == stderr_node then s.stderr else [];
}

abbrev pub meaning_of : MemoryHost → Meaning
meaning_of m = means (state m)
