-- What is open, and which files there are.
use Rattle.std.specs.Prelude.{ℕ, List, replicate, Result}
use Rattle.errno.specs.declared.ErrorCode.{ErrorCode}
use Rattle.handles.specs.declared.file_number.FileNumber.{FileNumber}
use Rattle.handles.specs.declared.open.Open.{Open}
use Rattle.handles.specs.declared.open.Open.TheVariants.{Free}
use Rattle.files.specs.declared.files.Files.{Files}
use Rattle.files.specs.Lists.{Listing, listing}
use Rattle.files.specs.Lists as lists
use Rattle.memory_files.specs.declared.MemoryDisk.{MemoryDisk}

pub record Disk : Type 0 where
  pub slots : List Open
  pub files : Listing

-- of the two halves
abbrev pub disk_of : List Open → Files → Disk
disk_of slots files = record { slots = slots; files = listing files }

abbrev pub disk : MemoryDisk → Disk
disk d = disk_of d.handles d.files

-- nothing is open, and there are no files
abbrev pub blank : Disk
blank = record { slots = replicate 80 Free; files = lists.blank }

abbrev pub content : Disk → FileNumber → List ℕ
content d f = lists.content_at d.files f.number

abbrev pub with_files : Disk → Listing → Disk
with_files d files = record { slots = d.slots; files = files }

abbrev pub with_content : Disk → FileNumber → List ℕ → Disk
with_content d f bytes = with_files d (lists.with_content d.files f.number bytes)

abbrev pub with_slots : Disk → List Open → Disk
with_slots d slots = record { slots = slots; files = d.files }

-- an answer, and what there is after it
abbrev pub Outcome : Type 0 → Type 0
Outcome X = Result X ErrorCode × Disk
