-- What is answered to an asking of a file, and what there is after it.
use Rattle.std.specs.Prelude.{ℕ, ◌+◌, ◌-◌, min, if◌then◌else◌, List, length, drop, Some, None, Ok, Err, Option, Result, ◌==◌, nat_le, slice_set}
use Rattle.errno.specs.declared.ErrorCode.{ErrorCode}
use Rattle.errno.specs.declared.ErrorCode.TheVariants.{BadDescriptor, FileTooLarge, InsufficientSpace}
use Rattle.types.specs.declared.Handle.{Handle}
use Rattle.types.specs.declared.flags.DescriptorFlags.{DescriptorFlags}
use Rattle.types.specs.declared.filetype.Filetype.TheVariants.{Directory as DirectoryType, RegularFile}
use Rattle.types.specs.Words.{read, write}
use Rattle.host.specs.declared.token.FileStream.{FileStream}
use Rattle.host.specs.declared.answers.StreamError.{StreamError}
use Rattle.host.specs.declared.answers.StreamError.TheVariants.{Closed}
use Rattle.host.specs.declared.answers.Stat.{Stat}
use Rattle.host.specs.Laws.{filled, written}
use Rattle.storage.specs.Held.{too_large}
use Rattle.handles.specs.declared.file_number.FileNumber.{FileNumber}
use Rattle.handles.specs.declared.open.Open.{Open}
use Rattle.handles.specs.declared.open.Open.TheVariants.{Stream}
use Rattle.handles.specs.declared.open.Node.{Node as NodeOf}
use Rattle.handles.specs.declared.open.Node.TheVariants.{Directory, File}
use Rattle.handles.specs.declared.open.Opened.{Opened}
use Rattle.handles.specs.declared.open.Stream.{Stream as StreamOf}
use Rattle.handles.specs.Slots.{opened_at, file_for, first_free}
use Rattle.memory_files.specs.Disk.{Disk, content, with_content, with_slots, Outcome}

-- how many bytes come, and the buffer with them: all that there are and that there is room for
abbrev pub brought : List ℕ → ℕ → List ℕ → Result ℕ ErrorCode × List ℕ
brought bytes p buffer = (Ok (min (length buffer) (length bytes - p)), filled (drop p bytes) (min (length buffer) (length bytes - p)) buffer)

abbrev pub read_from : Disk → Result (FileNumber × DescriptorFlags) ErrorCode → ℕ → List ℕ → Result ℕ ErrorCode × List ℕ
read_from d (Ok f) p buffer = brought (content d f.0) p buffer
read_from d (Err c) p buffer = (Err c, buffer)

abbrev pub read_at : Disk → ℕ → ℕ → List ℕ → Result ℕ ErrorCode × List ℕ
read_at d h p buffer = read_from d (file_for d.slots h read) p buffer

abbrev pub put_bytes : Disk → FileNumber → ℕ → List ℕ → Outcome ℕ
put_bytes d f p bytes =
    if too_large 2048 p bytes then (Err FileTooLarge, d)
    else (Ok (length bytes), with_content d f (written (content d f) p bytes))

abbrev pub write_to : Disk → Result (FileNumber × DescriptorFlags) ErrorCode → ℕ → List ℕ → Outcome ℕ
write_to d (Ok f) p bytes = put_bytes d f.0 p bytes
write_to d (Err c) p bytes = (Err c, d)

abbrev pub write_at : Disk → ℕ → ℕ → List ℕ → Outcome ℕ
write_at d h p bytes = write_to d (file_for d.slots h write) p bytes

abbrev pub append_to : Disk → Result (FileNumber × DescriptorFlags) ErrorCode → List ℕ → Outcome ℕ
append_to d (Ok f) bytes = put_bytes d f.0 (length (content d f.0)) bytes
append_to d (Err c) bytes = (Err c, d)

abbrev pub append : Disk → ℕ → List ℕ → Outcome ℕ
append d h bytes = append_to d (file_for d.slots h write) bytes

abbrev pub stat_node : Disk → NodeOf → DescriptorFlags → Result Stat ErrorCode
stat_node d Directory flags = Ok (record { filetype = DirectoryType; flags = flags; serial = 0; size = 0 })
stat_node d (File f) flags =
    if nat_le (length d.files.names) f.number then Err BadDescriptor
    else Ok (record { filetype = RegularFile; flags = flags; serial = f.number + 1; size = length (content d f) })

abbrev pub stat_of : Disk → Result Opened ErrorCode → Result Stat ErrorCode
stat_of d (Ok opened) = stat_node d opened.node opened.flags
stat_of d (Err c) = Err c

abbrev pub stat : Disk → ℕ → Result Stat ErrorCode
stat d h = stat_of d (opened_at d.slots h)

-- what is opened now stands behind the first free handle
abbrev pub give : {X : Type 0} → Disk → Open → (Handle → X) → Option ℕ → Outcome X
give d o made None = (Err InsufficientSpace, d)
give d o made (Some h) = (Ok (made (record { 0 = h })), with_slots d (slice_set d.slots h o))

abbrev pub stream_from : Disk → Result (FileNumber × DescriptorFlags) ErrorCode → ℕ → Outcome FileStream
stream_from d (Ok f) p = give d (Stream (record { file = f.0; flags = f.1; place = p })) (λ h. record { handle = h }) (first_free d.slots)
stream_from d (Err c) p = (Err c, d)

abbrev pub read_via_stream : Disk → ℕ → ℕ → Outcome FileStream
read_via_stream d h p = stream_from d (file_for d.slots h read) p

-- an answer of a stream, the buffer and what there is after it
abbrev pub Taking : Type 0 → Type 0
Taking S = Result ℕ StreamError × List ℕ × S

-- of the bytes from p on, all for which there is room are taken; without any the stream has ended
abbrev pub taking : {S : Type 0} → List ℕ → ℕ → List ℕ → S → (ℕ → S) → Taking S
taking bytes p buffer before after =
    if length buffer == 0 then (Ok 0, buffer, before)
    else if nat_le (length bytes) p then (Err Closed, buffer, before)
    else let k = min (length buffer) (length bytes - p) in (Ok k, filled (drop p bytes) k buffer, after k)

abbrev pub moved : StreamOf → ℕ → StreamOf
moved stream k = record { file = stream.file; flags = stream.flags; place = stream.place + k }

abbrev pub take_file : Disk → ℕ → StreamOf → List ℕ → Taking Disk
take_file d h stream buffer = taking (content d stream.file) stream.place buffer d (λ k. with_slots d (slice_set d.slots h (Stream (moved stream k))))
