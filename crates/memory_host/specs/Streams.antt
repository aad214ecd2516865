-- What the memory host answers to an asking of a stream, and what it holds then.
use Rattle.std.specs.Prelude.{ℕ, ◌+◌, if◌then◌else◌, List, ◌++◌, length, drop, Ok, Err, Result, nat_lt, slice_set}
use Rattle.errno.specs.declared.ErrorCode.{ErrorCode}
use Rattle.errno.specs.declared.ErrorCode.TheVariants.{BadDescriptor, InsufficientSpace}
use Rattle.host.specs.declared.answers.StreamError.TheVariants.{LastOperationFailed}
use Rattle.handles.specs.declared.open.Open.{Open}
use Rattle.handles.specs.declared.open.Open.TheVariants.{Free, Node, Stream, Stdin, Stdout, Stderr}
use Rattle.handles.specs.Slots.{open_at}
use Rattle.memory_files.specs.Disk.{Disk, with_slots}
use Rattle.memory_files.specs.Askings.{Taking, taking, take_file}
use Rattle.memory_host.specs.State.{State, with_disk}

abbrev pub Outcome : Type 0 → Type 0
Outcome X = Result X ErrorCode × State

abbrev pub with_input : State → List ℕ → State
with_input s bytes = record { disk = s.disk; input = bytes; stdout = s.stdout; stderr = s.stderr }

abbrev pub take_input : State → List ℕ → Taking State
take_input s buffer = taking s.input 0 buffer s (λ k. with_input s (drop k s.input))

-- what is taken from a file's stream changes no more than the disk
abbrev pub on_disk : State → Taking Disk → Taking State
on_disk s out = (out.0, out.1, with_disk s out.2)

abbrev pub take_from : State → ℕ → Open → List ℕ → Taking State
take_from s h Free buffer = (Err (LastOperationFailed BadDescriptor), buffer, s)
take_from s h (Node opened) buffer = (Err (LastOperationFailed BadDescriptor), buffer, s)
take_from s h (Stream stream) buffer = on_disk s (take_file s.disk h stream buffer)
take_from s h Stdin buffer = take_input s buffer
take_from s h Stdout buffer = (Err (LastOperationFailed BadDescriptor), buffer, s)
take_from s h Stderr buffer = (Err (LastOperationFailed BadDescriptor), buffer, s)

abbrev pub read_stream : State → ℕ → List ℕ → Taking State
read_stream s h buffer = take_from s h (open_at s.disk.slots h) buffer

abbrev pub with_outputs : State → List ℕ → List ℕ → State
with_outputs s stdout stderr = record { disk = s.disk; input = s.input; stdout = stdout; stderr = stderr }

-- an output takes at most 8,192 bytes
abbrev pub output_takes : List ℕ → List ℕ → State → State → Outcome (Unit {0})
output_takes taken piece s after =
    if nat_lt 8192 (length taken + length piece) then (Err InsufficientSpace, s)
    else (Ok tt, after)

abbrev pub output_to : State → Open → List ℕ → Outcome (Unit {0})
output_to s Free piece = (Err BadDescriptor, s)
output_to s (Node opened) piece = (Err BadDescriptor, s)
output_to s (Stream stream) piece = (Err BadDescriptor, s)
output_to s Stdin piece = (Err BadDescriptor, s)
output_to s Stdout piece = output_takes s.stdout piece s (with_outputs s (s.stdout ++ piece) s.stderr)
output_to s Stderr piece = output_takes s.stderr piece s (with_outputs s s.stdout (s.stderr ++ piece))

abbrev pub write_stream : State → ℕ → List ℕ → Outcome (Unit {0})
write_stream s h piece = output_to s (open_at s.disk.slots h) piece

abbrev pub drop_handle : Disk → ℕ → Disk
drop_handle d h = with_slots d (slice_set d.slots h Free)
