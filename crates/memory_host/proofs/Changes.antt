-- What a change of the state changes in its meaning.
use Rattle.std.proofs.Common.{◌≡◌, ℕ, ◌<◌, cond, eqb, List, [], length, set, None, arith}
use Rattle.std.proofs.lemmas.Bool.Decides.{nat_tests}
use Rattle.host.specs.Meaning.{with_live, with_content as with_bytes, with_waiting, with_taken}
use Rattle.handles.specs.declared.open.Open.{Open}
use Rattle.handles.specs.declared.file_number.FileNumber.{FileNumber}
use Rattle.handles.specs.Lives.{live_of}
use Rattle.memory_host.specs.State.{State, means, with_disk}
use Rattle.memory_files.specs.Disk.{with_content, with_slots}
use Rattle.memory_host.specs.Streams.{with_input, with_outputs, drop_handle}
use Rattle.memory_host.proofs.Slots.{set_index, put_live, drop_live}

pub slot_put : (s : State) (h : ℕ) (o : Open) → h < length s.disk.slots → means (with_disk s (with_slots s.disk (set s.disk.slots h o))) ≡ with_live (means s) h (live_of o)
slot_put s h o l = λ i. record { live = λ x. put_live s.disk.slots h o l x i; filetype = (means s).filetype; serial = (means s).serial; content = (means s).content; listing = (means s).listing; waiting = (means s).waiting; taken = (means s).taken }

pub slot_dropped : (s : State) (h : ℕ) → means (with_disk s (drop_handle s.disk h)) ≡ with_live (means s) h None
slot_dropped s h = λ i. record { live = λ x. drop_live s.disk.slots h x i; filetype = (means s).filetype; serial = (means s).serial; content = (means s).content; listing = (means s).listing; waiting = (means s).waiting; taken = (means s).taken }

pub bytes_put : (s : State) (f : FileNumber) (bytes : List ℕ) → f.number < length s.disk.files.contents → means (with_disk s (with_content s.disk f bytes)) ≡ with_bytes (means s) f.number bytes
bytes_put s f bytes l = λ i. record { live = (means s).live; filetype = (means s).filetype; serial = (means s).serial; content = λ n. set_index s.disk.files.contents f.number bytes [] n l i; listing = (means s).listing; waiting = (means s).waiting; taken = (means s).taken }

input_at : (new old : List ℕ) (n : ℕ) → cond (eqb n 9) new [] ≡ cond (eqb n 9) new (cond (eqb n 9) old [])
input_at new old n = grind (arith, nat_tests)

pub input_left : (s : State) (bytes : List ℕ) → means (with_input s bytes) ≡ with_waiting (means s) 9 bytes
input_left s bytes = λ i. record { live = (means s).live; filetype = (means s).filetype; serial = (means s).serial; content = (means s).content; listing = (means s).listing; waiting = λ n. input_at bytes s.input n i; taken = (means s).taken }

out_at : (new old other : List ℕ) (n : ℕ) → cond (eqb n 10) new (cond (eqb n 11) other []) ≡ cond (eqb n 10) new (cond (eqb n 10) old (cond (eqb n 11) other []))
out_at new old other n = grind (arith, nat_tests)

err_at : (new old other : List ℕ) (n : ℕ) → cond (eqb n 10) other (cond (eqb n 11) new []) ≡ cond (eqb n 11) new (cond (eqb n 10) other (cond (eqb n 11) old []))
err_at new old other n = grind (arith, nat_tests)

pub stdout_taken : (s : State) (bytes : List ℕ) → means (with_outputs s bytes s.stderr) ≡ with_taken (means s) 10 bytes
stdout_taken s bytes = λ i. record { live = (means s).live; filetype = (means s).filetype; serial = (means s).serial; content = (means s).content; listing = (means s).listing; waiting = (means s).waiting; taken = λ n. out_at bytes s.stdout s.stderr n i }

pub stderr_taken : (s : State) (bytes : List ℕ) → means (with_outputs s s.stdout bytes) ≡ with_taken (means s) 11 bytes
stderr_taken s bytes = λ i. record { live = (means s).live; filetype = (means s).filetype; serial = (means s).serial; content = (means s).content; listing = (means s).listing; waiting = (means s).waiting; taken = λ n. err_at bytes s.stderr s.stdout n i }
