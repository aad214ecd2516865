-- Whatever is answered as the definitions say keeps the laws.
use Rattle.std.proofs.Common.{◌≡◌, ℕ, List, Result, sym, subst}
use Rattle.errno.specs.declared.ErrorCode.{ErrorCode}
use Rattle.types.specs.declared.flags.DescriptorFlags.{DescriptorFlags}
use Rattle.host.specs.declared.answers.DirEntry.{DirEntry}
use Rattle.host.specs.declared.answers.Start.{Start}
use Rattle.host.specs.declared.answers.Stat.{Stat}
use Rattle.host.specs.declared.answers.StreamError.{StreamError}
use Rattle.host.specs.declared.token.FileStream.{FileStream}
use Rattle.host.specs.declared.token.Fresh.{Fresh}
use Rattle.host.specs.Laws.{ReadAt, WriteAt, Append, StatOf, ReadViaStream, ReadStream, WriteStream, DropHandle, OpenAt, EntryCount, EntryAt, Started}
use Rattle.handles.specs.declared.open.Open.{Open}
use Rattle.handles.specs.Starts.{started, Gives}
use Rattle.memory_files.specs.declared.MemoryDisk.{MemoryDisk}
use Rattle.memory_files.specs.Disk.{disk, with_slots, Outcome}
use Rattle.memory_files.specs.Askings as files
use Rattle.memory_files.specs.Askings.{Taking}
use Rattle.memory_dir.specs.Askings as dir
use Rattle.memory_host.specs.declared.in_memory.MemoryHost.{MemoryHost}
use Rattle.memory_host.specs.State.{State, state, means, with_disk}
use Rattle.memory_host.specs.Streams as streams
use Rattle.memory_host.proofs.Files.{read_law, write_law, append_law, stat_law, all_eight}
use Rattle.memory_host.proofs.Streams.{via_law, stream_law, output_law, drop_law}
use Rattle.memory_host.proofs.Directory.{count_law, entry_law, open_law}
use Rattle.memory_host.proofs.Starts.{start_law}

-- what holds of a definition's outcome holds of an answer that is that outcome
answered : {X : Type 0} (Law : X → Type 0) {x y : X} → x ≡ y → Law y → Law x
answered Law e law = subst Law (sym e) law

module _ (m : MemoryHost) where
  pub read_kept : (h p : ℕ) (buffer buffer' : List ℕ) (r : Result ℕ ErrorCode) → ◌≡◌ {A = Result ℕ ErrorCode × List ℕ} (r, buffer') (files.read_at (state m).disk h p buffer) → ReadAt (means (state m)) h p buffer r buffer' (means (state m))
  read_kept h p buffer buffer' r e = answered (λ (out : Result ℕ ErrorCode × List ℕ). ReadAt (means (state m)) h p buffer out.0 out.1 (means (state m))) e (read_law (state m) h p buffer)

  pub write_kept : (d : MemoryDisk) (h p : ℕ) (bytes : List ℕ) (r : Result ℕ ErrorCode) → ◌≡◌ {A = Outcome ℕ} (r, disk d) (files.write_at (state m).disk h p bytes) → WriteAt (means (state m)) h p bytes r (means (with_disk (state m) (disk d)))
  write_kept d h p bytes r e = answered (λ (out : Outcome ℕ). WriteAt (means (state m)) h p bytes out.0 (means (with_disk (state m) out.1))) e (write_law (state m) h bytes (all_eight m) p)

  pub append_kept : (d : MemoryDisk) (h : ℕ) (bytes : List ℕ) (r : Result ℕ ErrorCode) → ◌≡◌ {A = Outcome ℕ} (r, disk d) (files.append (state m).disk h bytes) → Append (means (state m)) h bytes r (means (with_disk (state m) (disk d)))
  append_kept d h bytes r e = answered (λ (out : Outcome ℕ). Append (means (state m)) h bytes out.0 (means (with_disk (state m) out.1))) e (append_law (state m) h bytes (all_eight m))

  pub stat_kept : (h : ℕ) (r : Result Stat ErrorCode) → r ≡ files.stat (state m).disk h → StatOf (means (state m)) h r (means (state m))
  stat_kept h r e = answered (λ (out : Result Stat ErrorCode). StatOf (means (state m)) h out (means (state m))) e (stat_law (state m) h (all_eight m))

  pub via_kept : (d : MemoryDisk) (h p : ℕ) (r : Result FileStream ErrorCode) → ◌≡◌ {A = Outcome FileStream} (r, disk d) (files.read_via_stream (state m).disk h p) → ReadViaStream (means (state m)) h p r (means (with_disk (state m) (disk d)))
  via_kept d h p r e = answered (λ (out : Outcome FileStream). ReadViaStream (means (state m)) h p out.0 (means (with_disk (state m) out.1))) e (via_law (state m) h p)

  pub stream_kept : (n : MemoryHost) (h : ℕ) (buffer buffer' : List ℕ) (r : Result ℕ StreamError) → ◌≡◌ {A = Taking State} (r, buffer', state n) (streams.read_stream (state m) h buffer) → ReadStream (means (state m)) h buffer r buffer' (means (state n))
  stream_kept n h buffer buffer' r e = answered (λ (out : Taking State). ReadStream (means (state m)) h buffer out.0 out.1 (means out.2)) e (stream_law (state m) h buffer)

  pub output_kept : (n : MemoryHost) (h : ℕ) (piece : List ℕ) (r : Result (Unit {0}) ErrorCode) → ◌≡◌ {A = streams.Outcome (Unit {0})} (r, state n) (streams.write_stream (state m) h piece) → WriteStream (means (state m)) h piece r (means (state n))
  output_kept n h piece r e = answered (λ (out : streams.Outcome (Unit {0})). WriteStream (means (state m)) h piece out.0 (means out.1)) e (output_law (state m) h piece)

  pub drop_kept : (slots : List Open) (h : ℕ) → slots ≡ (streams.drop_handle (state m).disk h).slots → DropHandle (means (state m)) h (means (with_disk (state m) (with_slots (state m).disk slots)))
  drop_kept slots h e = answered (λ (out : List Open). DropHandle (means (state m)) h (means (with_disk (state m) (with_slots (state m).disk out)))) e (drop_law (state m) h)

  pub open_kept : (d : MemoryDisk) (h oflags : ℕ) (path : List ℕ) (flags : DescriptorFlags) (r : Result Fresh ErrorCode) → dir.OpenAt (state m).disk h path oflags flags r (disk d) → OpenAt (means (state m)) h oflags r (means (with_disk (state m) (disk d)))
  open_kept d h oflags path flags r o = open_law (state m) h oflags path flags r (disk d) (all_eight m) o

  pub count_kept : (h : ℕ) (r : Result ℕ ErrorCode) → r ≡ dir.entry_count (state m).disk h → EntryCount (means (state m)) h r (means (state m))
  count_kept h r e = answered (λ (out : Result ℕ ErrorCode). EntryCount (means (state m)) h out (means (state m))) e (count_law (state m) h)

  pub entry_kept : (h i : ℕ) (r : Result DirEntry ErrorCode) → dir.EntryAt (state m).disk h i r → EntryAt (means (state m)) h i r (means (state m))
  entry_kept h i r told = entry_law (state m) h i r told

  pub start_kept : (slots : List Open) (r : Start) → Gives r × (slots ≡ started) → Started (means (state m)) r (means (with_disk (state m) (with_slots (state m).disk slots)))
  start_kept slots r e = answered (λ (out : List Open). Started (means (state m)) r (means (with_disk (state m) (with_slots (state m).disk out)))) e.1 (start_law (state m) r e.0)
