-- The answers on streams keep the laws.
use Rattle.std.proofs.Common.{◌≡◌, ℕ, ◌+◌, ◌-◌, ◌<◌, min, eqb, ltb, leb, List, ◌++◌, length, drop, set, Some, None, Ok, Err, Option, Result, sym, refl, ap, ◌∙◌, ⊎_elim, arith}
use Rattle.std.proofs.lemmas.List.{drop_all, length-drop}
use Rattle.std.proofs.lemmas.Bool.{cond_both, cond-true, cond-false, cases_eq, eq-eqb, ne_eqb, eqb-true, eqb-false, leb-true, leb-false}
use Rattle.errno.specs.declared.ErrorCode.{ErrorCode}
use Rattle.types.specs.declared.flags.DescriptorFlags.{DescriptorFlags}
use Rattle.types.specs.Words.{read}
use Rattle.host.specs.declared.token.FileStream.{FileStream}
use Rattle.host.specs.Meaning.{Live, Meaning, Source, queue, place, file, input, output, waits, with_live, with_waiting, at}
use Rattle.host.specs.Laws.{ReadViaStream, ReadStream, WriteStream, DropHandle, Stands, stream_on, took, filled}
use Rattle.handles.specs.declared.file_number.FileNumber.{FileNumber}
use Rattle.handles.specs.declared.open.Open.{Open}
use Rattle.handles.specs.declared.open.Open.TheVariants.{Free, Node, Stream, Stdin, Stdout, Stderr}
use Rattle.handles.specs.Slots.{open_at, file_for, first_free}
use Rattle.handles.specs.Lives.{live_of}
use Rattle.memory_host.specs.State.{State, means, with_disk}
use Rattle.memory_files.specs.Disk.{content, with_slots, Outcome as DiskOutcome}
use Rattle.memory_files.specs.Askings.{give, stream_from, read_via_stream, Taking, taking, moved}
use Rattle.memory_host.specs.Streams.{Outcome, with_input, take_from, read_stream, output_to, write_stream, drop_handle}
use Rattle.memory_host.proofs.Slots.{for_live, free_live, inside}
use Rattle.memory_host.proofs.Changes.{slot_put, slot_dropped, input_left, stdout_taken, stderr_taken}

pub via_law : (s : State) (h p : ℕ) → ReadViaStream (means s) h p (read_via_stream s.disk h p).0 (means (with_disk s (read_via_stream s.disk h p).1))
via_law s h p = go (file_for s.disk.slots h read) refl
  where
    P : DiskOutcome FileStream → Type 0
    P out = ReadViaStream (means s) h p out.0 (means (with_disk s out.1))

    given : (f : FileNumber × DescriptorFlags) → file_for s.disk.slots h read ≡ Ok f → (q : Option ℕ) → first_free s.disk.slots ≡ q → P (give s.disk (Stream (record { file = f.0; flags = f.1; place = p })) (λ x. record { handle = x }) q)
    given f e None eq = refl
    given f e (Some x) eq =
        let l = free_live s.disk.slots x eq in
        (record { kind = file; node = f.0.number; flags = f.1 }, (for_live s.disk.slots h read f e, refl), l.1, slot_put s x (Stream (record { file = f.0; flags = f.1; place = p })) l.0)

    go : (g : Result (FileNumber × DescriptorFlags) ErrorCode) → file_for s.disk.slots h read ≡ g → P (stream_from s.disk g p)
    go (Ok f) e = given f e (first_free s.disk.slots) refl
    go (Err c) e = refl

-- to put what is there already changes nothing
same_at : {X : Type 0} (f : ℕ → X) (k : ℕ) (v : X) → f k ≡ v → (n : ℕ) → f n ≡ at k v f n
same_at f k v e n = ⊎_elim
    (λ (t : n ≡ k). ap f t ∙ e ∙ sym (cond-true (eqb n k) v (f n) (eq-eqb n k t)))
    (λ (t : n ≡ k → ⊥). sym (cond-false (eqb n k) v (f n) (ne_eqb n k t)))
    (cases_eq n k)

live_same : (m : Meaning) (h : ℕ) (l : Option Live) → m.live h ≡ l → m ≡ with_live m h l
live_same m h l e = λ i. record { live = λ x. same_at m.live h l e x i; filetype = m.filetype; serial = m.serial; content = m.content; listing = m.listing; waiting = m.waiting; taken = m.taken }

waiting_same : (m : Meaning) (node : ℕ) (bytes : List ℕ) → m.waiting node ≡ bytes → m ≡ with_waiting m node bytes
waiting_same m node bytes e = λ i. record { live = m.live; filetype = m.filetype; serial = m.serial; content = m.content; listing = m.listing; waiting = λ x. same_at m.waiting node bytes e x i; taken = m.taken }

-- the bytes from p on are what waits, and what is left after k were taken is what the law says
taken_law : {S : Type 0} (left : S → Meaning) (before : S) (after : ℕ → S) (h p : ℕ) (buffer bytes : List ℕ) (l : Live) (source : Source) → Stands (left before) h (input source) l → waits (left before) l.node source ≡ drop p bytes → left before ≡ took (left before) h l source 0 → ((k : ℕ) → left (after k) ≡ took (left before) h l source k) → ReadStream (left before) h buffer (taking bytes p buffer before after).0 (taking bytes p buffer before after).1 (left (taking bytes p buffer before after).2)
taken_law {S} left before after h p buffer bytes l source st w none some =
    cond_both (eqb (length buffer) 0) _ _ P
    (λ e. (l, source, st, omega arith, (λ more. absurd (omega (arith, eqb-true (length buffer) 0 e, more))), refl, none))
    (λ e. let full : 0 < length buffer = (let ne = eqb-false (length buffer) 0 e in omega (arith, ne)) in
    cond_both (leb (length bytes) p) _ _ P
    (λ t. (l, source, st, full, w ∙ drop_all p bytes (leb-true (length bytes) p t), refl, refl))
    (λ t.
    let d = length-drop p bytes in
    let wl = ap length w in
    let more = leb-false (length bytes) p t in
    (l, source, st, omega (arith, d, wl), (λ (x : 0 < length buffer). omega (arith, more, full)), ap (λ b. filled b (min (length buffer) (length bytes - p)) buffer) (sym w), some (min (length buffer) (length bytes - p)))))
  where
    P : Taking S → Type 0
    P out = ReadStream (left before) h buffer out.0 out.1 (left out.2)

pub stream_law : (s : State) (h : ℕ) (buffer : List ℕ) → ReadStream (means s) h buffer (read_stream s h buffer).0 (read_stream s h buffer).1 (means (read_stream s h buffer).2)
stream_law s h buffer = go (open_at s.disk.slots h) refl
  where
    go : (o : Open) → open_at s.disk.slots h ≡ o → ReadStream (means s) h buffer (take_from s h o buffer).0 (take_from s h o buffer).1 (means (take_from s h o buffer).2)
    go Free e = (refl, refl)
    go (Node opened) e = (refl, refl)
    go (Stream stream) e =
        let l : Live = record { kind = input (place stream.place); node = stream.file.number; flags = stream.flags } in
        let live : (means s).live h ≡ Some l = ap live_of e in
        let still : (means s).live h ≡ Some (stream_on l (stream.place + 0)) = live ∙ ap (λ p. Some (stream_on l p)) (let z : stream.place ≡ stream.place + 0 = omega arith in z) in
        taken_law (λ d. means (with_disk s d)) s.disk (λ k. with_slots s.disk (set s.disk.slots h (Stream (moved stream k)))) h stream.place buffer (content s.disk stream.file) l (place stream.place) (live, refl) refl
        (live_same (means s) h (Some (stream_on l (stream.place + 0))) still)
        (λ k. slot_put s h (Stream (moved stream k)) (inside s.disk.slots h (Stream stream) e refl))
    go Stdin e =
        let l : Live = record { kind = input queue; node = 9; flags = record { 0 = 0 } } in
        taken_law means s (λ k. with_input s (drop k s.input)) h 0 buffer s.input l queue (ap live_of e, refl) refl (waiting_same (means s) 9 s.input refl) (λ k. input_left s (drop k s.input))
    go Stdout e = (refl, refl)
    go Stderr e = (refl, refl)

pub output_law : (s : State) (h : ℕ) (piece : List ℕ) → WriteStream (means s) h piece (write_stream s h piece).0 (means (write_stream s h piece).1)
output_law s h piece = go (open_at s.disk.slots h) refl
  where
    P : Outcome (Unit {0}) → Type 0
    P out = WriteStream (means s) h piece out.0 (means out.1)

    go : (o : Open) → open_at s.disk.slots h ≡ o → P (output_to s o piece)
    go Free e = refl
    go (Node opened) e = refl
    go (Stream stream) e = refl
    go Stdin e = refl
    go Stdout e = cond_both (ltb 8192 (length s.stdout + length piece)) _ _ P (λ t. refl) (λ t. (record { kind = output; node = 10; flags = record { 0 = 0 } }, (ap live_of e, refl), stdout_taken s (s.stdout ++ piece)))
    go Stderr e = cond_both (ltb 8192 (length s.stderr + length piece)) _ _ P (λ t. refl) (λ t. (record { kind = output; node = 11; flags = record { 0 = 0 } }, (ap live_of e, refl), stderr_taken s (s.stderr ++ piece)))

pub drop_law : (s : State) (h : ℕ) → DropHandle (means s) h (means (with_disk s (drop_handle s.disk h)))
drop_law s h = slot_dropped s h
