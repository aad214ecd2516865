-- What the grudging host answers keeps the laws.
use Rattle.std.proofs.Common.{◌≡◌, ℕ, zero, suc, ◌-◌, ◌<◌, ◌≤◌, Bool, true, false, cond, eqb, List, [], ◌∷◌, map, length, get_or, drop, set, replicate, Some, None, Ok, Err, sym, refl, ap, ◌∙◌, subst, ⊎_elim, arith}
use Rattle.std.proofs.lemmas.List.{get_or_past, drop_all, drop-replicate, length-replicate}
use Rattle.std.proofs.lemmas.Bool.{cond_both, cond-true, cond-false, cases_eq, eq-eqb, ne_eqb}
use Rattle.std.proofs.lemmas.Bool.Decides.{nat_tests}
use Rattle.errno.specs.declared.ErrorCode.{ErrorCode}
use Rattle.host.specs.declared.answers.Start.{Start}
use Rattle.host.specs.declared.answers.Preopen.{Preopen}
use Rattle.host.specs.declared.answers.StreamError.TheVariants.{Closed}
use Rattle.host.specs.Meaning.{Live, Meaning, queue, input, output, with_waiting, at}
use Rattle.host.specs.Laws.{ReadStream, DropHandle, EntryAt, EntryIs, entries_of, filled, Started, preopens, given, among, Apart, Preopened}
use Rattle.host_tests.specs.declared.grudging.Grudging.{Grudging}
use Rattle.host_tests.specs.Grudging.{meaning_of, live_if}

-- standard input
abbrev stdin : Live
stdin = record { kind = input queue; node = 0; flags = record { 0 = 0 } }

stdin_live : (g : Grudging) (h : ℕ) → h ≡ 0 → get_or g.live 0 false ≡ true → (meaning_of g).live h ≡ Some stdin
stdin_live g h z o = ap (meaning_of g).live z ∙ ap (live_if 0) o

-- what waits there changes nowhere else
waiting_at : (new old : List ℕ) (n : ℕ) → cond (eqb n 0) new [] ≡ cond (eqb n 0) new (cond (eqb n 0) old [])
waiting_at new old n = grind (arith, nat_tests)

abbrev with_zeros : Grudging → ℕ → Grudging
with_zeros g n = record { code = g.code; live = g.live; waiting = n }

zeros_left : (g : Grudging) (n : ℕ) → meaning_of (with_zeros g n) ≡ with_waiting (meaning_of g) 0 (replicate n 0)
zeros_left g n = λ i. record { live = (meaning_of g).live; filetype = (meaning_of g).filetype; serial = (meaning_of g).serial; content = (meaning_of g).content; listing = (meaning_of g).listing; waiting = λ x. waiting_at (replicate n 0) (replicate g.waiting 0) x i; taken = (meaning_of g).taken }

-- a buffer without room, an input without bytes, and one byte
pub read_none : (g : Grudging) (h : ℕ) (buffer : List ℕ) → h ≡ 0 → get_or g.live 0 false ≡ true → length buffer ≡ 0 → ReadStream (meaning_of g) h buffer (Ok 0) buffer (meaning_of g)
read_none g h buffer z o e = (stdin, queue, (stdin_live g h z o, refl), omega arith, (λ (more : 0 < length buffer). absurd (omega (arith, e, more))), refl, zeros_left g g.waiting)

pub read_closed : (g : Grudging) (h : ℕ) (buffer : List ℕ) → h ≡ 0 → get_or g.live 0 false ≡ true → 0 < length buffer → g.waiting ≡ 0 → ReadStream (meaning_of g) h buffer (Err Closed) buffer (meaning_of g)
read_closed g h buffer z o full e = (stdin, queue, (stdin_live g h z o, refl), full, ap (λ n. replicate n 0) e, refl, refl)

one_zero : (n : ℕ) (buffer : List ℕ) → 0 < n → 0 < length buffer → set buffer 0 0 ≡ filled (replicate n 0) 1 buffer
one_zero zero buffer w full = absurd (omega (arith, w))
one_zero (suc n) [] w full = absurd (omega (arith, full))
one_zero (suc n) (b ∷ buffer) w full = refl

pub read_one : (g : Grudging) (h : ℕ) (buffer : List ℕ) → h ≡ 0 → get_or g.live 0 false ≡ true → 0 < length buffer → 0 < g.waiting → ReadStream (meaning_of g) h buffer (Ok 1) (set buffer 0 0) (meaning_of (with_zeros g (g.waiting - 1)))
read_one g h buffer z o full w = (
  stdin,
  queue,
  (stdin_live g h z o, refl),
  (let l = length-replicate {A = ℕ} g.waiting 0 in omega (arith, l, full, w)),
  (λ (more : 0 < length buffer). omega arith),
  one_zero g.waiting buffer w full,
  zeros_left g (g.waiting - 1) ∙ ap (with_waiting (meaning_of g) 0) (sym (drop-replicate 1 g.waiting 0)),
)

-- a handle past the three was not live before
pub drop_past : (g : Grudging) (h : ℕ) → length g.live ≤ h → DropHandle (meaning_of g) h (meaning_of g)
drop_past g h l = λ i. record { live = λ x. same x i; filetype = (meaning_of g).filetype; serial = (meaning_of g).serial; content = (meaning_of g).content; listing = (meaning_of g).listing; waiting = (meaning_of g).waiting; taken = (meaning_of g).taken }
  where
    same : (x : ℕ) → (meaning_of g).live x ≡ at h None (meaning_of g).live x
    same x = ⊎_elim
        (λ (e : x ≡ h). ap (live_if x) (get_or_past g.live x false (omega (arith, e, l))) ∙ sym (cond-true (eqb x h) None ((meaning_of g).live x) (eq-eqb x h e)))
        (λ (e : x ≡ h → ⊥). sym (cond-false (eqb x h) None ((meaning_of g).live x) (ne_eqb x h e)))
        (cases_eq x h)

-- a stream has no entries
no_entries : (m : Meaning) (h : ℕ) (b : Bool) → entries_of m (live_if h b) ≡ []
no_entries m h false = refl
no_entries m h true = cond_both (eqb h 0) (input queue) output (λ k. entries_of m (Some (record { kind = k; node = h; flags = record { 0 = 0 } })) ≡ []) (λ e. refl) (λ e. refl)

pub entry_law : (g : Grudging) (h i : ℕ) (c : ErrorCode) → EntryAt (meaning_of g) h i (Err c) (meaning_of g)
entry_law g h i c = (subst (λ es. EntryIs es (Err c)) (sym (ap (drop i) (no_entries (meaning_of g) h (get_or g.live h false)) ∙ drop_all i [] (omega arith))) tt, refl)

-- behind the first three, none is live
rest : (h : ℕ) → among h (0 ∷ 1 ∷ 2 ∷ []) ≡ false → live_if h (get_or (true ∷ true ∷ true ∷ []) h false) ≡ None
rest zero e = cc
rest (suc zero) e = cc
rest (suc (suc zero)) e = cc
rest (suc (suc (suc h))) e = refl

abbrev started : Grudging → Grudging
started g = record { code = g.code; live = true ∷ true ∷ true ∷ []; waiting = g.waiting }

pub start_law : (g : Grudging) (r : Start) → r.stdin.handle.0 ≡ 0 → r.stdout.handle.0 ≡ 1 → r.stderr.handle.0 ≡ 2 → preopens r ≡ [] → Started (meaning_of g) r (meaning_of (started g))
start_law g r in_is out_is err_is empty =
    let m : Meaning = meaning_of (started g) in
    let handles : given r ≡ 0 ∷ 1 ∷ 2 ∷ [] = λ i. in_is i ∷ out_is i ∷ err_is i ∷ map (λ (p : Preopen). p.handle.0) (empty i) in
    record {
      stdin = (_, (ap m.live in_is, refl));
      stdout = (_, (ap m.live out_is, refl));
      stderr = (_, (ap m.live err_is, refl));
      directories = subst (λ ps. Preopened m ps) (sym empty) tt;
      few = omega (arith, ap length empty);
      apart = subst Apart (sym handles) (refl, (refl, (refl, tt)));
      only = λ h e. rest h (ap (among h) (sym handles) ∙ e);
      rest = refl;
    }
