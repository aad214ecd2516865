-- What is open from the start keeps the law.
use Rattle.std.proofs.Common.{◌≡◌, ℕ, zero, suc, false, [], ◌∷◌, map, length, get_or, replicate, None, sym, refl, ap, ◌∙◌, subst, arith}
use Rattle.host.specs.declared.answers.Start.{Start}
use Rattle.host.specs.declared.answers.Preopen.{Preopen}
use Rattle.host.specs.Meaning.{Meaning}
use Rattle.host.specs.Laws.{Started, preopens, given, among, Apart, Preopened}
use Rattle.handles.specs.declared.open.Open.TheVariants.{Free}
use Rattle.handles.specs.Lives.{lives, live_of}
use Rattle.handles.specs.Starts.{started, Gives}
use Rattle.memory_host.specs.State.{State, means, with_disk}
use Rattle.memory_files.specs.Disk.{with_slots}

all_free : (k n : ℕ) → get_or (replicate k Free) n Free ≡ Free
all_free zero n = refl
all_free (suc k) zero = refl
all_free (suc k) (suc n) = all_free k n

-- behind the first four, none is live
rest : (h : ℕ) → among h (0 ∷ 1 ∷ 2 ∷ 3 ∷ []) ≡ false → lives started h ≡ None
rest zero e = cc
rest (suc zero) e = cc
rest (suc (suc zero)) e = cc
rest (suc (suc (suc zero))) e = cc
rest (suc (suc (suc (suc h)))) e = ap live_of (all_free 76 h)

pub start_law : (s : State) (r : Start) → Gives r → Started (means s) r (means (with_disk s (with_slots s.disk started)))
start_law s r g =
    let m : Meaning = means (with_disk s (with_slots s.disk started)) in
    let last : map (λ (p : Preopen). p.handle.0) (preopens r) ≡ 3 ∷ [] = ap (map (λ (p : Preopen). p.handle.0)) g.3.1 ∙ ap (λ h. h ∷ []) g.3.2 in
    let handles : given r ≡ 0 ∷ 1 ∷ 2 ∷ 3 ∷ [] = λ i. g.0.0 i ∷ g.1.0 i ∷ g.2.0 i ∷ last i in
    record {
      stdin = (_, (ap (lives started) g.0.0, refl));
      stdout = (_, (ap (lives started) g.1.0, refl));
      stderr = (_, (ap (lives started) g.2.0, refl));
      directories = subst (λ ps. Preopened m ps) (sym g.3.1) ((_, (ap (lives started) g.3.2, refl), refl), omega (arith, ap length g.3.3), tt);
      few = omega (arith, ap length g.3.1);
      apart = subst Apart (sym handles) (refl, (refl, (refl, (refl, tt))));
      only = λ h e. rest h (ap (among h) (sym handles) ∙ e);
      rest = refl;
    }
