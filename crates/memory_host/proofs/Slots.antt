-- What is live behind a handle, before and after a slot changes.
use Rattle.std.proofs.Common.{◌≡◌, ℕ, ◌<◌, ◌≤◌, Bool, true, false, cond, eqb, List, length, get_or, set, Some, None, Ok, Err, Option, Result, sym, refl, ap, ◌∙◌, ⊎_elim, arith}
use Rattle.std.proofs.lemmas.List.{get_or-set_same, get_or-set_other, get_or_past, set_past}
use Rattle.std.proofs.lemmas.List.Quantifiers.{position-Some}
use Rattle.std.proofs.lemmas.Iterator.Adapters.{position_from-zero}
use Rattle.std.proofs.lemmas.Bool.{cases_eq, cases_lt, cases_Bool, eq-eqb, ne_eqb, cond-true, cond-false}
use Rattle.errno.specs.declared.ErrorCode.{ErrorCode}
use Rattle.types.specs.declared.flags.DescriptorFlags.{DescriptorFlags}
use Rattle.types.specs.Words.{contains}
use Rattle.host.specs.Meaning.{Live, file, directory, at}
use Rattle.handles.specs.declared.file_number.FileNumber.{FileNumber}
use Rattle.handles.specs.declared.open.Node.{Node as NodeOf}
use Rattle.handles.specs.declared.open.Node.TheVariants.{Directory, File}
use Rattle.handles.specs.declared.open.Opened.{Opened}
use Rattle.handles.specs.declared.open.Open.{Open}
use Rattle.handles.specs.declared.open.Open.TheVariants.{Free, Node, Stream, Stdin, Stdout, Stderr}
use Rattle.handles.specs.Slots.{open_at, opened_of, opened_at, directory_of, directory_at, file_of, file_at, for_use, file_for, is_free, first_free}
use Rattle.handles.specs.Lives.{live_of, lives, standing, node_kind, node_number, directory_node}

-- a list that is changed at one index
pub set_index : {X : Type 0} (xs : List X) (k : ℕ) (v d : X) (n : ℕ) → k < length xs → get_or (set xs k v) n d ≡ cond (eqb n k) v (get_or xs n d)
set_index xs k v d n h = ⊎_elim
    (λ (e : n ≡ k). ap (λ i. get_or (set xs k v) i d) e ∙ get_or-set_same xs k v d h ∙ sym (cond-true (eqb n k) v (get_or xs n d) (eq-eqb n k e)))
    (λ (e : n ≡ k → ⊥). get_or-set_other xs k n v d e ∙ sym (cond-false (eqb n k) v (get_or xs n d) (ne_eqb n k e)))
    (cases_eq n k)

through : {X Y : Type 0} (f : X → Y) (b : Bool) (x y : X) → f (cond b x y) ≡ cond b (f x) (f y)
through f true x y = refl
through f false x y = refl

pub put_live : (slots : List Open) (h : ℕ) (o : Open) → h < length slots → (x : ℕ) → lives (set slots h o) x ≡ at h (live_of o) (lives slots) x
put_live slots h o l x = ap live_of (set_index slots h o Free x l) ∙ through live_of (eqb x h) o (open_at slots x)

pub drop_live : (slots : List Open) (h : ℕ) (x : ℕ) → lives (set slots h Free) x ≡ at h None (lives slots) x
drop_live slots h x = ⊎_elim
    (λ (l : h < length slots). put_live slots h Free l x)
    (λ (l : length slots ≤ h). ap (λ s. lives s x) (set_past slots h Free l) ∙ ⊎_elim
    (λ (e : x ≡ h). ap live_of (get_or_past slots x Free (omega (arith, e, l))) ∙ sym (cond-true (eqb x h) None (lives slots x) (eq-eqb x h e)))
    (λ (e : x ≡ h → ⊥). sym (cond-false (eqb x h) None (lives slots x) (ne_eqb x h e)))
    (cases_eq x h))
    (cases_lt h (length slots))

-- what is behind a handle that is not free lies in the table
pub inside : (slots : List Open) (h : ℕ) (o : Open) → open_at slots h ≡ o → is_free o ≡ false → h < length slots
inside slots h o e f = ⊎_elim
    (λ (l : h < length slots). l)
    (λ (l : length slots ≤ h). (let t : true ≡ false = ap is_free (sym (get_or_past slots h Free l) ∙ e) ∙ f in cc))
    (cases_lt h (length slots))

-- nothing is live behind the first free handle, which lies in the table
free_is : (o : Open) → is_free o ≡ true → live_of o ≡ None
free_is Free e = refl
free_is (Node opened) e = cc
free_is (Stream stream) e = cc
free_is Stdin e = cc
free_is Stdout e = cc
free_is Stderr e = cc

pub free_live : (slots : List Open) (h : ℕ) → first_free slots ≡ Some h → (h < length slots) × (lives slots h ≡ None)
free_live slots h e = let r = position-Some is_free slots h Free (position_from-zero is_free slots ∙ e) in (r.0, free_is (get_or slots h Free) r.1)

-- what is told to be behind a handle is live there
opened_is : (o : Open) (opened : Opened) → opened_of o ≡ Ok opened → live_of o ≡ standing (node_kind opened.node) (node_number opened.node) opened.flags
opened_is Free opened e = cc
opened_is (Node other) opened e = let same : other ≡ opened = cc in ap (λ (x : Opened). standing (node_kind x.node) (node_number x.node) x.flags) same
opened_is (Stream stream) opened e = cc
opened_is Stdin opened e = cc
opened_is Stdout opened e = cc
opened_is Stderr opened e = cc

pub opened_live : (slots : List Open) (h : ℕ) (opened : Opened) → opened_at slots h ≡ Ok opened → lives slots h ≡ standing (node_kind opened.node) (node_number opened.node) opened.flags
opened_live slots h opened e = opened_is (open_at slots h) opened e

file_is : (l : Option Live) (node : NodeOf) (flags : DescriptorFlags) (f : FileNumber × DescriptorFlags) → l ≡ standing (node_kind node) (node_number node) flags → file_of (Ok (record { node = node; flags = flags })) ≡ Ok f → l ≡ standing file f.0.number f.1
file_is l Directory flags f e t = cc
file_is l (File g) flags f e t = let same : (g, flags) ≡ f = cc in e ∙ ap (λ (x : FileNumber × DescriptorFlags). standing file x.0.number x.1) same

pub file_live : (slots : List Open) (h : ℕ) (f : FileNumber × DescriptorFlags) → file_at slots h ≡ Ok f → lives slots h ≡ standing file f.0.number f.1
file_live slots h f e = by_opened (opened_at slots h) refl e
  where
    by_opened : (r : Result Opened ErrorCode) → opened_at slots h ≡ r → file_of r ≡ Ok f → lives slots h ≡ standing file f.0.number f.1
    by_opened (Ok opened) o t = file_is (lives slots h) opened.node opened.flags f (opened_live slots h opened o) t
    by_opened (Err c) o t = cc

pub for_live : (slots : List Open) (h needed : ℕ) (f : FileNumber × DescriptorFlags) → file_for slots h needed ≡ Ok f → lives slots h ≡ standing file f.0.number f.1
for_live slots h needed f e = by_file (file_at slots h) refl e
  where
    by_file : (r : Result (FileNumber × DescriptorFlags) ErrorCode) → file_at slots h ≡ r → for_use r needed ≡ Ok f → lives slots h ≡ standing file f.0.number f.1
    by_file (Ok g) o t = ⊎_elim
        (λ (b : contains g.1.0 needed ≡ true). let same : Ok g ≡ Ok f = sym (cond-true (contains g.1.0 needed) (Ok g) _ b) ∙ t in let s : g ≡ f = cc in file_live slots h f (o ∙ ap Ok s))
        (λ (b : contains g.1.0 needed ≡ false). (let no_Ok = sym (cond-false (contains g.1.0 needed) (Ok g) _ b) ∙ t in cc))
        (cases_Bool (contains g.1.0 needed))
    by_file (Err c) o t = cc

directory_is : (l : Option Live) (node : NodeOf) (flags : DescriptorFlags) (u : Unit {0}) → l ≡ standing (node_kind node) (node_number node) flags → directory_of (Ok (record { node = node; flags = flags })) ≡ Ok u → l ≡ standing directory directory_node flags
directory_is l Directory flags u e t = e
directory_is l (File f) flags u e t = cc

pub directory_live : (slots : List Open) (h : ℕ) (u : Unit {0}) → directory_at slots h ≡ Ok u → (flags : DescriptorFlags) × (lives slots h ≡ standing directory directory_node flags)
directory_live slots h u e = by_opened (opened_at slots h) refl e
  where
    by_opened : (r : Result Opened ErrorCode) → opened_at slots h ≡ r → directory_of r ≡ Ok u → (flags : DescriptorFlags) × (lives slots h ≡ standing directory directory_node flags)
    by_opened (Ok opened) o t = (opened.flags, directory_is (lives slots h) opened.node opened.flags u (opened_live slots h opened o) t)
    by_opened (Err c) o t = cc
