-- The answers on the directory keep the laws.
use Rattle.std.proofs.Common.{◌≡◌, ℕ, zero, suc, ◌+◌, ◌<◌, Bool, true, false, cond, ◌&&◌, ◌||◌, eqb, ltb, List, [], ◌∷◌, ◌++◌, length, get_or, drop, Some, None, Ok, Err, MatchBool, Option, Result, sym, refl, ap, ◌∙◌, subst, arith}
use Rattle.std.proofs.lemmas.List.{drop_all, take_all, length-append}
use Rattle.std.proofs.lemmas.List.Quantifiers.{position-Some}
use Rattle.std.proofs.lemmas.Iterator.Adapters.{position_from-zero}
use Rattle.std.proofs.lemmas.Bool.{cond_both, cond-true, cond-false, le-ltb, eq-eqb, ne_eqb}
use Rattle.std.proofs.lemmas.Bool.Decides.{nat_tests}
use Rattle.errno.specs.declared.ErrorCode.{ErrorCode}
use Rattle.types.specs.declared.flags.DescriptorFlags.{DescriptorFlags}
use Rattle.types.specs.declared.filetype.Filetype.TheVariants.{Directory as DirectoryType, RegularFile}
use Rattle.types.specs.Words.{contains, creat, directory as directory_bit, excl, trunc}
use Rattle.host.specs.declared.token.Fresh.{Fresh}
use Rattle.host.specs.declared.token.NodeKind.TheVariants.{File as FileNode, Directory as DirectoryNode}
use Rattle.host.specs.declared.answers.DirEntry.{DirEntry}
use Rattle.host.specs.Meaning.{Live, Meaning, Entry, readable, file, directory, with_live}
use Rattle.host.specs.Laws.{EntryCount, EntryIs, entries_of, Addition, Effect, nothing, emptied, added, done, Allowed, Opened, listed}
use Rattle.host.specs.Laws as laws
use Rattle.handles.specs.declared.file_number.FileNumber.{FileNumber}
use Rattle.handles.specs.declared.open.Open.{Open}
use Rattle.handles.specs.declared.open.Open.TheVariants.{Free, Node, Stream, Stdin, Stdout, Stderr}
use Rattle.handles.specs.declared.open.Node.{Node as NodeOf}
use Rattle.handles.specs.declared.open.Node.TheVariants.{Directory, File}
use Rattle.handles.specs.Slots.{open_at, opened_of, directory_of, directory_at, first_free}
use Rattle.handles.specs.Lives.{lives, live_of, standing}
use Rattle.handles.specs.Names.{is_dot, is_name}
use Rattle.std.specs.Str.{bytes_eq}
use Rattle.files.specs.Lists.{Found}
use Rattle.memory_host.specs.State.{State, means, with_disk, entries, type_of}
use Rattle.memory_files.specs.Disk.{Disk, Outcome, with_content}
use Rattle.memory_files.specs.Askings.{give}
use Rattle.memory_dir.specs.Askings as dir
use Rattle.memory_dir.specs.Askings.{count_in, entry_count, EntryOf, EntryIn, node_of, fresh, open_directory, give_file, open_existing, Next, with_file, new_file, Ends, NewFile, OpenFound, OpenIn, OpenAt}
use Rattle.memory_host.proofs.Slots.{set_index, directory_live, free_live}
use Rattle.memory_host.proofs.Files.{type_there}
use Rattle.memory_host.proofs.Changes.{slot_put, bytes_put}
use Rattle.memory_host.specs.Bounds.{counted}

pub count_law : (s : State) (h : ℕ) → EntryCount (means s) h (entry_count s.disk h) (means s)
count_law s h = go (directory_at s.disk.slots h) refl
  where
    go : (g : Result (Unit {0}) ErrorCode) → directory_at s.disk.slots h ≡ g → EntryCount (means s) h (count_in s.disk g) (means s)
    go (Ok u) e = let d = directory_live s.disk.slots h u e in (record { kind = directory; node = 8; flags = d.0 }, (d.1, refl), sym (counted 0 s.disk.files.names), refl)
    go (Err c) e = refl

-- the entry at an index, and those behind it
entry_here : (node i : ℕ) (names : List (List ℕ)) → i < length names → drop i (entries node names) ≡ readable RegularFile (get_or names i []) (node + i + 1) ∷ drop (suc i) (entries node names)
entry_here node i [] h = absurd (omega (arith, h))
entry_here node zero (name ∷ names) h = ap (λ n. readable RegularFile name n ∷ entries (node + 1) names) (let e : node + 1 ≡ node + 0 + 1 = omega arith in e)
entry_here node (suc i) (name ∷ names) h =
    entry_here (node + 1) i names (omega (arith, h)) ∙ ap (λ n. readable RegularFile (get_or names i []) n ∷ drop (suc i) (entries (node + 1) names)) (let e : node + 1 + i + 1 ≡ node + suc i + 1 = omega arith in e)

no_entries : (m : Meaning) (o : Open) (c : ErrorCode) → directory_of (opened_of o) ≡ Err c → entries_of m (live_of o) ≡ []
no_entries m Free c e = refl
no_entries m (Node opened) c e = by_node opened.node opened.flags e
  where
    by_node : (node : NodeOf) (flags : DescriptorFlags) → directory_of (Ok (record { node = node; flags = flags })) ≡ Err c → entries_of m (live_of (Node (record { node = node; flags = flags }))) ≡ []
    by_node Directory flags t = cc
    by_node (File f) flags t = refl
no_entries m (Stream stream) c e = refl
no_entries m Stdin c e = refl
no_entries m Stdout c e = refl
no_entries m Stderr c e = refl

-- what is told of the files' entries is what the law wants of them
entry_told : (names : List (List ℕ)) (i : ℕ) (r : Result DirEntry ErrorCode) → EntryOf names i r → EntryIs (drop i (entries 0 names)) r
entry_told names i (Ok e) told = subst (λ es. EntryIs es (Ok e)) (sym (entry_here 0 i names told.0)) (told.1, told.2 ∙ (let n : i + 1 ≡ 0 + i + 1 = omega arith in n), told.3)
entry_told names i (Err c) told = subst (λ es. EntryIs es (Err c)) (sym (drop_all i (entries 0 names) (omega (arith, counted 0 names, told.0)))) tt

pub entry_law : (s : State) (h i : ℕ) (r : Result DirEntry ErrorCode) → dir.EntryAt s.disk h i r → laws.EntryAt (means s) h i r (means s)
entry_law s h i r told = (go (directory_at s.disk.slots h) refl told, refl)
  where
    Q : List Entry → Result DirEntry ErrorCode → Type 0
    Q es r = EntryIs (drop i es) r

    go : (g : Result (Unit {0}) ErrorCode) → directory_at s.disk.slots h ≡ g → EntryIn s.disk g i r → Q (entries_of (means s) (lives s.disk.slots h)) r
    go (Ok u) e w =
        let d = directory_live s.disk.slots h u e in
        subst (λ es. Q es r) (sym (ap (entries_of (means s)) d.1)) (entry_told s.disk.files.names i r w)
    go (Err c) e w = subst (λ es. Q es r) (sym (no_entries (means s) (open_at s.disk.slots h) c e)) (subst (λ es. EntryIs es r) (sym (drop_all i [] (omega arith))) (subst (λ out. EntryIs [] out) (sym w) tt))

-- one file more
type_step : {X : Type 0} (d r n : X) (len f k : ℕ) → f ≡ len → f < 8 → cond (eqb k 8) d (cond (ltb k (len + 1)) r n) ≡ cond (eqb k f) r (cond (eqb k 8) d (cond (ltb k len) r n))
type_step d r n len f k e h = grind (arith, nat_tests)

serial_step : (f k : ℕ) → f < 8 → cond (eqb k 8) 0 (k + 1) ≡ cond (eqb k f) (f + 1) (cond (eqb k 8) 0 (k + 1))
serial_step f k h = grind (arith, nat_tests)

listing_step : (b : Bool) (new other old : List Entry) → new ≡ other → cond b new [] ≡ cond b other (cond b old [])
listing_step true new other old e = e
listing_step false new other old e = refl

entries_more : (node : ℕ) (names : List (List ℕ)) (name : List ℕ) → entries node (names ++ name ∷ []) ≡ entries node names ++ readable RegularFile name (node + length names + 1) ∷ []
entries_more node [] name = ap (λ n. readable RegularFile name n ∷ []) (let e : node + 1 ≡ node + 0 + 1 = omega arith in e)
entries_more node (first ∷ names) name = ap (λ es. readable RegularFile first (node + 1) ∷ es) (entries_more (node + 1) names name ∙ ap (λ n. entries (node + 1) names ++ readable RegularFile name n ∷ []) (let e : node + 1 + length names + 1 ≡ node + suc (length names) + 1 = omega arith in e))

abbrev addition : State → List ℕ → ℕ → Addition
addition s name f = record { filetype = RegularFile; serial = f + 1; directory = 8; index = length s.disk.files.names; name = name }

added_last : (s : State) (name : List ℕ) (f : ℕ) → f ≡ length s.disk.files.names → entries 0 (s.disk.files.names ++ name ∷ []) ≡ listed (addition s name f) (entries 0 s.disk.files.names)
added_last s name f e =
    let es = entries 0 s.disk.files.names in
    let l = counted 0 s.disk.files.names in
    entries_more 0 s.disk.files.names name
    ∙ (λ i. sym (take_all (length s.disk.files.names) es (omega (arith, l))) i ++ readable RegularFile name ((let n : 0 + length s.disk.files.names + 1 ≡ f + 1 = omega (arith, e) in n) i) ∷ sym (drop_all (length s.disk.files.names) es (omega (arith, l))) i)

file_added : (s : State) (f : FileNumber) (name : List ℕ) → f.number ≡ length s.disk.files.names → length s.disk.files.contents ≡ 8 → means (with_disk s (with_file s.disk f name)) ≡ done (means s) f.number (added (addition s name f.number))
file_added s f name e eight = λ i. record {
  live = (means s).live;
  filetype = λ k. (ap (λ n. cond (eqb k 8) (Some DirectoryType) (cond (ltb k n) (Some RegularFile) None)) (length-append s.disk.files.names (name ∷ [])) ∙ type_step (Some DirectoryType) (Some RegularFile) None (length s.disk.files.names) f.number k e f.small) i;
  serial = λ k. serial_step f.number k f.small i;
  content = λ k. set_index s.disk.files.contents f.number [] [] k (omega (arith, f.small, eight)) i;
  listing = λ k. listing_step (eqb k 8) (entries 0 (s.disk.files.names ++ name ∷ [])) (listed (addition s name f.number) (entries 0 s.disk.files.names)) (entries 0 s.disk.files.names) (added_last s name f.number e) i;
  waiting = (means s).waiting;
  taken = (means s).taken;
}

-- a file that does not exist has no type
type_missing : (names : List (List ℕ)) (f : ℕ) → f < 8 → f ≡ length names → type_of names f ≡ None
type_missing names f h l = cond-false (eqb f 8) _ _ (ne_eqb f 8 (λ e. omega (arith, e, h))) ∙ cond-false (ltb f (length names)) _ _ (le-ltb f (length names) (omega (arith, l)))

split : (b : Bool) {A B Z : Type 0} → MatchBool b A B → (b ≡ true → A → Z) → (b ≡ false → B → Z) → Z
split true w f g = f refl w
split false w f g = g refl w

module _ (s : State) (h oflags : ℕ) (flags : DescriptorFlags) (eight : length s.disk.files.contents ≡ 8) (d : DescriptorFlags) (dir : lives s.disk.slots h ≡ standing directory 8 d) where
  abbrev P : Outcome Fresh → Type 0
  P out = laws.OpenAt (means s) h oflags out.0 (means (with_disk s out.1))

  directory_case : P (open_directory s.disk oflags flags)
  directory_case = cond_both (contains oflags creat || contains oflags trunc) _ _ P (λ t. refl) (λ t. by_free (first_free s.disk.slots) refl)
    where
      by_free : (q : Option ℕ) → first_free s.disk.slots ≡ q → P (give s.disk (node_of Directory flags) (fresh DirectoryNode) q)
      by_free None e = refl
      by_free (Some x) e =
          let l = free_live s.disk.slots x e in (
            record { kind = directory; node = 8; flags = d },
            (dir, refl),
            record {
              effect = nothing;
              opened = record { kind = directory; node = 8; flags = flags };
              filetype = DirectoryType;
              allowed = tt;
              new = l.1;
              typed = refl;
              kind = (refl, refl);
              after = slot_put s x (node_of Directory flags) l.0;
            },
          )

  abbrev opened_file : FileNumber → Live
  opened_file f = record { kind = file; node = f.number; flags = flags }

  -- a file that is there is opened, emptied or not
  given_file : (f : FileNumber) (x : ℕ) → f.number < length s.disk.files.names → first_free s.disk.slots ≡ Some x → P (give_file s.disk f oflags flags (Some x))
  given_file f x below e =
      let l = free_live s.disk.slots x e in
      cond_both (contains oflags trunc) (with_content s.disk f []) s.disk (λ d'. P (give d' (node_of (File f) flags) (fresh FileNode) (Some x)))
      (λ t. (
        record { kind = directory; node = 8; flags = d },
        (dir, refl),
        record {
          effect = emptied;
          opened = opened_file f;
          filetype = RegularFile;
          allowed = t;
          new = l.1;
          typed = type_there s.disk.files.names f.number f.small below;
          kind = (refl, refl);
          after = slot_put (with_disk s (with_content s.disk f [])) x (node_of (File f) flags) l.0 ∙ ap (λ m. with_live m x (Some (opened_file f))) (bytes_put s f [] (omega (arith, f.small, eight)));
        },
      ))
      (λ t. (
        record { kind = directory; node = 8; flags = d },
        (dir, refl),
        record {
          effect = nothing;
          opened = opened_file f;
          filetype = RegularFile;
          allowed = tt;
          new = l.1;
          typed = type_there s.disk.files.names f.number f.small below;
          kind = (refl, refl);
          after = slot_put s x (node_of (File f) flags) l.0;
        },
      ))

  existing_case : (f : FileNumber) → f.number < length s.disk.files.names → P (open_existing s.disk f oflags flags)
  existing_case f below = cond_both (contains oflags creat && contains oflags excl) _ _ P (λ t. refl) (λ t. cond_both (contains oflags directory_bit) _ _ P (λ u. refl) (λ u. by_free (first_free s.disk.slots) refl))
    where
      by_free : (q : Option ℕ) → first_free s.disk.slots ≡ q → P (give_file s.disk f oflags flags q)
      by_free None e = refl
      by_free (Some x) e = given_file f x below e

  new_case : (name : List ℕ) (f : FileNumber) (x : ℕ) → contains oflags creat ≡ true → f.number ≡ length s.disk.files.names → first_free s.disk.slots ≡ Some x → P (new_file s.disk (Some f) name flags x)
  new_case name f x t n e =
      let l = free_live s.disk.slots x e in (
        record { kind = directory; node = 8; flags = d },
        (dir, refl),
        record {
          effect = added (addition s name f.number);
          opened = opened_file f;
          filetype = RegularFile;
          allowed = (t, type_missing s.disk.files.names f.number f.small n, refl, refl, omega (arith, counted 0 s.disk.files.names));
          new = l.1;
          typed = cond-true (eqb f.number f.number) _ _ (eq-eqb f.number f.number refl);
          kind = (refl, refl);
          after = slot_put (with_disk s (with_file s.disk f name)) x (node_of (File f) flags) l.0 ∙ ap (λ m. with_live m x (Some (opened_file f))) (file_added s f name n eight);
        },
      )

  module _ (r : Result Fresh ErrorCode) (d' : Disk) where
    abbrev Kept : Type 0
    Kept = laws.OpenAt (means s) h oflags r (means (with_disk s d'))

    ends : (out : Outcome Fresh) → P out → Ends out r d' → Kept
    ends out p e = subst P (sym e) p

    new_law : (name : List ℕ) → contains oflags creat ≡ true → (q : Option ℕ) → first_free s.disk.slots ≡ q → NewFile s.disk q name flags r d' → Kept
    new_law name t None e o = ends _ refl o
    new_law name t (Some x) e o = by_next o.0 o.1 o.2
      where
        by_next : (next : Option FileNumber) → Next s.disk.files.names next → Ends (new_file s.disk next name flags x) r d' → Kept
        by_next None n u = ends _ refl u
        by_next (Some f) n u = ends _ (new_case name f x t n e) u

    found_law : (name : List ℕ) (q : Option FileNumber) → Found s.disk.files name q → OpenFound s.disk q name oflags flags r d' → Kept
    found_law name (Some f) i o =
        let there = position-Some (λ (other : List ℕ). bytes_eq other name) s.disk.files.names f.number [] (position_from-zero (λ (other : List ℕ). bytes_eq other name) s.disk.files.names ∙ i) in
        ends _ (existing_case f there.0) o
    found_law name None i o = split (contains oflags creat) o
        (λ t w. split (contains oflags directory_bit) w (λ u v. ends _ refl v) (λ u v. new_law name t (first_free s.disk.slots) refl v))
        (λ t w. ends _ refl w)

    in_law : (path : List ℕ) → OpenIn s.disk (Ok tt) path oflags flags r d' → Kept
    in_law path o = split (is_dot path) o
        (λ t v. ends _ directory_case v)
        (λ t w. split (is_name path) w (λ u v. found_law path v.0 v.1 v.2) (λ u v. ends _ refl v))

pub open_law : (s : State) (h oflags : ℕ) (path : List ℕ) (flags : DescriptorFlags) (r : Result Fresh ErrorCode) (d' : Disk) → length s.disk.files.contents ≡ 8 → OpenAt s.disk h path oflags flags r d' → laws.OpenAt (means s) h oflags r (means (with_disk s d'))
open_law s h oflags path flags r d' eight o = go (directory_at s.disk.slots h) refl o
  where
    go : (g : Result (Unit {0}) ErrorCode) → directory_at s.disk.slots h ≡ g → OpenIn s.disk g path oflags flags r d' → laws.OpenAt (means s) h oflags r (means (with_disk s d'))
    go (Ok u) e w = let d = directory_live s.disk.slots h u e in in_law s h oflags flags eight d.0 d.1 r d' path w
    go (Err c) e w = subst (λ (out : Outcome Fresh). laws.OpenAt (means s) h oflags out.0 (means (with_disk s out.1))) (sym w) refl
