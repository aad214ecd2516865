-- The answers on files keep the laws.
use Rattle.std.proofs.Common.{◌≡◌, ℕ, ◌+◌, ◌<◌, eqb, ltb, leb, List, [], ◌∷◌, ◌++◌, length, Some, Ok, Err, Result, sym, refl, ap, ◌∙◌, le_refl, arith, rules}
use Rattle.std.proofs.lemmas.List.{same_lists, places, take_all, length-map, get_or_past}
use Rattle.std.proofs.lemmas.Bool.{cond_both, cond-true, cond-false, lt-ltb, leb-false, ne_eqb}
use Rattle.errno.specs.declared.ErrorCode.{ErrorCode}
use Rattle.types.specs.declared.flags.DescriptorFlags.{DescriptorFlags}
use Rattle.types.specs.declared.filetype.Filetype.TheVariants.{RegularFile}
use Rattle.host.specs.declared.answers.Stat.{Stat}
use Rattle.types.specs.Words.{read, write}
use Rattle.host.specs.declared.token.NodeKind.TheVariants.{File as FileNode, Directory as DirectoryNode}
use Rattle.host.specs.Meaning.{Live, file, directory, with_content as with_bytes}
use Rattle.host.specs.Laws.{ReadAt, WriteAt, Append, StatOf, Node, written}
use Rattle.storage.specs.Held.{too_large}
use Rattle.storage.specs.File.{content_of}
use Rattle.handles.specs.declared.file_number.FileNumber.{FileNumber}
use Rattle.handles.specs.declared.open.Opened.{Opened}
use Rattle.handles.specs.declared.open.Node.{Node as NodeOf}
use Rattle.handles.specs.declared.open.Node.TheVariants.{Directory, File}
use Rattle.handles.specs.Slots.{opened_at, file_for}
use Rattle.handles.specs.Lives.{lives, standing, node_kind, node_number}
use Rattle.memory_host.specs.declared.in_memory.MemoryHost.{MemoryHost}
use Rattle.memory_host.specs.State.{State, state, means, with_disk, type_of, serial_of}
use Rattle.memory_files.specs.Disk.{Outcome, content}
use Rattle.memory_files.specs.Askings.{read_from, read_at, write_to, write_at, append_to, append, stat_node, stat_of, stat}
use Rattle.memory_host.proofs.Slots.{for_live, opened_live}
use Rattle.memory_host.proofs.Changes.{bytes_put}

-- there is room for the bytes of eight files
pub all_eight : (m : MemoryHost) → length (state m).disk.files.contents ≡ 8
all_eight m = length-map m.disk.files.files content_of ∙ m.disk.files.eight

-- bytes written at the end are appended
appended : (xs ys : List ℕ) (p : ℕ) → p ≡ length xs → written xs p ys ≡ xs ++ ys
appended xs [] p e = same_lists _ _ (search (rules, places)) (λ k d h. grind (arith, places))
appended xs (y ∷ ys) p e = same_lists _ _ (search (rules, places)) (λ k d h. grind (arith, places))

abbrev live_file : FileNumber × DescriptorFlags → Live
live_file f = record { kind = file; node = f.0.number; flags = f.1 }

pub read_law : (s : State) (h p : ℕ) (buffer : List ℕ) → ReadAt (means s) h p buffer (read_at s.disk h p buffer).0 (read_at s.disk h p buffer).1 (means s)
read_law s h p buffer = go (file_for s.disk.slots h read) refl
  where
    go : (g : Result (FileNumber × DescriptorFlags) ErrorCode) → file_for s.disk.slots h read ≡ g → ReadAt (means s) h p buffer (read_from s.disk g p buffer).0 (read_from s.disk g p buffer).1 (means s)
    go (Ok f) e = (live_file f, (for_live s.disk.slots h read f e, refl), (le_refl _, λ more. more), refl, refl)
    go (Err c) e = (refl, refl)

module _ (s : State) (h : ℕ) (bytes : List ℕ) (eight : length s.disk.files.contents ≡ 8) where
  pub write_law : (p : ℕ) → WriteAt (means s) h p bytes (write_at s.disk h p bytes).0 (means (with_disk s (write_at s.disk h p bytes).1))
  write_law p = go (file_for s.disk.slots h write) refl
    where
      P : Outcome ℕ → Type 0
      P out = WriteAt (means s) h p bytes out.0 (means (with_disk s out.1))

      go : (g : Result (FileNumber × DescriptorFlags) ErrorCode) → file_for s.disk.slots h write ≡ g → P (write_to s.disk g p bytes)
      go (Ok f) e = cond_both (too_large 2048 p bytes) _ _ P (λ t. refl) (λ t.
          (live_file f, (for_live s.disk.slots h write f e, refl), le_refl (length bytes), bytes_put s f.0 _ (omega (arith, f.0.small, eight)) ∙ ap (λ b. with_bytes (means s) f.0.number (written (content s.disk f.0) p b)) (sym (take_all (length bytes) bytes (le_refl (length bytes))))))
      go (Err c) e = refl

  pub append_law : Append (means s) h bytes (append s.disk h bytes).0 (means (with_disk s (append s.disk h bytes).1))
  append_law = go (file_for s.disk.slots h write) refl
    where
      P : Outcome ℕ → Type 0
      P out = Append (means s) h bytes out.0 (means (with_disk s out.1))

      go : (g : Result (FileNumber × DescriptorFlags) ErrorCode) → file_for s.disk.slots h write ≡ g → P (append_to s.disk g bytes)
      go (Ok f) e = let c = content s.disk f.0 in cond_both (too_large 2048 (length c) bytes) _ _ P (λ t. refl) (λ t.
          (live_file f, (for_live s.disk.slots h write f e, refl), le_refl (length bytes), bytes_put s f.0 _ (omega (arith, f.0.small, eight)) ∙ ap (λ b. with_bytes (means s) f.0.number b) (appended c bytes (length c) refl ∙ ap (λ b. c ++ b) (sym (take_all (length bytes) bytes (le_refl (length bytes)))))))
      go (Err c) e = refl

-- a file that exists has a type and a serial number
pub type_there : (names : List (List ℕ)) (f : ℕ) → f < 8 → f < length names → type_of names f ≡ Some RegularFile
type_there names f h l = cond-false (eqb f 8) _ _ (ne_eqb f 8 (λ e. omega (arith, e, h))) ∙ cond-true (ltb f (length names)) _ _ (lt-ltb f (length names) l)

serial_there : (f : ℕ) → f < 8 → f + 1 ≡ serial_of f
serial_there f h = sym (cond-false (eqb f 8) _ _ (ne_eqb f 8 (λ e. omega (arith, e, h))))

stands : (s : State) (h : ℕ) (node : NodeOf) (flags : DescriptorFlags) → lives s.disk.slots h ≡ standing (node_kind node) (node_number node) flags → Node (means s) h (record { kind = node_kind node; node = node_number node; flags = flags })
stands s h Directory flags e = (DirectoryNode, (e, refl))
stands s h (File f) flags e = (FileNode, (e, refl))

pub stat_law : (s : State) (h : ℕ) → length s.disk.files.contents ≡ 8 → StatOf (means s) h (stat s.disk h) (means s)
stat_law s h eight = go (opened_at s.disk.slots h) refl
  where
    P : Result Stat ErrorCode → Type 0
    P r = StatOf (means s) h r (means s)

    by_node : (node : NodeOf) (flags : DescriptorFlags) → lives s.disk.slots h ≡ standing (node_kind node) (node_number node) flags → P (stat_node s.disk node flags)
    by_node Directory flags e = (record { kind = directory; node = 8; flags = flags }, stands s h Directory flags e, (refl, refl, refl, sym (ap length (get_or_past s.disk.files.contents 8 [] (omega (arith, eight))))), refl)
    by_node (File f) flags e = cond_both (leb (length s.disk.files.names) f.number) _ _ P (λ t. refl) (λ t.
        (record { kind = file; node = f.number; flags = flags }, stands s h (File f) flags e, (type_there s.disk.files.names f.number f.small (leb-false (length s.disk.files.names) f.number t), refl, serial_there f.number f.small, refl), refl))

    go : (g : Result Opened ErrorCode) → opened_at s.disk.slots h ≡ g → P (stat_of s.disk g)
    go (Ok opened) e = by_node opened.node opened.flags (opened_live s.disk.slots h opened e)
    go (Err c) e = refl
