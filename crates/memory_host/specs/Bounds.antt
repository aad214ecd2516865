-- The memory host keeps the limits of every host.
use Rattle.std.specs.Prelude.{◌≡◌, ℕ, zero, suc, ◌+◌, ◌≤◌, List, [], ◌∷◌, map, length, take, ◌==◌, slice_index_or, refl}
use Rattle.std.proofs.Common.{ap, arith}
use Rattle.std.proofs.lemmas.List.{length-map, length-take}
use Rattle.std.proofs.lemmas.Bool.{cond_both}
use Rattle.host.specs.Meaning.{Bounded, Named}
use Rattle.storage.specs.declared.file.File.{File}
use Rattle.storage.specs.File.{name_of, content_of}
use Rattle.files.specs.Lists.{listing}
use Rattle.memory_host.specs.declared.in_memory.MemoryHost.{MemoryHost}
use Rattle.memory_host.specs.State.{meaning_of, entries}

sized : (files : List File) (n : ℕ) → length (slice_index_or (map content_of files) n []) ≤ 2048
sized [] n = omega arith
sized (f ∷ files) zero = f.small
sized (f ∷ files) (suc n) = sized files n

pub counted : (node : ℕ) (ns : List (List ℕ)) → length (entries node ns) ≡ length ns
counted node [] = refl
counted node (n ∷ ns) = ap suc (counted (node + 1) ns)

named : (node count : ℕ) (files : List File) → Named (entries node (map name_of (take count files)))
named node zero files = tt
named node (suc count) [] = tt
named node (suc count) (f ∷ files) = (omega (arith, f.short), named (node + 1) count files)

pub bounds : (m : MemoryHost) → Bounded (meaning_of m)
bounds m = record {
  files = λ node. omega (arith, sized m.disk.files.files node);
  listings = λ node. cond_both (node == 8) (entries 0 (listing m.disk.files).names) [] (λ es. length es ≤ 65536)
      (λ e. omega (arith, counted 0 (listing m.disk.files).names, length-map (take m.disk.files.count m.disk.files.files) name_of, length-take m.disk.files.count m.disk.files.files, m.disk.files.few))
      (λ e. omega arith);
  names = λ node. cond_both (node == 8) (entries 0 (listing m.disk.files).names) [] Named (λ e. named 0 m.disk.files.count m.disk.files.files) (λ e. tt);
}
