-- A list of files, seen by name or by content, when one of them changes.
use Rattle.std.proofs.Common.{◌≡◌, ℕ, suc, replicate, ◌+◌, ◌<◌, Bool, cond, List, [], ◌∷◌, ◌++◌, map, length, get_or, take, set, Some, refl, sym, ap, ◌∙◌, arith}
use Rattle.std.specs.List.{position_from}
use Rattle.std.proofs.lemmas.List.{map-set, get_or-map, set-get_or, take_more_set, length-map, length-take, take-map}
use Rattle.host.specs.Laws.{written}
use Rattle.storage.specs.declared.file.File.{File}
use Rattle.files.specs.declared.files.Files.{Files}
use Rattle.storage.specs.File.{name_of, content_of}
use Rattle.files.specs.Lists.{listing}

-- searching what is seen is searching the list
pub position_from-map : {X Y : Type 0} (test : Y → Bool) (f : X → Y) (n : ℕ) (xs : List X) → position_from test n (map f xs) ≡ position_from (λ x. test (f x)) n xs
position_from-map test f n [] = refl
position_from-map test f n (x ∷ xs) = ap (cond (test (f x)) (Some n)) (position_from-map test f (n + 1) xs)

map_put : (f : File → List ℕ) (xs : List File) (i : ℕ) (y : File) (v : List ℕ) → f y ≡ v → map f (set xs i y) ≡ set (map f xs) i v
map_put f xs i y v e = map-set f xs i y ∙ ap (λ w. set (map f xs) i w) e

map_kept : (f : File → List ℕ) (xs : List File) (i : ℕ) (x y : File) → i < length xs → f y ≡ f (get_or xs i x) → map f (set xs i y) ≡ map f xs
map_kept f xs i x y h s = map_put f xs i y (get_or (map f xs) i []) (s ∙ sym (get_or-map f xs i x [] h)) ∙ set-get_or (map f xs) i []

-- the names of those that exist stay, whichever file it is
pub names_kept : (xs : List File) (count i : ℕ) (x y : File) → i < length xs → name_of y ≡ name_of (get_or xs i x) → map name_of (take count (set xs i y)) ≡ map name_of (take count xs)
names_kept xs count i x y h s = sym (take-map name_of count (set xs i y)) ∙ ap (take count) (map_kept name_of xs i x y h s) ∙ take-map name_of count xs

pub content_kept : (xs : List File) (i : ℕ) (x y : File) → i < length xs → content_of y ≡ content_of (get_or xs i x) → map content_of (set xs i y) ≡ map content_of xs
content_kept xs i x y h s = map_kept content_of xs i x y h s

-- one file more: its name is the last
pub names_more : (xs : List File) (count i : ℕ) (y : File) (name : List ℕ) → count < length xs → i ≡ count → name_of y ≡ name → map name_of (take (count + 1) (set xs i y)) ≡ map name_of (take count xs) ++ name ∷ []
names_more xs count i y name h e n =
    ap (λ k. map name_of (take (count + 1) (set xs k y))) e
    ∙ sym (take-map name_of (count + 1) (set xs count y))
    ∙ ap (take (count + 1)) (map_put name_of xs count y name n)
    ∙ take_more_set (map name_of xs) count name (let l = length-map xs name_of in omega (arith, l))
    ∙ ap (λ ns. ns ++ name ∷ []) (take-map name_of count xs)

-- what was written to a file is its content among all
pub content_put : (xs : List File) (i j : ℕ) (x y : File) (v : List ℕ → List ℕ) → i < length xs → i ≡ j → content_of y ≡ v (content_of (get_or xs i x)) → map content_of (set xs i y) ≡ set (map content_of xs) j (v (get_or (map content_of xs) j []))
content_put xs i j x y v h e w =
    map_put content_of xs i y (v (get_or (map content_of xs) i [])) (w ∙ ap v (sym (get_or-map content_of xs i x [] h)))
    ∙ ap (λ k. set (map content_of xs) k (v (get_or (map content_of xs) k []))) e

pub names_count : (fs : Files) → length (listing fs).names ≡ fs.count
names_count fs = length-map (take fs.count fs.files) name_of ∙ length-take fs.count fs.files ∙ (omega (arith, fs.few, fs.eight))

-- places that all hold a file without bytes
pub all_empty : (xs : List File) (n : ℕ) → length xs ≡ n → ((i : ℕ) (d : File) → i < length xs → content_of (get_or xs i d) ≡ []) → map content_of xs ≡ replicate n []
all_empty [] n long empty = ap (λ k. replicate k []) long
all_empty (x ∷ xs) n long empty = (λ i. empty 0 x (omega arith) i ∷ all_empty xs (length xs) refl (λ k d h. empty (suc k) d (omega (arith, h))) i) ∙ ap (λ k. replicate k []) long

pub content_emptied : (xs : List File) (i j : ℕ) (x y : File) → i < length xs → i ≡ j → content_of y ≡ [] → map content_of (set xs i y) ≡ set (map content_of xs) j []
content_emptied xs i j x y h e w = content_put xs i j x y (λ bytes. []) h e w

pub content_written : (xs : List File) (i j p : ℕ) (source : List ℕ) (x y : File) → i < length xs → i ≡ j → content_of y ≡ written (content_of (get_or xs i x)) p source → map content_of (set xs i y) ≡ set (map content_of xs) j (written (get_or (map content_of xs) j []) p source)
content_written xs i j p source x y h e w = content_put xs i j x y (λ bytes. written bytes p source) h e w
