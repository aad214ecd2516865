-- The files as lists.
use Rattle.std.specs.Prelude.{◌≡◌, ℕ, ◌<◌, ◌≤◌, if◌then◌else◌, ◌⊎◌, List, [], ◌∷◌, ◌++◌, map, length, take, replicate, Some, None, Ok, Err, Option, Result, nat_lt, slice_index_or, slice_set}
use Rattle.errno.specs.declared.ErrorCode.{ErrorCode}
use Rattle.errno.specs.declared.ErrorCode.TheVariants.{Exist, FileTooLarge, NoEntry, InsufficientSpace}
use Rattle.std.specs.List.{position_from}
use Rattle.std.specs.Str.{bytes_eq}
use Rattle.handles.specs.Names.{is_name}
use Rattle.handles.specs.declared.file_number.FileNumber.{FileNumber}
use Rattle.storage.specs.File.{name_of, content_of}
use Rattle.files.specs.declared.files.Files.{Files}

pub record Listing : Type 0 where
  pub names : List (List ℕ)  -- of the files that exist, as they were created
  pub contents : List (List ℕ)  -- of all eight places

abbrev pub listing : Files → Listing
listing fs = record { names = map name_of (take fs.count fs.files); contents = map content_of fs.files }

-- no file exists, and no place holds bytes
abbrev pub blank : Listing
blank = record { names = []; contents = replicate 8 [] }

abbrev pub content_at : Listing → ℕ → List ℕ
content_at l f = slice_index_or l.contents f []

abbrev pub with_content : Listing → ℕ → List ℕ → Listing
with_content l f bytes = record { names = l.names; contents = slice_set l.contents f bytes }

-- one file more, at a place
abbrev pub with_file : Listing → ℕ → List ℕ → List ℕ → Listing
with_file l f name bytes = record { names = l.names ++ name ∷ []; contents = slice_set l.contents f bytes }

abbrev pub index_of : List ℕ → List (List ℕ) → Option ℕ
index_of name ns = position_from (λ other. bytes_eq other name) 0 ns

abbrev pub Found : Listing → List ℕ → Option FileNumber → Type 0
Found l name (Some f) = index_of name l.names ≡ Some f.number
Found l name None = index_of name l.names ≡ None

abbrev pub Created : Listing → List ℕ → Option FileNumber → Listing → Type 0
Created l name (Some f) l' = (f.number ≡ length l.names) × (l' ≡ with_file l f.number name [])
Created l name None l' = ((8 ≤ length l.names) ⊎ (32 < length name)) × (l' ≡ l)

-- an answer, and what there is after it
abbrev pub Outcome : Type 0
Outcome = Result (Unit {0}) ErrorCode × Listing

abbrev pub put_new : Listing → List ℕ → List ℕ → Outcome
put_new l name bytes =
    if nat_lt 2048 (length bytes) then (Err FileTooLarge, l)
    else if nat_lt (length l.names) 8 then (Ok tt, with_file l (length l.names) name bytes)
    else (Err InsufficientSpace, l)

-- a file is added under a name that can be opened and that no file has
abbrev pub put_file : Listing → List ℕ → List ℕ → Outcome
put_file l name bytes =
    if is_name name then elim (index_of name l.names) [ Some i ↦ (Err Exist, l) | None ↦ put_new l name bytes ]
    else (Err NoEntry, l)

abbrev pub file_in : Listing → List ℕ → Option (List ℕ)
file_in l name = elim (index_of name l.names) [ Some i ↦ Some (content_at l i) | None ↦ None ]
