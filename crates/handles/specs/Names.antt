-- Which paths name the directory itself, and which can name a file in it.
use Rattle.std.specs.Prelude.{ℕ, Bool, not, ◌&&◌, List, length, ◌==◌, nat_le, nat_lt, slice_index}
use Rattle.std.specs.List.{list_any}

-- the path of the directory itself
abbrev pub is_dot : List ℕ → Bool
is_dot path = length path == 1 && slice_index path 0 == 46

abbrev pub slash : ℕ
slash = 47

abbrev pub has_slash : List ℕ → Bool
has_slash path = list_any (λ b. b == slash) path

-- 1 to 32 bytes, none of them a slash
abbrev pub is_name : List ℕ → Bool
is_name path = nat_lt 0 (length path) && nat_le (length path) 32 && not (has_slash path)
