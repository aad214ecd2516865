-- The bytes of a text one by one, as the code goes through them.
use Rattle.std.specs.Prelude.{ℕ, ◌-◌, ◌↔◌, Bool, false, if◌then◌else◌, ◌&&◌, IsTrue, List, [], ◌∷◌, Some, None, Option, ◌==◌, nat_le}
use Rattle.utf8.specs.declared.Pending.{Pending}
use Rattle.utf8.specs.Grammar.{Utf8Octets}

abbrev pub pending : ℕ → ℕ → ℕ → Pending
pending more low high = record { more = more; low = low; high = high }

abbrev pub between : ℕ → ℕ → ℕ → Bool
between low high b = nat_le low b && nat_le b high

abbrev pub lead : ℕ → Option Pending
lead b =
    if nat_le b 0x7F then Some (pending 0 0x80 0xBF)
    else if nat_le b 0xC1 then None
    else if nat_le b 0xDF then Some (pending 1 0x80 0xBF)
    else if nat_le b 0xE0 then Some (pending 2 0xA0 0xBF)
    else if nat_le b 0xEC then Some (pending 2 0x80 0xBF)
    else if nat_le b 0xED then Some (pending 2 0x80 0x9F)
    else if nat_le b 0xEF then Some (pending 2 0x80 0xBF)
    else if nat_le b 0xF0 then Some (pending 3 0x90 0xBF)
    else if nat_le b 0xF3 then Some (pending 3 0x80 0xBF)
    else if nat_le b 0xF4 then Some (pending 3 0x80 0x8F)
    else None

abbrev pub after : Pending → ℕ → Option Pending
after p b =
    if p.more == 0 then lead b
    else if between p.low p.high b then Some (pending (p.more - 1) 0x80 0xBF)
    else None

abbrev pub accepts : Option Pending → List ℕ → Bool
accepts None bs = false
accepts (Some p) [] = p.more == 0
accepts (Some p) (b ∷ bs) = accepts (after p b) bs

-- what going through some bytes tells of them
abbrev pub Scanned : List ℕ → Option Pending → Type 0
Scanned bs state = IsTrue (accepts state []) ↔ Utf8Octets bs
