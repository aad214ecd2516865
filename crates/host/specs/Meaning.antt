-- What a host means: the handles that it holds open, and the nodes that lie behind them.
use Rattle.std.specs.Prelude.{ℕ, ◌^◌, ◌≤◌, if◌then◌else◌, List, [], ◌∷◌, length, drop, Option, ◌==◌}
use Rattle.errno.specs.declared.ErrorCode.{ErrorCode}
use Rattle.types.specs.declared.filetype.Filetype.{Filetype}
use Rattle.types.specs.declared.flags.DescriptorFlags.{DescriptorFlags}

-- where an input has its bytes from: those that wait at its node, or a file from a place on
pub data Source : Type 0 where
  queue : Source
  place : ℕ → Source

pub data Kind : Type 0 where
  file : Kind
  directory : Kind
  input : Source → Kind
  output : Kind

-- what stands behind a live handle
pub record Live : Type 0 where
  pub kind : Kind
  pub node : ℕ
  pub flags : DescriptorFlags

-- an entry of a listing: type, name and serial number, or the code with which it is always refused
pub data Entry : Type 0 where
  readable : Filetype → List ℕ → ℕ → Entry
  faulty : ErrorCode → Entry

pub record Meaning : Type 0 where
  pub live : ℕ → Option Live  -- by handle; none: not live
  pub filetype : ℕ → Option Filetype  -- this and all below by node; none: no such node
  pub serial : ℕ → ℕ
  pub content : ℕ → List ℕ  -- a file's bytes
  pub listing : ℕ → List Entry  -- a directory's entries
  pub waiting : ℕ → List ℕ  -- the bytes that wait in an input
  pub taken : ℕ → List ℕ  -- the bytes that an output has taken

-- no name of a listing is longer than 255 bytes
abbrev pub Named : List Entry → Type 0
Named [] = Unit {0}
Named (readable filetype name serial ∷ entries) = (length name ≤ 255) × Named entries
Named (faulty code ∷ entries) = Named entries

-- the limits of every host
pub record Bounded (m : Meaning) : Type 0 where
  pub files : (node : ℕ) → length (m.content node) ≤ 2 ^ 40
  pub listings : (node : ℕ) → length (m.listing node) ≤ 65536
  pub names : (node : ℕ) → Named (m.listing node)

-- what waits in an input: if nothing does, it has ended
abbrev pub waits : Meaning → ℕ → Source → List ℕ
waits m node queue = m.waiting node
waits m node (place p) = drop p (m.content node)

-- a function that answers x at n, and elsewhere as before
abbrev pub at : {X : Type 0} → ℕ → X → (ℕ → X) → ℕ → X
at n x f k = if k == n then x else f k

-- a meaning in which one thing is another, and everything else the same
abbrev pub with_handles : Meaning → (ℕ → Option Live) → Meaning
with_handles m live = record { live = live; filetype = m.filetype; serial = m.serial; content = m.content; listing = m.listing; waiting = m.waiting; taken = m.taken }

abbrev pub with_live : Meaning → ℕ → Option Live → Meaning
with_live m h l = with_handles m (at h l m.live)

abbrev pub with_content : Meaning → ℕ → List ℕ → Meaning
with_content m node bytes = record { live = m.live; filetype = m.filetype; serial = m.serial; content = at node bytes m.content; listing = m.listing; waiting = m.waiting; taken = m.taken }

abbrev pub with_waiting : Meaning → ℕ → List ℕ → Meaning
with_waiting m node bytes = record { live = m.live; filetype = m.filetype; serial = m.serial; content = m.content; listing = m.listing; waiting = at node bytes m.waiting; taken = m.taken }

abbrev pub with_taken : Meaning → ℕ → List ℕ → Meaning
with_taken m node bytes = record { live = m.live; filetype = m.filetype; serial = m.serial; content = m.content; listing = m.listing; waiting = m.waiting; taken = at node bytes m.taken }
