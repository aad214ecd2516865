-- What the grudging host means: three streams, and zeros that wait on the first.
use Rattle.std.specs.Prelude.{ℕ, Bool, false, if◌then◌else◌, [], replicate, Some, None, Option, ◌==◌, slice_index_or}
use Rattle.std.proofs.Common.{arith}
use Rattle.host.specs.Meaning.{Live, Kind, input, queue, output, Meaning, Bounded}
use Rattle.host_tests.specs.declared.grudging.Grudging.{Grudging}

abbrev pub stream_kind : ℕ → Kind
stream_kind h = if h == 0 then input queue else output

abbrev pub live_if : ℕ → Bool → Option Live
live_if h open-now =
    if open-now then Some (record { kind = stream_kind h; node = h; flags = record { 0 = 0 } })
    else None

abbrev pub meaning_of : Grudging → Meaning
meaning_of g = record {
  live = λ h. live_if h (slice_index_or g.live h false);
  filetype = λ node. None;
  serial = λ node. 0;
  content = λ node. [];
  listing = λ node. [];
  waiting = λ node. if node == 0 then replicate g.waiting 0 else [];
  taken = λ node. [];
}

pub bounds : (g : Grudging) → Bounded (meaning_of g)
bounds g = record { files = λ node. omega arith; listings = λ node. omega arith; names = λ node. tt }
