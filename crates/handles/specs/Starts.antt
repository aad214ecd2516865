-- What is open from the start.
use Rattle.std.specs.Prelude.{◌≡◌, ℕ, false, List, [], ◌∷◌, replicate}
use Rattle.host.specs.declared.answers.StandardStream.{StandardStream}
use Rattle.host.specs.declared.answers.Preopen.{Preopen}
use Rattle.host.specs.declared.answers.Start.{Start}
use Rattle.host.specs.Laws.{preopens}
use Rattle.handles.specs.declared.open.Node.TheVariants.{Directory}
use Rattle.handles.specs.declared.open.Open.{Open}
use Rattle.handles.specs.declared.open.Open.TheVariants.{Free, Node, Stdin, Stdout, Stderr}
use Rattle.handles.specs.Names.{slash}

-- the directory may be read and written
abbrev pub root : Open
root = Node (record { node = Directory; flags = record { 0 = 3 } })

abbrev pub started : List Open
started = Stdin ∷ Stdout ∷ Stderr ∷ root ∷ replicate 76 Free

-- the stream is behind the handle, and is no terminal
abbrev pub Standard : StandardStream → ℕ → Type 0
Standard stream h = (stream.handle.0 ≡ h) × (stream.terminal ≡ false)

abbrev pub Gives : Start → Type 0
Gives r = Standard r.stdin 0 × Standard r.stdout 1 × Standard r.stderr 2 × ((p : Preopen) × (preopens r ≡ p ∷ []) × (p.handle.0 ≡ 3) × (p.name.items ≡ slash ∷ []))
