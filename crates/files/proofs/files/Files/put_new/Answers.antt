use Rattle.std.proofs.Common.{◌≡◌, true, false, ltb, length, arith}
use Rattle.std.proofs.lemmas.Bool.{lt-ltb, le-ltb}
use Rattle.files.specs.Lists.{listing}
use Rattle.files.proofs.NewFiles.{filed, wrote_all}
use Rattle.files.proofs.files.Files.put_new.Goals as goal

-- two lemmas, of which the second takes what the first gives
pub returns : goal.returns
returns c =
    let l = listing c.args.self.now in
    let file = c.in_ok-file.file in
    let made = rw c.in_ok-file.ensures.ok_part at c.create.ensures in
    let w = wrote_all c.write.result c.map_err.result c.args.bytes.now c.if-bytes-gt2048.false c.write.ensures.fits c.write.ensures.ok c.map_err.ensures.variant in
    let e = filed l (listing c.create.new.self) (listing c.write.new.self) file.number (length l.names) c.args.name.now c.args.bytes.now made.1 w.1 made.0 in
    let small : ltb 2048 (length c.args.bytes.now) ≡ false = le-ltb 2048 (length c.args.bytes.now) c.if-bytes-gt2048.false in
    let room : ltb (length l.names) 8 ≡ true = lt-ltb (length l.names) 8 (omega (arith, made.0, file.small)) in
    rw (w.0, e, small, room)
