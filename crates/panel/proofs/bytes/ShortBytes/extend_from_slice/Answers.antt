-- By hand: the search does not close it, since it would have to guess what was read so far.
use Rattle.std.proofs.Common.{rules, append_assoc, append-nil, ◌++◌, take, ◌∙◌, sym, ap}
use Rattle.std.proofs.lemmas.List.{take_all, take_more}
use Rattle.panel.specs.Bytes.{bytes_of}
use Rattle.panel.proofs.Capped.{capped_more}
use Rattle.panel.proofs.Short.{bytes_short}
use Rattle.panel.proofs.bytes.ShortBytes.extend_from_slice.Goals as goal

pub loop-byte-init : goal.loop-byte-init
loop-byte-init c =
    let was = bytes_of c.args.self.now in
    sym (ap (take 16) (append-nil was) ∙ take_all 16 was (bytes_short c.args.self.now))

pub loop-byte-preserved : goal.loop-byte-preserved
loop-byte-preserved c =
    let so_far = bytes_of c.args.self.now ++ take c.loop-byte.byte-index c.args.bytes.now in
    capped_more 16 so_far _ _ _ c.loop-byte.invariant c.push.ensures
    ∙ search (rules, append_assoc, take_more)
