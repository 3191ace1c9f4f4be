-- The table is sound, so who is served has a row, and its numbers are small.
use Rattle.std.proofs.Common.{sym}
use Rattle.std.proofs.lemmas.List.{get_or_read}
use Rattle.rosters.specs.Stamps.{no_stamp}
use Rattle.stamps.specs.View.{table}
use Rattle.stamps.proofs.Soundness.{the_sound, current}
use Rattle.stamps.proofs.table.StampTable.current.Goals as goal

pub returns : goal.returns
returns c =
    let t = table c.args.self.now in
    let sound = the_sound t c.args.self.now.sound in
    let k = c.in_ok-k.k in
    current t sound k c.in_ok-k.was c.index.result.now (sym (get_or_read _ k c.index.result.now (sound.within k c.in_ok-k.was) c.index.ensures no_stamp))
