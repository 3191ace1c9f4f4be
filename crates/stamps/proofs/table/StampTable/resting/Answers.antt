-- The table is sound, so the row's numbers are small.
use Rattle.std.proofs.Common.{◌≡◌, MatchOption, None, rules}
use Rattle.rosters.specs.Stamps.{is_idle}
use Rattle.std.specs.Bool.{then_some}
use Rattle.stamps.specs.View.{table}
use Rattle.stamps.proofs.Soundness.{the_sound, resting}
use Rattle.stamps.proofs.table.StampTable.resting.Goals as goal

pub returns : goal.returns
returns c =
    let t = table c.args.self.now in
    let kept : MatchOption c.stamp.result (c.filter.result ≡ None) (λ s. c.filter.result ≡ then_some (is_idle s) s) = search rules in
    resting t (the_sound t c.args.self.now.sound) c.args.application c.stamp.result c.filter.result c.stamp.ensures kept
