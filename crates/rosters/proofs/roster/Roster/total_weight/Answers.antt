-- Sixteen weights of ten at most fit.
use Rattle.std.proofs.Common.{arith, rules}
use Rattle.std.proofs.iter.runs.Sources.{sums}
use Rattle.rosters.proofs.Lineups.{weights_high}
use Rattle.rosters.proofs.roster.Roster.total_weight.Goals as goal

pub sum-requires-clause-fits : goal.sum-requires-clause-fits
sum-requires-clause-fits c =
    let x = c.args.self.now in
    let high = weights_high x.applications.items (omega (arith, x.applications.ok.0)) x.each in
    search (rules, sums, high)
