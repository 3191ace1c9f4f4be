-- The promises are the sealing call's, at the history that the script makes.
use Rattle.std.proofs.Common.{take}
use Rattle.histories.proofs.Reachable.{recorded_runs}
use Rattle.machine.specs.Machine.{beginning}
use Rattle.rosters.specs.Rosters.{line_up}
use Rattle.driver.specs.Runs.{calls_of, history}
use Rattle.driver.proofs.script.run.Goals as goal

pub returns-clause-promises : goal.returns-clause-promises
returns-clause-promises g c =
    let choice = g.P.Pool.choice in
    let next = g.R.BudgetRule.next_budget in
    let start = beginning g.R.BudgetRule.first_budget (line_up c.args.roster) in
    let cs = take c.min-count.result c.args.commands.now in
    c.seal.ensures.promises (history choice next cs start) (recorded_runs choice next start (calls_of choice next cs start))
