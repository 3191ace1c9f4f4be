-- The roster's table waits for its first budgets, and the promises stand for every lawful pool and rule.
use Rattle.std.proofs.Common.{sym, subst, rules}
use Rattle.histories.proofs.Kept.{kept}
use Rattle.histories.specs.Promises.{Lawful, Sealed}
use Rattle.rosters.specs.Rosters.{line_up}
use Rattle.share_law.proofs.Law.{law}
use Rattle.scheduler.specs.Sealing.{Waiting}
use Rattle.scheduler.proofs.Firsts.{begins_waiting}
use Rattle.scheduler.proofs.scheduler.seal.seal.Goals as goal

pub allot_first-requires : goal.allot_first-requires
allot_first-requires g c = subst Waiting (sym c.new-table.ensures) (begins_waiting (line_up c.args.roster) c.args.roster.each)

pub returns-clause-promises : goal.returns-clause-promises
returns-clause-promises g c =
    let roster = c.args.roster in
    let sealed : Sealed (line_up roster) = record { some = search rules; few = search rules; each = roster.each; hold_low = roster.hold_low; hold_high = roster.hold_high } in
    let lawful : Lawful g.P.Pool.choice g.R.BudgetRule.first_budget g.R.BudgetRule.next_budget = record { within = g.met.P.Pool.within; first_fits = g.met.R.BudgetRule.first_fits; next_fits = g.met.R.BudgetRule.next_fits } in
    kept g.P.Pool.choice g.R.BudgetRule.first_budget g.R.BudgetRule.next_budget lawful (line_up roster) sealed (law (line_up roster) sealed.few sealed.each)
