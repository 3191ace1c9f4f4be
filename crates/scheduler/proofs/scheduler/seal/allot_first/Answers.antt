-- One application after another gets its first budget.
use Rattle.std.proofs.Common.{◌<◌, length, ap, ◌∙◌, ap₂, rules}
use Rattle.stamps.specs.Steps.{allotted}
use Rattle.stamps.specs.Tables.{row}
use Rattle.stamps.specs.View.{table}
use Rattle.scheduler.proofs.Firsts.{one_more}
use Rattle.scheduler.proofs.scheduler.seal.allot_first.Goals as goal

pub loop-k-preserved : goal.loop-k-preserved
loop-k-preserved g c =
    let first = g.R.BudgetRule.first_budget in
    let t = table c.args.stamps.now in
    let k = c.loop-k.k in
    let h : k < length t.stamps = search rules in
    let w = c.requires in
    let fit = g.met.R.BudgetRule.first_fits (row t k).limit (w.limit_low k h) (w.limit_high k h) in
    let b_is = c.first-budget.ensures ∙ ap (λ s. first s.limit) c.row-stamp.ensures ∙ ap (λ x. first (row x k).limit) c.loop-k.invariant in
    c.allot.ensures.after ∙ ap₂ (λ b x. allotted k b x) b_is c.loop-k.invariant ∙ one_more first t k h w fit
