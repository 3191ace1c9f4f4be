-- The figures are in range because the roster's are; the rest is the law.
use Rattle.std.proofs.Common.{◌≡◌, ◌≤◌, length, sym, ◌∙◌, subst, arith, rules}
use Rattle.rosters.specs.Rosters.{line_up, total_weight}
use Rattle.rosters.specs.declared.roster.Roster.{Roster}
use Rattle.share_law.specs.Bounds.{Bound, allowed, rounded_up}
use Rattle.share_law.proofs.Bounds.{figures, bounded}
use Rattle.share_law.proofs.Law.{law}
use Rattle.share_law.proofs.bound_in_sectors.Goals as goal

few : (x : Roster) → length (line_up x).applications ≤ 16
few x = omega (arith, x.few, x.applications.ok.0)

pub returns-in_err-entry-clause-law : goal.returns-in_err-entry-clause-law
returns-in_err-entry-clause-law c = let x = c.args.roster.now in law (line_up x) (few x) x.each

pub rounded_bound-requires : goal.rounded_bound-requires
rounded_bound-requires c =
    let x = c.args.roster.now in
    grind (arith, figures (line_up x) (few x) x.each c.args.application c.in_ok-entry.entry (sym c.application.ensures ∙ c.in_ok-entry.was))

pub returns-clause-bound : goal.returns-clause-bound
returns-clause-bound c =
    let x = c.args.roster.now in
    let r = line_up x in
    let is : c.rounded_bound.result ≡ rounded_up (allowed r c.in_ok-entry.entry) (total_weight r) = search rules in
    subst (Bound r c.args.application) (sym is) (bounded r (few x) x.each c.args.application c.in_ok-entry.entry (sym c.application.ensures ∙ c.in_ok-entry.was))

pub returns-clause-law : goal.returns-clause-law
returns-clause-law c = let x = c.args.roster.now in law (line_up x) (few x) x.each
