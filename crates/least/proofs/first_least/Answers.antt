-- Each turn leads on; what is held in the end is the choice among all.
use Rattle.std.proofs.Common.{◌≡◌, ◌∙◌, sym, subst, rules, refl, MatchOption}
use Rattle.std.specs.Option.{option_map}
use Rattle.least.specs.Choice.{FirstLeast, NoneEligible}
use Rattle.least.proofs.Places.{place_means}
use Rattle.least.proofs.Search.{leads_on, ends}
use Rattle.least.proofs.first_least.Goals as goal

pub loop-place-preserved : goal.loop-place-preserved
loop-place-preserved g c =
    let eligible = g.Q.Query.eligible c.args.query.now in
    let before = g.Q.Query.before c.args.query.now in
    let ranks = g.met.Q.Query.ranks c.args.query.now in
    let xs = c.args.items.now in
    leads_on eligible before ranks xs c.loop-place.least _ c.loop-place.place c.index-items-place.result c.loop-place.invariant c.loop-place-test.true c.index-items-place.is _ refl c.turn.ensures

pub returns : goal.returns
returns g c =
    let eligible = g.Q.Query.eligible c.args.query.now in
    let before = g.Q.Query.before c.args.query.now in
    let ranks = g.met.Q.Query.ranks c.args.query.now in
    let xs = c.args.items.now in
    let held : c.map.result ≡ option_map (λ p. p.0) c.loop-place.least = search rules in
    let is = held ∙ ends eligible before ranks xs c.loop-place.least c.loop-place.place c.loop-place.invariant c.loop-place-test.false in
    record { place = is; meaning = subst (λ o. MatchOption o (NoneEligible eligible xs) (FirstLeast eligible before xs)) (sym is) (place_means eligible before ranks xs) }
