-- The largest of a list is the fold by which the clause says it.
use Rattle.std.proofs.Common.{◌≡◌, ◌∙◌, ap, map, rules, unwrap_or}
use Rattle.std.proofs.lemmas.Iterator.{YieldsList-from_map, YieldsList-from_slice}
use Rattle.std.proofs.lemmas.Iterator.Consumers.{YieldsList-at, reduce_from_yields_List}
use Rattle.std.proofs.lemmas.List.Folds.{max_of_map}
use Rattle.std.specs.List.{reduce}
use Rattle.std.specs.Ordering.{nat_cmp, max_by_ordering}
use Rattle.rosters.specs.declared.application.Application.{Application}
use Rattle.rosters.proofs.roster.Roster.largest_limit.Goals as goal

pub returns : goal.returns
returns c =
    let limit = λ (a : Application). a.limit in
    let xs = c.args.self.now.applications.items in
    let most : c.max.result ≡ reduce (λ p z. max_by_ordering (nat_cmp p z) p z) (map limit xs) =
    reduce_from_yields_List _ c.map.result c.max.result c.max.ensures.ran (YieldsList-from_map _ limit (YieldsList-at c.map.ensures.source (YieldsList-from_slice xs (cc))) c.map.ensures.closure (λ x r q k. search rules)) in
    c.unwrap_or.ensures ∙ ap (λ o. unwrap_or o 0) most ∙ max_of_map limit xs
