use Rattle.std.proofs.Common.{rules}
use Rattle.rosters.proofs.Costs.{whole_cost}
use Rattle.rosters.proofs.cost.cost_of_sector.Goals as goal

pub returns-clause-whole : goal.returns-clause-whole
returns-clause-whole c = search (rules, whole_cost)
