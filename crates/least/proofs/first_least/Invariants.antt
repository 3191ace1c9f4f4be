use Rattle.least.proofs.Search.{Leads}
use Rattle.least.proofs.first_least.Given as goal

abbrev pub invariant-loop-place : goal.invariant-loop-place
invariant-loop-place g l = Leads (g.Q.Query.eligible l.query) (g.Q.Query.before l.query) l.items l.least l.place
