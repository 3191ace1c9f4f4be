use Rattle.std.proofs.Common.{◌≡◌, ◌++◌, length, vec_items}
use Rattle.pools.specs.Lines.{line}
use Rattle.order.specs.Sending.{sending}
use Rattle.order.proofs.sending.sending_order.Given as goal

abbrev pub invariant-loop-request : goal.invariant-loop-request
invariant-loop-request g l = vec_items l.sent ++ sending g.P.Pool.choice (line (g.P.Pool.lists l.pool) 0) l.at ≡ sending g.P.Pool.choice (line (g.P.Pool.lists l.initial.pool) 0) l.head

abbrev pub decreases-loop-request : goal.decreases-loop-request
decreases-loop-request g l = length (line (g.P.Pool.lists l.pool) 0)
