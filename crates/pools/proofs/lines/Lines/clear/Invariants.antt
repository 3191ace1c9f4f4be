use Rattle.std.proofs.Common.{◌≡◌, [], take, map, replicate}
use Rattle.pools.specs.View.{waiting}
use Rattle.pools.proofs.lines.Lines.clear.Given as goal

abbrev pub invariant-loop-line : goal.invariant-loop-line
invariant-loop-line l = take l.line-index (map waiting l.line-items) ≡ replicate l.line-index []
