use Rattle.std.proofs.Common.{◌≡◌, drop}
use Rattle.bodies.specs.Bodies.{judged}
use Rattle.bodies.proofs.judge.judge_all.Given as goal

abbrev pub invariant-loop-index : goal.invariant-loop-index
invariant-loop-index g l = judged (g.J.Judge.verdict l.judge) l.index (drop l.index l.list) ≡ judged (g.J.Judge.verdict l.judge) 0 l.list
