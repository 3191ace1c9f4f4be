use Rattle.replays.specs.Asked.{commands}
use Rattle.replays.proofs.Going.{Going}
use Rattle.replays.proofs.replay.playing.play.Given as goal

abbrev pub invariant-loop-event : goal.invariant-loop-event
invariant-loop-event g l = Going g.S.Calls.choice g.S.Calls.next (commands l.workload) l.initial.session l.initial.out 16 l.session l.event-index l.end l.out l.sent
