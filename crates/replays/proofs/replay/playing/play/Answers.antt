use Rattle.std.proofs.Common.{[], sym, subst, arith}
use Rattle.listing.proofs.Near.{small}
use Rattle.listing.specs.Near.{Small}
use Rattle.driver.specs.Runs.{time_of}
use Rattle.replays.specs.Asked.{commands}
use Rattle.replays.proofs.Asking.{command_count, command_read}
use Rattle.replays.proofs.Going.{going_more, ends_same}
use Rattle.replays.proofs.replay.playing.play.Goals as goal

pub event_line_is_short-requires : goal.event_line_is_short-requires
event_line_is_short-requires g c =
    let call = c.command-command.result in
    subst (Small (time_of call)) (sym c.step-outcome.ensures.outcome) (small g.S.Calls.choice g.S.Calls.next call c.loop-event.session (c.loop-event.invariant.near [] tt))

pub loop-event-preserved : goal.loop-event-preserved
loop-event-preserved g c =
    let t = c.args.workload.now in
    let es = c.events-event-items.result.now in
    let is = c.events-event-items.ensures.events in
    let i = c.loop-event.event-index in
    going_more g.S.Calls.choice g.S.Calls.next (commands t) c.args.session.now c.args.out.now 16 c.loop-event.session _ i c.loop-event.end _ c.loop-event.out _ c.loop-event.sent _ c.command-command.result c.step-outcome.result c.loop-event.invariant
    (omega (arith, command_count t es is)) (command_read t es is i c.command-command.result c.command-command.ensures c.loop-event-test.true)
    c.step-outcome.ensures.outcome c.step-outcome.ensures.after c.event_line_is_short.ensures c.put_event-end.ensures.end
    c.put_event-end.ensures.after c.credit.ensures c.credit.array_long
    (omega (arith, c.loop-event.invariant.low, c.events-event-items.ensures.few))

pub returns-clause-after : goal.returns-clause-after
returns-clause-after g c =
    ends_same g.S.Calls.choice g.S.Calls.next (commands c.args.workload.now) c.args.session.now c.args.out.now 16 c.loop-event.session c.loop-event.event-index c.loop-event.end c.loop-event.out c.loop-event.sent c.loop-event.invariant
    (omega (arith, command_count c.args.workload.now c.events-event-items.result.now c.events-event-items.ensures.events))
