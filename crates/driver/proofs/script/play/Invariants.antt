use Rattle.std.proofs.Common.{◌≡◌, ◌++◌, take, drop}
use Rattle.driver.specs.Runs.{outcomes_of}
use Rattle.driver.proofs.script.play.Given as goal

abbrev pub invariant-loop-i : goal.invariant-loop-i
invariant-loop-i g l =
    (take l.i l.outcomes ++ outcomes_of g.S.Calls.choice g.S.Calls.next (drop l.i l.commands) l.session
    ≡ outcomes_of g.S.Calls.choice g.S.Calls.next l.commands l.initial.session)
    × (drop l.i l.outcomes ≡ drop l.i l.initial.outcomes)
