use Rattle.std.proofs.Common.{◌≡◌, take, fold}
use Rattle.rosters.specs.Rosters.{fresh, held, line_up}
use Rattle.replays.specs.Asked.{enroll}
use Rattle.replays.proofs.replay.workload.Workload.roster.Given as goal

-- the applications so far are enrolled
abbrev pub invariant-loop-bytes : goal.invariant-loop-bytes
invariant-loop-bytes l = line_up l.roster ≡ fold enroll (held l.self.settings.hold fresh) (take l.bytes-index l.self.applications)
