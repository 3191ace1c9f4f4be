use Rattle.std.proofs.Common.{length, fold, ap, ◌∙◌, subst, arith}
use Rattle.std.proofs.lemmas.List.{length-map, take_all}
use Rattle.records.specs.Layouts.{application_of}
use Rattle.rosters.specs.Rosters.{fresh, held}
use Rattle.replays.specs.Asked.{enroll}
use Rattle.replays.specs.Judged.{Judged}
use Rattle.replays.proofs.Accepting.{enrolled_is}
use Rattle.replays.proofs.Asking.{enroll_more}
use Rattle.replays.proofs.replay.workload.Workload.roster.Goals as goal

pub loop-bytes-preserved : goal.loop-bytes-preserved
loop-bytes-preserved c =
    let t = c.args.self.now in
    let bs = c.applications-bytes-items.result.now in
    let r = held t.settings.hold fresh in
    c.add.ensures.after ∙ ap (λ x. enroll x c.of-weight.result) c.loop-bytes.invariant
    ∙ enroll_more t bs r c.loop-bytes.bytes-index c.of-weight.result c.applications-bytes-items.ensures.applications c.of-weight.ensures c.loop-bytes-test.true

pub returns : goal.returns
returns c =
    let t = c.args.self.now in
    let is = c.applications-bytes-items.ensures.applications in
    c.loop-bytes.invariant
    ∙ ap (fold enroll (held t.settings.hold fresh)) (take_all c.loop-bytes.bytes-index t.applications (omega (arith, ap length is, length-map c.applications-bytes-items.result.now application_of)))
    ∙ enrolled_is t (subst Judged c.self.view_is c.self.invariant)
