use Rattle.std.proofs.Common.{rules}
use Rattle.records.specs.Layouts.{application_of}
use Rattle.bodies.specs.Judging.{judge_member}
use Rattle.bodies.proofs.Judged.{judged_map}
use Rattle.files.specs.Reading.{pieces}
use Rattle.trace.proofs.trace.split.Split.judge_roster.Goals as goal

pub returns : goal.returns
returns c =
    let same = judged_map application_of judge_member 0 (pieces 8 c.args.self.now.applications.bytes.now) in
    search rules
