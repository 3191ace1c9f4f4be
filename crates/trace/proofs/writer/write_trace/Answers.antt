use Rattle.files.proofs.ReadBack.{read_back as alike}
use Rattle.trace.specs.View.{given_of}
use Rattle.trace.proofs.Calls.{read_back as again}
use Rattle.trace.proofs.writer.write_trace.Goals as goal

pub returns-clause-read_back : goal.returns-clause-read_back
returns-clause-read_back c =
    let left = c.write_judged.ensures in
    again (given_of c.args.tables.now) _ _ _ left.answer left.after left.within

pub returns-clause-same_faults : goal.returns-clause-same_faults
returns-clause-same_faults c = alike (given_of c.args.tables.now)
