use Rattle.std.proofs.Common.{arith}
use Rattle.fields.specs.Numbers.{bytes}
use Rattle.fields.proofs.Puts.{put_twice}
use Rattle.trace.proofs.writer.put_entry.Goals as goal

pub returns-clause-after : goal.returns-clause-after
returns-clause-after c =
    put_twice _ _ (bytes 4 c.args.offset) (bytes 4 c.args.count) _ c.put-end.ensures.after c.put.ensures.after c.put-end.ensures.end (omega arith)
