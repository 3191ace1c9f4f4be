use Rattle.std.proofs.Common.{decimal, arith}
use Rattle.listing.proofs.Parts.{put_three}
use Rattle.listing.proofs.lines.put_named.Goals as goal

pub returns-clause-after : goal.returns-clause-after
returns-clause-after c =
    put_three _ _ _ c.args.word.now (decimal c.args.number) c.args.last.now _ c.put_bytes-end.ensures.after c.put_decimal-end.ensures.after c.put_bytes.ensures.after c.put_bytes-end.ensures.end c.put_decimal-end.ensures.end (omega arith)
