use Rattle.std.proofs.Common.{map, decimal, arith}
use Rattle.listing.specs.Lines.{spaced}
use Rattle.listing.proofs.Parts.{put_three}
use Rattle.listing.proofs.lines.put_timed.Goals as goal

pub returns-clause-after : goal.returns-clause-after
returns-clause-after c =
    put_three _ _ _ (decimal c.args.time) c.args.word.now (spaced (map decimal c.args.numbers.now)) _ c.put_decimal-end.ensures.after c.put_bytes-end.ensures.after c.put_numbers.ensures.after c.put_decimal-end.ensures.end c.put_bytes-end.ensures.end (omega arith)
