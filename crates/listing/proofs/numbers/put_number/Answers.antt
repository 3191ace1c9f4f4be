use Rattle.std.proofs.Common.{[], ◌∷◌, decimal, arith}
use Rattle.fields.proofs.Puts.{put_twice}
use Rattle.listing.proofs.numbers.put_number.Goals as goal

pub returns-clause-after : goal.returns-clause-after
returns-clause-after c = put_twice _ _ (32 ∷ []) (decimal c.args.number) _ c.put_bytes-end.ensures.after c.put_decimal.ensures.after c.put_bytes-end.ensures.end (omega arith)
