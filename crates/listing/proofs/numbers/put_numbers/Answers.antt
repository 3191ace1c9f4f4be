use Rattle.std.proofs.Common.{◌+◌, ◌∷◌, map, get_or, drop, decimal, refl, ◌∙◌, arith}
use Rattle.fields.proofs.Puts.{left_long, put_left}
use Rattle.listing.specs.Lines.{spaced}
use Rattle.listing.proofs.Rests.{rest_more}
use Rattle.listing.proofs.numbers.put_numbers.Goals as goal

pub loop-number-preserved : goal.loop-number-preserved
loop-number-preserved c =
    let ns = c.args.numbers.now in
    let i = c.loop-number.number-index in
    let n = get_or ns i 0 in
    let rest = spaced (map decimal (drop (i + 1) ns)) in
    let more = rest_more ns i n c.loop-number-test.true refl in
    let long = left_long c.loop-number.end _ (32 ∷ decimal n) rest _ more c.put_number-end.ensures.end in (
      long ∙ c.loop-number.invariant.0,
      put_left c.loop-number.end _ (32 ∷ decimal n) rest _ c.loop-number.out more c.put_number-end.ensures.after c.put_number-end.ensures.end (omega (arith, long, c.loop-number.invariant.0)) ∙ c.loop-number.invariant.1,
    )
