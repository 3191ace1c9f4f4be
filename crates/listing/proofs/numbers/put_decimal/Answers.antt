use Rattle.std.proofs.Common.{◌≡◌, ◌+◌, ◌++◌, take, drop, decimal, subst, arith}
use Rattle.listing.proofs.Digits.{put_ending}
use Rattle.listing.proofs.numbers.put_decimal.Goals as goal

pub returns-clause-after : goal.returns-clause-after
returns-clause-after c =
    let at : c.write_digits.result ≡ c.args.at = omega (arith, c.write_digits.ensures.start, c.width.ensures) in
    let out = c.write_digits.new.buf in
    put_ending c.args.at (c.args.at + c.width.result) (decimal c.args.number) c.args.out.now out (omega (arith, c.width.ensures))
    (subst (λ n. take n out ≡ take n c.args.out.now) at c.write_digits.ensures.before)
    (subst (λ n. drop n out ≡ decimal c.args.number ++ drop (c.args.at + c.width.result) c.args.out.now) at c.write_digits.ensures.written)
