use Rattle.std.proofs.Common.{length, decimal, sym, ap, ◌∙◌, arith}
use Rattle.std.proofs.lemmas.Fmt.{decimal_digit}
use Rattle.listing.proofs.Digits.{digits_of_power}
use Rattle.listing.proofs.numbers.width.Goals as goal

pub returns-in-Some : goal.returns-in-Some
returns-in-Some c = sym (digits_of_power c.in-Some.power c.args.number c.in-Some.ensures.power_le c.in-Some.ensures.next_power_gt (omega arith))

pub returns-in-None : goal.returns-in-None
returns-in-None c = sym (ap (λ n. length (decimal n)) c.in-None.ensures.none ∙ ap length (decimal_digit 0 (omega arith)))
