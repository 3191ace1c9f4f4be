use Rattle.std.proofs.Common.{◌≡◌, ◌+◌, map, length, drop, decimal}
use Rattle.fields.specs.Buffers.{put}
use Rattle.listing.specs.Lines.{spaced}
use Rattle.listing.proofs.numbers.put_numbers.Given as goal

-- what is left comes to the same place, and makes the same buffer
abbrev pub invariant-loop-number : goal.invariant-loop-number
invariant-loop-number l =
    (l.end + length (spaced (map decimal (drop l.number-index l.numbers))) ≡ l.at + length (spaced (map decimal l.numbers)))
    × (put l.end (spaced (map decimal (drop l.number-index l.numbers))) l.out ≡ put l.at (spaced (map decimal l.numbers)) l.initial.out)
