-- A refusal of a scheduler, as the outside knows it: by its number, and in words.
use Rattle.std.specs.Prelude.{ℕ, List, codes}
use Rattle.machine.specs.declared.refusal.Refusal.{Refusal}
use Rattle.machine.specs.declared.refusal.Refusal.TheVariants.{Time, Application, Size, Sector, Full, Total, Busy, Token}

abbrev pub number : Refusal → ℕ
number Time = 5
number Application = 6
number Size = 7
number Sector = 8
number Full = 9
number Total = 10
number Busy = 11
number Token = 12

-- what is printed of it
abbrev pub words : Refusal → List ℕ
words Time = codes "the time lies before the clock, or above 2^40"
words Application = codes "there is no such application"
words Size = codes "a size is 1 to 256 sectors"
words Sector = codes "the request ends above sector 2^40"
words Full = codes "sixteen requests of the application wait already"
words Total = codes "all accepted sizes together would pass 2^40 sectors"
words Busy = codes "a request is in flight"
words Token = codes "the token is not that of the request in flight"
