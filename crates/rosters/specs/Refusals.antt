-- The number by which the outside knows a refusal of a roster, and its reason in words.
use Rattle.std.specs.Prelude.{ℕ, List, codes}
use Rattle.rosters.specs.declared.refusal.Refusal.{Refusal}
use Rattle.rosters.specs.declared.refusal.Refusal.TheVariants.{Full, Weight, Limit, Hold}

abbrev pub number : Refusal → ℕ
number Full = 1
number Weight = 2
number Limit = 3
number Hold = 4

abbrev pub words : Refusal → List ℕ
words Full = codes "sixteen applications are on the roster already"
words Weight = codes "a weight is 1 to 10"
words Limit = codes "a limit is 256 to 65536 sectors"
words Hold = codes "a hold is 1 to 1000000 ticks"
