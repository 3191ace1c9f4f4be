-- The number by which the outside knows a refusal of a pool, and the words in which it is printed.
use Rattle.std.specs.Prelude.{ℕ, List, codes}
use Rattle.pools.specs.declared.refusal.Refusal.{Refusal}
use Rattle.pools.specs.declared.refusal.Refusal.TheVariants.{Unknown, Full}

abbrev pub number : Refusal → ℕ
number Unknown = 6
number Full = 9

abbrev pub reason : Refusal → List ℕ
reason Unknown = codes "there is no such application"
reason Full = codes "sixteen requests of the application wait already"
