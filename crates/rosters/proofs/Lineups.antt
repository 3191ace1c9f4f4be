-- What the ranges of a roster's numbers come to. Assumes nothing.
use Rattle.std.proofs.Common.{◌≡◌, ◌≤◌, true, leb, List, length, get_or, arith}
use Rattle.std.proofs.lemmas.List.Elements.{All-from_get_or}
use Rattle.std.proofs.lemmas.List.Sums.{sum_by-le}
use Rattle.std.proofs.lemmas.Bool.{and_parts, leb-true}
use Rattle.rosters.specs.Applications.{application, between, in_range, AllInRange}
use Rattle.rosters.specs.Rosters.{weights}
use Rattle.rosters.specs.declared.application.Application.{Application}

-- what the test of an application says
pub record Entitled (a : Application) : Type 0 where
  pub weight_low : 1 ≤ a.weight
  pub weight_high : a.weight ≤ 10
  pub limit_low : 256 ≤ a.limit
  pub limit_high : a.limit ≤ 65536

pub entitled : (a : Application) → in_range a ≡ true → Entitled a
entitled a h =
    let p = and_parts (between 1 10 a.weight) (between 256 65536 a.limit) h in
    let w = and_parts (leb 1 a.weight) (leb a.weight 10) p.0 in
    let m = and_parts (leb 256 a.limit) (leb a.limit 65536) p.1 in
    record {
      weight_low = leb-true 1 a.weight w.0;
      weight_high = leb-true a.weight 10 w.1;
      limit_low = leb-true 256 a.limit m.0;
      limit_high = leb-true a.limit 65536 m.1;
    }

-- sixteen applications of weight ten at most
pub weights_high : (xs : List Application) → length xs ≤ 16 → AllInRange xs → weights xs ≤ 160
weights_high xs few each =
    let h = sum_by-le (λ a. a.weight) 10 xs (All-from_get_or (λ a. a.weight ≤ 10) xs (application 0 0) (λ i l. (entitled (get_or xs i (application 0 0)) (each i (application 0 0) l)).weight_high)) in
    omega (arith, h)
