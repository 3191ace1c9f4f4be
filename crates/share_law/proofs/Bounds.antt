-- The bound in sectors: its figures are in range, it is the least that will do, and the law gives it its meaning.
use Rattle.std.proofs.Common.{◌≡◌, ℕ, suc, ◌+◌, ◌*◌, ◌<◌, ◌≤◌, max, List, [], ◌∷◌, length, Some, fold, subst, ⊎_elim, mul-le-mul_left, arith}
use Rattle.std.proofs.lemmas.Option.{slice_get_within, get_or_from_slice_get}
use Rattle.std.proofs.lemmas.Grind.{div_ceil_times}
use Rattle.std.proofs.lemmas.Bool.{cases_lt}
use Rattle.std.specs.List.{slice_get}
use Rattle.rosters.specs.Applications.{application, AllInRange}
use Rattle.rosters.specs.Rosters.{LineUp, total_weight, largest_limit}
use Rattle.rosters.specs.declared.application.Application.{Application}
use Rattle.rosters.proofs.Lineups.{entitled, weights_high}
use Rattle.share_law.specs.Shares.{entry, weight_of, limit_of, Listed}
use Rattle.share_law.specs.Bounds.{allowed, rounded_up, Bound, InRange}
use Rattle.share_law.proofs.Law.{law}
use Rattle.share_law.proofs.Start.{terms, weight_high}

-- an application of that number
found : (r : LineUp) (k : ℕ) (a : Application) → slice_get r.applications k ≡ Some a → Listed r k × (entry r k ≡ a)
found r k a e = (slice_get_within r.applications k a e, get_or_from_slice_get r.applications k a (application 0 0) e)

-- no lower number will do than one of which the d-fold is less than d above n
lowest : (d n b c : ℕ) → b * d < n + d → n ≤ d * c → b ≤ c
lowest d n b c near h = ⊎_elim (λ less. absurd (omega (arith, mul-le-mul_left {m = c + 1} {n = b} d (omega arith)))) (λ above. above) (cases_lt c b)

largest_high : (most : ℕ) (xs : List Application) → most ≤ 65536 → AllInRange xs → fold (λ n a. max n a.limit) most xs ≤ 65536
largest_high most [] h each = h
largest_high most (x ∷ xs) h each =
    largest_high (max most x.limit) xs (omega (arith, (entitled x (each 0 x (omega arith))).limit_high)) (λ k d w. each (suc k) d (omega arith))

module _ (r : LineUp) (few : length r.applications ≤ 16) (each : AllInRange r.applications) (k : ℕ) where
  in_range : Listed r k → InRange (total_weight r) (largest_limit r) (weight_of r k) (limit_of r k)
  in_range h =
      let own = terms r each k h in
      let heavy = weight_high r each k h in
      record {
        some_weight = omega (arith, own.weight_low, heavy);
        weights_few = weights_high r.applications few each;
        own_weight = heavy;
        own_limit = own.limit_high;
        other_limits = largest_high 0 r.applications (omega arith) each;
      }

  bound : Listed r k → Bound r k (rounded_up (allowed r (entry r k)) (total_weight r))
  bound h =
      let n = allowed r (entry r k) in
      let T = total_weight r in
      let near = div_ceil_times n T (in_range h).some_weight in
      let enough : n ≤ T * rounded_up n T = omega (arith, near.0) in
      record {
        enough = enough;
        least = λ c. lowest T n (rounded_up n T) c near.1;
        holds = λ before stretch never. omega (arith, (law r few each).share_bound before stretch k h never, enough);
      }

  -- the same by the entry that is read
  module _ (a : Application) (is : slice_get r.applications k ≡ Some a) where
    pub figures : InRange (total_weight r) (largest_limit r) a.weight a.limit
    figures = let there = found r k a is in subst (λ x. InRange (total_weight r) (largest_limit r) x.weight x.limit) there.1 (in_range there.0)

    pub bounded : Bound r k (rounded_up (allowed r a) (total_weight r))
    bounded = let there = found r k a is in subst (λ x. Bound r k (rounded_up (allowed r x) (total_weight r))) there.1 (bound there.0)
