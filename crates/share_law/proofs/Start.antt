-- The table of a roster is where the model begins: all idle, nothing sent.
use Rattle.std.proofs.Common.{◌≡◌, ℕ, zero, suc, ◌<◌, ◌≤◌, max, List, [], ◌∷◌, map, length, get_or, fold, sym, refl, ap, ◌∙◌, subst, le_trans, mul_comm, arith}
use native.Mathlib.Nat.{le-max_left, le-max_right}
use Rattle.std.proofs.lemmas.List.{length-map, get_or-map}
use Rattle.std.proofs.lemmas.List.Sums.{sum_by-cons, get_or-le-sum_by}
use Rattle.rosters.specs.Applications.{application, AllInRange}
use Rattle.rosters.specs.Rosters.{LineUp, weights, total_weight, largest_limit}
use Rattle.rosters.specs.Stamps.{new_stamp, no_stamp}
use Rattle.stamps.specs.Steps.{initial}
use Rattle.stamps.specs.Tables.{row}
use Rattle.rosters.specs.declared.application.Application.{Application}
use Rattle.rosters.proofs.Costs.{whole_cost}
use Rattle.rosters.proofs.Lineups.{Entitled, entitled}
use Rattle.share_model.specs.Model as model
use Rattle.share_model.specs.Invariant as invariant
use Rattle.share_law.specs.Shares.{entry, weight_of, limit_of, cost_in, Listed}
use Rattle.share_law.proofs.View.{line, view, getD_lines}
use Rattle.share_law.proofs.Rows.{Own, Rows}

-- no limit is above the largest
largest_from : (most : ℕ) (xs : List Application) → most ≤ fold (λ n a. max n a.limit) most xs
largest_from most [] = omega arith
largest_from most (x ∷ xs) = le_trans (le-max_left most x.limit) (largest_from (max most x.limit) xs)

limit_below : (most : ℕ) (xs : List Application) (k : ℕ) → k < length xs → (get_or xs k (application 0 0)).limit ≤ fold (λ n a. max n a.limit) most xs
limit_below most [] k h = absurd (omega arith)
limit_below most (x ∷ xs) zero h = le_trans (le-max_right most x.limit) (largest_from (max most x.limit) xs)
limit_below most (x ∷ xs) (suc k) h = limit_below (max most x.limit) xs k (omega arith)

-- the sum of the weights is the model's
weights_same : (T : ℕ) (xs : List Application) → invariant.weights (map line (map (new_stamp T) xs)) ≡ weights xs
weights_same T [] = refl
weights_same T (x ∷ xs) =
    omega (arith, sum_by-cons (λ (r : model.Row). r.weight) (line (new_stamp T x)) (map line (map (new_stamp T) xs)), sum_by-cons (λ (a : Application). a.weight) x xs, weights_same T xs)

module _ (r : LineUp) (each : AllInRange r.applications) where
  pub terms : (k : ℕ) → Listed r k → Entitled (entry r k)
  terms k h = entitled (entry r k) (each k (application 0 0) h)

  pub weight_low : (k : ℕ) → Listed r k → 1 ≤ weight_of r k
  weight_low k h = (terms k h).weight_low

  pub weight_high : (k : ℕ) → Listed r k → weight_of r k ≤ total_weight r
  weight_high k h = get_or-le-sum_by (λ (a : Application). a.weight) r.applications k (application 0 0) h

  pub limit_high : (k : ℕ) → Listed r k → limit_of r k ≤ largest_limit r
  limit_high k h = limit_below 0 r.applications k h

  first_row : (k : ℕ) → Listed r k → row (initial r) k ≡ new_stamp (total_weight r) (entry r k)
  first_row k h = get_or-map (new_stamp (total_weight r)) r.applications k (application 0 0) no_stamp h

  first_line : (k : ℕ) → Listed r k → model.row (view (initial r)) k ≡ line (new_stamp (total_weight r) (entry r k))
  first_line k h = getD_lines (initial r).stamps k no_stamp ∙ ap line (first_row k h)

  pub rows_start : Rows r (initial r).stamps
  rows_start = record {
    all = length-map r.applications (new_stamp (total_weight r));
    own = λ k h.
        subst (Own r k) (sym (first_row k (omega (arith, length-map r.applications (new_stamp (total_weight r))))))
        (record { weight = refl; limit = refl; cost = refl; finish = λ q. let z : ◌≡◌ {A = ℕ} 0 1 = cc in absurd (omega arith) });
  }

  pub fresh : invariant.Fresh (total_weight r) (largest_limit r) (view (initial r))
  fresh = record {
    clock = refl;
    nobody = refl;
    total = weights_same (total_weight r) r.applications;
    terms = λ k h.
        let listed = within k h in
        subst (λ x. invariant.Terms (total_weight r) (largest_limit r) x.weight x.limit x.cost) (sym (first_line k listed))
        (record { some = weight_low k listed; within = limit_high k listed; rate = mul_comm (weight_of r k) (cost_in r k) ∙ whole_cost (weight_of r k) (total_weight r) (weight_low k listed) (terms k listed).weight_high });
    resting = λ k h. ap (λ x. x.status) (first_line k (within k h));
  }
    where
      within : (k : ℕ) → k < length (view (initial r)).rows → Listed r k
      within k h = omega (arith, length-map (initial r).stamps line, length-map r.applications (new_stamp (total_weight r)))
