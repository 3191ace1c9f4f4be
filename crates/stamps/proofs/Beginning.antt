-- A table is sound when it is made from a roster. Assumes nothing.
use Rattle.std.proofs.Common.{◌≡◌, ℕ, ◌*◌, ◌<◌, ◌≤◌, false, length, get_or, sym, refl, subst, le_trans, div-le_self, arith}
use lib.ListN.{length-map}
use Rattle.std.proofs.lemmas.List.{get_or-map}
use Rattle.rosters.specs.Applications.{application, AllInRange}
use Rattle.rosters.specs.Rosters.{LineUp, total_weight}
use Rattle.rosters.specs.Stamps.{new_stamp, no_stamp, is_serving}
use Rattle.rosters.proofs.Lineups.{Entitled, entitled, weights_high}
use Rattle.stamps.specs.Steps.{initial}
use Rattle.stamps.specs.Tables.{Modest, Sound}
use Rattle.rosters.specs.declared.application.Application.{Application}

pub initial_sound : (r : LineUp) → length r.applications ≤ 16 → AllInRange r.applications → Sound (initial r)
initial_sound r few each =
    let xs = r.applications in
    let total = total_weight r in
    let f = new_stamp total in
    record {
      few = omega (arith, length-map xs f);
      sectors = omega arith;
      pace = omega arith;
      each = λ k h. let l : k < length xs = omega (arith, length-map xs f) in subst (Modest 0) (sym (get_or-map f xs k (application 0 0) no_stamp l)) (modest (get_or xs k (application 0 0)) (entitled (get_or xs k (application 0 0)) (each k (application 0 0) l)));
      one = λ k h. let l : k < length xs = omega (arith, length-map xs f) in subst (λ s. is_serving s ≡ false) (sym (get_or-map f xs k (application 0 0) no_stamp l)) refl;
      within = λ k e. let z : ◌≡◌ {A = ℕ} 0 1 = cc in absurd (omega arith);
    }
  where
    modest : (a : Application) → Entitled a → Modest 0 (new_stamp (total_weight r) a)
    modest a t =
        record {
          cost_high = le_trans (div-le_self (2520 * total_weight r) a.weight) (omega (arith, weights_high r.applications few each));
          limit_high = t.limit_high;
          budget_low = omega (arith, t.limit_low);
          budget_high = omega arith;
          served_high = omega arith;
          start_high = omega arith;
          reached_high = omega arith;
          position_high = omega arith;
          finish_high = omega arith;
        }
