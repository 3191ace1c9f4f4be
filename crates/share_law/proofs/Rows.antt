-- What each operation leaves of the rows: what an application is entitled to, and the finish of the queued.
use Rattle.std.proofs.Common.{◌≡◌, ℕ, ◌+◌, ◌*◌, ◌<◌, true, false, ◌⊎◌, List, length, get_or, set, sym, refl, ◌∙◌, subst, inl, inr, arith}
use Rattle.std.proofs.lemmas.List.{length-set, get_or-set_same, get_or-set_other}
use Rattle.std.proofs.lemmas.Bool.{cases_eq, false≢true}
use Rattle.rosters.specs.Rosters.{LineUp}
use Rattle.rosters.specs.Stamps.{by_status, is_idle, is_queued, is_serving, no_stamp}
use Rattle.stamps.specs.Rows.{wake_stamp, serve_stamp, charge_stamp, with_budget, rest_stamp, requeue_stamp}
use Rattle.rosters.specs.declared.stamp.Stamp.{Stamp}
use Rattle.rosters.specs.declared.stamp.Status.{Status}
use Rattle.rosters.specs.declared.stamp.Status.TheVariants.{Idle, Queued, Serving}
use Rattle.share_law.specs.Shares.{weight_of, limit_of, cost_in}

-- the row of application k: what it is entitled to stays, and a queued one has its whole budget ahead of it
pub record Own (r : LineUp) (k : ℕ) (s : Stamp) : Type 0 where
  pub weight : s.weight ≡ weight_of r k
  pub limit : s.limit ≡ limit_of r k
  pub cost : s.cost ≡ cost_in r k
  pub finish : is_queued s ≡ true → s.finish ≡ s.start + s.budget * s.cost

pub record Rows (r : LineUp) (xs : List Stamp) : Type 0 where
  pub all : length xs ≡ length r.applications
  pub own : (k : ℕ) → k < length xs → Own r k (get_or xs k no_stamp)

pub rows_set : (r : LineUp) (xs : List Stamp) (k : ℕ) (new : Stamp) → k < length xs → Own r k new → Rows r xs → Rows r (set xs k new)
rows_set r xs k new inside here rows = record { all = length-set xs k new ∙ rows.all; own = λ j h. own j (omega (arith, length-set xs k new)) (cases_eq j k) }
  where
    own : (j : ℕ) → j < length xs → (j ≡ k) ⊎ (j ≡ k → ⊥) → Own r j (get_or (set xs k new) j no_stamp)
    own j h (inl e) = subst (λ i. Own r i (get_or (set xs k new) i no_stamp)) (sym e) (subst (Own r k) (sym (get_or-set_same xs k new no_stamp inside)) here)
    own j h (inr ne) = subst (Own r j) (sym (get_or-set_other xs k j new no_stamp ne)) (rows.own j h)

-- what the tests of a status tell of each other
pub idle_not_queued : (s : Stamp) → is_idle s ≡ true → is_queued s ≡ false
idle_not_queued s h = go s.status h
  where
    go : (st : Status) → by_status st true false false ≡ true → by_status st false true false ≡ false
    go Idle h = refl
    go Queued h = absurd (false≢true h)
    go Serving h = refl

pub serving_not_queued : (s : Stamp) → is_serving s ≡ true → is_queued s ≡ false
serving_not_queued s h = go s.status h
  where
    go : (st : Status) → by_status st false false true ≡ true → by_status st false true false ≡ false
    go Idle h = refl
    go Queued h = absurd (false≢true h)
    go Serving h = refl

-- each operation's row
module _ (r : LineUp) (k : ℕ) (s : Stamp) (own : Own r k s) where
  pub own_woken : (v : ℕ) → Own r k (wake_stamp v s)
  own_woken v = record { weight = own.weight; limit = own.limit; cost = own.cost; finish = λ _. refl }

  pub own_allotted : (b : ℕ) → is_idle s ≡ true → Own r k (with_budget b s)
  own_allotted b idle = record { weight = own.weight; limit = own.limit; cost = own.cost; finish = λ q. absurd (false≢true (sym (idle_not_queued s idle) ∙ q)) }

  pub own_picked : Own r k (serve_stamp s)
  own_picked = record { weight = own.weight; limit = own.limit; cost = own.cost; finish = λ q. absurd (false≢true q) }

  pub own_charged : (size : ℕ) → is_serving s ≡ true → Own r k (charge_stamp size s)
  own_charged size serves = record { weight = own.weight; limit = own.limit; cost = own.cost; finish = λ q. absurd (false≢true (sym (serving_not_queued s serves) ∙ q)) }

  pub own_rested : (b : ℕ) → Own r k (rest_stamp b s)
  own_rested b = record { weight = own.weight; limit = own.limit; cost = own.cost; finish = λ q. absurd (false≢true q) }

  pub own_requeued : (b : ℕ) → Own r k (requeue_stamp b s)
  own_requeued b = record { weight = own.weight; limit = own.limit; cost = own.cost; finish = λ _. refl }
