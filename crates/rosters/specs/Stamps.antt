-- One application's row.
use Rattle.std.specs.Prelude.{ℕ, ◌*◌, ◌/◌, Bool, true, false, cond, ◌&&◌, Some, None, Option, nat_le, nat_lt}
use Rattle.rosters.specs.Applications.{between}
use Rattle.rosters.specs.declared.application.Application.{Application}
use Rattle.rosters.specs.declared.stamp.Stamp.{Stamp}
use Rattle.rosters.specs.declared.stamp.Status.{Status}
use Rattle.rosters.specs.declared.stamp.Status.TheVariants.{Idle, Queued, Serving}

-- what is so of an idle, a queued and a serving application
abbrev pub by_status : {X : Type 0} → Status → X → X → X → X
by_status Idle i q s = i
by_status Queued i q s = q
by_status Serving i q s = s

abbrev pub is_idle : Stamp → Bool
is_idle s = by_status s.status true false false

abbrev pub is_queued : Stamp → Bool
is_queued s = by_status s.status false true false

abbrev pub is_serving : Stamp → Bool
is_serving s = by_status s.status false false true

-- what one sector costs in virtual time: 2,520 is divisible by every weight
abbrev pub cost_of : ℕ → ℕ → ℕ
cost_of total weight = 2520 * total / weight

abbrev pub cost_answer : ℕ → ℕ → Option ℕ
cost_answer total weight = cond (between 1 10 weight) (Some (cost_of total weight)) None

-- nothing has happened yet, and the budget is as large as it may be
abbrev pub new_stamp : ℕ → Application → Stamp
new_stamp total a =
    record { weight = a.weight; limit = a.limit; cost = cost_of total a.weight; status = Idle; start = 0; finish = 0; budget = a.limit; served = 0; reached = 0 }

-- the row behind the end of the table
abbrev pub no_stamp : Stamp
no_stamp = record { weight = 0; limit = 0; cost = 0; status = Idle; start = 0; finish = 0; budget = 0; served = 0; reached = 0 }

-- a budget that the application may be given
abbrev pub may_have : ℕ → Stamp → Bool
may_have b s = nat_lt 0 b && nat_le b s.limit
