-- The table of worked figures: a roster of application 0, of weight 1 and limit 256, and application 1, of
-- weight 3 and limit 512, so that T is 4; and some rows of their own.
use Rattle.std.specs.Prelude.{◌≡◌, ℕ, true, false, List, [], ◌∷◌, Some, None}
use Rattle.rosters.specs.Stamps.{cost_of}
use Rattle.rosters.specs.declared.stamp.Stamp.{Stamp}
use Rattle.rosters.specs.declared.stamp.Status.{Status}
use Rattle.rosters.specs.declared.stamp.Status.TheVariants.{Idle, Queued, Serving}
use Rattle.stamps.specs.Rows.{queued_at, wake_stamp, requeue_stamp, moved}
use Rattle.stamps.specs.Steps.{eligible, fits, pick_answer, pick_time}
use Rattle.stamps.specs.Tables.{Table}
use Rattle.pools.specs.Budgets.{feedback_first, feedback_next, steady_first, steady_next}
use Rattle.pools.specs.Choices.{next_ahead, oldest}
use Rattle.pools.specs.declared.request.Kind.TheVariants.{Asynchronous, Synchronous}
use Rattle.pools.specs.declared.request.Request.{Request}
use Rattle.pools.specs.declared.rule.Reason.TheVariants.{Exhausted, HoldRanOut, RanDry}
use Rattle.histories.specs.History.{Idle as IdleAt, Known}

-- rows of the two applications
abbrev row_0 : Status → ℕ → ℕ → Stamp
row_0 status start finish = record { weight = 1; limit = 256; cost = 10080; status = status; start = start; finish = finish; budget = 256; served = 0; reached = 0 }

abbrev row_1 : Status → ℕ → ℕ → ℕ → ℕ → Stamp
row_1 status start finish served reached = record { weight = 3; limit = 512; cost = 3360; status = status; start = start; finish = finish; budget = 512; served = served; reached = reached }

-- both queued from 0 on
abbrev both : Table
both = record { virtual = 0; sent = 0; serving = None; stamps = row_0 Queued 0 2580480 ∷ row_1 Queued 0 1720320 0 0 ∷ [] }

-- application 1 has sent 400 of its 512 sectors
abbrev half_way : Table
half_way = record { virtual = 1008000; sent = 400; serving = Some 1; stamps = row_0 Queued 0 2580480 ∷ row_1 Serving 0 1720320 400 0 ∷ [] }

-- queued from 500 and from 700 on, at the virtual time 100
abbrev not_yet : Table
not_yet = record { virtual = 100; sent = 0; serving = None; stamps = row_0 Queued 500 2580980 ∷ row_1 Queued 700 1721020 0 0 ∷ [] }

-- requests wait at these sectors, in the order of their coming
abbrev at_sector : ℕ → Request
at_sector n = record { number = 0; application = 0; first = n; size = 1; kind = Asynchronous }

abbrev waiting : List Request
waiting = at_sector 9000 ∷ at_sector 4000 ∷ at_sector 5000 ∷ at_sector 4000 ∷ at_sector 5000 ∷ []

-- nothing waits or is outstanding, and a synchronous request was done at 2
abbrev done_at_2 : Known
done_at_2 = record { waiting = []; outstanding = []; latest = Some (record { time = 2; kind = Synchronous }) }

pub record Figures : Type 0 where
  -- what a sector costs
  pub cost_at_weight_3 : cost_of 4 3 ≡ 3360
  pub cost_at_weight_1 : cost_of 4 1 ≡ 10080
  -- a finish: start 0, 512 sectors at 3,360
  pub finish_of_512 : (queued_at 0 (row_1 Idle 0 0 0 0)).finish ≡ 1720320
  -- the earlier finish is picked
  pub picked_by_finish : pick_answer both ≡ Some 1
  -- 200 sectors move virtual time
  pub moved_by_200 : moved 0 200 ≡ 504000
  -- 112 sectors more fit, and 113 do not
  pub last_that_fits : fits 1 112 half_way ≡ true
  pub first_too_many : fits 1 113 half_way ≡ false
  -- queued again after 400 sectors
  pub requeued_start : (requeue_stamp 512 (row_1 Serving 0 1720320 400 0)).start ≡ 1344000
  pub requeued_finish : (requeue_stamp 512 (row_1 Serving 0 1720320 400 0)).finish ≡ 3064320
  -- a wake starts no earlier than virtual time
  pub woken_start : (wake_stamp 2000000 (row_1 Idle 0 1720320 400 1344000)).start ≡ 2000000
  pub woken_where_it_was : (wake_stamp 1000000 (row_1 Idle 0 1720320 400 1344000)).start ≡ 1344000
  -- virtual time is pushed to the least start, by which one has started and the other has not
  pub pushed_time : pick_time not_yet ≡ 500
  pub started_by_then : eligible 500 (row_0 Queued 500 2580980) ≡ true
  pub not_started_by_then : eligible 500 (row_1 Queued 700 1721020 0 0) ≡ false
  -- which request is next: the oldest; or the one at the head, of two the older; or onward; or from the start
  pub first_come_oldest : oldest waiting 5000 ≡ 0
  pub sweep_at_head : next_ahead waiting 5000 ≡ 2
  pub sweep_onward : next_ahead waiting 5001 ≡ 0
  pub sweep_starts_again : next_ahead waiting 9001 ≡ 1
  -- budgets at a limit of 2,048
  pub steady_begins : steady_first 2048 ≡ 2048
  pub steady_stays : steady_next 2048 300 300 HoldRanOut ≡ 2048
  pub feedback_begins : feedback_first 2048 ≡ 256
  pub exhausted_fourfold : feedback_next 2048 256 256 Exhausted ≡ 1024
  pub exhausted_to_limit : feedback_next 2048 1024 1024 Exhausted ≡ 2048
  pub hold_costs_an_eighth : feedback_next 2048 2048 100 HoldRanOut ≡ 1792
  pub hold_leaves_the_least : feedback_next 2048 300 100 HoldRanOut ≡ 256
  pub dry_keeps : feedback_next 2048 1792 100 RanDry ≡ 1792
  -- idle: with a hold of 5, done at 2, it is not idle at 6, and is at 7
  pub not_idle_at_6 : IdleAt 5 6 done_at_2 → ⊥
  pub idle_at_7 : IdleAt 5 7 done_at_2
