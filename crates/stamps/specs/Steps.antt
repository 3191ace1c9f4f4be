-- The operations of the stamp table, each for every table: what it answers, and what it leaves. One that
-- is out of place changes nothing.
use Rattle.std.specs.Prelude.{ℕ, ◌+◌, ◌^◌, max, Bool, false, cond, ◌&&◌, map, length, Some, None, Option, nat_le, nat_lt, slice_set}
use Rattle.least.specs.Choice.{place}
use Rattle.rosters.specs.Rosters.{LineUp, total_weight}
use Rattle.rosters.specs.Stamps.{is_idle, is_queued, new_stamp, may_have}
use Rattle.stamps.specs.Rows.{wake_stamp, serve_stamp, charge_stamp, with_budget, rest_stamp, requeue_stamp, moved}
use Rattle.stamps.specs.Tables.{Table, row}
use Rattle.rosters.specs.declared.stamp.Stamp.{Stamp}

-- the table of a roster at its sealing: all idle, nothing sent
abbrev pub initial : LineUp → Table
initial r = record { virtual = 0; sent = 0; serving = None; stamps = map (new_stamp (total_weight r)) r.applications }

-- application k has the row s, and serving is who is served now
abbrev pub changed : ℕ → Stamp → Option ℕ → Table → Table
changed k s serving t = record { virtual = t.virtual; sent = t.sent; serving = serving; stamps = slice_set t.stamps k s }

-- wake: an idle application is queued
abbrev pub can_wake : ℕ → Table → Bool
can_wake k t = nat_lt k (length t.stamps) && is_idle (row t k)

abbrev pub woken : ℕ → Table → Table
woken k t = cond (can_wake k t) (changed k (wake_stamp t.virtual (row t k)) t.serving t) t

-- allot: an idle application is given a budget
abbrev pub can_allot : ℕ → ℕ → Table → Bool
can_allot k b t = can_wake k t && may_have b (row t k)

abbrev pub allotted : ℕ → ℕ → Table → Table
allotted k b t = cond (can_allot k b t) (changed k (with_budget b (row t k)) t.serving t) t

-- pick, where nobody serves and some are queued: virtual time is pushed up to the least start, and of
-- the queued that have started by then the one of the least finish serves
abbrev pub start_before : Stamp → Stamp → Bool
start_before x y = nat_lt x.start y.start

abbrev pub finish_before : Stamp → Stamp → Bool
finish_before x y = nat_lt x.finish y.finish

abbrev pub eligible : ℕ → Stamp → Bool
eligible virtual s = is_queued s && nat_le s.start virtual

abbrev pub pushed_to : Table → Option ℕ → ℕ
pushed_to t None = t.virtual
pushed_to t (Some k) = max t.virtual (row t k).start

abbrev pub pick_time : Table → ℕ
pick_time t = pushed_to t (place is_queued start_before t.stamps)

-- of the queued that have started by then, the one that finishes first
abbrev pub finishing : ℕ → Table → Option ℕ
finishing virtual t = place (eligible virtual) finish_before t.stamps

abbrev pub pick_beside : Option ℕ → Table → Option ℕ
pick_beside None t = finishing (pick_time t) t
pick_beside (Some k) t = None

abbrev pub pick_answer : Table → Option ℕ
pick_answer t = pick_beside t.serving t

abbrev pub picked_by : Option ℕ → Table → Table
picked_by None t = t
picked_by (Some k) t = record { virtual = pick_time t; sent = t.sent; serving = Some k; stamps = slice_set t.stamps k (serve_stamp (row t k)) }

abbrev pub picked : Table → Table
picked t = picked_by (pick_answer t) t

-- send: sectors of the serving application go to the disk, as far as its budget reaches
abbrev pub fits : ℕ → ℕ → Table → Bool
fits k size t = nat_le ((row t k).served + size) (row t k).budget && nat_le (t.sent + size) (2 ^ 40)

abbrev pub can_send_of : Option ℕ → ℕ → Table → Bool
can_send_of None size t = false
can_send_of (Some k) size t = fits k size t

abbrev pub can_send : ℕ → Table → Bool
can_send size t = can_send_of t.serving size t

abbrev pub charged_to : Option ℕ → ℕ → Table → Table
charged_to None size t = t
charged_to (Some k) size t =
    cond (fits k size t)
    (record { virtual = moved t.virtual size; sent = t.sent + size; serving = Some k; stamps = slice_set t.stamps k (charge_stamp size (row t k)) })
    t

abbrev pub charged : ℕ → Table → Table
charged size t = charged_to t.serving size t

-- requeue: the serving application is queued again with another budget, and does not finish earlier
abbrev pub may_requeue : ℕ → Stamp → Bool
may_requeue b s = may_have b s && nat_le s.budget (s.served + b)

abbrev pub can_requeue_of : Option ℕ → ℕ → Table → Bool
can_requeue_of None b t = false
can_requeue_of (Some k) b t = may_requeue b (row t k)

abbrev pub can_requeue : ℕ → Table → Bool
can_requeue b t = can_requeue_of t.serving b t

abbrev pub requeued_from : Option ℕ → ℕ → Table → Table
requeued_from None b t = t
requeued_from (Some k) b t = cond (may_requeue b (row t k)) (changed k (requeue_stamp b (row t k)) None t) t

abbrev pub requeued : ℕ → Table → Table
requeued b t = requeued_from t.serving b t

-- rest: the serving application goes idle, with the budget for its next turn
abbrev pub can_rest_of : Option ℕ → ℕ → Table → Bool
can_rest_of None b t = false
can_rest_of (Some k) b t = may_have b (row t k)

abbrev pub can_rest : ℕ → Table → Bool
can_rest b t = can_rest_of t.serving b t

abbrev pub rested_from : Option ℕ → ℕ → Table → Table
rested_from None b t = t
rested_from (Some k) b t = cond (may_have b (row t k)) (changed k (rest_stamp b (row t k)) None t) t

abbrev pub rested : ℕ → Table → Table
rested b t = rested_from t.serving b t
