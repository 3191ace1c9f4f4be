-- What each operation makes of an application's row.
use Rattle.std.specs.Prelude.{ℕ, ◌+◌, ◌*◌, max}
use Rattle.rosters.specs.Stamps.{by_status}
use Rattle.rosters.specs.declared.stamp.Stamp.{Stamp}
use Rattle.rosters.specs.declared.stamp.Status.TheVariants.{Idle, Queued, Serving}

-- the virtual time up to which a budget's sectors have been paid for
abbrev pub paid : Stamp → ℕ
paid s = s.start + s.served * s.cost

-- where the application stands in virtual time
abbrev pub position : Stamp → ℕ
position s = by_status s.status s.reached s.start (paid s)

-- queued from the virtual time at, for the budget it has
abbrev pub queued_at : ℕ → Stamp → Stamp
queued_at at s =
    record { weight = s.weight; limit = s.limit; cost = s.cost; status = Queued; start = at; finish = at + s.budget * s.cost; budget = s.budget; served = s.served; reached = s.reached }

-- an idle application comes back: it starts no earlier than now, and no earlier than it had reached
abbrev pub wake_stamp : ℕ → Stamp → Stamp
wake_stamp virtual s = queued_at (max virtual s.reached) s

-- it is its turn
abbrev pub serve_stamp : Stamp → Stamp
serve_stamp s =
    record { weight = s.weight; limit = s.limit; cost = s.cost; status = Serving; start = s.start; finish = s.finish; budget = s.budget; served = 0; reached = s.reached }

-- sectors of its budget are spent
abbrev pub charge_stamp : ℕ → Stamp → Stamp
charge_stamp size s =
    record { weight = s.weight; limit = s.limit; cost = s.cost; status = s.status; start = s.start; finish = s.finish; budget = s.budget; served = s.served + size; reached = s.reached }

-- another budget
abbrev pub with_budget : ℕ → Stamp → Stamp
with_budget b s =
    record { weight = s.weight; limit = s.limit; cost = s.cost; status = s.status; start = s.start; finish = s.finish; budget = b; served = s.served; reached = s.reached }

-- its turn is over: it has reached what it paid for, and gets another budget
abbrev pub rest_stamp : ℕ → Stamp → Stamp
rest_stamp b s =
    record { weight = s.weight; limit = s.limit; cost = s.cost; status = Idle; start = s.start; finish = s.finish; budget = b; served = s.served; reached = paid s }

-- its turn is over, and it is queued again from where it has come to
abbrev pub requeue_stamp : ℕ → Stamp → Stamp
requeue_stamp b s = queued_at (paid s) (rest_stamp b s)

-- virtual time moves by 2,520 for each sector sent, whoever sends it
abbrev pub moved : ℕ → ℕ → ℕ
moved virtual size = virtual + 2520 * size
