-- Courses of the stamp table: one operation after another, in any order, those that are out of place
-- included. What an operation does is what the table's own calls answer for.
use Rattle.std.specs.Prelude.{◌≡◌, ℕ, ◌+◌, Bool, true, false, cond, List, [], ◌∷◌, is_some}
use Rattle.rosters.specs.Stamps.{is_idle}
use Rattle.stamps.specs.Tables.{Table, row, is_application}
use Rattle.stamps.specs.Steps.{can_allot, allotted, can_wake, woken, pick_answer, picked, can_send, charged, can_requeue, requeued, can_rest, rested}

-- an operation of the table, with what it is called with: an application, a budget, sectors
pub data Operation : Type 0 where
  allot : ℕ → ℕ → Operation
  wake : ℕ → Operation
  pick : Operation
  send : ℕ → Operation
  requeue : ℕ → Operation
  rest : ℕ → Operation

-- the table that it leaves
abbrev pub applied : Operation → Table → Table
applied (allot k b) t = allotted k b t
applied (wake k) t = woken k t
applied pick t = picked t
applied (send s) t = charged s t
applied (requeue b) t = requeued b t
applied (rest b) t = rested b t

-- whether it is made; one that is out of place is not, and changes nothing
abbrev pub made : Operation → Table → Bool
made (allot k b) t = can_allot k b t
made (wake k) t = can_wake k t
made pick t = is_some (pick_answer t)
made (send s) t = can_send s t
made (requeue b) t = can_requeue b t
made (rest b) t = can_rest b t

abbrev pub Course : Type 0
Course = List Operation

-- the table after a course
abbrev pub after : Course → Table → Table
after [] t = t
after (o ∷ os) t = after os (applied o t)

-- the sectors that an operation sends: those of a send that is made
abbrev pub sends : Operation → Table → ℕ
sends (allot k b) t = 0
sends (wake k) t = 0
sends pick t = 0
sends (send s) t = cond (can_send s t) s 0
sends (requeue b) t = 0
sends (rest b) t = 0

-- they are sent for the application that is served
abbrev pub sends_for : ℕ → Operation → Table → ℕ
sends_for k o t = cond (is_application t.serving k) (sends o t) 0

-- all sectors sent in a course, and those for application k
abbrev pub sent_in : Course → Table → ℕ
sent_in [] t = 0
sent_in (o ∷ os) t = sends o t + sent_in os (applied o t)

abbrev pub sent_for : ℕ → Course → Table → ℕ
sent_for k [] t = 0
sent_for k (o ∷ os) t = sends_for k o t + sent_for k os (applied o t)

-- application k is idle at the beginning of no operation that is made
abbrev pub NeverIdle : ℕ → Course → Table → Type 0
NeverIdle k [] t = Unit {0}
NeverIdle k (o ∷ os) t = (made o t ≡ true → is_idle (row t k) ≡ false) × NeverIdle k os (applied o t)
