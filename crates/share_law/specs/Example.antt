-- A course that the share law speaks of, written out: its premises can be met.
use Rattle.std.specs.Prelude.{◌≡◌, [], ◌∷◌, Some}
use Rattle.rosters.specs.Applications.{application, default_application}
use Rattle.rosters.specs.Rosters.{LineUp}
use Rattle.stamps.specs.Tables.{Table}
use Rattle.share_law.specs.Courses.{Course, wake, pick, send, requeue, sent_in, sent_for, NeverIdle}
use Rattle.share_law.specs.Shares.{table_after}
use Rattle.share_law.specs.Bounds.{bound_answer}

-- application 0, and one of weight 3 and limit 512
abbrev pub two : LineUp
two = record { applications = default_application ∷ application 3 512 ∷ []; hold = 8 }

-- both want the disk
abbrev pub opening : Course
opening = wake 0 ∷ wake 1 ∷ []

-- Application 1 is picked first, and sends 400 of its 512 sectors. 113 more do not fit, so that it is queued
-- again; application 0 is picked, and sends its 256 sectors. A wake that comes too late changes nothing.
abbrev pub contest : Course
contest = pick ∷ send 200 ∷ send 200 ∷ send 113 ∷ requeue 512 ∷ wake 1 ∷ pick ∷ send 256 ∷ requeue 256 ∷ []

abbrev pub opened : Table
opened = table_after two opening

pub record Met : Type 0 where
  pub first_stays : NeverIdle 0 contest opened
  pub second_stays : NeverIdle 1 contest opened
  pub all : sent_in contest opened ≡ 656
  pub first_gets : sent_for 0 contest opened ≡ 256
  pub second_gets : sent_for 1 contest opened ≡ 400
  pub first_bound : bound_answer two 0 ≡ Some 576
  pub second_bound : bound_answer two 1 ≡ Some 1024
