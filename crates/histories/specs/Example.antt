-- A history written out: two applications, a hold of 5 ticks, steady budgets, first come first served.
use Rattle.std.specs.Prelude.{◌≡◌, ℕ, List, [], ◌∷◌}
use Rattle.rosters.specs.Applications.{application, default_application}
use Rattle.rosters.specs.Rosters.{LineUp}
use Rattle.pools.specs.Budgets.{steady_first, steady_next}
use Rattle.pools.specs.Choices.{oldest}
use Rattle.pools.specs.declared.request.Kind.TheVariants.{Asynchronous, Synchronous}
use Rattle.pools.specs.declared.request.Request.{Request}
use Rattle.machine.specs.Machine.{Machine, beginning}
use Rattle.histories.specs.History.{Call, arrival, dispatch, completion, tick, refused, accepted, sends, holds, none, done, ticked, entry, History, known, sent_in, sent_for, Idle}
use Rattle.histories.specs.Promises.{recorded, Run}

abbrev pub two : LineUp
two = record { applications = default_application ∷ application 3 512 ∷ []; hold = 5 }

abbrev pub start : Machine
start = beginning steady_first two

abbrev pub bulk : Request
bulk = record { number = 1; application = 0; first = 1000; size = 256; kind = Asynchronous }

abbrev pub read : ℕ → ℕ → Request
read n first = record { number = n; application = 1; first = first; size = 200; kind = Synchronous }

abbrev pub day : List Call
day =
    arrival 0 0 1000 256 Asynchronous ∷ arrival 0 1 5000 200 Synchronous ∷ dispatch 1 ∷ completion 2 (read 2 5000) ∷ dispatch 3
    ∷ arrival 4 1 5200 200 Synchronous ∷ dispatch 4 ∷ completion 5 (read 3 5200) ∷ tick 10 ∷ dispatch 10 ∷ completion 11 bulk ∷ tick 9 ∷ dispatch 11 ∷ []

-- Application 1 keeps the disk while it is held for it; once nothing came in time, application 0 is served.
abbrev pub story : History
story =
    entry (arrival 0 0 1000 256 Asynchronous) (accepted 1)
    ∷ entry (arrival 0 1 5000 200 Synchronous) (accepted 2)
    ∷ entry (dispatch 1) (sends (read 2 5000))
    ∷ entry (completion 2 (read 2 5000)) (done 2)
    ∷ entry (dispatch 3) (holds 1 7)
    ∷ entry (arrival 4 1 5200 200 Synchronous) (accepted 3)
    ∷ entry (dispatch 4) (sends (read 3 5200))
    ∷ entry (completion 5 (read 3 5200)) (done 3)
    ∷ entry (tick 10) ticked
    ∷ entry (dispatch 10) (sends bulk)
    ∷ entry (completion 11 bulk) (done 1)
    ∷ entry (tick 9) (refused 5)
    ∷ entry (dispatch 11) none
    ∷ []

pub record Replayed : Type 0 where
  pub answers : recorded oldest steady_next start day ≡ story
  pub runs : Run oldest steady_next start story
  pub first_gets : sent_for 0 story ≡ 256
  pub second_gets : sent_for 1 story ≡ 400
  pub all : sent_in story ≡ 656
  -- the request of application 1 that was done at 5 keeps it from being idle until 10
  pub not_yet : Idle 5 9 (known 1 story) → ⊥
  pub then_idle : Idle 5 10 (known 1 story)
