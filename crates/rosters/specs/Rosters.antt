-- What a roster is, and what each of its calls answers and leaves.
use Rattle.std.specs.Prelude.{ℕ, max, cond, List, [], ◌∷◌, ◌++◌, length, Ok, Err, vec_items, fold, sum_by, Result, nat_lt}
use Rattle.rosters.specs.Applications.{application, default_application, between}
use Rattle.rosters.specs.declared.application.Application.{Application}
use Rattle.rosters.specs.declared.refusal.Refusal.{Refusal}
use Rattle.rosters.specs.declared.refusal.Refusal.TheVariants.{Full, Weight, Limit, Hold}
use Rattle.rosters.specs.declared.roster.Roster.{Roster}

-- the applications by their numbers, and the hold in ticks
pub record LineUp : Type 0 where
  pub applications : List Application
  pub hold : ℕ

abbrev pub line_up : Roster → LineUp
line_up r = record { applications = vec_items r.applications; hold = r.hold }

abbrev pub fresh : LineUp
fresh = record { applications = default_application ∷ []; hold = 8 }

-- the number of the application added, or why it is not
abbrev pub add_answer : ℕ → ℕ → LineUp → Result ℕ Refusal
add_answer w m r =
    cond (nat_lt (length r.applications) 16)
    (cond (between 1 10 w) (cond (between 256 65536 m) (Ok (length r.applications)) (Err Limit)) (Err Weight))
    (Err Full)

-- a refused call changes nothing
abbrev pub if_ok : {X E S : Type 0} → Result X E → S → S → S
if_ok (Ok x) new old = new
if_ok (Err e) new old = old

abbrev pub added : ℕ → ℕ → LineUp → LineUp
added w m r = if_ok (add_answer w m r) (record { applications = r.applications ++ (application w m ∷ []); hold = r.hold }) r

abbrev pub hold_answer : ℕ → Result (Unit {0}) Refusal
hold_answer t = cond (between 1 1000000 t) (Ok tt) (Err Hold)

abbrev pub held : ℕ → LineUp → LineUp
held t r = if_ok (hold_answer t) (record { applications = r.applications; hold = t }) r

-- T, the sum of all weights
abbrev pub weights : List Application → ℕ
weights xs = sum_by (λ a. a.weight) xs

abbrev pub total_weight : LineUp → ℕ
total_weight r = weights r.applications

-- M, the largest limit
abbrev pub largest : List Application → ℕ
largest xs = fold (λ most a. max most a.limit) 0 xs

abbrev pub largest_limit : LineUp → ℕ
largest_limit r = largest r.applications
