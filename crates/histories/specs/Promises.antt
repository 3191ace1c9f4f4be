-- What is promised of every history of a scheduler.
use Rattle.std.specs.Prelude.{◌≡◌, ℕ, ◌+◌, ◌-◌, ◌*◌, ◌<◌, ◌≤◌, true, cond, List, [], ◌∷◌, ◌++◌, length, Some, None, Option}
use Rattle.std.specs.List.{slice_get}
use Rattle.rosters.specs.Applications.{AllInRange}
use Rattle.rosters.specs.Rosters.{LineUp, total_weight, largest_limit}
use Rattle.pools.specs.Fits.{Fits}
use Rattle.pools.specs.Lines.{Choice}
use Rattle.pools.specs.declared.request.Kind.TheVariants.{Synchronous}
use Rattle.pools.specs.declared.request.Request.{Request}
use Rattle.pools.specs.declared.rule.Reason.{Reason}
use Rattle.machine.specs.Refusals.{number}
use Rattle.machine.specs.Machine as machine
use Rattle.machine.specs.Machine.{Machine, Rule, beginning}
use Rattle.machine.specs.Calls as calls
use Rattle.machine.specs.declared.refusal.Refusal.{Refusal}
use Rattle.share_law.specs.Shares.{weight_of, limit_of, Listed}
use Rattle.histories.specs.History.{Call, arrival, dispatch, completion, tick, Answer, refused, accepted, sends, holds, none, done, ticked, Entry, entry, History, is_accepted, Known, known, head, completed_last, sent_in, sent_for, Idle, NeverIdle}

abbrev pub answered : Option Refusal → Answer → Answer
answered None a = a
answered (Some why) a = refused (number why)

abbrev pub replied : machine.Reply → Answer
replied (machine.sends r) = sends r
replied (machine.holds k until) = holds k until
replied machine.nothing = none

module _ (choice : Choice) (next : Rule) where
  -- the machine's own answer to a call, and what the call leaves of it
  abbrev pub answer : Call → Machine → Answer
  answer (arrival time a first size kind) m = answered (calls.arrival_refusal time a first size m) (accepted (m.count + 1))
  answer (dispatch time) m = answered (calls.dispatch_refusal time m) (replied (calls.dispatch_reply choice next time m))
  answer (completion time token) m = answered (calls.completion_refusal time token m) (done token.number)
  answer (tick time) m = answered (calls.tick_refusal time m) ticked

  abbrev pub after_call : Call → Machine → Machine
  after_call (arrival time a first size kind) m = calls.arrived choice next time a first size kind m
  after_call (dispatch time) m = calls.dispatched choice next time m
  after_call (completion time token) m = calls.completed choice next time token m
  after_call (tick time) m = calls.ticked choice next time m

  -- A history is a run of the machine if every accepted entry has the machine's answer. One that is refused
  -- changes nothing, whoever refused it.
  abbrev pub after_entry : Machine → Entry → Machine
  after_entry m e = cond (is_accepted e.answer) (after_call e.call m) m

  abbrev pub Right : Machine → Entry → Type 0
  Right m e = is_accepted e.answer ≡ true → e.answer ≡ answer e.call m

  abbrev pub Run : Machine → History → Type 0
  Run m [] = Unit {0}
  Run m (e ∷ es) = Right m e × Run (after_entry m e) es

  abbrev pub after : Machine → History → Machine
  after m [] = m
  after m (e ∷ es) = after (after_entry m e) es

  -- the run in which the machine answers each of these calls, refusals included
  abbrev pub recorded : Machine → List Call → History
  recorded m [] = []
  recorded m (c ∷ cs) = entry c (answer c m) ∷ recorded (after_call c m) cs

-- Between any two entries, an application of weight w and limit m that is never idle there gets S of the A
-- sectors sent there: w A ≤ T S + (2 T - w) m + w M.
abbrev pub ShareBound : LineUp → History → Type 0
ShareBound r h =
    (before stretch later : History) (k : ℕ) → h ≡ before ++ (stretch ++ later) → Listed r k → NeverIdle r.hold k before stretch
    → weight_of r k * sent_in stretch
    ≤ total_weight r * sent_for k stretch + (2 * total_weight r - weight_of r k) * limit_of r k + weight_of r k * largest_limit r

-- Two that are never idle there get S₁ and S₂: T (w₂ S₁ - w₁ S₂) ≤ 2 T (w₂ m₁ + w₁ m₂) + w₁ w₂ (2 M - m₁ - m₂), said
-- with nothing taken off on either side.
abbrev pub PairBound : LineUp → History → Type 0
PairBound r h =
    (before stretch later : History) (i j : ℕ) → h ≡ before ++ (stretch ++ later) → Listed r i → Listed r j
    → NeverIdle r.hold i before stretch → NeverIdle r.hold j before stretch
    → total_weight r * weight_of r j * sent_for i stretch + weight_of r i * weight_of r j * (limit_of r i + limit_of r j)
    ≤ total_weight r * weight_of r i * sent_for j stretch
    + 2 * total_weight r * (weight_of r j * limit_of r i + weight_of r i * limit_of r j)
    + 2 * weight_of r i * weight_of r j * largest_limit r

-- What a dispatch finds at its time, by the history h ahead of it: every application is idle,
abbrev pub AllIdle : LineUp → ℕ → History → Type 0
AllIdle r time h = (k : ℕ) → Listed r k → Idle r.hold time (known k h)

-- or the one whose request was done last has none that waits, and yet is not idle,
pub record Lingering (H time : ℕ) (last : Option ℕ) (k : ℕ) (x : Known) : Type 0 where
  pub completed : last ≡ Some k
  pub none_waits : x.waiting ≡ []
  pub not_idle : Idle H time x → ⊥

abbrev pub Lingers : LineUp → ℕ → History → ℕ → Type 0
Lingers r time h k = Lingering r.hold time (completed_last h) k (known k h)

-- which it is until H ticks after that completion,
abbrev pub EndsAt : LineUp → History → ℕ → ℕ → Type 0
EndsAt r h k until = (time : ℕ) × ((known k h).latest ≡ Some (record { time = time; kind = Synchronous })) × (until ≡ time + r.hold)

-- or a request waits that the pool chooses from its application's line.
pub record Next (choice : Choice) (r : LineUp) (h : History) (q : Request) : Type 0 where
  pub listed : Listed r q.application
  pub chosen : slice_get (known q.application h).waiting (choice (known q.application h).waiting (head h)) ≡ Some q

-- The answer is none exactly in the first case, a hold exactly in the second, and else that request.
pub record Answers (choice : Choice) (r : LineUp) (time : ℕ) (h : History) (a : Answer) : Type 0 where
  pub none_if : AllIdle r time h → a ≡ none
  pub none_only : a ≡ none → AllIdle r time h
  pub hold_if : (k : ℕ) → Lingers r time h k → (until : ℕ) × (a ≡ holds k until)
  pub hold_only : (k until : ℕ) → a ≡ holds k until → Lingers r time h k × EndsAt r h k until
  pub sends_else : (AllIdle r time h → ⊥) → ((k : ℕ) → Lingers r time h k → ⊥) → (q : Request) × (a ≡ sends q)
  pub sends_only : (q : Request) → a ≡ sends q → Next choice r h q

abbrev pub DispatchAnswers : Choice → LineUp → History → Type 0
DispatchAnswers choice r h =
    (before later : History) (time : ℕ) (a : Answer) → h ≡ before ++ (entry (dispatch time) a ∷ later) → is_accepted a ≡ true
    → Answers choice r time before a

pub record Kept (choice : Choice) (r : LineUp) (h : History) : Type 0 where
  pub share_bound : ShareBound r h
  pub pair_bound : PairBound r h
  pub dispatch_answers : DispatchAnswers choice r h

-- what is asked of the pool's choice and the budget rule, and what holds of every sealed roster
pub record Lawful (choice : Choice) (first : ℕ → ℕ) (next : Rule) : Type 0 where
  pub within : (xs : List Request) (head : ℕ) → 0 < length xs → choice xs head < length xs
  pub first_fits : (limit : ℕ) → 256 ≤ limit → limit ≤ 65536 → Fits limit (first limit)
  pub next_fits : (limit last served : ℕ) (why : Reason) → 256 ≤ limit → limit ≤ 65536 → Fits limit last → Fits limit (next limit last served why)

pub record Sealed (r : LineUp) : Type 0 where
  pub some : 1 ≤ length r.applications
  pub few : length r.applications ≤ 16
  pub each : AllInRange r.applications
  pub hold_low : 1 ≤ r.hold
  pub hold_high : r.hold ≤ 1000000

-- the promises: whatever is called, from the sealing on
abbrev pub Promises : Choice → (ℕ → ℕ) → Rule → LineUp → Type 0
Promises choice first next r = (h : History) → Run choice next (beginning first r) h → Kept choice r h

abbrev pub AllPromises : Type 0
AllPromises = (choice : Choice) (first : ℕ → ℕ) (next : Rule) (r : LineUp) → Lawful choice first next → Sealed r → Promises choice first next r
