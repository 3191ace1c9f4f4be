-- The machines that calls lead to, and what holds of each, whatever the calls were.
use Rattle.std.specs.Prelude.{◌≡◌, ℕ, ◌+◌, ◌^◌, ◌<◌, ◌≤◌, true, length, is_some, Some, None}
use Rattle.std.specs.List.{slice_get}
use Rattle.rosters.specs.Rosters.{LineUp}
use Rattle.pools.specs.Lines.{Choice, line}
use Rattle.pools.specs.declared.request.Request.{Request}
use Rattle.machine.specs.Machine.{Machine, Rule, beginning}
use Rattle.histories.specs.History.{History}
use Rattle.histories.specs.Promises.{Run, after, Lawful, Sealed}

-- m is where a history leads to from the sealing
pub record Reachable (choice : Choice) (first : ℕ → ℕ) (next : Rule) (r : LineUp) (m : Machine) : Type 0 where
  pub history : History
  pub runs : Run choice next (beginning first r) history
  pub ends : after choice next (beginning first r) history ≡ m

-- a request that waits among those of application k
pub record Proper (n count k : ℕ) (q : Request) : Type 0 where
  pub listed : k < n
  pub application : q.application ≡ k
  pub number_high : q.number ≤ count
  pub size_low : 1 ≤ q.size
  pub size_high : q.size ≤ 256
  pub end_high : q.first + q.size ≤ 2 ^ 40

-- no number of the machine is large, and who serves is known
pub record InBounds (r : LineUp) (m : Machine) : Type 0 where
  pub applications : length m.table.stamps ≡ length r.applications
  pub lines : length m.lists ≡ 16
  pub hold : m.hold ≡ r.hold
  pub clock_high : m.clock ≤ 2 ^ 40
  pub head_high : m.head ≤ 2 ^ 40
  pub total_high : m.total ≤ 2 ^ 40
  pub count_high : m.count ≤ m.total
  pub sent_high : m.table.sent ≤ m.total
  pub waiting : (k i : ℕ) (q : Request) → slice_get (line m.lists k) i ≡ Some q → Proper (length r.applications) m.count k q
  -- one that serves, of whom nothing waits and nothing is in flight, is held
  pub held : (k : ℕ) → m.table.serving ≡ Some k → m.flight ≡ None → length (line m.lists k) ≡ 0 → is_some m.until ≡ true
  -- a request in flight is one of the application that serves, and so is a hold
  pub in_flight : (q : Request) → m.flight ≡ Some q → m.table.serving ≡ Some q.application
  pub for_whom : (u : ℕ) → m.until ≡ Some u → is_some m.table.serving ≡ true

abbrev pub AllInBounds : Type 0
AllInBounds =
    (choice : Choice) (first : ℕ → ℕ) (next : Rule) (r : LineUp) → Lawful choice first next → Sealed r → (m : Machine) → Reachable choice first next r m → InBounds r m
