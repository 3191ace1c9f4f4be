-- The calls of a scheduler: when each is refused, what it answers, and what it leaves. A refused call
-- changes nothing.
use Rattle.std.specs.Prelude.{ℕ, ◌+◌, ◌^◌, Bool, true, false, cond, not, ◌||◌, List, [], ◌∷◌, length, is_some, Some, None, Option, ◌==◌, nat_le, nat_lt}
use Rattle.rosters.specs.Applications.{between}
use Rattle.stamps.specs.Tables.{row}
use Rattle.pools.specs.Lines.{Choice, line, put_lists}
use Rattle.pools.specs.declared.request.Kind.{Kind}
use Rattle.pools.specs.declared.request.Kind.TheVariants.{Asynchronous, Synchronous}
use Rattle.pools.specs.declared.request.Request.{Request}
use Rattle.machine.specs.Machine.{Machine, Rule, Reply, with_flight, begun, event, reply, subject}
use Rattle.machine.specs.declared.event.Event.TheVariants.{Arrival, Dispatch, Completion, Tick}
use Rattle.machine.specs.declared.refusal.Refusal.{Refusal}
use Rattle.machine.specs.declared.refusal.Refusal.TheVariants.{Time, Application, Size, Sector, Full, Total, Busy, Token}

-- the refusal of the first test that passes
abbrev pub first_of : List (Bool × Refusal) → Option Refusal
first_of [] = None
first_of (t ∷ ts) = cond t.0 (Some t.1) (first_of ts)

-- a refused call leaves the machine as it was
abbrev pub unless : {X : Type 0} → Option Refusal → X → X → X
unless None new old = new
unless (Some r) new old = old

-- a time lies before the clock, or above 2^40
abbrev pub out_of_time : ℕ → Machine → Bool
out_of_time time m = nat_lt time m.clock || nat_lt (2 ^ 40) time

-- arrival
abbrev pub arrival_refusal : ℕ → ℕ → ℕ → ℕ → Machine → Option Refusal
arrival_refusal time a first size m =
    first_of
    ((out_of_time time m, Time)
    ∷ (nat_le (length m.table.stamps) a, Application)
    ∷ (not (between 1 256 size), Size)
    ∷ (nat_lt (2 ^ 40) (first + size), Sector)
    ∷ (nat_le 16 (length (line m.lists a)), Full)
    ∷ (nat_lt (2 ^ 40) (m.total + size), Total)
    ∷ [])

-- the request that an arrival asks for, once it is accepted
abbrev pub request : ℕ → ℕ → ℕ → Kind → Machine → Request
request a first size kind m = record { number = m.count + 1; application = a; first = first; size = size; kind = kind }

abbrev pub joined : Request → Machine → Machine
joined r m = record m { lists = put_lists r m.lists; count = m.count + 1; total = m.total + r.size }

-- dispatch
abbrev pub dispatch_refusal : ℕ → Machine → Option Refusal
dispatch_refusal time m = first_of ((out_of_time time m, Time) ∷ (is_some m.flight, Busy) ∷ [])

-- completion: the token bears a number, an application, a first sector, a size and a kind
abbrev pub same_kind : Kind → Kind → Bool
same_kind Asynchronous Asynchronous = true
same_kind Asynchronous Synchronous = false
same_kind Synchronous Asynchronous = false
same_kind Synchronous Synchronous = true

abbrev pub differs : Request → Request → Bool
differs x y =
    not (x.number == y.number)
    || (not (x.application == y.application)
    || (not (x.first == y.first)
    || (not (x.size == y.size)
    || not (same_kind x.kind y.kind))))

abbrev pub mismatch : Option Request → Request → Bool
mismatch None token = true
mismatch (Some r) token = differs r token

abbrev pub completion_refusal : ℕ → Request → Machine → Option Refusal
completion_refusal time token m = first_of ((out_of_time time m, Time) ∷ (mismatch m.flight token, Token) ∷ [])

-- tick
abbrev pub tick_refusal : ℕ → Machine → Option Refusal
tick_refusal time m = first_of ((out_of_time time m, Time) ∷ [])

module _ (choice : Choice) (next : Rule) where
  abbrev pub arrived : ℕ → ℕ → ℕ → ℕ → Kind → Machine → Machine
  arrived time a first size kind m =
      unless (arrival_refusal time a first size m)
      (event choice next Arrival a (joined (request a first size kind m) (begun choice next time m)))
      m

  -- an accepted call of one who serves, or of nobody
  abbrev pub dispatched : ℕ → Machine → Machine
  dispatched time m = unless (dispatch_refusal time m) (event choice next Dispatch (subject (begun choice next time m)) (begun choice next time m)) m

  abbrev pub dispatch_reply : ℕ → Machine → Reply
  dispatch_reply time m =
      reply choice next (row (begun choice next time m).table (subject (begun choice next time m))).status (subject (begun choice next time m)) (begun choice next time m)

  abbrev pub landed : ℕ → Machine → Machine
  landed time m = with_flight None (begun choice next time m)

  abbrev pub completed : ℕ → Request → Machine → Machine
  completed time token m = unless (completion_refusal time token m) (event choice next (Completion token.kind) (subject (landed time m)) (landed time m)) m

  abbrev pub ticked : ℕ → Machine → Machine
  ticked time m = unless (tick_refusal time m) (event choice next Tick (subject (begun choice next time m)) (begun choice next time m)) m
