-- The history of a scheduler: its calls with their answers, oldest first, and what can be read off it alone.
use Rattle.std.specs.Prelude.{◌≡◌, ℕ, ◌+◌, ◌≤◌, Bool, true, false, cond, not, List, [], ◌∷◌, ◌++◌, Some, None, fold, sum_by, filter, Option, ◌==◌}
use Rattle.pools.specs.declared.request.Kind.{Kind}
use Rattle.pools.specs.declared.request.Kind.TheVariants.{Synchronous}
use Rattle.pools.specs.declared.request.Request.{Request}

-- A call with what it brings. A token bears all that its request bears.
pub data Call : Type 0 where
  -- time, application, first sector, size, kind
  arrival : ℕ → ℕ → ℕ → ℕ → Kind → Call
  dispatch : ℕ → Call
  completion : ℕ → Request → Call
  tick : ℕ → Call

pub data Answer : Type 0 where
  -- the call is refused, by this number
  refused : ℕ → Answer
  -- the request of an arrival waits, under this number
  accepted : ℕ → Answer
  -- a dispatch hands out the token of this request
  sends : Request → Answer
  -- the disk is held for this application, until this time
  holds : ℕ → ℕ → Answer
  none : Answer
  -- the request of this number is complete
  done : ℕ → Answer
  ticked : Answer

pub record Entry : Type 0 where
  pub call : Call
  pub answer : Answer

abbrev pub entry : Call → Answer → Entry
entry c a = record { call = c; answer = a }

abbrev pub History : Type 0
History = List Entry

abbrev pub time_of : Call → ℕ
time_of (arrival time a first size kind) = time
time_of (dispatch time) = time
time_of (completion time token) = time
time_of (tick time) = time

abbrev pub is_accepted : Answer → Bool
is_accepted (refused n) = false
is_accepted (accepted n) = true
is_accepted (sends r) = true
is_accepted (holds k until) = true
is_accepted none = true
is_accepted (done n) = true
is_accepted ticked = true

-- the request that an arrival asks for, under its number
abbrev pub asked : Call → ℕ → Option Request
asked (arrival time a first size kind) n = Some (record { number = n; application = a; first = first; size = size; kind = kind })
asked (dispatch time) n = None
asked (completion time token) n = None
asked (tick time) n = None

-- the token that a completion brings back
abbrev pub brought : Call → Option Request
brought (arrival time a first size kind) = None
brought (dispatch time) = None
brought (completion time token) = Some token
brought (tick time) = None

-- when a request was completed, and of what kind it was
pub record Finished : Type 0 where
  pub time : ℕ
  pub kind : Kind

-- what is known of one application
pub record Known : Type 0 where
  -- its requests that wait, oldest first, and those that are outstanding
  pub waiting : List Request
  pub outstanding : List Request
  -- its latest completion, if any
  pub latest : Option Finished

abbrev pub unknown : Known
unknown = record { waiting = []; outstanding = []; latest = None }

abbrev pub numbered : ℕ → Request → Bool
numbered n r = r.number == n

abbrev pub otherwise_numbered : ℕ → Request → Bool
otherwise_numbered n r = not (numbered n r)

-- A request of application k waits once it is accepted,
abbrev pub joins : ℕ → Option Request → Known → Known
joins k None x = x
joins k (Some r) x = cond (r.application == k) (record x { waiting = x.waiting ++ (r ∷ []) }) x

-- until a token bears its number; then it is outstanding,
abbrev pub leaves : Request → Known → Known
leaves token x =
    record x {
      waiting = filter (otherwise_numbered token.number) x.waiting;
      outstanding = x.outstanding ++ filter (numbered token.number) x.waiting;
    }

-- until a completion brings that number.
abbrev pub ends : ℕ → ℕ → Option Request → Known → Known
ends k time None x = x
ends k time (Some token) x =
    record x {
      outstanding = filter (otherwise_numbered token.number) x.outstanding;
      latest = cond (token.application == k) (Some (record { time = time; kind = token.kind })) x.latest;
    }

-- what one more entry tells of application k
abbrev pub told : ℕ → Call → Answer → Known → Known
told k c (refused n) x = x
told k c (accepted n) x = joins k (asked c n) x
told k c (sends token) x = leaves token x
told k c (holds j until) x = x
told k c none x = x
told k c (done n) x = ends k (time_of c) (brought c) x
told k c ticked x = x

abbrev pub learned : ℕ → Known → Entry → Known
learned k x e = told k e.call e.answer x

-- what a history tells of application k
abbrev pub known : ℕ → History → Known
known k h = fold (learned k) unknown h

-- where the disk's head stands: behind the last sector sent
abbrev pub moved_by : Answer → ℕ → ℕ
moved_by (refused n) head = head
moved_by (accepted n) head = head
moved_by (sends token) head = token.first + token.size
moved_by (holds j until) head = head
moved_by none head = head
moved_by (done n) head = head
moved_by ticked head = head

abbrev pub head_after : ℕ → Entry → ℕ
head_after head e = moved_by e.answer head

abbrev pub head : History → ℕ
head h = fold head_after 0 h

-- the application of the latest completion; before any, nobody's
abbrev pub owner_of : Option Request → Option ℕ → Option ℕ
owner_of None last = last
owner_of (Some token) last = Some token.application

abbrev pub last_by : Call → Answer → Option ℕ → Option ℕ
last_by c (refused n) last = last
last_by c (accepted n) last = last
last_by c (sends token) last = last
last_by c (holds j until) last = last
last_by c none last = last
last_by c (done n) last = owner_of (brought c) last
last_by c ticked last = last

abbrev pub last_after : Option ℕ → Entry → Option ℕ
last_after last e = last_by e.call e.answer last

abbrev pub completed_last : History → Option ℕ
completed_last h = fold last_after None h

-- the sectors sent by an entry, for all and for application k
abbrev pub sectors : Answer → ℕ
sectors (refused n) = 0
sectors (accepted n) = 0
sectors (sends token) = token.size
sectors (holds j until) = 0
sectors none = 0
sectors (done n) = 0
sectors ticked = 0

abbrev pub sectors_for : ℕ → Answer → ℕ
sectors_for k (refused n) = 0
sectors_for k (accepted n) = 0
sectors_for k (sends token) = cond (token.application == k) token.size 0
sectors_for k (holds j until) = 0
sectors_for k none = 0
sectors_for k (done n) = 0
sectors_for k ticked = 0

abbrev pub sent_in : History → ℕ
sent_in h = sum_by (λ e. sectors e.answer) h

abbrev pub sent_for : ℕ → History → ℕ
sent_for k h = sum_by (λ e. sectors_for k e.answer) h

-- H ticks have passed since the completion, if it was a synchronous request's
abbrev pub NotRecent : ℕ → ℕ → Option Finished → Type 0
NotRecent H time None = Unit {0}
NotRecent H time (Some f) = f.kind ≡ Synchronous → f.time + H ≤ time

-- An application is idle if it has no request that waits or is outstanding, and H ticks have passed since
-- its latest completion, where that was a synchronous request's.
pub record Idle (H time : ℕ) (x : Known) : Type 0 where
  pub none_waits : x.waiting ≡ []
  pub none_outstanding : x.outstanding ≡ []
  pub not_recent : NotRecent H time x.latest

-- After the history h, over the entries of a stretch, application k is idle at none that is accepted. It is
-- judged at each by that entry's time, and by the entries ahead of it.
abbrev pub NeverIdle : ℕ → ℕ → History → History → Type 0
NeverIdle H k h stretch =
    (earlier later : History) (e : Entry) → stretch ≡ earlier ++ (e ∷ later) → is_accepted e.answer ≡ true
    → Idle H (time_of e.call) (known k (h ++ earlier)) → ⊥
