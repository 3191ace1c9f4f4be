-- Every entry of a history keeps the invariant, and is a course of table operations.
use Rattle.std.proofs.Common.{◌≡◌, ℕ, ◌+◌, ◌^◌, ◌<◌, ◌≤◌, Bool, true, false, cond, not, eqb, ltb, leb, List, [], ◌∷◌, length, is_some, Some, None, Option, sym, refl, ap, ◌∙◌, subst, arith}
use Rattle.std.proofs.lemmas.Bool.{or_parts, and_parts, not-false, ltb-false, leb-true, leb-false, eqb-true, cond-true, true≢false, false≢true}
use Rattle.rosters.specs.Applications.{between}
use Rattle.rosters.specs.Rosters.{LineUp}
use Rattle.rosters.specs.declared.stamp.Status.{Status}
use Rattle.rosters.specs.declared.stamp.Status.TheVariants.{Idle, Queued, Serving}
use Rattle.stamps.specs.Tables.{row}
use Rattle.pools.specs.Lines.{Choice, line}
use Rattle.pools.specs.declared.request.Kind.{Kind}
use Rattle.pools.specs.declared.request.Kind.TheVariants.{Asynchronous, Synchronous}
use Rattle.pools.specs.declared.request.Request.{Request}
use Rattle.machine.specs.Machine as machine
use Rattle.machine.specs.Machine.{Machine, Rule, reacted, begun, event, subject}
use Rattle.machine.specs.Calls.{first_of, unless, out_of_time, arrival_refusal, request, joined, dispatch_refusal, dispatch_reply, same_kind, differs, mismatch, completion_refusal, tick_refusal, landed}
use Rattle.machine.specs.declared.event.Event.TheVariants.{Arrival, Dispatch, Completion, Tick}
use Rattle.machine.specs.declared.refusal.Refusal.{Refusal}
use Rattle.machine.specs.declared.refusal.Refusal.TheVariants.{Time, Application, Size, Sector, Full, Total, Busy, Token}
use Rattle.histories.specs.History as history
use Rattle.histories.specs.History.{Call, arrival, dispatch, completion, tick, Answer, refused, accepted, sends, holds, none, done, ticked, entry, is_accepted, time_of, Known, told, joins, ends, moved_by, last_by, sectors, sectors_for}
use Rattle.histories.specs.Promises.{Lawful, Sealed, answered, replied, answer, after_call, after_entry, Right}
use Rattle.histories.proofs.Courses.{Led, led_none, led_same, led_after}
use Rattle.histories.proofs.Invariant.{Inv}
use Rattle.histories.proofs.Moves.{Asks}
use Rattle.histories.proofs.First.{Step, Begun, first_step}
use Rattle.histories.proofs.Arrival.{arrival_step}
use Rattle.histories.proofs.Completion.{completion_step}
use Rattle.histories.proofs.Dispatch.{Answered, Outcome, dispatch_outcome}

-- where no test passes, each fails
abbrev Failed : List (Bool × Refusal) → Type 0
Failed [] = Unit {0}
Failed (t ∷ ts) = (t.0 ≡ false) × Failed ts

failed : (ts : List (Bool × Refusal)) → first_of ts ≡ None → Failed ts
failed [] e = tt
failed (t ∷ ts) e = go t.0 refl e (failed ts)
  where
    go : (b : Bool) → t.0 ≡ b → cond b (Some t.1) (first_of ts) ≡ None → (first_of ts ≡ None → Failed ts) → Failed (t ∷ ts)
    go true h e more = absurd cc
    go false h e more = (h, more e)

-- the tests of each call
abbrev arrival_tests : ℕ → ℕ → ℕ → ℕ → Machine → List (Bool × Refusal)
arrival_tests time a from size m =
    (out_of_time time m, Time)
    ∷ (leb (length m.table.stamps) a, Application)
    ∷ (not (between 1 256 size), Size)
    ∷ (ltb (2 ^ 40) (from + size), Sector)
    ∷ (leb 16 (length (line m.lists a)), Full)
    ∷ (ltb (2 ^ 40) (m.total + size), Total)
    ∷ []

abbrev dispatch_tests : ℕ → Machine → List (Bool × Refusal)
dispatch_tests time m = (out_of_time time m, Time) ∷ (is_some m.flight, Busy) ∷ []

abbrev completion_tests : ℕ → Request → Machine → List (Bool × Refusal)
completion_tests time token m = (out_of_time time m, Time) ∷ (mismatch m.flight token, Token) ∷ []

abbrev tick_tests : ℕ → Machine → List (Bool × Refusal)
tick_tests time m = (out_of_time time m, Time) ∷ []

-- an accepted call is one that the machine does not refuse
not_refused : (o : Option Refusal) (a : Answer) → is_accepted (answered o a) ≡ true → o ≡ None
not_refused None a h = refl
not_refused (Some why) a h = absurd (false≢true h)

in_time : (time : ℕ) (m : Machine) → out_of_time time m ≡ false → (m.clock ≤ time) × (time ≤ 2 ^ 40)
in_time time m h = let p = or_parts (ltb time m.clock) (ltb (2 ^ 40) time) h in (ltb-false time m.clock p.0, ltb-false (2 ^ 40) time p.1)

none_flies : (o : Option Request) → is_some o ≡ false → o ≡ None
none_flies None h = refl
none_flies (Some q) h = absurd (true≢false h)

same_kinds : (a b : Kind) → same_kind a b ≡ true → a ≡ b
same_kinds Asynchronous Asynchronous h = refl
same_kinds Asynchronous Synchronous h = absurd (false≢true h)
same_kinds Synchronous Asynchronous h = absurd (false≢true h)
same_kinds Synchronous Synchronous h = refl

same_parts : (q p : Request) → q.number ≡ p.number → q.application ≡ p.application → q.first ≡ p.first → q.size ≡ p.size → q.kind ≡ p.kind
    → record { number = q.number; application = q.application; first = q.first; size = q.size; kind = q.kind } ≡ p
same_parts q p a b c d e = rw (a, b, c, d, e)

-- a token that differs in no part is the request's
same_request : (q p : Request) → differs q p ≡ false → q ≡ p
same_request q p h =
    let a = or_parts (not (eqb q.number p.number)) _ h in
    let b = or_parts (not (eqb q.application p.application)) _ a.1 in
    let c = or_parts (not (eqb q.first p.first)) _ b.1 in
    let d = or_parts (not (eqb q.size p.size)) (not (same_kind q.kind p.kind)) c.1 in
    let number : q.number ≡ p.number = eqb-true q.number p.number (not-false (eqb q.number p.number) a.0) in
    let application : q.application ≡ p.application = eqb-true q.application p.application (not-false (eqb q.application p.application) b.0) in
    let first : q.first ≡ p.first = eqb-true q.first p.first (not-false (eqb q.first p.first) c.0) in
    let size : q.size ≡ p.size = eqb-true q.size p.size (not-false (eqb q.size p.size) d.0) in
    let kind : q.kind ≡ p.kind = same_kinds q.kind p.kind (not-false (same_kind q.kind p.kind) d.1) in
    same_parts q p number application first size kind

matched : (o : Option Request) (token : Request) → mismatch o token ≡ false → o ≡ Some token
matched None token h = absurd (true≢false h)
matched (Some q) token h = ap Some (same_request q token h)

last_stays : (time : ℕ) (reply : machine.Reply) (last : Option ℕ) → last_by (dispatch time) (replied reply) last ≡ last
last_stays time (machine.sends q) last = refl
last_stays time (machine.holds k until) last = refl
last_stays time machine.nothing last = refl

-- what one entry leaves, accepted or not
pub record Told (choice : Choice) (next : Rule) (r : LineUp) (m : Machine) (x : ℕ → Known) (last : Option ℕ) (head : ℕ) (c : Call) (a : Answer) : Type 0 where
  pub inv : Inv r (after_entry choice next m (entry c a)) (λ k. told k c a (x k)) (last_by c a last) (moved_by a head)
  pub led : Led m.table (after_entry choice next m (entry c a)).table (sectors a) (λ k. sectors_for k a) (λ k. is_accepted a ≡ true → history.Idle r.hold (time_of c) (x k) → ⊥)

module _ (choice : Choice) (first : ℕ → ℕ) (next : Rule) (lawful : Lawful choice first next) (r : LineUp) (sealed : Sealed r) where
  module _ (m : Machine) (x : ℕ → Known) (last : Option ℕ) (head : ℕ) (inv : Inv r m x last head) where
    -- the first step, and then the event
    then_event : (time : ℕ) (m₁ m' : Machine) (x' : ℕ → Known) (last' : Option ℕ) (head' A : ℕ) (S : ℕ → ℕ) → Begun r time m m₁ x last head → Step r time m₁ m' x x' last' head' A S → Step r time m m' x x' last' head' A S
    then_event time m₁ m' x' last' head' A S b s = record { inv = s.inv; led = led_after m.table m₁.table m'.table A S (Asks r time x) b.step.led s.led }

    starts : (time : ℕ) → out_of_time time m ≡ false → Begun r time m (begun choice next time m) x last head
    starts time h = let p = in_time time m h in first_step choice first next lawful r sealed m x last head inv time p.0 p.1

    -- what is left to show of a call with its answer
    abbrev Goal : Call → Answer → Machine → Type 0
    Goal c a m' = Step r (time_of c) m m' x (λ k. told k c a (x k)) (last_by c a last) (moved_by a head) (sectors a) (λ k. sectors_for k a)

    by_refusal : (c : Call) (o : Option Refusal) (a : Answer) (m' : Machine) → o ≡ None → Goal c a m' → Goal c (answered o a) (unless o m' m)
    by_refusal c o a m' e g = subst (λ p. Goal c (answered p a) (unless p m' m)) (sym e) g

    arrives : (time a from size : ℕ) (kind : Kind) → arrival_refusal time a from size m ≡ None
        → Goal (arrival time a from size kind) (accepted (m.count + 1)) (event choice next Arrival a (joined (request a from size kind m) (begun choice next time m)))
    arrives time a from size kind e =
        let f = failed (arrival_tests time a from size m) e in
        let m₁ = begun choice next time m in
        let b = starts time f.0 in
        let range = and_parts (leb 1 size) (leb size 256) (not-false (between 1 256 size) f.1.1.0) in
        let room : length (line m₁.lists a) < 16 = subst (λ ls. length (line ls a) < 16) (sym b.lists) (leb-false 16 (length (line m.lists a)) f.1.1.1.1.0) in
        then_event time m₁ (event choice next Arrival a (joined (request a from size kind m) m₁)) (λ k. joins k (Some (request a from size kind m)) (x k)) last head 0 (λ _. 0) b
        (subst (λ c. Step r c m₁ (event choice next Arrival a (joined (request a from size kind m) m₁)) x (λ k. joins k (Some (request a from size kind m)) (x k)) last head 0 (λ _. 0)) b.clock
        (arrival_step choice first next lawful r sealed m₁ x last head b.step.inv (request a from size kind m)
        (omega (arith, leb-false (length m.table.stamps) a f.1.0, inv.core.stood.size)) room (omega (arith, b.count))
        (leb-true 1 size range.0) (leb-true size 256 range.1) (ltb-false (2 ^ 40) (from + size) f.1.1.1.0)
        (omega (arith, b.total, ltb-false (2 ^ 40) (m.total + size) f.1.1.1.1.1.0))))

    -- a dispatch, with what its answer means
    dispatches : (time : ℕ) → dispatch_refusal time m ≡ None → Outcome choice first next lawful r sealed (begun choice next time m) (event choice next Dispatch (subject (begun choice next time m)) (begun choice next time m)) x last head (replied (dispatch_reply choice next time m))
    dispatches time e =
        let f = failed (dispatch_tests time m) e in
        let b = starts time f.0 in
        dispatch_outcome choice first next lawful r sealed (begun choice next time m) x last head b.step.inv (b.flight ∙ none_flies m.flight f.1.0)

    sends_out : (time : ℕ) → dispatch_refusal time m ≡ None → Goal (dispatch time) (replied (dispatch_reply choice next time m)) (event choice next Dispatch (subject (begun choice next time m)) (begun choice next time m))
    sends_out time e =
        let m₁ = begun choice next time m in
        let b = starts time (failed (dispatch_tests time m) e).0 in
        let m' = event choice next Dispatch (subject m₁) m₁ in
        let a = replied (dispatch_reply choice next time m) in
        subst (λ l. Step r time m m' x (λ k. told k (dispatch time) a (x k)) l (moved_by a head) (sectors a) (λ k. sectors_for k a)) (sym (last_stays time (dispatch_reply choice next time m) last))
        (then_event time m₁ m' (λ k. told k (dispatch time) a (x k)) last (moved_by a head) (sectors a) (λ k. sectors_for k a) b
        (subst (λ c. Step r c m₁ m' x (λ k. told k (dispatch c) a (x k)) last (moved_by a head) (sectors a) (λ k. sectors_for k a)) b.clock (dispatches time e).step))

    completes : (time : ℕ) (token : Request) → completion_refusal time token m ≡ None
        → Goal (completion time token) (done token.number) (event choice next (Completion token.kind) (subject (landed choice next time m)) (landed choice next time m))
    completes time token e =
        let f = failed (completion_tests time token m) e in
        let m₁ = begun choice next time m in
        let b = starts time f.0 in
        let m' = event choice next (Completion token.kind) (subject (landed choice next time m)) (landed choice next time m) in
        then_event time m₁ m' (λ k. ends k time (Some token) (x k)) (Some token.application) head 0 (λ _. 0) b
        (subst (λ c. Step r c m₁ m' x (λ k. ends k c (Some token) (x k)) (Some token.application) head 0 (λ _. 0)) b.clock
        (completion_step choice first next lawful r sealed m₁ x last head b.step.inv token (b.flight ∙ matched m.flight token f.1.0)))

    passes : (time : ℕ) → tick_refusal time m ≡ None → Goal (tick time) ticked (event choice next Tick (subject (begun choice next time m)) (begun choice next time m))
    passes time e = go (row m₁.table (subject m₁)).status
      where
        m₁ : Machine
        m₁ = begun choice next time m

        go : (st : Status) → Goal (tick time) ticked (reacted choice next st Tick (subject (begun choice next time m)) (begun choice next time m))
        go Idle = (starts time (failed (tick_tests time m) e).0).step
        go Queued = (starts time (failed (tick_tests time m) e).0).step
        go Serving = (starts time (failed (tick_tests time m) e).0).step

    -- an accepted call
    answers : (c : Call) → is_accepted (answer choice next c m) ≡ true → Goal c (answer choice next c m) (after_call choice next c m)
    answers (arrival time a from size kind) h =
        let e = not_refused (arrival_refusal time a from size m) (accepted (m.count + 1)) h in
        by_refusal (arrival time a from size kind) (arrival_refusal time a from size m) (accepted (m.count + 1)) (event choice next Arrival a (joined (request a from size kind m) (begun choice next time m))) e
        (arrives time a from size kind e)
    answers (dispatch time) h =
        let e = not_refused (dispatch_refusal time m) (replied (dispatch_reply choice next time m)) h in
        by_refusal (dispatch time) (dispatch_refusal time m) (replied (dispatch_reply choice next time m)) (event choice next Dispatch (subject (begun choice next time m)) (begun choice next time m)) e (sends_out time e)
    answers (completion time token) h =
        let e = not_refused (completion_refusal time token m) (done token.number) h in
        by_refusal (completion time token) (completion_refusal time token m) (done token.number)
        (event choice next (Completion token.kind) (subject (landed choice next time m)) (landed choice next time m)) e (completes time token e)
    answers (tick time) h =
        let e = not_refused (tick_refusal time m) ticked h in
        by_refusal (tick time) (tick_refusal time m) ticked (event choice next Tick (subject (begun choice next time m)) (begun choice next time m)) e (passes time e)

    pub entry_told : (c : Call) (a : Answer) → Right choice next m (entry c a) → Told choice next r m x last head c a
    entry_told c a right = go (is_accepted a) refl
      where
        yes' : is_accepted a ≡ true → Goal c a (after_call choice next c m)
        yes' h = subst (λ z. is_accepted z ≡ true → Goal c z (after_call choice next c m)) (sym (right h)) (answers c) h

        go : (b : Bool) → is_accepted a ≡ b → Told choice next r m x last head c a
        go true h =
            let g = yes' h in
            let e : after_entry choice next m (entry c a) ≡ after_call choice next c m = cond-true (is_accepted a) (after_call choice next c m) m h in
            record {
              inv = subst (λ m'. Inv r m' (λ k. told k c a (x k)) (last_by c a last) (moved_by a head)) (sym e) g.inv;
              led = subst (λ m'. Led m.table m'.table (sectors a) (λ k. sectors_for k a) (λ k. is_accepted a ≡ true → history.Idle r.hold (time_of c) (x k) → ⊥)) (sym e)
                  (led_same m.table (after_call choice next c m).table (sectors a) (sectors a) (λ k. sectors_for k a) (λ k. sectors_for k a) (Asks r (time_of c) x) (λ k. is_accepted a ≡ true → history.Idle r.hold (time_of c) (x k) → ⊥)
                  refl (λ k. refl) (λ k asks. asks h) g.led);
            }
        go false h = refusal a h
          where
            refusal : (z : Answer) → is_accepted z ≡ false → Told choice next r m x last head c z
            refusal (refused n) h = record { inv = inv; led = led_none m.table (λ k. is_accepted (refused n) ≡ true → history.Idle r.hold (time_of c) (x k) → ⊥) }
            refusal (accepted n) h = absurd (true≢false h)
            refusal (sends q) h = absurd (true≢false h)
            refusal (holds k u) h = absurd (true≢false h)
            refusal none h = absurd (true≢false h)
            refusal (done n) h = absurd (true≢false h)
            refusal ticked h = absurd (true≢false h)

    -- what the answer to a dispatch means
    pub dispatch_answered : (time : ℕ) (a : Answer) → is_accepted a ≡ true → a ≡ answer choice next (dispatch time) m → Answered choice r time x last head a
    dispatch_answered time a h e =
        let o = not_refused (dispatch_refusal time m) (replied (dispatch_reply choice next time m)) (ap is_accepted (sym e) ∙ h) in
        let b = starts time (failed (dispatch_tests time m) o).0 in
        let is : a ≡ replied (dispatch_reply choice next time m) = e ∙ ap (λ p. answered p (replied (dispatch_reply choice next time m))) o in
        subst (Answered choice r time x last head) (sym is)
        (subst (λ c. Answered choice r c x last head (replied (dispatch_reply choice next time m))) b.clock (dispatches time o).answered)
