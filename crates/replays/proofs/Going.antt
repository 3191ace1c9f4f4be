-- The events that were played so far, and those that are left. Assumes nothing.
use Rattle.std.proofs.Common.{◌≡◌, ℕ, ◌+◌, ◌*◌, ◌<◌, ◌≤◌, Bool, true, false, cond, eqb, List, [], ◌∷◌, ◌++◌, length, get_or, drop, set, Some, None, Ok, Err, Option, Result, sym, refl, ap, ◌∙◌, subst, ap₂, inl, inr, arith, get_or-set_other, get_or-set_same}
use Rattle.std.proofs.lemmas.List.{drop_all, drop_more, length-set}
use Rattle.std.proofs.lemmas.List.Sums.{sum_by-cons}
use Rattle.std.proofs.lemmas.Bool.{cases_eq, eq-eqb, ne_eqb}
use Rattle.listing.proofs.Near.{small, stays_near}
use Rattle.listing.specs.Near.{Small, StaysNear}
use Rattle.driver.specs.Runs as driver
use Rattle.driver.specs.Runs.{acted, calls_of, completion_after, completion_outcome, history as history_of, or_refused, outcome, replied, time_of}
use Rattle.driver.specs.declared.command.Command.{Command}
use Rattle.driver.specs.declared.command.Command.TheVariants as C
use Rattle.driver.specs.declared.command.Answer.{Answer}
use Rattle.driver.specs.declared.command.Answer.TheVariants as O
use Rattle.driver.specs.declared.command.Refused.{Refused}
use Rattle.fields.proofs.Puts.{left_long, put_left, put_none}
use Rattle.fields.specs.Buffers.{put}
use Rattle.histories.specs.History as history
use Rattle.histories.specs.History.{Call, arrival, dispatch, completion, tick, entry, sectors_for, sent_for}
use Rattle.histories.specs.Promises as promises
use Rattle.histories.specs.Promises.{after_call, answer, answered, recorded}
use Rattle.listing.specs.Lines.{event_line}
use Rattle.machine.specs.Calls.{arrival_refusal, arrived, completed, completion_refusal, dispatch_refusal, dispatch_reply, dispatched, tick_refusal, ticked}
use Rattle.machine.specs.Machine.{Machine, Reply, Rule, sends, holds, nothing}
use Rattle.machine.specs.declared.refusal.Refusal.{Refusal}
use Rattle.pools.specs.Lines.{Choice}
use Rattle.pools.specs.declared.request.Request.{Request}
use Rattle.replays.specs.Credits.{credit_for, credited}
use Rattle.replays.specs.Listings.{event_lines}

module _ (k : ℕ) where
  -- an entry sends for application k what its outcome says
  agrees : (o : Option Refusal) (h : history.Answer) (a : Answer) → sectors_for k h ≡ credit_for k (Ok a) → sectors_for k (answered o h) ≡ credit_for k (or_refused o a)
  agrees None h a e = e
  agrees (Some r) h a e = refl

  replies : (reply : Reply) → sectors_for k (promises.replied reply) ≡ credit_for k (Ok (replied reply))
  replies (sends q) = refl
  replies (holds j u) = refl
  replies nothing = refl

-- what an outcome adds to the sums
credited_sum : (o : Result Answer Refused) (sums : List ℕ) (k : ℕ) → k < length sums → get_or (credited o sums) k 0 ≡ get_or sums k 0 + credit_for k o
credited_sum (Ok (O.Accepted n)) sums k h = omega arith
credited_sum (Ok (O.Sent q)) sums k h =
    elim (cases_eq q.application k) [
      | inl e ↦
          subst (λ j. get_or (set sums j (get_or sums j 0 + q.size)) k 0 ≡ get_or sums k 0 + cond (eqb j k) q.size 0) (sym e)
          (get_or-set_same sums k (get_or sums k 0 + q.size) 0 h ∙ ap (λ b. get_or sums k 0 + cond b q.size 0) (sym (eq-eqb k k refl)))
      | inr ne ↦
          get_or-set_other sums q.application k (get_or sums q.application 0 + q.size) 0 (λ e. ne (sym e))
          ∙ omega (arith, ap (λ b. cond b q.size 0) (ne_eqb q.application k ne))
    ]
credited_sum (Ok (O.Held j u)) sums k h = omega arith
credited_sum (Ok O.Nothing) sums k h = omega arith
credited_sum (Ok (O.Done n)) sums k h = omega arith
credited_sum (Ok O.Ticked) sums k h = omega arith
credited_sum (Err r) sums k h = omega arith

credited_long : (o : Result Answer Refused) (sums : List ℕ) → length (credited o sums) ≡ length sums
credited_long (Ok (O.Accepted n)) sums = refl
credited_long (Ok (O.Sent q)) sums = length-set sums q.application _
credited_long (Ok (O.Held j u)) sums = refl
credited_long (Ok O.Nothing) sums = refl
credited_long (Ok (O.Done n)) sums = refl
credited_long (Ok O.Ticked) sums = refl
credited_long (Err r) sums = refl

-- which is not much
credit_low : (time k : ℕ) (o : Result Answer Refused) → Small time o → credit_for k o ≤ 256
credit_low time k (Ok (O.Accepted n)) s = omega arith
credit_low time k (Ok (O.Sent q)) s = go (eqb q.application k)
  where
    go : (b : Bool) → cond b q.size 0 ≤ 256
    go true = s.2
    go false = omega arith
credit_low time k (Ok (O.Held j u)) s = omega arith
credit_low time k (Ok O.Nothing) s = omega arith
credit_low time k (Ok (O.Done n)) s = omega arith
credit_low time k (Ok O.Ticked) s = omega arith
credit_low time k (Err r) s = omega arith

module _ (choice : Choice) (next : Rule) where
  -- the sectors that a history sends for application k, command by command
  by_call : (k : ℕ) (c : Call) (cs : List Call) (m : Machine) (n : ℕ) → sectors_for k (answer choice next c m) ≡ n → sent_for k (recorded choice next m (c ∷ cs)) ≡ n + sent_for k (recorded choice next (after_call choice next c m) cs)
  by_call k c cs m n is =
      let rest = recorded choice next (after_call choice next c m) cs in
      sum_by-cons (λ e. sectors_for k e.answer) (entry c (answer choice next c m)) rest ∙ ap (λ x. x + sent_for k rest) is

  sent_more : (k : ℕ) (c : Command) (cs : List Command) (m : Machine) → sent_for k (history_of choice next (c ∷ cs) m) ≡ credit_for k (outcome choice next c m) + sent_for k (history_of choice next cs (acted choice next c m))
  sent_more k (C.Arrival time a first size kind) cs m =
      by_call k (arrival time a first size kind) (calls_of choice next cs (arrived choice next time a first size kind m)) m
      (credit_for k (or_refused (arrival_refusal time a first size m) (O.Accepted (m.count + 1)))) (agrees k (arrival_refusal time a first size m) (history.accepted (m.count + 1)) (O.Accepted (m.count + 1)) refl)
  sent_more k (C.Dispatch time) cs m =
      by_call k (dispatch time) (calls_of choice next cs (dispatched choice next time m)) m
      (credit_for k (or_refused (dispatch_refusal time m) (replied (dispatch_reply choice next time m)))) (agrees k (dispatch_refusal time m) (promises.replied (dispatch_reply choice next time m)) (replied (dispatch_reply choice next time m)) (replies k (dispatch_reply choice next time m)))
  sent_more k (C.Completion time) cs m = go m.flight
    where
      go : (f : Option Request) → sent_for k (recorded choice next m (driver.completes f time (calls_of choice next cs (completion_after choice next f time m)))) ≡ credit_for k (completion_outcome f time m) + sent_for k (history_of choice next cs (completion_after choice next f time m))
      go None = omega arith
      go (Some q) =
          by_call k (completion time q) (calls_of choice next cs (completed choice next time q m)) m
          (credit_for k (or_refused (completion_refusal time q m) (O.Done q.number))) (agrees k (completion_refusal time q m) (history.done q.number) (O.Done q.number) refl)
  sent_more k (C.Tick time) cs m =
      by_call k (tick time) (calls_of choice next cs (ticked choice next time m)) m (credit_for k (or_refused (tick_refusal time m) O.Ticked)) (agrees k (tick_refusal time m) history.ticked O.Ticked refl)

  -- What was played of a script leads on: what is left makes the rest of the lines and of the sums.
  pub record Going (cs : List Command) (start : Machine) (before : List ℕ) (n : ℕ) (m : Machine) (i end : ℕ) (out sums : List ℕ) : Type 0 where
    pub near : StaysNear choice next m
    pub low : end ≤ 64 * i
    pub long : end + length (event_lines choice next (drop i cs) m) ≡ length (event_lines choice next cs start)
    pub same : put end (event_lines choice next (drop i cs) m) out ≡ put 0 (event_lines choice next cs start) before
    pub sent : (k : ℕ) → k < n → get_or sums k 0 + sent_for k (history_of choice next (drop i cs) m) ≡ sent_for k (history_of choice next cs start)
    pub modest : (k : ℕ) → k < n → get_or sums k 0 ≤ 256 * i

  module _ (cs : List Command) (start : Machine) (before : List ℕ) (n : ℕ) where
    pub going_more : (m m' : Machine) (i end end' : ℕ) (out out' sums sums' : List ℕ) (c : Command) (o : Result Answer Refused) → Going cs start before n m i end out sums → i < length cs → c ≡ get_or cs i c
        → o ≡ outcome choice next c m → m' ≡ acted choice next c m → length (event_line c o) ≤ 64 → end' ≡ end + length (event_line c o) → out' ≡ put end (event_line c o) out
        → sums' ≡ credited o sums → length sums' ≡ n → end ≤ length out → Going cs start before n m' (i + 1) end' out' sums'
    going_more m m' i end end' out out' sums sums' c o g h read is moves short ends puts adds size room =
        let long : length sums ≡ n = sym (credited_long o sums) ∙ sym (ap length adds) ∙ size in
        let cut : drop i cs ≡ c ∷ drop (i + 1) cs = drop_more cs i c h ∙ ap (λ x. x ∷ drop (i + 1) cs) (sym read) in
        let this = event_line c o in
        let rest = event_lines choice next (drop (i + 1) cs) m' in
        let whole : event_lines choice next (drop i cs) m ≡ this ++ rest = ap (λ xs. event_lines choice next xs m) cut ∙ ap₂ (λ x n. event_line c x ++ event_lines choice next (drop (i + 1) cs) n) (sym is) (sym moves) in
        let little : Small (time_of c) o = subst (Small (time_of c)) (sym is) (small choice next c m (g.near [] tt)) in
        record {
          near = subst (StaysNear choice next) (sym moves) (stays_near choice next c m g.near);
          low = omega (arith, g.low, ends, short);
          long = left_long end end' this rest _ whole ends ∙ g.long;
          same = put_left end end' this rest _ out whole puts ends room ∙ g.same;
          sent = λ k hk.
              let part = ap (λ xs. sent_for k (history_of choice next xs m)) cut ∙ sent_more k c (drop (i + 1) cs) m ∙ ap₂ (λ x n. credit_for k x + sent_for k (history_of choice next (drop (i + 1) cs) n)) (sym is) (sym moves) in
              omega (arith, g.sent k hk, part, ap (λ xs. get_or xs k 0) adds, credited_sum o sums k (omega arith));
          modest = λ k hk. omega (arith, g.modest k hk, ap (λ xs. get_or xs k 0) adds, credited_sum o sums k (omega arith), credit_low (time_of c) k o little);
        }

    -- and where nothing is left, that is all of them
    pub ends_same : (m : Machine) (i end : ℕ) (out sums : List ℕ) → Going cs start before n m i end out sums → length cs ≤ i → out ≡ put 0 (event_lines choice next cs start) before
    ends_same m i end out sums g all = sym (put_none end out) ∙ ap (λ xs. put end (event_lines choice next xs m) out) (sym (drop_all i cs all)) ∙ g.same
