-- What holds between the machine and the history of its calls, whatever they are: of each application's row
-- in the table, its line in the pool and what the history tells of it, and of who has the disk.
use Rattle.std.proofs.Common.{◌≡◌, ℕ, ◌+◌, ◌^◌, ◌<◌, ◌≤◌, true, false, ◌⊎◌, List, [], ◌∷◌, length, Some, None, sum_by, Option, sym, refl, ap, ◌∙◌, subst, inl, inr, ⊎_elim, arith}
use Rattle.std.specs.List.{All}
use Rattle.std.proofs.lemmas.List.{get_or_past}
use Rattle.std.proofs.lemmas.Bool.{cases_lt, cases_eq, eq-eqb, ne_eqb, true≢false, false≢true}
use Rattle.rosters.specs.Rosters.{LineUp}
use Rattle.rosters.specs.Stamps.{by_status, is_idle, is_serving, no_stamp}
use Rattle.rosters.specs.declared.stamp.Stamp.{Stamp}
use Rattle.rosters.specs.declared.stamp.Status.{Status}
use Rattle.rosters.specs.declared.stamp.Status.TheVariants.{Idle, Queued, Serving}
use Rattle.stamps.specs.Tables.{Table, row, Sound, is_application}
use Rattle.pools.specs.Fits.{Fits}
use Rattle.pools.specs.Lines.{line}
use Rattle.pools.specs.declared.request.Kind.TheVariants.{Synchronous}
use Rattle.pools.specs.declared.request.Request.{Request}
use Rattle.machine.specs.Machine.{Machine}
use Rattle.histories.specs.History as history
use Rattle.histories.specs.History.{Known, Finished, NotRecent}
use Rattle.histories.proofs.Requests.{Rising, size_of}

-- a request that waits among those of application k, of n applications, where so many were accepted
pub record Fine (n : ℕ) (owner : ℕ → ℕ) (count k : ℕ) (q : Request) : Type 0 where
  pub listed : k < n
  pub own : q.application ≡ k
  -- no request of another application bears its number
  pub named : owner q.number ≡ k
  pub counted : q.number ≤ count
  pub size_low : 1 ≤ q.size
  pub size_high : q.size ≤ 256
  pub end_high : q.first + q.size ≤ 2 ^ 40

abbrev pub sizes : List Request → ℕ
sizes l = sum_by size_of l

pub record Lined (n count total sent : ℕ) (ls : List (List Request)) (x : ℕ → Known) : Type 0 where
  pub sixteen : length ls ≡ 16
  pub lines : (k : ℕ) → (x k).waiting ≡ line ls k
  pub owner : ℕ → ℕ
  pub fine : (k : ℕ) → All (Fine n owner count k) (x k).waiting
  pub rising : (k : ℕ) → Rising (x k).waiting
  pub sums : sent + sum_by sizes ls ≤ total
  pub total_high : total ≤ 2 ^ 40
  pub count_high : count ≤ total

-- requests wait, and none is outstanding
pub record Waits (x : Known) : Type 0 where
  pub some : 0 < length x.waiting
  pub none_outstanding : x.outstanding ≡ []

-- what the history tells of an application that is idle, queued or serving in the table
abbrev pub Stands : Status → ℕ → ℕ → Known → Type 0
Stands Idle H clock x = history.Idle H clock x
Stands Queued H clock x = Waits x
Stands Serving H clock x = Unit {0}

pub record Funded (s : Stamp) : Type 0 where
  pub limit_low : 256 ≤ s.limit
  pub limit_high : s.limit ≤ 65536
  pub budget : Fits s.limit s.budget

pub record Stood (n H clock : ℕ) (t : Table) (x : ℕ → Known) : Type 0 where
  pub sound : Sound t
  pub size : length t.stamps ≡ n
  pub funded : (k : ℕ) → k < n → Funded (row t k)
  pub stands : (k : ℕ) → Stands (row t k).status H clock (x k)

-- Who has the disk: nobody; one of whom a request is in flight; one of whom requests wait; one for whom the
-- disk is held. It goes by who serves, the request in flight, and the end of the hold.
pub data Disk (H clock : ℕ) (x : ℕ → Known) (last : Option ℕ) (serving : Option ℕ) (flight : Option Request) (until : Option ℕ) : Type 0 where
  vacant : serving ≡ None → flight ≡ None → until ≡ None → Disk H clock x last serving flight until
  working : (k : ℕ) (q : Request) → serving ≡ Some k → flight ≡ Some q → until ≡ None → q.application ≡ k → (x k).outstanding ≡ q ∷ [] → Disk H clock x last serving flight until
  ready : (k : ℕ) → serving ≡ Some k → flight ≡ None → until ≡ None → Waits (x k) → Disk H clock x last serving flight until
  held : (k since : ℕ) → serving ≡ Some k → flight ≡ None → until ≡ Some (since + H) → (x k).waiting ≡ [] → (x k).outstanding ≡ []
      → (x k).latest ≡ Some (record { time = since; kind = Synchronous }) → clock < since + H → last ≡ Some k → Disk H clock x last serving flight until

pub record Core (r : LineUp) (m : Machine) (x : ℕ → Known) (head : ℕ) : Type 0 where
  pub lined : Lined (length r.applications) m.count m.total m.table.sent m.lists x
  pub stood : Stood (length r.applications) r.hold m.clock m.table x
  pub hold : m.hold ≡ r.hold
  pub clock_high : m.clock ≤ 2 ^ 40
  pub head_high : m.head ≤ 2 ^ 40
  pub head_is : m.head ≡ head

pub record Inv (r : LineUp) (m : Machine) (x : ℕ → Known) (last : Option ℕ) (head : ℕ) : Type 0 where
  pub core : Core r m x head
  pub disk : Disk r.hold m.clock x last m.table.serving m.flight m.until

-- one that is idle stays so while the time passes
not_recent_later : (H c c' : ℕ) (f : Option Finished) → c ≤ c' → NotRecent H c f → NotRecent H c' f
not_recent_later H c c' None h a = tt
not_recent_later H c c' (Some f) h a = λ e. omega (arith, a e)

pub idle_later : (H c c' : ℕ) (x : Known) → c ≤ c' → history.Idle H c x → history.Idle H c' x
idle_later H c c' x h i = record { none_waits = i.none_waits; none_outstanding = i.none_outstanding; not_recent = not_recent_later H c c' x.latest h i.not_recent }

stands_later : (st : Status) (H c c' : ℕ) (x : Known) → c ≤ c' → Stands st H c x → Stands st H c' x
stands_later Idle H c c' x h a = idle_later H c c' x h a
stands_later Queued H c c' x h a = a
stands_later Serving H c c' x h a = tt

-- one for whom requests wait is not idle
pub waits_not_idle : (H c : ℕ) (x : Known) → Waits x → history.Idle H c x → ⊥
waits_not_idle H c x w i = omega (arith, w.some, ap length i.none_waits)

module _ (n H clock : ℕ) (t : Table) (x : ℕ → Known) (s : Stood n H clock t x) where
  pub stood_later : (c : ℕ) → clock ≤ c → Stood n H c t x
  stood_later c h = record { sound = s.sound; size = s.size; funded = s.funded; stands = λ k. stands_later (row t k).status H clock c (x k) h (s.stands k) }

  -- idle in the table is idle in the history
  pub awake : (k : ℕ) → (history.Idle H clock (x k) → ⊥) → is_idle (row t k) ≡ false
  awake k no' = go (row t k).status (s.stands k)
    where
      go : (st : Status) → Stands st H clock (x k) → by_status st true false false ≡ false
      go Idle a = absurd (no' a)
      go Queued a = refl
      go Serving a = refl

  -- who serves has the status, and nobody else
  pub serves : (k : ℕ) → t.serving ≡ Some k → (row t k).status ≡ Serving
  serves k e = go (row t k).status (s.sound.one k (s.sound.within k e) ∙ ap (λ o. is_application o k) e ∙ eq-eqb k k refl)
    where
      go : (st : Status) → by_status st false false true ≡ true → st ≡ Serving
      go Idle h = absurd (false≢true h)
      go Queued h = absurd (false≢true h)
      go Serving h = refl

  apart : (k : ℕ) → (t.serving ≡ Some k → ⊥) → (o : Option ℕ) → t.serving ≡ o → is_application o k ≡ false
  apart k no' None e = refl
  apart k no' (Some j) e = ne_eqb j k (λ q. no' (e ∙ ap Some q))

  pub not_serving : (k : ℕ) → (t.serving ≡ Some k → ⊥) → is_serving (row t k) ≡ false
  not_serving k no' = go (cases_lt k (length t.stamps))
    where
      go : (k < length t.stamps) ⊎ (length t.stamps ≤ k) → is_serving (row t k) ≡ false
      go (inl h) = s.sound.one k h ∙ apart k no' t.serving refl
      go (inr h) = ap is_serving (get_or_past t.stamps k no_stamp h)

  pub who_serves : (k : ℕ) → (row t k).status ≡ Serving → t.serving ≡ Some k
  who_serves k is = go t.serving refl
    where
      never : (t.serving ≡ Some k → ⊥) → ⊥
      never no' = true≢false (sym (ap (λ st. by_status st false false true) is) ∙ not_serving k no')

      go : (o : Option ℕ) → t.serving ≡ o → t.serving ≡ Some k
      go None e = absurd (never (λ s. let z : ◌≡◌ {A = ℕ} 0 1 = cc in omega arith))
      go (Some j) e = ⊎_elim (λ s. e ∙ ap Some s) (λ ne. absurd (never (λ s. ne (let z : Some j ≡ Some k = sym e ∙ s in cc)))) (cases_eq j k)

  -- one that does not serve is idle in the history, or its requests wait
  pub idle_or_waits : (k : ℕ) → (t.serving ≡ Some k → ⊥) → history.Idle H clock (x k) ⊎ Waits (x k)
  idle_or_waits k no' = go (row t k).status (not_serving k no') (s.stands k)
    where
      go : (st : Status) → by_status st false false true ≡ false → Stands st H clock (x k) → history.Idle H clock (x k) ⊎ Waits (x k)
      go Idle h a = inl a
      go Queued h a = inr a
      go Serving h a = absurd (true≢false h)

  pub none_out : (k : ℕ) → (t.serving ≡ Some k → ⊥) → (x k).outstanding ≡ []
  none_out k no' = go (idle_or_waits k no')
    where
      go : history.Idle H clock (x k) ⊎ Waits (x k) → (x k).outstanding ≡ []
      go (inl i) = i.none_outstanding
      go (inr w) = w.none_outstanding

  -- one row changes, and what is known of that application
  pub stood_moved : (t' : Table) (x' : ℕ → Known) (k : ℕ) → Sound t' → length t'.stamps ≡ length t.stamps → ((j : ℕ) → (j ≡ k → ⊥) → row t' j ≡ row t j)
      → (k < n → Funded (row t' k)) → Stands (row t' k).status H clock (x' k) → ((j : ℕ) → (j ≡ k → ⊥) → x' j ≡ x j) → Stood n H clock t' x'
  stood_moved t' x' k sound size rows funded stands others = record {
    sound = sound;
    size = size ∙ s.size;
    funded = λ j h. fund j h (cases_eq j k);
    stands = λ j. stand j (cases_eq j k);
  }
    where
      fund : (j : ℕ) → j < n → (j ≡ k) ⊎ (j ≡ k → ⊥) → Funded (row t' j)
      fund j h (inl e) = subst (λ i. Funded (row t' i)) (sym e) (funded (omega (arith, h, e)))
      fund j h (inr ne) = subst Funded (sym (rows j ne)) (s.funded j h)

      stand : (j : ℕ) → (j ≡ k) ⊎ (j ≡ k → ⊥) → Stands (row t' j).status H clock (x' j)
      stand j (inl e) = subst (λ i. Stands (row t' i).status H clock (x' i)) (sym e) stands
      stand j (inr ne) = subst (λ y. Stands (row t' j).status H clock y) (sym (others j ne)) (subst (λ y. Stands y.status H clock (x j)) (sym (rows j ne)) (s.stands j))
