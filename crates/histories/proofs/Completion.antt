-- The request in flight is complete: more of its application's wait, or the disk is held for it, or its turn is over.
use Rattle.std.proofs.Common.{◌≡◌, ℕ, ◌+◌, Bool, true, false, not, eqb, [], ◌∷◌, length, Some, None, filter, Option, sym, refl, ap, ◌∙◌, subst, arith}
use Rattle.std.proofs.lemmas.List.{nil_from_length}
use Rattle.std.proofs.lemmas.Bool.{ltb-true, ltb-false, eq-eqb, ne_eqb, cond-true, cond-false}
use Rattle.rosters.specs.Rosters.{LineUp}
use Rattle.stamps.specs.Tables.{row}
use Rattle.pools.specs.Lines.{Choice, line}
use Rattle.pools.specs.declared.request.Kind.{Kind}
use Rattle.pools.specs.declared.request.Kind.TheVariants.{Asynchronous, Synchronous}
use Rattle.pools.specs.declared.request.Request.{Request}
use Rattle.pools.specs.declared.rule.Reason.TheVariants.{RanDry}
use Rattle.machine.specs.Machine.{Machine, Rule, reacted, finished, retired, waits, subject, subject_of, with_until, with_flight}
use Rattle.machine.specs.declared.event.Event.TheVariants.{Completion}
use Rattle.histories.specs.History as history
use Rattle.histories.specs.History.{Known, ends, otherwise_numbered, NotRecent}
use Rattle.histories.specs.Promises.{Lawful, Sealed}
use Rattle.histories.proofs.Courses.{led_none}
use Rattle.histories.proofs.Invariant.{Lined, Stands, Stood, Disk, vacant, working, ready, held, Core, Inv, serves, none_out, stood_moved}
use Rattle.histories.proofs.Moves.{Asks, asking, retired_rests, rest_core, rest_led}
use Rattle.histories.proofs.First.{Step}

module _ (choice : Choice) (first : ℕ → ℕ) (next : Rule) (lawful : Lawful choice first next) (r : LineUp) (sealed : Sealed r) where
  module _ (m : Machine) (x : ℕ → Known) (last : Option ℕ) (head : ℕ) (inv : Inv r m x last head) (token : Request) where
    abbrev new : ℕ → Known
    new j = ends j m.clock (Some token) (x j)

    abbrev landed : Machine
    landed = with_flight None m

    stood : Stood (length r.applications) r.hold m.clock m.table x
    stood = inv.core.stood

    module _ (k : ℕ) (e : m.table.serving ≡ Some k) (own : token.application ≡ k) (out : (x k).outstanding ≡ token ∷ []) (no_hold : m.until ≡ None) where
      other : (j : ℕ) → (j ≡ k → ⊥) → ends j m.clock (Some token) (x j) ≡ x j
      other j ne =
          let none : (x j).outstanding ≡ [] = none_out _ r.hold m.clock m.table x stood j (λ s. ne (let z : Some j ≡ Some k = sym s ∙ e in cc)) in
          ap (λ o. record (new j) { outstanding = filter (otherwise_numbered token.number) o }) none
          ∙ ap (λ o. record (new j) { outstanding = o }) (sym none)
          ∙ ap (λ l. record (x j) { latest = l })
          (cond-false (eqb token.application j) (Some (record { time = m.clock; kind = token.kind })) (x j).latest (ne_eqb token.application j (λ s. ne (sym s ∙ own))))

      none_left : (ends k m.clock (Some token) (x k)).outstanding ≡ []
      none_left = ap (filter (otherwise_numbered token.number)) out
          ∙ cond-false (otherwise_numbered token.number token) (token ∷ []) [] (ap not (eq-eqb token.number token.number refl))

      latest : (ends k m.clock (Some token) (x k)).latest ≡ Some (record { time = m.clock; kind = token.kind })
      latest = cond-true (eqb token.application k) (Some (record { time = m.clock; kind = token.kind })) (x k).latest (eq-eqb token.application k own)

      lined : Lined (length r.applications) m.count m.total m.table.sent m.lists (λ j. ends j m.clock (Some token) (x j))
      lined = let l = inv.core.lined in
          record { sixteen = l.sixteen; lines = l.lines; owner = l.owner; fine = l.fine; rising = l.rising; sums = l.sums; total_high = l.total_high; count_high = l.count_high }

      core : Core r landed new head
      core = record {
        lined = lined;
        stood = stood_moved _ r.hold m.clock m.table x stood m.table new k stood.sound refl (λ j ne. refl) (stood.funded k)
            (subst (λ st. Stands st r.hold m.clock (new k)) (sym (serves _ r.hold m.clock m.table x stood k e)) tt) other;
        hold = inv.core.hold;
        clock_high = inv.core.clock_high;
        head_high = inv.core.head_high;
        head_is = inv.core.head_is;
      }

      abbrev Goal : Machine → Type 0
      Goal m' = Step r m.clock m m' x new (Some token.application) head 0 (λ _. 0)

      more : waits k m ≡ true → Goal landed
      more h = record {
        inv = record { core = core; disk = ready k e refl no_hold (record { some = omega (arith, ltb-true 0 (length (line m.lists k)) h, ap length (lined.lines k)); none_outstanding = none_left }) };
        led = led_none m.table (Asks r m.clock x);
      }

      dry : waits k m ≡ false → (x k).waiting ≡ []
      dry h = nil_from_length (x k).waiting (omega (arith, ltb-false 0 (length (line m.lists k)) h, ap length (lined.lines k)))

      hold : waits k m ≡ false → token.kind ≡ Synchronous → Goal (with_until (Some (m.clock + m.hold)) landed)
      hold h kind = record {
        inv = record {
          core = record { lined = core.lined; stood = core.stood; hold = core.hold; clock_high = core.clock_high; head_high = core.head_high; head_is = core.head_is };
          disk = held k m.clock e refl (ap (λ z. Some (m.clock + z)) inv.core.hold) (dry h) none_left (latest ∙ ap (λ z. Some (record { time = m.clock; kind = z })) kind) (omega (arith, sealed.hold_low)) (ap Some own);
        };
        led = led_none m.table (Asks r m.clock x);
      }

      over : waits k m ≡ false → token.kind ≡ Asynchronous → Goal (retired choice next RanDry k landed)
      over h kind =
          let idle : history.Idle r.hold m.clock (new k) = record {
            none_waits = dry h;
            none_outstanding = none_left;
            not_recent = subst (NotRecent r.hold m.clock) (sym latest) (λ s. let z : ◌≡◌ {A = ℕ} 0 1 = unlike (sym kind ∙ s) in absurd (omega arith));
          } in
          subst Goal (sym (retired_rests choice first next lawful r sealed landed new head core RanDry k e idle))
          (record {
            inv = record { core = rest_core choice first next lawful r sealed landed new head core RanDry k e idle; disk = vacant refl refl refl };
            led = rest_led choice first next lawful r sealed landed new head core RanDry k e idle (Asks r m.clock x) (asking choice first next lawful r sealed m x head inv.core);
          })
        where
          unlike : Asynchronous ≡ Synchronous → ◌≡◌ {A = ℕ} 0 1
          unlike s = cc

      by_kind : (kind : Kind) → token.kind ≡ kind → (b : Bool) → waits k m ≡ b → Goal (finished choice next k kind landed)
      by_kind Synchronous s true h = subst Goal (sym (cond-true (waits k m) landed (with_until (Some (m.clock + m.hold)) landed) h)) (more h)
      by_kind Synchronous s false h = subst Goal (sym (cond-false (waits k m) landed (with_until (Some (m.clock + m.hold)) landed) h)) (hold h s)
      by_kind Asynchronous s true h = subst Goal (sym (cond-true (waits k m) landed (retired choice next RanDry k landed) h)) (more h)
      by_kind Asynchronous s false h = subst Goal (sym (cond-false (waits k m) landed (retired choice next RanDry k landed) h)) (over h s)

      finishes : Goal (reacted choice next (row m.table (subject m)).status (Completion token.kind) (subject m) landed)
      finishes =
          subst (λ i. Goal (reacted choice next (row m.table i).status (Completion token.kind) i landed)) (sym (ap subject_of e))
          (subst (λ st. Goal (reacted choice next st (Completion token.kind) k landed)) (sym (serves _ r.hold m.clock m.table x stood k e)) (by_kind token.kind refl (waits k m) refl))

    pub completion_step : m.flight ≡ Some token
        → Step r m.clock m (reacted choice next (row m.table (subject m)).status (Completion token.kind) (subject m) (with_flight None m)) x (λ j. ends j m.clock (Some token) (x j)) (Some token.application) head 0 (λ _. 0)
    completion_step flight = by inv.disk
      where
        never : m.flight ≡ None → ⊥
        never f = let z : ◌≡◌ {A = ℕ} 0 1 = cc in omega arith

        by : Disk r.hold m.clock x last m.table.serving m.flight m.until
            → Step r m.clock m (reacted choice next (row m.table (subject m)).status (Completion token.kind) (subject m) (with_flight None m)) x (λ j. ends j m.clock (Some token) (x j)) (Some token.application) head 0 (λ _. 0)
        by (vacant e f u) = absurd (never f)
        by (working k q e f u d o) =
            let same : q ≡ token = cc in
            finishes k e (ap (λ p. p.application) (sym same) ∙ d) (o ∙ ap (λ p. p ∷ []) same) u
        by (ready k e f u w) = absurd (never f)
        by (held k since e f u w o l c h) = absurd (never f)
