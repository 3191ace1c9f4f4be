-- A call that hands out no token leaves the token that is held that of the request in flight. Assumes nothing.
use Rattle.std.proofs.Common.{◌≡◌, ℕ, None, Some, Ok, Option, sym, refl, ap, ◌∙◌, arith}
use Rattle.machine.proofs.Flight.{arrived_flight, arrived_clock, dispatched_flight, dispatched_clock, flight_by}
use Rattle.machine.specs.Calls.{arrived, dispatched, dispatch_refusal, dispatch_reply}
use Rattle.machine.specs.Machine.{Machine, Rule, nothing}
use Rattle.machine.specs.declared.refusal.Refusal.{Refusal}
use Rattle.pools.specs.Lines.{Choice}
use Rattle.pools.specs.declared.request.Kind.{Kind}
use Rattle.scheduler.specs.Answers.{answered}
use Rattle.scheduler.specs.declared.token.Token as T
use Rattle.driver.specs.Runs.{Holding}

-- an answer that is no refusal says that there was none
not_refused : {X : Type 0} (o : Option Refusal) (x y : X) → Ok x ≡ answered o y → (o ≡ None) × (x ≡ y)
not_refused None x y e = (refl, (cc))
not_refused (Some r) x y e = let z : ◌≡◌ {A = ℕ} 0 1 = cc in absurd (omega arith)

module _ (choice : Choice) (next : Rule) (m : Machine) (token : Option T.Token) (held : Holding m token) where
  pub arrived_holding : (time a first size : ℕ) (kind : Kind) → Holding (arrived choice next time a first size kind m) token
  arrived_holding time a first size kind =
      record { clock = arrived_clock choice next time a first size kind m held.clock; flight = arrived_flight choice next time a first size kind m ∙ held.flight }

  -- nobody wants the disk
  pub idle_holding : (time : ℕ) → Ok nothing ≡ answered (dispatch_refusal time m) (dispatch_reply choice next time m) → Holding (dispatched choice next time m) token
  idle_holding time e =
      let a = not_refused (dispatch_refusal time m) nothing (dispatch_reply choice next time m) e in
      record {
        clock = dispatched_clock choice next time m held.clock;
        flight = dispatched_flight choice next time m a.0 ∙ ap (λ r. flight_by r m.flight) (sym a.1) ∙ held.flight;
      }
