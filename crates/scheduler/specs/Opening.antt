-- The desk of a scheduler that was just sealed.
use Rattle.std.specs.Prelude.{◌≡◌, ℕ, None}
use Rattle.scheduler.specs.declared.desk.Desk.{Desk}

pub record Opened (hold : ℕ) (d : Desk) : Type 0 where
  pub clock : d.clock ≡ 0
  pub head : d.head ≡ 0
  pub flight : d.flight ≡ None
  pub until : d.until ≡ None
  pub count : d.count ≡ 0
  pub total : d.total ≡ 0
  pub same_hold : d.hold ≡ hold
