-- How many records each body has. There is one of settings.
use Rattle.std.specs.Prelude.{ℕ, ◌≤◌}

pub record Counts : Type 0 where
  pub applications : ℕ
  pub requests : ℕ
  pub events : ℕ

abbrev pub counts : ℕ → ℕ → ℕ → Counts
counts applications requests events = record { applications = applications; requests = requests; events = events }

-- no body has more records than it may
pub record Few (c : Counts) : Type 0 where
  pub applications : c.applications ≤ 15
  pub requests : c.requests ≤ 960
  pub events : c.events ≤ 960
