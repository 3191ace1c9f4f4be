-- What is known of a file without a fault.
use Rattle.std.specs.Prelude.{◌≡◌, ◌≤◌, length, Ok}
use Rattle.files.specs.Reading.{judge_roster}
use Rattle.files.specs.Tables.{Tables}

pub record Judged (t : Tables) : Type 0 where
  pub few_applications : length t.applications ≤ 15
  pub few_events : length t.events ≤ 960
  pub fair : judge_roster t.settings t.applications ≡ Ok tt
