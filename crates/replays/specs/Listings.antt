-- The listing of a file: a line for each event, then a line for each application.
use Rattle.std.specs.Prelude.{ℕ, suc, List, [], ◌∷◌, ◌++◌, Ok, Err, Result}
use Rattle.driver.specs.Runs.{acted, history, outcome}
use Rattle.driver.specs.declared.command.Command.{Command}
use Rattle.files.specs.Reading.{read}
use Rattle.files.specs.Tables.{Tables}
use Rattle.histories.specs.History.{History, sent_for}
use Rattle.listing.specs.Lines.{event_line, fault_line, share_line}
use Rattle.machine.specs.Machine.{Machine, Rule, beginning}
use Rattle.pools.specs.Lines.{Choice}
use Rattle.records.specs.declared.fault.Fault.{Fault}
use Rattle.rosters.specs.declared.application.Application.{Application}
use Rattle.replays.specs.Asked.{choice_of, commands, first_budget, next_budget, roster}

module _ (choice : Choice) (next : Rule) where
  -- what comes of each command, from a machine on
  abbrev pub event_lines : List Command → Machine → List ℕ
  event_lines [] m = []
  event_lines (c ∷ cs) m = event_line c (outcome choice next c m) ++ event_lines cs (acted choice next c m)

-- the applications from number k on, each with its weight and the sectors sent for it
abbrev pub share_lines : (ℕ → ℕ) → ℕ → List Application → List ℕ
share_lines sent k [] = []
share_lines sent k (a ∷ as') = share_line k a.weight (sent k) ++ share_lines sent (suc k) as'

module _ (choice : Choice) (first : ℕ → ℕ) (next : Rule) (t : Tables) where
  -- the machine that a file's commands are given to, and the history that they make
  abbrev pub start : Machine
  start = beginning first (roster t)

  abbrev pub played : History
  played = history choice next (commands t) start

  abbrev pub listed : List ℕ
  listed = event_lines choice next (commands t) start ++ share_lines (λ k. sent_for k played) 0 (roster t).applications

-- a file's own history and listing, by the pool and the rule that it names
abbrev pub history_of : Tables → History
history_of t = played (choice_of t.settings.pool) (first_budget t.settings.rule) (next_budget t.settings.rule) t

abbrev pub listing_of : Tables → List ℕ
listing_of t = listed (choice_of t.settings.pool) (first_budget t.settings.rule) (next_budget t.settings.rule) t

-- a file with a fault has that for its listing
abbrev pub listing_by : Result Tables Fault → List ℕ
listing_by (Ok t) = listing_of t
listing_by (Err f) = fault_line f

abbrev pub listing : List ℕ → List ℕ
listing bytes = listing_by (read bytes)
