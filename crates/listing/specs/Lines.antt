-- The lines of a listing: words, and numbers in decimal, with one space between two of them and a newline
-- behind the last.
use Rattle.std.specs.Prelude.{ℕ, List, [], ◌∷◌, ◌++◌, map, codes, decimal, Ok, Err, Result}
use Rattle.driver.specs.Runs.{refused_number, time_of}
use Rattle.driver.specs.declared.command.Answer.{Answer}
use Rattle.driver.specs.declared.command.Answer.TheVariants.{Accepted, Sent, Held, Nothing, Done, Ticked}
use Rattle.driver.specs.declared.command.Command.{Command}
use Rattle.driver.specs.declared.command.Command.TheVariants.{Arrival, Dispatch, Completion, Tick}
use Rattle.driver.specs.declared.command.Refused.{Refused}
use Rattle.records.specs.Faults.{layer_number, cause_number}
use Rattle.records.specs.declared.fault.Fault.{Fault}

-- what stands behind a field of a line: the others, and the newline
abbrev pub spaced : List (List ℕ) → List ℕ
spaced [] = 10 ∷ []
spaced (f ∷ fs) = 32 ∷ (f ++ spaced fs)

abbrev pub text : List (List ℕ) → List ℕ
text [] = 10 ∷ []
text (f ∷ fs) = f ++ spaced fs

-- the application that an arrival is of; only an arrival is accepted, so the other calls' 0 is never put
abbrev pub application_of : Command → ℕ
application_of (Arrival time a first size kind) = a
application_of (Dispatch time) = 0
application_of (Completion time) = 0
application_of (Tick time) = 0

-- the line of an event, by the command and what came of it
abbrev pub event_line : Command → Result Answer Refused → List ℕ
event_line c (Ok (Accepted n)) = text (decimal (time_of c) ∷ codes "arrive" ∷ decimal (application_of c) ∷ decimal n ∷ [])
event_line c (Ok (Sent q)) = text (decimal (time_of c) ∷ codes "send" ∷ decimal q.application ∷ decimal q.number ∷ decimal q.first ∷ decimal q.size ∷ [])
event_line c (Ok (Held k until)) = text (decimal (time_of c) ∷ codes "hold" ∷ decimal k ∷ decimal until ∷ [])
event_line c (Ok Nothing) = text (decimal (time_of c) ∷ codes "none" ∷ [])
event_line c (Ok (Done n)) = text (decimal (time_of c) ∷ codes "done" ∷ decimal n ∷ [])
event_line c (Ok Ticked) = text (decimal (time_of c) ∷ codes "tick" ∷ [])
event_line c (Err r) = text (decimal (time_of c) ∷ codes "refuse" ∷ decimal (refused_number r) ∷ [])

-- the line of an application: its number, its weight, and the sectors that were sent for it
abbrev pub share_line : ℕ → ℕ → ℕ → List ℕ
share_line k weight sectors = text (codes "app" ∷ decimal k ∷ codes "weight" ∷ decimal weight ∷ codes "sent" ∷ decimal sectors ∷ [])

-- the line of a file's first fault
abbrev pub fault_line : Fault → List ℕ
fault_line f = text (codes "fault" ∷ decimal (layer_number f.layer) ∷ decimal (cause_number f.number) ∷ decimal f.place ∷ [])

-- a time, a word with the space before it, and numbers
abbrev pub timed : ℕ → List ℕ → List ℕ → List ℕ
timed time word ns = decimal time ++ (word ++ spaced (map decimal ns))

-- a word with the space behind it, a number, and what ends them
abbrev pub named : List ℕ → ℕ → List ℕ → List ℕ
named word n last = word ++ (decimal n ++ last)
