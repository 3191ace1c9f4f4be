-- How what came of a command is printed: a word, and numbers behind spaces.
use Rattle.std.specs.Prelude.{ℕ, List, ◌++◌, codes, decimal}
use Rattle.pools.specs.declared.request.Request.{Request}
use Rattle.driver.specs.Runs.{refused_number}
use Rattle.driver.specs.declared.command.Answer.{Answer}
use Rattle.driver.specs.declared.command.Answer.TheVariants.{Accepted, Sent, Held, Nothing, Done, Ticked}
use Rattle.driver.specs.declared.command.Refused.{Refused}

-- a request, without its kind
abbrev pub sent_text : Request → List ℕ
sent_text r = codes "send " ++ decimal r.application ++ codes " " ++ decimal r.number ++ codes " " ++ decimal r.first ++ codes " " ++ decimal r.size

abbrev pub answer_text : Answer → List ℕ
answer_text (Accepted n) = codes "arrive " ++ decimal n
answer_text (Sent r) = sent_text r
answer_text (Held k u) = codes "hold " ++ decimal k ++ codes " " ++ decimal u
answer_text Nothing = codes "none"
answer_text (Done n) = codes "done " ++ decimal n
answer_text Ticked = codes "tick"

abbrev pub refused_text : Refused → List ℕ
refused_text r = codes "refuse " ++ decimal (refused_number r)
