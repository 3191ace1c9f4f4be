-- What a change of one line makes of all lines.
use Rattle.std.proofs.lemmas.Grind.{common_steps}
use Rattle.std.proofs.lemmas.List.{map-set, set-get_or}

pub ruleset one_line = (common_steps, map-set, set-get_or)
