use Rattle.std.proofs.Common.{◌≡◌, ◌≤◌, map, take, vec_items, vec_len, vec_capacity}
use Rattle.rosters.specs.Stamps.{new_stamp}
use Rattle.rosters.proofs.roster.Roster.into_stamps.Given as goal

abbrev pub invariant-loop-a : goal.invariant-loop-a
invariant-loop-a l =
    (vec_items l.stamps ≡ map (new_stamp l.total_weight) (take l.a-index l.a-items))
    × (vec_len l.stamps ≡ l.a-index)
    × (16 ≤ vec_capacity l.stamps)
