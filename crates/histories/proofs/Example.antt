-- The written-out history is the machine's.
use Rattle.std.proofs.Common.{refl, arith}
use Rattle.pools.specs.Budgets.{steady_next}
use Rattle.pools.specs.Choices.{oldest}
use Rattle.histories.specs.Example.{start, day, Replayed}
use Rattle.histories.proofs.Reachable.{recorded_runs}

pub replayed : Replayed
replayed = record {
  answers = refl;
  runs = recorded_runs oldest steady_next start day;
  first_gets = refl;
  second_gets = refl;
  all = refl;
  not_yet = λ i. omega (arith, i.not_recent refl);
  then_idle = record { none_waits = refl; none_outstanding = refl; not_recent = λ _. omega arith };
}
