use Rattle.share_law.proofs.Law.{law}
use Rattle.histories.proofs.Kept.{kept}
use Rattle.histories.proofs.Reachable.{in_bounds}
use Rattle.histories.proofs.Example.{replayed}
use Rattle.histories.proofs.promises_stand.Goals as goal

pub returns : goal.returns
returns c = record {
  promises = λ choice first next r lawful sealed. kept choice first next lawful r sealed (law r sealed.few sealed.each);
  bounds = λ choice first next r lawful sealed. in_bounds choice first next r lawful sealed;
  example = replayed;
}
