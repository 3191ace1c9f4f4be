use Rattle.share_model.proofs.Law.{lead_lag_law, share_law, pair_law, low_law}
use Rattle.share_model.proofs.law_stands.Goals as goal

pub returns : goal.returns
returns c = record { leads = lead_lag_law; shares = share_law; pairs = pair_law; low = low_law }
