use Rattle.mrt_survey.proofs.LsasInstalled.{made_behind, made_may, made_newest, made_settled}
use Rattle.mrt_survey.proofs.LsasMade.{lsas_kept}
use Rattle.mrt_survey.proofs.made_law.made_lsas_may_be_installed.Goals as goal

pub returns : goal.returns
returns c = record { faultless = lsas_kept; kept = made_may; places = made_behind; settled = made_settled; newest = made_newest }
