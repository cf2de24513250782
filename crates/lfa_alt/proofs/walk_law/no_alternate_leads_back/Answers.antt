use Rattle.lfa_alt.proofs.Chosen.{its_own, its_own_leads}
use Rattle.lfa_alt.proofs.WalksRound.{arrives, leads, not_bond, not_source}
use Rattle.lfa_alt.proofs.walk_law.no_alternate_leads_back.Goals as goal

pub returns : goal.returns
returns c = record {
  arrives = arrives;
  own = λ area kept s t router lfa is. its_own area s t lfa is;
  begins = λ area kept s t router lfa is. its_own_leads area s t lfa is;
  leads = leads;
  source = not_source;
  bond = not_bond;
}
