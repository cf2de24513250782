use Rattle.proxy_rows.proofs.OneAnswer.{one_answer}
use Rattle.proxy_rows.proofs.proxy_law.one_list_of_proxy_rows.Goals as goal

pub returns : goal.returns
returns c g cert a b entries others kept accepted one other = one_answer g cert a b entries others kept accepted one other
