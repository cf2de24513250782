use Rattle.proxy_rows.proofs.OneText.{one_text}
use Rattle.proxy_rows.proofs.TextExists.{text_or_none}
use Rattle.proxy_rows.proofs.text_law.one_proxy_text.Goals as goal

pub returns-clause-some : goal.returns-clause-some
returns-clause-some c g root cert a b kept = text_or_none g kept root cert a b

pub returns-clause-one : goal.returns-clause-one
returns-clause-one c g root cert a b text other kept accepted is is' = one_text g root cert a b text other kept accepted is is'
