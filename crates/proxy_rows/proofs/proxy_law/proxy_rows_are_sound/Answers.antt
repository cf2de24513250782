use Rattle.proxy_rows.proofs.ProxySound.{sound}
use Rattle.proxy_rows.proofs.proxy_law.proxy_rows_are_sound.Goals as goal

pub returns : goal.returns
returns c g cert a b entries rows kept accepted are with =
    sound g cert are.at (record { kept = kept; accepted = accepted; a = a; b = b; attached = are.attached }) entries are.rows.one_each are.rows.each rows with
