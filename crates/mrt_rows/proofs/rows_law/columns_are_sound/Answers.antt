use Rattle.mrt_rows.proofs.SoundColumns.{column_sound}
use Rattle.mrt_rows.proofs.rows_law.columns_are_sound.Goals as goal

pub returns : goal.returns
returns c = λ g root w t column kept ordered t_within is.
    column_sound (record { g = g; root = root; w = w; kept = kept; ordered = ordered }) t t_within column is
