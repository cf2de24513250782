use Rattle.primary_alt.proofs.Repairs.{color_arrives, not_used}
use Rattle.primary_alt.proofs.repair_law.a_sound_column_goes_round.Goals as goal

pub returns-clause-arrives : goal.returns-clause-arrives
returns-clause-arrives c = λ links n column t sound s from other failed color is. color_arrives links n _ s t (sound.sound s from other) color

pub returns-clause-avoids : goal.returns-clause-avoids
returns-clause-avoids c = λ links n column t sound s from other x color is. not_used links n _ s t x color is
