use Rattle.gadag_ears.proofs.EarsExist.{ear_exists}
use Rattle.gadag_ears.proofs.FromSearch.{facts_of}
use Rattle.gadag_ears.proofs.ears_law.every_ear_stops.Goals as goal

pub returns : goal.returns
returns c = λ g root tree over x later ears end kind kept within search ordered begun.
    ear_exists g root tree over x later ears end kind (facts_of g root tree (record { kept = kept; within = within; search = search })) ordered begun
