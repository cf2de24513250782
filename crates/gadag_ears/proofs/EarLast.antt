-- An ear's last new node.
use Rattle.std.proofs.Common.{ℕ, List, [], ◌∷◌}
use Rattle.std.specs.Prelude.{Contains}
use Rattle.mrt_graph.proofs.Members.{contains_first, contains_later}
use Rattle.gadag_ears.specs.Ear.{last_node}

pub last_in : (v : ℕ) (us : List ℕ) → Contains (v ∷ us) (last_node v us)
last_in v [] = contains_first v []
last_in v (u ∷ us) = contains_later v (last_node u us) (u ∷ us) (last_in u us)
