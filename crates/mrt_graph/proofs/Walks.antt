-- Walks: one link more, joined, what they meet; and walks as paths.
use Rattle.std.proofs.Common.{◌≡◌, ℕ, List, [], ◌∷◌, ◌++◌, Option, Some, refl, sym, ◌∙◌, ap, subst}
use Rattle.std.specs.Prelude.{Contains}
use Rattle.std.specs.Option.{option_map_or}
use Rattle.mrt_graph.specs.declared.link.Link.{Link}
use Rattle.mrt_graph.specs.Leads.{leads}
use Rattle.mrt_graph.specs.Uses.{nodes_met}
use Rattle.mrt_graph.specs.Walk.{Walk}
use Rattle.mrt_graph.proofs.Members.{contains_first}

-- one link more
pub walk_onward : (links : List Link) (walk : List ℕ) (s u e v : ℕ) → Walk links s walk u → leads links e u ≡ Some v → Walk links s (walk ++ e ∷ []) v
walk_onward links [] s u e v w on = (v, subst (λ (x : ℕ). leads links e x ≡ Some v) (sym w) on, refl)
walk_onward links (f ∷ fs) s u e v w on = (w.0, w.1, walk_onward links fs w.0 u e v w.2 on)

-- a walk after a walk
pub walk_joined : (links : List Link) (front back : List ℕ) (s u t : ℕ) → Walk links s front u → Walk links u back t → Walk links s (front ++ back) t
walk_joined links [] back s u t w z = subst (λ (x : ℕ). Walk links x back t) (sym w) z
walk_joined links (e ∷ es) back s u t w z = (w.0, w.1, walk_joined links es back w.0 u t w.2 z)

-- a list of links is a walk from s to one node at most
pub walk_end : (links : List Link) (walk : List ℕ) (s t u : ℕ) → Walk links s walk t → Walk links s walk u → t ≡ u
walk_end links [] s t u w z = sym w ∙ z
walk_end links (e ∷ es) s t u w z =
    let same : w.0 ≡ z.0 = cc (w.1, z.1)
    in walk_end links es z.0 t u (subst (λ (x : ℕ). Walk links x es t) same w.2) z.2

-- a walk meets first the node that it begins at
pub met_first : (links : List Link) (walk : List ℕ) (s : ℕ) → Contains (nodes_met links s walk) s
met_first links [] s = contains_first s []
met_first links (e ∷ es) s = contains_first s _

-- and then what the rest of it meets
pub met_onward : (links : List Link) (u e v : ℕ) (rest : List ℕ) → leads links e u ≡ Some v → nodes_met links u (e ∷ rest) ≡ u ∷ nodes_met links v rest
met_onward links u e v rest on = ap (λ (o : Option ℕ). u ∷ option_map_or (λ (x : ℕ). nodes_met links x rest) o []) on
