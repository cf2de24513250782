-- What holds of each list that comes about as an order.
use Rattle.std.proofs.Common.{◌≡◌, ◌<◌, ℕ, List, [], ◌∷◌, Some, length, slice_get, inl, inr, refl, sym, subst, arith}
use Rattle.std.specs.Prelude.{Contains}
use Rattle.std.proofs.lemmas.Option.{slice_get_within}
use Rattle.mrt_graph.specs.declared.gadag.Mark.{Mark}
use Rattle.mrt_graph.specs.GraphInvariant.{IsTopology}
use Rattle.mrt_graph.specs.Topology.{Topology}
use Rattle.mrt_graph.proofs.ListPlaces.{at_left, contains_at, place_of, pushed_at}
use Rattle.mrt_graph.proofs.Members.{contains_cases, contains_none}
use Rattle.lowpoint_dfs.proofs.WholeTree.{leads_within}
use Rattle.gadag_ears.specs.Counted.{IsCounted}
use Rattle.link_direction.specs.GadagOrder.{Begun, IsGadagOrder, Next}
use Rattle.link_direction.specs.steps.Counting.{StandOnce}
use Rattle.link_direction.proofs.TakenOff.{in_longer, once_longer}

-- it begins with the root, has each node at one place, and where it has a node it has before it all from which counted links come to that node
pub record IsSound (g : Topology) (root : ℕ) (marks : List Mark) (order : List ℕ) : Type 0 where
  pub first : slice_get order 0 ≡ Some root
  pub once : StandOnce order
  pub within : (v : ℕ) → Contains order v → v < length g.ids
  pub before : (e u v k : ℕ) → IsCounted g marks e u v → slice_get order k ≡ Some v → (j : ℕ) × (j < k) × (slice_get order j ≡ Some u)

pub order_sound : (g : Topology) (root : ℕ) (marks : List Mark) (order : List ℕ) → IsTopology g → root < length g.ids
    → ((e u : ℕ) → IsCounted g marks e u root → ⊥) → IsGadagOrder g root marks order → IsSound g root marks order
order_sound g root marks order kept within none Begun = record {
  first = refl;
  once = λ j k v at_j at_k. omega (arith, slice_get_within (root ∷ []) j v at_j, slice_get_within (root ∷ []) k v at_k);
  within = λ v c. elim (contains_cases root v [] c) [
    | inl same ↦ subst (λ (w : ℕ). w < length g.ids) (sym same) within
    | inr nowhere ↦ absurd (contains_none v nowhere)
  ];
  before = λ e u v k counted at. elim (contains_cases root v [] (contains_at (root ∷ []) k v at)) [
    | inl same ↦ absurd (none e u (subst (λ (w : ℕ). IsCounted g marks e u w) same counted))
    | inr nowhere ↦ absurd (contains_none v nowhere)
  ];
}
order_sound g root marks order kept within none (Next listed x ordered next) =
    let rest = order_sound g root marks listed kept within none ordered in
    let ready = next.ready.ready in
    record {
      first = at_left listed (x ∷ []) 0 root rest.first;
      once = once_longer listed x rest.once ready.outside;
      within = λ v c. elim (in_longer listed x v c) [
        | inl before ↦ rest.within v before
        | inr same ↦ subst (λ (w : ℕ). w < length g.ids) same (leads_within g ready.entered.0 ready.entered.1 x kept ready.entered.2.to).1
      ];
      before = λ e u v k counted at. elim (pushed_at listed x v k at) [
        | inl there ↦ let it = rest.before e u v k counted there in (it.0, it.1, at_left listed (x ∷ []) it.0 u it.2)
        | inr last ↦
            let it = place_of listed u (ready.from_list e u (subst (λ (w : ℕ). IsCounted g marks e u w) (sym last.1) counted)) in
            (it.0, omega (arith, slice_get_within listed it.0 u it.1, last.0), at_left listed (x ∷ []) it.0 u it.1)
      ];
    }
