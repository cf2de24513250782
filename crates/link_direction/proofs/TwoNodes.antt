-- What two nodes are to each other, as the directions say.
use Rattle.std.proofs.Common.{◌≡◌, ◌≢◌, ◌∙◌, ◌<◌, ℕ, Option, Some, length, slice_get, sym, ap, inl, inr}
use Rattle.std.proofs.lemmas.Bool.{cases_eq}
use Rattle.std.proofs.lemmas.Option.{same_Some}
use Rattle.std.specs.Option.{option_map}
use Rattle.mrt_graph.specs.declared.gadag.Place.{Place}
use Rattle.mrt_graph.specs.declared.related.Relation.{Relation}
use Rattle.mrt_graph.specs.declared.related.Relation.TheVariants as relations
use Rattle.mrt_graph.specs.DirectedLists.{DirectedLists}
use Rattle.mrt_graph.specs.Related.{IsRelation}
use Rattle.mrt_graph.specs.Topology.{Topology}
use Rattle.link_direction.specs.CommonBlock.{FromHead, HaveCommonBlock, Peers, ToHead}
use Rattle.link_direction.specs.Directions.{Directions, Says}

-- what a list of places says of a node
pub place_says : (g : Topology) (d : DirectedLists) (w : Directions) (v : ℕ) (place : Place) → Says g d w
    → v < length g.ids
    → slice_get d.places v ≡ Some place → (place.head ≡ w.head v) × (place.block ≡ w.block v)
place_says g d w v place says within is = (
  same_Some place.head (w.head v)
      (sym (ap (λ (o : Option Place). option_map (λ p. p.head) o) is) ∙ says.heads v within),
  same_Some place.block (w.block v)
      (sym (ap (λ (o : Option Place). option_map (λ p. p.block) o) is) ∙ says.blocks v within),
)

-- where neither is the other's head, and they have two blocks, they have none in common
none_common : (w : Directions) (s t : ℕ) → w.head s ≢ t → w.head t ≢ s → w.block s ≢ w.block t → (k h : ℕ)
    → ¬ HaveCommonBlock w s t k h
none_common w s t not_head not_top differ k h common = go common
  where
    go : HaveCommonBlock w s t k h → ⊥
    go (Peers a b c) = differ (a ∙ sym b)
    go (ToHead a b c) = not_head b
    go (FromHead a b c) = not_top b

-- what each relation tells of two nodes
abbrev pub Relates : Directions → ℕ → ℕ → Relation → Type 0
Relates w s t relations.OneBlock = w.block s ≡ w.block t
Relates w s t relations.ToHead = w.head s ≡ t
Relates w s t relations.FromHead = w.head t ≡ s
Relates w s t relations.Apart = (k h : ℕ) → ¬ HaveCommonBlock w s t k h

-- the relation of two nodes by their places
pub relates : (w : Directions) (s t : ℕ) (here there : Place) → (here.head ≡ w.head s) × (here.block ≡ w.block s)
    → (there.head ≡ w.head t) × (there.block ≡ w.block t) → (r : Relation) → IsRelation s here t there r → Relates w s t r
relates w s t here there at_s at_t relations.OneBlock one = sym at_s.1 ∙ one ∙ at_t.1
relates w s t here there at_s at_t relations.ToHead under = sym at_s.0 ∙ under.1
relates w s t here there at_s at_t relations.FromHead over = sym at_t.0 ∙ over.2
relates w s t here there at_s at_t relations.Apart far =
    none_common w s t (λ under. far.1 (at_s.0 ∙ under)) (λ over. far.2 (at_t.0 ∙ over)) (λ one. far.0 (at_s.1 ∙ one ∙ sym at_t.1))

-- that of any two nodes
pub of_two : (w : Directions) (s t : ℕ) → (r : Relation) × Relates w s t r
of_two w s t = elim (cases_eq (w.block s) (w.block t)) [
  | inl one ↦ (relations.OneBlock, one)
  | inr two ↦ elim (cases_eq (w.head s) t) [
    | inl under ↦ (relations.ToHead, under)
    | inr not_under ↦ elim (cases_eq (w.head t) s) [
      | inl over ↦ (relations.FromHead, over)
      | inr not_over ↦ (relations.Apart, none_common w s t not_under not_over two)
    ]
  ]
]
