-- The blocks of the links, one after the other.
use Rattle.std.proofs.Common.{◌≡◌, ◌≢◌, ◌<◌, ◌+◌, ◌∙◌, ℕ, List, Some, length, slice_get, inl, inr, refl, sym, ap, subst, arith}
use Rattle.std.specs.Option.{option_and_then, option_map}
use Rattle.std.proofs.lemmas.Bool.{cases_eq, eq-eqb}
use Rattle.std.proofs.lemmas.List.{length-set}
use Rattle.mrt_graph.specs.declared.gadag.Mark.{Mark}
use Rattle.mrt_graph.specs.declared.gadag.Place.{Place}
use Rattle.mrt_graph.specs.declared.link.Link.{Link}
use Rattle.mrt_graph.specs.GadagFields.{role_at, way_at}
use Rattle.mrt_graph.specs.Leads.{far_node, leads}
use Rattle.mrt_graph.specs.Topology.{Topology}
use Rattle.mrt_graph.proofs.ListPlaces.{set_elsewhere, set_there}
use Rattle.gadag_ears.specs.steps.Blocks.{AreBlocksGiven, IsBlockGiven}
use Rattle.gadag_ears.specs.LinkMarks.{LiesInBlock}

-- a link leads from its one node to the other
pub leads_over : (g : Topology) (e : ℕ) (link : Link) → slice_get g.links e ≡ Some link → leads g.links e link.a ≡ Some link.b
leads_over g e link is = ap (λ o. option_and_then (far_node link.a) o) is ∙ from_first
  where
    from_first : far_node link.a link ≡ Some link.b
    from_first = rw (eq-eqb link.a link.a refl) refl

-- one more link
pub block_more : (g : Topology) (places : List Place) (k : ℕ) (marks marks' marks'' : List Mark) → length marks ≡ length g.links → k < length g.links
    → AreBlocksGiven g places k marks marks' → IsBlockGiven g places k marks' marks'' → AreBlocksGiven g places (k + 1) marks marks''
block_more g places k marks marks' marks'' one_each within are given = record {
  one_each = ap (λ (xs : List Mark). length xs) given.set ∙ length-set marks' k after ∙ are.one_each;
  ways = λ e. elim (cases_eq e k) [
    | inl same ↦ subst (λ (d : ℕ). way_at marks'' d ≡ way_at marks d) (sym same)
        (ap (λ o. option_map (λ mark. mark.way) o) here ∙ sym (ap (λ o. option_map (λ mark. mark.way) o) given.before) ∙ are.ways k)
    | inr other ↦ ap (λ o. option_map (λ mark. mark.way) o) (still e other) ∙ are.ways e
  ];
  roles = λ e. elim (cases_eq e k) [
    | inl same ↦ subst (λ (d : ℕ). role_at marks'' d ≡ role_at marks d) (sym same)
        (ap (λ o. option_map (λ mark. mark.role) o) here ∙ sym (ap (λ o. option_map (λ mark. mark.role) o) given.before) ∙ are.roles k)
    | inr other ↦ ap (λ o. option_map (λ mark. mark.role) o) (still e other) ∙ are.roles e
  ];
  blocks = λ e early. elim (cases_eq e k) [
    | inl same ↦ subst (λ (d : ℕ). LiesInBlock g places marks'' d) (sym same)
        (record { block = given.block; is = ap (λ o. option_map (λ mark. mark.block) o) here; common = given.common })
    | inr other ↦
        let it = are.blocks e (omega (arith, early, other)) in
        record { block = it.block; is = ap (λ o. option_map (λ mark. mark.block) o) (still e other) ∙ it.is; common = it.common }
  ];
}
  where
    after : Mark
    after = record { way = given.mark.way; role = given.mark.role; block = given.block }

    still : (e : ℕ) → e ≢ k → slice_get marks'' e ≡ slice_get marks' e
    still e other = ap (λ (xs : List Mark). slice_get xs e) given.set ∙ set_elsewhere marks' k e after other

    here : slice_get marks'' k ≡ Some after
    here = ap (λ (xs : List Mark). slice_get xs k) given.set ∙ set_there marks' k after (omega (arith, within, one_each, are.one_each))
