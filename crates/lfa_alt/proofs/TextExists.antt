-- A router has a text on its loop-free alternates.
use Rattle.std.proofs.Common.{◌≡◌, ◌<◌, ◌++◌, ℕ, List, [], Option, Some, None, codes, decimal, length, slice_get, refl}
use Rattle.area_graph.specs.declared.area_types.Arc.{Arc}
use Rattle.area_graph.specs.AreaInvariant.{IsArea}
use Rattle.area_graph.specs.Parts.{AreaParts}
use Rattle.text_parts.specs.Spelling.{node_text}
use Rattle.mrt_graph.proofs.ListTests.{there}
use Rattle.text_parts.specs.Hops.{hop_text}
use Rattle.text_parts.proofs.Adding.{some_headed_text}
use Rattle.primary_alt.specs.declared.shortest.Primary.{Primary}
use Rattle.primary_alt.specs.Primaries.{IsPrimary}
use Rattle.primary_alt.specs.Routers.{IsRouter}
use Rattle.primary_alt.proofs.AreaArcs.{arcs_between}
use Rattle.primary_alt.proofs.PrimariesExist.{primaries_exist}
use Rattle.primary_alt.proofs.RouterFacts.{router_within}
use Rattle.lfa_alt.specs.declared.alternate.Lfa.{Lfa}
use Rattle.lfa_alt.specs.LfaText.{AreLfaWords, IsArcHop, IsHead, IsLfaText, IsPartOn, Line, NoLine, kind_text}
use Rattle.lfa_alt.specs.LoopFree.{IsLfa}
use Rattle.lfa_alt.proofs.Beyond.{part_of}
use Rattle.lfa_alt.proofs.Chosen.{arc_there, next_there}
use Rattle.lfa_alt.proofs.LfasExist.{lfa_exists}

some_head : (area : AreaParts) (s : ℕ) → s < length area.ids → (text : List ℕ) × IsHead area s text
some_head area s within =
    let router = there area.ids s within in (
      codes "lfa " ++ node_text router.0 ++ codes " nodes " ++ decimal (length area.ids) ++ codes "\n",
      record { router = router.0; router_is = router.1; spelled = refl },
    )

module _ (area : AreaParts) (kept : IsArea area) where
  hop_over : (number : ℕ) (arc : Arc) → slice_get area.arcs number ≡ Some arc → (text : List ℕ) × IsArcHop area number text
  hop_over number arc arc_is =
      let far = there area.ids arc.to ((arcs_between area kept).tos number arc arc_is) in
      (hop_text far.0 arc.link_data, record { arc = arc; arc_is = arc_is; far = far.0; far_is = far.1; spelled = refl })

  some_words : (s t : ℕ) (lfa : Option Lfa) → IsLfa area s t lfa → (text : List ℕ) × AreLfaWords area lfa text
  some_words s t None is = (codes "none", refl)
  some_words s t (Some lfa) is =
      let arc = there area.arcs lfa.first (arc_there area s t (Some lfa) is) in
      let hop = hop_over lfa.first arc.0 arc.1 in
      let next = there area.ids lfa.next (next_there area kept s t (Some lfa) is) in (
        hop.0 ++ codes " next " ++ node_text next.0 ++ codes " " ++ kind_text lfa.node,
        record { hop = hop.0; hop_is = hop.1; next = next.0; next_is = next.1; spelled = refl },
      )

  module _ (s : ℕ) (router : IsRouter area.ids s) where
    part_by : (t : ℕ) → t < length area.ids → (entry : Option Primary) → IsPrimary area s t entry → (text : List ℕ) × IsPartOn area s t text
    part_by t within None is = ([], NoLine is)
    part_by t within (Some primary) is =
        let id = there area.ids t within in
        let first = part_of area kept s t primary is in
        let hop = hop_over primary.first first.arc first.there in
        let lfa = lfa_exists area kept s t router within in
        let words = some_words s t lfa.0 lfa.1 in
        let line = node_text id.0 ++ codes " primary " ++ hop.0 ++ codes " lfa " ++ words.0 ++ codes "\n" in (
          line,
          Line primary line is (record { id = id.0; id_is = id.1; hop = hop.0; hop_is = hop.1; lfa = lfa.0; lfa_is = lfa.1; words = words.0; words_are = words.1; spelled = refl }),
        )

    pub some_text : (text : List ℕ) × IsLfaText area s text
    some_text =
        let primaries = primaries_exist area kept in
        some_headed_text (IsHead area s) (IsPartOn area s) (length area.ids) (some_head area s (router_within area.ids s router))
        (λ t within. part_by t within (primaries.0 s t) (primaries.1 s t router within))
