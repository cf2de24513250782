-- A router has one text on its loop-free alternates.
use Rattle.std.proofs.Common.{◌≡◌, ◌++◌, ◌∙◌, ℕ, List, Option, Some, None, codes, decimal, length, slice_get, refl, sym, ap, subst}
use Rattle.std.proofs.lemmas.Option.{same_Some}
use Rattle.area_graph.specs.declared.area_types.Arc.{Arc}
use Rattle.area_graph.specs.Parts.{AreaParts}
use Rattle.mrt_graph.specs.declared.node_id.NodeId.{NodeId}
use Rattle.text_parts.specs.Spelling.{node_text}
use Rattle.text_parts.specs.Hops.{hop_text}
use Rattle.text_parts.proofs.Adding.{one_headed_text, one_id}
use Rattle.primary_alt.specs.declared.shortest.Primary.{Primary}
use Rattle.primary_alt.proofs.PrimariesLead.{one_entry}
use Rattle.lfa_alt.specs.declared.alternate.Lfa.{Lfa}
use Rattle.lfa_alt.specs.LfaText.{AreLfaWords, IsArcHop, IsHead, IsLfaHop, IsLfaText, IsLine, IsPartOn, Line, NoLine, kind_text}
use Rattle.lfa_alt.proofs.Chosen.{its_primary}
use Rattle.lfa_alt.proofs.OneLfa.{one_answer}

one_head : (area : AreaParts) (s : ℕ) (text other : List ℕ) → IsHead area s text → IsHead area s other → text ≡ other
one_head area s text other is is' =
    is.spelled
    ∙ ap (λ (id : NodeId). codes "lfa " ++ node_text id ++ codes " nodes " ++ decimal (length area.ids) ++ codes "\n") (one_id area.ids s is.router is'.router is.router_is is'.router_is)
    ∙ sym is'.spelled

one_hop : (area : AreaParts) (n : ℕ) (text other : List ℕ) → IsArcHop area n text → IsArcHop area n other → text ≡ other
one_hop area n text other is is' =
    let arc : is.arc ≡ is'.arc = same_Some is.arc is'.arc (sym is.arc_is ∙ is'.arc_is) in
    let far : is.far ≡ is'.far = one_id area.ids is'.arc.to is.far is'.far (subst (λ (a : Arc). slice_get area.ids a.to ≡ Some is.far) arc is.far_is) is'.far_is in
    is.spelled ∙ ap (λ (a : Arc). hop_text is.far a.link_data) arc ∙ ap (λ (id : NodeId). hop_text id is'.arc.link_data) far ∙ sym is'.spelled

one_lfa_hop : (area : AreaParts) (lfa : Lfa) (text other : List ℕ) → IsLfaHop area lfa text → IsLfaHop area lfa other → text ≡ other
one_lfa_hop area lfa text other is is' =
    is.spelled
    ∙ ap (λ (hop : List ℕ). hop ++ codes " next " ++ node_text is.next ++ codes " " ++ kind_text lfa.node) (one_hop area lfa.first is.hop is'.hop is.hop_is is'.hop_is)
    ∙ ap (λ (id : NodeId). is'.hop ++ codes " next " ++ node_text id ++ codes " " ++ kind_text lfa.node) (one_id area.ids lfa.next is.next is'.next is.next_is is'.next_is)
    ∙ sym is'.spelled

one_words : (area : AreaParts) (lfa : Option Lfa) (text other : List ℕ) → AreLfaWords area lfa text → AreLfaWords area lfa other → text ≡ other
one_words area None text other is is' = is ∙ sym is'
one_words area (Some lfa) text other is is' = one_lfa_hop area lfa text other is is'

one_line : (area : AreaParts) (s t : ℕ) (primary : Primary) (text other : List ℕ) → IsLine area s t primary text → IsLine area s t primary other → text ≡ other
one_line area s t primary text other is is' =
    let lfa : is.lfa ≡ is'.lfa = one_answer area s t is.lfa is'.lfa is.lfa_is is'.lfa_is in
    let words = one_words area is'.lfa is.words is'.words (subst (λ (o : Option Lfa). AreLfaWords area o is.words) lfa is.words_are) is'.words_are in
    is.spelled
    ∙ ap (λ (id : NodeId). node_text id ++ codes " primary " ++ is.hop ++ codes " lfa " ++ is.words ++ codes "\n") (one_id area.ids t is.id is'.id is.id_is is'.id_is)
    ∙ ap (λ (hop : List ℕ). node_text is'.id ++ codes " primary " ++ hop ++ codes " lfa " ++ is.words ++ codes "\n") (one_hop area primary.first is.hop is'.hop is.hop_is is'.hop_is)
    ∙ ap (λ (w : List ℕ). node_text is'.id ++ codes " primary " ++ is'.hop ++ codes " lfa " ++ w ++ codes "\n") words
    ∙ sym is'.spelled

one_part : (area : AreaParts) (s t : ℕ) (text other : List ℕ) → IsPartOn area s t text → IsPartOn area s t other → text ≡ other
one_part area s t text other (NoLine none) (NoLine none') = refl
one_part area s t text other (NoLine none) (Line p x is line) = let clash : ◌≡◌ {A = Option Primary} None (Some p) = one_entry area s t None (Some p) none is in cc
one_part area s t text other (Line p x is line) (NoLine none) = let clash : ◌≡◌ {A = Option Primary} (Some p) None = one_entry area s t (Some p) None is none in cc
one_part area s t text other (Line p x is line) (Line p' x' is' line') =
    one_line area s t p' x x' (subst (λ (q : Primary). IsLine area s t q x) (its_primary area s t p p' is is') line) line'

pub one_text : (area : AreaParts) (s : ℕ) (text other : List ℕ) → IsLfaText area s text → IsLfaText area s other → text ≡ other
one_text area s text other is is' = one_headed_text (IsHead area s) (IsPartOn area s) (one_head area s) (one_part area s) (length area.ids) text other is is'
