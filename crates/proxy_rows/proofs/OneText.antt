-- Two routers have one text.
use Rattle.std.proofs.Common.{◌≡◌, ◌==◌, ◌++◌, ◌∙◌, ℕ, List, Some, codes, length, slice_get, sym, ap, subst}
use Rattle.std.proofs.lemmas.Option.{same_Some}
use Rattle.std.specs.List.{find}
use Rattle.mrt_graph.specs.declared.link.End.{End}
use Rattle.mrt_graph.specs.declared.node_id.NodeId.{NodeId}
use Rattle.mrt_graph.specs.Certificate.{Certificate}
use Rattle.mrt_graph.specs.GraphInvariant.{IsTopology}
use Rattle.text_parts.specs.Spelling.{node_text}
use Rattle.mrt_graph.specs.Topology.{Topology}
use Rattle.text_parts.specs.Hops.{hop_text}
use Rattle.text_parts.specs.Parts.{IsHeaded}
use Rattle.text_parts.proofs.Adding.{one_headed_text, one_id}
use Rattle.proxy_rows.specs.declared.proxy_row.Out.{Out}
use Rattle.proxy_rows.specs.declared.proxy_row.Out.TheVariants as outs
use Rattle.proxy_rows.specs.declared.proxy_row.ProxyRow.{ProxyRow}
use Rattle.mrt_graph.specs.AcceptedFor.{IsAcceptedFor}
use Rattle.proxy_rows.specs.ProxyText.{IsEndOn, IsHead, IsHop, IsLine, IsOutText, IsProxyText}
use Rattle.proxy_rows.proofs.OneAnswer.{one_answer}

one_head : (g : Topology) (a b root : ℕ) (text other : List ℕ) → IsHead g a b root text → IsHead g a b root other → text ≡ other
one_head g a b root text other is is' =
    is.spelled
    ∙ ap (λ (id : NodeId). codes "proxy " ++ node_text id ++ codes " " ++ node_text is.other ++ codes " root " ++ node_text is.top ++ codes "\n") (one_id g.ids a is.one is'.one is.one_is is'.one_is)
    ∙ ap (λ (id : NodeId). codes "proxy " ++ node_text is'.one ++ codes " " ++ node_text id ++ codes " root " ++ node_text is.top ++ codes "\n") (one_id g.ids b is.other is'.other is.other_is is'.other_is)
    ∙ ap (λ (id : NodeId). codes "proxy " ++ node_text is'.one ++ codes " " ++ node_text is'.other ++ codes " root " ++ node_text id ++ codes "\n") (one_id g.ids root is.top is'.top is.top_is is'.top_is)
    ∙ sym is'.spelled

-- a node has one end on a link
one_end : (g : Topology) (s e : ℕ) (end other : End) → IsEndOn g s e end → IsEndOn g s e other → end ≡ other
one_end g s e end other is is' =
    same_Some end other (sym is.is ∙ ap (find (λ (x : End). x.link == e)) (same_Some is.ends is'.ends (sym is.list ∙ is'.list)) ∙ is'.is)

one_hop : (g : Topology) (s e : ℕ) (text other : List ℕ) → IsTopology g → IsHop g s e text → IsHop g s e other → text ≡ other
one_hop g s e text other kept is is' =
    let end : is.end ≡ is'.end = one_end g s e is.end is'.end is.end_is is'.end_is in
    let far : is.far ≡ is'.far = one_id g.ids is'.end.to is.far is'.far (subst (λ (x : End). slice_get g.ids x.to ≡ Some is.far) end is.far_is) is'.far_is in
    is.spelled
    ∙ ap (λ (x : End). hop_text is.far x.link_data) end
    ∙ ap (λ (id : NodeId). hop_text id is'.end.link_data) far
    ∙ sym is'.spelled

one_out : (g : Topology) (s : ℕ) (out : Out) (text other : List ℕ) → IsTopology g → IsOutText g s out text → IsOutText g s out other → text ≡ other
one_out g s (outs.Link e) text other kept is is' = one_hop g s e text other kept is is'
one_out g s outs.Attached text other kept is is' = is ∙ sym is'

one_line : (g : Topology) (entries : List ProxyRow) (s : ℕ) (text other : List ℕ) → IsTopology g → IsLine g entries s text → IsLine g entries s other → text ≡ other
one_line g entries s text other kept is is' =
    let row : is.row ≡ is'.row = same_Some is.row is'.row (sym is.row_is ∙ is'.row_is) in
    let blue = one_out g s is'.row.blue is.blue is'.blue kept (subst (λ (r : ProxyRow). IsOutText g s r.blue is.blue) row is.blue_is) is'.blue_is in
    let red = one_out g s is'.row.red is.red is'.red kept (subst (λ (r : ProxyRow). IsOutText g s r.red is.red) row is.red_is) is'.red_is in
    is.spelled
    ∙ ap (λ (id : NodeId). node_text id ++ codes " blue " ++ is.blue ++ codes " red " ++ is.red ++ codes "\n") (one_id g.ids s is.id is'.id is.id_is is'.id_is)
    ∙ ap (λ (x : List ℕ). node_text is'.id ++ codes " blue " ++ x ++ codes " red " ++ is.red ++ codes "\n") blue
    ∙ ap (λ (x : List ℕ). node_text is'.id ++ codes " blue " ++ is'.blue ++ codes " red " ++ x ++ codes "\n") red
    ∙ sym is'.spelled

pub one_text : (g : Topology) (root : ℕ) (c : Certificate) (a b : ℕ) (text other : List ℕ) → IsTopology g → IsAcceptedFor g c
    → IsProxyText g root c a b text → IsProxyText g root c a b other → text ≡ other
one_text g root c a b text other kept accepted is is' =
    let entries = one_answer g c a b is.entries is'.entries kept accepted is.entries_are is'.entries_are in
    one_headed_text (IsHead g a b root) (IsLine g is'.entries) (one_head g a b root) (λ s part whole. one_line g is'.entries s part whole kept)
    (length g.ids) text other
    (subst (λ (rows : List ProxyRow). IsHeaded (IsHead g a b root) (IsLine g rows) (length g.ids) text) entries is.headed) is'.headed
