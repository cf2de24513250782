-- On each destination there is one row, and so one line.
use Rattle.std.proofs.Common.{◌≡◌, ◌∙◌, ◌==◌, ℕ, List, Option, Some, None, slice_get, refl, sym, ap, subst}
use Rattle.std.specs.List.{find}
use Rattle.std.proofs.lemmas.Option.{same_Some}
use Rattle.area_graph.specs.declared.area_types.Arc.{Arc}
use Rattle.mrt_graph.specs.declared.cert.Color.{Color}
use Rattle.mrt_graph.specs.declared.cert.Row.{Row}
use Rattle.mrt_graph.specs.declared.link.Element.{Element}
use Rattle.mrt_graph.specs.declared.link.Element.TheVariants as elements
use Rattle.mrt_graph.specs.declared.link.End.{End}
use Rattle.mrt_graph.specs.declared.link.Link.{Link}
use Rattle.mrt_graph.specs.declared.node_id.NodeId.{NodeId}
use Rattle.mrt_graph.specs.Alternate.{IsAlternate}
use Rattle.mrt_graph.specs.GraphInvariant.{IsTopology}
use Rattle.mrt_graph.specs.Rows.{Rows}
use Rattle.mrt_graph.specs.Topology.{Topology}
use Rattle.mrt_graph.proofs.ListPlaces.{contains_at}
use Rattle.mrt_graph.proofs.NodeIds.{one_place}
use Rattle.primary_alt.specs.declared.shortest.Primary.{Primary}
use Rattle.mrt_report.specs.Repairs.{AreArcElements, AreArcRepairs, AreSecondRepairs, Inside, IsLinkElement, IsNodeElement, IsRepair, Outside}
use Rattle.mrt_report.specs.Lines.{IsLine, row_text}
use Rattle.mrt_report.specs.Rows.{IsArcHop, IsEndOn, IsLinkHop, IsRow}
use Rattle.mrt_report.specs.declared.row.ArcRepairs.{ArcRepairs}
use Rattle.mrt_report.specs.declared.row.HopTo.{HopTo}
use Rattle.mrt_report.specs.declared.row.TableRow.{TableRow}
use Rattle.mrt_report.specs.LineParts.{LineParts}
use Rattle.area_graph.specs.Parts.{AreaParts}

-- for each failure there is one alternate
abbrev pub OneAlternate : Type 0
OneAlternate = (links : List Link) (n : ℕ) (rows : Rows) (s t : ℕ) (failed : Option Element) (answer other : Option Color)
    → IsAlternate links n rows s t failed answer → IsAlternate links n rows s t failed other → answer ≡ other

-- an identifier is one element, or none
one_node : (g : Topology) → IsTopology g → (id : NodeId) (one other : Option Element) → IsNodeElement g.ids id one → IsNodeElement g.ids id other → one ≡ other
one_node g kept id one other (Inside n at) (Inside m at') = ap (λ (k : ℕ). Some (elements.Node k)) (one_place g.ids n m id kept.ids_ascend at at')
one_node g kept id one other (Inside n at) (Outside none) = absurd (none (contains_at g.ids n id at))
one_node g kept id one other (Outside none) (Inside n at) = absurd (none (contains_at g.ids n id at))
one_node g kept id one other (Outside none) (Outside none') = refl

-- an arc leads over one link and to one node
one_link : (parts : LineParts) (number : ℕ) (link far link' far' : Option Element) → AreArcElements parts number link far
    → AreArcElements parts number link' far' → link ≡ link'
one_link parts number link far link' far' a b =
    let arc : a.arc ≡ b.arc = same_Some a.arc b.arc (sym a.there ∙ b.there) in
    same_Some link link' (sym (subst (λ (x : Arc). IsLinkElement parts.link_of x.bond link) arc a.link_is) ∙ b.link_is)

one_far : (parts : LineParts) → IsTopology parts.island → (number : ℕ) (link node link' node' : Option Element) → AreArcElements parts number link node
    → AreArcElements parts number link' node' → node ≡ node'
one_far parts kept number link node link' node' a b =
    let arc : a.arc ≡ b.arc = same_Some a.arc b.arc (sym a.there ∙ b.there) in
    let far : a.far ≡ b.far = same_Some a.far b.far (sym a.far_is ∙ ap (λ (x : Arc). slice_get parts.area.ids x.to) arc ∙ b.far_is) in
    one_node parts.island kept b.far node node' (subst (λ (id : NodeId). IsNodeElement parts.island.ids id node) far a.node_is) b.node_is

one_arc_repairs : OneAlternate → (parts : LineParts) → IsTopology parts.island → (to number : ℕ) (one other : ArcRepairs)
    → AreArcRepairs parts to number one → AreArcRepairs parts to number other → one ≡ other
one_arc_repairs alternate parts kept to number one other a b =
    let link : a.link ≡ b.link = one_link parts number a.link a.node b.link b.node a.elements_are b.elements_are in
    let node : a.node ≡ b.node = one_far parts kept number a.link a.node b.link b.node a.elements_are b.elements_are in
    let link_repair : one.link ≡ other.link =
    alternate _ _ _ _ _ _ one.link other.link (subst (λ (x : Option Element). IsRepair parts to x one.link) link a.link_repair_is) b.link_repair_is in
    let node_repair : one.node ≡ other.node =
    alternate _ _ _ _ _ _ one.node other.node (subst (λ (x : Option Element). IsRepair parts to x one.node) node a.node_repair_is) b.node_repair_is in
    λ i. record { link = link_repair i; node = node_repair i }

one_second_repairs : OneAlternate → (parts : LineParts) → IsTopology parts.island → (to : ℕ) (number : Option ℕ) (one other : Option ArcRepairs)
    → AreSecondRepairs parts to number one → AreSecondRepairs parts to number other → one ≡ other
one_second_repairs alternate parts kept to None None None a b = refl
one_second_repairs alternate parts kept to None None (Some other) a b = absurd b
one_second_repairs alternate parts kept to None (Some one) other a b = absurd a
one_second_repairs alternate parts kept to (Some number) None other a b = absurd a
one_second_repairs alternate parts kept to (Some number) (Some one) None a b = absurd b
one_second_repairs alternate parts kept to (Some number) (Some one) (Some other) a b =
    ap (λ (x : ArcRepairs). Some x) (one_arc_repairs alternate parts kept to number one other a b)

one_end : (g : Topology) (s link : ℕ) (one other : End) → IsEndOn g s link one → IsEndOn g s link other → one ≡ other
one_end g s link one other a b =
    let ends : a.ends ≡ b.ends = same_Some a.ends b.ends (sym a.ends_are ∙ b.ends_are) in
    same_Some one other (sym a.is ∙ ap (λ (xs : List End). find (λ end. end.link == link) xs) ends ∙ b.is)

pub one_link_hop : (g : Topology) (s link : ℕ) (one other : HopTo) → IsLinkHop g s link one → IsLinkHop g s link other → one ≡ other
one_link_hop g s link one other a b =
    let end : a.end ≡ b.end = one_end g s link a.end b.end a.end_is b.end_is in
    let far : one.far ≡ other.far = same_Some one.far other.far (sym a.far_is ∙ ap (λ (x : End). slice_get g.ids x.to) end ∙ b.far_is) in
    let data_is : one.link_data ≡ other.link_data = a.data_is ∙ ap (λ (x : End). x.link_data) end ∙ sym b.data_is in
    λ i. record { far = far i; link_data = data_is i }

one_arc_hop : (area : AreaParts) (number : ℕ) (one other : HopTo) → IsArcHop area number one → IsArcHop area number other → one ≡ other
one_arc_hop area number one other a b =
    let arc : a.arc ≡ b.arc = same_Some a.arc b.arc (sym a.arc_is ∙ b.arc_is) in
    let far : one.far ≡ other.far = same_Some one.far other.far (sym a.far_is ∙ ap (λ (x : Arc). slice_get area.ids x.to) arc ∙ b.far_is) in
    let data_is : one.link_data ≡ other.link_data = a.data_is ∙ ap (λ (x : Arc). x.link_data) arc ∙ sym b.data_is in
    λ i. record { far = far i; link_data = data_is i }

-- one row on each destination
pub one_row : OneAlternate → (parts : LineParts) (to : ℕ) (primary : Primary) (one other : TableRow) → IsTopology parts.island
    → IsRow parts to primary one → IsRow parts to primary other → one ≡ other
one_row alternate parts to primary one other kept a b =
    let id : one.id ≡ other.id = same_Some one.id other.id (sym a.id_is ∙ b.id_is) in
    let links : a.links ≡ b.links = same_Some a.links b.links (sym a.links_are ∙ b.links_are) in
    let tag : one.tag ≡ other.tag = a.tag_is ∙ ap (λ (x : Row). x.tag) links ∙ sym b.tag_is in
    let blue : one.blue ≡ other.blue =
    one_link_hop parts.island parts.source b.links.blue one.blue other.blue (subst (λ (x : Row). IsLinkHop parts.island parts.source x.blue one.blue) links a.blue_is) b.blue_is in
    let red : one.red ≡ other.red =
    one_link_hop parts.island parts.source b.links.red one.red other.red (subst (λ (x : Row). IsLinkHop parts.island parts.source x.red one.red) links a.red_is) b.red_is in
    let hop : one.primary ≡ other.primary = one_arc_hop parts.area primary.first one.primary other.primary a.primary_is b.primary_is in
    let first : one.first ≡ other.first = one_arc_repairs alternate parts kept to primary.first one.first other.first a.first_is b.first_is in
    let second : one.second ≡ other.second = one_second_repairs alternate parts kept to primary.second one.second other.second a.second_is b.second_is in
    λ i. record { id = id i; tag = tag i; blue = blue i; red = red i; primary = hop i; first = first i; second = second i }

-- and so one line
pub one_line : OneAlternate → (parts : LineParts) (to : ℕ) (primary : Primary) (one other : List ℕ) → IsTopology parts.island
    → IsLine parts to primary one → IsLine parts to primary other → one ≡ other
one_line alternate parts to primary one other kept a b =
    a.spelled ∙ ap row_text (one_row alternate parts to primary a.row b.row kept a.row_is b.row_is) ∙ sym b.spelled
