-- A GADAG, its answer, and what the answer says.
use Rattle.std.proofs.Common.{◌≡◌, ◌≢◌, ◌<◌, ◌≤◌, ◌+◌, ◌∙◌, ℕ, List, Some, length, slice_get, sym, ap, arith}
use Rattle.std.proofs.lemmas.Option.{same_Some, slice_get_within}
use Rattle.mrt_graph.specs.declared.gadag.Place.{Place}
use Rattle.mrt_graph.specs.DirectedLists.{DirectedLists}
use Rattle.mrt_graph.specs.GadagLists.{GadagLists}
use Rattle.mrt_graph.specs.GadagFields.{block_at, head_at, link_block_at, role_at}
use Rattle.mrt_graph.specs.Tails.{tail_at}
use Rattle.mrt_graph.specs.Topology.{Topology}
use Rattle.mrt_graph.proofs.ListPlaces.{place_of}
use Rattle.lowpoint_dfs.proofs.WholeTree.{leads_within}
use Rattle.gadag_ears.specs.Counted.{IsCounted}
use Rattle.gadag_ears.specs.Members.{IsInBlockOf}
use Rattle.link_direction.specs.Directed.{IsDirected}
use Rattle.link_direction.specs.Directions.{Directions, Says}
use Rattle.link_direction.proofs.EachInOrder.{each_in_order, whole_sound}
use Rattle.link_direction.proofs.FromEarsFacts.{AreGadagFacts, one_head}
use Rattle.link_direction.proofs.TakenOff.{few_listed}

pub record IsAnswered (g : Topology) (root : ℕ) (gadag : GadagLists) (d : DirectedLists) (w : Directions) : Type 0 where
  pub facts : AreGadagFacts g root gadag
  pub directed : IsDirected g root gadag d
  pub says : Says g d w

-- a node's order number is its place in the order, from 1
pub record StandsAt (order : List ℕ) (w : Directions) (v : ℕ) : Type 0 where
  pub place : ℕ
  pub there : slice_get order place ≡ Some v
  pub number : w.order v ≡ place + 1

pub stands_at : (g : Topology) (root : ℕ) (gadag : GadagLists) (d : DirectedLists) (w : Directions) (v : ℕ) → (a : IsAnswered g root gadag d w)
    → v < length g.ids → StandsAt a.directed.order w v
stands_at g root gadag d w v a within =
    let at = place_of a.directed.order v (each_in_order g root gadag a.directed.order v a.facts a.directed.whole within) in
    record { place = at.0; there = at.1; number = same_Some (w.order v) (at.0 + 1) (sym (a.says.orders v within) ∙ a.directed.numbers.places at.0 v at.1) }

-- a counted link leads to a greater order
pub counted_rises : (g : Topology) (root : ℕ) (gadag : GadagLists) (d : DirectedLists) (w : Directions) (e u v : ℕ) → IsAnswered g root gadag d w
    → IsCounted g gadag.marks e u v → w.order u < w.order v
counted_rises g root gadag d w e u v a counted =
    let within = leads_within g e u v a.facts.kept counted.to in
    let sound = whole_sound g root gadag a.directed.order a.facts a.directed.whole in
    let u_at = stands_at g root gadag d w u a within.0 in
    let v_at = stands_at g root gadag d w v a within.1 in
    let it = sound.before e u v v_at.place counted v_at.there in
    omega (arith, it.1, sound.once it.0 u_at.place u it.2 u_at.there, u_at.number, v_at.number)

-- nodes of one order number are one
pub one_number : (g : Topology) (root : ℕ) (gadag : GadagLists) (d : DirectedLists) (w : Directions) (u v : ℕ) → IsAnswered g root gadag d w
    → u < length g.ids → v < length g.ids → w.order u ≡ w.order v → u ≡ v
one_number g root gadag d w u v a u_within v_within same =
    let u_at = stands_at g root gadag d w u a u_within in
    let v_at = stands_at g root gadag d w v a v_within in
    let place : u_at.place ≡ v_at.place = omega (arith, same, u_at.number, v_at.number) in
    same_Some u v (sym u_at.there ∙ ap (λ (k : ℕ). slice_get a.directed.order k) place ∙ v_at.there)

-- heads, blocks and roles are those of the GADAG
pub head_said : (g : Topology) (root : ℕ) (gadag : GadagLists) (d : DirectedLists) (w : Directions) (v : ℕ) → IsAnswered g root gadag d w
    → v < length g.ids → head_at gadag.places v ≡ Some (w.head v)
head_said g root gadag d w v a within = ap (λ (ps : List Place). head_at ps v) (sym a.directed.places) ∙ a.says.heads v within

pub block_said : (g : Topology) (root : ℕ) (gadag : GadagLists) (d : DirectedLists) (w : Directions) (v : ℕ) → IsAnswered g root gadag d w
    → v < length g.ids → block_at gadag.places v ≡ Some (w.block v)
block_said g root gadag d w v a within = ap (λ (ps : List Place). block_at ps v) (sym a.directed.places) ∙ a.says.blocks v within

pub role_said : (g : Topology) (root : ℕ) (gadag : GadagLists) (d : DirectedLists) (w : Directions) (e : ℕ) → IsAnswered g root gadag d w
    → e < length g.links → role_at gadag.marks e ≡ Some (w.role e)
role_said g root gadag d w e a within = sym (a.directed.ways.roles e) ∙ a.says.roles e within

pub lies_said : (g : Topology) (root : ℕ) (gadag : GadagLists) (d : DirectedLists) (w : Directions) (e : ℕ) → IsAnswered g root gadag d w
    → e < length g.links → link_block_at gadag.marks e ≡ Some (w.lies_in e)
lies_said g root gadag d w e a within = sym (a.directed.ways.blocks e) ∙ a.says.link_blocks e within

pub tail_said : (g : Topology) (root : ℕ) (gadag : GadagLists) (d : DirectedLists) (w : Directions) (e u : ℕ) → IsAnswered g root gadag d w
    → e < length g.links → tail_at g.links gadag.marks e ≡ Some u → w.tail e ≡ u
tail_said g root gadag d w e u a within is = same_Some (w.tail e) u (sym (a.says.tails e within) ∙ a.directed.ways.of_ears e u is)

-- a link of a node's block
pub lies_with : (g : Topology) (root : ℕ) (gadag : GadagLists) (d : DirectedLists) (w : Directions) (e v : ℕ) → IsAnswered g root gadag d w
    → e < length g.links → v < length g.ids → IsInBlockOf gadag e v → w.lies_in e ≡ w.block v
lies_with g root gadag d w e v a e_within v_within it =
    same_Some (w.lies_in e) it.block (sym (lies_said g root gadag d w e a e_within) ∙ it.of_link)
    ∙ same_Some it.block (w.block v) (sym it.of_node ∙ block_said g root gadag d w v a v_within)

-- nodes of one block have one head
pub same_head : (g : Topology) (root : ℕ) (gadag : GadagLists) (d : DirectedLists) (w : Directions) (u v : ℕ) → IsAnswered g root gadag d w
    → u < length g.ids → v < length g.ids → w.block u ≡ w.block v → w.head u ≡ w.head v
same_head g root gadag d w u v a u_within v_within same =
    same_Some (w.head u) (w.head v)
    (sym (one_head g root gadag u v (w.block v) (w.head u) a.facts u_within v_within (block_said g root gadag d w u a u_within ∙ ap (λ (k : ℕ). Some k) same)
    (block_said g root gadag d w v a v_within) (head_said g root gadag d w u a u_within)) ∙ head_said g root gadag d w v a v_within)

-- the root's block has no other node
pub root_block : (g : Topology) (root : ℕ) (gadag : GadagLists) (d : DirectedLists) (w : Directions) → IsAnswered g root gadag d w → w.block root ≡ root
root_block g root gadag d w a = same_Some (w.block root) root (sym (block_said g root gadag d w root a a.facts.root_within) ∙ a.facts.of_root.1)

pub root_head : (g : Topology) (root : ℕ) (gadag : GadagLists) (d : DirectedLists) (w : Directions) → IsAnswered g root gadag d w → w.head root ≡ root
root_head g root gadag d w a = same_Some (w.head root) root (sym (head_said g root gadag d w root a a.facts.root_within) ∙ a.facts.of_root.0)

pub not_of_root : (g : Topology) (root : ℕ) (gadag : GadagLists) (d : DirectedLists) (w : Directions) (v : ℕ) → IsAnswered g root gadag d w
    → v < length g.ids → v ≢ root → w.block v ≢ root
not_of_root g root gadag d w v a within other same =
    other (a.facts.alone v within (block_said g root gadag d w v a within ∙ ap (λ (k : ℕ). Some k) same))

pub member_not_root : (g : Topology) (root : ℕ) (gadag : GadagLists) (d : DirectedLists) (w : Directions) (m v : ℕ) → IsAnswered g root gadag d w
    → m < length g.ids → m ≢ root → w.block v ≡ w.block m → v ≢ root
member_not_root g root gadag d w m v a within other same is =
    not_of_root g root gadag d w m a within other (sym same ∙ ap (λ (u : ℕ). w.block u) is ∙ root_block g root gadag d w a)

-- order numbers are at most the count of nodes
pub order_few : (g : Topology) (root : ℕ) (gadag : GadagLists) (d : DirectedLists) (w : Directions) (v : ℕ) → IsAnswered g root gadag d w
    → v < length g.ids → w.order v ≤ length g.ids
order_few g root gadag d w v a within =
    let sound = whole_sound g root gadag a.directed.order a.facts a.directed.whole in
    let at = stands_at g root gadag d w v a within in
    omega (arith, at.number, slice_get_within a.directed.order at.place v at.there, few_listed (length g.ids) a.directed.order sound.once sound.within)
