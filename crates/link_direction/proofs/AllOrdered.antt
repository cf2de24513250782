-- The answer is a GADAG with its order.
use Rattle.std.proofs.Common.{◌≡◌, ◌≢◌, ◌<◌, ◌⊎◌, ◌∙◌, ℕ, Option, Some, length, slice_get, inl, inr, refl, sym, ap, subst, arith}
use Rattle.std.specs.Option.{option_map}
use Rattle.std.proofs.lemmas.Bool.{cases_eq, cases_order}
use Rattle.std.proofs.lemmas.Option.{same_Some}
use Rattle.mrt_graph.specs.declared.cert.Role.TheVariants.{Closing}
use Rattle.mrt_graph.specs.declared.gadag.Mark.{Mark}
use Rattle.mrt_graph.specs.declared.gadag.Way.{Way}
use Rattle.mrt_graph.specs.declared.gadag.Way.TheVariants.{AToB, BToA, Unset}
use Rattle.mrt_graph.specs.declared.link.Link.{Link}
use Rattle.mrt_graph.specs.DirectedLists.{DirectedLists}
use Rattle.mrt_graph.specs.GadagLists.{GadagLists}
use Rattle.mrt_graph.specs.GadagFields.{way_at}
use Rattle.mrt_graph.specs.Leads.{leads}
use Rattle.mrt_graph.specs.Tails.{tail_at, tail_of}
use Rattle.mrt_graph.specs.Topology.{Topology}
use Rattle.mrt_graph.proofs.Hops.{lead_back}
use Rattle.mrt_graph.proofs.ListTests.{there}
use Rattle.lowpoint_dfs.proofs.WholeTree.{leads_within}
use Rattle.gadag_ears.specs.CommonBlock.{FirstIsHead, IsCommonBlock, OfBoth, SecondIsHead}
use Rattle.gadag_ears.proofs.CommonBlocks.{leads_elsewhere}
use Rattle.gadag_ears.proofs.LinkBlocks.{leads_over}
use Rattle.link_direction.specs.CommonBlock.{FromHead, HaveCommonBlock, Peers, ToHead}
use Rattle.link_direction.specs.Directions.{Directions}
use Rattle.link_direction.specs.OrderedGadag.{AreHeads, AreLinks, AreOrders, IsOrderedGadag}
use Rattle.link_direction.proofs.Answered.{IsAnswered, block_said, counted_rises, head_said, lies_said, not_of_root, one_number, order_few, role_said, root_block, root_head, same_head, stands_at}
use Rattle.link_direction.proofs.BlockKinds.{closing_link, sole_link}
use Rattle.link_direction.proofs.EachInOrder.{whole_sound}
use Rattle.link_direction.proofs.EnteredBy.{link_within}
use Rattle.link_direction.proofs.HeadsLower.{head_lower}
use Rattle.link_direction.proofs.LinksDirected.{tail_there}

are_orders : (g : Topology) (root : ℕ) (gadag : GadagLists) (d : DirectedLists) (w : Directions) → IsAnswered g root gadag d w → AreOrders (length g.ids) root w
are_orders g root gadag d w a =
    let sound = whole_sound g root gadag a.directed.order a.facts a.directed.whole in
    let at = stands_at g root gadag d w root a a.facts.root_within in
    record {
      first = omega (arith, at.number, sound.once at.place 0 root at.there sound.first);
      from_one = λ v within. let v_at = stands_at g root gadag d w v a within in omega (arith, v_at.number);
      to_n = λ v within. order_few g root gadag d w v a within;
      differ = λ u v u_within v_within same. one_number g root gadag d w u v a u_within v_within same;
    }

are_heads : (g : Topology) (root : ℕ) (gadag : GadagLists) (d : DirectedLists) (w : Directions) → IsAnswered g root gadag d w → AreHeads (length g.ids) root w
are_heads g root gadag d w a = record {
  head_within = λ v within. elim (cases_eq v root) [
    | inl same ↦ subst (λ (u : ℕ). u < length g.ids) (sym (ap (λ (u : ℕ). w.head u) same ∙ root_head g root gadag d w a)) a.facts.root_within
    | inr other ↦
        let named = a.facts.named v within other in
        subst (λ (u : ℕ). u < length g.ids) (same_Some named.head (w.head v) (sym named.of_node ∙ head_said g root gadag d w v a within)) named.head_within
  ];
  block_within = λ v within. elim (cases_eq v root) [
    | inl same ↦ subst (λ (u : ℕ). u < length g.ids) (sym (ap (λ (u : ℕ). w.block u) same ∙ root_block g root gadag d w a)) a.facts.root_within
    | inr other ↦
        let named = a.facts.named v within other in
        subst (λ (u : ℕ). u < length g.ids) (same_Some named.name (w.block v) (sym named.block ∙ block_said g root gadag d w v a within)) named.name_within
  ];
  root_head = root_head g root gadag d w a;
  root_block = root_block g root gadag d w a;
  alone = λ v within other. not_of_root g root gadag d w v a within other;
  lower = λ v within other. head_lower g root gadag d w v a within other;
  one_head = λ u v u_within v_within same. same_head g root gadag d w u v a u_within v_within same;
}

-- the tail of a link is one of its two nodes
tail_leads : (link : Link) (way : Way) (t : ℕ) → tail_of link way ≡ Some t → (link.a ≡ t) ⊎ (link.b ≡ t)
tail_leads link Unset t is = absurd (cc)
tail_leads link AToB t is = inl (same_Some link.a t is)
tail_leads link BToA t is = inr (same_Some link.b t is)

directed : (g : Topology) (root : ℕ) (gadag : GadagLists) (d : DirectedLists) (w : Directions) (e : ℕ) → IsAnswered g root gadag d w
    → e < length g.links → (v : ℕ) × (leads g.links e (w.tail e) ≡ Some v)
directed g root gadag d w e a within =
    let link = there g.links e within in
    let mark = there d.marks e (omega (arith, within, a.says.one_mark_each)) in
    let onward = leads_over g e link.0 link.1 in
    elim (tail_leads link.0 mark.0.way (w.tail e) (sym (tail_there g d.marks e link.0 mark.0 link.1 mark.1) ∙ a.says.tails e within)) [
      | inl at_a ↦ (link.0.b, subst (λ (u : ℕ). leads g.links e u ≡ Some link.0.b) at_a onward)
      | inr at_b ↦ (link.0.a, subst (λ (u : ℕ). leads g.links e u ≡ Some link.0.a) at_b (lead_back g.links e link.0.a link.0.b onward))
    ]

in_common : (g : Topology) (root : ℕ) (gadag : GadagLists) (d : DirectedLists) (w : Directions) (u v k : ℕ) → IsAnswered g root gadag d w
    → u < length g.ids → v < length g.ids → IsCommonBlock gadag.places u v k → (h : ℕ) × HaveCommonBlock w u v k h
in_common g root gadag d w u v k a u_in v_in (OfBoth one two) =
    let of_u = same_Some (w.block u) k (sym (block_said g root gadag d w u a u_in) ∙ one) in
    let of_v = same_Some (w.block v) k (sym (block_said g root gadag d w v a v_in) ∙ two) in
    (w.head u, Peers of_u of_v refl)
in_common g root gadag d w u v k a u_in v_in (FirstIsHead block head) = (
  u,
  FromHead (same_Some (w.block v) k (sym (block_said g root gadag d w v a v_in) ∙ block))
      (same_Some (w.head v) u (sym (head_said g root gadag d w v a v_in) ∙ head)) refl,
)
in_common g root gadag d w u v k a u_in v_in (SecondIsHead block head) = (
  v,
  ToHead (same_Some (w.block u) k (sym (block_said g root gadag d w u a u_in) ∙ block))
      (same_Some (w.head u) v (sym (head_said g root gadag d w u a u_in) ∙ head)) refl,
)

common : (g : Topology) (root : ℕ) (gadag : GadagLists) (d : DirectedLists) (w : Directions) (e u v : ℕ) → IsAnswered g root gadag d w
    → leads g.links e u ≡ Some v → (h : ℕ) × HaveCommonBlock w u v (w.lies_in e) h
common g root gadag d w e u v a onward =
    let e_within = link_within g e u v onward in
    let both = leads_within g e u v a.facts.kept onward in
    let lies = a.facts.lies e e_within in
    let same : lies.block ≡ w.lies_in e = same_Some lies.block (w.lies_in e) (sym lies.is ∙ lies_said g root gadag d w e a e_within) in
    in_common g root gadag d w u v (w.lies_in e) a both.0 both.1 (subst (λ (k : ℕ). IsCommonBlock gadag.places u v k) same (lies.common u v onward))

-- each link but the closing ones leads to a greater order
forward : (g : Topology) (root : ℕ) (gadag : GadagLists) (d : DirectedLists) (w : Directions) (e u v : ℕ) → IsAnswered g root gadag d w
    → leads g.links e u ≡ Some v → w.tail e ≡ u → w.role e ≢ Closing → w.order u < w.order v
forward g root gadag d w e u v a onward tail not_closing =
    let e_within = link_within g e u v onward in
    let link = there g.links e e_within in
    let mark = there gadag.marks e (omega (arith, e_within, a.facts.one_mark_each)) in
    by e_within link.0 mark.0 link.1 mark.1 mark.0.way refl
  where
    both : (u < length g.ids) × (v < length g.ids)
    both = leads_within g e u v a.facts.kept onward

    tail_now : e < length g.links → (t : ℕ) → tail_at g.links d.marks e ≡ Some t → t ≡ u
    tail_now e_within t is = same_Some t (w.tail e) (sym is ∙ a.says.tails e e_within) ∙ tail

    of_ear : e < length g.links → (t : ℕ) → tail_at g.links gadag.marks e ≡ Some t → w.order u < w.order v
    of_ear e_within t is =
        let same : t ≡ u = tail_now e_within t (a.directed.ways.of_ears e t is) in
        counted_rises g root gadag d w e u v a (record {
          away = is ∙ ap (λ (n : ℕ). Some n) same;
          to = onward;
          not_closing = λ closing. not_closing (same_Some (w.role e) Closing (sym (role_said g root gadag d w e a e_within) ∙ closing));
        })

    by : e < length g.links → (link : Link) (mark : Mark) → slice_get g.links e ≡ Some link → slice_get gadag.marks e ≡ Some mark
        → (way : Way) → mark.way ≡ way → w.order u < w.order v
    by e_within link mark at is AToB way = of_ear e_within link.a (tail_there g gadag.marks e link mark at is ∙ ap (λ (x : Way). tail_of link x) way)
    by e_within link mark at is BToA way = of_ear e_within link.b (tail_there g gadag.marks e link mark at is ∙ ap (λ (x : Way). tail_of link x) way)
    by e_within link mark at is Unset way =
        let unset : way_at gadag.marks e ≡ Some Unset = ap (λ (o : Option Mark). option_map (λ m. m.way) o) is ∙ ap (λ (x : Way). Some x) way in
        let u_at = stands_at g root gadag d w u a both.0 in
        let v_at = stands_at g root gadag d w v a both.1 in
        let apart = leads_elsewhere g e u v a.facts.kept onward in
        elim (cases_order u_at.place v_at.place) [
          | inl same ↦ absurd (apart (same_Some u v (sym u_at.there ∙ ap (λ (k : ℕ). slice_get a.directed.order k) same ∙ v_at.there)))
          | inr (inl less) ↦ omega (arith, less, u_at.number, v_at.number)
          | inr (inr more) ↦ absurd (apart (sym (tail_now e_within v
              (a.directed.ways.of_none e v u v_at.place u_at.place unset (lead_back g.links e u v onward) v_at.there u_at.there more))))
        ]

are_links : (g : Topology) (root : ℕ) (gadag : GadagLists) (d : DirectedLists) (w : Directions) → IsAnswered g root gadag d w → AreLinks g w
are_links g root gadag d w a = record {
  directed = λ e within. directed g root gadag d w e a within;
  common = λ e u v onward. common g root gadag d w e u v a onward;
  forward = λ e u v onward tail not_closing. forward g root gadag d w e u v a onward tail not_closing;
}

pub is_ordered : (g : Topology) (root : ℕ) (gadag : GadagLists) (d : DirectedLists) (w : Directions) → IsAnswered g root gadag d w → IsOrderedGadag g root w
is_ordered g root gadag d w a = record {
  root_within = a.facts.root_within;
  orders = are_orders g root gadag d w a;
  heads = are_heads g root gadag d w a;
  links = are_links g root gadag d w a;
  blocks = λ m within other. elim (a.facts.links m (w.block m) within other (block_said g root gadag d w m a within)) [
    | inl one ↦ inl (sole_link g root gadag d w m a within one)
    | inr more ↦ inr (closing_link g root gadag d w m a within other more)
  ];
}
