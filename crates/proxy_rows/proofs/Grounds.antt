-- The block of the two routers: what the rules on orders, heads and blocks say of it.
use Rattle.std.proofs.Common.{◌≡◌, ◌≢◌, ◌<◌, ◌∙◌, ℕ, true, Option, Some, None, slice_get, length, refl, sym, ap, subst, arith}
use Rattle.std.proofs.lemmas.Bool.{lt-ltb}
use Rattle.std.proofs.lemmas.Option.{slice_get_within}
use Rattle.std.specs.Option.{option_and_then, option_map, unwrap_or}
use Rattle.std.specs.Prelude.{nat_lt}
use Rattle.mrt_graph.specs.declared.cert.CertLink.{CertLink}
use Rattle.mrt_graph.specs.declared.cert.CertNode.{CertNode}
use Rattle.mrt_graph.specs.BothThere.{is_less}
use Rattle.mrt_graph.specs.Certificate.{Certificate}
use Rattle.mrt_graph.specs.CertFields.{block_of, head_of, link_block, order_of}
use Rattle.mrt_graph.specs.declared.link.Link.{Link}
use Rattle.mrt_graph.specs.Leads.{far_node, leads}
use Rattle.mrt_graph.specs.Rules.{GraphRule}
use Rattle.mrt_graph.specs.SameGraph.{SameCounts}
use Rattle.mrt_graph.specs.Topology.{Topology}
use Rattle.mrt_graph.proofs.Blocks.{Words, Blocks, Member, Common, Peers, ToHead, FromHead, At, Inner, Top}
use Rattle.mrt_graph.proofs.ListTests.{there}
use Rattle.mrt_graph.proofs.RowFacts.{Rows}
use Rattle.mrt_graph.proofs.RowsHold.{rows_hold}
use Rattle.mrt_graph.proofs.Separate.{head_order}
use Rattle.mrt_graph.proofs.TestFacts.{both_pass, common_block, less_numbers, number_is}
use Rattle.proxy_rows.specs.declared.attachment.Attachment.{Attachment}
use Rattle.proxy_rows.specs.declared.side.Side.{Side}
use Rattle.proxy_rows.specs.declared.side.Side.TheVariants.{Low, High}
use Rattle.proxy_rows.specs.steps.LabelledGraph.{IsGround}
use Rattle.proxy_rows.specs.Sides.{IsMember, IsOfBlock, goes_on, router_of}
use Rattle.proxy_rows.proofs.Attaching.{blocks_of, node_there, words}

-- what is known of a node that is there
pub known : (f : CertNode → ℕ) (c : Certificate) (a : ℕ) → a < length c.nodes
    → option_map f (slice_get c.nodes a) ≡ Some (unwrap_or (option_map f (slice_get c.nodes a)) 0)
known f c a within = let node = there c.nodes a within in rw node.1 refl

-- a link that leads anywhere is there
pub link_there : (g : Topology) (e u v : ℕ) → leads g.links e u ≡ Some v → e < length g.links
link_there g e u v onward = go (slice_get g.links e) refl onward
  where
    go : (o : Option Link) → slice_get g.links e ≡ o → option_and_then (far_node u) o ≡ Some v → e < length g.links
    go None is onward' = cc
    go (Some link) is onward' = slice_get_within g.links e link is

module _ (g : Topology) (c : Certificate) (at : Attachment) (ground : IsGround g c at) where
  abbrev pub w : Words
  w = words g c ground.accepted

  pub b : Blocks w
  b = blocks_of g c ground.accepted

  pub rows : Rows w
  rows = rows_hold g ground.accepted.root _ ground.accepted.accepted b.root_within

  pub counts : SameCounts g c
  counts = (ground.accepted.accepted GraphRule).counts

  pub ascending : w.order at.lower < w.order at.upper
  ascending = less_numbers (order_of c at.lower) (order_of c at.upper) ground.attached.ascending

  pub lower_within : at.lower < w.count
  lower_within =
      let p = both_pass nat_lt (order_of c at.lower) (order_of c at.upper) ground.attached.ascending in
      node_there (λ node. node.order) c at.lower p.first p.first_is

  pub upper_within : at.upper < w.count
  upper_within =
      let p = both_pass nat_lt (order_of c at.lower) (order_of c at.upper) ground.attached.ascending in
      node_there (λ node. node.order) c at.upper p.second p.second_is

  pub router_within : (side : Side) → router_of at side < w.count
  router_within Low = lower_within
  router_within High = upper_within

  pub apart : at.lower ≢ at.upper
  apart = λ same. omega (arith, ascending, ap w.order same)

  common : Common w at.lower at.upper at.block
  common = common_block g.links ground.accepted.root c at.lower at.upper (Some at.block) ground.attached.common

  -- the router with the greater order is a member
  pub upper_member : Member w at.upper
  upper_member = record { within = upper_within; not_root = λ root. go root common }
    where
      go : at.upper ≡ w.root → Common w at.lower at.upper at.block → ⊥
      go root (Peers same is) =
          b.not_roots at.lower (record { within = lower_within; not_root = λ low. apart (low ∙ sym root) })
          (same ∙ ap w.block root ∙ b.root_block)
      go root (ToHead head is) = omega (arith, ascending, ap w.order head, head_order w b at.lower lower_within)
      go root (FromHead head is) = apart (sym head ∙ ap w.head root ∙ b.root_head ∙ sym root)

  pub block_is : at.block ≡ w.block at.upper
  block_is = go common
    where
      go : Common w at.lower at.upper at.block → at.block ≡ w.block at.upper
      go (Peers same is) = is ∙ same
      go (ToHead head is) = absurd (omega (arith, ascending, ap w.order head, head_order w b at.lower lower_within))
      go (FromHead head is) = is

  pub head_is : at.head ≡ w.head at.upper
  head_is =
      let headed = ground.attached.headed in
      let within = node_there (λ node. node.block) c headed.member at.block headed.block in
      sym (number_is (head_of c headed.member) at.head headed.head)
      ∙ b.one_head headed.member at.upper within upper_within (number_is (block_of c headed.member) at.block headed.block ∙ block_is)

  -- the other one is a member, or the head
  pub lower_at : At w at.upper at.lower
  lower_at = go common
    where
      go : Common w at.lower at.upper at.block → At w at.upper at.lower
      go (Peers same is) = Inner lower_within same
      go (ToHead head is) = absurd (omega (arith, ascending, ap w.order head, head_order w b at.lower lower_within))
      go (FromHead head is) = Top (sym head)

  -- members, and their words
  pub member_within : (s : ℕ) → IsMember c at s → s < w.count
  member_within s is = node_there (λ node. node.block) c s at.block is

  pub member_block : (s : ℕ) → IsMember c at s → w.block s ≡ w.block at.upper
  member_block s is = number_is (block_of c s) at.block is ∙ block_is

  pub is_member : (s : ℕ) → s < w.count → w.block s ≡ w.block at.upper → IsMember c at s
  is_member s within same = known (λ node. node.block) c s within ∙ ap (λ (k : ℕ). Some k) (same ∙ sym block_is)

  -- the router with the lower order is a member, unless it is the head
  pub lower_member : at.head ≢ at.lower → IsMember c at at.lower
  lower_member other = go lower_at
    where
      go : At w at.upper at.lower → IsMember c at at.lower
      go (Inner within same) = is_member at.lower within same
      go (Top same) = absurd (other (head_is ∙ sym same))

  pub member_at : (s : ℕ) → IsMember c at s → At w at.upper s
  member_at s is = Inner (member_within s is) (member_block s is)

  pub member_head : (s : ℕ) → IsMember c at s → w.head s ≡ at.head
  member_head s is = b.one_head s at.upper (member_within s is) upper_within (member_block s is) ∙ sym head_is

  pub head_within : at.head < w.count
  head_within = subst (λ (h : ℕ). h < w.count) (sym head_is) (b.head_within at.upper upper_within)

  -- the head is no member
  pub head_no_member : IsMember c at at.head → ⊥
  head_no_member is = omega (
    arith,
    b.head_lower at.upper upper_member,
    ap w.order head_is,
    ap w.order (member_head at.head is),
    b.head_lower at.head
        (record { within = head_within; not_root = λ root. b.not_roots at.upper upper_member (sym (member_block at.head is) ∙ ap w.block root ∙ b.root_block) }),
  )

  -- links of the block
  pub part_of : (e : ℕ) → IsOfBlock c at e → w.part e ≡ w.block at.upper
  part_of e is = number_is (link_block c e) at.block is ∙ block_is

  pub of_block : (e u v : ℕ) → leads g.links e u ≡ Some v → w.part e ≡ w.block at.upper → IsOfBlock c at e
  of_block e u v onward same =
      let link = there c.links e (omega (arith, link_there g e u v onward, counts.links)) in
      rw link.1 (ap (λ (k : ℕ). Some k)
      (sym (ap (λ (o : Option CertLink). unwrap_or (option_map (λ link. link.block) o) 0) link.1) ∙ same ∙ sym block_is))

  -- the order of two nodes
  pub less_is : (s v : ℕ) → s < w.count → v < w.count → w.order s < w.order v → is_less (order_of c s) (order_of c v) ≡ true
  less_is s v s_within v_within less =
      let one = there c.nodes s s_within in
      let other = there c.nodes v v_within in
      let first : w.order s ≡ one.0.order = ap (λ (o : Option CertNode). unwrap_or (option_map (λ node. node.order) o) 0) one.1 in
      let second : w.order v ≡ other.0.order = ap (λ (o : Option CertNode). unwrap_or (option_map (λ node. node.order) o) 0) other.1 in
      rw (one.1, other.1) (lt-ltb one.0.order other.0.order (omega (arith, less, first, second)))

  pub is_lower : (s v : ℕ) → goes_on c Low s v ≡ true → w.order s < w.order v
  is_lower s v on = less_numbers (order_of c s) (order_of c v) on

  pub is_higher : (s v : ℕ) → goes_on c High s v ≡ true → w.order v < w.order s
  is_higher s v on = less_numbers (order_of c v) (order_of c s) on
