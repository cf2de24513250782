-- The rules on the graph, on orders, on heads and on blocks hold of a file that tells of a graph.
use Rattle.std.proofs.Common.{◌≡◌, ◌≢◌, ◌∙◌, ◌==◌, ◌&&◌, ◌<◌, ℕ, true, false, Some, not, nat_le, length, slice_get, refl, sym, ap, subst, inl, inr, arith}
use Rattle.std.proofs.lemmas.Bool.{and_from, and_parts, cases_eq, cases_lt, eq-eqb, eqb-true, le-leb, ne_eqb, or_left, or_right}
use Rattle.std.proofs.lemmas.Option.{slice_get_within}
use Rattle.std.specs.Option.{option_and_then, option_map_or}
use Rattle.mrt_graph.specs.declared.cert.CertFile.{CertFile}
use Rattle.mrt_graph.specs.declared.cert.CertLink.{CertLink}
use Rattle.mrt_graph.specs.declared.cert.CertNode.{CertNode}
use Rattle.mrt_graph.specs.declared.cert.Role.{Role}
use Rattle.mrt_graph.specs.declared.cert.Role.TheVariants as roles
use Rattle.mrt_graph.specs.declared.link.Link.{Link}
use Rattle.mrt_graph.specs.BothThere.{both}
use Rattle.mrt_graph.specs.Certificate.{Certificate}
use Rattle.mrt_graph.specs.CertFields.{block_of, head_of, links_of, members, order_of}
use Rattle.mrt_graph.specs.HeadsAndBlocks.{HeadsHold, closed_block, closed_unless_one_link, closings, is_greatest_of, joins_greatest, link_placed, lone_block, lone_if_one_link, one_head, placed}
use Rattle.mrt_graph.specs.Leads.{leads}
use Rattle.mrt_graph.specs.NodeOrder.{rank_of}
use Rattle.mrt_graph.specs.Places.{Each}
use Rattle.mrt_graph.specs.Roles.{is_closing, is_sole}
use Rattle.mrt_graph.specs.RootAndOrders.{RootAndOrders, root_stands}
use Rattle.mrt_graph.specs.SameGraph.{SameGraph}
use Rattle.mrt_graph.proofs.Hops.{far_ends}
use Rattle.mrt_graph.proofs.ListTests.{there}
use Rattle.mrt_graph.proofs.TestFacts.{role_closing}
use Rattle.link_direction.specs.OrderedGadag.{HasClosingLink, HasSoleLink}
use Rattle.mrt_rows.specs.CertOf.{Tells, link_words, node_words}
use Rattle.mrt_rows.proofs.CertSays.{block_is, different_test, equal_test, head_is, less_test, order_is}
use Rattle.mrt_rows.proofs.Counting.{all_of, one_of, two_of}
use Rattle.mrt_rows.proofs.OrderedGraphs.{OrderedGraph, Within, within}
use Rattle.mrt_rows.proofs.OtherLines.{common_test}

module _ (og : OrderedGraph) (file : CertFile) (tells : Tells og.g og.root og.w file) where
  abbrev n : ℕ
  n = length og.g.ids

  abbrev c : Certificate
  c = file.cert

  -- the graph
  pub same_graph : SameGraph og.g c
  same_graph = record {
    counts = record { nodes = tells.nodes.one_each; links = tells.links.one_each };
    nodes = λ a below.
        let id = there og.g.ids a (omega (arith, below, tells.nodes.one_each)) in
        rw (id.1, tells.nodes.each a id.0 id.1)
        (and_from _ _ (eq-eqb id.0.number id.0.number refl) (eq-eqb (rank_of id.0.kind) (rank_of id.0.kind) refl));
    links = λ e below.
        let link = there og.g.links e (omega (arith, below, tells.links.one_each)) in
        rw (link.1, tells.links.each e link.0 link.1)
        (and_from _ _ (eq-eqb link.0.a link.0.a refl) (eq-eqb link.0.b link.0.b refl));
  }

  -- orders
  node_within : (a : ℕ) → a < length c.nodes → a < n
  node_within a below = omega (arith, below, tells.nodes.one_each)

  root_first : root_stands og.g og.root file ≡ true
  root_first =
      let id = there og.g.ids og.root og.ordered.root_within in
      and_from _ _ (rw id.1 (eq-eqb id.0.number file.root (sym (tells.root_number id.0 id.1))))
      (equal_test (order_is og file tells og.root og.ordered.root_within) refl og.ordered.orders.first)

  pub ordered : RootAndOrders og.g og.root file
  ordered = record {
    root_first = root_first;
    orders = λ a b a_below b_below. elim (cases_lt a b) [
      | inl less ↦
          let a_within = node_within a a_below in
          let b_within = node_within b b_below in
          or_right _ _ (different_test (order_is og file tells a a_within) (order_is og file tells b b_within)
          (λ same. let one = og.ordered.orders.differ a b a_within b_within same in omega (arith, less, one)))
      | inr more ↦ or_left _ _ (le-leb b a more)
    ];
  }

  -- heads
  head_order : (a : ℕ) → a < n → option_and_then (order_of c) (head_of c a) ≡ Some (og.w.order (og.w.head a))
  head_order a a_within =
      ap (option_and_then (order_of c)) (head_is og file tells a a_within)
      ∙ order_is og file tells (og.w.head a) (og.ordered.heads.head_within a a_within)

  all_placed : (a : ℕ) → a < n → placed c og.root a ≡ true
  all_placed a a_within = elim (cases_eq a og.root) [
    | inl same ↦
        rw (eq-eqb a og.root same)
        (and_from _ _ (equal_test (head_is og file tells a a_within) refl (ap og.w.head same ∙ og.ordered.heads.root_head))
        (equal_test (block_is og file tells a a_within) refl (ap og.w.block same ∙ og.ordered.heads.root_block)))
    | inr other ↦
        rw (ne_eqb a og.root other)
        (and_from _ _ (less_test (head_order a a_within) (order_is og file tells a a_within) (og.ordered.heads.lower a a_within other))
        (different_test (block_is og file tells a a_within) refl (og.ordered.heads.alone a a_within other)))
  ]

  heads_agree : (a b : ℕ) → a < n → b < n → one_head c a b ≡ true
  heads_agree a b a_within b_within = elim (cases_eq (og.w.block a) (og.w.block b)) [
    | inl same ↦
        or_right _ _ (equal_test (head_is og file tells a a_within) (head_is og file tells b b_within)
        (og.ordered.heads.one_head a b a_within b_within same))
    | inr differ ↦ or_left _ _ (different_test (block_is og file tells a a_within) (block_is og file tells b b_within) differ)
  ]

  pub heads_hold : HeadsHold c og.root
  heads_hold = λ a below. record {
    alone = all_placed a (node_within a below);
    beside = λ b b_below. heads_agree a b (node_within a below) (node_within b b_below);
  }

  -- a link of block k, and a node of it, as they stand in the certificate
  record IsLinkOf (k e : ℕ) (words : CertLink) : Type 0 where
    within : e < length og.g.links
    in_block : og.w.lies_in e ≡ k
    role : words.role ≡ og.w.role e

  link_of : (k e : ℕ) (words : CertLink) → slice_get c.links e ≡ Some words → (words.block == k) ≡ true → IsLinkOf k e words
  link_of k e words is passes =
      let e_within : e < length og.g.links = omega (arith, slice_get_within c.links e words is, tells.links.one_each) in
      let link = there og.g.links e e_within in
      let same : words ≡ link_words og.w e link.0 = cc (is, tells.links.each e link.0 link.1) in
      record {
        within = e_within;
        in_block = sym (ap (λ (x : CertLink). x.block) same) ∙ eqb-true words.block k passes;
        role = ap (λ (x : CertLink). x.role) same;
      }

  record IsNodeOf (k a : ℕ) (words : CertNode) : Type 0 where
    within : a < n
    in_block : og.w.block a ≡ k
    order : words.order ≡ og.w.order a

  node_of : (k a : ℕ) (words : CertNode) → slice_get c.nodes a ≡ Some words → (words.block == k) ≡ true → IsNodeOf k a words
  node_of k a words is passes =
      let a_within : a < n = omega (arith, slice_get_within c.nodes a words is, tells.nodes.one_each) in
      let id = there og.g.ids a a_within in
      let same : words ≡ node_words og.w a id.0 = cc (is, tells.nodes.each a id.0 id.1) in
      record {
        within = a_within;
        in_block = sym (ap (λ (x : CertNode). x.block) same) ∙ eqb-true words.block k passes;
        order = ap (λ (x : CertNode). x.order) same;
      }

  link_there : (e : ℕ) → e < length og.g.links → (link : Link) × (slice_get og.g.links e ≡ Some link)
      × (slice_get c.links e ≡ Some (link_words og.w e link))
  link_there e e_within = let link = there og.g.links e e_within in (link.0, link.1, tells.links.each e link.0 link.1)

  -- the blocks of links
  pub links_placed : Each (link_placed c) (length c.links)
  links_placed e below =
      let link = link_there e (omega (arith, below, tells.links.one_each)) in
      let onward : leads og.g.links e link.0.a ≡ Some link.0.b = rw (link.1, eq-eqb link.0.a link.0.a refl) refl in
      let in_range = within og.g e link.0.a link.0.b og.kept onward in
      let common = og.ordered.links.common e link.0.a link.0.b onward in
      rw link.2 (common_test og file tells link.0.a link.0.b in_range.from in_range.to in_range.differ
      (og.w.lies_in e) common.0 (Some (og.w.lies_in e)) common.1 refl)

  -- the block of a node
  module _ (a : ℕ) (a_within : a < n) where
    abbrev k : ℕ
    k = og.w.block a

    -- with one link
    module _ (it : HasSoleLink og.g og.w a) where
      one_link : length (links_of c k) ≡ 1
      one_link =
          let link = link_there it.link it.within in
          one_of (λ words. words.block == k) c.links it.link (link_words og.w it.link link.0) link.2 (eq-eqb (og.w.lies_in it.link) k it.in_block)
          (λ e words is passes. let other = link_of k e words is passes in it.no_other_link e other.within other.in_block)

      lone_holds : lone_if_one_link c k ≡ true
      lone_holds =
          let id = there og.g.ids a a_within in
          let one_member : length (members c k) ≡ 1 =
          one_of (λ node. node.block == k) c.nodes a (node_words og.w a id.0) (tells.nodes.each a id.0 id.1) (eq-eqb k k refl)
          (λ b words is passes. let other = node_of k b words is passes in it.no_other_node b other.within other.in_block) in
          or_right _ _ (and_from _ _ (eq-eqb (length (members c k)) 1 one_member)
          (all_of (λ words. words.block == k) (λ words. is_sole words.role) c.links (λ e words is passes.
          let other = link_of k e words is passes in
          ap is_sole (other.role ∙ ap og.w.role (it.no_other_link e other.within other.in_block) ∙ it.sole))))

    -- with more than one
    module _ (it : HasClosingLink og.g og.w a) where
      in_range : Within og.g it.link it.greatest (og.w.head a)
      in_range = within og.g it.link it.greatest (og.w.head a) og.kept it.over.leads_on

      closing : (link : Link) × (slice_get og.g.links it.link ≡ Some link) × (slice_get c.links it.link ≡ Some (link_words og.w it.link link))
      closing = link_there it.link in_range.link

      more_links : (length (links_of c k) == 1) ≡ false
      more_links =
          let another = link_there it.another it.another_within in
          let many = two_of (λ words. words.block == k) c.links it.another it.link (link_words og.w it.another another.0)
          (link_words og.w it.link closing.0) it.another_link another.2 (eq-eqb (og.w.lies_in it.another) k it.another_in_block) closing.2
          (eq-eqb (og.w.lies_in it.link) k it.over.in_block) in
          ne_eqb (length (links_of c k)) 1 (λ one. omega (arith, many, one))

      is_greatest : is_greatest_of c k it.greatest ≡ true
      is_greatest =
          let id = there og.g.ids it.greatest in_range.from in
          rw (tells.nodes.each it.greatest id.0 id.1)
          (and_from _ _ (eq-eqb (og.w.block it.greatest) k it.greatest_in_block)
          (all_of (λ node. node.block == k) (λ member. nat_le member.order (og.w.order it.greatest)) c.nodes (λ b words is passes.
          let other = node_of k b words is passes in
          le-leb words.order (og.w.order it.greatest) (omega (arith, it.none_greater b other.within other.in_block, other.order)))))

      joins : joins_greatest c (og.w.head a) k (link_words og.w it.link closing.0) ≡ true
      joins = elim (far_ends closing.0 it.greatest (og.w.head a) (rw closing.1 at it.over.leads_on)) [
        | inl up ↦ or_right _ _ (and_from _ _ (eq-eqb closing.0.b (og.w.head a) up.1) (rw up.0 is_greatest))
        | inr down ↦ or_left _ _ (and_from _ _ (eq-eqb closing.0.a (og.w.head a) down.1) (rw down.0 is_greatest))
      ]

      not_sole : (role : Role) → role ≢ roles.Sole → not (is_sole role) ≡ true
      not_sole roles.Sole other = absurd (other refl)
      not_sole _ other = refl

      -- a closing link is the one
      only : (e : ℕ) (words : CertLink) → slice_get c.links e ≡ Some words → ((words.block == k) && is_closing words.role) ≡ true → e ≡ it.link
      only e words is passes =
          let parts = and_parts (words.block == k) (is_closing words.role) passes in
          let other = link_of k e words is parts.0 in
          it.no_other e other.within other.in_block (role_closing (og.w.role e) (sym (ap is_closing other.role) ∙ parts.1))

      closed_holds : closed_unless_one_link c (og.w.head a) k ≡ true
      closed_holds =
          let one : length (closings c k) ≡ 1 =
          one_of (λ words. (words.block == k) && is_closing words.role) c.links it.link (link_words og.w it.link closing.0) closing.2
          (and_from _ _ (eq-eqb (og.w.lies_in it.link) k it.over.in_block) (ap is_closing it.closing)) only in
          or_right _ _ (and_from _ _
          (all_of (λ words. words.block == k) (λ words. not (is_sole words.role)) c.links (λ e words is passes.
          let other = link_of k e words is passes in
          ap (λ (role : Role). not (is_sole role)) other.role ∙ not_sole (og.w.role e) (it.none_sole e other.within other.in_block)))
          (and_from _ _ (eq-eqb (length (closings c k)) 1 one)
          (all_of (λ words. (words.block == k) && is_closing words.role) (joins_greatest c (og.w.head a) k) c.links (λ e words is passes.
          let same : words ≡ link_words og.w it.link closing.0 = cc (is, closing.2, only e words is passes) in
          subst (λ (x : CertLink). joins_greatest c (og.w.head a) k x ≡ true) (sym same) joins))))

    lone_at : a ≢ og.root → lone_if_one_link c k ≡ true
    lone_at other = elim (og.ordered.blocks a a_within other) [
      | inl sole ↦ lone_holds sole
      | inr closed ↦ or_left _ _ (ap not (more_links closed))
    ]

    closed_at : a ≢ og.root → closed_unless_one_link c (og.w.head a) k ≡ true
    closed_at other = elim (og.ordered.blocks a a_within other) [
      | inl sole ↦ or_left _ _ (eq-eqb (length (links_of c k)) 1 (one_link sole))
      | inr closed ↦ closed_holds closed
    ]

  pub lone_blocks : Each (lone_block c og.root) (length c.nodes)
  lone_blocks a below = elim (cases_eq a og.root) [
    | inl at_root ↦ or_left _ _ (eq-eqb a og.root at_root)
    | inr other ↦
        let holds : option_map_or (lone_if_one_link c) (block_of c a) false ≡ true =
        rw (block_is og file tells a (node_within a below)) (lone_at a (node_within a below) other) in
        or_right _ _ holds
  ]

  pub closed_blocks : Each (closed_block c og.root) (length c.nodes)
  closed_blocks a below = elim (cases_eq a og.root) [
    | inl at_root ↦ or_left _ _ (eq-eqb a og.root at_root)
    | inr other ↦
        let holds : both (closed_unless_one_link c) (head_of c a) (block_of c a) ≡ true =
        rw (head_is og file tells a (node_within a below), block_is og file tells a (node_within a below)) (closed_at a (node_within a below) other) in
        or_right _ _ holds
  ]
