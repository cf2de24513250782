-- What the first six rules say of an accepted certificate's orders, heads, blocks and links.
use Rattle.std.proofs.Common.{◌≡◌, ◌≢◌, ◌⊎◌, ◌∙◌, ◌==◌, ◌&&◌, ◌<◌, ◌≤◌, ℕ, true, false, not, nat_le, nat_lt, List, Option, Some, None, length, slice_get, inl, inr, refl, sym, ap, subst, arith}
use Rattle.std.proofs.lemmas.Bool.{true≢false, cases_eq, cases_order, and_parts, or_cases, eq-eqb, ne_eqb, eqb-true, lt-leb, not-true}
use Rattle.std.proofs.lemmas.List.Sums.{get_or-le-sum_by}
use Rattle.std.proofs.lemmas.Option.{get_or_from_slice_get, slice_get_within}
use Rattle.std.specs.List.{list_all, sum_by}
use Rattle.std.specs.Option.{option_and_then, option_map, option_map_or, unwrap_or}
use Rattle.mrt_graph.specs.declared.cert.CertFile.{CertFile}
use Rattle.mrt_graph.specs.declared.cert.CertLink.{CertLink}
use Rattle.mrt_graph.specs.declared.cert.CertNode.{CertNode}
use Rattle.mrt_graph.specs.declared.cert.Role.TheVariants as roles
use Rattle.mrt_graph.specs.declared.link.Link.{Link}
use Rattle.mrt_graph.specs.Accepted.{Accepted}
use Rattle.mrt_graph.specs.BothThere.{are_different, are_equal, is_less}
use Rattle.mrt_graph.specs.CertFields.{order_of, head_of, block_of, links_of, members}
use Rattle.mrt_graph.specs.HeadsAndBlocks.{HeadHoldsAt, closed_unless_one_link, lone_if_one_link}
use Rattle.mrt_graph.specs.Leads.{far_node, leads}
use Rattle.mrt_graph.specs.Related.{is_common_block}
use Rattle.mrt_graph.specs.Roles.{is_sole}
use Rattle.mrt_graph.specs.RootAndOrders.{RootAndOrders}
use Rattle.mrt_graph.specs.Rules.{GraphRule, OrderRule, HeadRule, LinkRule, LoneRule, ClosedRule}
use Rattle.mrt_graph.specs.SameGraph.{SameGraph}
use Rattle.mrt_graph.specs.Topology.{Topology}
use Rattle.mrt_graph.proofs.Blocks.{Words, Blocks, Common, Peers, ToHead, FromHead}
use Rattle.mrt_graph.proofs.Hops.{far_ends}
use Rattle.mrt_graph.proofs.ListTests.{implied, one_passes, passes_too, some_passes, there}
use Rattle.mrt_graph.proofs.TestFacts.{both_pass, common_block, different_numbers, equal_numbers, found_by, less_numbers, number_is, unless}
use Rattle.mrt_graph.proofs.WordsOf.{words_of}

common_back : (w : Words) (u v k : ℕ) → Common w u v k → Common w v u k
common_back w u v k (Peers same is) = Peers (sym same) (is ∙ same)
common_back w u v k (ToHead head is) = FromHead head is
common_back w u v k (FromHead head is) = ToHead head is

-- a link that is there, and touches u
record Touch (links : List Link) (e u v : ℕ) : Type 0 where
  link : Link
  is : slice_get links e ≡ Some link
  ends : ((link.a ≡ u) × (link.b ≡ v)) ⊎ ((link.b ≡ u) × (link.a ≡ v))

touch : (links : List Link) (e u v : ℕ) → leads links e u ≡ Some v → Touch links e u v
touch links e u v to = go (slice_get links e) refl to
  where
    go : (o : Option Link) → slice_get links e ≡ o → option_and_then (far_node u) o ≡ Some v → Touch links e u v
    go None is to = cc
    go (Some link) is to = record { link = link; is = is; ends = far_ends link u v to }

-- a node of which something is known is there
node_there : (f : CertNode → ℕ) (nodes : List CertNode) (a k : ℕ) → option_map f (slice_get nodes a) ≡ Some k
    → a < length nodes
node_there f nodes a k is = go (slice_get nodes a) refl is
  where
    go : (o : Option CertNode) → slice_get nodes a ≡ o → option_map f o ≡ Some k → a < length nodes
    go None found is = cc
    go (Some node) found is = slice_get_within nodes a node found

module _ (g : Topology) (root : ℕ) (file : CertFile) (accepted : Accepted g root file) where
  abbrev w : Words
  w = words_of g.links root file.cert

  same_graph : SameGraph g file.cert
  same_graph = accepted GraphRule

  ordered : RootAndOrders g root file
  ordered = accepted OrderRule

  head_holds : (a : ℕ) → a < w.count → HeadHoldsAt file.cert root a
  head_holds = accepted HeadRule

  root_within : root < w.count
  root_within =
      let stands =
      (and_parts (option_map_or (λ id. id.number == file.root) (slice_get g.ids root) false) _ ordered.root_first).0 in
      let id = some_passes (λ id. id.number == file.root) (slice_get g.ids root) stands in
      omega (arith, slice_get_within g.ids root id.value id.is, same_graph.counts.nodes)

  -- orders: the sum of all is a bound
  order_within : (a : ℕ) → a < w.count → w.order a ≤ sum_by (λ (node : CertNode). node.order) file.cert.nodes
  order_within a within =
      let node = there file.cert.nodes a within in
      let at = get_or-le-sum_by (λ (node : CertNode). node.order) file.cert.nodes a node.0 within in
      let is : w.order a ≡ node.0.order =
      ap (λ (o : Option CertNode). unwrap_or (option_map (λ node. node.order) o) 0) node.1 in
      omega (arith, is, rw (get_or_from_slice_get file.cert.nodes a node.0 node.0 node.1) at at)

  one_order : (a b : ℕ) → a < w.count → b < w.count → w.order a ≡ w.order b → a ≡ b
  one_order a b a_within b_within same = elim (cases_order a b) [
    | inl equal ↦ equal
    | inr apart ↦ elim apart [
      | inl below ↦ absurd (not_equal a b a_within b_within below same)
      | inr above ↦ absurd (not_equal b a b_within a_within above (sym same))
    ]
  ]
    where
      not_equal : (a b : ℕ) → a < w.count → b < w.count → a < b → w.order a ≡ w.order b → ⊥
      not_equal a b a_within b_within below same =
          different_numbers (order_of file.cert a) (order_of file.cert b)
          (unless (nat_le b a) _ (ordered.orders a b a_within b_within) (lt-leb b a below)) same

  -- heads
  root_placed : (w.head root ≡ root) × (w.block root ≡ root)
  root_placed =
      let tests = rw (eq-eqb root root refl) at (head_holds root root_within).alone in
      let both = and_parts (are_equal (head_of file.cert root) (Some root)) _ tests in (
        equal_numbers (head_of file.cert root) (Some root) both.0,
        equal_numbers (block_of file.cert root) (Some root) both.1,
      )

  record Placed (a : ℕ) : Type 0 where
    head_within : w.head a < w.count
    head_lower : w.order (w.head a) < w.order a
    not_root : w.block a ≢ root

  member_placed : (a : ℕ) → a < w.count → a ≢ root → Placed a
  member_placed a within other =
      let tests = rw (ne_eqb a root other) at (head_holds a within).alone in
      let head_order = option_and_then (order_of file.cert) (head_of file.cert a) in
      let parts = and_parts (is_less head_order (order_of file.cert a)) _ tests in
      let less = both_pass nat_lt head_order (order_of file.cert a) parts.0 in
      let found = found_by (order_of file.cert) (head_of file.cert a) less.first less.first_is in
      let lower : unwrap_or head_order 0 < w.order a = less_numbers head_order (order_of file.cert a) parts.0 in
      record {
        head_within = node_there (λ node. node.order) file.cert.nodes (w.head a) less.first found;
        head_lower = omega (
          arith,
          lower,
          number_is head_order less.first less.first_is,
          number_is
              (order_of file.cert (w.head a)) less.first found,
        );
        not_root = different_numbers (block_of file.cert a) (Some root) parts.1;
      }

  head_within : (a : ℕ) → a < w.count → w.head a < w.count
  head_within a within = elim (cases_eq a root) [
    | inl same ↦ subst (λ (x : ℕ). w.head x < w.count) (sym same)
        (subst (λ (x : ℕ). x < w.count) (sym root_placed.0) root_within)
    | inr other ↦ (member_placed a within other).head_within
  ]

  one_head_at : (a b : ℕ) → a < w.count → b < w.count → w.block a ≡ w.block b → w.head a ≡ w.head b
  one_head_at a b a_within b_within same =
      elim (or_cases (are_different (block_of file.cert a) (block_of file.cert b)) _
      ((head_holds a a_within).beside b b_within)) [
        | inl apart ↦ absurd (different_numbers (block_of file.cert a) (block_of file.cert b) apart same)
        | inr one ↦ equal_numbers (head_of file.cert a) (head_of file.cert b) one
      ]

  -- links
  placed_link : (e : ℕ) (words : CertLink) → slice_get file.cert.links e ≡ Some words
      → is_common_block file.cert words.a words.b (Some words.block) ≡ true
  placed_link e words is = rw is at (accepted LinkRule e (slice_get_within file.cert.links e words is))

  link_common : (e : ℕ) (words : CertLink) → slice_get file.cert.links e ≡ Some words
      → Common w words.a words.b words.block
  link_common e words is =
      common_block g.links root file.cert words.a words.b (Some words.block) (placed_link e words is)

  -- two nodes with a common block are there
  with_head : (a b : ℕ) → are_equal (head_of file.cert a) (Some b) ≡ true → (a < w.count) × (b < w.count)
  with_head a b same =
      let p = both_pass (λ x y. x == y) (head_of file.cert a) (Some b) same in
      let within = node_there (λ node. node.head) file.cert.nodes a p.first p.first_is in (
        within,
        subst (λ (x : ℕ). x < w.count) (equal_numbers (head_of file.cert a) (Some b) same)
            (head_within a within),
      )

  two_within : (a b : ℕ) (k : Option ℕ) → is_common_block file.cert a b k ≡ true → (a < w.count) × (b < w.count)
  two_within a b k holds =
      elim (or_cases (are_equal (block_of file.cert a) (block_of file.cert b) && are_equal k (block_of file.cert a)) _
      holds) [
        | inl peers ↦
            let same = (and_parts (are_equal (block_of file.cert a) (block_of file.cert b)) _ peers).0 in
            let p = both_pass (λ x y. x == y) (block_of file.cert a) (block_of file.cert b) same in (
              node_there (λ node. node.block) file.cert.nodes a p.first p.first_is,
              node_there (λ node. node.block) file.cert.nodes b p.second p.second_is,
            )
        | inr heads ↦ elim (or_cases (are_equal (head_of file.cert a) (Some b) && are_equal k (block_of file.cert a)) _
            heads) [
              | inl up ↦ with_head a b (and_parts (are_equal (head_of file.cert a) (Some b)) _ up).0
              | inr down ↦
                  let both = with_head b a (and_parts (are_equal (head_of file.cert b) (Some a)) _ down).0 in
                  (both.1, both.0)
            ]
      ]

  -- where a link leads, as the certificate has it
  record Led (e u v : ℕ) : Type 0 where
    words : CertLink
    is : slice_get file.cert.links e ≡ Some words
    ends : ((words.a ≡ u) × (words.b ≡ v)) ⊎ ((words.b ≡ u) × (words.a ≡ v))

  led : (e u v : ℕ) → leads g.links e u ≡ Some v → Led e u v
  led e u v to =
      let t = touch g.links e u v to in
      let same =
      both_pass (λ link words. (link.a == words.a) && (link.b == words.b)) (slice_get g.links e)
      (slice_get file.cert.links e)
      (same_graph.links e (omega (arith, slice_get_within g.links e t.link t.is, same_graph.counts.links))) in
      let one : same.first ≡ t.link = cc (same.first_is, t.is) in
      let both = and_parts (same.first.a == same.second.a) _ same.passes in
      let a : same.second.a ≡ t.link.a =
      sym (eqb-true same.first.a same.second.a both.0) ∙ ap (λ (l : Link). l.a) one in
      let b : same.second.b ≡ t.link.b =
      sym (eqb-true same.first.b same.second.b both.1) ∙ ap (λ (l : Link). l.b) one in
      record {
        words = same.second;
        is = same.second_is;
        ends = elim t.ends [
          | inl up ↦ inl (a ∙ up.0, b ∙ up.1)
          | inr down ↦ inr (b ∙ down.0, a ∙ down.1)
        ];
      }

  -- both nodes are nodes
  led_within : (e u v : ℕ) → Led e u v → (u < w.count) × (v < w.count)
  led_within e u v l =
      let two = two_within l.words.a l.words.b (Some l.words.block) (placed_link e l.words l.is) in
      elim l.ends [
        | inl up ↦ (omega (arith, two.0, up.0), omega (arith, two.1, up.1))
        | inr down ↦ (omega (arith, two.1, down.0), omega (arith, two.0, down.1))
      ]

  part_is : (e : ℕ) (words : CertLink) → slice_get file.cert.links e ≡ Some words → w.part e ≡ words.block
  part_is e words is = ap (λ (o : Option CertLink). unwrap_or (option_map (λ link. link.block) o) 0) is

  tied_as : (u v k a b block : ℕ) → a ≡ u → b ≡ v → k ≡ block → Common w a b block → Common w u v k
  tied_as u v k a b block at_u at_v is common =
      subst (λ (x : ℕ). Common w x v k) at_u
      (subst (λ (x : ℕ). Common w a x k) at_v
      (subst (λ (x : ℕ). Common w a b x) (sym is) common))

  led_tied : (e u v : ℕ) → (l : Led e u v) → Common w u v l.words.block
  led_tied e u v l =
      let common = link_common e l.words l.is in
      elim l.ends [
        | inl up ↦ tied_as u v l.words.block l.words.a l.words.b l.words.block up.0 up.1 refl common
        | inr down ↦
            tied_as u v l.words.block l.words.b l.words.a l.words.block down.0 down.1 refl
            (common_back w l.words.a l.words.b l.words.block common)
      ]

  tied : (e u v : ℕ) → leads g.links e u ≡ Some v → Common w u v (w.part e)
  tied e u v to =
      let l = led e u v to in
      subst (λ (k : ℕ). Common w u v k) (sym (part_is e l.words l.is)) (led_tied e u v l)

  -- a block of a link has a member
  record Of (k : ℕ) : Type 0 where
    m : ℕ
    within : m < w.count
    not_root : m ≢ root
    block : w.block m ≡ k

  member_of : (a b k : ℕ) → a < w.count → b < w.count → a ≢ b → Common w a b k → Of k
  member_of a b k a_within b_within other (Peers same is) = elim (cases_eq a root) [
    | inl at_root ↦
        let b_other : b ≢ root = λ b_root. other (at_root ∙ sym b_root) in
        record { m = b; within = b_within; not_root = b_other; block = sym same ∙ sym is }
    | inr a_other ↦ record { m = a; within = a_within; not_root = a_other; block = sym is }
  ]
  member_of a b k a_within b_within other (ToHead head is) = record {
    m = a;
    within = a_within;
    not_root = λ at_root. other (at_root ∙ sym root_placed.0 ∙ ap w.head (sym at_root) ∙ head);
    block = sym is;
  }
  member_of a b k a_within b_within other (FromHead head is) = record {
    m = b;
    within = b_within;
    not_root = λ at_root. other (sym head ∙ ap w.head at_root ∙ root_placed.0 ∙ sym at_root);
    block = sym is;
  }

  -- the fifth and the sixth rule, at a member
  lone_at : (m : ℕ) → m < w.count → m ≢ root → lone_if_one_link file.cert (w.block m) ≡ true
  lone_at m within other =
      let rule = unless (m == root) _ (accepted LoneRule m within) (ne_eqb m root other) in
      let block = some_passes (lone_if_one_link file.cert) (block_of file.cert m) rule in
      subst (λ (k : ℕ). lone_if_one_link file.cert k ≡ true)
      (sym (number_is (block_of file.cert m) block.value block.is)) block.passes

  closed_at : (m : ℕ) → m < w.count → m ≢ root → closed_unless_one_link file.cert (w.head m) (w.block m) ≡ true
  closed_at m within other =
      let rule = unless (m == root) _ (accepted ClosedRule m within) (ne_eqb m root other) in
      let p = both_pass (closed_unless_one_link file.cert) (head_of file.cert m) (block_of file.cert m) rule in
      subst (λ (h : ℕ). closed_unless_one_link file.cert h (w.block m) ≡ true)
      (sym (number_is (head_of file.cert m) p.first p.first_is))
      (subst (λ (k : ℕ). closed_unless_one_link file.cert p.first k ≡ true)
      (sym (number_is (block_of file.cert m) p.second p.second_is)) p.passes)

  one_link_of : (words : CertLink) (e m : ℕ) → slice_get file.cert.links e ≡ Some words → words.role ≡ roles.Sole
      → m < w.count → m ≢ root
      → w.block m ≡ words.block → length (links_of file.cert words.block) ≡ 1
  one_link_of words e m is sole within other block =
      let here : closed_unless_one_link file.cert (w.head m) words.block ≡ true =
      subst (λ (k : ℕ). closed_unless_one_link file.cert (w.head m) k ≡ true) block (closed_at m within other) in
      elim (or_cases (length (links_of file.cert words.block) == 1) _ here) [
        | inl one ↦ eqb-true (length (links_of file.cert words.block)) 1 one
        | inr more ↦
            let none =
            (and_parts (list_all (λ link. not (is_sole link.role)) (links_of file.cert words.block)) _ more).0 in
            let not_sole : not (is_sole words.role) ≡ true =
            passes_too (λ link. link.block == words.block) (λ link. not (is_sole link.role)) file.cert.links e words
            none is (eq-eqb words.block words.block refl) in
            absurd (true≢false (sym (ap is_sole sole) ∙ not-true (is_sole words.role) not_sole))
      ]

  -- the block of a sole link between two nodes: it has one link and one member
  record LoneBlock (e k : ℕ) : Type 0 where
    words : CertLink
    is : slice_get file.cert.links e ≡ Some words
    block : words.block ≡ k
    one_link : length (links_of file.cert k) ≡ 1
    one_member : length (members file.cert k) ≡ 1

  lone_block_of : (e u v : ℕ) → leads g.links e u ≡ Some v → u ≢ v → w.role e ≡ roles.Sole → LoneBlock e (w.part e)
  lone_block_of e u v to differ role =
      let l = led e u v to in
      let part = part_is e l.words l.is in
      let within = led_within e u v l in
      let of = member_of u v l.words.block within.0 within.1 differ (led_tied e u v l) in
      let sole : l.words.role ≡ roles.Sole =
      sym (ap (λ (o : Option CertLink). option_map_or (λ link. link.role) o roles.Plain) l.is) ∙ role in
      let one : length (links_of file.cert (w.part e)) ≡ 1 =
      subst (λ (k : ℕ). length (links_of file.cert k) ≡ 1) (sym part)
      (one_link_of l.words e of.m l.is sole of.within of.not_root of.block) in
      let here : lone_if_one_link file.cert (w.part e) ≡ true =
      subst (λ (k : ℕ). lone_if_one_link file.cert k ≡ true) (of.block ∙ sym part)
      (lone_at of.m of.within of.not_root) in
      let tests =
      implied (length (links_of file.cert (w.part e)) == 1) _ here
      (eq-eqb (length (links_of file.cert (w.part e))) 1 one) in
      record {
        words = l.words;
        is = l.is;
        block = sym part;
        one_link = one;
        one_member = eqb-true (length (members file.cert (w.part e))) 1
            (and_parts (length (members file.cert (w.part e)) == 1) _ tests).0;
      }

  lone : (e u v f x y : ℕ) → leads g.links e u ≡ Some v → u ≢ v → w.role e ≡ roles.Sole → leads g.links f x ≡ Some y
      → w.part e ≡ w.part f → e ≡ f
  lone e u v f x y to differ sole other_to same =
      let l = lone_block_of e u v to differ sole in
      let other = led f x y other_to in
      let block : other.words.block ≡ w.part e = sym (part_is f other.words other.is) ∙ sym same in
      one_passes (λ link. link.block == w.part e) file.cert.links e f l.words other.words l.one_link l.is
      (eq-eqb l.words.block (w.part e) l.block)
      other.is (eq-eqb other.words.block (w.part e) block)

  lone_member : (e u v a b : ℕ) → leads g.links e u ≡ Some v → u ≢ v → w.role e ≡ roles.Sole → a < w.count → b < w.count
      → w.block a ≡ w.part e → w.block b ≡ w.part e → a ≡ b
  lone_member e u v a b to differ sole a_within b_within a_block b_block =
      let l = lone_block_of e u v to differ sole in
      let a_node = there file.cert.nodes a a_within in
      let b_node = there file.cert.nodes b b_within in
      one_passes (λ node. node.block == w.part e) file.cert.nodes a b a_node.0 b_node.0 l.one_member
      a_node.1 (eq-eqb a_node.0.block (w.part e) (sym (block_at a a_node.0 a_node.1) ∙ a_block))
      b_node.1 (eq-eqb b_node.0.block (w.part e) (sym (block_at b b_node.0 b_node.1) ∙ b_block))
    where
      block_at : (a : ℕ) (node : CertNode) → slice_get file.cert.nodes a ≡ Some node → w.block a ≡ node.block
      block_at a node is = ap (λ (o : Option CertNode). unwrap_or (option_map (λ node. node.block) o) 0) is

  -- what the proof asks of orders, heads, blocks and links
  pub blocks : Blocks w
  blocks = record {
    root_within = root_within;
    from_within = λ e u v to. (led_within e u v (led e u v to)).0;
    to_within = λ e u v to. (led_within e u v (led e u v to)).1;
    tied = tied;
    lone = lone;
    lone_member = lone_member;
    root_head = root_placed.0;
    root_block = root_placed.1;
    head_within = head_within;
    head_lower = λ a member. (member_placed a member.within member.not_root).head_lower;
    not_roots = λ a member. (member_placed a member.within member.not_root).not_root;
    one_head = one_head_at;
    most = sum_by (λ (node : CertNode). node.order) file.cert.nodes;
    order_within = order_within;
    one_order = one_order;
  }
