-- The block of a link that leads from one node to another, by the rules on the graph, on heads and on the blocks of
-- links.
use Rattle.std.proofs.Common.{◌≡◌, ◌⊎◌, ◌∙◌, ◌==◌, ◌&&◌, ◌<◌, ℕ, true, false, not, List, Option, Some, length, map, slice_get, inl, inr, refl, sym, ap, subst, arith}
use Rattle.std.proofs.lemmas.Bool.{and_from, and_parts, cases_eq, or_cases, or_left, or_right, eq-eqb, ne_eqb, eqb-true, ltb-true}
use Rattle.std.proofs.lemmas.List.{length-map}
use Rattle.std.proofs.lemmas.Option.{option_and_then_some, slice_get-map, slice_get_within}
use Rattle.std.specs.Option.{option_and_then, option_map}
use Rattle.std.specs.Prelude.{nat_lt}
use Rattle.mrt_graph.specs.declared.cert.CertLink.{CertLink}
use Rattle.mrt_graph.specs.declared.cert.CertNode.{CertNode}
use Rattle.mrt_graph.specs.declared.link.Link.{Link}
use Rattle.mrt_graph.specs.BothThere.{are_different, are_equal, is_less}
use Rattle.mrt_graph.specs.Certificate.{Certificate}
use Rattle.mrt_graph.specs.CertFields.{order_of, head_of, block_of, link_block}
use Rattle.mrt_graph.specs.HeadsAndBlocks.{HeadsHold, link_placed}
use Rattle.mrt_graph.specs.Leads.{far_node, leads}
use Rattle.mrt_graph.specs.Places.{Each}
use Rattle.mrt_graph.specs.Related.{is_common_block}
use Rattle.mrt_graph.specs.SameGraph.{SameGraph}
use Rattle.mrt_graph.specs.Topology.{Topology}
use Rattle.mrt_graph.proofs.Hops.{far_ends}
use Rattle.mrt_graph.proofs.TestFacts.{both_pass, unless}

-- two numbers are there, and are one
pub record Same (x y : Option ℕ) : Type 0 where
  pub number : ℕ
  pub first : x ≡ Some number
  pub second : y ≡ Some number

pub same_of : (x y : Option ℕ) → are_equal x y ≡ true → Same x y
same_of x y holds =
    let p = both_pass (λ a b. a == b) x y holds in
    record {
      number = p.first;
      first = p.first_is;
      second = p.second_is ∙ ap (λ (k : ℕ). Some k) (sym (eqb-true p.first p.second p.passes));
    }

pub test_of : (x y : Option ℕ) → Same x y → are_equal x y ≡ true
test_of x y same = rw (same.first, same.second) (eq-eqb same.number same.number refl)

pub turned : (x y : Option ℕ) → Same x y → Same y x
turned x y same = record { number = same.number; first = same.second; second = same.first }

pub joined : (x y z : Option ℕ) → Same x y → Same y z → Same x z
joined x y z one two = record {
  number = one.number;
  first = one.first;
  second = two.second ∙ sym two.first ∙ one.second;
}

one_number : (k m : ℕ) → Same (Some k) (Some m) → k ≡ m
one_number k m same = let first = same.first in let second = same.second in cc

-- k is the common block of s and t
pub data Common (c : Certificate) (s t : ℕ) (k : Option ℕ) : Type 0 where
  Peers : Same (block_of c s) (block_of c t) → Same k (block_of c s) → Common c s t k
  ToHead : Same (head_of c s) (Some t) → Same k (block_of c s) → Common c s t k
  FromHead : Same (head_of c t) (Some s) → Same k (block_of c t) → Common c s t k

turned_common : (c : Certificate) (s t : ℕ) (k : Option ℕ) → Common c s t k → Common c t s k
turned_common c s t k (Peers one is) = Peers (turned _ _ one) (joined _ _ _ is one)
turned_common c s t k (ToHead up is) = FromHead up is
turned_common c s t k (FromHead down is) = ToHead down is

common_of : (c : Certificate) (s t : ℕ) (k : Option ℕ) → is_common_block c s t k ≡ true → Common c s t k
common_of c s t k holds =
    elim (or_cases (are_equal (block_of c s) (block_of c t) && are_equal k (block_of c s)) _ holds) [
      | inl peers ↦
          let both = and_parts (are_equal (block_of c s) (block_of c t)) _ peers in
          Peers (same_of _ _ both.0) (same_of _ _ both.1)
      | inr heads ↦ elim (or_cases (are_equal (head_of c s) (Some t) && are_equal k (block_of c s)) _ heads) [
        | inl up ↦
            let both = and_parts (are_equal (head_of c s) (Some t)) _ up in
            ToHead (same_of _ _ both.0) (same_of _ _ both.1)
        | inr down ↦
            let both = and_parts (are_equal (head_of c t) (Some s)) _ down in
            FromHead (same_of _ _ both.0) (same_of _ _ both.1)
      ]
    ]

pub common_test : (c : Certificate) (s t : ℕ) (k : Option ℕ) → Common c s t k → is_common_block c s t k ≡ true
common_test c s t k (Peers one is) =
    or_left (are_equal (block_of c s) (block_of c t) && are_equal k (block_of c s)) _
    (and_from (are_equal (block_of c s) (block_of c t)) _ (test_of _ _ one) (test_of _ _ is))
common_test c s t k (ToHead up is) =
    or_right (are_equal (block_of c s) (block_of c t) && are_equal k (block_of c s)) _
    (or_left (are_equal (head_of c s) (Some t) && are_equal k (block_of c s)) _
    (and_from (are_equal (head_of c s) (Some t)) _ (test_of _ _ up) (test_of _ _ is)))
common_test c s t k (FromHead down is) =
    or_right (are_equal (block_of c s) (block_of c t) && are_equal k (block_of c s)) _
    (or_right (are_equal (head_of c s) (Some t) && are_equal k (block_of c s)) _
    (and_from (are_equal (head_of c t) (Some s)) _ (test_of _ _ down) (test_of _ _ is)))

-- a node of which something is known is there
node_there : (f : CertNode → ℕ) (nodes : List CertNode) (a k : ℕ) → option_map f (slice_get nodes a) ≡ Some k
    → a < length nodes
node_there f nodes a k is = omega (arith, slice_get_within (map f nodes) a k (slice_get-map f nodes a ∙ is), length-map nodes f)

module _ (c : Certificate) (root : ℕ) (heads : HeadsHold c root) where
  -- the order of b is less than that of a
  record Lower (b a : ℕ) : Type 0 where
    low : ℕ
    high : ℕ
    at_low : order_of c b ≡ Some low
    at_high : order_of c a ≡ Some high
    less : low < high

  head_lower : (a b : ℕ) → (a ≡ root → ⊥) → Same (head_of c a) (Some b) → Lower b a
  head_lower a b other head =
      let within = node_there (λ node. node.head) c.nodes a head.number head.first in
      let is : head_of c a ≡ Some b = head.first ∙ sym head.second in
      let tests = rw (ne_eqb a root other) at (heads a within).alone in
      let lower = (and_parts (is_less (option_and_then (order_of c) (head_of c a)) (order_of c a)) _ tests).0 in
      let moved : is_less (order_of c b) (order_of c a) ≡ true =
      subst (λ (o : Option ℕ). is_less (option_and_then (order_of c) o) (order_of c a) ≡ true) is lower in
      let p = both_pass nat_lt (order_of c b) (order_of c a) moved in
      record {
        low = p.first;
        high = p.second;
        at_low = p.first_is;
        at_high = p.second_is;
        less = ltb-true p.first p.second p.passes;
      }

  root_alone : (b : ℕ) → Same (head_of c root) (Some b) → b ≡ root
  root_alone b head =
      let within = node_there (λ node. node.head) c.nodes root head.number head.first in
      let tests = rw (eq-eqb root root refl) at (heads root within).alone in
      let own = same_of _ _ (and_parts (are_equal (head_of c root) (Some root)) _ tests).0 in
      one_number b root (joined _ _ _ (turned _ _ head) own)

  -- two nodes that are each other's heads are one
  no_cycle : (u v : ℕ) → Same (head_of c u) (Some v) → Same (head_of c v) (Some u) → u ≡ v
  no_cycle u v up down = elim (cases_eq u root) [
    | inl at_root ↦ at_root ∙ sym (root_alone v (subst (λ (x : ℕ). Same (head_of c x) (Some v)) at_root up))
    | inr u_other ↦ elim (cases_eq v root) [
      | inl at_root ↦
          absurd (u_other (root_alone u (subst (λ (x : ℕ). Same (head_of c x) (Some u)) at_root down)))
      | inr v_other ↦
          let one = head_lower u v u_other up in
          let two = head_lower v u v_other down in
          let at_u : one.high ≡ two.low = one_of (order_of c u) one.high two.low one.at_high two.at_low in
          let at_v : one.low ≡ two.high = one_of (order_of c v) one.low two.high one.at_low two.at_high in
          absurd (omega (arith, one.less, two.less, at_u, at_v))
    ]
  ]
    where
      one_of : (x : Option ℕ) (k m : ℕ) → x ≡ Some k → x ≡ Some m → k ≡ m
      one_of x k m first second = one_number k m (joined _ x _ (record { number = k; first = refl; second = first })
          (record { number = m; first = second; second = refl }))

  -- nodes of one block have one head
  one_head_of : (a b : ℕ) → Same (block_of c a) (block_of c b) → Same (head_of c a) (head_of c b)
  one_head_of a b one =
      let a_within = node_there (λ node. node.block) c.nodes a one.number one.first in
      let b_within = node_there (λ node. node.block) c.nodes b one.number one.second in
      let apart : are_different (block_of c a) (block_of c b) ≡ false =
      rw (one.first, one.second) (ap not (eq-eqb one.number one.number refl)) in
      same_of _ _
      (unless (are_different (block_of c a) (block_of c b)) _ ((heads a a_within).beside b b_within) apart)

  module _ (g : Topology) (same_graph : SameGraph g c) (links : Each (link_placed c) (length c.links)) where
    -- where a link leads from s to v, its block is their common block
    pub ties : (e s v : ℕ) → leads g.links e s ≡ Some v → Common c s v (link_block c e)
    ties e s v to =
        option_and_then_some (far_node s) (slice_get g.links e) v to
        (λ link is there. go link is (far_ends link s v there))
      where
        moved : (a b u w : ℕ) → a ≡ u → b ≡ w → Common c a b (link_block c e) → Common c u w (link_block c e)
        moved a b u w at_a at_b common =
            subst (λ (x : ℕ). Common c x w (link_block c e)) at_a
            (subst (λ (x : ℕ). Common c a x (link_block c e)) at_b common)

        go : (link : Link) → slice_get g.links e ≡ Some link
            → ((link.a ≡ s) × (link.b ≡ v)) ⊎ ((link.b ≡ s) × (link.a ≡ v)) → Common c s v (link_block c e)
        go link is ends =
            let same =
            both_pass (λ link words. (link.a == words.a) && (link.b == words.b)) (slice_get g.links e)
            (slice_get c.links e)
            (same_graph.links e (omega (arith, slice_get_within g.links e link is, same_graph.counts.links))) in
            let words = same.second in
            let one : same.first ≡ link = cc (same.first_is, is) in
            let both = and_parts (same.first.a == words.a) _ same.passes in
            let a : words.a ≡ link.a = sym (eqb-true same.first.a words.a both.0) ∙ ap (λ (l : Link). l.a) one in
            let b : words.b ≡ link.b = sym (eqb-true same.first.b words.b both.1) ∙ ap (λ (l : Link). l.b) one in
            let placed : is_common_block c words.a words.b (Some words.block) ≡ true =
            rw same.second_is at (links e (slice_get_within c.links e words same.second_is)) in
            let part : link_block c e ≡ Some words.block =
            ap (λ (o : Option CertLink). option_map (λ link. link.block) o) same.second_is in
            let common : Common c words.a words.b (link_block c e) =
            subst (λ (o : Option ℕ). Common c words.a words.b o) (sym part) (common_of c _ _ _ placed) in
            elim ends [
              | inl up ↦ moved words.a words.b s v (a ∙ up.0) (b ∙ up.1) common
              | inr down ↦ turned_common c v s (link_block c e)
                  (moved words.a words.b v s (a ∙ down.1) (b ∙ down.0) common)
            ]

    -- a link from s to a node of its block lies in that block
    pub beside : (e s v : ℕ) → leads g.links e s ≡ Some v → Same (block_of c v) (block_of c s)
        → Same (link_block c e) (block_of c s)
    beside e s v to one = go (ties e s v to)
      where
        go : Common c s v (link_block c e) → Same (link_block c e) (block_of c s)
        go (Peers same is) = is
        go (ToHead up is) = is
        go (FromHead down is) = joined _ _ _ is one

    -- so does one from s to its head
    pub home : (e s v : ℕ) → leads g.links e s ≡ Some v → Same (head_of c s) (Some v)
        → Same (link_block c e) (block_of c s)
    home e s v to head = go (ties e s v to)
      where
        go : Common c s v (link_block c e) → Same (link_block c e) (block_of c s)
        go (Peers same is) = is
        go (ToHead up is) = is
        go (FromHead down is) =
            subst (λ (x : ℕ). Same (link_block c e) (block_of c x)) (sym (no_cycle s v head down)) is

    -- a link from the head of t to a node of the block of t lies in that block
    pub from_head : (e s v t : ℕ) → leads g.links e s ≡ Some v → Same (head_of c t) (Some s)
        → Same (block_of c v) (block_of c t) → Same (link_block c e) (block_of c t)
    from_head e s v t to head one = go (ties e s v to)
      where
        go : Common c s v (link_block c e) → Same (link_block c e) (block_of c t)
        go (Peers same is) = joined _ _ _ is (joined _ _ _ same one)
        go (ToHead up is) =
            let down = joined _ _ _ (one_head_of v t one) head in
            let at_v = subst (λ (x : ℕ). Same (link_block c e) (block_of c x)) (no_cycle s v up down) is in
            joined _ _ _ at_v one
        go (FromHead down is) = joined _ _ _ is one
