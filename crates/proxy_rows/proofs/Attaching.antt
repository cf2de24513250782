-- Two nodes with a block in common, by their order.
use Rattle.std.proofs.Common.{◌≡◌, ◌≢◌, ◌<◌, ◌∙◌, ℕ, true, false, List, [], Option, Some, None, slice_get, length, inl, inr, refl, sym, ap, subst, arith}
use Rattle.std.proofs.lemmas.Bool.{cases_eq, eq-eqb, false_from_ne_true, false≢true, lt-ltb, or_right}
use Rattle.std.proofs.lemmas.Bool.Decides.{eqb_tells}
use Rattle.std.proofs.lemmas.Option.{slice_get_within}
use Rattle.std.specs.Option.{option_map, unwrap_or}
use Rattle.mrt_graph.specs.declared.cert.CertNode.{CertNode}
use Rattle.mrt_graph.specs.Certificate.{Certificate, certificate_of}
use Rattle.mrt_graph.specs.CertFields.{head_of}
use Rattle.mrt_graph.specs.Related.{are_unrelated, is_common_block}
use Rattle.mrt_graph.specs.Topology.{Topology}
use Rattle.mrt_graph.proofs.AcceptedBlocks.{blocks}
use Rattle.mrt_graph.proofs.Blocks.{Words, Blocks}
use Rattle.mrt_graph.proofs.Relations.{unrelated_holds, unrelated_tells}
use Rattle.mrt_graph.proofs.TestFacts.{number_is}
use Rattle.mrt_graph.proofs.WordsOf.{words_of}
use Rattle.proxy_rows.specs.declared.attachment.Attachment.{Attachment}
use Rattle.mrt_graph.specs.AcceptedFor.{IsAcceptedFor}
use Rattle.proxy_rows.specs.Attachment.{IsAttachment, IsHeadOf}

-- the words of an accepted certificate
abbrev pub words : (g : Topology) (c : Certificate) → IsAcceptedFor g c → Words
words g c accepted = words_of g.links accepted.root c

pub blocks_of : (g : Topology) (c : Certificate) (accepted : IsAcceptedFor g c) → Blocks (words g c accepted)
blocks_of g c accepted = blocks g accepted.root _ accepted.accepted

-- what is unrelated by the words on nodes is so by any certificate of them
pub unrelated_in : (c : Certificate) (nodes : List CertNode) (a b : ℕ) → c.nodes ≡ nodes → are_unrelated c a b ≡ are_unrelated (certificate_of nodes [] []) a b
unrelated_in c nodes a b same = ap (λ (them : List CertNode). are_unrelated (certificate_of them [] []) a b) same

-- a node of which something is known is there
pub node_there : (f : CertNode → ℕ) (c : Certificate) (a k : ℕ) → option_map f (slice_get c.nodes a) ≡ Some k → a < length c.nodes
node_there f c a k is = go (slice_get c.nodes a) refl is
  where
    go : (o : Option CertNode) → slice_get c.nodes a ≡ o → option_map f o ≡ Some k → a < length c.nodes
    go None found is = cc
    go (Some node) found is = slice_get_within c.nodes a node found

-- the head of a block is a node
pub head_there : (g : Topology) (c : Certificate) → IsAcceptedFor g c → (h k : ℕ) → IsHeadOf c h k → h < length c.nodes
head_there g c accepted h k is =
    subst (λ (h : ℕ). h < length c.nodes) (number_is (head_of c is.member) h is.head)
    ((blocks_of g c accepted).head_within is.member (node_there (λ node. node.head) c is.member h is.head))

-- the head of a node has no greater order
head_before : (g : Topology) (c : Certificate) → IsAcceptedFor g c → (a b : ℕ) (one other : CertNode)
    → slice_get c.nodes a ≡ Some one → slice_get c.nodes b ≡ Some other → a ≢ b → one.head ≡ b → one.order < other.order → ⊥
head_before g c accepted a b one other at_a at_b differ head less =
    let w = words g c accepted in
    let b' = blocks_of g c accepted in
    let within = slice_get_within c.nodes a one at_a in
    let is_head : w.head a ≡ b = ap (λ (o : Option CertNode). unwrap_or (option_map (λ node. node.head) o) 0) at_a ∙ head in
    let order_a : w.order a ≡ one.order = ap (λ (o : Option CertNode). unwrap_or (option_map (λ node. node.order) o) 0) at_a in
    let order_b : w.order b ≡ other.order = ap (λ (o : Option CertNode). unwrap_or (option_map (λ node. node.order) o) 0) at_b in
    elim (cases_eq a w.root) [
      | inl root ↦ differ (root ∙ sym b'.root_head ∙ ap w.head (sym root) ∙ is_head)
      | inr not_root ↦ omega (arith, b'.head_lower a (record { within = within; not_root = not_root }), ap w.order is_head, order_a, order_b, less)
    ]

common : (g : Topology) (c : Certificate) → IsAcceptedFor g c → (a b : ℕ) (one other : CertNode)
    → slice_get c.nodes a ≡ Some one → slice_get c.nodes b ≡ Some other → a ≢ b → are_unrelated c a b ≡ false
    → one.order < other.order → is_common_block c a b (Some other.block) ≡ true
common g c accepted a b one other at_a at_b differ near less =
    elim (eqb_tells one.block other.block) [
      | inl peers ↦ rw (at_a, at_b, peers.0, eq-eqb other.block one.block (sym peers.1)) refl
      | inr apart ↦ elim (eqb_tells other.head a) [
        | inl down ↦ rw (at_a, at_b, apart.0, down.0, eq-eqb other.block other.block refl) (or_right _ _ refl)
        | inr not_down ↦ elim (eqb_tells one.head b) [
          | inl up ↦ absurd (head_before g c accepted a b one other at_a at_b differ up.1 less)
          | inr not_up ↦ absurd (false≢true (sym (rw (at_a, at_b, apart.0, not_down.0, not_up.0) at near)))
        ]
      ]
    ]

-- the one with the lower order first
pub attached : (g : Topology) (c : Certificate) → IsAcceptedFor g c → (a b : ℕ) (one other : CertNode)
    → slice_get c.nodes a ≡ Some one → slice_get c.nodes b ≡ Some other → a ≢ b → are_unrelated c a b ≡ false
    → one.order < other.order
    → IsAttachment c a b (record { lower = a; upper = b; block = other.block; head = other.head })
attached g c accepted a b one other at_a at_b differ near less = record {
  both = inl (refl, refl);
  ascending = rw (at_a, at_b) (lt-ltb one.order other.order less);
  common = common g c accepted a b one other at_a at_b differ near less;
  headed = record {
    member = b;
    block = ap (option_map (λ (node : CertNode). node.block)) at_b;
    head = ap (option_map (λ (node : CertNode). node.head)) at_b;
  };
}

-- the order in which the two are named does not matter
turned : (c : Certificate) (a b : ℕ) (at : Attachment) → IsAttachment c a b at → IsAttachment c b a at
turned c a b at is = record {
  both = elim is.both [ inl same ↦ inr same | inr crossed ↦ inl crossed ];
  ascending = is.ascending;
  common = is.common;
  headed = is.headed;
}

near_turned : (c : Certificate) (a b : ℕ) → are_unrelated c a b ≡ false → are_unrelated c b a ≡ false
near_turned c a b near = false_from_ne_true (are_unrelated c b a) (λ apart.
    let far = unrelated_tells c b a apart in
    false≢true (sym near ∙ unrelated_holds c a b (record {
      here = far.there;
      there = far.here;
      at_here = far.at_there;
      at_there = far.at_here;
      blocks = λ same. far.blocks (sym same);
      not_under = far.not_over;
      not_over = far.not_under;
    })))

pub attached_turned : (g : Topology) (c : Certificate) → IsAcceptedFor g c → (a b : ℕ) (one other : CertNode)
    → slice_get c.nodes a ≡ Some one → slice_get c.nodes b ≡ Some other → a ≢ b → are_unrelated c a b ≡ false
    → other.order < one.order
    → IsAttachment c a b (record { lower = b; upper = a; block = one.block; head = one.head })
attached_turned g c accepted a b one other at_a at_b differ near less =
    turned c b a _ (attached g c accepted b a other one at_b at_a (λ same. differ (sym same)) (near_turned c a b near) less)

-- two nodes do not have one order
pub orders_differ : (g : Topology) (c : Certificate) → IsAcceptedFor g c → (a b : ℕ) (one other : CertNode)
    → slice_get c.nodes a ≡ Some one → slice_get c.nodes b ≡ Some other → a ≢ b → one.order ≢ other.order
orders_differ g c accepted a b one other at_a at_b differ same =
    let w = words g c accepted in
    let order_a : w.order a ≡ one.order = ap (λ (o : Option CertNode). unwrap_or (option_map (λ node. node.order) o) 0) at_a in
    let order_b : w.order b ≡ other.order = ap (λ (o : Option CertNode). unwrap_or (option_map (λ node. node.order) o) 0) at_b in
    differ ((blocks_of g c accepted).one_order a b (slice_get_within c.nodes a one at_a) (slice_get_within c.nodes b other at_b) (order_a ∙ same ∙ sym order_b))
