-- What it tells that two nodes are unrelated.
use Rattle.std.proofs.Common.{◌≡◌, ◌≢◌, ◌∙◌, ◌==◌, ◌&&◌, ℕ, Bool, true, not, Option, Some, None, slice_get, refl, sym, ap}
use Rattle.std.proofs.lemmas.Option.{same_Some}
use Rattle.std.specs.Option.{option_map}
use Rattle.std.proofs.lemmas.Bool.{and_parts, eqb-false, false≢true, ne_eqb, not-true}
use Rattle.mrt_graph.specs.declared.cert.CertNode.{CertNode}
use Rattle.mrt_graph.specs.BothThere.{are_different}
use Rattle.mrt_graph.specs.Certificate.{Certificate}
use Rattle.mrt_graph.specs.CertFields.{head_of}
use Rattle.mrt_graph.specs.Related.{are_unrelated}

-- two nodes of a certificate that have no block in common
pub record Unrelated (c : Certificate) (s t : ℕ) : Type 0 where
  pub here : CertNode
  pub there : CertNode
  pub at_here : slice_get c.nodes s ≡ Some here
  pub at_there : slice_get c.nodes t ≡ Some there
  pub blocks : here.block ≢ there.block
  pub not_under : here.head ≢ t
  pub not_over : there.head ≢ s

pub unrelated_tells : (c : Certificate) (s t : ℕ) → are_unrelated c s t ≡ true → Unrelated c s t
unrelated_tells c s t holds = go (slice_get c.nodes s) (slice_get c.nodes t) refl refl holds
  where
    test : Option CertNode → Option CertNode → Bool
    test x y =
        are_different (option_map (λ node. node.block) x) (option_map (λ node. node.block) y)
        && (are_different (option_map (λ node. node.head) x) (Some t)
        && are_different (option_map (λ node. node.head) y) (Some s))

    differ : (a b : ℕ) → not (a == b) ≡ true → a ≢ b
    differ a b holds = eqb-false a b (not-true (a == b) holds)

    go : (x y : Option CertNode) → slice_get c.nodes s ≡ x → slice_get c.nodes t ≡ y → test x y ≡ true → Unrelated c s t
    go None y at_here at_there passes = absurd (false≢true passes)
    go (Some here) None at_here at_there passes = absurd (false≢true passes)
    go (Some here) (Some there) at_here at_there passes =
        let blocks = and_parts (not (here.block == there.block)) _ passes in
        let heads = and_parts (not (here.head == t)) _ blocks.1 in
        record {
          here = here;
          there = there;
          at_here = at_here;
          at_there = at_there;
          blocks = differ here.block there.block blocks.0;
          not_under = differ here.head t heads.0;
          not_over = differ there.head s heads.1;
        }

pub unrelated_holds : (c : Certificate) (s t : ℕ) → Unrelated c s t → are_unrelated c s t ≡ true
unrelated_holds c s t far =
    rw (far.at_here, far.at_there, ne_eqb _ _ far.blocks, ne_eqb _ _ far.not_under, ne_eqb _ _ far.not_over) refl

-- a node and its head are related, either way round
pub not_with_head : (c : Certificate) (s h : ℕ) → head_of c s ≡ Some h → ¬ Unrelated c s h
not_with_head c s h is far =
    let own : head_of c s ≡ Some far.here.head = ap (option_map (λ (node : CertNode). node.head)) far.at_here in
    far.not_under (same_Some far.here.head h (sym own ∙ is))

pub not_with_lower : (c : Certificate) (h s : ℕ) → head_of c s ≡ Some h → ¬ Unrelated c h s
not_with_lower c h s is far =
    let own : head_of c s ≡ Some far.there.head = ap (option_map (λ (node : CertNode). node.head)) far.at_there in
    far.not_over (same_Some far.there.head h (sym own ∙ is))
