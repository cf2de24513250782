-- The marks on heads: the nodes that separate two others.
use Rattle.std.proofs.Common.{◌≡◌, ◌≢◌, ◌↔◌, ◌∙◌, ◌<◌, ℕ, Bool, false, List, Some, length, map, set, inl, inr, refl, sym, ap, subst, arith}
use Rattle.std.specs.Prelude.{Contains, IsTrue}
use Rattle.std.proofs.lemmas.Bool.{cases_eq}
use Rattle.std.proofs.lemmas.List.{get_or-set_same, get_or-set_other}
use Rattle.std.proofs.lemmas.Option.{slice_get-map}
use Rattle.mrt_graph.specs.declared.cert.CertNode.{CertNode}
use Rattle.mrt_graph.specs.Certificate.{Certificate}
use Rattle.mrt_graph.specs.CertFields.{head_of}
use Rattle.mrt_graph.specs.Rules.{GraphRule}
use Rattle.mrt_graph.specs.Search.{IsMarked}
use Rattle.mrt_graph.specs.Topology.{Topology}
use Rattle.mrt_graph.proofs.AcceptedBlocks.{blocks}
use Rattle.mrt_graph.proofs.ListPlaces.{contains_at, place_of}
use Rattle.mrt_graph.proofs.TestFacts.{number_is}
use Rattle.mrt_graph.proofs.WordsOf.{words_of}
use Rattle.mrt_graph.specs.AcceptedFor.{IsAcceptedAt}
use Rattle.mrt_survey.specs.BlockHeads.{HeadsBlocks, AsMember, AsRoot, HeadsTwo}
use Rattle.mrt_survey.specs.Separating.{SeparatesTwo}
use Rattle.mrt_survey.proofs.SeparatingHeads.{separating_heads, told_there}

-- the root of an accepted certificate is a node of the certificate, and of the graph
pub root_in_cert : (g : Topology) (root : ℕ) (c : Certificate) → IsAcceptedAt g root c → root < length c.nodes
root_in_cert g root c is = (blocks g root (record { version = is.version; root = is.number; cert = c }) is.accepted).root_within

pub root_in_graph : (g : Topology) (root : ℕ) (c : Certificate) → IsAcceptedAt g root c → root < length g.ids
root_in_graph g root c is = subst (λ (n : ℕ). root < n) (is.accepted GraphRule).counts.nodes (root_in_cert g root c is)

pub same_count : (g : Topology) (root : ℕ) (c : Certificate) → IsAcceptedAt g root c → length c.nodes ≡ length g.ids
same_count g root c is = (is.accepted GraphRule).counts.nodes

module _ (g : Topology) (root : ℕ) (c : Certificate) (is : IsAcceptedAt g root c) (marks : List Bool) (two : Bool)
    (same : length marks ≡ length c.nodes)
    (heads : (x : ℕ) → (IsMarked marks x) ↔ Contains (map (λ (node : CertNode). node.head) c.nodes) x)
    (told : (IsTrue two) ↔ HeadsTwo c root) where
  abbrev after : List Bool
  after = set marks root two

  at_root : (IsMarked after root) ↔ HeadsTwo c root
  at_root =
      let e = get_or-set_same marks root two false (rw same (root_in_cert g root c is)) in (
        (λ marked. told.0 (sym e ∙ marked)),
        (λ has. e ∙ told.1 has),
      )

  -- a node that is not the root and is the head of one is not its own head
  other_head : (x a : ℕ) → x ≢ root → head_of c a ≡ Some x → a ≢ x
  other_head x a not_root head = λ own.
      let b = blocks g root (record { version = is.version; root = is.number; cert = c }) is.accepted in
      let within = told_there (λ node. node.head) c.nodes a x head in
      let w = words_of g.links root c in
      let at_x : w.head x ≡ x = ap w.head (sym own) ∙ number_is (head_of c a) x head in
      omega (arith, b.head_lower x (record { within = subst (λ (y : ℕ). y < length c.nodes) own within; not_root = not_root }), ap w.order at_x)

  elsewhere : (x : ℕ) → x ≢ root → (IsMarked after x) ↔ HeadsBlocks c root x
  elsewhere x not_root =
      let e = get_or-set_other marks root x two false not_root in (
        (λ marked.
            let place = place_of (map (λ (node : CertNode). node.head) c.nodes) x ((heads x).0 (sym e ∙ marked)) in
            let head : head_of c place.0 ≡ Some x = sym (slice_get-map (λ (node : CertNode). node.head) c.nodes place.0) ∙ place.1 in
            AsMember x place.0 not_root (record { other = other_head x place.0 not_root head; head = head })),
        (λ has. marked_for x not_root has),
      )
    where
      marked_for : (y : ℕ) → y ≢ root → HeadsBlocks c root y → IsMarked after y
      marked_for y other (AsMember _ a _ head) =
          get_or-set_other marks root y two false other
          ∙ (heads y).1 (contains_at (map (λ (node : CertNode). node.head) c.nodes) a y (slice_get-map (λ (node : CertNode). node.head) c.nodes a ∙ head.head))
      marked_for y other (AsRoot _) = absurd (other refl)

  heads_blocks : (x : ℕ) → (IsMarked after x) ↔ HeadsBlocks c root x
  heads_blocks x = elim (cases_eq x root) [
    | inl at ↦ subst (λ (y : ℕ). (IsMarked after y) ↔ HeadsBlocks c root y) (sym at) ((λ marked. AsRoot (at_root.0 marked)), (λ has. at_root.1 (two_of root refl has)))
    | inr other ↦ elsewhere x other
  ]
    where
      two_of : (y : ℕ) → y ≡ root → HeadsBlocks c root y → HeadsTwo c root
      two_of y at (AsMember _ a not_root head) = absurd (not_root at)
      two_of y at (AsRoot two) = two

  -- just the nodes that separate two others are marked
  pub separating_marked : (x : ℕ) → (IsMarked after x) ↔ SeparatesTwo g.links (length g.ids) x
  separating_marked x =
      let law = separating_heads g root (record { version = is.version; root = is.number; cert = c }) is.accepted x in
      ((λ marked. law.1 ((heads_blocks x).0 marked)), (λ has. (heads_blocks x).1 (law.0 has)))
