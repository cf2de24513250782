-- An accepted certificate is foldable.
use Rattle.std.proofs.Common.{◌≡◌, ◌≢◌, ◌⊎◌, ◌∙◌, ◌||◌, ◌<◌, ◌≤◌, ◌+◌, ℕ, zero, suc, Bool, true, false, Option, Some, slice_get, inl, inr, refl, sym, ap, subst, arith}
use Rattle.std.proofs.lemmas.Bool.{and_parts, cases_Bool, cases_eq, eq-eqb, ne_eqb, false≢true, false_from_ne_true}
use Rattle.std.specs.Option.{option_and_then, option_map, option_map_or}
use Rattle.mrt_graph.specs.declared.cert.CertFile.{CertFile}
use Rattle.mrt_graph.specs.declared.cert.CertNode.{CertNode}
use Rattle.mrt_graph.specs.declared.cert.Row.{Row}
use Rattle.mrt_graph.specs.declared.cert.Tag.TheVariants as tags
use Rattle.mrt_graph.specs.Accepted.{Accepted}
use Rattle.mrt_graph.specs.Certificate.{IsCertificate, IsCertNode, row_of}
use Rattle.mrt_graph.specs.CertFields.{head_of, order_of}
use Rattle.mrt_graph.specs.Foldable.{IsFoldable, IsLeastOwnHead, comes_to, in_chain, is_folded, rows_folded}
use Rattle.mrt_graph.specs.Related.{are_unrelated}
use Rattle.mrt_graph.specs.steps.RowRules.{row_rule}
use Rattle.mrt_graph.specs.Tags.{same_tag}
use Rattle.mrt_graph.specs.Topology.{Topology}
use Rattle.mrt_graph.proofs.AcceptedBlocks.{blocks}
use Rattle.mrt_graph.proofs.Blocks.{Words, Blocks}
use Rattle.mrt_graph.proofs.ListTests.{all_at, there}
use Rattle.mrt_graph.proofs.RowsHold.{carried, row, row_keeps, there as row_there}
use Rattle.mrt_graph.proofs.TestFacts.{number_is, tag_is, unrelated_apart}
use Rattle.mrt_graph.proofs.WordsOf.{words_of}

module _ (g : Topology) (root : ℕ) (file : CertFile) (kept : IsCertificate file.cert) (accepted : Accepted g root file)
  where
    abbrev w : Words
    w = words_of g.links root file.cert

    abbrev b : Blocks w
    b = blocks g root file accepted

    -- a node's words, and its head
    node_at : (a : ℕ) → a < w.count → (node : CertNode) × (slice_get file.cert.nodes a ≡ Some node)
    node_at a within = there file.cert.nodes a within

    head_there : (a : ℕ) → a < w.count → head_of file.cert a ≡ Some (w.head a)
    head_there a within =
        let node = node_at a within in
        ap (option_map (λ (n : CertNode). n.head)) node.1
        ∙ ap (λ (h : ℕ). Some h)
        (sym (number_is (head_of file.cert a) node.0.head (ap (option_map (λ (n : CertNode). n.head)) node.1)))

    -- orders are from 1 to the number of nodes
    order_range : (a : ℕ) → a < w.count → (1 ≤ w.order a) × (w.order a ≤ w.count)
    order_range a within =
        let node = node_at a within in
        let keeps = all_at (IsCertNode w.count) file.cert.nodes a node.0 kept.nodes_kept node.1 in
        let is : w.order a ≡ node.0.order =
        number_is (order_of file.cert a) node.0.order (ap (option_map (λ (n : CertNode). n.order)) node.1) in
        (omega (arith, is, keeps.order_from_one), omega (arith, is, keeps.order_to_n))

    -- what the chain of a comes to after so many steps: the root, or a node of an order that fell by one each step
    record After (steps a : ℕ) : Type 0 where
      node : ℕ
      is : in_chain file.cert steps a ≡ Some node
      within : node < w.count
      falls : (node ≡ root) ⊎ (w.order node + steps ≤ w.order a)

    after : (steps a : ℕ) → a < w.count → After steps a
    after zero a within = record { node = a; is = refl; within = within; falls = inr (omega arith) }
    after (suc steps) a within =
        let x = after steps a within in
        record {
          node = w.head x.node;
          is = ap (option_and_then (head_of file.cert)) x.is ∙ head_there x.node x.within;
          within = b.head_within x.node x.within;
          falls = elim (cases_eq x.node root) [
            | inl same ↦ inl (ap w.head same ∙ b.root_head)
            | inr other ↦
                let lower = b.head_lower x.node (record { within = x.within; not_root = other }) in
                elim x.falls [
                  | inl same ↦ absurd (other same)
                  | inr fell ↦ inr (omega (arith, lower, fell))
                ]
          ];
        }

    comes : (a : ℕ) → a < w.count → comes_to file.cert root a ≡ true
    comes a within =
        let x = after w.count a within in
        let home : x.node ≡ root = elim x.falls [
          | inl same ↦ same
          | inr fell ↦ absurd (omega (arith, fell, (order_range x.node x.within).0, (order_range a within).1))
        ] in
        rw (x.is, home, eq-eqb root root refl) refl

    -- the root alone is its own head
    least : IsLeastOwnHead file.cert root
    least = record {
      within = b.root_within;
      fails = rw (head_there root b.root_within, b.root_head, eq-eqb root root refl) refl;
      before = λ a below.
          let within : a < w.count = omega (arith, below, b.root_within) in
          let other : a ≢ root = (λ same. omega (arith, below, same)) in
          let lower = b.head_lower a (record { within = within; not_root = other }) in
          let differs : w.head a ≢ a = (λ same. omega (arith, lower, ap w.order same)) in
          rw (head_there a within, ne_eqb (w.head a) a differs) refl;
    }

    module _ (s t : ℕ) (s_within : s < w.count) (t_within : t < w.count) (differ : s ≢ t) where
      abbrev it : Row
      it = row g root file accepted s t s_within t_within differ

      as_carried : it.tag ≡ tags.Carried → row_rule tags.Carried g.links file.cert root s t it ≡ true
      as_carried is = subst (λ T. row_rule T g.links file.cert root s t it ≡ true) is
          (row_keeps g root file accepted s t s_within t_within differ)

      row_folded : (are_unrelated file.cert s t ≡ true) ⊎ (are_unrelated file.cert s t ≡ false)
          → is_folded file.cert root s t it ≡ true
      row_folded (inl far) =
          let tag = carried g root file accepted s t s_within t_within differ (unrelated_apart g.links root file.cert s t far) in
          let links = (and_parts (are_unrelated file.cert s t) _ (as_carried tag)).1 in
          rw (far, ap (λ T. same_tag T tags.Carried) tag, links) refl
      row_folded (inr near) =
          let tag : same_tag it.tag tags.Carried ≡ false =
          false_from_ne_true (same_tag it.tag tags.Carried) (λ same.
          let far = (and_parts (are_unrelated file.cert s t) _ (as_carried (tag_is it.tag tags.Carried same))).0 in
          false≢true (sym near ∙ far)) in
          rw (near, tag) refl

      folded : rows_folded file.cert root s t ≡ true
      folded =
          let at : option_map_or (is_folded file.cert root s t) (row_of file.cert s t) false ≡ true =
          subst (λ (o : Option Row). option_map_or (is_folded file.cert root s t) o false ≡ true)
          (sym (row_there g root file accepted s t s_within t_within differ))
          (row_folded (cases_Bool (are_unrelated file.cert s t))) in
          subst (λ (same : Bool). (same || option_map_or (is_folded file.cert root s t) (row_of file.cert s t) false) ≡ true)
          (sym (ne_eqb s t differ)) at

    pub accepted_folds : IsFoldable file.cert
    accepted_folds = record {
      top = root;
      least = least;
      chains = comes;
      rows = λ s t s_within t_within. elim (cases_eq s t) [
        | inl same ↦ rw (eq-eqb s t same) refl
        | inr differ ↦ folded s t s_within t_within differ
      ];
    }
