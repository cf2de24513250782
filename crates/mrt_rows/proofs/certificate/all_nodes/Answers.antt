use Rattle.std.proofs.Common.{◌≡◌, ◌∙◌, ℕ, List, Some, length, slice_get, sym, ap, subst, arith, length-append}
use Rattle.std.proofs.lemmas.Option.{slice_get_within}
use Rattle.mrt_graph.specs.declared.cert.CertNode.{CertNode}
use Rattle.mrt_rows.specs.CertOf.{node_words}
use Rattle.mrt_rows.specs.ListedDirections.{directions_of}
use Rattle.mrt_rows.proofs.PushedWords.{one_word_more}
use Rattle.mrt_rows.proofs.certificate.all_nodes.Goals as goal

pub loop-n-preserved : goal.loop-n-preserved
loop-n-preserved c = record {
  count = c.loop-n.invariant.count;
  many = ap (λ (xs : List CertNode). length xs) c.push_reserved.ensures.items
      ∙ omega (arith, length-append {A = CertNode}, c.loop-n.invariant.many);
  room = omega (arith, c.loop-n.invariant.room, c.push_reserved.ensures.capacity);
  so_far = λ a id below at.
      let w = directions_of c.args.g.now c.args.d.now in
      subst (λ (xs : List CertNode). slice_get xs a ≡ Some (node_words w a id)) (sym c.push_reserved.ensures.items)
      (one_word_more (node_words w) c.args.g.now.ids c.loop-n.nodes.items c.loop-n.n c.node_words.result
      c.loop-n.invariant.many
      (λ here there.
      c.node_words.ensures here (subst (λ (n : ℕ). slice_get c.args.g.now.ids n ≡ Some here)
      (sym c.new.ensures) there)
      ∙ ap (λ (n : ℕ). node_words w n here) c.new.ensures)
      c.loop-n.invariant.so_far a id below at);
}

pub returns : goal.returns
returns c = record {
  one_each = omega (arith, c.loop-n.invariant.many, c.loop-n.invariant.count, c.loop-n-test.false, c.loop-n.auto.n-end);
  each = λ a id at.
      c.loop-n.invariant.so_far a id
      (omega (arith, slice_get_within c.args.g.now.ids a id at, c.loop-n.invariant.count, c.loop-n-test.false)) at;
}
