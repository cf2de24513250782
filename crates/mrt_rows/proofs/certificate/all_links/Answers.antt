use Rattle.std.proofs.Common.{◌≡◌, ◌∙◌, ℕ, List, Some, length, slice_get, sym, ap, subst, arith, length-append}
use Rattle.std.proofs.lemmas.Option.{slice_get_within}
use Rattle.mrt_graph.specs.declared.cert.CertLink.{CertLink}
use Rattle.mrt_rows.specs.CertOf.{link_words}
use Rattle.mrt_rows.specs.ListedDirections.{directions_of}
use Rattle.mrt_rows.proofs.PushedWords.{one_word_more}
use Rattle.mrt_rows.proofs.certificate.all_links.Goals as goal

pub loop-e-preserved : goal.loop-e-preserved
loop-e-preserved c = record {
  count = c.loop-e.invariant.count;
  many = ap (λ (xs : List CertLink). length xs) c.push_reserved.ensures.items
      ∙ omega (arith, length-append {A = CertLink}, c.loop-e.invariant.many);
  room = omega (arith, c.loop-e.invariant.room, c.push_reserved.ensures.capacity);
  so_far = λ a link below at.
      let w = directions_of c.args.g.now c.args.d.now in
      subst (λ (xs : List CertLink). slice_get xs a ≡ Some (link_words w a link)) (sym c.push_reserved.ensures.items)
      (one_word_more (link_words w) c.args.g.now.links c.loop-e.links.items c.loop-e.e c.link_words.result
      c.loop-e.invariant.many
      (λ here there.
      c.link_words.ensures here (subst (λ (e : ℕ). slice_get c.args.g.now.links e ≡ Some here)
      (sym c.new.ensures) there)
      ∙ ap (λ (e : ℕ). link_words w e here) c.new.ensures)
      c.loop-e.invariant.so_far a link below at);
}

pub returns : goal.returns
returns c = record {
  one_each = omega (arith, c.loop-e.invariant.many, c.loop-e.invariant.count, c.loop-e-test.false, c.loop-e.auto.e-end);
  each = λ a link at.
      c.loop-e.invariant.so_far a link
      (omega (arith, slice_get_within c.args.g.now.links a link at, c.loop-e.invariant.count, c.loop-e-test.false)) at;
}
