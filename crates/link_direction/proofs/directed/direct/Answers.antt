use Rattle.std.proofs.Common.{◌≡◌, ◌∙◌, ℕ, List, Some, length, slice_get, sym, ap, subst, arith}
use Rattle.mrt_graph.specs.declared.gadag.Mark.{Mark}
use Rattle.mrt_graph.specs.GadagLists.{GadagLists}
use Rattle.link_direction.specs.steps.Counting.{StandOnce}
use Rattle.link_direction.specs.Directed.{AreNumbers}
use Rattle.link_direction.specs.GadagOrder.{IsWholeOrder}
use Rattle.link_direction.specs.steps.LinksOfNoEar.{AreLinksDirected}
use Rattle.link_direction.proofs.Laws.{says_ordered}
use Rattle.link_direction.proofs.DirectedMade.{directed_made}
use Rattle.link_direction.proofs.directed.direct.Goals as goal

pub order_of-requires-clause-marks : goal.order_of-requires-clause-marks
order_of-requires-clause-marks c =
    ap (λ (ms : List Mark). length ms) (c.deref.ensures.value ∙ sym (ap (λ (gadag : GadagLists). gadag.marks) c.into_lists-places.ensures))
    ∙ c.requires.gadag.is_gadag.marks.one_each

pub order_of-requires-clause-from_ears : goal.order_of-requires-clause-from_ears
order_of-requires-clause-from_ears c = (
  c.args.gadag,
  ap (λ (gadag : GadagLists). gadag.marks) c.into_lists-places.ensures ∙ sym c.deref.ensures.value,
  c.requires.gadag,
)

pub returns-clause-exact : goal.returns-clause-exact
returns-clause-exact c =
    let parts = c.into_lists-places.ensures in
    let marks = c.into_lists-places.result.2.items in
    let one_each : length marks ≡ length c.args.g.now.links =
    ap (λ (ms : List Mark). length ms) (sym (ap (λ (gadag : GadagLists). gadag.marks) parts)) ∙ c.requires.gadag.is_gadag.marks.one_each in
    directed_made c.args.g.now c.args.root c.args.gadag c.into_lists-places.result.0.items c.into_lists-places.result.1.items marks c.direct_links.new.marks.items
    c.in_ok-order.order.items c.in_ok-numbers.numbers.items c.new.result parts one_each
    (subst (λ (ms : List Mark). IsWholeOrder c.args.g.now c.args.root ms c.in_ok-order.order.items) c.deref.ensures.value c.in_ok-order.ensures.whole)
    (subst (λ (xs : List ℕ). AreNumbers c.args.g.now xs c.in_ok-numbers.numbers.items) c.deref-2.ensures.value c.in_ok-numbers.ensures)
    (subst (λ (xs : List ℕ). AreLinksDirected c.args.g.now xs (length c.args.g.now.links) marks c.direct_links.new.marks.items) c.deref-3.ensures.value c.direct_links.ensures)
    c.new.ensures

pub returns-clause-ordered : goal.returns-clause-ordered
returns-clause-ordered c =
    says_ordered c.args.g.now c.args.root c.args.gadag c.new.result c.in_ok-order.ensures.kept c.requires.root c.requires.gadag (returns-clause-exact c)

pub numbers_of-requires : goal.numbers_of-requires
numbers_of-requires c = record {
  once = subst (λ (xs : List ℕ). StandOnce xs) (sym c.deref-2.ensures.value) c.in_ok-order.ensures.once;
  few = omega (arith, c.in_ok-order.ensures.few, ap length c.deref-2.ensures.value);
  within = λ k v at. c.in_ok-order.ensures.within k v (subst (λ (xs : List ℕ). slice_get xs k ≡ Some v) c.deref-2.ensures.value at);
}

pub direct_links-requires : goal.direct_links-requires
direct_links-requires c = record {
  numbers = ap length c.deref-3.ensures.value ∙ c.in_ok-numbers.ensures.one_each;
  marks = ap (λ (gadag : GadagLists). length gadag.marks) (sym c.into_lists-places.ensures) ∙ c.requires.gadag.is_gadag.marks.one_each;
}
