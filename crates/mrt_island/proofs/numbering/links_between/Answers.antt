use Rattle.std.proofs.Common.{◌∙◌, ◌<◌, ◌++◌, ◌∷◌, [], length, refl, sym, ap, subst, arith}
use Rattle.std.proofs.lemmas.List.Elements.{All-from_recursion}
use Rattle.std.proofs.lemmas.Option.{slice_get_read}
use Rattle.area_graph.specs.declared.area_types.Bond.{Bond}
use Rattle.mrt_graph.specs.declared.link.LinkIn.{LinkIn}
use Rattle.mrt_island.specs.Numbering.{link_by}
use Rattle.mrt_island.proofs.Flagging.{made_here, unmade_here}
use Rattle.mrt_island.proofs.numbering.links_between.Goals as goal
use Rattle.mrt_island.proofs.numbering.links_between.Goals.{then-flags-k, else-flags-k}

pub loop-k-preserved : goal.loop-k-preserved
loop-k-preserved c = elim c.if-flags-k.branch [
  | then-flags-k w ↦ record {
    room = rw w.links-is (omega (arith, w.push_reserved.ensures.capacity));
    count = rw w.links-is (omega (arith, w.push_reserved.ensures.len));
    so_far = made_here (link_by c.args.inside.now) c.args.flags.now c.args.bonds.now c.loop-k.k w.index-bonds-k.result _ _ _
        (slice_get_read c.args.bonds.now (length c.args.bonds.now) c.loop-k.k w.index-bonds-k.result refl (omega arith) w.index-bonds-k.is) w.if-flags-k.true
        (ap (λ v. v.items) w.links-is ∙ w.push_reserved.ensures.items ∙ ap (λ (x : LinkIn). c.loop-k.links.items ++ x ∷ []) w.link.ensures)
        c.loop-k.invariant.so_far;
  }
  | else-flags-k w ↦ record {
    room = rw w.links-is c.loop-k.invariant.room;
    count = rw w.links-is (omega arith);
    so_far = unmade_here (link_by c.args.inside.now) c.args.flags.now c.args.bonds.now c.loop-k.k _ _ _ (omega arith) (omega arith) w.if-flags-k.false
        (ap (λ v. v.items) w.links-is) c.loop-k.invariant.so_far;
  }
]

pub link-requires-clause-a : goal.link-requires-clause-a
link-requires-clause-a c =
    let bonds = c.args.bonds.now in
    let many = length c.args.inside.now in
    subst (λ (bond : Bond). bond.a < many) (sym c.index-bonds-k.is)
    (All-from_recursion (λ (bond : Bond). (bond.a < many) × (bond.b < many)) bonds c.requires.within c.loop-k.k c.index-bonds-k.result (omega arith)).0

pub link-requires-clause-b : goal.link-requires-clause-b
link-requires-clause-b c =
    let bonds = c.args.bonds.now in
    let many = length c.args.inside.now in
    subst (λ (bond : Bond). bond.b < many) (sym c.index-bonds-k.is)
    (All-from_recursion (λ (bond : Bond). (bond.a < many) × (bond.b < many)) bonds c.requires.within c.loop-k.k c.index-bonds-k.result (omega arith)).1
