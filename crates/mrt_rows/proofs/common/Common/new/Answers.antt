use Rattle.std.proofs.Common.{◌≡◌, ◌∙◌, ℕ, Bool, List, length, sym, ap, subst}
use Rattle.std.proofs.lemmas.List.{with_items_is}
use Rattle.block_spf.specs.declared.reach.Dir.TheVariants.{Down, Up}
use Rattle.block_spf.specs.Turns.{AreTurns}
use Rattle.mrt_rows.specs.NearOf.{AreSoles}
use Rattle.mrt_rows.specs.Put.{AreHeadsMarked}
use Rattle.mrt_rows.specs.steps.ListedDirections.{directions_by}
use Rattle.mrt_rows.proofs.Rooting.{are_directions, has_directions}
use Rattle.mrt_rows.proofs.common.Common.new.Goals as goal

pub nodes_by_turn-requires : goal.nodes_by_turn-requires
nodes_by_turn-requires c = has_directions c.requires

pub nodes_by_turn-requires-2 : goal.nodes_by_turn-requires-2
nodes_by_turn-requires-2 c = has_directions c.requires

pub homes_of-requires : goal.homes_of-requires
homes_of-requires c =
    let rooted = c.args.rooted.now in
    let g = rooted.graph.now in
    let w = directions_by rooted in
    let are = are_directions c.requires in
    let heads = sym (c.deref-3.ensures.value ∙ with_items_is c.in_ok-heads.heads c.take_soles.new.heads (c.take_soles.auto.heads ∙ c.deref_mut-2.ensures.len)) in
    record {
      rooted = c.requires;
      by_order = subst (λ (turns : List ℕ). AreTurns g w Up turns) (sym c.deref.ensures.value) (c.in_ok-by_order.ensures rooted.root w are);
      against_order = subst (λ (turns : List ℕ). AreTurns g w Down turns) (sym c.deref-2.ensures.value) (c.in_ok-against_order.ensures rooted.root w are);
      a_mark_each = subst (λ (hs : List Bool). length hs ≡ length g.ids) heads c.take_soles.ensures.a_mark_each;
      heads = subst (λ (hs : List Bool). AreHeadsMarked g w hs) heads c.take_soles.ensures.heads;
    }

pub returns : goal.returns
returns c =
    let rooted = c.args.rooted.now in
    let g = rooted.graph.now in
    let w = directions_by rooted in
    let are = are_directions c.requires in
    let heads = with_items_is c.in_ok-heads.heads c.take_soles.new.heads (c.take_soles.auto.heads ∙ c.deref_mut-2.ensures.len) in
    let soles = with_items_is c.in_ok-soles.soles c.take_soles.new.soles (c.take_soles.auto.soles ∙ c.deref_mut.ensures.len) in
    record {
      by_order = c.in_ok-by_order.ensures rooted.root w are;
      against_order = c.in_ok-against_order.ensures rooted.root w are;
      a_mark_each = ap (λ (hs : List Bool). length hs) heads ∙ c.take_soles.ensures.a_mark_each;
      marked = subst (λ (hs : List Bool). AreHeadsMarked g w hs) (sym heads) c.take_soles.ensures.heads;
      soles = subst (λ (xs : List ℕ). AreSoles g w xs) (sym soles) c.take_soles.ensures.soles;
      one_place = c.in_ok-homes.ensures.one_place;
      homes = c.in_ok-homes.ensures.homes;
    }
