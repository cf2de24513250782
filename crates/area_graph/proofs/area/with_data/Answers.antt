use Rattle.std.proofs.Common.{rules, tests, ◌≡◌, ◌==◌, refl}
use Rattle.std.proofs.lemmas.Iterator.{YieldsList-from_slice}
use Rattle.std.proofs.lemmas.Iterator.Search.{find_from_yields_List}
use Rattle.std.specs.List.{find}
use Rattle.std.specs.Option.{option_map}
use Rattle.area_graph.specs.declared.area_types.Arc.{Arc}
use Rattle.area_graph.proofs.area.with_data.Goals as goal

pub returns : goal.returns
returns c =
    let found : option_map (λ arc. arc.now) c.find.result ≡ find (λ (arc : Arc). arc.link_data == c.args.link_data) c.args.arcs.now =
    find_from_yields_List (λ (arc : Arc). arc.link_data == c.args.link_data) _ _ c.find.result c.find.ensures.ran (YieldsList-from_slice c.args.arcs.now cc) (λ x b q k. search (rules, tests)) in
    rw (← found, c.in_ok-arc.was) refl
