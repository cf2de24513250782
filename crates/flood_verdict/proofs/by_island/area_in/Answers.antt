use Rattle.std.proofs.Common.{◌≡◌, ◌⊎◌, length, sym, subst}
use Rattle.std.specs.Prelude.{IfErr, IfOk}
use Rattle.area_graph.specs.AreaSize.{IsTooLarge, TellsTooLarge}
use Rattle.area_graph.specs.Parts.{AreaParts}
use Rattle.area_graph.specs.declared.area_error.AreaError.{AreaError}
use Rattle.area_graph.specs.declared.area_error.AreaError.TheVariants.{NoMemory}
use Rattle.flood_verdict.proofs.by_island.area_in.Goals as goal

pub returns-clause-area : goal.returns-clause-area
returns-clause-area c =
    subst (λ (a : AreaParts). IfOk c.build_area.result (λ (area : AreaParts). area ≡ a))
    (sym (c.newest_of_the_same_give_one_area.ensures _ _ c.in_ok-copy.ensures.of_the_same))
    c.build_area.ensures.area

pub returns-clause-within : goal.returns-clause-within
returns-clause-within c =
    subst (λ (a : AreaParts). IfOk c.build_area.result (λ (_ : AreaParts). IsTooLarge (length a.ids) (length a.arcs) → ⊥))
    (sym (c.newest_of_the_same_give_one_area.ensures _ _ c.in_ok-copy.ensures.of_the_same))
    c.build_area.ensures.within

pub returns-clause-refused : goal.returns-clause-refused
returns-clause-refused c =
    subst (λ (a : AreaParts). IfErr c.build_area.result
    (λ (error : AreaError). (error ≡ NoMemory) ⊎ TellsTooLarge (length a.ids) (length a.arcs) error))
    (sym (c.newest_of_the_same_give_one_area.ensures _ _ c.in_ok-copy.ensures.of_the_same))
    c.build_area.ensures.refused
