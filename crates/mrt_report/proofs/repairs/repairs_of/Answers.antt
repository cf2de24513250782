use Rattle.std.proofs.Common.{Bool, Option, subst}
use Rattle.mrt_graph.specs.declared.cert.Color.TheVariants.{Red}
use Rattle.mrt_graph.specs.declared.link.Element.{Element}
use Rattle.mrt_report.specs.steps.Uses.{TellsUse}
use Rattle.mrt_report.specs.steps.Viewed.{viewed}
use Rattle.mrt_report.proofs.SecondRepairs.{second_repairs}
use Rattle.mrt_report.proofs.repairs.repairs_of.Goals as goal

pub arc_repairs-of_second-requires : goal.arc_repairs-of_second-requires
arc_repairs-of_second-requires g c =
    let tells = λ (x : Option Element) (flag : Bool). TellsUse (viewed g.R.RowsOf.rows c.args.parts.now) c.args.parts.now.to Red x flag in
    record {
      blue = c.uses_of-blue.ensures.second;
      red_link = λ set. subst (λ (x : Option Element). tells x c.uses_of-red.result.second.link) (c.used_of-2.ensures.link set) c.uses_of-red.ensures.second.link;
      red_node = λ set. subst (λ (x : Option Element). tells x c.uses_of-red.result.second.node) (c.used_of-2.ensures.node set) c.uses_of-red.ensures.second.node;
    }

pub arc_repairs-requires : goal.arc_repairs-requires
arc_repairs-requires g c =
    let tells = λ (x : Option Element) (flag : Bool). TellsUse (viewed g.R.RowsOf.rows c.args.parts.now) c.args.parts.now.to Red x flag in
    record {
      blue = c.uses_of-blue.ensures.first;
      red_link = λ set. subst (λ (x : Option Element). tells x c.uses_of-red.result.first.link) (c.used_of.ensures.link set) c.uses_of-red.ensures.first.link;
      red_node = λ set. subst (λ (x : Option Element). tells x c.uses_of-red.result.first.node) (c.used_of.ensures.node set) c.uses_of-red.ensures.first.node;
    }

pub returns : goal.returns
returns g c = record {
  first = c.arc_repairs.ensures c.args.parts.now.primary.first c.elements_of-first.ensures;
  second =
      second_repairs (viewed g.R.RowsOf.rows c.args.parts.now) c.args.parts.now.to c.args.parts.now.primary.second
      c.elements_of_second-second.result.link c.elements_of_second-second.result.node c.arc_repairs-of_second.result c.where_there.result
      c.elements_of_second-second.ensures c.arc_repairs-of_second.ensures c.where_there.ensures.some c.where_there.ensures.none;
}
