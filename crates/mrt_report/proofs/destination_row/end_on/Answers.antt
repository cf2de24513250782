use Rattle.std.proofs.Common.{◌∙◌, Option, length, sym, subst}
use Rattle.std.specs.Prelude.{IsSome}
use Rattle.mrt_graph.specs.declared.link.End.{End}
use Rattle.mrt_graph.specs.GraphInvariant.{IsEnd}
use Rattle.mrt_graph.proofs.Members.{all_has, find_has}
use Rattle.mrt_report.proofs.ForLine.{as_it_is, end_found}
use Rattle.mrt_report.proofs.destination_row.end_on.Goals as goal

pub unwrap-requires : goal.unwrap-requires
unwrap-requires c =
    subst (λ (o : Option End). IsSome o) (sym (c.first_on.ensures ∙ as_it_is _))
    (end_found c.args.g.now c.args.s c.args.link c.ends.result.now c.requires.kept c.ends.ensures.value c.requires.touches)

pub returns-clause-is : goal.returns-clause-is
returns-clause-is c = record { ends = c.ends.result.now; ends_are = c.ends.ensures.value; is = sym (c.first_on.ensures ∙ as_it_is _) ∙ c.unwrap.ensures }

pub returns-clause-to : goal.returns-clause-to
returns-clause-to c =
    (all_has (IsEnd (length c.args.g.now.ids) c.args.g.now.links c.args.s) c.ends.result.now c.unwrap.result c.ends.ensures.kept.kept
    (find_has _ c.ends.result.now c.unwrap.result (sym (c.first_on.ensures ∙ as_it_is _) ∙ c.unwrap.ensures)).0).to
