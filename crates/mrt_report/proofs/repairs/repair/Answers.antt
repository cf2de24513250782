use Rattle.std.proofs.Common.{Option, Some, sym, subst}
use Rattle.mrt_graph.specs.declared.cert.Color.TheVariants.{Blue}
use Rattle.mrt_graph.specs.declared.link.Element.{Element}
use Rattle.mrt_graph.specs.Alternate.{Outside}
use Rattle.mrt_report.specs.Repairs.{IsRepair}
use Rattle.mrt_report.specs.steps.Viewed.{viewed}
use Rattle.mrt_report.proofs.repairs.repair.Goals as goal

pub returns-in-None : goal.returns-in-None
returns-in-None g c = subst (λ (failed : Option Element). IsRepair (viewed g.R.RowsOf.rows c.args.parts.now) c.args.parts.now.to failed (Some Blue)) (sym c.in-None.is) Outside
