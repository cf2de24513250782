use Rattle.mrt_report.proofs.repairs.arc_repairs.Goals as goal

pub returns : goal.returns
returns g c = λ number are. record {
  link = c.args.elements.now.link;
  node = c.args.elements.now.node;
  elements_are = are;
  link_repair_is = c.repair.ensures;
  node_repair_is = c.repair-2.ensures;
}
