use Rattle.std.proofs.Common.{ℕ, subst}
use Rattle.text_parts.specs.steps.Adds.{Adds}
use Rattle.order_repair.specs.OrderText.{IsPartOn}
use Rattle.text_parts.proofs.Adding.{one_part_more}
use Rattle.order_repair.proofs.text.push_lines.Goals as goal

pub loop-t-preserved : goal.loop-t-preserved
loop-t-preserved c = record {
  count = c.loop-t.invariant.count;
  lines = λ root w hops.
      let IsPart = IsPartOn c.args.view.now.graph.now root w c.args.source in
      one_part_more IsPart c.loop-t.t c.args.text.now.items c.loop-t.text.items c.push_part.new.text.items
      (c.loop-t.invariant.lines root w hops)
      (subst (λ (n : ℕ). Adds (IsPart n) c.loop-t.text.items c.push_part.new.text.items) c.new.ensures
      (c.in_ok-push_part.ensures root w hops));
}
