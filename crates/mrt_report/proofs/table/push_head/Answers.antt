use Rattle.std.proofs.Common.{◌∙◌, ◌++◌, ℕ, ap, codes, decimal, length, refl}
use Rattle.text_parts.specs.Spelling.{node_text}
use Rattle.mrt_report.specs.TableText.{head_line}
use Rattle.mrt_report.proofs.Adding.{head_joined}
use Rattle.mrt_report.proofs.table.push_head.Goals as goal

pub returns : goal.returns
returns c = record {
  part = head_line c.id.result c.id-2.result (length c.args.g.now.ids) (length c.args.g.now.links);
  is = record {
    router = c.id.result;
    router_is = c.id.ensures;
    root_id = c.id-2.result;
    root_is = c.id-2.ensures;
    spelled = refl;
  };
  added =
      head_joined c.args.text.now.items c.push.new.text.items c.push_node.new.text.items c.push-2.new.text.items c.push_node-2.new.text.items
      c.push-3.new.text.items c.push_count.new.text.items c.push-4.new.text.items c.push_count-2.new.text.items c.push-5.new.text.items
      (codes "router ") (node_text c.id.result) (codes " root ") (node_text c.id-2.result) (codes " nodes ") (decimal (length c.args.g.now.ids))
      (codes " links ") (decimal (length c.args.g.now.links)) (codes "\n")
      c.in_ok-push.ensures.added c.in_ok-push_node.ensures.added c.in_ok-push-2.ensures.added c.in_ok-push_node-2.ensures.added c.in_ok-push-3.ensures.added
      (c.in_ok-push_count.ensures.added ∙ ap (λ (n : ℕ). c.push-3.new.text.items ++ decimal n) c.node_count.ensures.count) c.in_ok-push-4.ensures.added
      (c.in_ok-push_count-2.ensures.added ∙ ap (λ (n : ℕ). c.push-4.new.text.items ++ decimal n) c.link_count.ensures.count) c.in_ok-push-5.ensures.added;
}
