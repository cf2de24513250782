use Rattle.std.proofs.Common.{◌++◌, ℕ, List, codes, refl}
use Rattle.text_parts.specs.Spelling.{node_text}
use Rattle.text_parts.proofs.Adding.{joined}
use Rattle.proxy_rows.proofs.text.push_head.Goals as goal

pub returns : goal.returns
returns c =
    let text = c.args.text.now.items in
    let one : List ℕ = codes "proxy " ++ node_text c.id.result in
    let two : List ℕ = one ++ codes " " ++ node_text c.id-2.result in
    let three : List ℕ = two ++ codes " root " ++ node_text c.id-3.result in
    record {
      part = three ++ codes "\n";
      is = record {
        one = c.id.result;
        one_is = c.id.ensures;
        other = c.id-2.result;
        other_is = c.id-2.ensures;
        top = c.id-3.result;
        top_is = c.id-3.ensures;
        spelled = refl;
      };
      added =
          joined text three (codes "\n") _ _ (joined text (two ++ codes " root ") (node_text c.id-3.result) _ _
          (joined text two (codes " root ") _ _ (joined text (one ++ codes " ") (node_text c.id-2.result) _ _
          (joined text one (codes " ") _ _ (joined text (codes "proxy ") (node_text c.id.result) _ _
          c.in_ok-push.ensures.added c.in_ok-push_node.ensures.added) c.in_ok-push-2.ensures.added) c.in_ok-push_node-2.ensures.added) c.in_ok-push-3.ensures.added)
          c.in_ok-push_node-3.ensures.added) c.in_ok-push-4.ensures.added;
    }
