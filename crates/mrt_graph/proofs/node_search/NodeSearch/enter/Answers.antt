use Rattle.std.proofs.Common.{◌≡◌, ◌<◌, ◌∙◌, ◌++◌, Bool, [], ◌∷◌, cond, false, get_or, length, ap, sym}
use Rattle.std.proofs.lemmas.List.{get_or_default}
use Rattle.mrt_graph.proofs.Searching.{enters_new}
use Rattle.mrt_graph.proofs.node_search.NodeSearch.enter.Goals as goal

pub returns : goal.returns
returns c =
    let marks = c.self.inside.marks.items in
    let found = c.self.inside.found.items in
    let grown : c.push.new.self.items ≡ found ++ c.args.node ∷ [] = rw c.unwrap.ensures at c.push.ensures.items in
    let within : c.args.node < length marks = rw (← c.self.view_is) at c.requires in
    let no_mark : get_or marks c.args.node false ≡ false =
    get_or_default marks c.args.node false c.index.result.now within ∙ sym c.index.ensures ∙ c.if-index.false in
    rw (grown, ← c.self.view_is) (record {
      entered = enters_new marks found c.self.inside.followed c.args.node within no_mark;
      listed = ap (λ (b : Bool). cond b found (found ++ c.args.node ∷ [])) (sym no_mark);
    })
