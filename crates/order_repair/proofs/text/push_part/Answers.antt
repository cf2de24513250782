use Rattle.std.proofs.lemmas.Result.{on_ok_weaker}
use Rattle.order_repair.specs.OrderText.{IsPartOn, Line, NoLine}
use Rattle.text_parts.proofs.Adding.{nothing}
use Rattle.order_repair.proofs.text.push_part.Goals as goal

pub returns-in-Some : goal.returns-in-Some
returns-in-Some c = λ root w hops.
    let pair = rw c.in-Some.is at (c.tag_for.ensures root w hops) in
    on_ok_weaker c.push_line.result (λ adds. record { part = adds.part; is = Line adds.part adds.is; added = adds.added })
    (c.push_line.ensures root w hops pair.0 pair.1 pair.2)

pub returns-in-None : goal.returns-in-None
returns-in-None c = λ root w hops.
    nothing (IsPartOn c.args.view.now.graph.now root w c.args.source c.args.to) c.args.text.now.items
    (NoLine (rw c.in-None.is at (c.tag_for.ensures root w hops)))
