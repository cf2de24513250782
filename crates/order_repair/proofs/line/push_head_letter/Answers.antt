use Rattle.std.proofs.Common.{inr, refl}
use Rattle.std.proofs.lemmas.Bool.{iff_false}
use Rattle.std.proofs.lemmas.Result.{on_ok_weaker}
use Rattle.order_repair.proofs.LettersPut.{with_head, without_head}
use Rattle.order_repair.proofs.Listed.{head_is_node}
use Rattle.order_repair.proofs.line.push_head_letter.Goals as goal

pub push_letter-requires-clause-within : goal.push_letter-requires-clause-within
push_letter-requires-clause-within c =
    let view = c.args.view.now in
    let members = c.args.members.now in
    head_is_node view.graph.now view.directed.now c.requires.source.directed.directions c.requires.source.directed.are.says members.kind members.place.block members.place.head
    c.args.from c.args.until c.requires.none (c.is_head_within.ensures.0 c.if-is_head_within.true)

pub returns-then-is_head_within : goal.returns-then-is_head_within
returns-then-is_head_within c = λ root w before hops pair letters.
    let view = c.args.view.now in
    let members = c.args.members.now in
    let here = c.is_head_within.ensures.0 c.if-is_head_within.true in
    let node = head_is_node view.graph.now view.directed.now w hops.are.says members.kind members.place.block members.place.head c.args.from c.args.until c.requires.none here in
    on_ok_weaker c.push_letter.result
    (λ letter. with_head view.graph.now view.directed.now root w hops.are.says c.args.pair.now before c.args.text.now.items c.args.from c.args.until members.kind members.place
    c.requires.none letters here c.push_letter.new.text.items letter)
    (c.push_letter.ensures root w members.place hops pair (record { within = node; in_block = inr refl }))

pub returns : goal.returns
returns c = λ root w before hops pair letters.
    without_head c.args.view.now.graph.now c.args.view.now.directed.now root w hops.are.says c.args.pair.now before c.args.text.now.items c.args.from c.args.until
    c.args.members.now c.requires.none letters (iff_false c.is_head_within.ensures c.if-is_head_within.false)
