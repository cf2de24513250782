use Rattle.std.proofs.Common.{◌≡◌, ◌<◌, ℕ, length, refl, sym, subst, arith}
use Rattle.std.specs.Prelude.{IfOk}
use Rattle.mrt_graph.specs.declared.link.Element.{Element}
use Rattle.text_parts.specs.steps.Adds.{Adds}
use Rattle.text_parts.proofs.Adding.{nothing, one_part_more}
use Rattle.order_repair.specs.steps.Blocks.{Letter, Letters, blocks_of, count_of}
use Rattle.order_repair.specs.Failed.{IsWithin, LiesIn}
use Rattle.order_repair.specs.OrderText.{IsLetter}
use Rattle.order_repair.proofs.Chained.{after}
use Rattle.order_repair.proofs.Listed.{element_within, many, next_lies}
use Rattle.order_repair.proofs.line.push_letters.Goals as goal

pub first-next-requires : goal.first-next-requires
first-next-requires c = omega (arith, c.requires.block, c.requires.chains.one_first_each, c.requires.source.directed.are.says.one_place_each)

pub loop-next-init : goal.loop-next-init
loop-next-init c =
    let members = c.args.members.now in
    record {
      count = c.count_of-count.ensures;
      next = c.requires.chains.chained.firsts_are members.place.block c.first-next.result c.first-next.ensures;
      letters = λ root w hops pair. nothing (Letters c.args.view.now.graph.now root w c.args.pair.now members 0) c.args.text.now.items refl;
    }

pub push_letter-requires-clause-within : goal.push_letter-requires-clause-within
push_letter-requires-clause-within c =
    subst (IsWithin c.args.view.now.graph.now) (sym c.element.ensures)
    (element_within c.args.members.now.kind c.args.view.now.graph.now c.loop-next.next (omega (arith, c.loop-next-test.true, c.loop-next.invariant.count)))

pub next-next-requires : goal.next-next-requires
next-next-requires c =
    let view = c.args.view.now in
    let has = c.requires.source.directed in
    omega (arith, c.loop-next-test.true, c.loop-next.invariant.count, c.requires.chains.chained.one_next_each, many view.graph.now view.directed.now has.directions has.are.says c.args.members.now.kind)

pub loop-next-smaller : goal.loop-next-smaller
loop-next-smaller c =
    let view = c.args.view.now in
    let d = view.directed.now in
    let has = c.requires.source.directed in
    let kind = c.args.members.now.kind in
    let chains = c.args.chains.now in
    let at = c.loop-next.next in
    let low : at < length (blocks_of kind d) = omega (arith, c.loop-next-test.true, c.loop-next.invariant.count, many view.graph.now d has.directions has.are.says kind) in
    let next = after (blocks_of kind d) chains.firsts.items chains.nexts.items c.args.members.now.place.block c.loop-next.from at c.next-next.result c.requires.chains.chained c.loop-next.invariant.next low c.next-next.ensures in
    omega (arith, next.onward, next.within, c.loop-next-test.true, many view.graph.now d has.directions has.are.says kind, c.loop-next.invariant.count)

pub loop-next-preserved : goal.loop-next-preserved
loop-next-preserved c =
    let g = c.args.view.now.graph.now in
    let d = c.args.view.now.directed.now in
    let has = c.requires.source.directed in
    let members = c.args.members.now in
    let chains = c.args.chains.now in
    let pair = c.args.pair.now in
    let from = c.loop-next.from in
    let at = c.loop-next.next in
    let is = c.loop-next.invariant.next in
    let within : at < count_of members.kind g = omega (arith, c.loop-next-test.true, c.loop-next.invariant.count) in
    let low : at < length (blocks_of members.kind d) = omega (arith, within, many g d has.directions has.are.says members.kind) in
    record {
      count = c.loop-next.invariant.count;
      next = after (blocks_of members.kind d) chains.firsts.items chains.nexts.items members.place.block from at c.next-next.result c.requires.chains.chained is low c.next-next.ensures;
      letters = λ root w hops of_pair.
          let before = c.args.text.now.items in
          let middle = c.push_head_letter.new.text.items in
          let text = c.push_letter.new.text.items in
          let to_it = c.in_ok-push_head_letter.ensures root w before hops of_pair (c.loop-next.invariant.letters root w hops of_pair) in
          let lies = next_lies g d w hops.are.says members.kind members.place.block members.place.head from at is within in
          let letter = c.in_ok-push_letter.ensures root w members.place hops of_pair
          (subst (LiesIn g w members.place.block members.place.head) (sym c.element.ensures) lies) in
          one_part_more (Letter g root w pair members) at before middle text to_it
          (subst (λ (x : Element). Adds (IsLetter g root w pair.source pair.to members.place.block members.place.head x) middle text) c.element.ensures letter);
    }

pub returns : goal.returns
returns c = λ root w hops of_pair.
    let view = c.args.view.now in
    let g = view.graph.now in
    let members = c.args.members.now in
    let all : c.loop-next.next ≡ count_of members.kind g =
    omega (arith, c.loop-next-test.false, c.loop-next.invariant.count, c.loop-next.invariant.next.within, many g view.directed.now w hops.are.says members.kind) in
    subst (λ (n : ℕ). IfOk c.push_head_letter-2.result (λ _. Adds (Letters g root w c.args.pair.now members n) c.args.text.now.items c.push_head_letter-2.new.text.items)) all
    (c.push_head_letter-2.ensures root w c.args.text.now.items hops of_pair (c.loop-next.invariant.letters root w hops of_pair))
