use Rattle.std.proofs.Common.{◌<◌, get_or, length, arith}
use Rattle.flood.proofs.Received.{IsNext, next_is, read_is, received_all, received_none, received_one}
use Rattle.flood.proofs.receiver.Receiver.receive.Goals.{At-loop-number}
use Rattle.flood.proofs.receiver.Receiver.receive.Goals as goal

pub loop-number-init : goal.loop-number-init
loop-number-init c =
    received_none c.args.lsas.now c.args.self.now c.args.numbers.now _ c.new-new.ensures.items c.requires.stored c.requires.numbers c.requires.kept c.requires.behind c.requires.room

next_here : (c : At-loop-number) → c.loop-number.number-index < length c.args.numbers.now
    → IsNext c.args.lsas.now c.loop-number.self (get_or c.args.numbers.now c.loop-number.number-index 0)
next_here c inside =
    next_is c.args.lsas.now c.args.self.now c.args.numbers.now c.loop-number.self c.loop-number.new.items c.loop-number.number-index
    (get_or c.args.numbers.now c.loop-number.number-index 0) c.loop-number.invariant inside (read_is c.args.numbers.now c.loop-number.number-index 0 inside)

pub meet-requires-clause-stored : goal.meet-requires-clause-stored
meet-requires-clause-stored c = c.loop-number.invariant.stored

pub meet-requires-clause-number : goal.meet-requires-clause-number
meet-requires-clause-number c = (next_here (goal.at.meet-requires-clause-number c).At-loop-number c.loop-number-test.true).number

pub meet-requires-clause-kept : goal.meet-requires-clause-kept
meet-requires-clause-kept c = (next_here (goal.at.meet-requires-clause-kept c).At-loop-number c.loop-number-test.true).kept

pub meet-requires-clause-behind : goal.meet-requires-clause-behind
meet-requires-clause-behind c = c.loop-number.invariant.turn.behind

pub meet-requires-clause-room : goal.meet-requires-clause-room
meet-requires-clause-room c = (next_here (goal.at.meet-requires-clause-room c).At-loop-number c.loop-number-test.true).room

pub loop-number-preserved : goal.loop-number-preserved
loop-number-preserved c =
    let inside : c.loop-number.number-index < length c.args.numbers.now = omega arith in
    received_one c.args.lsas.now c.args.self.now c.args.numbers.now c.loop-number.self c.meet.new.self
    c.loop-number.new.items c.meet.new.new.items c.loop-number.number-index
    (get_or c.args.numbers.now c.loop-number.number-index 0) c.loop-number.invariant inside
    (read_is c.args.numbers.now c.loop-number.number-index 0 inside) c.in_ok-meet.ensures.after
    c.in_ok-meet.ensures.news (c.in_ok-meet.ensures.numbers c.loop-number.invariant.new_ones) c.in_ok-meet.ensures.stored

pub returns-clause-news : goal.returns-clause-news
returns-clause-news c =
    (received_all c.args.lsas.now c.args.self.now c.args.numbers.now c.loop-number.self c.loop-number.new.items
    c.loop-number.number-index c.loop-number.invariant c.loop-number-test.false).news_are

pub returns-clause-after : goal.returns-clause-after
returns-clause-after c =
    (received_all c.args.lsas.now c.args.self.now c.args.numbers.now c.loop-number.self c.loop-number.new.items
    c.loop-number.number-index c.loop-number.invariant c.loop-number-test.false).after_is

pub returns-clause-numbers : goal.returns-clause-numbers
returns-clause-numbers c = c.loop-number.invariant.new_ones

pub returns-clause-stored : goal.returns-clause-stored
returns-clause-stored c = c.loop-number.invariant.stored
