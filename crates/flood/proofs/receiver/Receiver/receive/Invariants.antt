use Rattle.std.proofs.Common.{drop}
use Rattle.flood.proofs.Received.{IsReceiving}
use Rattle.flood.proofs.receiver.Receiver.receive.Given as goal

abbrev pub invariant-loop-number : goal.invariant-loop-number
invariant-loop-number l =
    IsReceiving l.lsas l.initial.self l.numbers l.self l.new.items (drop l.number-index l.numbers)
