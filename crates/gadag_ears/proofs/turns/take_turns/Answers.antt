use Rattle.std.proofs.Common.{arith}
use Rattle.gadag_ears.proofs.EndsPassed.{begins_at_root, room_here}
use Rattle.gadag_ears.proofs.turns.take_turns.Goals as goal

pub loop-next-init : goal.loop-next-init
loop-next-init c = record {
  turn = begins_at_root c.args.g.now c.args.root c.args.tree.now c.in_ok-growing.growing c.in_ok-growing.ensures c.requires.root c.requires.tree;
  has_room = c.in_ok-growing.ensures.room;
}

pub take_turn-requires-clause-turn : goal.take_turn-requires-clause-turn
take_turn-requires-clause-turn c = record { root = c.args.root; turn = c.loop-next.invariant.turn }

pub loop-next-smaller : goal.loop-next-smaller
loop-next-smaller c =
    omega (
      arith,
      c.take_turn.ensures.longer,
      room_here c.args.g.now c.args.root c.args.tree.now c.loop-next.here c.loop-next.growing c.loop-next.invariant.turn,
    )

pub loop-next-preserved : goal.loop-next-preserved
loop-next-preserved c = record { turn = c.in-Some.ensures.onward c.args.root c.loop-next.invariant.turn; has_room = c.take_turn.ensures.room }

pub returns : goal.returns
returns c = c.in_default.ensures.ended c.args.root c.loop-next.invariant.turn
