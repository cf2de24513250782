use Rattle.std.proofs.Common.{append_assoc}
use Rattle.std.specs.Prelude.{decimal}
use Rattle.text_parts.proofs.parts.push_number.Goals as goal

pub returns-clause-added : goal.returns-clause-added
returns-clause-added c =
    cc (append_assoc c.args.text.now.items c.args.word.now (decimal c.args.number), c.in_ok-reserve.ensures.items)
