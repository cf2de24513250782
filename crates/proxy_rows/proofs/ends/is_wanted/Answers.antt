use Rattle.proxy_rows.proofs.ends.is_wanted.Goals as goal

pub is_plain_to_low-requires-clause-marked : goal.is_plain_to_low-requires-clause-marked
is_plain_to_low-requires-clause-marked c = rw c.in-PlainToLow.is at c.requires.marked

pub is_onward-requires-clause-marked : goal.is_onward-requires-clause-marked
is_onward-requires-clause-marked c = rw c.in-Onward.is at c.requires.marked

pub returns-in-NotPlain : goal.returns-in-NotPlain
returns-in-NotPlain c rest = rw c.in-NotPlain.is (c.is_not_plain.ensures rest)
