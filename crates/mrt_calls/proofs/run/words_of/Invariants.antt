use Rattle.std.proofs.Common.{◌≡◌, ◌++◌, drop}
use Rattle.mrt_calls.specs.Runs.{words_in}
use Rattle.mrt_calls.proofs.run.words_of.Given as goal

-- The words so far, and those of the bytes that are left.
abbrev pub invariant-loop-word : goal.invariant-loop-word
invariant-loop-word l = l.words.items ++ words_in (drop l.word-index l.bytes) ≡ words_in l.bytes
