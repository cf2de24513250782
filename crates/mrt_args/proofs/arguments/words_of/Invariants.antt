use Rattle.std.proofs.Common.{◌≡◌, ◌++◌, map}
use Rattle.std.specs.String.{string_bytes}
use Rattle.std.specs.Vec.Iter.{into_iter_items}
use Rattle.mrt_args.specs.Arguments.{words_of}
use Rattle.mrt_args.proofs.arguments.words_of.Given as goal

abbrev pub invariant-loop-arg : goal.invariant-loop-arg
invariant-loop-arg l = l.words.items ++ map string_bytes (into_iter_items l.arg-iterator) ≡ words_of
    (into_iter_items l.fn.args)
