-- The direction of a link.
use Rattle.std.specs.Prelude.{ℕ, List, Option, Some, None, slice_get}
use Rattle.std.specs.Option.{option_and_then}
use Rattle.mrt_graph.specs.declared.gadag.Mark.{Mark}
use Rattle.mrt_graph.specs.declared.gadag.Way.{Way}
use Rattle.mrt_graph.specs.declared.gadag.Way.TheVariants.{AToB, BToA, Unset}
use Rattle.mrt_graph.specs.declared.link.Link.{Link}
use Rattle.mrt_graph.specs.GadagFields.{way_at}

-- the node that a link with this direction leads away from; none where it has no direction
abbrev pub tail_of : Link → Way → Option ℕ
tail_of link Unset = None
tail_of link AToB = Some link.a
tail_of link BToA = Some link.b

-- the node that link e leads away from; none where it has no direction, or there is no such link
abbrev pub tail_at : List Link → List Mark → ℕ → Option ℕ
tail_at links marks e = option_and_then (λ link. option_and_then (tail_of link) (way_at marks e)) (slice_get links e)
