-- Where links lead.
use Rattle.std.specs.Prelude.{◌==◌, ℕ, List, Option, Some, None, slice_get, if◌then◌else◌}
use Rattle.std.specs.Option.{option_and_then}
use Rattle.mrt_graph.specs.declared.link.Link.{Link}

-- the other node of a link that touches s; none where it does not touch s
abbrev pub far_node : ℕ → Link → Option ℕ
far_node s link = if link.a == s then Some link.b else (if link.b == s then Some link.a else None)

-- where link number e leads from s: to its other node; nowhere where it does not touch s, or there is no such link
abbrev pub leads : List Link → ℕ → ℕ → Option ℕ
leads links e s = option_and_then (far_node s) (slice_get links e)
