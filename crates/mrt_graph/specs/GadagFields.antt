-- What a GADAG says of a node and of a link.
use Rattle.std.specs.Prelude.{ℕ, List, Option, slice_get}
use Rattle.std.specs.Option.{option_map}
use Rattle.mrt_graph.specs.declared.cert.Role.{Role}
use Rattle.mrt_graph.specs.declared.gadag.Mark.{Mark}
use Rattle.mrt_graph.specs.declared.gadag.Place.{Place}
use Rattle.mrt_graph.specs.declared.gadag.Way.{Way}

-- a node's head and its block
abbrev pub head_at : List Place → ℕ → Option ℕ
head_at places v = option_map (λ place. place.head) (slice_get places v)

abbrev pub block_at : List Place → ℕ → Option ℕ
block_at places v = option_map (λ place. place.block) (slice_get places v)

-- a link's direction, its role and its block
abbrev pub way_at : List Mark → ℕ → Option Way
way_at marks e = option_map (λ mark. mark.way) (slice_get marks e)

abbrev pub role_at : List Mark → ℕ → Option Role
role_at marks e = option_map (λ mark. mark.role) (slice_get marks e)

abbrev pub link_block_at : List Mark → ℕ → Option ℕ
link_block_at marks e = option_map (λ mark. mark.block) (slice_get marks e)
