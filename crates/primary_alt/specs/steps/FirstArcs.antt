-- First arcs of shortest paths of all nodes to one, in a column, and the primaries that they give.
use Rattle.std.specs.Prelude.{◌≡◌, ◌≢◌, ◌<◌, ◌==◌, ◌||◌, not, ℕ, Bool, false, List, Option, Some, None, Contains, length, map, slice_get, slice_index_or, if◌then◌else◌}
use Rattle.std.specs.List.{range_with_len}
use Rattle.std.specs.Option.{option_and_then, option_map}
use Rattle.area_graph.specs.declared.area_types.Arc.{Arc}
use Rattle.area_graph.specs.Parts.{AreaParts}
use Rattle.primary_alt.specs.declared.shortest.Primary.{Primary}
use Rattle.primary_alt.specs.ArcWalk.{ArcWalk}
use Rattle.primary_alt.specs.Primaries.{IsFirstArc}

-- by the column for t, the primary over a first arc that leads to a node: it is that arc alone, or it goes on over a
-- network other than t
abbrev pub primary_over : List Bool → List ℕ → List (Option ℕ) → ℕ → ℕ → ℕ → Option Primary
primary_over networks leads column t number to =
    if (to == t) || not (slice_index_or networks to false) then Some (record { first = number; second = None; next = to })
    else option_map (λ second. record { first = number; second = Some second; next = slice_index_or leads second 0 })
    (slice_index_or column to None)

-- by the column for t, the primary of x; a network has none
abbrev pub primary_by : List Bool → List ℕ → List (Option ℕ) → ℕ → ℕ → Option Primary
primary_by networks leads column x t =
    if (x == t) || slice_index_or networks x false then None
    else option_and_then (λ number. primary_over networks leads column t number (slice_index_or leads number 0))
    (slice_index_or column x None)

-- by the column for t, the primaries of all nodes
abbrev pub primaries_by : List Bool → List ℕ → ℕ → List (Option ℕ) → List (Option Primary)
primaries_by networks leads t column =
    map (λ x. primary_by networks leads column x t) (range_with_len 0 (length networks))

-- of each node that has a column, the primaries of all nodes for it
abbrev pub columns_of : List Bool → List ℕ → List (Option (List (Option ℕ))) → List (Option (List (Option Primary)))
columns_of networks leads columns =
    map (λ t. option_map (primaries_by networks leads t) (slice_index_or columns t None))
    (range_with_len 0 (length networks))

-- a column has a first arc of each node, or none; these are arcs, and arcs lead to nodes
pub record IsFirstColumn (networks : List Bool) (leads : List ℕ) (column : List (Option ℕ)) : Type 0 where
  pub one_each : length column ≡ length networks
  pub arcs : (x number : ℕ) → slice_get column x ≡ Some (Some number) → number < length leads
  pub nodes : (number to : ℕ) → slice_get leads number ≡ Some to → to < length networks

-- columns, each at the place of its destination
pub record IsTable (networks : List Bool) (leads : List ℕ) (columns : List (Option (List (Option ℕ)))) : Type 0 where
  pub a_place_each : length columns ≡ length networks
  pub each : (t : ℕ) (column : List (Option ℕ)) → slice_get columns t ≡ Some (Some column)
      → IsFirstColumn networks leads column

-- the first arc of x that begins a shortest path to t; none where no walk leads there
abbrev pub IsFirstFor : List Arc → ℕ → ℕ → Option ℕ → Type 0
IsFirstFor arcs x t None = (walk : List Arc) → ¬ ArcWalk arcs x walk t
IsFirstFor arcs x t (Some number) = (arc : Arc) × IsFirstArc arcs x t number arc

-- a column of the first arcs of all nodes for t
pub record AreFirstArcs (area : AreaParts) (t : ℕ) (column : List (Option ℕ)) : Type 0 where
  pub one_each : length column ≡ length area.ids
  pub arcs : (x number : ℕ) → slice_get column x ≡ Some (Some number) → number < length area.arcs
  pub first : (x : ℕ) → x < length area.ids → x ≢ t → IsFirstFor area.arcs x t (slice_index_or column x None)

-- columns for these destinations and for no others
pub record AreColumnsFor (area : AreaParts) (destinations : List ℕ) (columns : List (Option (List (Option ℕ)))) : Type 0 where
  pub a_place_each : length columns ≡ length area.ids
  pub firsts : (t : ℕ) (column : List (Option ℕ)) → slice_get columns t ≡ Some (Some column) → AreFirstArcs area t column
  pub all : (t : ℕ) → Contains destinations t → (column : List (Option ℕ)) × (slice_get columns t ≡ Some (Some column))
  pub only : (t : ℕ) (column : List (Option ℕ)) → slice_get columns t ≡ Some (Some column) → Contains destinations t
