-- What routes hold.
use Rattle.std.specs.Prelude.{◌≡◌, ℕ, List, [], Option, Some, None, slice_get, slice_index_or, unwrap_or}
use Rattle.primary_alt.specs.declared.shortest.Primary.{Primary}

-- of each area node, if there is a column for it, the primaries of all area nodes for it; of each area node the island
-- node that it is, and of each bond the island link; of each island node the area node, and of each island link the bond
pub record RouteLists : Type 0 where
  pub primaries : List (Option (List (Option Primary)))
  pub nodes : List (Option ℕ)
  pub links : List (Option ℕ)
  pub spots : List ℕ
  pub bonds : List ℕ

-- there is a column for t: the primaries of all nodes for it
pub record HasColumn (routes : RouteLists) (t : ℕ) : Type 0 where
  pub column : List (Option Primary)
  pub there : slice_get routes.primaries t ≡ Some (Some column)

-- the primary of x for t; none where there is no column for t, and where one of them is out of range
abbrev pub primary_at : RouteLists → ℕ → ℕ → Option Primary
primary_at routes x t = slice_index_or (unwrap_or (slice_index_or routes.primaries t None) []) x None
