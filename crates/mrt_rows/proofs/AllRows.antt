-- Where rows stand among those of all nodes.
use Rattle.std.proofs.Common.{◌≡◌, ◌≢◌, ◌<◌, ℕ, true, List, not, slice_get, refl, ap}
use Rattle.std.proofs.lemmas.Bool.{and_from, lt-ltb, ne_eqb}
use Rattle.mrt_graph.specs.declared.cert.Row.{Row}
use Rattle.mrt_graph.specs.Certificate.{are_two}
use Rattle.mrt_graph.specs.RowPlace.{place_of_row}
use Rattle.mrt_rows.specs.steps.RowsOf.{row_among}

pub row_is : (n : ℕ) (rows : List Row) (s t : ℕ) → s < n → t < n → s ≢ t
    → row_among n rows s t ≡ slice_get rows (place_of_row n s t)
row_is n rows s t s_within t_within two =
    let are : are_two n s t ≡ true =
    and_from _ _ (lt-ltb s n s_within) (and_from _ _ (lt-ltb t n t_within) (ap not (ne_eqb s t two))) in
    rw are refl
