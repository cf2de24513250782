-- The rows for a destination whose column is held.
use Rattle.std.proofs.Common.{◌≡◌, ◌++◌, ℕ, List, [], ◌∷◌, Option, Some, length, slice_get, subst}
use Rattle.mrt_graph.specs.declared.cert.CertFile.{CertFile}
use Rattle.mrt_graph.specs.declared.cert.Row.{Row}
use Rattle.mrt_graph.specs.Certificate.{row_of}
use Rattle.mrt_graph.proofs.ListPlaces.{at_last, at_left}
use Rattle.mrt_rows.specs.ColumnOf.{HasRowsFor}
use Rattle.mrt_rows.specs.RowsTo.{rows_in}

-- a destination has its column, which has the rows of a file's certificate
pub record IsHeld (file : CertFile) (places : List (Option ℕ)) (columns : List (List (Option Row))) (t : ℕ) : Type 0 where
  pub place : ℕ
  pub at : slice_get places t ≡ Some (Some place)
  pub column : List (Option Row)
  pub there : slice_get columns place ≡ Some column
  pub has : HasRowsFor file.cert t column

-- it has so with more places, and more columns
pub held_on : (file : CertFile) (places : List (Option ℕ)) (columns : List (List (Option Row))) (t : ℕ) (place : Option ℕ) (more : List (List (Option Row)))
    → IsHeld file places columns t → IsHeld file (places ++ place ∷ []) (columns ++ more) t
held_on file places columns t place more held = record {
  place = held.place;
  at = at_left places (place ∷ []) t (Some held.place) held.at;
  column = held.column;
  there = at_left columns more held.place held.column held.there;
  has = held.has;
}

pub held_on_place : (file : CertFile) (places : List (Option ℕ)) (columns : List (List (Option Row))) (t : ℕ) (place : Option ℕ)
    → IsHeld file places columns t → IsHeld file (places ++ place ∷ []) columns t
held_on_place file places columns t place held = record {
  place = held.place;
  at = at_left places (place ∷ []) t (Some held.place) held.at;
  column = held.column;
  there = held.there;
  has = held.has;
}

-- the one whose column was put last
pub held_last : (file : CertFile) (places : List (Option ℕ)) (columns : List (List (Option Row))) (t : ℕ) (column : List (Option Row))
    → length places ≡ t → HasRowsFor file.cert t column → IsHeld file (places ++ Some (length columns) ∷ []) (columns ++ column ∷ []) t
held_last file places columns t column many has = record {
  place = length columns;
  at = subst (λ (k : ℕ). slice_get (places ++ Some (length columns) ∷ []) k ≡ Some (Some (length columns))) many
      (at_last places (Some (length columns)));
  column = column;
  there = at_last columns column;
  has = has;
}

pub rows_held : (file : CertFile) (places : List (Option ℕ)) (columns : List (List (Option Row))) (t : ℕ) → IsHeld file places columns t
    → (s : ℕ) → row_of file.cert s t ≡ rows_in (record { places = places; columns = columns }) s t
rows_held file places columns t held s = rw (held.at, held.there) (held.has.same s)
