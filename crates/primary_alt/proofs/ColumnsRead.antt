-- The primaries that columns of first arcs give, one by one.
use Rattle.std.proofs.Common.{◌≡◌, ◌<◌, ◌≤◌, ◌∙◌, ℕ, Bool, List, [], Option, None, Some, get_or, length, slice_get, inl, inr, refl, sym, ap, arith}
use Rattle.std.specs.Prelude.{unwrap_or}
use Rattle.std.specs.Option.{option_and_then, option_map}
use Rattle.std.proofs.lemmas.Bool.{cases_lt}
use Rattle.std.proofs.lemmas.List.{get_or_default, get_or_past}
use Rattle.std.proofs.lemmas.List.FromFn.{get_or-map-range_with_len, length-map-range_with_len}
use Rattle.std.proofs.lemmas.Option.{get_or_from_slice_get, same_Some, slice_get_within, slice_get_read}
use Rattle.primary_alt.specs.declared.shortest.Primary.{Primary}
use Rattle.primary_alt.specs.steps.FirstArcs.{columns_of, primaries_by, primary_by}

no_clash : {X : Type 0} (x : X) → None ≡ Some x → ⊥
no_clash x is = cc

-- what is read at a place stands there
pub stands : {X : Type 0} (xs : List (Option X)) (i : ℕ) (x : X) → get_or xs i None ≡ Some x → slice_get xs i ≡ Some (Some x)
stands {X} xs i x is = elim (cases_lt i (length xs)) [
  | inl within ↦ slice_get_read xs (length xs) i (Some x) refl within (sym is ∙ get_or_default xs i None (Some x) within)
  | inr past ↦ absurd (no_clash x (sym (get_or_past xs i None past) ∙ is))
]

module _ (networks : List Bool) (leads : List ℕ) where
  pub many_primaries : (t : ℕ) (column : List (Option ℕ)) → length (primaries_by networks leads t column) ≡ length networks
  many_primaries t column = length-map-range_with_len (λ (x : ℕ). primary_by networks leads column x t) 0 (length networks)

  pub entry_by : (x t : ℕ) (column : List (Option ℕ)) → x < length networks → get_or (primaries_by networks leads t column) x None ≡ primary_by networks leads column x t
  entry_by x t column within =
      get_or-map-range_with_len (λ (y : ℕ). primary_by networks leads column y t) 0 (length networks) x x None within (omega arith)

  module _ (columns : List (Option (List (Option ℕ)))) where
    pub many_columns : length (columns_of networks leads columns) ≡ length networks
    many_columns = length-map-range_with_len (λ (t : ℕ). option_map (primaries_by networks leads t) (get_or columns t None)) 0 (length networks)

    column_at : (t : ℕ) → t < length networks → get_or (columns_of networks leads columns) t None ≡ option_map (primaries_by networks leads t) (get_or columns t None)
    column_at t within =
        get_or-map-range_with_len (λ (u : ℕ). option_map (primaries_by networks leads u) (get_or columns u None)) 0 (length networks) t t None within (omega arith)

    by_column : (x t : ℕ) → x < length networks → (o : Option (List (Option ℕ)))
        → get_or (unwrap_or (option_map (primaries_by networks leads t) o) []) x None ≡ option_and_then (λ column. primary_by networks leads column x t) o
    by_column x t within None = refl
    by_column x t within (Some column) = entry_by x t column within

    -- the primary of x for t, as it is seen
    pub primary_seen : (x t : ℕ) → x < length networks → t < length networks
        → get_or (unwrap_or (get_or (columns_of networks leads columns) t None) []) x None
        ≡ option_and_then (λ column. primary_by networks leads column x t) (get_or columns t None)
    primary_seen x t from to =
        ap (λ (o : Option (List (Option Primary))). get_or (unwrap_or o []) x None) (column_at t to) ∙ by_column x t from (get_or columns t None)

    -- there is none past the places
    pub none_past : (x t : ℕ) → length networks ≤ t → get_or (unwrap_or (get_or (columns_of networks leads columns) t None) []) x None ≡ None
    none_past x t past =
        ap (λ (o : Option (List (Option Primary))). get_or (unwrap_or o []) x None)
        (get_or_past (columns_of networks leads columns) t None (omega (arith, past, many_columns)))

    -- a column that is seen is one of first arcs
    pub column_back : (t : ℕ) (seen : List (Option Primary)) → slice_get (columns_of networks leads columns) t ≡ Some (Some seen)
        → (column : List (Option ℕ)) × (slice_get columns t ≡ Some (Some column)) × (seen ≡ primaries_by networks leads t column)
    column_back t seen at =
        let within : t < length networks = omega (arith, many_columns, slice_get_within (columns_of networks leads columns) t (Some seen) at) in
        back (get_or columns t None) refl
        (sym (column_at t within) ∙ get_or_from_slice_get (columns_of networks leads columns) t (Some seen) None at)
      where
        back : (o : Option (List (Option ℕ))) → get_or columns t None ≡ o → option_map (primaries_by networks leads t) o ≡ Some seen
            → (column : List (Option ℕ)) × (slice_get columns t ≡ Some (Some column)) × (seen ≡ primaries_by networks leads t column)
        back None is same = absurd (no_clash seen same)
        back (Some column) is same = (column, stands columns t column is, sym (same_Some (primaries_by networks leads t column) seen same))

    -- and one of first arcs is seen
    pub column_seen : (t : ℕ) (column : List (Option ℕ)) → t < length networks → slice_get columns t ≡ Some (Some column)
        → slice_get (columns_of networks leads columns) t ≡ Some (Some (primaries_by networks leads t column))
    column_seen t column within at =
        stands (columns_of networks leads columns) t (primaries_by networks leads t column)
        (column_at t within ∙ ap (λ (o : Option (List (Option ℕ))). option_map (primaries_by networks leads t) o) (get_or_from_slice_get columns t (Some column) None at))
