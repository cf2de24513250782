-- The column of a destination is sound, and there is exactly one.
use Rattle.std.proofs.Common.{◌≡◌, ◌≢◌, ◌<◌, ◌≤◌, ◌∙◌, ℕ, true, false, List, Option, Some, None, length, slice_get, inl, inr, refl, sym, ap, subst, arith}
use Rattle.std.specs.Option.{is_none, option_and_then, option_map_or}
use Rattle.std.proofs.lemmas.Bool.{cases_eq, cases_lt, eq-eqb, le-ltb, lt-ltb}
use Rattle.std.proofs.lemmas.Option.{same_Some, slice_get_past, slice_get_within}
use Rattle.mrt_graph.specs.declared.cert.Color.{Color}
use Rattle.mrt_graph.specs.declared.cert.Color.TheVariants.{Blue, Red}
use Rattle.mrt_graph.specs.declared.cert.Row.{Row}
use Rattle.mrt_graph.specs.declared.link.Element.{Element}
use Rattle.mrt_graph.specs.declared.link.Link.{Link}
use Rattle.mrt_graph.specs.Certificate.{row_of}
use Rattle.mrt_graph.specs.Column.{ColumnSound, IsColumnFor, is_none_at, rows_of_column}
use Rattle.mrt_graph.specs.ColorWalk.{color_walk, links_followed}
use Rattle.mrt_graph.specs.Hop.{Hop, hop_over}
use Rattle.mrt_graph.specs.Reaches.{AreDifferent, Reaches}
use Rattle.mrt_graph.specs.Rows.{Rows, link_of_color}
use Rattle.mrt_graph.specs.Sound.{SoundFor}
use Rattle.mrt_graph.specs.Uses.{Uses, nodes_met}
use Rattle.mrt_graph.specs.Walk.{Walk}
use Rattle.mrt_graph.proofs.AcceptedSound.{accepted_sound}
use Rattle.mrt_rows.specs.ColumnOf.{IsColumnOf}
use Rattle.mrt_rows.proofs.OneRow.{one_row}
use Rattle.mrt_rows.proofs.OrderedGraphs.{OrderedGraph}
use Rattle.mrt_rows.proofs.RulesHold.{accepted}
use Rattle.mrt_rows.proofs.RowsExist.{each_has, each_row}
use Rattle.mrt_rows.proofs.WholeCert.{whole_file, whole_row, whole_tells}

-- rows that are the same for t are as sound
module _ (links : List Link) (n : ℕ) (rows rows' : Rows) (s t : ℕ) (same : (u : ℕ) → rows u t ≡ rows' u t) where
  same_walk : (color : Color) → color_walk links n rows color s t ≡ color_walk links n rows' color s t
  same_walk color = ap (λ (next : ℕ → Option Hop). links_followed next t n s)
      (λ i u. option_and_then (λ row. hop_over links u (link_of_color color row)) (same u i))

  reaches_as : (color : Color) → Reaches links n rows color s t → Reaches links n rows' color s t
  reaches_as color reaches = record {
    ends_at_t = subst (λ (w : List ℕ). Walk links s w t) (same_walk color) reaches.ends_at_t;
    no_node_twice = subst (λ (w : List ℕ). AreDifferent (nodes_met links s w)) (same_walk color) reaches.no_node_twice;
  }

  use_as : (color : Color) (x : Element) → Uses links s (color_walk links n rows' color s t) x → Uses links s (color_walk links n rows color s t) x
  use_as color x = subst (λ (w : List ℕ). Uses links s w x) (sym (same_walk color))

  sound_as : SoundFor links n rows s t → SoundFor links n rows' s t
  sound_as sound = record {
    blue = reaches_as Blue sound.blue;
    red = reaches_as Red sound.red;
    apart = λ x between blue red. sound.apart x between (use_as Blue x blue) (use_as Red x red);
  }

module _ (og : OrderedGraph) (t : ℕ) (t_within : t < length og.g.ids) (column : List (Option Row))
    (is : IsColumnOf og.g og.root og.w t column) where
  abbrev n : ℕ
  n = length og.g.ids

  -- at the place of another node stands its one row
  pub stands : (s : ℕ) → s < n → s ≢ t → slice_get column s ≡ Some (each_row og s t)
  stands s s_within two =
      let it = is.each s s_within two in
      it.stands ∙ ap (λ (o : Option Row). Some o)
      (one_row og s s_within it.rows (each_row og s) it.by_table (λ u within apart. each_has og s u s_within within apart) t t_within two)

  none_past : (s : ℕ) → n ≤ s → row_of (whole_file og).cert s t ≡ None
  none_past s past =
      let e = le-ltb s (length (whole_file og).cert.nodes) (omega (arith, past, (whole_tells og).nodes.one_each)) in rw e refl

  none_at_t : row_of (whole_file og).cert t t ≡ None
  none_at_t =
      let low = lt-ltb t (length (whole_file og).cert.nodes) (omega (arith, t_within, (whole_tells og).nodes.one_each)) in
      let same = eq-eqb t t refl in
      rw (low, same) refl

  -- its rows are those of the certificate
  pub same_rows : (s : ℕ) → row_of (whole_file og).cert s t ≡ rows_of_column column s t
  same_rows s =
      let destination : is_none_at column t ≡ true = ap (λ (o : Option (Option Row)). option_map_or (λ row. is_none row) o false) is.at_destination in
      rw destination (elim (cases_lt s n) [
        | inl low ↦ elim (cases_eq s t) [
          | inl same ↦
              rw same (none_at_t ∙ sym (ap (option_and_then (λ (o : Option Row). o)) is.at_destination))
          | inr two ↦
              whole_row og s t low t_within two ∙ sym (ap (option_and_then (λ (o : Option Row). o)) (stands s low two))
        ]
        | inr past ↦
            none_past s past ∙ sym (ap (option_and_then (λ (o : Option Row). o)) (slice_get_past column s (omega (arith, past, is.one_each))))
      ])

  pub column_for : IsColumnFor column t
  column_for = record {
    none_there = is.at_destination;
    there_alone = λ s at. elim (cases_eq s t) [
      | inl same ↦ same
      | inr two ↦
          let s_within : s < n = omega (arith, slice_get_within column s None at, is.one_each) in
          let it = each_has og s t s_within t_within two in
          let none = same_Some (each_row og s t) None (sym (stands s s_within two) ∙ at) in
          let both : ◌≡◌ {A = Option Row} None (Some it.row) = sym none ∙ it.is in
          absurd (cc)
    ];
  }

  pub column_sound : ColumnSound og.g.links n column t
  column_sound = record {
    a_place_each = is.one_each;
    destination = column_for;
    sound = λ s s_within two. sound_as og.g.links n (row_of (whole_file og).cert) (rows_of_column column) s t same_rows
        (accepted_sound og.g og.root (whole_file og)
        (accepted og.g og.root og.w (whole_file og) og.kept og.ordered (whole_tells og)) s t s_within t_within two);
  }
