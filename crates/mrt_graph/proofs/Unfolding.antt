-- The rows that follow from those of related nodes are those of a foldable certificate.
use Rattle.std.proofs.Common.{◌≡◌, ◌≢◌, ◌∙◌, ◌<◌, ◌≤◌, ◌-◌, ◌*◌, ◌&&◌, ◌||◌, ℕ, zero, suc, Bool, true, false, not, List, [], Option, Some, filter, length, slice_get, take, inl, inr, refl, sym, ap, subst, arith, if◌then◌else◌}
use Rattle.std.specs.List.{AllByRecursion}
use Rattle.std.specs.Option.{option_and_then, option_map_or}
use Rattle.std.proofs.Math.Nat.{mul-le-mul_right}
use Rattle.std.proofs.lemmas.Bool.{cases_Bool, cases_eq, eq-eqb, false≢true, ne_eqb, not-false, not-true}
use Rattle.std.proofs.lemmas.Option.{same_Some, slice_get-get_or, slice_get_within}
use Rattle.mrt_graph.specs.declared.cert.CertLink.{CertLink}
use Rattle.mrt_graph.specs.declared.cert.CertNode.{CertNode}
use Rattle.mrt_graph.specs.declared.cert.Row.{Row}
use Rattle.mrt_graph.specs.declared.cert.Tag.TheVariants.{Carried}
use Rattle.mrt_graph.specs.Certificate.{Certificate, IsCertRow, IsCertificate, certificate_of, row_of}
use Rattle.mrt_graph.specs.CertFields.{head_of}
use Rattle.mrt_graph.specs.Foldable.{IsFoldable, in_chain, is_folded, is_own_head}
use Rattle.mrt_graph.specs.FoldedRows.{IsFolded, IsUnfoldable}
use Rattle.mrt_graph.specs.steps.FoldedRows.{near_row_of, no_row, unfolded_row, unfolded_rows, way_of}
use Rattle.mrt_graph.specs.Related.{are_unrelated, carrier}
use Rattle.mrt_graph.specs.RelatedPairs.{place_of_near, related_pairs, set_marks}
use Rattle.mrt_graph.specs.RowPlace.{place_of_row}
use Rattle.mrt_graph.specs.RowRules.{same_links}
use Rattle.mrt_graph.specs.Tags.{carried, is_near, same_tag}
use Rattle.mrt_graph.proofs.ByPairs.{all_pairs, all_pairs_length, pair_at}
use Rattle.mrt_graph.proofs.Filters.{all_pass}
use Rattle.mrt_graph.proofs.ListTests.{all_at}
use Rattle.mrt_graph.proofs.NearRows.{mark_less, near_are}
use Rattle.mrt_graph.proofs.OneUnfolding.{carrier_far, carrier_home, chain_ends, chain_shift, own_head, under_head}
use Rattle.mrt_graph.proofs.Pairs.{few_set, pairs_length, related_at, related_self}
use Rattle.mrt_graph.proofs.RowPlaces.{placed, row_at}
use Rattle.mrt_graph.proofs.Waypoints.{at_related, at_top, head_differs, head_there, past_unrelated, settled, way_is, way_there}

-- a node that is its own head is its whole chain
pub stays : (c : Certificate) (k a : ℕ) → head_of c a ≡ Some a → in_chain c k a ≡ Some a
stays c zero a own = refl
stays c (suc k) a own = ap (option_and_then (head_of c)) (stays c k a own) ∙ own

-- the node whose row serves
pub record Way (c : Certificate) (s t : ℕ) : Type 0 where
  pub by : ℕ
  pub is : way_of c s t ≡ Some by
  pub within : by < length c.nodes
  pub near : are_unrelated c s by ≡ false
  pub two : s ≢ by

module _ (nodes : List CertNode) (near : List Row) (u : IsUnfoldable nodes near) where
  abbrev n : ℕ
  n = length nodes

  abbrev c : Certificate
  c = certificate_of nodes [] []

  top_own : head_of c u.top ≡ Some u.top
  top_own = own_head c u.top (not-false (is_own_head c u.top) u.least.fails)

  comes : (t : ℕ) → t < n → in_chain c n t ≡ Some u.top
  comes t within = chain_ends c u.top t (u.chains t within)

  own_is_top : (a : ℕ) → a < n → head_of c a ≡ Some a → a ≡ u.top
  own_is_top a within own = same_Some a u.top (sym (stays c n a own) ∙ comes a within)

  pub way : (s t : ℕ) → s < n → t < n → s ≢ t → Way c s t
  way s t s_within t_within two =
      let w = way_there c s (suc n) t u.nodes_kept s_within t_within in
      elim (way_is c s (suc n) t w.0 two w.1.0) [
        | inl found ↦ record { by = w.0; is = w.1.0; within = w.1.1; near = found.0; two = found.1 }
        | inr home ↦ record {
          by = w.0;
          is = w.1.0;
          within = w.1.1;
          near = under_head c s w.0 home.0;
          two = λ same.
              let own : s ≡ u.top = own_is_top s s_within (home.0 ∙ ap (λ (x : ℕ). Some x) (sym same)) in
              let far = home.1 n u.top (omega arith) (comes t t_within) in
              itself s (subst (λ (x : ℕ). are_unrelated c s x ≡ true) (sym own) far);
        }
      ]
    where
      itself : (x : ℕ) → are_unrelated c x x ≡ true → ⊥
      itself x far = false≢true (sym (ap not far) ∙ related_self c x)

  -- ---- rows of related nodes

  mark_at : (s t : ℕ) → s < n → t < n → s ≢ t → slice_get (related_pairs c) (place_of_row n s t) ≡ Some (not (are_unrelated c s t))
  mark_at s t s_within t_within two = related_at c n s t refl s_within t_within two

  pub near_there : (s t : ℕ) → s < n → t < n → s ≢ t → are_unrelated c s t ≡ false → place_of_near c s t < length near
  near_there s t s_within t_within two is =
      let less = mark_less (related_pairs c) (place_of_row n s t) (mark_at s t s_within t_within two ∙ ap (λ (b : Bool). Some (not b)) is) in
      omega (arith, less, u.a_row_each)

  -- they are not too many for 40 bits of bytes
  pub few_near : length near ≤ 65535 * 65535
  few_near =
      let narrow : n * (n - 1) ≤ 65535 * (n - 1) = mul-le-mul_right (n - 1) u.few_nodes in
      let wide : 65535 * (n - 1) ≤ 65535 * 65535 = omega (arith, u.few_nodes) in
      omega (arith, u.a_row_each, few_set (related_pairs c), pairs_length c, narrow, wide)

  pub near_read : (s t : ℕ) → s < n → t < n → s ≢ t → are_unrelated c s t ≡ false → slice_get near (place_of_near c s t) ≡ Some (near_row_of c near s t)
  near_read s t s_within t_within two is = slice_get-get_or near (place_of_near c s t) no_row (near_there s t s_within t_within two is)

  keeps : (P : Row → Type 0) → AllByRecursion P near → (s t : ℕ) → s < n → t < n → s ≢ t → are_unrelated c s t ≡ false → P (near_row_of c near s t)
  keeps P all s t s_within t_within two is =
      all_at P near (place_of_near c s t) (near_row_of c near s t) all (near_read s t s_within t_within two is)

  -- ---- all rows

  pub row_near : (s t : ℕ) → are_unrelated c s t ≡ false → unfolded_row c near s t ≡ near_row_of c near s t
  row_near s t is = rw is refl

  pub row_far : (s t w : ℕ) → are_unrelated c s t ≡ true → way_of c s t ≡ Some w → unfolded_row c near s t ≡ carried (near_row_of c near s w)
  row_far s t w is by =
      ap (λ (far : Bool). if far then option_map_or (λ x. carried (near_row_of c near s x)) (way_of c s t) no_row else near_row_of c near s t) is
      ∙ ap (λ (o : Option ℕ). option_map_or (λ x. carried (near_row_of c near s x)) o no_row) by

  pub rows_many : length (unfolded_rows nodes near) ≡ n * (n - 1)
  rows_many = all_pairs_length (unfolded_row c near) n

  pub rows_kept : (m : ℕ) → AllByRecursion (IsCertRow m) near → AllByRecursion (IsCertRow m) (unfolded_rows nodes near)
  rows_kept m all = all_pairs (IsCertRow m) (unfolded_row c near) n (λ s t s_within t_within two. elim (cases_Bool (are_unrelated c s t)) [
    | inr is ↦ subst (IsCertRow m) (sym (row_near s t is)) (keeps (IsCertRow m) all s t s_within t_within two is)
    | inl far ↦
        let w = way s t s_within t_within two in
        let it = keeps (IsCertRow m) all s w.by s_within w.within w.two w.near in
        subst (IsCertRow m) (sym (row_far s t w.by far w.is)) (record { blue = it.blue; red = it.red })
  ])

  -- those of related nodes are the near ones
  pub same_near : filter is_near (unfolded_rows nodes near) ≡ near
  same_near = near_are (related_pairs c) (unfolded_rows nodes near) near (rows_many ∙ sym (pairs_length c)) u.a_row_each set unset u.rows_near
    where
      set : (k : ℕ) → slice_get (related_pairs c) k ≡ Some true → slice_get (unfolded_rows nodes near) k ≡ slice_get near (set_marks (take k (related_pairs c)))
      set k is =
          let at = placed n k (omega (arith, slice_get_within (related_pairs c) k true is, pairs_length c)) in
          let mark : not (are_unrelated c at.source at.target) ≡ true =
          same_Some _ true (sym (mark_at at.source at.target at.source_within at.target_within at.two) ∙ ap (slice_get (related_pairs c)) at.place ∙ is) in
          let related = not-true (are_unrelated c at.source at.target) mark in
          sym (ap (slice_get (unfolded_rows nodes near)) at.place) ∙ pair_at (unfolded_row c near) n at.source at.target at.source_within at.target_within at.two
          ∙ ap (λ (row : Row). Some row) (row_near at.source at.target related)
          ∙ sym (near_read at.source at.target at.source_within at.target_within at.two related)
          ∙ ap (λ (j : ℕ). slice_get near (set_marks (take j (related_pairs c)))) at.place

      unset : (k : ℕ) (row : Row) → slice_get (related_pairs c) k ≡ Some false → slice_get (unfolded_rows nodes near) k ≡ Some row → is_near row ≡ false
      unset k row is row_is =
          let at = placed n k (omega (arith, slice_get_within (related_pairs c) k false is, pairs_length c)) in
          let mark : not (are_unrelated c at.source at.target) ≡ false =
          same_Some _ false (sym (mark_at at.source at.target at.source_within at.target_within at.two) ∙ ap (slice_get (related_pairs c)) at.place ∙ is) in
          let far = not-false (are_unrelated c at.source at.target) mark in
          let w = way at.source at.target at.source_within at.target_within at.two in
          let same : row ≡ unfolded_row c near at.source at.target =
          same_Some row _ (sym row_is ∙ sym (ap (slice_get (unfolded_rows nodes near)) at.place) ∙ pair_at (unfolded_row c near) n at.source at.target at.source_within at.target_within at.two) in
          ap is_near (same ∙ row_far at.source at.target w.by far w.is)

  -- where all rows are near, the near ones are all
  pub all_near : length near ≡ n * (n - 1) → unfolded_rows nodes near ≡ near
  all_near all = sym (all_pass is_near (unfolded_rows nodes near) (ap length same_near ∙ all ∙ sym rows_many)) ∙ same_near

  module _ (links : List CertLink) where
    abbrev all : Certificate
    all = certificate_of nodes links (unfolded_rows nodes near)

    pub row_is : (s t : ℕ) → s < n → t < n → s ≢ t → row_of all s t ≡ Some (unfolded_row c near s t)
    row_is s t s_within t_within two = row_at all n s t refl s_within t_within two ∙ pair_at (unfolded_row c near) n s t s_within t_within two

    -- where the row for h has the same way, it has the same links
    same_way : (s h w : ℕ) → way_of c s h ≡ Some w → same_links (carried (near_row_of c near s w)) (unfolded_row c near s h) ≡ true
    same_way s h w is = elim (cases_Bool (are_unrelated c s h)) [
      | inr related ↦
          let one : w ≡ h = same_Some w h (sym is ∙ at_related c s n h related) in
          let row : near_row_of c near s w ≡ unfolded_row c near s h = ap (near_row_of c near s) one ∙ sym (row_near s h related) in
          ap (same_links (carried (near_row_of c near s w))) (sym row) ∙ alike (near_row_of c near s w)
      | inl far ↦ ap (same_links (carried (near_row_of c near s w))) (row_far s h w far is) ∙ alike (near_row_of c near s w)
    ]
      where
        alike : (row : Row) → same_links (carried row) row ≡ true
        alike row = rw (eq-eqb row.blue row.blue refl, eq-eqb row.red row.red refl) refl

    linked : (s t h w : ℕ) → s < n → h < n → s ≢ h → are_unrelated c s t ≡ true → carrier all u.top s t ≡ Some h → way_of c s t ≡ Some w → way_of c s h ≡ Some w
        → option_map_or (same_links (unfolded_row c near s t)) (option_and_then (row_of all s) (carrier all u.top s t)) false ≡ true
    linked s t h w s_within h_within two far by is on =
        ap (λ (o : Option ℕ). option_map_or (same_links (unfolded_row c near s t)) (option_and_then (row_of all s) o) false) by
        ∙ ap (λ (o : Option Row). option_map_or (same_links (unfolded_row c near s t)) o false) (row_is s h s_within h_within two)
        ∙ ap (λ (row : Row). same_links row (unfolded_row c near s h)) (row_far s t w far is) ∙ same_way s h w on

    -- the row for the carrier has the same links
    carries : (s t : ℕ) → s < n → t < n → s ≢ t → are_unrelated c s t ≡ true
        → option_map_or (same_links (unfolded_row c near s t)) (option_and_then (row_of all s) (carrier all u.top s t)) false ≡ true
    carries s t s_within t_within two far = elim (cases_eq t u.top) [
      | inl home ↦
          let h = head_there c s u.nodes_kept s_within in
          let own : head_of c t ≡ Some t = subst (λ (x : ℕ). head_of c x ≡ Some x) (sym home) top_own in
          let by : way_of c s t ≡ Some h.0 = at_top c s (suc n) t far own ∙ h.1.0 in
          let w = way s t s_within t_within two in
          let same : w.by ≡ h.0 = same_Some w.by h.0 (sym w.is ∙ by) in
          linked s t h.0 h.0 s_within h.1.1 (λ e. w.two (e ∙ sym same)) far (carrier_home all u.top s t home ∙ h.1.0) by (at_related c s n h.0 (under_head c s h.0 h.1.0))
      | inr away ↦
          let h = head_there c t u.nodes_kept t_within in
          let w = way s t s_within t_within two in
          linked s t h.0 w.by s_within h.1.1 (head_differs c s t h.0 far h.1.0) far (carrier_far all u.top s t away ∙ h.1.0) w.is (onward s t h.0 far h.1.0 t_within ∙ w.is)
    ]
      where
        onward : (s t h : ℕ) → are_unrelated c s t ≡ true → head_of c t ≡ Some h → t < n → way_of c s h ≡ way_of c s t
        onward s t h far is within =
            let more : suc (n - 1) ≡ n = omega (arith, within) in
            let chain : in_chain c (n - 1) h ≡ Some u.top =
            sym (chain_shift c (n - 1) t ∙ ap (option_and_then (in_chain c (n - 1))) is) ∙ ap (λ (k : ℕ). in_chain c k t) more ∙ comes t within in
            sym (past_unrelated c s n t h far is ∙ settled c s n (n - 1) h u.top (omega (arith, within)) chain top_own)

    row_folded : (s t : ℕ) → s < n → t < n → s ≢ t → is_folded all u.top s t (unfolded_row c near s t) ≡ true
    row_folded s t s_within t_within two = elim (cases_Bool (are_unrelated c s t)) [
      | inl far ↦
          let w = way s t s_within t_within two in
          let tag : same_tag (unfolded_row c near s t).tag Carried ≡ true = ap (λ (row : Row). same_tag row.tag Carried) (row_far s t w.by far w.is) in
          fold_far (are_unrelated c s t) far (same_tag (unfolded_row c near s t).tag Carried) (option_map_or (same_links (unfolded_row c near s t)) (option_and_then (row_of all s) (carrier all u.top s t)) false) (is_near (unfolded_row c near s t)) tag (carries s t s_within t_within two far)
      | inr related ↦
          let row = row_near s t related in
          fold_near (are_unrelated c s t) related (same_tag (unfolded_row c near s t).tag Carried) (option_map_or (same_links (unfolded_row c near s t)) (option_and_then (row_of all s) (carrier all u.top s t)) false) (is_near (unfolded_row c near s t)) (ap is_near row ∙ keeps (λ r. is_near r ≡ true) u.rows_near s t s_within t_within two related)
    ]
      where
        fold_far : (b : Bool) → b ≡ true → (x y z : Bool) → x ≡ true → y ≡ true → (if b then x && y else z) ≡ true
        fold_far b is x y z first second = rw (is, first, second) refl

        fold_near : (b : Bool) → b ≡ false → (x y z : Bool) → z ≡ true → (if b then x && y else z) ≡ true
        fold_near b is x y z holds = rw (is, holds) refl

    pub folds : IsFoldable all
    folds = record {
      top = u.top;
      least = u.least;
      chains = u.chains;
      rows = λ s t s_within t_within. elim (cases_eq s t) [
        | inl same ↦ rw (eq-eqb s t same) refl
        | inr two ↦
            ap (λ (b : Bool). b || option_map_or (is_folded all u.top s t) (row_of all s t) false) (ne_eqb s t two)
            ∙ ap (λ (o : Option Row). option_map_or (is_folded all u.top s t) o false) (row_is s t s_within t_within two)
            ∙ row_folded s t s_within t_within two
      ];
    }

-- so they are a certificate
pub folded_certificate : (nodes : List CertNode) (links : List CertLink) (near : List Row) → IsFolded nodes links near
    → IsCertificate (certificate_of nodes links (unfolded_rows nodes near))
folded_certificate nodes links near f = record {
  some_node = omega (arith, f.unfolds.least.within);
  few_nodes = f.unfolds.few_nodes;
  few_links = f.few_links;
  a_row_each = rows_many nodes near f.unfolds;
  nodes_kept = f.unfolds.nodes_kept;
  links_kept = f.links_kept;
  rows_kept = rows_kept nodes near f.unfolds (length links) f.rows_kept;
}

-- so are the near ones alone, where they are all
pub whole_certificate : (nodes : List CertNode) (links : List CertLink) (near : List Row) → IsFolded nodes links near → length near ≡ length nodes * (length nodes - 1)
    → IsCertificate (certificate_of nodes links near)
whole_certificate nodes links near f all = subst (λ (rows : List Row). IsCertificate (certificate_of nodes links rows)) (all_near nodes near f.unfolds all) (folded_certificate nodes links near f)
