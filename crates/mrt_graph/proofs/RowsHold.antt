-- What the rules on rows make of an accepted certificate's rows.
use Rattle.std.proofs.Common.{◌≡◌, ◌≢◌, ◌⊎◌, ◌∙◌, ◌<◌, ◌==◌, ◌||◌, ℕ, true, false, List, Option, Some, not, length, refl, sym, ap, subst, inl, inr}
use Rattle.std.proofs.lemmas.Bool.{and_parts, eqb-true, eq-eqb, ne_eqb, false_from_ne_true}
use Rattle.std.specs.Option.{option_map_or, option_map, option_and_then, unwrap_or}
use Rattle.mrt_graph.specs.declared.cert.CertFile.{CertFile}
use Rattle.mrt_graph.specs.declared.cert.Color.{Color}
use Rattle.mrt_graph.specs.declared.cert.Color.TheVariants.{Blue, Red}
use Rattle.mrt_graph.specs.declared.cert.Row.{Row}
use Rattle.mrt_graph.specs.declared.cert.Tag.{Tag}
use Rattle.mrt_graph.specs.declared.cert.Tag.TheVariants as tags
use Rattle.mrt_graph.specs.declared.link.Link.{Link}
use Rattle.mrt_graph.specs.Accepted.{Accepted}
use Rattle.mrt_graph.specs.Certificate.{Certificate, row_of}
use Rattle.mrt_graph.specs.CertFields.{head_of, link_block}
use Rattle.mrt_graph.specs.Hop.{hop_over, color_hop}
use Rattle.mrt_graph.specs.Leads.{leads}
use Rattle.mrt_graph.specs.Related.{are_unrelated, carrier, is_common_block}
use Rattle.mrt_graph.specs.steps.RowRules.{row_rule}
use Rattle.mrt_graph.specs.RowRules.{lies_in_block, same_links}
use Rattle.mrt_graph.specs.Rows.{link_of_color}
use Rattle.mrt_graph.specs.Rules.{TagRule, BlockRule}
use Rattle.mrt_graph.specs.Tags.{same_tag}
use Rattle.mrt_graph.specs.Topology.{Topology}
use Rattle.mrt_graph.proofs.Blocks.{Words, Common, Peers, ToHead, FromHead, Related, InOne, Under, Over}
use Rattle.mrt_graph.proofs.Bridge.{color_leads}
use Rattle.mrt_graph.proofs.ListTests.{Passing, some_passes}
use Rattle.mrt_graph.proofs.RowsByTag.{passes}
use Rattle.mrt_graph.proofs.RowFacts.{Says, NearRow, SameHops, Rows}
use Rattle.mrt_graph.proofs.RowTests.{hop_to, told}
use Rattle.mrt_graph.proofs.TestFacts.{unless, tag_is, tag_itself, found_by, unrelated_apart, common_block}
use Rattle.mrt_graph.proofs.WordsOf.{words_of}

-- the hop of a color, by the row
hop_is : (links : List Link) (c : Certificate) (color : Color) (t s : ℕ) (row : Row) (v : ℕ) → row_of c s t ≡ Some row
    → leads links (link_of_color color row) s ≡ Some v
    → color_hop links (row_of c) color t s ≡ Some (hop_to (link_of_color color row) v)
hop_is links c color t s row v there leads_on =
    ap (option_and_then (λ row. hop_over links s (link_of_color color row))) there
    ∙ ap (option_map (hop_to (link_of_color color row))) leads_on

hops_same : (links : List Link) (c : Certificate) (color : Color) (s t u : ℕ) (row other : Row)
    → row_of c s t ≡ Some row → row_of c s u ≡ Some other
    → link_of_color color row ≡ link_of_color color other
    → color_hop links (row_of c) color t s ≡ color_hop links (row_of c) color u s
hops_same links c color s t u row other there other_there same =
    ap (option_and_then (λ row. hop_over links s (link_of_color color row))) there ∙ ap (hop_over links s) same
    ∙ sym (ap (option_and_then (λ row. hop_over links s (link_of_color color row))) other_there)

common_related : (w : Words) (s t k : ℕ) → Common w s t k → Related w s t
common_related w s t k (Peers one is) = InOne one
common_related w s t k (ToHead up is) = Under up
common_related w s t k (FromHead down is) = Over down

carried_or_not : (T : Tag) → (T ≡ tags.Carried) ⊎ (T ≢ tags.Carried)
carried_or_not tags.Carried = inl refl
carried_or_not _ = inr (λ same. cc)

-- the carrier
carrier_other : (c : Certificate) (root s t : ℕ) → t ≢ root → carrier c root s t ≡ head_of c t
carrier_other c root s t other = rw (ne_eqb t root other) refl

carrier_root : (c : Certificate) (root s : ℕ) → carrier c root s root ≡ head_of c s
carrier_root c root s = rw (eq-eqb root root refl) refl

module _ (g : Topology) (root : ℕ) (file : CertFile) (accepted : Accepted g root file) where
  abbrev w : Words
  w = words_of g.links root file.cert

  module _ (s t : ℕ) (s_within : s < length file.cert.nodes) (t_within : t < length file.cert.nodes) (differ : s ≢ t)
    where
      -- the row of s for t, and what the fourteenth rule asks of it
      pub in_block_there : Passing
          (λ (row : Row). same_tag row.tag tags.Carried || lies_in_block file.cert s t row)
          (row_of file.cert s t)
      in_block_there = some_passes _ (row_of file.cert s t)
          (unless (s == t) _ (accepted BlockRule s t s_within t_within) (ne_eqb s t differ))

      abbrev pub row : Row
      row = in_block_there.value

      pub there : row_of file.cert s t ≡ Some row
      there = in_block_there.is

      -- the row keeps what its tag asks
      pub row_keeps : row_rule row.tag g.links file.cert root s t row ≡ true
      row_keeps =
          let asked = unless (s == t) _ (passes g.links file.cert root row.tag s t (accepted (TagRule row.tag) s t s_within t_within)) (ne_eqb s t differ) in
          let holds =
          subst (λ (o : Option Row). option_map_or
          (λ (r : Row). not (same_tag r.tag row.tag) || row_rule row.tag g.links file.cert root s t r) o false ≡ true)
          there asked in
          unless (not (same_tag row.tag row.tag)) _ holds (ap not (tag_itself row.tag))

      tag_known : w.tag s t ≡ row.tag
      tag_known = ap (λ (o : Option Row). option_map_or (λ r. r.tag) o tags.Carried) there

      -- unless it is Carried, its links lie in the common block
      in_block : row.tag ≢ tags.Carried → lies_in_block file.cert s t row ≡ true
      in_block near = unless (same_tag row.tag tags.Carried) _ in_block_there.passes
          (false_from_ne_true (same_tag row.tag tags.Carried) (λ same. near (tag_is row.tag tags.Carried same)))

      blue_in_block : row.tag ≢ tags.Carried → Common w s t (w.part row.blue)
      blue_in_block near =
          let both = and_parts (is_common_block file.cert s t (link_block file.cert row.blue)) _ (in_block near) in
          common_block g.links root file.cert s t (link_block file.cert row.blue) both.0

      red_in_block : row.tag ≢ tags.Carried → Common w s t (w.part row.red)
      red_in_block near =
          let both = and_parts (is_common_block file.cert s t (link_block file.cert row.blue)) _ (in_block near) in
          common_block g.links root file.cert s t (link_block file.cert row.red) both.1

      -- the row of related nodes is not Carried
      not_carried : Related w s t → row.tag ≢ tags.Carried
      not_carried are = λ carried.
          let holds = subst (λ T. row_rule T g.links file.cert root s t row ≡ true) carried row_keeps in
          let far = and_parts (are_unrelated file.cert s t) _ holds in
          unrelated_apart g.links root file.cert s t far.0 are

      near_row : Related w s t → NearRow w s t
      near_row are =
          let near = not_carried are in
          let says = told g.links root file.cert s t row row.tag near row_keeps in
          record {
            blue = hop_to row.blue says.blue_to;
            red = hop_to row.red says.red_to;
            blue_is = hop_is g.links file.cert Blue t s row says.blue_to there says.blue_leads;
            red_is = hop_is g.links file.cert Red t s row says.red_to there says.red_leads;
            blue_block = blue_in_block near;
            red_block = red_in_block near;
            says = subst (λ T. Says w T s t (hop_to row.blue says.blue_to) (hop_to row.red says.red_to)) (sym tag_known)
                says.says;
          }

      -- the row of nodes that are not related is Carried
      pub carried : (Related w s t → ⊥) → row.tag ≡ tags.Carried
      carried far = elim (carried_or_not row.tag) [
        | inl is ↦ is
        | inr near ↦ absurd (far (common_related w s t (w.part row.blue) (blue_in_block near)))
      ]

      -- it has the links of the row for the carrier
      far_row : (Related w s t → ⊥) → (by : Option ℕ) → carrier file.cert root s t ≡ by
          → SameHops w s t (unwrap_or by 0)
      far_row far by is =
          let holds = subst (λ T. row_rule T g.links file.cert root s t row ≡ true) (carried far) row_keeps in
          let links = and_parts (are_unrelated file.cert s t) _ holds in
          let other =
          some_passes (same_links row) (option_and_then (row_of file.cert s) (carrier file.cert root s t)) links.1 in
          let other_there =
          found_by (row_of file.cert s) by other.value (sym (ap (option_and_then (row_of file.cert s)) is)
          ∙ other.is) in
          let both = and_parts (row.blue == other.value.blue) _ other.passes in
          record {
            blue = hops_same g.links file.cert Blue s t (unwrap_or by 0) row other.value there other_there
                (eqb-true _ _ both.0);
            red = hops_same g.links file.cert Red s t (unwrap_or by 0) row other.value there other_there
                (eqb-true _ _ both.1);
          }

  -- the rules on rows
  pub rows_hold : root < length file.cert.nodes → Rows w
  rows_hold root_within = record {
    blue_leads = λ t. color_leads g.links (row_of file.cert) Blue t;
    red_leads = λ t. color_leads g.links (row_of file.cert) Red t;
    near = λ s t s_within t_within differ are. near_row s t s_within t_within differ are;
    far = λ s t s_within t_within differ other far.
        far_row s t s_within t_within differ far (head_of file.cert t) (carrier_other file.cert root s t other);
    far_root = λ s s_within other far.
        far_row s root s_within root_within other far (head_of file.cert s) (carrier_root file.cert root s);
  }
