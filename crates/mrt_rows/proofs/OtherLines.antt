-- Rows of blocks with one link, carried rows, and the blocks that the links of rows lie in.
use Rattle.std.proofs.Common.{◌≡◌, ◌≢◌, ◌∙◌, ◌<◌, ℕ, true, false, List, [], ◌∷◌, Option, Some, None, length, refl, sym, ap, subst, inl, inr}
use Rattle.std.proofs.lemmas.Bool.{and_from, eq-eqb, or_left, or_right}
use Rattle.std.proofs.lemmas.Bool.Decides.{eqb_tells}
use Rattle.std.specs.Option.{option_and_then, option_map_or}
use Rattle.mrt_graph.specs.declared.cert.CertFile.{CertFile}
use Rattle.mrt_graph.specs.declared.cert.Role.TheVariants as roles
use Rattle.mrt_graph.specs.declared.cert.Row.{Row}
use Rattle.mrt_graph.specs.declared.cert.Tag.{Tag}
use Rattle.mrt_graph.specs.declared.cert.Tag.TheVariants as tags
use Rattle.mrt_graph.specs.declared.link.End.{End}
use Rattle.mrt_graph.specs.Certificate.{Certificate, row_of}
use Rattle.mrt_graph.specs.CertFields.{link_block}
use Rattle.mrt_graph.specs.Leads.{leads}
use Rattle.mrt_graph.specs.Related.{are_unrelated, carrier, is_common_block}
use Rattle.mrt_graph.specs.steps.RowRules.{carried_row}
use Rattle.mrt_graph.specs.RowRules.{lies_in_block, same_links}
use Rattle.mrt_graph.proofs.Hops.{lead_back}
use Rattle.link_direction.specs.CommonBlock.{FromHead, HaveCommonBlock, Peers, ToHead}
use Rattle.link_direction.specs.OrderedGadag.{HasSoleLink}
use Rattle.block_spf.specs.declared.reach.Dir.{Dir}
use Rattle.block_spf.specs.declared.reach.Dir.TheVariants.{Down, Up}
use Rattle.block_spf.specs.declared.reach.Hop.{Hop}
use Rattle.block_spf.specs.LeastPath.{BeginsPath, IsHop, Reached}
use Rattle.block_spf.specs.Path.{IsStep, Path}
use Rattle.mrt_rows.specs.CertOf.{Tells}
use Rattle.mrt_rows.specs.steps.NearOf.{InCommon, IsNearRow}
use Rattle.mrt_rows.specs.RowLines.{AreMembers, BeginsOver, CarriedLine, HasOneLink, LineOf, SoleLine}
use Rattle.mrt_rows.proofs.CertSays.{block_is, different_test, equal_test, head_is, link_block_is, sole_test}
use Rattle.mrt_rows.proofs.LinesHold.{Passes, begins_home, has_head, with_head}
use Rattle.mrt_rows.proofs.OrderedGraphs.{OrderedGraph, Within, step_leads, within}
use Rattle.mrt_rows.proofs.Sharing.{none_of_peers}
use Rattle.mrt_rows.proofs.Ways.{begun, inside_itself}
use Rattle.mrt_rows.proofs.WaysBegun.{members, over_leads, way_over}
use Rattle.mrt_rows.proofs.Carriers.{carrier_by, links_carried}

-- a block with one link, which is sole
pub sole_of : (og : OrderedGraph) (m link : ℕ) → m < length og.g.ids → m ≢ og.root
    → HasOneLink og.g og.w (og.w.block m) link → HasSoleLink og.g og.w m
sole_of og m link inside other one = elim (og.ordered.blocks m inside other) [
  | inl sole ↦ sole
  | inr closed ↦
      absurd (closed.another_link (one.no_other closed.another closed.another_within closed.another_in_block
      ∙ sym (one.no_other closed.link
      (within og.g closed.link closed.greatest (og.w.head m) og.kept closed.over.leads_on).link closed.over.in_block)))
]

-- it leads from the one node to its head
pub sole_leads : (og : OrderedGraph) (m : ℕ) → m < length og.g.ids → (it : HasSoleLink og.g og.w m)
    → leads og.g.links it.link m ≡ Some (og.w.head m)
sole_leads og m inside it =
    let away = og.ordered.links.directed it.link it.within in
    let common = og.ordered.links.common it.link (og.w.tail it.link) away.0 away.1 in
    go away.0 away.1 common.0 common.1 (within og.g it.link (og.w.tail it.link) away.0 og.kept away.1)
  where
    at_head : (u v : ℕ) → u ≡ m → og.w.head u ≡ v → leads og.g.links it.link u ≡ Some v → leads og.g.links it.link m ≡ Some (og.w.head m)
    at_head u v same head onward = rw (← same, head) onward

    go : (v : ℕ) → leads og.g.links it.link (og.w.tail it.link) ≡ Some v → (i : ℕ)
        → HaveCommonBlock og.w (og.w.tail it.link) v (og.w.lies_in it.link) i → Within og.g it.link (og.w.tail it.link) v
        → leads og.g.links it.link m ≡ Some (og.w.head m)
    go v onward i (Peers a b c) are =
        absurd (are.differ (it.no_other_node (og.w.tail it.link) are.from (a ∙ it.in_block) ∙ sym (it.no_other_node v are.to (b ∙ it.in_block))))
    go v onward i (ToHead a b c) are = at_head (og.w.tail it.link) v (it.no_other_node (og.w.tail it.link) are.from (a ∙ it.in_block)) b onward
    go v onward i (FromHead a b c) are =
        at_head v (og.w.tail it.link) (it.no_other_node v are.to (a ∙ it.in_block)) b (lead_back og.g.links it.link (og.w.tail it.link) v onward)

-- the one link of the common block of s and t: it leads from s to t, and is sole
pub record OneLinkBetween (og : OrderedGraph) (s t link : ℕ) : Type 0 where
  pub leads_on : leads og.g.links link s ≡ Some t
  pub sole : og.w.role link ≡ roles.Sole

pub one_link_between : (og : OrderedGraph) (s t k h link : ℕ) → s < length og.g.ids → t < length og.g.ids → s ≢ t
    → HaveCommonBlock og.w s t k h → HasOneLink og.g og.w k link → OneLinkBetween og s t link
one_link_between og s t k h link s_within t_within two common one = go common
  where
    by_member : (m : ℕ) → m < length og.g.ids → m ≢ og.root → og.w.block m ≡ k → OneLinkBetween og m (og.w.head m) link
    by_member m inside other in_block =
        let it = sole_of og m link inside other (subst (λ (x : ℕ). HasOneLink og.g og.w x link) (sym in_block) one) in
        let over = it.no_other_link link one.within (one.in_block ∙ sym in_block) in
        record {
          leads_on = subst (λ (e : ℕ). leads og.g.links e m ≡ Some (og.w.head m)) (sym over) (sole_leads og m inside it);
          sole = ap og.w.role over ∙ it.sole;
        }

    go : HaveCommonBlock og.w s t k h → OneLinkBetween og s t link
    go (Peers a b c) = absurd (none_of_peers og s t s_within t_within two (a ∙ sym b) k h link common one)
    go (ToHead a b c) = subst (λ (x : ℕ). OneLinkBetween og s x link) b (by_member s s_within (has_head og s t two b) a)
    go (FromHead a b c) =
        let it = by_member t t_within (has_head og t s (λ same. two (sym same)) b) a in
        record { leads_on = lead_back og.g.links link t s (it.leads_on ∙ ap (λ (x : ℕ). Some x) b); sole = it.sole }

-- a link that lies in the common block of s and t
pub record LiesInCommon (og : OrderedGraph) (s t link : ℕ) : Type 0 where
  pub block : ℕ
  pub head : ℕ
  pub common : HaveCommonBlock og.w s t block head
  pub within : link < length og.g.links
  pub in_block : og.w.lies_in link ≡ block

first_step : (og : OrderedGraph) (dir : Dir) (k h s : ℕ) (end : End) (others : List End) (t : ℕ)
    → Path og.g og.w dir k h s (end ∷ others) t → IsStep og.g og.w dir k s end
first_step og dir k h s end [] t path = path.0
first_step og dir k h s end (next ∷ more) t path = path.0

pub begins_in : (og : OrderedGraph) (dir : Dir) (s t link : ℕ) → BeginsOver og.g og.w dir s t link
    → LiesInCommon og s t link
begins_in og dir s t link begins = go begins.hop begins.over begins.reached
  where
    go : (hop : Hop) → link ≡ hop.link → IsHop og.g og.w dir s t (Some hop) → LiesInCommon og s t link
    go hop over (Reached k h hop' shares least) =
        let first : BeginsPath og.g og.w dir k h s t hop.cost least.end = least.first.asked in
        let step = first_step og dir k h s least.end first.others t first.is_path in
        let same = over ∙ least.over in
        let onward =
        subst (λ (e : ℕ). leads og.g.links e s ≡ Some least.end.to) (sym same) (step_leads og dir k s least.end step) in
        record {
          block = k;
          head = h;
          common = shares.common;
          within = (within og.g link s least.end.to og.kept onward).link;
          in_block = ap og.w.lies_in same ∙ step.in_block;
        }

-- the way of a member to the head lies in the block that it shares with another member
pub home_in : (og : OrderedGraph) (dir : Dir) (s t k h link : ℕ) → s < length og.g.ids → t < length og.g.ids
    → AreMembers og.g og.w s t k h → BeginsOver og.g og.w dir s h link → LiesInCommon og s t link
home_in og dir s t k h link s_within t_within are begins =
    let it = members og s t k h s_within t_within are in
    let way =
    way_over og s dir s (og.w.head s) link (with_head og s s it.ring (inside_itself og s it.ring))
    (begins_home og dir s t k h link s_within t_within are begins) in
    let step = (begun og s dir s way.end way.others (og.w.head s) way.is).step in
    record {
      block = k;
      head = h;
      common = are.share.common;
      within = (within og.g link s way.end.to og.kept (over_leads og s dir s (og.w.head s) link way)).link;
      in_block = ap og.w.lies_in way.over ∙ step.in_block ∙ sym it.block;
    }

-- both links of a near row lie there
module _ (og : OrderedGraph) (s t : ℕ) (s_within : s < length og.g.ids) (t_within : t < length og.g.ids) (row : Row) where
  links_in : (k h : ℕ) → HaveCommonBlock og.w s t k h → (T : Tag) → LineOf T og.g og.root og.w s (λ u. None) t row
      → LiesInCommon og s t row.blue × LiesInCommon og s t row.red
  links_in k h common tags.Carried line = absurd (line.apart k h common)
  links_in k h common tags.Sole line =
      let it : LiesInCommon og s t row.blue = record {
        block = line.block;
        head = line.head;
        common = line.common;
        within = line.one_link.within;
        in_block = line.one_link.in_block;
      } in
      (it, subst (λ (e : ℕ). LiesInCommon og s t e) (sym line.red) it)
  links_in k h common tags.Below line =
      (begins_in og Up s t row.blue line.blue, home_in og Down s t line.block line.head row.red s_within t_within line.members line.red)
  links_in k h common tags.Above line =
      (home_in og Up s t line.block line.head row.blue s_within t_within line.members line.blue, begins_in og Down s t row.red line.red)
  links_in k h common tags.Unordered line = (
    home_in og Down s t line.block line.head row.blue s_within t_within line.members line.blue,
    home_in og Up s t line.block line.head row.red s_within t_within line.members line.red,
  )
  links_in k h common T line = (begins_in og Up s t row.blue line.blue, begins_in og Down s t row.red line.red)

  pub near_links : IsNearRow og.g og.root og.w s t (Some row) → LiesInCommon og s t row.blue × LiesInCommon og s t row.red
  near_links (InCommon row' k h common own) = links_in k h common row.tag (own.line (λ u. None))

module _ (og : OrderedGraph) (file : CertFile) (tells : Tells og.g og.root og.w file) where
  abbrev n : ℕ
  n = length og.g.ids

  abbrev c : Certificate
  c = file.cert

  module _ (s t : ℕ) (s_within : s < n) (t_within : t < n) (two : s ≢ t) where
    -- the common block
    pub common_test : (k h : ℕ) (o : Option ℕ) → HaveCommonBlock og.w s t k h → o ≡ Some k → is_common_block c s t o ≡ true
    common_test k h o (Peers a b d) is =
        or_left _ _ (and_from _ _ (equal_test (block_is og file tells s s_within) (block_is og file tells t t_within) (a ∙ sym b))
        (equal_test is (block_is og file tells s s_within) (sym a)))
    common_test k h o (ToHead a b d) is =
        or_right _ _ (or_left _ _ (and_from _ _ (equal_test (head_is og file tells s s_within) refl b)
        (equal_test is (block_is og file tells s s_within) (sym a))))
    common_test k h o (FromHead a b d) is =
        or_right _ _ (or_right _ _ (and_from _ _ (equal_test (head_is og file tells t t_within) refl b)
        (equal_test is (block_is og file tells t t_within) (sym a))))

  module _ (s t : ℕ) (s_within : s < n) (t_within : t < n) (two : s ≢ t) (row : Row) where
    -- Sole
    pub sole_passes : SoleLine og.g og.w s t row → Passes og file tags.Sole s t row
    sole_passes line =
        let it = one_link_between og s t line.block line.head row.blue s_within t_within two line.common
        line.one_link in
        record {
          blue_to = t;
          red_to = t;
          blue_leads = it.leads_on;
          red_leads = subst (λ (e : ℕ). leads og.g.links e s ≡ Some t) (sym line.red) it.leads_on;
          holds = and_from _ _ (eq-eqb row.blue row.red (sym line.red)) (and_from _ _
              (sole_test og file tells row.blue line.one_link.within it.sole) (eq-eqb t t refl));
        }

    -- Carried
    unrelated : ((k h : ℕ) → ¬ HaveCommonBlock og.w s t k h) → are_unrelated c s t ≡ true
    unrelated apart =
        and_from _ _ (different_test (block_is og file tells s s_within) (block_is og file tells t t_within)
        (λ same. apart (og.w.block s) (og.w.head s) (Peers refl (sym same) refl)))
        (and_from _ _ (different_test (head_is og file tells s s_within) refl (λ head. apart (og.w.block s) t (ToHead refl head refl)))
        (different_test (head_is og file tells t t_within) refl (λ head. apart (og.w.block t) s (FromHead refl head refl))))

    pub carried_passes : CarriedLine og.root og.w s (row_of c s) t row → carried_row c og.root s t row ≡ true
    carried_passes line =
        let has = links_carried og.root og.w s (row_of c s) t row line in
        let links : option_map_or (same_links row) (option_and_then (row_of c s) (carrier c og.root s t)) false ≡ true =
        rw (carrier_is, has.is) (and_from _ _ (eq-eqb row.blue has.other.blue has.blue) (eq-eqb row.red has.other.red has.red)) in
        and_from _ _ (unrelated line.apart) links
      where
        carrier_is : carrier c og.root s t ≡ Some (carrier_by og.w og.root s t)
        carrier_is = elim (eqb_tells t og.root) [
          | inl same ↦ rw same.0 (head_is og file tells s s_within)
          | inr other ↦ rw other.0 (head_is og file tells t t_within)
        ]

    -- the blocks of both links
    link_in : (link : ℕ) → LiesInCommon og s t link → is_common_block c s t (link_block c link) ≡ true
    link_in link it =
        common_test s t s_within t_within two it.block it.head (link_block c link) it.common
        (link_block_is og file tells link it.within ∙ ap (λ (x : ℕ). Some x) it.in_block)

    pub near_in_block : IsNearRow og.g og.root og.w s t (Some row) → lies_in_block c s t row ≡ true
    near_in_block near = let it = near_links og s t s_within t_within row near in and_from _ _ (link_in row.blue it.0) (link_in row.red it.1)
