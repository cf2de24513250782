-- The fourteenth rule follows from the first, the third and the fourth, and from those on tags.
use Rattle.std.proofs.Common.{◌≡◌, ◌≢◌, ◌==◌, ◌&&◌, ◌||◌, ◌<◌, ℕ, true, false, not, Option, Some, None, length, inl, inr, refl, sym, ap, subst}
use Rattle.std.proofs.lemmas.Bool.{and_from, and_parts, cases_Bool, or_cases, or_left, or_right, eqb-true, ltb-true, ne_eqb, not-true, eqb-false, false≢true}
use Rattle.std.specs.Option.{option_map_or}
use Rattle.std.specs.Prelude.{nat_lt}
use Rattle.mrt_graph.specs.declared.cert.Row.{Row}
use Rattle.mrt_graph.specs.declared.cert.Tag.{Tag}
use Rattle.mrt_graph.specs.declared.cert.Tag.TheVariants.{Sole, Head, Top, Below, Above, Unordered, Carried}
use Rattle.mrt_graph.specs.BothThere.{are_equal, both, is_less}
use Rattle.mrt_graph.specs.Certificate.{Certificate, are_two, row_of}
use Rattle.mrt_graph.specs.CertFields.{order_of, head_of, block_of, has_role, link_block, tagged}
use Rattle.mrt_graph.specs.HeadsAndBlocks.{HeadsHold, link_placed}
use Rattle.mrt_graph.specs.Leads.{leads}
use Rattle.mrt_graph.specs.Places.{Each, EachPair}
use Rattle.mrt_graph.specs.Related.{is_common_block}
use Rattle.mrt_graph.specs.Roles.{is_plain, is_sole, is_closing}
use Rattle.mrt_graph.specs.steps.RowRules.{above_row, below_row, head_row, near_row, row_rule, rows_tagged, sole_row, top_row, unordered_row}
use Rattle.mrt_graph.specs.RowRules.{closing_to_head, higher_beside, higher_tagged, lies_in_block, lower_beside, lower_tagged, plain_to_head, rows_in_block}
use Rattle.mrt_graph.specs.SameGraph.{SameGraph}
use Rattle.mrt_graph.specs.Tags.{same_tag}
use Rattle.mrt_graph.specs.Topology.{Topology}
use Rattle.mrt_graph.proofs.ListTests.{some_passes}
use Rattle.mrt_graph.proofs.TestFacts.{both_pass, tag_is, tag_itself, unless}
use Rattle.cert_checker.proofs.CommonBlocks.{Same, Common, Peers, ToHead, FromHead, beside, common_test, from_head, home, joined, same_of, ties, turned}

-- the rules that the fourteenth follows from
pub record RulesBefore (g : Topology) (root : ℕ) (c : Certificate) : Type 0 where
  pub same_graph : SameGraph g c
  pub heads : HeadsHold c root
  pub links : Each (link_placed c) (length c.links)
  pub rows : (tag : Tag) → EachPair (rows_tagged tag g.links c root) (length c.nodes)

-- a row with one of these tags is one of two nodes of one block
data PeerTag : Tag → Type 0 where
  OfBelow : PeerTag Below
  OfAbove : PeerTag Above
  OfUnordered : PeerTag Unordered

record AreTwo (n s t : ℕ) : Type 0 where
  source : s < n
  target : t < n
  differ : s ≢ t

row_of_two : (c : Certificate) (s t : ℕ) (row : Row) → row_of c s t ≡ Some row → AreTwo (length c.nodes) s t
row_of_two c s t row is = elim (cases_Bool (are_two (length c.nodes) s t)) [
  | inl two ↦
      let source = and_parts (nat_lt s (length c.nodes)) _ two in
      let target = and_parts (nat_lt t (length c.nodes)) _ source.1 in
      record {
        source = ltb-true s (length c.nodes) source.0;
        target = ltb-true t (length c.nodes) target.0;
        differ = eqb-false s t (not-true (s == t) target.1);
      }
  | inr fails ↦ let none : ◌≡◌ {A = Option Row} None (Some row) = rw fails at is in absurd (cc)
]

module _ (g : Topology) (root : ℕ) (c : Certificate) (rules : RulesBefore g root c) where
  -- link e lies in the common block of s and t
  abbrev LiesIn : ℕ → ℕ → ℕ → Type 0
  LiesIn e s t = is_common_block c s t (link_block c e) ≡ true

  row_keeps : (s t : ℕ) (row : Row) → row_of c s t ≡ Some row → row_rule row.tag g.links c root s t row ≡ true
  row_keeps s t row is =
      let two = row_of_two c s t row is in
      let asked = unless (s == t) _ (rules.rows row.tag s t two.source two.target) (ne_eqb s t two.differ) in
      let holds =
      subst (λ (o : Option Row). option_map_or
      (λ (r : Row). not (same_tag r.tag row.tag) || row_rule row.tag g.links c root s t r) o false ≡ true)
      is asked in
      unless (not (same_tag row.tag row.tag)) _ holds (ap not (tag_itself row.tag))

  -- what a row with such a tag keeps begins with that
  in_one : (T : Tag) → PeerTag T → (s t : ℕ) (row : Row) → row_rule T g.links c root s t row ≡ true
      → Same (block_of c s) (block_of c t)
  in_one Below OfBelow s t row keeps =
      let p = both_pass (near_row Below c s t row) (leads g.links row.blue s) (leads g.links row.red s) keeps in
      same_of _ _ (and_parts (are_equal (block_of c s) (block_of c t)) _ p.passes).0
  in_one Above OfAbove s t row keeps =
      let p = both_pass (near_row Above c s t row) (leads g.links row.blue s) (leads g.links row.red s) keeps in
      same_of _ _ (and_parts (are_equal (block_of c s) (block_of c t)) _ p.passes).0
  in_one Unordered OfUnordered s t row keeps =
      let p = both_pass (near_row Unordered c s t row) (leads g.links row.blue s) (leads g.links row.red s) keeps in
      same_of _ _ (and_parts (are_equal (block_of c s) (block_of c t)) _ p.passes).0
  in_one Sole peer s t row keeps = elim peer [ ]
  in_one Head peer s t row keeps = elim peer [ ]
  in_one Top peer s t row keeps = elim peer [ ]
  in_one Carried peer s t row keeps = elim peer [ ]

  peers : (T : Tag) → PeerTag T → (v t : ℕ) → tagged c v t T ≡ true → Same (block_of c v) (block_of c t)
  peers T peer v t holds =
      let p = some_passes (λ row. same_tag row.tag T) (row_of c v t) holds in
      in_one T peer v t p.value
      (subst (λ U. row_rule U g.links c root v t p.value ≡ true) (tag_is p.value.tag T p.passes)
      (row_keeps v t p.value p.is))

  module _ (s t e v : ℕ) (to : leads g.links e s ≡ Some v) where
    -- a link from s to t
    to_target : (v == t) ≡ true → LiesIn e s t
    to_target there =
        common_test c s t (link_block c e)
        (subst (λ (x : ℕ). Common c s x (link_block c e)) (eqb-true v t there)
        (ties c root rules.heads g rules.same_graph rules.links e s v to))

    -- to a node whose row for t has such a tag, where s and t have one block, or t has the head s
    to_peer : (T : Tag) → PeerTag T → Same (block_of c s) (block_of c t) → tagged c v t T ≡ true → LiesIn e s t
    to_peer T peer one holds =
        let same = joined _ _ _ (peers T peer v t holds) (turned _ _ one) in
        common_test c s t (link_block c e)
        (Peers one (beside c root rules.heads g rules.same_graph rules.links e s v to same))

    to_peer_of_target : (T : Tag) → PeerTag T → Same (head_of c t) (Some s) → tagged c v t T ≡ true → LiesIn e s t
    to_peer_of_target T peer head holds =
        common_test c s t (link_block c e)
        (FromHead head
        (from_head c root rules.heads g rules.same_graph rules.links e s v t to head (peers T peer v t holds)))

    -- to the head of s, where s and t have one block
    to_head : Same (block_of c s) (block_of c t) → are_equal (head_of c s) (Some v) ≡ true → LiesIn e s t
    to_head one head =
        common_test c s t (link_block c e)
        (Peers one (home c root rules.heads g rules.same_graph rules.links e s v to (same_of _ _ head)))

    -- to a node of the block of s, where t is the head of s
    to_member : Same (head_of c s) (Some t) → are_equal (block_of c v) (block_of c s) ≡ true → LiesIn e s t
    to_member head one =
        common_test c s t (link_block c e)
        (ToHead head (beside c root rules.heads g rules.same_graph rules.links e s v to (same_of _ _ one)))

    higher_lies : (T : Tag) → PeerTag T → Same (block_of c s) (block_of c t) → higher_tagged c s t T v ≡ true
        → LiesIn e s t
    higher_lies T peer one holds =
        to_peer T peer one (and_parts (is_less (order_of c s) (order_of c v)) _ holds).1

    lower_lies : (T : Tag) → PeerTag T → Same (block_of c s) (block_of c t) → lower_tagged c s t T v ≡ true
        → LiesIn e s t
    lower_lies T peer one holds =
        to_peer T peer one (and_parts (is_less (order_of c v) (order_of c s)) _ holds).1

    plain_lies : Same (block_of c s) (block_of c t) → plain_to_head c e s v ≡ true → LiesIn e s t
    plain_lies one holds = to_head one (and_parts (has_role is_plain c e) _ holds).1

    closing_lies : Same (block_of c s) (block_of c t) → closing_to_head c e s v ≡ true → LiesIn e s t
    closing_lies one holds = to_head one (and_parts (has_role is_closing c e) _ holds).1

  module _ (s t : ℕ) (row : Row) (blue red : ℕ) (to_blue : leads g.links row.blue s ≡ Some blue)
      (to_red : leads g.links row.red s ≡ Some red) where
    both_lie : LiesIn row.blue s t → LiesIn row.red s t → lies_in_block c s t row ≡ true
    both_lie first second = and_from (is_common_block c s t (link_block c row.blue)) _ first second

    sole_lies : sole_row c t row blue ≡ true → lies_in_block c s t row ≡ true
    sole_lies holds =
        let one = and_parts (row.blue == row.red) _ holds in
        let sole = and_parts (has_role is_sole c row.blue) _ one.1 in
        let lies = to_target s t row.blue blue to_blue sole.1 in
        both_lie lies (subst (λ (e : ℕ). LiesIn e s t) (eqb-true _ _ one.0) lies)

    head_lies : head_row c s t row blue red ≡ true → lies_in_block c s t row ≡ true
    head_lies holds =
        let head = and_parts (are_equal (head_of c s) (Some t)) _ holds in
        let up = same_of _ _ head.0 in
        let sides = and_parts (higher_beside c s blue || (has_role is_closing c row.blue && (blue == t))) _ head.1 in
        both_lie
        (elim (or_cases (higher_beside c s blue) _ sides.0) [
          | inl on ↦ to_member s t row.blue blue to_blue up
              (and_parts (are_equal (block_of c blue) (block_of c s)) _ on).0
          | inr end ↦ to_target s t row.blue blue to_blue (and_parts (has_role is_closing c row.blue) _ end).1
        ])
        (elim (or_cases (lower_beside c s red) _ sides.1) [
          | inl on ↦ to_member s t row.red red to_red up
              (and_parts (are_equal (block_of c red) (block_of c s)) _ on).0
          | inr end ↦ to_target s t row.red red to_red (and_parts (has_role is_plain c row.red) _ end).1
        ])

    top_lies : top_row c s t row blue red ≡ true → lies_in_block c s t row ≡ true
    top_lies holds =
        let head = and_parts (are_equal (head_of c t) (Some s)) _ holds in
        let down = same_of _ _ head.0 in
        let sides = and_parts (has_role is_plain c row.blue && ((blue == t) || tagged c blue t Below)) _ head.1 in
        let plain = and_parts (has_role is_plain c row.blue) _ sides.0 in
        let closing = and_parts (has_role is_closing c row.red) _ sides.1 in
        both_lie
        (elim (or_cases (blue == t) _ plain.1) [
          | inl end ↦ to_target s t row.blue blue to_blue end
          | inr on ↦ to_peer_of_target s t row.blue blue to_blue Below OfBelow down on
        ])
        (elim (or_cases (red == t) _ closing.1) [
          | inl end ↦ to_target s t row.red red to_red end
          | inr on ↦ to_peer_of_target s t row.red red to_red Above OfAbove down on
        ])

    below_lies : below_row c s t row blue red ≡ true → lies_in_block c s t row ≡ true
    below_lies holds =
        let block = and_parts (are_equal (block_of c s) (block_of c t)) _ holds in
        let one = same_of _ _ block.0 in
        let order = and_parts (is_less (order_of c s) (order_of c t)) _ block.1 in
        let sides = and_parts ((blue == t) || higher_tagged c s t Below blue) _ order.1 in
        both_lie
        (elim (or_cases (blue == t) _ sides.0) [
          | inl end ↦ to_target s t row.blue blue to_blue end
          | inr on ↦ higher_lies s t row.blue blue to_blue Below OfBelow one on
        ])
        (elim (or_cases (lower_tagged c s t Below red) _ sides.1) [
          | inl on ↦ lower_lies s t row.red red to_red Below OfBelow one on
          | inr end ↦ plain_lies s t row.red red to_red one end
        ])

    above_lies : above_row c s t row blue red ≡ true → lies_in_block c s t row ≡ true
    above_lies holds =
        let block = and_parts (are_equal (block_of c s) (block_of c t)) _ holds in
        let one = same_of _ _ block.0 in
        let order = and_parts (is_less (order_of c t) (order_of c s)) _ block.1 in
        let sides = and_parts (higher_tagged c s t Above blue || closing_to_head c row.blue s blue) _ order.1 in
        both_lie
        (elim (or_cases (higher_tagged c s t Above blue) _ sides.0) [
          | inl on ↦ higher_lies s t row.blue blue to_blue Above OfAbove one on
          | inr end ↦ closing_lies s t row.blue blue to_blue one end
        ])
        (elim (or_cases (red == t) _ sides.1) [
          | inl end ↦ to_target s t row.red red to_red end
          | inr on ↦ lower_lies s t row.red red to_red Above OfAbove one on
        ])

    unordered_lies : unordered_row c s t row blue red ≡ true → lies_in_block c s t row ≡ true
    unordered_lies holds =
        let block = and_parts (are_equal (block_of c s) (block_of c t)) _ holds in
        let one = same_of _ _ block.0 in
        let down = lower_tagged c s t Unordered blue || lower_tagged c s t Below blue in
        let sides = and_parts (down || plain_to_head c row.blue s blue) _ block.1 in
        both_lie
        (elim (or_cases down _ sides.0) [
          | inl lower ↦ elim (or_cases (lower_tagged c s t Unordered blue) _ lower) [
            | inl on ↦ lower_lies s t row.blue blue to_blue Unordered OfUnordered one on
            | inr off ↦ lower_lies s t row.blue blue to_blue Below OfBelow one off
          ]
          | inr end ↦ plain_lies s t row.blue blue to_blue one end
        ])
        (elim (or_cases (higher_tagged c s t Unordered red) _ sides.1) [
          | inl on ↦ higher_lies s t row.red red to_red Unordered OfUnordered one on
          | inr off ↦ higher_lies s t row.red red to_red Above OfAbove one off
        ])

    near_lies : (T : Tag) → near_row T c s t row blue red ≡ true → lies_in_block c s t row ≡ true
    near_lies Sole holds = sole_lies holds
    near_lies Head holds = head_lies holds
    near_lies Top holds = top_lies holds
    near_lies Below holds = below_lies holds
    near_lies Above holds = above_lies holds
    near_lies Unordered holds = unordered_lies holds
    near_lies Carried holds = absurd (false≢true holds)

  -- a row that keeps the rule of a tag other than Carried
  led : (s t : ℕ) (row : Row) (T : Tag)
      → both (near_row T c s t row) (leads g.links row.blue s) (leads g.links row.red s) ≡ true
      → lies_in_block c s t row ≡ true
  led s t row T keeps =
      let p = both_pass (near_row T c s t row) (leads g.links row.blue s) (leads g.links row.red s) keeps in
      near_lies s t row p.first p.second p.first_is p.second_is T p.passes

  row_lies : (s t : ℕ) (row : Row) (T : Tag) → row_rule T g.links c root s t row ≡ true
      → (same_tag T Carried || lies_in_block c s t row) ≡ true
  row_lies s t row Carried keeps = refl
  row_lies s t row Sole keeps = led s t row Sole keeps
  row_lies s t row Head keeps = led s t row Head keeps
  row_lies s t row Top keeps = led s t row Top keeps
  row_lies s t row Below keeps = led s t row Below keeps
  row_lies s t row Above keeps = led s t row Above keeps
  row_lies s t row Unordered keeps = led s t row Unordered keeps

  pub block_rule_holds : EachPair (rows_in_block c) (length c.nodes)
  block_rule_holds s t source target = elim (cases_Bool (s == t)) [
    | inl same ↦ or_left (s == t) _ same
    | inr differ ↦
        let asked = unless (s == t) _ (rules.rows Sole s t source target) differ in
        let row =
        some_passes (λ (r : Row). not (same_tag r.tag Sole) || row_rule Sole g.links c root s t r) (row_of c s t)
        asked in
        or_right (s == t) _
        (subst (λ (o : Option Row). option_map_or
        (λ (r : Row). same_tag r.tag Carried || lies_in_block c s t r) o false ≡ true)
        (sym row.is) (row_lies s t row.value row.value.tag (row_keeps s t row.value row.is)))
  ]
