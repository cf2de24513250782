-- A row keeps what its tag asks just where it passes the tests of rows.
use Rattle.std.proofs.Common.{◌≡◌, ◌⊎◌, ◌∙◌, ◌==◌, ◌&&◌, ◌||◌, ℕ, Bool, true, false, List, Option, Some, not, inl, inr, sym, ap, subst, eq-eqb}
use Rattle.std.proofs.lemmas.Bool.{and_from, and_parts, both_ways, cases_Bool, cases_eq, eqb-true, false_from_ne_true, false≢true, ne_eqb, or_cases, or_left, or_right}
use Rattle.std.specs.Option.{option_and_then, option_map_or}
use Rattle.mrt_graph.specs.declared.cert.Row.{Row}
use Rattle.mrt_graph.specs.declared.cert.Tag.{Tag}
use Rattle.mrt_graph.specs.declared.cert.Tag.TheVariants.{Sole, Head, Top, Below, Above, Unordered, Carried}
use Rattle.mrt_graph.specs.declared.link.Link.{Link}
use Rattle.mrt_graph.specs.BothThere.{are_equal, both, is_less}
use Rattle.mrt_graph.specs.Certificate.{Certificate, row_of}
use Rattle.mrt_graph.specs.CertFields.{order_of, head_of, block_of, has_role, tagged}
use Rattle.mrt_graph.specs.Leads.{leads}
use Rattle.mrt_graph.specs.Places.{IsFirstPair, IsFirstTwo}
use Rattle.mrt_graph.specs.Related.{are_unrelated, carrier}
use Rattle.mrt_graph.specs.Roles.{is_plain, is_sole, is_closing}
use Rattle.mrt_graph.specs.RowRules.{closing_to_head, higher_beside, higher_tagged, lower_beside, lower_tagged, plain_to_head, same_links}
use Rattle.mrt_graph.specs.steps.RowRules.{near_row, row_rule, rows_tagged}
use Rattle.mrt_graph.specs.RowsByTag.{GoesBy, Keeps, KeepsTag, NearRow}
use Rattle.mrt_graph.specs.Tags.{same_tag}
use Rattle.mrt_graph.proofs.ListTests.{some_passes}
use Rattle.mrt_graph.proofs.TestFacts.{both_pass, tag_is, tag_itself, unless}

-- x, or a link with a role that goes to t
straight : (x role : Bool) (v t : ℕ) → (x || (role && (v == t))) ≡ true → (x ≡ true) ⊎ ((role ≡ true) × (v ≡ t))
straight x role v t holds = elim (or_cases x (role && (v == t)) holds) [
  | inl one ↦ inl one
  | inr other ↦ let parts = and_parts role (v == t) other in inr (parts.0, eqb-true v t parts.1)
]

is_straight : (x role : Bool) (v t : ℕ) → (x ≡ true) ⊎ ((role ≡ true) × (v ≡ t)) → (x || (role && (v == t))) ≡ true
is_straight x role v t (inl one) = or_left x _ one
is_straight x role v t (inr (is, goes)) = or_right x _ (and_from role (v == t) is (eq-eqb v t goes))

-- to t, or x
here_or : (v t : ℕ) (x : Bool) → ((v == t) || x) ≡ true → (v ≡ t) ⊎ (x ≡ true)
here_or v t x holds = elim (or_cases (v == t) x holds) [ inl here ↦ inl (eqb-true v t here) | inr other ↦ inr other ]

is_here_or : (v t : ℕ) (x : Bool) → (v ≡ t) ⊎ (x ≡ true) → ((v == t) || x) ≡ true
is_here_or v t x (inl here) = or_left (v == t) x (eq-eqb v t here)
is_here_or v t x (inr other) = or_right (v == t) x other

is_either : (x y : Bool) → (x ≡ true) ⊎ (y ≡ true) → (x || y) ≡ true
is_either x y (inl one) = or_left x y one
is_either x y (inr other) = or_right x y other

module _ (links : List Link) (c : Certificate) (root : ℕ) where
  module _ (s t : ℕ) (row : Row) where
    goes_by : (tag : Tag) (blue_to red_to : ℕ) → near_row tag c s t row blue_to red_to ≡ true → GoesBy tag c s t row blue_to red_to
    goes_by Sole blue_to red_to holds =
        let one = and_parts (row.blue == row.red) _ holds in
        let role = and_parts (has_role is_sole c row.blue) (blue_to == t) one.1 in
        record { one_link = eqb-true row.blue row.red one.0; role = role.0; goes = eqb-true blue_to t role.1 }
    goes_by Head blue_to red_to holds =
        let head = and_parts (are_equal (head_of c s) (Some t)) _ holds in
        let goes = and_parts (higher_beside c s blue_to || (has_role is_closing c row.blue && (blue_to == t))) _ head.1 in
        record {
          head = head.0;
          blue = straight (higher_beside c s blue_to) (has_role is_closing c row.blue) blue_to t goes.0;
          red = straight (lower_beside c s red_to) (has_role is_plain c row.red) red_to t goes.1;
        }
    goes_by Top blue_to red_to holds =
        let head = and_parts (are_equal (head_of c t) (Some s)) _ holds in
        let goes = and_parts (has_role is_plain c row.blue && ((blue_to == t) || tagged c blue_to t Below)) _ head.1 in
        let blue = and_parts (has_role is_plain c row.blue) _ goes.0 in
        let red = and_parts (has_role is_closing c row.red) _ goes.1 in
        record {
          head = head.0;
          blue_role = blue.0;
          blue = here_or blue_to t (tagged c blue_to t Below) blue.1;
          red_role = red.0;
          red = here_or red_to t (tagged c red_to t Above) red.1;
        }
    goes_by Below blue_to red_to holds =
        let block = and_parts (are_equal (block_of c s) (block_of c t)) _ holds in
        let order = and_parts (is_less (order_of c s) (order_of c t)) _ block.1 in
        let goes = and_parts ((blue_to == t) || higher_tagged c s t Below blue_to) _ order.1 in
        record {
          block = block.0;
          order = order.0;
          blue = here_or blue_to t (higher_tagged c s t Below blue_to) goes.0;
          red = or_cases (lower_tagged c s t Below red_to) (plain_to_head c row.red s red_to) goes.1;
        }
    goes_by Above blue_to red_to holds =
        let block = and_parts (are_equal (block_of c s) (block_of c t)) _ holds in
        let order = and_parts (is_less (order_of c t) (order_of c s)) _ block.1 in
        let goes = and_parts (higher_tagged c s t Above blue_to || closing_to_head c row.blue s blue_to) _ order.1 in
        record {
          block = block.0;
          order = order.0;
          blue = or_cases (higher_tagged c s t Above blue_to) (closing_to_head c row.blue s blue_to) goes.0;
          red = here_or red_to t (lower_tagged c s t Above red_to) goes.1;
        }
    goes_by Unordered blue_to red_to holds =
        let block = and_parts (are_equal (block_of c s) (block_of c t)) _ holds in
        let lower = lower_tagged c s t Unordered blue_to || lower_tagged c s t Below blue_to in
        let goes = and_parts (lower || plain_to_head c row.blue s blue_to) _ block.1 in
        record {
          block = block.0;
          blue = elim (or_cases lower (plain_to_head c row.blue s blue_to) goes.0) [
            | inl down ↦ inl (or_cases (lower_tagged c s t Unordered blue_to) (lower_tagged c s t Below blue_to) down)
            | inr head ↦ inr head
          ];
          red = or_cases (higher_tagged c s t Unordered red_to) (higher_tagged c s t Above red_to) goes.1;
        }
    goes_by Carried blue_to red_to holds = absurd (false≢true holds)

    near_passes : (tag : Tag) (blue_to red_to : ℕ) → GoesBy tag c s t row blue_to red_to → near_row tag c s t row blue_to red_to ≡ true
    near_passes Sole blue_to red_to it =
        and_from (row.blue == row.red) _ (eq-eqb row.blue row.red it.one_link)
        (and_from (has_role is_sole c row.blue) (blue_to == t) it.role (eq-eqb blue_to t it.goes))
    near_passes Head blue_to red_to it =
        and_from (are_equal (head_of c s) (Some t)) _ it.head
        (and_from (higher_beside c s blue_to || (has_role is_closing c row.blue && (blue_to == t))) _
        (is_straight (higher_beside c s blue_to) (has_role is_closing c row.blue) blue_to t it.blue)
        (is_straight (lower_beside c s red_to) (has_role is_plain c row.red) red_to t it.red))
    near_passes Top blue_to red_to it =
        and_from (are_equal (head_of c t) (Some s)) _ it.head
        (and_from (has_role is_plain c row.blue && ((blue_to == t) || tagged c blue_to t Below)) _
        (and_from (has_role is_plain c row.blue) _ it.blue_role (is_here_or blue_to t (tagged c blue_to t Below) it.blue))
        (and_from (has_role is_closing c row.red) _ it.red_role (is_here_or red_to t (tagged c red_to t Above) it.red)))
    near_passes Below blue_to red_to it =
        and_from (are_equal (block_of c s) (block_of c t)) _ it.block
        (and_from (is_less (order_of c s) (order_of c t)) _ it.order
        (and_from ((blue_to == t) || higher_tagged c s t Below blue_to) _
        (is_here_or blue_to t (higher_tagged c s t Below blue_to) it.blue)
        (is_either (lower_tagged c s t Below red_to) (plain_to_head c row.red s red_to) it.red)))
    near_passes Above blue_to red_to it =
        and_from (are_equal (block_of c s) (block_of c t)) _ it.block
        (and_from (is_less (order_of c t) (order_of c s)) _ it.order
        (and_from (higher_tagged c s t Above blue_to || closing_to_head c row.blue s blue_to) _
        (is_either (higher_tagged c s t Above blue_to) (closing_to_head c row.blue s blue_to) it.blue)
        (is_here_or red_to t (lower_tagged c s t Above red_to) it.red)))
    near_passes Unordered blue_to red_to it =
        let lower = lower_tagged c s t Unordered blue_to || lower_tagged c s t Below blue_to in
        and_from (are_equal (block_of c s) (block_of c t)) _ it.block
        (and_from (lower || plain_to_head c row.blue s blue_to) _
        (elim it.blue [
          | inl down ↦ or_left lower _ (is_either (lower_tagged c s t Unordered blue_to) (lower_tagged c s t Below blue_to) down)
          | inr head ↦ or_right lower _ head
        ])
        (is_either (higher_tagged c s t Unordered red_to) (higher_tagged c s t Above red_to) it.red))
    near_passes Carried blue_to red_to it = absurd it

    near : (tag : Tag) → both (near_row tag c s t row) (leads links row.blue s) (leads links row.red s) ≡ true → NearRow tag links c s t row
    near tag holds =
        let p = both_pass (near_row tag c s t row) (leads links row.blue s) (leads links row.red s) holds in
        record {
          blue_to = p.first;
          red_to = p.second;
          blue_leads = p.first_is;
          red_leads = p.second_is;
          goes = goes_by tag p.first p.second p.passes;
        }

    is_near : (tag : Tag) → NearRow tag links c s t row → both (near_row tag c s t row) (leads links row.blue s) (leads links row.red s) ≡ true
    is_near tag it = rw (it.blue_leads, it.red_leads) (near_passes tag it.blue_to it.red_to it.goes)

    keeps : (tag : Tag) → row_rule tag links c root s t row ≡ true → Keeps tag links c root s t row
    keeps Sole holds = near Sole holds
    keeps Head holds = near Head holds
    keeps Top holds = near Top holds
    keeps Below holds = near Below holds
    keeps Above holds = near Above holds
    keeps Unordered holds = near Unordered holds
    keeps Carried holds =
        let far = and_parts (are_unrelated c s t) _ holds in
        let other = some_passes (same_links row) (option_and_then (row_of c s) (carrier c root s t)) far.1 in
        let same = and_parts (row.blue == other.value.blue) _ other.passes in
        record {
          apart = far.0;
          other = other.value;
          other_is = other.is;
          blue = eqb-true row.blue other.value.blue same.0;
          red = eqb-true row.red other.value.red same.1;
        }

    rule_passes : (tag : Tag) → Keeps tag links c root s t row → row_rule tag links c root s t row ≡ true
    rule_passes Sole it = is_near Sole it
    rule_passes Head it = is_near Head it
    rule_passes Top it = is_near Top it
    rule_passes Below it = is_near Below it
    rule_passes Above it = is_near Above it
    rule_passes Unordered it = is_near Unordered it
    rule_passes Carried it =
        and_from (are_unrelated c s t) _ it.apart
        (ap (λ (o : Option Row). option_map_or (same_links row) o false) it.other_is
        ∙ and_from (row.blue == it.other.blue) _ (eq-eqb row.blue it.other.blue it.blue) (eq-eqb row.red it.other.red it.red))

    -- what is asked of a row with any tag
    asked : (tag : Tag) → (row.tag ≡ tag → Keeps tag links c root s t row)
        → (not (same_tag row.tag tag) || row_rule tag links c root s t row) ≡ true
    asked tag kept = elim (cases_Bool (same_tag row.tag tag)) [
      | inl same ↦ or_right _ _ (rule_passes tag (kept (tag_is row.tag tag same)))
      | inr differ ↦ or_left _ _ (ap not differ)
    ]

  module _ (tag : Tag) where
    pub by_tag : (s t : ℕ) → rows_tagged tag links c root s t ≡ true → KeepsTag tag links c root s t
    by_tag s t holds = elim (cases_eq s t) [
      | inl same ↦ inl same
      | inr two ↦
          let there = some_passes (λ (row : Row). not (same_tag row.tag tag) || row_rule tag links c root s t row) (row_of c s t)
          (unless (s == t) _ holds (ne_eqb s t two)) in
          inr (record {
            row = there.value;
            there = there.is;
            keeps = λ is. keeps s t there.value tag
                (unless (not (same_tag there.value.tag tag)) _ there.passes
                (ap not (subst (λ (x : Tag). same_tag x tag ≡ true) (sym is) (tag_itself tag))));
          })
    ]

    pub passes : (s t : ℕ) → KeepsTag tag links c root s t → rows_tagged tag links c root s t ≡ true
    passes s t (inl same) = or_left (s == t) _ (eq-eqb s t same)
    passes s t (inr has) =
        or_right (s == t) _
        (ap (λ (o : Option Row). option_map_or (λ (row : Row). not (same_tag row.tag tag) || row_rule tag links c root s t row) o false) has.there
        ∙ asked s t has.row tag has.keeps)

    -- so the first places are the same
    pub first_two : (n a b : ℕ) → IsFirstPair (rows_tagged tag links c root) n a b → IsFirstTwo (KeepsTag tag links c root) n a b
    first_two n a b first = record {
      first_within = first.first_within;
      second_within = first.second_within;
      fails = λ kept. both_ways _ first.fails (passes a b kept);
      before_first = λ x y less within. by_tag x y (first.before_first x y less within);
      before_second = λ y less. by_tag a y (first.before_second y less);
    }

    pub first_pair : (n a b : ℕ) → IsFirstTwo (KeepsTag tag links c root) n a b → IsFirstPair (rows_tagged tag links c root) n a b
    first_pair n a b first = record {
      first_within = first.first_within;
      second_within = first.second_within;
      fails = false_from_ne_true (rows_tagged tag links c root a b) (λ holds. first.fails (by_tag a b holds));
      before_first = λ x y less within. passes x y (first.before_first x y less within);
      before_second = λ y less. passes a y (first.before_second y less);
    }
