-- What the test of a row tells, by its tag.
use Rattle.std.proofs.Common.{◌≡◌, ◌≢◌, ◌==◌, ◌&&◌, ◌||◌, ℕ, true, List, Some, refl, sym, inl, inr}
use Rattle.std.proofs.lemmas.Bool.{and_parts, or_cases, eqb-true, false≢true}
use Rattle.mrt_graph.specs.declared.cert.Row.{Row}
use Rattle.mrt_graph.specs.declared.cert.Tag.{Tag}
use Rattle.mrt_graph.specs.declared.cert.Tag.TheVariants as tags
use Rattle.mrt_graph.specs.declared.link.Link.{Link}
use Rattle.mrt_graph.specs.BothThere.{are_equal, both, is_less}
use Rattle.mrt_graph.specs.Certificate.{Certificate}
use Rattle.mrt_graph.specs.CertFields.{order_of, head_of, block_of, has_role, tagged}
use Rattle.mrt_graph.specs.Hop.{Hop}
use Rattle.mrt_graph.specs.Leads.{leads}
use Rattle.mrt_graph.specs.Roles.{is_plain, is_sole, is_closing}
use Rattle.mrt_graph.specs.steps.RowRules.{row_rule, near_row}
use Rattle.mrt_graph.specs.RowRules.{plain_to_head, closing_to_head, higher_beside, lower_beside, higher_tagged, lower_tagged}
use Rattle.mrt_graph.proofs.Blocks.{Words}
use Rattle.mrt_graph.proofs.RowFacts.{Says, SoleRow, HeadRow, TopRow, BelowRow, AboveRow, UnorderedRow, Higher, Lower, OverPlain, OverClosing}
use Rattle.mrt_graph.proofs.TestFacts.{both_pass, plain_is, sole_is, closing_is, equal_numbers, less_numbers, is_tagged, is_higher, is_lower}
use Rattle.mrt_graph.proofs.WordsOf.{words_of}

-- over link e to v
abbrev pub hop_to : ℕ → ℕ → Hop
hop_to e v = record { link = e; to = v }

-- where the links of a row lead from s, and what the tag says of that
pub record Told (w : Words) (s t : ℕ) (row : Row) (T : Tag) : Type 0 where
  pub blue_to : ℕ
  pub red_to : ℕ
  pub blue_leads : leads w.links row.blue s ≡ Some blue_to
  pub red_leads : leads w.links row.red s ≡ Some red_to
  pub says : Says w T s t (hop_to row.blue blue_to) (hop_to row.red red_to)

module _ (links : List Link) (root : ℕ) (c : Certificate) where
  higher : (s v : ℕ) → higher_beside c s v ≡ true → Higher (words_of links root c) s v
  higher s v holds =
      let both = and_parts (are_equal (block_of c v) (block_of c s)) _ holds in
      record {
        block = equal_numbers (block_of c v) (block_of c s) both.0;
        order = less_numbers (order_of c s) (order_of c v) both.1;
      }

  lower : (s v : ℕ) → lower_beside c s v ≡ true → Lower (words_of links root c) s v
  lower s v holds =
      let both = and_parts (are_equal (block_of c v) (block_of c s)) _ holds in
      record {
        block = equal_numbers (block_of c v) (block_of c s) both.0;
        order = less_numbers (order_of c v) (order_of c s) both.1;
      }

  over_plain : (e v u : ℕ) → (has_role is_plain c e && (v == u)) ≡ true
      → OverPlain (words_of links root c) u (hop_to e v)
  over_plain e v u holds =
      let both = and_parts (has_role is_plain c e) _ holds in
      record { plain = plain_is links root c e both.0; there = eqb-true _ _ both.1 }

  over_closing : (e v u : ℕ) → (has_role is_closing c e && (v == u)) ≡ true
      → OverClosing (words_of links root c) u (hop_to e v)
  over_closing e v u holds =
      let both = and_parts (has_role is_closing c e) _ holds in
      record { closing = closing_is links root c e both.0; there = eqb-true _ _ both.1 }

  home_over_plain : (e v s : ℕ) → plain_to_head c e s v ≡ true
      → OverPlain (words_of links root c) ((words_of links root c).head s) (hop_to e v)
  home_over_plain e v s holds =
      let both = and_parts (has_role is_plain c e) _ holds in
      record { plain = plain_is links root c e both.0; there = sym (equal_numbers (head_of c s) (Some v) both.1) }

  home_over_closing : (e v s : ℕ) → closing_to_head c e s v ≡ true
      → OverClosing (words_of links root c) ((words_of links root c).head s) (hop_to e v)
  home_over_closing e v s holds =
      let both = and_parts (has_role is_closing c e) _ holds in
      record { closing = closing_is links root c e both.0; there = sym (equal_numbers (head_of c s) (Some v) both.1) }

  module _ (s t : ℕ) (row : Row) (blue red : ℕ) where
    sole_says : near_row tags.Sole c s t row blue red ≡ true
        → SoleRow (words_of links root c) s t (hop_to row.blue blue) (hop_to row.red red)
    sole_says holds =
        let one = and_parts (row.blue == row.red) _ holds in
        let sole = and_parts (has_role is_sole c row.blue) _ one.1 in
        record {
          one_link = eqb-true _ _ one.0;
          sole = sole_is links root c row.blue sole.0;
          there = eqb-true _ _ sole.1;
        }

    head_says : near_row tags.Head c s t row blue red ≡ true
        → HeadRow (words_of links root c) s t (hop_to row.blue blue) (hop_to row.red red)
    head_says holds =
        let head = and_parts (are_equal (head_of c s) (Some t)) _ holds in
        let sides = and_parts (higher_beside c s blue || (has_role is_closing c row.blue && (blue == t))) _ head.1 in
        record {
          head = equal_numbers (head_of c s) (Some t) head.0;
          blue_goes = elim (or_cases (higher_beside c s blue) _ sides.0) [
            | inl on ↦ inl (higher s blue on)
            | inr end ↦ inr (over_closing row.blue blue t end)
          ];
          red_goes = elim (or_cases (lower_beside c s red) _ sides.1) [
            | inl on ↦ inl (lower s red on)
            | inr end ↦ inr (over_plain row.red red t end)
          ];
        }

    top_says : near_row tags.Top c s t row blue red ≡ true
        → TopRow (words_of links root c) s t (hop_to row.blue blue) (hop_to row.red red)
    top_says holds =
        let head = and_parts (are_equal (head_of c t) (Some s)) _ holds in
        let sides = and_parts (has_role is_plain c row.blue && ((blue == t) || tagged c blue t tags.Below)) _ head.1 in
        let plain = and_parts (has_role is_plain c row.blue) _ sides.0 in
        let closing = and_parts (has_role is_closing c row.red) _ sides.1 in
        record {
          head = equal_numbers (head_of c t) (Some s) head.0;
          blue_plain = plain_is links root c row.blue plain.0;
          blue_goes = elim (or_cases (blue == t) _ plain.1) [
            | inl end ↦ inl (eqb-true _ _ end)
            | inr on ↦ inr (is_tagged links root c blue t tags.Below on)
          ];
          red_closing = closing_is links root c row.red closing.0;
          red_goes = elim (or_cases (red == t) _ closing.1) [
            | inl end ↦ inl (eqb-true _ _ end)
            | inr on ↦ inr (is_tagged links root c red t tags.Above on)
          ];
        }

    below_says : near_row tags.Below c s t row blue red ≡ true
        → BelowRow (words_of links root c) s t (hop_to row.blue blue) (hop_to row.red red)
    below_says holds =
        let one = and_parts (are_equal (block_of c s) (block_of c t)) _ holds in
        let order = and_parts (is_less (order_of c s) (order_of c t)) _ one.1 in
        let sides = and_parts ((blue == t) || higher_tagged c s t tags.Below blue) _ order.1 in
        record {
          block = equal_numbers (block_of c s) (block_of c t) one.0;
          order = less_numbers (order_of c s) (order_of c t) order.0;
          blue_goes = elim (or_cases (blue == t) _ sides.0) [
            | inl end ↦ inl (eqb-true _ _ end)
            | inr on ↦ inr (is_higher links root c s t tags.Below blue on)
          ];
          red_goes = elim (or_cases (lower_tagged c s t tags.Below red) _ sides.1) [
            | inl on ↦ inl (is_lower links root c s t tags.Below red on)
            | inr home ↦ inr (home_over_plain row.red red s home)
          ];
        }

    above_says : near_row tags.Above c s t row blue red ≡ true
        → AboveRow (words_of links root c) s t (hop_to row.blue blue) (hop_to row.red red)
    above_says holds =
        let one = and_parts (are_equal (block_of c s) (block_of c t)) _ holds in
        let order = and_parts (is_less (order_of c t) (order_of c s)) _ one.1 in
        let sides = and_parts (higher_tagged c s t tags.Above blue || closing_to_head c row.blue s blue) _ order.1 in
        record {
          block = equal_numbers (block_of c s) (block_of c t) one.0;
          order = less_numbers (order_of c t) (order_of c s) order.0;
          blue_goes = elim (or_cases (higher_tagged c s t tags.Above blue) _ sides.0) [
            | inl on ↦ inl (is_higher links root c s t tags.Above blue on)
            | inr home ↦ inr (home_over_closing row.blue blue s home)
          ];
          red_goes = elim (or_cases (red == t) _ sides.1) [
            | inl end ↦ inl (eqb-true _ _ end)
            | inr on ↦ inr (is_lower links root c s t tags.Above red on)
          ];
        }

    unordered_says : near_row tags.Unordered c s t row blue red ≡ true
        → UnorderedRow (words_of links root c) s t (hop_to row.blue blue) (hop_to row.red red)
    unordered_says holds =
        let one = and_parts (are_equal (block_of c s) (block_of c t)) _ holds in
        let down = lower_tagged c s t tags.Unordered blue || lower_tagged c s t tags.Below blue in
        let sides = and_parts (down || plain_to_head c row.blue s blue) _ one.1 in
        record {
          block = equal_numbers (block_of c s) (block_of c t) one.0;
          blue_goes = elim (or_cases down _ sides.0) [
            | inl lower ↦ inl (elim (or_cases (lower_tagged c s t tags.Unordered blue) _ lower) [
              | inl on ↦ inl (is_lower links root c s t tags.Unordered blue on)
              | inr off ↦ inr (is_lower links root c s t tags.Below blue off)
            ])
            | inr home ↦ inr (home_over_plain row.blue blue s home)
          ];
          red_goes = elim (or_cases (higher_tagged c s t tags.Unordered red) _ sides.1) [
            | inl on ↦ inl (is_higher links root c s t tags.Unordered red on)
            | inr off ↦ inr (is_higher links root c s t tags.Above red off)
          ];
        }

    says : (T : Tag) → near_row T c s t row blue red ≡ true
        → Says (words_of links root c) T s t (hop_to row.blue blue) (hop_to row.red red)
    says tags.Sole holds = sole_says holds
    says tags.Head holds = head_says holds
    says tags.Top holds = top_says holds
    says tags.Below holds = below_says holds
    says tags.Above holds = above_says holds
    says tags.Unordered holds = unordered_says holds
    says tags.Carried holds = absurd (false≢true holds)

  told_near : (s t : ℕ) (row : Row) (T : Tag)
      → both (near_row T c s t row) (leads links row.blue s) (leads links row.red s) ≡ true
      → Told (words_of links root c) s t row T
  told_near s t row T holds =
      let p = both_pass (near_row T c s t row) (leads links row.blue s) (leads links row.red s) holds in
      record {
        blue_to = p.first;
        red_to = p.second;
        blue_leads = p.first_is;
        red_leads = p.second_is;
        says = says s t row p.first p.second T p.passes;
      }

  -- a row that is not Carried
  pub told : (s t : ℕ) (row : Row) (T : Tag) → T ≢ tags.Carried → row_rule T links c root s t row ≡ true
      → Told (words_of links root c) s t row T
  told s t row tags.Carried near holds = absurd (near refl)
  told s t row tags.Sole near holds = told_near s t row tags.Sole holds
  told s t row tags.Head near holds = told_near s t row tags.Head holds
  told s t row tags.Top near holds = told_near s t row tags.Top holds
  told s t row tags.Below near holds = told_near s t row tags.Below holds
  told s t row tags.Above near holds = told_near s t row tags.Above holds
  told s t row tags.Unordered near holds = told_near s t row tags.Unordered holds
