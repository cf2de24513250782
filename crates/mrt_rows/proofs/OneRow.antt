-- There is one row of a node for another one.
use Rattle.std.proofs.Common.{◌≡◌, ◌≢◌, ◌⊎◌, ◌∙◌, ◌<◌, ◌≤◌, ℕ, zero, suc, Option, Some, None, length, refl, sym, ap, subst, inl, inr, arith}
use Rattle.std.proofs.lemmas.Option.{same_Some}
use Rattle.mrt_graph.specs.declared.cert.Row.{Row}
use Rattle.mrt_graph.specs.declared.cert.Tag.{Tag}
use Rattle.mrt_graph.specs.declared.cert.Tag.TheVariants as tags
use Rattle.mrt_graph.specs.Tags.{carried}
use Rattle.link_direction.specs.CommonBlock.{FromHead, HaveCommonBlock, ToHead}
use Rattle.block_spf.specs.declared.reach.Dir.{Dir}
use Rattle.block_spf.specs.declared.reach.Dir.TheVariants.{Down, Up}
use Rattle.block_spf.specs.LeastPath.{HaveCommonBlockOfMoreLinks}
use Rattle.mrt_rows.specs.steps.NearOf.{Apart, InCommon, IsNearRow}
use Rattle.mrt_rows.specs.RowLines.{AreMembers, BeginsOver, CarriedLine, LineOf, SoleLine}
use Rattle.mrt_rows.specs.RowsOf.{HasRow}
use Rattle.mrt_rows.proofs.LinesHold.{begins_home, head_of_source, head_of_target}
use Rattle.mrt_rows.proofs.OneHop.{one_link, way_or_none}
use Rattle.mrt_rows.proofs.Sharing.{none_of_share}
use Rattle.mrt_rows.proofs.OrderedGraphs.{OrderedGraph, one_common, one_is_head, peers_not_head}
use Rattle.mrt_rows.proofs.Carriers.{at_carrier, carrier_by, line_carried, links_carried}

row_same : (a b : Row) → a.blue ≡ b.blue → a.red ≡ b.red → a.tag ≡ b.tag → a ≡ b
row_same a b blue red tag = λ i. record { blue = blue i; red = red i; tag = tag i }

module _ (og : OrderedGraph) (s t : ℕ) (s_within : s < length og.g.ids) (t_within : t < length og.g.ids) (two : s ≢ t) where
  -- a block of one link has not more
  one_or_more : (row : Row) (k h : ℕ) → SoleLine og.g og.w s t row → HaveCommonBlockOfMoreLinks og.g og.w s t k h → ⊥
  one_or_more row k h line share = none_of_share og s t s_within t_within two k h share line.block line.head row.blue line.common line.one_link

  -- of two nodes of one block none is the other's head
  not_peers : (k h : ℕ) → AreMembers og.g og.w s t k h → (og.w.head s ≢ t) × (og.w.head t ≢ s)
  not_peers k h are = (
    peers_not_head og s t s_within t_within two (are.source ∙ sym are.target),
    peers_not_head og t s t_within s_within (λ same. two (sym same)) (are.target ∙ sym are.source),
  )

  under : (k h : ℕ) → HaveCommonBlockOfMoreLinks og.g og.w s t k h → t ≡ h → og.w.head s ≡ t
  under k h share at_head = (head_of_source og s t k h s_within t_within two share.common at_head).0

  over : (k h : ℕ) → HaveCommonBlockOfMoreLinks og.g og.w s t k h → s ≡ h → og.w.head t ≡ s
  over k h share at_head = (head_of_target og s t k h s_within t_within two share.common at_head).0

  same_link : (dir : Dir) (e f : ℕ) → BeginsOver og.g og.w dir s t e → BeginsOver og.g og.w dir s t f → e ≡ f
  same_link dir e f = one_link og dir s t s_within t_within e f

  same_home : (dir : Dir) (k h j i e f : ℕ) → AreMembers og.g og.w s t k h → AreMembers og.g og.w s t j i
      → BeginsOver og.g og.w dir s h e → BeginsOver og.g og.w dir s i f → e ≡ f
  same_home dir k h j i e f one other first second =
      one_link og dir s (og.w.head s) s_within (og.ordered.heads.head_within s s_within) e f
      (begins_home og dir s t k h e s_within t_within one first) (begins_home og dir s t j i f s_within t_within other second)

  -- two lines for nodes with a block in common say one thing: no two lines are met at once
  module _ (k h : ℕ) (common : HaveCommonBlock og.w s t k h) (rows others : ℕ → Option Row) (a b : Row) where
    near_lines : (T U : Tag) → a.tag ≡ T → b.tag ≡ U → LineOf T og.g og.root og.w s rows t a → LineOf U og.g og.root og.w s others t b → a ≡ b
    near_lines tags.Carried U is_a is_b x y = absurd (x.apart k h common)
    near_lines T tags.Carried is_a is_b x y = absurd (y.apart k h common)
    near_lines tags.Sole tags.Sole is_a is_b x y =
        let same = one_common og s t y.block y.head x.block x.head s_within t_within two y.common x.common in
        let blue = sym (x.one_link.no_other b.blue y.one_link.within (y.one_link.in_block ∙ same.0)) in
        row_same a b blue (x.red ∙ blue ∙ sym y.red) (is_a ∙ sym is_b)
    near_lines tags.Sole tags.Head is_a is_b x y = absurd (one_or_more a y.block y.head x y.share)
    near_lines tags.Sole tags.Top is_a is_b x y = absurd (one_or_more a y.block y.head x y.share)
    near_lines tags.Sole U is_a is_b x y = absurd (one_or_more a y.block y.head x y.members.share)
    near_lines tags.Head tags.Sole is_a is_b x y = absurd (one_or_more b x.block x.head y x.share)
    near_lines tags.Top tags.Sole is_a is_b x y = absurd (one_or_more b x.block x.head y x.share)
    near_lines T tags.Sole is_a is_b x y = absurd (one_or_more b x.block x.head y x.members.share)
    near_lines tags.Head tags.Head is_a is_b x y =
        row_same a b (same_link Up a.blue b.blue x.blue y.blue) (same_link Down a.red b.red x.red y.red) (is_a ∙ sym is_b)
    near_lines tags.Top tags.Top is_a is_b x y =
        row_same a b (same_link Up a.blue b.blue x.blue y.blue) (same_link Down a.red b.red x.red y.red) (is_a ∙ sym is_b)
    near_lines tags.Head tags.Top is_a is_b x y = absurd (one_is_head og s t s_within t_within two (under x.block x.head x.share x.at_head) (over y.block y.head y.share y.at_head))
    near_lines tags.Top tags.Head is_a is_b x y = absurd (one_is_head og s t s_within t_within two (under y.block y.head y.share y.at_head) (over x.block x.head x.share x.at_head))
    near_lines tags.Head U is_a is_b x y = absurd ((not_peers y.block y.head y.members).0 (under x.block x.head x.share x.at_head))
    near_lines T tags.Head is_a is_b x y = absurd ((not_peers x.block x.head x.members).0 (under y.block y.head y.share y.at_head))
    near_lines tags.Top U is_a is_b x y = absurd ((not_peers y.block y.head y.members).1 (over x.block x.head x.share x.at_head))
    near_lines T tags.Top is_a is_b x y = absurd ((not_peers x.block x.head x.members).1 (over y.block y.head y.share y.at_head))
    near_lines tags.Below tags.Below is_a is_b x y =
        row_same a b (same_link Up a.blue b.blue x.blue y.blue)
        (same_home Down x.block x.head y.block y.head a.red b.red x.members y.members x.red y.red) (is_a ∙ sym is_b)
    near_lines tags.Below U is_a is_b x y = absurd (way_or_none og Up s t s_within t_within a.blue x.blue y.none_up)
    near_lines T tags.Below is_a is_b x y = absurd (way_or_none og Up s t s_within t_within b.blue y.blue x.none_up)
    near_lines tags.Above tags.Above is_a is_b x y =
        row_same a b (same_home Up x.block x.head y.block y.head a.blue b.blue x.members y.members x.blue y.blue)
        (same_link Down a.red b.red x.red y.red) (is_a ∙ sym is_b)
    near_lines tags.Above U is_a is_b x y = absurd (way_or_none og Down s t s_within t_within a.red x.red y.none_down)
    near_lines T tags.Above is_a is_b x y = absurd (way_or_none og Down s t s_within t_within b.red y.red x.none_down)
    near_lines tags.Unordered tags.Unordered is_a is_b x y =
        row_same a b (same_home Down x.block x.head y.block y.head a.blue b.blue x.members y.members x.blue y.blue)
        (same_home Up x.block x.head y.block y.head a.red b.red x.members y.members x.red y.red) (is_a ∙ sym is_b)

-- a line tells of a near row, or of a carried one
module _ (og : OrderedGraph) (s t : ℕ) (rows : ℕ → Option Row) (row : Row) where
  near : (T : Tag) (k h : ℕ) → HaveCommonBlock og.w s t k h → row.tag ≡ T → ((others : ℕ → Option Row) → LineOf T og.g og.root og.w s others t row)
      → IsNearRow og.g og.root og.w s t (Some row)
  near T k h common is line = InCommon row k h common (record {
    line = λ others. subst (λ (x : Tag). LineOf x og.g og.root og.w s others t row) (sym is) (line others);
  })

  pub seen : (T : Tag) → row.tag ≡ T → LineOf T og.g og.root og.w s rows t row
      → IsNearRow og.g og.root og.w s t (Some row) ⊎ ((row.tag ≡ tags.Carried) × CarriedLine og.root og.w s rows t row)
  seen tags.Carried is line = inr (is, line)
  seen tags.Sole is line = inl (near tags.Sole line.block line.head line.common is (λ others. line))
  seen tags.Head is line = inl (near tags.Head line.block line.head line.share.common is (λ others. line))
  seen tags.Top is line = inl (near tags.Top line.block line.head line.share.common is (λ others. line))
  seen T is line = inl (near T line.block line.head line.members.share.common is (λ others. line))

-- the row of s for t: the near one; or, where they have no block in common, that for the carrier, carried
pub data IsRowFor (og : OrderedGraph) (s : ℕ) : ℕ → Row → Type 0 where
  Near : {t : ℕ} {row : Row} → IsNearRow og.g og.root og.w s t (Some row) → IsRowFor og s t row
  Far : {t : ℕ} {row : Row} → IsNearRow og.g og.root og.w s t None → IsRowFor og s (carrier_by og.w og.root s t) row
      → IsRowFor og s t (carried row)

-- where the carrier is v, it is that for v, carried
pub far_over : (og : OrderedGraph) (s t v : ℕ) (row : Row) → ((k h : ℕ) → ¬ HaveCommonBlock og.w s t k h) → carrier_by og.w og.root s t ≡ v
    → IsRowFor og s v row → IsRowFor og s t (carried row)
far_over og s t v row none by is = Far (Apart none) (subst (λ (x : ℕ). IsRowFor og s x row) (sym by) is)

-- a row is there, and is the row of s for t
pub record HasTheRow (og : OrderedGraph) (s t : ℕ) (found : Option Row) : Type 0 where
  pub row : Row
  pub is : found ≡ Some row
  pub the : IsRowFor og s t row

module _ (og : OrderedGraph) (s : ℕ) (s_within : s < length og.g.ids) where
  abbrev n : ℕ
  n = length og.g.ids

  abbrev carrier : ℕ → ℕ
  carrier t = carrier_by og.w og.root s t

  abbrev AreApart : ℕ → Type 0
  AreApart t = (k h : ℕ) → ¬ HaveCommonBlock og.w s t k h

  -- a carrier is another node
  pub home_in : s ≢ og.root → (og.w.head s < n) × (s ≢ og.w.head s)
  home_in other = (
    og.ordered.heads.head_within s s_within,
    λ same. omega (arith, og.ordered.heads.lower s s_within other, ap og.w.order same),
  )

  pub carrier_in : (t : ℕ) → t < n → s ≢ t → AreApart t → (carrier t < n) × (s ≢ carrier t)
  carrier_in t t_within two apart = at_carrier (λ (x : ℕ). (x < n) × (s ≢ x)) og.w og.root s t
      (λ other. (og.ordered.heads.head_within t t_within, λ same. apart (og.w.block t) s (FromHead refl (sym same) refl)))
      (λ at_root. home_in (λ s_root. two (s_root ∙ sym at_root)))

  -- what holds of each node of whose carrier it holds, if it has one, holds of all: the head of s has none, and other carriers
  -- have a lower order
  pub by_carriers : (P : ℕ → Type 0) → ((t : ℕ) → t < n → s ≢ t → (AreApart t → P (carrier t)) → P t) → (t : ℕ) → t < n → s ≢ t → P t
  by_carriers P step t t_within two = by (og.w.order t) t t_within two (omega arith)
    where
      home : s ≢ og.root → P (og.w.head s)
      home other =
          let it = home_in other in
          step (og.w.head s) it.0 it.1 (λ apart. absurd (apart (og.w.block s) (og.w.head s) (ToHead refl refl refl)))

      by : (left v : ℕ) → v < n → s ≢ v → og.w.order v ≤ left → P v
      by zero v v_within apart few = absurd (omega (arith, og.ordered.orders.from_one v v_within, few))
      by (suc left) v v_within apart few = step v v_within apart (λ none. at_carrier P og.w og.root s v
          (λ other.
          by left (og.w.head v) (og.ordered.heads.head_within v v_within) (λ same. none (og.w.block v) s (FromHead refl (sym same) refl))
          (omega (arith, og.ordered.heads.lower v v_within other, few)))
          (λ at_root. home (λ s_root. apart (s_root ∙ sym at_root))))

  one_near : (t : ℕ) (a b : Row) → t < n → s ≢ t → IsNearRow og.g og.root og.w s t (Some a) → IsNearRow og.g og.root og.w s t (Some b) → a ≡ b
  one_near t a b t_within two (InCommon a' k h common own) (InCommon b' k' h' common' own') =
      near_lines og s t s_within t_within two k h common (λ u. None) (λ u. None) a b a.tag b.tag refl refl (own.line (λ u. None)) (own'.line (λ u. None))

  -- there is one
  pub one_for : (t : ℕ) (a b : Row) → t < n → s ≢ t → IsRowFor og s t a → IsRowFor og s t b → a ≡ b
  one_for t a b t_within two (Near is) (Near is') = one_near t a b t_within two is is'
  one_for t a b t_within two (Near (InCommon a' k h common own)) (Far (Apart apart) rest) = absurd (apart k h common)
  one_for t a b t_within two (Far (Apart apart) rest) (Near (InCommon b' k h common own)) = absurd (apart k h common)
  one_for t a b t_within two (Far {row = x} (Apart apart) rest) (Far {row = y} none rest') =
      let it = carrier_in t t_within two apart in ap carried (one_for (carrier t) x y it.0 it.1 rest rest')

  -- it is that of each table
  pub of_table : (rows : ℕ → Option Row) → ((t : ℕ) → t < n → s ≢ t → HasRow og.g og.root og.w s rows t) → (t : ℕ) → t < n → s ≢ t
      → HasTheRow og s t (rows t)
  of_table rows has = by_carriers (λ t. HasTheRow og s t (rows t)) (λ t t_within two far.
      let it = has t t_within two in
      elim (seen og s t rows it.row it.row.tag refl it.line) [
        | inl is ↦ record { row = it.row; is = it.is; the = Near is }
        | inr line ↦
            let other = far line.1.apart in
            let links = links_carried og.root og.w s rows t it.row line.1 in
            let same = same_Some links.other other.row (sym links.is ∙ other.is) in
            record {
              row = carried other.row;
              is = it.is ∙ ap (λ (r : Row). Some r) (row_same it.row (carried other.row) (links.blue ∙ ap (λ (r : Row). r.blue) same)
                  (links.red ∙ ap (λ (r : Row). r.red) same) line.0);
              the = Far (Apart line.1.apart) other.the;
            }
      ])

  pub one_row : (rows others : ℕ → Option Row) → ((t : ℕ) → t < n → s ≢ t → HasRow og.g og.root og.w s rows t)
      → ((t : ℕ) → t < n → s ≢ t → HasRow og.g og.root og.w s others t) → (t : ℕ) → t < n → s ≢ t → rows t ≡ others t
  one_row rows others has other_has t t_within two =
      let a = of_table rows has t t_within two in
      let b = of_table others other_has t t_within two in
      a.is ∙ ap (λ (r : Row). Some r) (one_for t a.row b.row t_within two a.the b.the) ∙ sym b.is

  -- and rows that are it are a table
  pub has_all : (rows : ℕ → Option Row) → ((t : ℕ) → t < n → s ≢ t → HasTheRow og s t (rows t)) → (t : ℕ) → t < n → s ≢ t
      → HasRow og.g og.root og.w s rows t
  has_all rows each t t_within two = let it = each t t_within two in go it.row it.is it.the
    where
      go : (row : Row) → rows t ≡ Some row → IsRowFor og s t row → HasRow og.g og.root og.w s rows t
      go row is (Near (InCommon row' k h common own)) = record { row = row; is = is; line = own.line rows }
      go row is (Far {row = x} (Apart apart) rest) =
          let to = carrier_in t t_within two apart in
          let other = each (carrier t) to.0 to.1 in
          let same = one_for (carrier t) other.row x to.0 to.1 other.the rest in
          record {
            row = carried x;
            is = is;
            line = line_carried og.root og.w s rows t (carried x) apart
                (record { other = x; is = other.is ∙ ap (λ (r : Row). Some r) same; blue = refl; red = refl });
          }
