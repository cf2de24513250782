-- By order there is exactly one color for each failure.
use Rattle.std.proofs.Common.{◌≡◌, ◌==◌, ◌&&◌, ◌||◌, ◌≢◌, ◌∙◌, ◌<◌, ℕ, Bool, length, refl, sym, ap, subst}
use Rattle.std.specs.Bool.{Decides}
use Rattle.std.proofs.lemmas.Bool.Decides.{Decides-and, Decides-eqb, Decides-or, same_from_decides}
use Rattle.std.proofs.lemmas.Option.{same_Some}
use Rattle.std.specs.Option.{is_some}
use Rattle.mrt_graph.specs.declared.cert.Color.{Color}
use Rattle.mrt_graph.specs.declared.cert.Role.{Role}
use Rattle.mrt_graph.specs.declared.cert.Role.TheVariants as roles
use Rattle.mrt_graph.specs.declared.cert.Row.{Row}
use Rattle.mrt_graph.specs.declared.cert.Tag.{Tag}
use Rattle.mrt_graph.specs.declared.cert.Tag.TheVariants.{Above, Below, Carried, Head, Sole, Top, Unordered}
use Rattle.mrt_graph.specs.declared.link.Element.{Element}
use Rattle.mrt_graph.specs.declared.link.Element.TheVariants as elements
use Rattle.mrt_graph.specs.Separates.{IsNeitherEnd}
use Rattle.link_direction.specs.Directions.{Directions}
use Rattle.block_spf.specs.declared.reach.Dir.{Dir}
use Rattle.block_spf.specs.declared.reach.Dir.TheVariants.{Down, Up}
use Rattle.block_spf.specs.LeastPath.{HaveCommonBlockOfMoreLinks}
use Rattle.mrt_rows.proofs.HopsExist.{has_hop}
use Rattle.mrt_rows.proofs.OneRow.{one_row}
use Rattle.mrt_rows.proofs.OrderedGraphs.{OrderedGraph, within}
use Rattle.mrt_rows.proofs.RowsExist.{some_rows}
use Rattle.order_repair.specs.declared.order_tests.OrderTests.{OrderTests}
use Rattle.order_repair.specs.ColorTable.{closing_color, node_color, plain_color}
use Rattle.order_repair.specs.Failed.{IsBetween, LiesIn}
use Rattle.order_repair.specs.OrderChoice.{AreLinkTests, AreNodeTests, AreNumbers, AreTests, ByTests, IsClosing, IsOrderChoice, IsOverLink, IsPlain, IsUnderLink, IsUnderNode, LeadsTo, LineFor, LinkLine}
use Rattle.order_repair.proofs.HopsTell.{hop_tells}
use Rattle.order_repair.proofs.RowWays.{row_of_table}
use Rattle.order_repair.proofs.SharedBlock.{shared_ring}

-- the tests are one
one_tests : (w : Directions) (s t u v : ℕ) (Under Over : Type 0) (x y : OrderTests) → AreTests w s t u v Under Over x → AreTests w s t u v Under Over y
    → x ≡ y
one_tests w s t u v Under Over x y a b = λ i. record {
  source = (a.numbers.source ∙ sym b.numbers.source) i;
  to = (a.numbers.to ∙ sym b.numbers.to) i;
  from = (a.numbers.from ∙ sym b.numbers.from) i;
  onto = (a.numbers.onto ∙ sym b.numbers.onto) i;
  under = same_from_decides x.under y.under a.under b.under i;
  over = same_from_decides x.over y.over a.over b.over i;
}

one_by_tests : (w : Directions) (s t u v : ℕ) (Under Over : Type 0) (table : OrderTests → Color) (color other : Color) → ByTests (AreTests w s t u v Under Over) table color
    → ByTests (AreTests w s t u v Under Over) table other → color ≡ other
one_by_tests w s t u v Under Over table color other by by' =
    by.color_is ∙ ap table (one_tests w s t u v Under Over by.tests by'.tests by.mean by'.mean) ∙ sym by'.color_is

-- some color by tests that are had
some_by_tests : (w : Directions) (s t u v : ℕ) (Under Over : Type 0) (table : OrderTests → Color) → (under : Bool) × Decides under Under → (over : Bool) × Decides over Over
    → (color : Color) × ByTests (AreTests w s t u v Under Over) table color
some_by_tests w s t u v Under Over table under over =
    let tests : OrderTests = record { source = w.order s; to = w.order t; from = w.order u; onto = w.order v; under = under.0; over = over.0 } in (
      table tests,
      record {
        tests = tests;
        mean = record { numbers = record { source = refl; to = refl; from = refl; onto = refl }; under = under.1; over = over.1 };
        color_is = refl;
      },
    )

module _ (og : OrderedGraph) (s t : ℕ) where
  one_line : (tag : Tag) (x : Element) (color other : Color) → LineFor tag og.g og.w s t x color → LineFor tag og.g og.w s t x other
      → color ≡ other
  one_line tag (elements.Node f) color other line line' = one_by_tests og.w s t f f _ _ (node_color tag) color other line line'
  one_line tag (elements.Link e) color other (IsPlain v plain onward by) (IsPlain v' plain' onward' by') =
      one_by_tests og.w s t (og.w.tail e) v' _ _ (plain_color tag) color other
      (subst (λ (x : ℕ). ByTests (AreLinkTests og.g og.w s t (og.w.tail e) x) (plain_color tag) color) (same_Some v v' (sym onward ∙ onward')) by) by'
  one_line tag (elements.Link e) color other (IsPlain v plain onward by) (IsClosing closing is) = absurd (cc (plain, closing))
  one_line tag (elements.Link e) color other (IsClosing closing is) (IsPlain v plain onward by) = absurd (cc (plain, closing))
  one_line tag (elements.Link e) color other (IsClosing closing is) (IsClosing closing' is') = is ∙ sym is'

  pub one_choice : (x : Element) (color other : Color) → IsOrderChoice og.g og.root og.w s t x color
      → IsOrderChoice og.g og.root og.w s t x other → color ≡ other
  one_choice x color other choice choice' =
      let rows =
      one_row og s choice.between.source choice.its_row.rows choice'.its_row.rows choice.its_row.by_table choice'.its_row.by_table t
      choice.between.target choice.between.share.two in
      let same : choice.row ≡ choice'.row =
      same_Some choice.row choice'.row (sym choice.its_row.is ∙ rows ∙ choice'.its_row.is) in
      one_line choice'.row.tag x color other
      (subst (λ (r : Row). LineFor r.tag og.g og.w s t x color) same choice.by_tag) choice'.by_tag

  -- each test is had
  leads_test : (dir : Dir) (x : ℕ) → s < length og.g.ids → x < length og.g.ids → (test : Bool) × Decides test (LeadsTo og.g og.w dir s x)
  leads_test dir x s_within x_within =
      let hop = has_hop og dir s x s_within x_within in (is_some hop.0, hop_tells og.g og.w dir s x hop.0 hop.1)

  -- whether a node is under s, and whether a plain link is under it, and over it
  under_node : (f : ℕ) → s < length og.g.ids → f < length og.g.ids → (test : Bool) × Decides test (IsUnderNode og.g og.w s f)
  under_node f s_within within =
      let down = leads_test Down f s_within within in (f == og.w.head s || down.0, Decides-or _ _ (Decides-eqb f (og.w.head s)) down.1)

  under_link : (v : ℕ) → s < length og.g.ids → v < length og.g.ids → (test : Bool) × Decides test (IsUnderLink og.g og.w s v)
  under_link v s_within within =
      let down = leads_test Down v s_within within in (v == s || down.0, Decides-or _ _ (Decides-eqb v s) down.1)

  over_link : (u : ℕ) → s < length og.g.ids → u < length og.g.ids → (test : Bool) × Decides test (IsOverLink og.g og.w s u)
  over_link u s_within within =
      let up = leads_test Up u s_within within in
      (u == s || (og.w.block u == og.w.block s && up.0), Decides-or _ _ (Decides-eqb u s) (Decides-and _ _ (Decides-eqb (og.w.block u) (og.w.block s)) up.1))

  -- where the tag is not Unordered, the numbers alone tell the color
  numbers_tell : (u v : ℕ) (Under Over : Type 0) (table : OrderTests → Color) → ((x : OrderTests) (under over : Bool) → table x ≡ table (record x { under = under; over = over }))
      → (under : Bool) × Decides under Under → (over : Bool) × Decides over Over → (x : OrderTests) → AreNumbers og.w s t u v x
      → ByTests (AreTests og.w s t u v Under Over) table (table x)
  numbers_tell u v Under Over table same under over x are = record {
    tests = record x { under = under.0; over = over.0 };
    mean = record { numbers = record { source = are.source; to = are.to; from = are.from; onto = are.onto }; under = under.1; over = over.1 };
    color_is = same x under.0 over.0;
  }

  pub node_by_numbers : (tag : Tag) → tag ≢ Unordered → (f : ℕ) → s < length og.g.ids → f < length og.g.ids → (x : OrderTests) → AreNumbers og.w s t f f x
      → ByTests (AreNodeTests og.g og.w s t f) (node_color tag) (node_color tag x)
  node_by_numbers tag other f s_within within =
      numbers_tell f f (IsUnderNode og.g og.w s f) (LeadsTo og.g og.w Up s f) (node_color tag) (same tag other) (under_node f s_within within) (leads_test Up f s_within within)
    where
      same : (tag : Tag) → tag ≢ Unordered → (x : OrderTests) (under over : Bool) → node_color tag x ≡ node_color tag (record x { under = under; over = over })
      same Unordered other x under over = absurd (other refl)
      same Head other x under over = refl
      same Top other x under over = refl
      same Below other x under over = refl
      same Above other x under over = refl
      same Sole other x under over = refl
      same Carried other x under over = refl

  pub plain_by_numbers : (tag : Tag) → tag ≢ Unordered → (u v : ℕ) → s < length og.g.ids → u < length og.g.ids → v < length og.g.ids → (x : OrderTests)
      → AreNumbers og.w s t u v x → ByTests (AreLinkTests og.g og.w s t u v) (plain_color tag) (plain_color tag x)
  plain_by_numbers tag other u v s_within u_within v_within =
      numbers_tell u v (IsUnderLink og.g og.w s v) (IsOverLink og.g og.w s u) (plain_color tag) (same tag other) (under_link v s_within v_within) (over_link u s_within u_within)
    where
      same : (tag : Tag) → tag ≢ Unordered → (x : OrderTests) (under over : Bool) → plain_color tag x ≡ plain_color tag (record x { under = under; over = over })
      same Unordered other x under over = absurd (other refl)
      same Head other x under over = refl
      same Top other x under over = refl
      same Below other x under over = refl
      same Above other x under over = refl
      same Sole other x under over = refl
      same Carried other x under over = refl

  some_line : (tag : Tag) (m : ℕ) → ((e : ℕ) → e < length og.g.links → og.w.lies_in e ≡ og.w.block m → og.w.role e ≢ roles.Sole) → s < length og.g.ids → (x : Element)
      → LiesIn og.g og.w (og.w.block m) (og.w.head m) x → (color : Color) × LineFor tag og.g og.w s t x color
  some_line tag m none_sole s_within (elements.Node f) lies =
      some_by_tests og.w s t f f _ _ (node_color tag) (under_node f s_within lies.within) (leads_test Up f s_within lies.within)
  some_line tag m none_sole s_within (elements.Link e) lies = go (og.w.role e) refl
    where
      go : (role : Role) → og.w.role e ≡ role → (color : Color) × LinkLine tag og.g og.w s t e color
      go roles.Plain is =
          let v = og.ordered.links.directed e lies.within in
          let u = og.w.tail e in
          let in_range = within og.g e u v.0 og.kept v.1 in
          let by =
          some_by_tests og.w s t u v.0 _ _ (plain_color tag) (under_link v.0 s_within in_range.to) (over_link u s_within in_range.from) in
          (by.0, IsPlain v.0 is v.1 by.1)
      go roles.Sole is = absurd (none_sole e lies.within lies.in_block is)
      go roles.Closing is = (closing_color tag, IsClosing is refl)

  pub some_choice : (x : Element) → IsBetween og.g og.w s t x → (color : Color) × IsOrderChoice og.g og.root og.w s t x color
  some_choice x between =
      let it = shared_ring og s t between.block between.head between.source between.target between.share in
      let rows = some_rows og s between.source in
      let its = rows.1 t between.target it.sharing.two in
      let line =
      some_line its.row.tag it.m it.ring.closed.none_sole between.source x
      (subst (λ (h : ℕ). LiesIn og.g og.w (og.w.block it.m) h x) it.head (subst (λ (k : ℕ). LiesIn og.g og.w k between.head x) it.block between.lies)) in (
        line.0,
        record {
          between = between;
          row = its.row;
          its_row = record { rows = rows.0; by_table = rows.1; is = its.is };
          of_table = row_of_table og it.m it.ring s t it.sharing its.row.tag rows.0 its.row its.line;
          by_tag = line.1;
        },
      )

  -- and so for what lies in their block, and is neither of the two
  pub choice_for : (k h : ℕ) (x : Element) → s < length og.g.ids → t < length og.g.ids → HaveCommonBlockOfMoreLinks og.g og.w s t k h
      → LiesIn og.g og.w k h x → IsNeitherEnd x s t → (color : Color) × IsOrderChoice og.g og.root og.w s t x color
  choice_for k h x source target shares lies neither =
      some_choice x (record { source = source; target = target; block = k; head = h; share = shares; lies = lies; neither = neither })
