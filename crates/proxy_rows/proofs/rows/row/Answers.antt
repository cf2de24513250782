use Rattle.std.proofs.Common.{◌<◌, ◌∙◌, [], length, refl, sym, arith}
use Rattle.std.proofs.lemmas.Bool.{eqb-false, eqb-true}
use Rattle.mrt_graph.specs.declared.cert.Color.TheVariants.{Blue, Red}
use Rattle.proxy_rows.specs.declared.standing.Standing.TheVariants.{Head, OnHigh, OnLow, Other, Outside}
use Rattle.proxy_rows.specs.steps.LabelledGraph.{with_rows, without_rows}
use Rattle.proxy_rows.proofs.AnyRows.{accepted_of, row_given}
use Rattle.proxy_rows.proofs.Grounds.{counts}
use Rattle.proxy_rows.proofs.OutsideRows.{outside_link}
use Rattle.proxy_rows.proofs.Stands.{head_stands, tells}
use Rattle.proxy_rows.proofs.rows.row.Goals as goal

pub stands-standing-requires-clause-within : goal.stands-standing-requires-clause-within
stands-standing-requires-clause-within g c =
    let read = c.requires.read in
    omega (arith, c.requires.within, (counts c.args.words.now.graph.now (with_rows c.args.words.now read.0) c.args.at.now read.1.stands).nodes)

pub head_blue-requires-clause-ground : goal.head_blue-requires-clause-ground
head_blue-requires-clause-ground g c = accepted_of c.args.words.now c.args.at.now (g.R.RowsOf.rows c.args.rows.now) c.requires.read

pub head_red-requires-clause-ground : goal.head_red-requires-clause-ground
head_red-requires-clause-ground g c = accepted_of c.args.words.now c.args.at.now (g.R.RowsOf.rows c.args.rows.now) c.requires.read

pub returns-then-eq : goal.returns-then-eq
returns-then-eq g c rest read =
    let is = c.stands-standing.ensures rest in
    let at_head =
    head_stands c.args.words.now.graph.now.links (with_rows c.args.words.now rest) c.args.at.now c.args.s c.stands-standing.result is
    (eqb-true _ _ (sym c.eq.ensures ∙ c.if-eq.true)) in
    record { standing = Head; stands = rw at_head at is; blue = c.head_blue.ensures rest; red = c.head_red.ensures rest }

pub row_for-row-requires : goal.row_for-row-requires
row_for-row-requires g c =
    row_given c.args.words.now c.args.at.now (g.R.RowsOf.rows c.args.rows.now) c.requires.read.0 c.requires.read.1 c.args.s c.requires.within
    (eqb-false _ _ (sym c.eq.ensures ∙ c.if-eq.false))

pub unreachable-requires : goal.unreachable-requires
unreachable-requires g c =
    let is = rw c.in-Head.is at (c.stands-standing.ensures []) in
    eqb-false _ _ (sym c.eq.ensures ∙ c.if-eq.false)
    (tells c.args.words.now.graph.now.links (without_rows c.args.words.now) c.args.at.now c.args.s Head is)

pub side_out-requires-clause-ground : goal.side_out-requires-clause-ground
side_out-requires-clause-ground g c = accepted_of c.args.words.now c.args.at.now (g.R.RowsOf.rows c.args.rows.now) c.requires.read

pub side_out-requires-clause-on : goal.side_out-requires-clause-on
side_out-requires-clause-on g c =
    tells c.args.words.now.graph.now.links (without_rows c.args.words.now) c.args.at.now c.args.s OnLow (rw c.in-OnLow.is at (c.stands-standing.ensures []))

pub returns-in-OnLow : goal.returns-in-OnLow
returns-in-OnLow g c rest read = record {
  standing = OnLow;
  stands = rw c.in-OnLow.is at (c.stands-standing.ensures rest);
  blue = c.side_out.ensures rest;
  red = record { row = c.row_for-row.result; row_is = read.rows_are c.args.s ∙ c.row_for-row.ensures; out_is = refl };
}

pub side_out-requires-in-OnHigh-clause-ground : goal.side_out-requires-in-OnHigh-clause-ground
side_out-requires-in-OnHigh-clause-ground g c = accepted_of c.args.words.now c.args.at.now (g.R.RowsOf.rows c.args.rows.now) c.requires.read

pub side_out-requires-in-OnHigh-clause-on : goal.side_out-requires-in-OnHigh-clause-on
side_out-requires-in-OnHigh-clause-on g c =
    tells c.args.words.now.graph.now.links (without_rows c.args.words.now) c.args.at.now c.args.s OnHigh (rw c.in-OnHigh.is at (c.stands-standing.ensures []))

pub returns-in-OnHigh : goal.returns-in-OnHigh
returns-in-OnHigh g c rest read = record {
  standing = OnHigh;
  stands = rw c.in-OnHigh.is at (c.stands-standing.ensures rest);
  blue = record { row = c.row_for-row.result; row_is = read.rows_are c.args.s ∙ c.row_for-row.ensures; out_is = refl };
  red = c.side_out-in-OnHigh.ensures rest;
}

pub returns-in-Other : goal.returns-in-Other
returns-in-Other g c rest read =
    let row_is = read.rows_are c.args.s ∙ c.row_for-row.ensures in
    record {
      standing = Other;
      stands = rw c.in-Other.is at (c.stands-standing.ensures rest);
      blue = record { row = c.row_for-row.result; row_is = row_is; out_is = refl };
      red = record { row = c.row_for-row.result; row_is = row_is; out_is = refl };
    }

pub returns-in-Outside : goal.returns-in-Outside
returns-in-Outside g c rest read =
    let words = c.args.words.now in
    let cert = with_rows words rest in
    let at = c.args.at.now in
    let s = c.args.s in
    let is = rw c.in-Outside.is at (c.stands-standing.ensures rest) in
    let outside = tells words.graph.now.links cert at s Outside is in
    let within : s < length cert.nodes = omega (arith, c.requires.within, (counts words.graph.now cert at read.stands).nodes) in
    let row_is = read.rows_are s ∙ c.row_for-row.ensures in
    record {
      standing = Outside;
      stands = is;
      blue = outside_link words.graph.now cert at read.stands Blue s within outside _ (record { row = c.row_for-row.result; row_is = row_is; out_is = refl });
      red = outside_link words.graph.now cert at read.stands Red s within outside _ (record { row = c.row_for-row.result; row_is = row_is; out_is = refl });
    }
