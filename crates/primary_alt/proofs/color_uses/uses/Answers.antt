use Rattle.std.proofs.Common.{◌∙◌, arith, refl, sym, length, true≢false}
use Rattle.mrt_graph.specs.Hop.{color_hop}
use Rattle.mrt_graph.proofs.Bridge.{color_leads}
use Rattle.mrt_graph.proofs.LeadsOn.{sound-hop}
use Rattle.primary_alt.proofs.ColorsUse.{agree, differ, way_begins, way_ends, way_goes_on, way_meets, way_stops}
use Rattle.primary_alt.proofs.color_uses.uses.Goals as goal

pub loop-left-init : goal.loop-left-init
loop-left-init g c = (
  c.requires.source,
  rw (c.node_count-left.ensures.count) (way_begins c.args.g.now.links (color_hop c.args.g.now.links (g.R.RowsOf.rows c.args.rows.now) c.args.color c.args.t) c.args.t c.args.x.now c.args.s
      (length c.args.g.now.ids) c.requires.between),
)

pub next_hop-hop-requires : goal.next_hop-hop-requires
next_hop-hop-requires g c =
    let apart = differ _ _ (sym c.ne.ensures ∙ c.if-ne.true) in
    sound-hop c.args.g.now.links (length c.args.g.now.ids) (g.R.RowsOf.rows c.args.rows.now) c.args.color c.loop-left.at c.args.t apart
    (c.requires.sound c.loop-left.at c.loop-left.invariant.0 apart)

pub returns-then-is_over : goal.returns-then-is_over
returns-then-is_over g c = (
  λ is. way_meets c.args.g.now.links _ (color_leads c.args.g.now.links (g.R.RowsOf.rows c.args.rows.now) c.args.color c.args.t) c.args.t c.args.x.now _ c.args.s
      c.loop-left.left c.loop-left.at _ _ (omega (arith, c.loop-left-test.true)) (differ _ _ (sym c.ne.ensures ∙ c.if-ne.true)) c.next_hop-hop.ensures.hop
      (c.is_over.ensures.0 c.if-is_over.true) c.loop-left.invariant.1,
  λ uses. refl,
)

pub loop-left-preserved : goal.loop-left-preserved
loop-left-preserved g c = (
  c.next_hop-hop.ensures.to,
  way_goes_on c.args.g.now.links _ (color_leads c.args.g.now.links (g.R.RowsOf.rows c.args.rows.now) c.args.color c.args.t) c.args.t c.args.x.now _ c.args.s
      c.loop-left.left c.loop-left.at _ _ (omega (arith, c.loop-left-test.true)) (differ _ _ (sym c.ne.ensures ∙ c.if-ne.true)) c.next_hop-hop.ensures.hop
      (λ over. absurd (true≢false (sym (c.is_over.ensures.1 over) ∙ c.if-is_over.false))) c.loop-left.invariant.1,
)

pub returns-else-ne : goal.returns-else-ne
returns-else-ne g c = (
  λ never. absurd (true≢false (sym never)),
  λ uses. absurd (way_ends c.args.g.now.links _ c.args.t c.args.x.now _ c.args.s c.loop-left.left c.loop-left.at (agree _ _ (sym c.ne.ensures ∙ c.if-ne.false)) c.loop-left.invariant.1 uses),
)

pub returns-after-loop-left : goal.returns-after-loop-left
returns-after-loop-left g c = (
  λ never. absurd (true≢false (sym never)),
  λ uses. absurd (way_stops c.args.g.now.links _ c.args.t c.args.x.now _ c.args.s c.loop-left.left c.loop-left.at (omega (arith, c.loop-left-test.false)) c.loop-left.invariant.1 uses),
)
