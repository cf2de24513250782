use Rattle.std.proofs.Common.{◌∙◌, arith, sym}
use Rattle.primary_alt.proofs.ColorsUse.{agree, differ}
use Rattle.mrt_report.specs.steps.Viewed.{viewed}
use Rattle.mrt_report.proofs.Telling.{IsStepOn, both_begin, both_end, both_go_on, both_settled, both_stop}
use Rattle.mrt_report.proofs.uses.uses_of.Goals as goal

pub loop-left-init : goal.loop-left-init
loop-left-init g c = (
  c.requires.kept.within,
  rw (c.node_count-left.ensures.count) (both_begin (viewed g.R.RowsOf.rows c.args.parts.now) c.args.parts.now.to c.args.color c.args.first.now),
  rw (c.node_count-left.ensures.count) (both_begin (viewed g.R.RowsOf.rows c.args.parts.now) c.args.parts.now.to c.args.color c.args.second.now),
)

pub next_hop-hop-requires : goal.next_hop-hop-requires
next_hop-hop-requires g c =
    c.requires.kept.leads_on c.args.color c.loop-left.at c.loop-left.invariant.0
    (differ _ _ (sym c.ne.ensures ∙ c.if-ne.true))

pub loop-left-preserved : goal.loop-left-preserved
loop-left-preserved g c =
    let hop : IsStepOn (viewed g.R.RowsOf.rows c.args.parts.now) c.args.parts.now.to c.args.color c.loop-left.left c.loop-left.at c.next_hop-hop.result.link c.next_hop-hop.result.to = record {
      some = omega (arith, c.loop-left-test.true);
      other = differ _ _ (sym c.ne.ensures ∙ c.if-ne.true);
      hop = c.next_hop-hop.ensures.hop;
    } in (
      c.next_hop-hop.ensures.to,
      both_go_on (viewed g.R.RowsOf.rows c.args.parts.now) c.args.parts.now.to c.args.color c.loop-left.left c.loop-left.at _ _ c.args.first.now c.loop-left.uses.first _ hop
          c.uses_after.ensures.link c.uses_after.ensures.node c.loop-left.invariant.1,
      both_go_on (viewed g.R.RowsOf.rows c.args.parts.now) c.args.parts.now.to c.args.color c.loop-left.left c.loop-left.at _ _ c.args.second.now c.loop-left.uses.second _ hop
          c.uses_after-in-loop-left.ensures.link c.uses_after-in-loop-left.ensures.node c.loop-left.invariant.2,
    )

pub returns-else-ne-clause-first : goal.returns-else-ne-clause-first
returns-else-ne-clause-first g c =
    both_end (viewed g.R.RowsOf.rows c.args.parts.now) c.args.parts.now.to c.args.color c.loop-left.left c.loop-left.at c.args.first.now c.loop-left.uses.first
    (agree _ _ (sym c.ne.ensures ∙ c.if-ne.false)) c.loop-left.invariant.1

pub returns-else-ne-clause-second : goal.returns-else-ne-clause-second
returns-else-ne-clause-second g c =
    both_end (viewed g.R.RowsOf.rows c.args.parts.now) c.args.parts.now.to c.args.color c.loop-left.left c.loop-left.at c.args.second.now c.loop-left.uses.second
    (agree _ _ (sym c.ne.ensures ∙ c.if-ne.false)) c.loop-left.invariant.2

pub returns-after-loop-left-clause-first : goal.returns-after-loop-left-clause-first
returns-after-loop-left-clause-first g c =
    both_stop (viewed g.R.RowsOf.rows c.args.parts.now) c.args.parts.now.to c.args.color c.loop-left.left c.loop-left.at c.args.first.now c.loop-left.uses.first
    (omega (arith, c.loop-left-test.false)) c.loop-left.invariant.1

pub returns-after-loop-left-clause-second : goal.returns-after-loop-left-clause-second
returns-after-loop-left-clause-second g c =
    both_stop (viewed g.R.RowsOf.rows c.args.parts.now) c.args.parts.now.to c.args.color c.loop-left.left c.loop-left.at c.args.second.now c.loop-left.uses.second
    (omega (arith, c.loop-left-test.false)) c.loop-left.invariant.2

pub returns-then-are_told-2-clause-first : goal.returns-then-are_told-2-clause-first
returns-then-are_told-2-clause-first g c =
    both_settled (viewed g.R.RowsOf.rows c.args.parts.now) c.args.parts.now.to c.args.color c.loop-left.left c.loop-left.at c.args.first.now c.loop-left.uses.first
    (c.are_told.ensures.0 c.if-are_told.true) c.loop-left.invariant.1

pub returns-then-are_told-2-clause-second : goal.returns-then-are_told-2-clause-second
returns-then-are_told-2-clause-second g c =
    both_settled (viewed g.R.RowsOf.rows c.args.parts.now) c.args.parts.now.to c.args.color c.loop-left.left c.loop-left.at c.args.second.now c.loop-left.uses.second
    (c.are_told-then-are_told.ensures.0 c.if-are_told-2.true) c.loop-left.invariant.2
