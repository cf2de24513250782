use Rattle.std.proofs.Common.{◌∙◌, sym}
use Rattle.mrt_rows.proofs.MemberRows.{member_above, member_below, member_unordered}
use Rattle.mrt_rows.proofs.row_over.member_row.Goals as goal

pub returns-then-get : goal.returns-then-get
returns-then-get c = member_below c.args.links.now c.args.home.now (λ same. c.if-get.true (c.get.ensures.value ∙ same))

pub returns-then-get-2 : goal.returns-then-get-2
returns-then-get-2 c =
    member_above c.args.links.now c.args.home.now (sym c.get.ensures.value ∙ c.if-get.false) (λ same. c.if-get-2.true (c.get-2.ensures.value ∙ same))

pub returns : goal.returns
returns c =
    member_unordered c.args.links.now c.args.home.now (sym c.get.ensures.value ∙ c.if-get.false) (sym c.get-2.ensures.value ∙ c.if-get-2.false)
