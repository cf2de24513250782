use Rattle.std.proofs.Common.{◌≡◌, ◌∙◌, ℕ, Bool, false, get_or, length, refl, subst, arith}
use Rattle.std.proofs.lemmas.Bool.{eqb-false}
use Rattle.std.proofs.lemmas.Option.{slice_get_read}
use Rattle.mrt_rows.specs.steps.ListedDirections.{directions_by}
use Rattle.mrt_rows.proofs.MarkedHeads.{none_among_more}
use Rattle.mrt_rows.proofs.SoleRows.{sole_at}
use Rattle.mrt_rows.proofs.common.Common.is_among_more.Goals as goal

pub index-requires : goal.index-requires
index-requires c = omega (arith, c.args.self.now.heads.small, c.get-at.ensures.value, c.requires.node, c.requires.common.a_mark_each)

pub index-requires-2 : goal.index-requires-2
index-requires-2 c = omega (arith, c.args.self.now.soles.small, c.get-at.ensures.value, c.requires.node, c.requires.common.soles.one_each)

pub returns : goal.returns
returns c = λ some t t_within shares.
    let g = c.args.rooted.now.graph.now in
    let w = directions_by c.args.rooted.now in
    let common = c.requires.common in
    let bare = slice_get_read c.args.self.now.heads.items (length c.args.self.now.heads.items) c.args.s false refl
    (omega (arith, c.requires.node, common.a_mark_each))
    (subst (λ (i : ℕ). false ≡ get_or c.args.self.now.heads.items i false) c.get-at.ensures.value
    (subst (λ (b : Bool). b ≡ get_or c.args.self.now.heads.items c.get-at.result b) c.if-index.false c.index.ensures)) in
    let sole = sole_at g w c.args.self.now.soles.items c.get-at.result c.args.s c.index-2.result.now common.soles c.get-at.ensures.value c.requires.node
    c.index-2.ensures in
    none_among_more g w c.args.self.now.heads.items c.args.s t c.index-2.result.now common.marked bare sole
    (λ none. eqb-false c.get.result 65535 some (c.get.ensures.value ∙ none)) t_within shares
