use Rattle.std.proofs.Common.{◌≢◌, ◌∙◌, Option, Some, sym, subst}
use Rattle.std.proofs.lemmas.Bool.{eqb-false, eqb-true}
use Rattle.mrt_graph.specs.declared.cert.Row.{Row}
use Rattle.mrt_rows.specs.steps.ColumnOf.{IsRowIn}
use Rattle.mrt_rows.specs.steps.NearOf.{IsNearRow}
use Rattle.mrt_rows.specs.steps.ListedDirections.{directions_by}
use Rattle.mrt_rows.proofs.ChainAims.{aim_apart}
use Rattle.mrt_rows.proofs.ColumnRows.{row_at_aim, row_from_aim, some_near}
use Rattle.mrt_rows.proofs.Rooting.{og_of}
use Rattle.mrt_rows.proofs.column.Columns.row.Goals as goal

pub returns-in_err-row : goal.returns-in_err-row
returns-in_err-row c =
    let rooted = c.args.rooted.now in
    let aimed = c.requires.aimed in
    let og = og_of aimed.rooted in
    let s = c.args.s in
    let t = c.args.to.node in
    let aim = c.aim_of-aim.result in
    let below = c.args.self.now.below.items in
    let apart : s ≢ aim = λ same. aim_apart og t aimed.within below aimed.below s aim c.requires.source c.requires.two c.aim_of-aim.ensures (sym same) in
    absurd (some_near og t aimed.within below aimed.below s aim c.requires.source c.requires.two apart c.aim_of-aim.ensures
    (subst (λ (o : Option Row). IsNearRow rooted.graph.now rooted.root (directions_by rooted) s aim o) c.in_err-row.was c.aimed_row.ensures))

pub returns-then-eq : goal.returns-then-eq
returns-then-eq c =
    let rooted = c.args.rooted.now in
    let aimed = c.requires.aimed in
    let og = og_of aimed.rooted in
    let s = c.args.s in
    let t = c.args.to.node in
    let aim = c.aim_of-aim.result in
    let below = c.args.self.now.below.items in
    let apart : s ≢ aim = λ same. aim_apart og t aimed.within below aimed.below s aim c.requires.source c.requires.two c.aim_of-aim.ensures (sym same) in
    row_at_aim og t aimed.within below aimed.below s aim c.requires.source c.requires.two apart c.aim_of-aim.ensures c.in_ok-row.row
    (eqb-true aim t (sym c.eq.ensures ∙ c.if-eq.true))
    (subst (λ (o : Option Row). IsNearRow rooted.graph.now rooted.root (directions_by rooted) s aim o) c.in_ok-row.was c.aimed_row.ensures)

pub returns : goal.returns
returns c =
    let rooted = c.args.rooted.now in
    let aimed = c.requires.aimed in
    let og = og_of aimed.rooted in
    let s = c.args.s in
    let t = c.args.to.node in
    let aim = c.aim_of-aim.result in
    let below = c.args.self.now.below.items in
    let apart : s ≢ aim = λ same. aim_apart og t aimed.within below aimed.below s aim c.requires.source c.requires.two c.aim_of-aim.ensures (sym same) in
    subst (λ (row : Row). IsRowIn rooted.graph.now rooted.root (directions_by rooted) s t (Some row)) (sym c.carried.ensures)
    (row_from_aim og t aimed.within below aimed.below s aim c.requires.source c.requires.two apart c.aim_of-aim.ensures c.in_ok-row.row
    (eqb-false aim t (sym c.eq.ensures ∙ c.if-eq.false))
    (subst (λ (o : Option Row). IsNearRow rooted.graph.now rooted.root (directions_by rooted) s aim o) c.in_ok-row.was c.aimed_row.ensures))
