use Rattle.std.proofs.Common.{ℕ, List, Option, length, sym, subst}
use Rattle.mrt_graph.specs.declared.cert.Row.{Row}
use Rattle.mrt_graph.specs.Column.{ColumnSound}
use Rattle.mrt_rows.specs.ColumnOf.{IsColumnOf}
use Rattle.mrt_rows.proofs.Rooting.{column_too, rooted_by}
use Rattle.mrt_rows.proofs.column_view.column_of.Goals as goal

pub new-requires-clause-rooted : goal.new-requires-clause-rooted
new-requires-clause-rooted c = rooted_by c.args.g.now c.args.root c.args.d.now c.node_count-count.ensures.kept c.requires.directed

pub aim-aimed-requires-clause-rooted : goal.aim-aimed-requires-clause-rooted
aim-aimed-requires-clause-rooted c = rooted_by c.args.g.now c.args.root c.args.d.now c.node_count-count.ensures.kept c.requires.directed

pub returns-clause-rows : goal.returns-clause-rows
returns-clause-rows c = λ w says.
    let g = c.args.g.now in
    let rooted = rooted_by g c.args.root c.args.d.now c.node_count-count.ensures.kept c.requires.directed in
    subst (λ (column : List (Option Row)). IsColumnOf g c.args.root w c.args.to column) (sym c.in_ok-column.ensures)
    (subst (λ (t : ℕ). IsColumnOf g c.args.root w t c.new-2.result) c.aim-aimed.ensures.node
    (column_too rooted w says c.aim-aimed.result.node c.new-2.result c.new-2.ensures))

pub returns-clause-sound : goal.returns-clause-sound
returns-clause-sound c =
    let g = c.args.g.now in
    let w = c.requires.directed.directions in
    subst (λ (column : List (Option Row)). ColumnSound g.links (length g.ids) column c.args.to) (sym c.in_ok-column.ensures)
    (c.columns_are_sound.ensures g c.args.root w c.args.to c.new-2.result c.node_count-count.ensures.kept c.requires.directed.ordered c.requires.to
    (subst (λ (column : List (Option Row)). IsColumnOf g c.args.root w c.args.to column) c.in_ok-column.ensures
    (returns-clause-rows c w c.requires.directed.says)))
