use Rattle.std.proofs.Common.{rules, ◌≡◌, ◌∙◌, ℕ, List, length, sym, ap, subst, arith}
use Rattle.std.specs.List.{remove}
use Rattle.std.proofs.lemmas.List.{with_items_is}
use Rattle.mrt_graph.specs.declared.cert.Row.{Row}
use Rattle.mrt_rows.specs.RowsOf.{AreRowsOf}
use Rattle.mrt_rows.proofs.Filling.{rows_removed}
use Rattle.mrt_rows.proofs.Rooting.{og_of, row_too, rooted_by}
use Rattle.mrt_rows.proofs.of_source.rows_of.Goals as goal

pub new-requires-clause-rooted : goal.new-requires-clause-rooted
new-requires-clause-rooted c = rooted_by c.args.g.now c.args.root c.args.d.now c.node_count-count.ensures.kept c.requires.directed

pub open_for-requires-clause-rooted : goal.open_for-requires-clause-rooted
open_for-requires-clause-rooted c = rooted_by c.args.g.now c.args.root c.args.d.now c.node_count-count.ensures.kept c.requires.directed

pub put_rows-requires-clause-rooted : goal.put_rows-requires-clause-rooted
put_rows-requires-clause-rooted c = rooted_by c.args.g.now c.args.root c.args.d.now c.node_count-count.ensures.kept c.requires.directed

pub put_rows-requires-clause-one_each : goal.put_rows-requires-clause-one_each
put_rows-requires-clause-one_each c =
    let made : length c.in_ok-rows.rows.items ≡ c.node_count-count.result = search rules in
    ap (λ (xs : List Row). length xs) c.deref_mut.ensures.value ∙ made ∙ c.node_count-count.ensures.count

pub remove-requires : goal.remove-requires
remove-requires c =
    let made : length c.in_ok-rows.rows.items ≡ c.node_count-count.result = search rules in
    omega (arith, c.in_ok-rows.rows.ok.0, made, c.node_count-count.ensures.count, c.requires.source, c.get.ensures.value)

pub returns : goal.returns
returns c = λ w says.
    let g = c.args.g.now in
    let root = c.args.root in
    let s = c.args.source in
    let rooted = rooted_by g root c.args.d.now c.node_count-count.ensures.kept c.requires.directed in
    let put = c.put_rows.new.rows in
    let same = with_items_is c.in_ok-rows.rows put (c.put_rows.auto.rows ∙ c.deref_mut.ensures.len) in
    let are = rows_removed (og_of rooted) s put c.requires.source c.put_rows.ensures.one_each c.put_rows.ensures.rows in
    subst (λ (xs : List Row). AreRowsOf g root w s xs)
    (sym (c.remove.ensures.items ∙ ap (λ (xs : List Row). remove xs c.get.result) same ∙ ap (λ (i : ℕ). remove put i) c.get.ensures.value))
    (record {
      one_each = are.one_each;
      each = λ t t_within two. row_too rooted w says s t _ c.requires.source t_within (are.each t t_within two);
    })
