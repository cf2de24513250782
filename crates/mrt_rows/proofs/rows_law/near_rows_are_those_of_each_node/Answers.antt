use Rattle.std.proofs.Common.{◌≡◌, ◌∙◌, ◌+◌, ◌-◌, ◌*◌, ℕ, List, drop, filter, length, take, ap, arith}
use Rattle.std.proofs.Math.Seq.{take-add}
use Rattle.std.proofs.lemmas.List.Elements.{filter-append}
use Rattle.mrt_graph.specs.declared.cert.Row.{Row}
use Rattle.mrt_graph.specs.Tags.{is_near}
use Rattle.mrt_rows.proofs.rows_law.near_rows_are_those_of_each_node.Goals as goal

pub returns-clause-more : goal.returns-clause-more
returns-clause-more c = λ cert s.
    let m = length cert.nodes - 1 in
    let next : (s + 1) * m ≡ s * m + m = omega arith in
    ap (λ (k : ℕ). filter is_near (take k cert.rows)) next ∙ ap (λ (rows : List Row). filter is_near rows) (take-add (s * m) m cert.rows)
    ∙ filter-append is_near (take (s * m) cert.rows) (take m (drop (s * m) cert.rows))
