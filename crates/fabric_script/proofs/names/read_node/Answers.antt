use Rattle.std.proofs.Common.{◌∙◌, ap, codes, sym, take, Some}
use Rattle.std.proofs.lemmas.Slice.Eq.{bytes_eq-Decides}
use Rattle.mrt_graph.specs.declared.node_id.Kind.{Kind}
use Rattle.fabric_script.proofs.NamesRead.{named_by_prefix}
use Rattle.fabric_script.proofs.names.read_node.Goals as goal

pub returns-in-Some-clause-only : goal.returns-in-Some-clause-only
returns-in-Some-clause-only c = λ id small spelled.
    let cases = rw c.as_slice.ensures at c.in-Some.ensures.cases in
    let named = named_by_prefix c.args.text.now c.in-Some.address.now id small spelled
    ((bytes_eq-Decides (take 4 c.args.text.now) (codes "net:")).0 cases.0) cases.1 in
    c.node_of.ensures.only id.number small named.1 ∙ ap (λ (kind : Kind). Some (record { kind = kind; number = id.number })) (sym named.0)
