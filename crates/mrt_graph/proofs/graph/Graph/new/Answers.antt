use Rattle.std.proofs.Common.{◌≡◌, ◌∙◌, ◌≤◌, ◌↔◌, ℕ, List, Result, Ok, Err, length, map, refl, ap, arith, rules}
use Rattle.mrt_graph.specs.declared.graph_error.GraphError.{GraphError}
use Rattle.mrt_graph.specs.declared.link.LinkIn.{LinkIn}
use Rattle.mrt_graph.specs.EndsOfLinks.{pair_of}
use Rattle.mrt_graph.specs.steps.GraphInvariant.{lists_of}
use Rattle.mrt_graph.specs.NewGraph.{IsTooLarge, too_large}
use Rattle.mrt_graph.proofs.graph.Graph.new.Goals as goal
use Rattle.mrt_graph.proofs.MadeGraph.{made_keeps, within_of}

-- of so few nodes and links a graph is made
made_fits : {A : Type 0} (nodes links : ℕ) (graph : A) → nodes ≤ 4096 → links ≤ 16384
    → IsTooLarge nodes links ↔ ◌≡◌ {A = Result A GraphError} (Ok graph) (Err (too_large nodes links))
made_fits nodes links graph few_nodes few_links = (λ large. absurd (omega (arith, large, few_nodes, few_links)), λ same. absurd (cc))

pub end_lists-requires-clause-within : goal.end_lists-requires-clause-within
end_lists-requires-clause-within c =
    let count : c.len-2.result ≡ length c.args.ids.items = omega arith in
    rw (count, c.deref.ensures.value) (within_of c.args.ids.items c.args.links.items c.requires.links_between)

pub invariant_of-result : goal.invariant_of-result
invariant_of-result c =
    let count : c.len-2.result ≡ length c.args.ids.items = omega arith in
    let few_nodes : length c.args.ids.items ≤ 4096 = omega arith in
    let few_links : length c.args.links.items ≤ 16384 = omega arith in
    rw (c.in_ok-links.ensures, c.deref-2.ensures.value)
    (made_keeps c.args.ids.items c.args.links.items (lists_of c.in_ok-ends.ends.items) c.requires few_nodes few_links (rw c.deref.ensures.value at c.in_ok-ends.ensures.range)
    (rw (count, c.deref.ensures.value) at c.in_ok-ends.ensures.lists))

pub returns-then-len-gt-MAX_NODES-clause-too_large : goal.returns-then-len-gt-MAX_NODES-clause-too_large
returns-then-len-gt-MAX_NODES-clause-too_large c = search rules

pub returns-clause-made : goal.returns-clause-made
returns-clause-made c =
    let count : c.len-2.result ≡ length c.args.ids.items = omega arith in
    record {
      same_ids = refl;
      same_links = c.in_ok-links.ensures ∙ ap (λ (links : List LinkIn). map pair_of links) c.deref-2.ensures.value;
      end_lists = rw (count, c.deref.ensures.value) at c.in_ok-ends.ensures.lists;
    }

pub returns-clause-too_large : goal.returns-clause-too_large
returns-clause-too_large c = made_fits _ _ _ (omega arith) (omega arith)
