use Rattle.std.proofs.Common.{length, not, ap, arith}
use Rattle.std.proofs.lemmas.List.Sums.{count_by-le-length}
use Rattle.mrt_graph.proofs.node_search.NodeSearch.new.Goals as goal

pub invariant_of-search : goal.invariant_of-search
invariant_of-search c =
    let none = ap length c.in_ok-found.ensures.items in (
      omega (
        arith,
        none,
        count_by-le-length not c.in_ok-marks.marks.items,
        c.in_ok-marks.ensures.len,
        c.in_ok-marks.marks.ok.0,
        c.in_ok-found.ensures.exact,
      ),
      omega arith,
      λ k below. absurd (omega (arith, none, below)),
    )
