use Rattle.std.proofs.Common.{◌∙◌, ℕ, [], ◌∷◌, Some, ap, sym}
use Rattle.fabric.proofs.Placed.{found_node}
use Rattle.mrt_graph.proofs.ListPlaces.{contains_at}
use Rattle.mrt_graph.proofs.Members.{contains_none}
use Rattle.mrt_graph.proofs.Searching.{one_in_one}
use Rattle.mrt_answer.proofs.trace.destination_of.Goals.{in-Some+in_ok-push, in_default}
use Rattle.mrt_answer.proofs.trace.destination_of.Goals as goal

pub returns : goal.returns
returns c = λ t.
    let found = found_node c.args.area.now c.find.result c.args.trace.now.to c.count-count.ensures.kept c.find.ensures.found c.find.ensures.none t in
    elim c.match-find.branch [
      | in-Some+in_ok-push w ↦
          rw (w.spots-is, w.in_ok-push.ensures.items, c.new-spots.ensures.items) (
            λ among. found.0 (w.in-Some.is ∙ ap (λ (k : ℕ). Some k) (sym (one_in_one w.in-Some.spot t among))),
            λ at. contains_at (w.in-Some.spot ∷ []) 0 t (sym w.in-Some.is ∙ found.1 at),
          )
      | in_default w ↦
          rw (w.spots-is, c.new-spots.ensures.items) (λ among. absurd (contains_none t among), λ at. absurd (w.in_default.not-Some t (found.1 at)))
    ]
