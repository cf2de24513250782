use Rattle.std.proofs.Common.{◌≡◌, ◌∙◌, [], ℕ, Some, get_or, length, sym, ap}
use Rattle.std.specs.Option.{option_map}
use Rattle.std.proofs.lemmas.Bool.{not-false, not-true}
use Rattle.std.proofs.lemmas.List.{get_or_read}
use Rattle.std.proofs.lemmas.Option.{same_Some}
use Rattle.mrt_graph.specs.Certificate.{certificate_of}
use Rattle.mrt_graph.specs.steps.FoldedRows.{near_row_of, no_row, way_of}
use Rattle.mrt_graph.specs.Related.{are_unrelated}
use Rattle.mrt_graph.specs.RelatedPairs.{place_of_near}
use Rattle.mrt_graph.specs.Tags.{carried}
use Rattle.mrt_graph.proofs.Unfolding.{row_far, row_near, way}
use Rattle.mrt_graph.proofs.Waypoints.{at_related}
use Rattle.mrt_graph.proofs.unfolded.unfolded_row.Goals.{After-index-near-near_place}
use Rattle.mrt_graph.proofs.unfolded.unfolded_row.Goals as goal

-- what is read is the row for the waypoint
read : (c : After-index-near-near_place) (w : ℕ) → way_of (certificate_of c.args.nodes.now [] []) c.args.s c.args.t ≡ Some w
    → c.index-near-near_place.result ≡ near_row_of (certificate_of c.args.nodes.now [] []) c.args.near.now c.args.s w
read c w is =
    let place = place_of_near (certificate_of c.args.nodes.now [] []) c.args.s in
    let at : c.near_place.result ≡ place w = same_Some _ _ (sym c.near_place.ensures.place ∙ ap (option_map place) is) in
    get_or_read c.args.near.now c.near_place.result c.index-near-near_place.result c.near_place.ensures.within c.index-near-near_place.is no_row
    ∙ ap (λ (k : ℕ). get_or c.args.near.now k no_row) at

pub returns-then-are_related : goal.returns-then-are_related
returns-then-are_related c =
    let cert = certificate_of c.args.nodes.now [] [] in
    let told = c.are_related.ensures cert (sym c.requires.index) in
    let related = not-true (are_unrelated cert c.args.s c.args.t) (sym told ∙ c.if-are_related.true) in
    read (goal.at.returns-then-are_related c).After-index-near-near_place c.args.t
    (at_related cert c.args.s (length c.args.nodes.now) c.args.t related)
    ∙ sym (row_near c.args.nodes.now c.args.near.now c.requires.rows c.args.s c.args.t related)

pub returns : goal.returns
returns c =
    let cert = certificate_of c.args.nodes.now [] [] in
    let told = c.are_related.ensures cert (sym c.requires.index) in
    let far = not-false (are_unrelated cert c.args.s c.args.t) (sym told ∙ c.if-are_related.false) in
    let w = way c.args.nodes.now c.args.near.now c.requires.rows c.args.s c.args.t c.requires.source c.requires.target c.requires.different in
    c.carried.ensures ∙ ap carried (read (goal.at.returns c).After-index-near-near_place w.by w.is)
    ∙ sym (row_far c.args.nodes.now c.args.near.now c.requires.rows c.args.s c.args.t w.by far w.is)
