use Rattle.std.proofs.Common.{◌≡◌, ◌≢◌, ◌∙◌, ◌<◌, [], ℕ, Some, false, length, sym, ap, subst, arith}
use Rattle.std.specs.Option.{option_map}
use Rattle.std.proofs.lemmas.Option.{same_Some}
use Rattle.mrt_graph.specs.Certificate.{certificate_of}
use Rattle.mrt_graph.specs.Kin.{Kin}
use Rattle.mrt_graph.specs.RelatedPairs.{place_of_near}
use Rattle.mrt_graph.specs.Related.{are_unrelated}
use Rattle.mrt_graph.proofs.KinOf.{blocks_count}
use Rattle.mrt_graph.proofs.Unfolding.{near_there, way}
use Rattle.mrt_graph.proofs.unfolded.near_place.Goals.{After-waypoint}
use Rattle.mrt_graph.proofs.unfolded.near_place.Goals as goal

-- the waypoint is another node that is related to s
it : (c : After-waypoint)
    → (c.waypoint.result < length c.args.nodes.now) × (c.args.s ≢ c.waypoint.result)
    × (are_unrelated (certificate_of c.args.nodes.now [] []) c.args.s c.waypoint.result ≡ false)
it c =
    let w = way c.args.nodes.now c.args._near.now c.requires.rows c.args.s c.args.t c.requires.source c.requires.target c.requires.different in
    let same : w.by ≡ c.waypoint.result = same_Some w.by c.waypoint.result (sym w.is ∙ c.waypoint.ensures) in (
      subst (λ (x : ℕ). x < length c.args.nodes.now) same w.within,
      λ e. w.two (e ∙ sym same),
      subst (λ (x : ℕ). are_unrelated (certificate_of c.args.nodes.now [] []) c.args.s x ≡ false) same w.near,
    )

pub place-requires-clause-target : goal.place-requires-clause-target
place-requires-clause-target c =
    let within = (it c).0 in omega (arith, within, ap (λ (x : Kin). length x.blocks) c.requires.index, blocks_count c.args.nodes.now)

pub place-requires-clause-different : goal.place-requires-clause-different
place-requires-clause-different c = (it c).1

pub returns-clause-place : goal.returns-clause-place
returns-clause-place c =
    let cert = certificate_of c.args.nodes.now [] [] in
    ap (option_map (place_of_near cert c.args.s)) c.waypoint.ensures ∙ ap (λ (k : ℕ). Some k) (sym (c.place.ensures cert (sym c.requires.index)))

pub returns-clause-within : goal.returns-clause-within
returns-clause-within c =
    let by = it (goal.at.returns-clause-within c).After-waypoint in
    let at = c.place.ensures (certificate_of c.args.nodes.now [] []) (sym c.requires.index) in
    let there = near_there c.args.nodes.now c.args._near.now c.requires.rows c.args.s c.waypoint.result c.requires.source by.0 by.1 by.2 in
    omega (arith, at, there)
