use Rattle.std.proofs.Common.{◌∙◌, length, sym, ap}
use Rattle.std.proofs.lemmas.List.{length-map}
use Rattle.mrt_island.proofs.Choosing.{chosen_links}
use Rattle.mrt_island.proofs.Pairing.{are_members, are_pairs}
use Rattle.mrt_island.specs.Eligible.{is_eligible}
use Rattle.mrt_island.specs.Policy.{policy_of}
use Rattle.mrt_island.proofs.extent.extent_of.Goals as goal

pub returns-clause-nodes : goal.returns-clause-nodes
returns-clause-nodes c = λ s.
    are_members (policy_of c.args.profile.now) c.args.area.now c.deref.result.now c.in_ok-nodes.nodes.items c.args.start s (c.deref.ensures.value ∙ c.in_ok-eligible.ensures)
    (c.in_ok-nodes.ensures.reached s)

pub returns-clause-links : goal.returns-clause-links
returns-clause-links c =
    c.in_ok-links.ensures
    ∙ rw (c.deref-2.ensures.value, c.deref-3.ensures.value, c.bonds.ensures.value, c.in_ok-eligible.ensures)
    (chosen_links (policy_of c.args.profile.now) c.args.area.now.ids c.in_ok-nodes.nodes.items c.args.area.now.bonds)

pub settle-requires-clause-flags : goal.settle-requires-clause-flags
settle-requires-clause-flags c =
    ap length (c.deref.ensures.value ∙ c.in_ok-eligible.ensures) ∙ length-map c.args.area.now.bonds (is_eligible (policy_of c.args.profile.now) c.args.area.now.ids)

pub settle-requires-clause-pairs : goal.settle-requires-clause-pairs
settle-requires-clause-pairs c =
    are_pairs (policy_of c.args.profile.now) c.args.area.now.ids c.args.area.now.bonds c.deref.result.now (c.deref.ensures.value ∙ c.in_ok-eligible.ensures)

pub choose-requires-clause-flags : goal.choose-requires-clause-flags
choose-requires-clause-flags c =
    ap length (c.deref-2.ensures.value ∙ c.in_ok-eligible.ensures)
    ∙ length-map c.args.area.now.bonds (is_eligible (policy_of c.args.profile.now) c.args.area.now.ids) ∙ ap length (sym c.bonds.ensures.value)
