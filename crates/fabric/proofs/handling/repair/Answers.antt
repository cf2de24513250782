use Rattle.std.proofs.Common.{◌∙◌, inl, inr, sym}
use Rattle.fabric.specs.FabricParts.{FabricParts}
use Rattle.fabric.specs.Handling.{IsInside, IsOutside}
use Rattle.fabric.specs.steps.Viewed.{viewed}
use Rattle.fabric.proofs.Islands.{node_within}
use Rattle.fabric.proofs.AcceptedRows.{sound_for}
use Rattle.fabric.proofs.handling.repair.Goals as goal

pub returns-in_err-at : goal.returns-in_err-at
returns-in_err-at g c = rw c.from_residual.ensures (IsOutside (inl (sym c.node_of.ensures ∙ c.in_err-at.was)))

pub returns-in_err-to : goal.returns-in_err-to
returns-in_err-to g c = rw c.from_residual-in_err-to.ensures (IsOutside (inr (sym c.node_of-2.ensures ∙ c.in_err-to.was)))

pub alternate_by-requires-clause-sound : goal.alternate_by-requires-clause-sound
alternate_by-requires-clause-sound g c = λ at within apart.
    let parts : FabricParts = viewed g.R.RowsOf.rows c.args.parts.now in
    let to = sym c.node_of-2.ensures ∙ c.in_ok-to.was in
    sound_for parts at c.in_ok-to.to (c.requires.served.rows c.in_ok-to.to to) within (node_within parts c.requires.kept c.args.packet.now.to c.in_ok-to.to to) apart

pub returns : goal.returns
returns g c =
    IsInside c.in_ok-at.at c.in_ok-to.to c.alternate_by.result (sym c.node_of.ensures ∙ c.in_ok-at.was) (sym c.node_of-2.ensures ∙ c.in_ok-to.was)
    (rw c.element_of-failed.ensures at c.alternate_by.ensures.color)
