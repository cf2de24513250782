use Rattle.std.proofs.Common.{subst}
use Rattle.fabric.specs.OutcomeText.{IsTellable}
use Rattle.fabric.specs.Viewed.{parts_of}
use Rattle.area_graph.specs.Parts.{AreaParts}
use Rattle.fabric.proofs.RunsOn.{told_one}
use Rattle.fabric.proofs.telling.tell.Goals as goal

pub push_answer_line-requires : goal.push_answer_line-requires
push_answer_line-requires g c =
    subst (λ (area : AreaParts). IsTellable area.ids c.apply-answer.result) c.requires.area c.apply-answer.ensures.told

pub returns-clause-told : goal.returns-clause-told
returns-clause-told g c =
    told_one c.push_answer_line.result (parts_of g.R.RowsOf.rows c.args.fabric.now.tables) c.args.fabric.now.state c.apply-answer.new.self.state c.args.event c.apply-answer.result
    c.args.text.now.items c.push_answer_line.new.text.items c.apply-answer.ensures.step (rw (← c.requires.area) at c.push_answer_line.ensures.added)
