use Rattle.std.proofs.Common.{◌++◌, ◌∙◌, ℕ, List, ap, sym, subst}
use Rattle.mrt_report.specs.TableText.{IsHead}
use Rattle.mrt_report.proofs.table.table_head.Goals as goal

pub push_head-requires : goal.push_head-requires
push_head-requires c = record { root = c.requires.root; source = c.requires.source }

pub returns : goal.returns
returns c =
    let head = c.in_ok-push_head.ensures in
    subst (IsHead c.args.g.now c.args.root c.args.source) (sym (head.added ∙ ap (λ (xs : List ℕ). xs ++ head.part) c.in_ok-text.ensures.items)) head.is
