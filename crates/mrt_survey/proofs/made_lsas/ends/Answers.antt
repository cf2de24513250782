use Rattle.std.proofs.Common.{◌∙◌, ◌+◌, ◌++◌, List, ap, append-nil, sym}
use Rattle.std.specs.List.{enumerate_from, filter_map}
use Rattle.std.proofs.lemmas.List.{drop_all}
use Rattle.mrt_survey.specs.declared.made_link.MadeLink.{MadeLink}
use Rattle.mrt_survey.specs.MadeLsas.{end_at}
use Rattle.mrt_survey.proofs.made_lsas.ends.Goals as goal

pub returns : goal.returns
returns c =
    sym (append-nil c.loop-place.found.items)
    ∙ ap (λ (links : List MadeLink). c.loop-place.found.items
    ++ filter_map (end_at c.args.router) (enumerate_from (1 + c.loop-place.place) links))
    (sym (drop_all c.loop-place.place c.args.links.now c.loop-place-test.false))
    ∙ c.loop-place.invariant
