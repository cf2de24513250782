use Rattle.std.proofs.Common.{◌∙◌, ◌<◌, ℕ, get_or, length, ap, arith}
use Rattle.std.proofs.lemmas.Grind.{get_or_default_zero}
use Rattle.std.proofs.lemmas.List.{get_or-set_other, get_or-set_same}
use Rattle.block_spf.specs.steps.Side.{link_of_lesser}
use Rattle.block_spf.proofs.side.take_at.Goals as goal

pub returns : goal.returns
returns c =
    let costs = c.args.costs.now in
    let links = c.args.links.now in
    let j = c.args.j in
    let within : j < length links = omega (arith, c.requires.place, c.requires.one_link_each) in
    record {
      here = get_or-set_same costs j c.either.result 0 c.requires.place ∙ c.either.ensures;
      link_here = get_or-set_same links j c.either-2.result 0 within ∙ c.either-2.ensures
          ∙ ap (λ (l : ℕ). link_of_lesser c.args.cost (get_or costs j 0) c.args.link l) (c.index-links-j.is ∙ get_or_default_zero links j c.index-links-j.result within);
      elsewhere = λ i other. get_or-set_other costs j i c.either.result 0 other;
      links_elsewhere = λ i other. get_or-set_other links j i c.either-2.result 0 other;
    }
