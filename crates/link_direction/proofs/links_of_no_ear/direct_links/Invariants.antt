use Rattle.link_direction.specs.steps.LinksOfNoEar.{AreLinksDirected}
use Rattle.link_direction.proofs.links_of_no_ear.direct_links.Given as goal

abbrev pub invariant-loop-e : goal.invariant-loop-e
invariant-loop-e l = AreLinksDirected l.g l.numbers l.e l.initial.marks.items l.marks.items
