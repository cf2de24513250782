use Rattle.mrt_survey.proofs.DrawnLinks.{links_join}
use Rattle.mrt_survey.proofs.made_links.links_from.Goals as goal

pub returns : goal.returns
returns c =
    links_join c.args.number c.args.nodes c.from-nodes.result c.from.result c.push_ring.new.draws.x c.push_chords.new.draws.x
    c.in_ok-links.links.items c.push_ring.new.links.items c.push_chords.new.links.items c.push_spurs.new.links.items
    c.from-nodes.ensures c.from.ensures c.in_ok-links.ensures.items c.push_ring.ensures.drawn c.push_chords.ensures.drawn
    c.push_ring.ensures.added c.push_chords.ensures.added c.push_spurs.ensures.added
