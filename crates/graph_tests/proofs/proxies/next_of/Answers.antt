-- An accepted certificate has the graph's counts, and each of its rows leads on.
use Rattle.std.proofs.Common.{length}
use Rattle.mrt_graph.specs.Certificate.{row_of}
use Rattle.mrt_graph.specs.Rules.{GraphRule}
use Rattle.mrt_graph.proofs.AcceptedSound.{accepted_sound}
use Rattle.mrt_graph.proofs.LeadsOn.{sound-hop}
use Rattle.graph_tests.proofs.proxies.next_of.Goals as goal

pub next-requires-clause-nodes : goal.next-requires-clause-nodes
next-requires-clause-nodes c = (c.requires.accepted.accepted GraphRule).counts.nodes

pub next-requires-clause-links : goal.next-requires-clause-links
next-requires-clause-links c = (c.requires.accepted.accepted GraphRule).counts.links

pub next-requires-clause-touches : goal.next-requires-clause-touches
next-requires-clause-touches c =
    let g = c.args.g.now in
    let a = c.requires.accepted in
    sound-hop g.links (length g.ids) (row_of c.args.c.now) c.args.color c.args.s c.args.t c.requires.different
    (accepted_sound g a.root _ a.accepted c.args.s c.args.t c.requires.source c.requires.target c.requires.different)
