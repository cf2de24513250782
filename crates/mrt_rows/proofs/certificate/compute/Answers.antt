use Rattle.std.proofs.Common.{sym, subst}
use Rattle.mrt_graph.specs.Certificate.{Certificate}
use Rattle.mrt_rows.specs.CertOf.{Tells, file_of}
use Rattle.mrt_rows.specs.ListedDirections.{directions_of}
use Rattle.mrt_rows.proofs.CertAccepted.{cert_accepted}
use Rattle.mrt_rows.proofs.CertMade.{cert_kept, cert_tells}
use Rattle.mrt_rows.proofs.Rooting.{og_of, rooted_by}
use Rattle.mrt_rows.proofs.certificate.compute.Goals as goal

pub all_rows-requires : goal.all_rows-requires
all_rows-requires c = rooted_by c.args.g.now c.args.root c.in_ok-d.d c.directions.ensures.kept c.in_ok-d.ensures.ordered

pub all_nodes-requires : goal.all_nodes-requires
all_nodes-requires c = (rooted_by c.args.g.now c.args.root c.in_ok-d.d c.directions.ensures.kept c.in_ok-d.ensures.ordered).says

pub all_links-requires : goal.all_links-requires
all_links-requires c = (rooted_by c.args.g.now c.args.root c.in_ok-d.d c.directions.ensures.kept c.in_ok-d.ensures.ordered).says

pub new-requires : goal.new-requires
new-requires c =
    let rooted = rooted_by c.args.g.now c.args.root c.in_ok-d.d c.directions.ensures.kept c.in_ok-d.ensures.ordered in
    cert_kept (og_of rooted) c.in_ok-nodes.nodes.items c.in_ok-links.links.items c.in_ok-rows.rows.items c.in_ok-nodes.ensures c.in_ok-links.ensures
    c.in_ok-rows.ensures

pub returns-clause-cert : goal.returns-clause-cert
returns-clause-cert c = λ id is.
    let g = c.args.g.now in
    let made = c.in_ok-d.ensures.made in
    let rooted = rooted_by g c.args.root c.in_ok-d.d c.directions.ensures.kept c.in_ok-d.ensures.ordered in
    let tells = cert_tells (og_of rooted) c.in_ok-nodes.nodes.items c.in_ok-links.links.items c.in_ok-rows.rows.items c.in_ok-nodes.ensures
    c.in_ok-links.ensures c.in_ok-rows.ensures id is in
    record {
      tree = made.tree;
      searched = made.searched;
      gadag = made.gadag;
      by_ears = made.by_ears;
      directed = c.in_ok-d.d;
      in_order = made.in_order;
      words = directions_of g c.in_ok-d.d;
      says = rooted.says;
      tells = subst (λ (cert : Certificate). Tells g c.args.root (directions_of g c.in_ok-d.d) (file_of id cert)) (sym c.new.ensures) tells;
    }

pub returns-clause-accepted : goal.returns-clause-accepted
returns-clause-accepted c = λ id is.
    cert_accepted c.args.g.now c.args.root (file_of id c.new.result) c.directions.ensures.kept c.requires (returns-clause-cert c id is)

pub returns-clause-counts : goal.returns-clause-counts
returns-clause-counts c = rw c.new.ensures (c.in_ok-nodes.ensures.one_each, c.in_ok-links.ensures.one_each)
