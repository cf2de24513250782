use Rattle.std.proofs.Common.{rules}
use Rattle.mrt_rows.proofs.Rooting.{rooted_by}
use Rattle.mrt_rows.proofs.source_rows.SourceRows.new.Goals as goal

pub new-requires-clause-rooted : goal.new-requires-clause-rooted
new-requires-clause-rooted c = rooted_by c.args.g.now c.args.root c.in_ok-directed.directed c.directions.ensures.kept c.in_ok-directed.ensures.ordered

pub returns-clause-made : goal.returns-clause-made
returns-clause-made c = record {
  rooted = rooted_by c.args.g.now c.args.root c.in_ok-directed.directed c.directions.ensures.kept c.in_ok-directed.ensures.ordered;
  directed = c.in_ok-directed.ensures.made;
  maker = c.in_ok-maker.ensures.made;
  width = c.in_ok-maker.ensures.width;
  room = search rules;
}

pub returns-clause-cert : goal.returns-clause-cert
returns-clause-cert c =
    let made = c.in_ok-directed.ensures.made in
    let ordered = c.in_ok-directed.ensures.ordered in
    let found = c.columns_are_of_one_certificate.ensures c.args.g.now c.args.root made.tree made.gadag c.in_ok-directed.directed ordered.directions
    c.directions.ensures.kept c.requires made.searched made.by_ears made.in_order ordered.says in
    (found.0, found.1)
