use Rattle.std.proofs.Common.{length}
use Rattle.cert_checker.proofs.row_rules.carried.Goals as goal

pub has_links_for-requires-clause-carrier : goal.has_links_for-requires-clause-carrier
has_links_for-requires-clause-carrier c = c.carrier.ensures.within (length c.args.c.now.nodes) c.nodes-nodes.ensures.kept
