use Rattle.graph_tests.proofs.ProxyFiles.{accepted_for}
use Rattle.graph_tests.proofs.proxies.is_accepted.Goals as goal

pub returns-in-Yes : goal.returns-in-Yes
returns-in-Yes c = λ _. accepted_for c.args.g.now c.args.root c.args.file.now (c.check.ensures.yes.0 c.in-Yes.is)
