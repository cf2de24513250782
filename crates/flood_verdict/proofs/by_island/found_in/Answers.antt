use Rattle.std.proofs.Common.{inr}
use Rattle.flood_verdict.proofs.by_island.found_in.Goals as goal

pub returns-in_ok-new-in-Ok-clause-found : goal.returns-in_ok-new-in-Ok-clause-found
returns-in_ok-new-in-Ok-clause-found c =
    let cert = c.in_ok-new-in-Ok.ensures.cert in (
      cert.0,
      rw c.in_ok-new-in-Ok.ensures.made cert.1,
      record {
        graph = c.in-Ok.island.graph;
        root = c.in-Ok.island.root;
        link_of = c.in-Ok.island.link_of;
        island = c.in-Ok.ensures.island;
        kept = c.in_ok-new-in-Ok.ensures.kept;
        certificate = cert.1;
      },
    )

pub returns-in-Err-Unsupported-clause-found : goal.returns-in-Err-Unsupported-clause-found
returns-in-Err-Unsupported-clause-found c = inr (c.in-Err-Unsupported.ensures.unsupported.0 (cc)).1
