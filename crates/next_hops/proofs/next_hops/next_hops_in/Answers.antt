use Rattle.std.proofs.Common.{◌∙◌}
use Rattle.mrt_graph.specs.declared.cert.Color.TheVariants.{Blue, Red}
use Rattle.next_hops.proofs.Leading.{goes_on, in_certificate}
use Rattle.next_hops.proofs.next_hops.next_hops_in.Goals as goal

pub next_hop-blue-requires : goal.next_hop-blue-requires
next_hop-blue-requires c = goes_on c.args.graph.now c.args.root _ c.in_ok-from.from
    c.in_ok-to.to c.args.router c.args.to c.column-column.result c.in_ok-columns.ensures.kept c.requires.root
    (c.aim.ensures.root ∙ c.in_ok-columns.ensures.root) c.in_ok-columns.ensures.cert (λ file is. c.column-column.ensures.rows c.in_ok-to.to file c.aim.ensures.aimed is) c.certificates_are_accepted.ensures
    c.accepted_rows_lead_on.ensures c.in_ok-from.ensures.within c.in_ok-to.ensures.within c.in_ok-from.ensures.named
    c.in_ok-to.ensures.named c.requires.different Blue

pub next_hop-red-requires : goal.next_hop-red-requires
next_hop-red-requires c = goes_on c.args.graph.now c.args.root _ c.in_ok-from.from
    c.in_ok-to.to c.args.router c.args.to c.column-column.result c.in_ok-columns.ensures.kept c.requires.root
    (c.aim.ensures.root ∙ c.in_ok-columns.ensures.root) c.in_ok-columns.ensures.cert (λ file is. c.column-column.ensures.rows c.in_ok-to.to file c.aim.ensures.aimed is) c.certificates_are_accepted.ensures
    c.accepted_rows_lead_on.ensures c.in_ok-from.ensures.within c.in_ok-to.ensures.within c.in_ok-from.ensures.named
    c.in_ok-to.ensures.named c.requires.different Red

pub returns-clause-hops : goal.returns-clause-hops
returns-clause-hops c = record {
  file = c.in_ok-columns.ensures.cert.0;
  certificate = c.in_ok-columns.ensures.cert.1;
  sound = c.accepted_implies_sound.ensures c.args.graph.now c.args.root c.in_ok-columns.ensures.cert.0
      (c.certificates_are_accepted.ensures c.args.graph.now c.args.root c.in_ok-columns.ensures.cert.0
      c.in_ok-columns.ensures.kept c.requires.root c.in_ok-columns.ensures.cert.1);
  s = c.in_ok-from.from;
  source = c.in_ok-from.ensures.named;
  t = c.in_ok-to.to;
  target = c.in_ok-to.ensures.named;
  blue = record {
    hop = record { link = c.next_hop-blue.result.link; to = c.next_hop-blue.result.to };
    next = in_certificate c.args.graph.now c.args.root _ c.in_ok-from.from c.in_ok-to.to
        c.column-column.result (c.aim.ensures.root ∙ c.in_ok-columns.ensures.root) c.in_ok-columns.ensures.cert (λ file is. c.column-column.ensures.rows c.in_ok-to.to file c.aim.ensures.aimed is) Blue
        (record { link = c.next_hop-blue.result.link; to = c.next_hop-blue.result.to }) c.next_hop-blue.ensures.hop;
    named = c.id.ensures;
  };
  red = record {
    hop = record { link = c.next_hop-red.result.link; to = c.next_hop-red.result.to };
    next = in_certificate c.args.graph.now c.args.root _ c.in_ok-from.from c.in_ok-to.to
        c.column-column.result (c.aim.ensures.root ∙ c.in_ok-columns.ensures.root) c.in_ok-columns.ensures.cert (λ file is. c.column-column.ensures.rows c.in_ok-to.to file c.aim.ensures.aimed is) Red
        (record { link = c.next_hop-red.result.link; to = c.next_hop-red.result.to }) c.next_hop-red.ensures.hop;
    named = c.id-2.ensures;
  };
}
