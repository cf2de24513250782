use Rattle.area_tests.proofs.of_certificate.certificate.Goals as goal

pub returns-clause-at : goal.returns-clause-at
returns-clause-at c = record {
  version = 2;
  number = c.id-id.result.number;
  accepted = c.in_ok-cert.ensures.accepted c.id-id.result c.id-id.ensures;
}

pub returns-clause-accepted : goal.returns-clause-accepted
returns-clause-accepted c = record {
  root = c.args.root;
  version = 2;
  number = c.id-id.result.number;
  accepted = c.in_ok-cert.ensures.accepted c.id-id.result c.id-id.ensures;
}
