use Rattle.std.proofs.Common.{◌∙◌, rules, sym}
use Rattle.std.proofs.lemmas.Bool.{eqb-true, eqb-false}
use Rattle.block_spf.proofs.fan.is_stop.Goals as goal

pub returns-else-eq : goal.returns-else-eq
returns-else-eq c = record {
  goes = λ no root w are. record {
    not_source = search rules;
    not_head = λ same. eqb-false c.place.result.head c.args.x (sym c.eq-else-eq.ensures ∙ no) (search rules);
  };
  stops = λ yes root w are on.
      let is = eqb-true c.place.result.head c.args.x (sym c.eq-else-eq.ensures ∙ yes) in on.not_head (search rules);
}
