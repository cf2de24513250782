use Rattle.std.proofs.Common.{◌∙◌, ℕ, Option, None, Some, sym, ap, arith}
use Rattle.std.proofs.lemmas.Option.{slice_get-get_or}
use Rattle.primary_alt.proofs.routes.primary_by.Goals as goal

pub primary_over-requires : goal.primary_over-requires
primary_over-requires c =
    let at = slice_get-get_or c.args.column.now c.args.x None (omega (arith, c.requires.from, c.requires.kept.one_each)) in
    record {
      kept = c.requires.kept;
      first = c.requires.kept.arcs c.args.x c.in_ok-first.first (at ∙ ap (λ (o : Option ℕ). Some o) (sym c.first_of.ensures ∙ c.in_ok-first.was));
      to = c.requires.to;
    }

pub returns : goal.returns
returns c = rw (← c.sends_nothing.ensures, c.if-sends_nothing.false, ← c.first_of.ensures, c.in_ok-first.was) c.primary_over.ensures
