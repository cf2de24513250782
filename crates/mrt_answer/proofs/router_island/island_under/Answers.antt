use Rattle.std.proofs.Common.{Err, ap, inl, inr, refl}
use Rattle.mrt_island.specs.declared.island_error.IslandError.{IslandError}
use Rattle.mrt_answer.proofs.router_island.island_under.Goals as goal

pub returns-in-Ok-clause-island : goal.returns-in-Ok-clause-island
returns-in-Ok-clause-island c = c.in-Ok.ensures.island

pub returns-in-Ok-clause-fits : goal.returns-in-Ok-clause-fits
returns-in-Ok-clause-fits c = c.in-Ok.ensures.fits

pub returns-in-Err-NotThere-clause-island : goal.returns-in-Err-NotThere-clause-island
returns-in-Err-NotThere-clause-island c =
    inl (refl, inl (c.in-Err-NotThere.ensures.not_there.0 (ap (λ (error : IslandError). Err error) c.in-Err-NotThere.field-0-is)))

pub returns-in-Err-Unsupported-clause-island : goal.returns-in-Err-Unsupported-clause-island
returns-in-Err-Unsupported-clause-island c =
    inl (refl, inr (c.in-Err-Unsupported.ensures.unsupported.0 (ap (λ (error : IslandError). Err error) c.in-Err-Unsupported.field-0-is)).1)
