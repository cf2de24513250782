use Rattle.std.proofs.Common.{◌≡◌, ◌∙◌, inl, inr, sym}
use Rattle.std.proofs.lemmas.Bool.{cases_eq}
use Rattle.std.proofs.lemmas.Option.{get_or_from_slice_get, same_Some}
use Rattle.mrt_graph.proofs.ListPlaces.{set_elsewhere}
use Rattle.lfa_alt.specs.steps.Choosing.{Offers}
use Rattle.lfa_alt.proofs.Bettering.{better_there, nothing_more}
use Rattle.lfa_alt.proofs.NetworkPaths.{nothing_else}
use Rattle.lfa_alt.proofs.offering.offer_there.Goals as goal

pub returns-clause-better : goal.returns-clause-better
returns-clause-better c = λ area source kept to destinations t entry old new stands was is.
    let path = c.args.path.now in
    let olds = c.args.best.now.items in
    let place = c.get-place.ensures.value in
    elim (cases_eq t path.next) [
      | inl here ↦
          let same : c.index-destinations-place.result ≡ entry =
          (rw place at c.index-destinations-place.is) ∙ get_or_from_slice_get c.args.destinations.now path.next entry c.index-destinations-place.result (rw here at stands) in
          rw here
          (better_there (Offers area source path.next entry path) olds path.next c.candidate_there.result c.better.result old new c.index.result.now (rw here at was) (rw place at c.index.ensures)
          c.better.ensures (rw (here, place) at is)
          (rw same at (c.candidate_there.ensures area source kept to (rw (same, ← here) (destinations.each t entry stands)))))
      | inr elsewhere ↦
          nothing_more (Offers area source t entry path) old new (same_Some new old (sym is ∙ set_elsewhere olds c.get-place.result t c.better.result (λ same. elsewhere (same ∙ place)) ∙ was))
          (λ choice. nothing_else area kept source path to t entry choice elsewhere)
    ]
