use Rattle.std.proofs.Common.{◌≡◌, ◌∙◌, inl, inr, sym, arith}
use Rattle.std.proofs.lemmas.Bool.{cases_lt}
use Rattle.std.proofs.lemmas.List.{length-set}
use Rattle.std.proofs.lemmas.Option.{get_or_from_slice_get, slice_get_within}
use Rattle.mrt_graph.proofs.ListPlaces.{set_elsewhere}
use Rattle.lfa_alt.specs.steps.Choosing.{Offers}
use Rattle.lfa_alt.proofs.Bettering.{better_there}
use Rattle.lfa_alt.proofs.offering.offer.Goals as goal

pub loop-t-preserved : goal.loop-t-preserved
loop-t-preserved c = record {
  one_each = length-set c.loop-t.best.items c.loop-t.t c.better.result ∙ c.loop-t.invariant.one_each;
  later = λ t low. set_elsewhere c.loop-t.best.items c.loop-t.t t c.better.result (λ same. omega (arith, low, same)) ∙ c.loop-t.invariant.later t (omega (arith, low));
  done = λ area are destinations t entry old new low stands was is. elim (cases_lt t c.loop-t.t) [
    | inl early ↦ c.loop-t.invariant.done area are destinations t entry old new early stands was (sym (set_elsewhere c.loop-t.best.items c.loop-t.t t c.better.result (λ same. omega (arith, early, same))) ∙ is)
    | inr upto ↦
        let i = c.loop-t.t in
        let here : t ≡ i = omega (arith, low, upto) in
        let same : c.index-destinations-t.result ≡ entry =
        c.index-destinations-t.is ∙ get_or_from_slice_get c.args.destinations.now i entry c.index-destinations-t.result (rw here at stands) in
        rw here
        (better_there (Offers area c.args.source i entry c.args.path.now) c.loop-t.best.items i c.candidate_for.result c.better.result old new c.index.result.now
        (c.loop-t.invariant.later i (omega arith) ∙ (rw here at was)) c.index.ensures c.better.ensures (rw here at is)
        (rw same at (c.candidate_for.ensures area are (rw same (destinations.each i entry (rw here at stands))))))
  ];
}

pub returns-clause-better : goal.returns-clause-better
returns-clause-better c = λ area are destinations t entry old new at was is.
    c.loop-t.invariant.done area are destinations t entry old new (omega (arith, slice_get_within c.loop-t.best.items t new is, c.loop-t-test.false, c.len-t-end.ensures, c.loop-t.auto, c.loop-t.invariant.one_each)) at was is
