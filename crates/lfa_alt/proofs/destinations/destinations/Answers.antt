use Rattle.std.proofs.Common.{rules, ◌∙◌, ◌<◌, ℕ, Option, None, Some, length, inl, inr, refl, sym, ap, arith}
use Rattle.std.proofs.lemmas.Option.{slice_get-get_or, slice_get_read, slice_get_within}
use Rattle.mrt_graph.proofs.ListPlaces.{pushed_at}
use Rattle.primary_alt.proofs.NumbersRead.{number_read}
use Rattle.lfa_alt.proofs.destinations.destinations.Goals as goal

pub loop-t-preserved : goal.loop-t-preserved
loop-t-preserved c = record {
  many = omega (arith, c.push_reserved.ensures.len, c.loop-t.invariant.many);
  told = search rules;
  room = omega (arith, c.push_reserved.ensures.capacity, c.loop-t.invariant.room);
  each = λ t entry stands.
      elim (pushed_at c.loop-t.destinations.items c.destination.result entry t (rw c.push_reserved.ensures.items at stands)) [
        | inl early ↦ c.loop-t.invariant.each t entry early
        | inr last ↦ rw (last.0 ∙ c.loop-t.invariant.told, sym last.1) c.destination.ensures
      ];
}

pub loop-t-init : goal.loop-t-init
loop-t-init c =
    let none = ap length c.in_ok-destinations.ensures.items in
    record {
      many = c.in_ok-destinations.ensures.len;
      told = none;
      room = c.in_ok-destinations.ensures.capacity;
      each = λ t entry at. absurd (omega (arith, slice_get_within c.in_ok-destinations.destinations.items t entry at, none));
    }

pub destination-requires : goal.destination-requires
destination-requires c =
    let primaries = c.args.primaries.now in
    let distances = c.args.distances.now in
    let t = c.loop-t.t in
    let within : t < length distances = omega (arith, c.loop-t-test.true, c.requires.primaries.one_each, c.requires.one_each) in
    record {
      kept = c.requires.kept;
      arcs = c.requires.arcs;
      primary = c.requires.primaries.each t c.index-primaries-t.result (slice_get_read primaries (length primaries) t c.index-primaries-t.result refl c.loop-t-test.true c.index-primaries-t.is);
      distance = λ d is. c.requires.distances.some t d (number_read distances t t d refl within is);
      none = λ is. c.requires.distances.none t (slice_get-get_or distances t None within ∙ ap (λ (o : Option ℕ). Some o) is);
    }

pub push_reserved-requires : goal.push_reserved-requires
push_reserved-requires c = omega (arith, c.loop-t.invariant.many, c.loop-t.invariant.room, c.loop-t-test.true)

pub returns : goal.returns
returns c = record {
  one_each = omega (arith, c.loop-t.invariant.told, c.loop-t-test.false, c.loop-t.auto.t-end, c.requires.primaries.one_each);
  each = c.loop-t.invariant.each;
}
