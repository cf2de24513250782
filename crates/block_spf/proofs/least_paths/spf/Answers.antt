use Rattle.std.proofs.Common.{◌≡◌, ◌<◌, ◌∙◌, ℕ, Option, Some, length, length-set, set, slice_get, inl, inr, sym, ap, subst, arith}
use Rattle.std.proofs.lemmas.Bool.{cases_eq}
use Rattle.std.proofs.lemmas.Option.{same_Some, slice_get_within}
use Rattle.mrt_graph.proofs.ListPlaces.{set_elsewhere, set_there}
use Rattle.block_spf.specs.declared.reach.Hop.{Hop}
use Rattle.block_spf.specs.LeastPath.{IsHop}
use Rattle.block_spf.proofs.SameDirections.{directions_are}
use Rattle.block_spf.proofs.least_paths.spf.Goals as goal

pub loop-n-preserved : goal.loop-n-preserved
loop-n-preserved c =
    let hops = c.loop-n.hops.items in
    let n = c.loop-n.n in
    let new = c.hop.result in
    let within : n < length hops = omega (arith, c.loop-n-test.true, c.node_count-count.ensures.count, c.loop-n.invariant.one_each) in
    record {
      one_each = length-set hops n new ∙ c.loop-n.invariant.one_each;
      each = λ root w are t hop below at. elim (cases_eq t n) [
        | inl same ↦
            let now : slice_get (set hops n new) t ≡ Some new = ap (λ (v : ℕ). slice_get (set hops n new) v) same ∙ set_there hops n new within in
            subst (λ (o : Option Hop). IsHop c.args.g.now w c.args.dir c.args.source t o) (same_Some new hop (sym now ∙ at))
            (subst (λ (v : ℕ). IsHop c.args.g.now w c.args.dir c.args.source v new) (c.new-t.ensures ∙ sym same)
            (c.hop.ensures w c.args.dir (c.open.ensures.open root w are)))
        | inr other ↦ c.loop-n.invariant.each root w are t hop (omega (arith, below, other)) (sym (set_elsewhere hops n t new other) ∙ at)
      ];
    }

pub returns : goal.returns
returns c = λ w says.
    let has = c.requires.directed in
    let are = directions_are c.args.g.now c.args.d.now w c.node_count-count.ensures.kept has says in
    let hops = c.loop-n.hops.items in
    (record {
      one_each = c.loop-n.invariant.one_each;
      each = λ t hop at. c.loop-n.invariant.each has.root w are t hop
          (omega (arith, slice_get_within hops t hop at, c.loop-n.invariant.one_each, c.loop-n-test.false, c.node_count-count.ensures.count)) at;
    })
