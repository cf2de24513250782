use Rattle.std.proofs.Common.{◌∙◌, ◌/◌, ℕ, [], ◌∷◌, Some, sym, ap, inl, inr, arith}
use Rattle.std.specs.List.{slice_index_or}
use Rattle.std.proofs.lemmas.Bool.{cases_eq}
use Rattle.std.proofs.lemmas.List.{get_or_append_left, get_or_push}
use Rattle.mrt_graph.specs.Certificate.{certificate_of}
use Rattle.cert_format.proofs.HeadFaults.{chain_twice, chain_within}
use Rattle.cert_format.proofs.heads.twice.Goals as goal

pub bounds-half-half : goal.bounds-half-half
bounds-half-half c =
    let half = c.args.half.now in
    let one = c.requires.half.each c.loop-v.v c.loop-v-test.true in
    omega (arith, chain_within c.args.nodes.now (c.args.steps / 2) c.loop-v.v (slice_index_or half c.loop-v.v 0) c.requires.kept c.loop-v-test.true one, c.requires.half.many)

pub one_more-requires : goal.one_more-requires
one_more-requires c =
    let half = c.args.half.now in
    let x = slice_index_or half c.loop-v.v 0 in
    let one = c.requires.half.each c.loop-v.v c.loop-v-test.true in
    let within = chain_within c.args.nodes.now (c.args.steps / 2) c.loop-v.v x c.requires.kept c.loop-v-test.true one in
    record { within = chain_within c.args.nodes.now (c.args.steps / 2) x (slice_index_or half x 0) c.requires.kept within (c.requires.half.each x within) }

pub loop-v-preserved : goal.loop-v-preserved
loop-v-preserved c =
    let nodes = c.args.nodes.now in
    let half = c.args.half.now in
    let v = c.loop-v.v in
    let x = slice_index_or half v 0 in
    let one = c.requires.half.each v c.loop-v-test.true in
    let within = chain_within nodes (c.args.steps / 2) v x c.requires.kept c.loop-v-test.true one in
    let here = chain_twice (certificate_of nodes [] []) c.args.steps v x (slice_index_or half x 0) c.one_more.result one (c.requires.half.each x within) c.one_more.ensures in
    record {
      many = omega (arith, c.loop-v.invariant.many, c.push_reserved.ensures.len);
      each = λ u below. elim (cases_eq u v) [
        | inl same ↦ rw (same, c.push_reserved.ensures.items) (here ∙ ap (λ (k : ℕ). Some k) (sym (get_or_push c.loop-v.ends.items c.one_more.result 0 v (omega (arith, c.loop-v.invariant.many)))))
        | inr other ↦ rw c.push_reserved.ensures.items (c.loop-v.invariant.each u (omega (arith, below, other))
            ∙ ap (λ (k : ℕ). Some k) (sym (get_or_append_left c.loop-v.ends.items (c.one_more.result ∷ []) 0 u (omega (arith, below, other, c.loop-v.invariant.many)))))
      ];
    }
