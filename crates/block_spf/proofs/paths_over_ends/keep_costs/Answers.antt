use Rattle.std.proofs.Common.{◌≡◌, ◌⊎◌, ◌<◌, ◌≤◌, ◌+◌, ◌*◌, ◌==◌, ◌∙◌, ℕ, Bool, List, get_or, length, set, slice_index, if◌then◌else◌, inl, inr, sym, ap, arith}
use Rattle.std.proofs.lemmas.Bool.{cases_eq}
use Rattle.std.proofs.lemmas.List.{get_or-set_same, get_or-set_other, get_or_default}
use Rattle.block_spf.specs.steps.Side.{cost_from}
use Rattle.block_spf.proofs.paths_over_ends.keep_costs.Goals as goal

-- one place more
there_more : (all : List ℕ) (at j n : ℕ) (row : ℕ → ℕ) → at + j < length all → n ≡ row j → ((k : ℕ) → k < j → slice_index all (at + k) ≡ row k)
    → (k : ℕ) → k < j + 1 → slice_index (set all (at + j) n) (at + k) ≡ row k
there_more all at j n row within is there k low = elim (cases_eq k j) [
  | inl same ↦ rw same (get_or-set_same all (at + j) n 0 within ∙ is)
  | inr other ↦ get_or-set_other all (at + j) (at + k) n 0 (λ same. other (omega (arith, same))) ∙ there k (omega (arith, low, other))
]

still_elsewhere : (all before : List ℕ) (at j n : ℕ) → ((i : ℕ) → (i < at) ⊎ (at + j ≤ i) → slice_index all i ≡ slice_index before i)
    → (i : ℕ) → (i < at) ⊎ (at + (j + 1) ≤ i) → slice_index (set all (at + j) n) i ≡ slice_index before i
still_elsewhere all before at j n still i out = elim out [
  | inl low ↦ get_or-set_other all (at + j) i n 0 (λ same. omega (arith, same, low)) ∙ still i (inl low)
  | inr high ↦ get_or-set_other all (at + j) i n 0 (λ same. omega (arith, same, high)) ∙ still i (inr (omega (arith, high)))
]

pub loop-j-preserved : goal.loop-j-preserved
loop-j-preserved c =
    let aims = c.args.aiming.now.aims.now in
    let costs = c.args.costs.now in
    let width = length costs in
    let at = c.get-2.result * width in
    let from = c.get.result * width in
    let all = c.loop-j.all in
    let j = c.loop-j.j in
    let x = c.args.x in
    let within : from + j < length aims = omega (arith, c.loop-j-test.true, c.requires.aims, ap (λ (k : ℕ). k * width) c.get.ensures.value) in
    let room : at + j < length all = omega (arith, c.loop-j-test.true, c.requires.room, c.loop-j.auto.all, ap (λ (v : ℕ). v * width) c.get-2.ensures.value) in
    let same = get_or_default aims (from + j) c.index-aiming-from.result 0 within in
    let is = c.either.ensures ∙ ap (λ (first : Bool). if first then 0 else get_or costs j 0) (c.eq.ensures ∙ ap (λ (aim : ℕ). aim == x) same) in
    record {
      there = there_more all at j c.either.result (λ k. cost_from x (slice_index aims (from + k)) (slice_index costs k)) room is c.loop-j.invariant.there;
      elsewhere = still_elsewhere all c.args.all.now at j c.either.result c.loop-j.invariant.elsewhere;
    }

pub returns : goal.returns
returns c =
    let aims = c.args.aiming.now.aims.now in
    let costs = c.args.costs.now in
    let width = length costs in
    let at = ap (λ (v : ℕ). v * width) c.get-2.ensures.value in
    record {
      one_each = c.loop-j.auto.all;
      there = λ j low.
          ap (λ (v : ℕ). slice_index c.loop-j.all (v * width + j)) (sym c.get-2.ensures.value)
          ∙ c.loop-j.invariant.there j (omega (arith, low, c.loop-j-test.false))
          ∙ ap (λ (k : ℕ). cost_from c.args.x (slice_index aims (k * width + j)) (slice_index costs j)) c.get.ensures.value;
      elsewhere = λ i out. c.loop-j.invariant.elsewhere i (elim out [
        | inl low ↦ inl (omega (arith, low, at))
        | inr high ↦ inr (omega (arith, high, at, c.loop-j.auto.j-end))
      ]);
    }
