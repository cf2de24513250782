-- The arcs to a node stand one after another.
use Rattle.std.proofs.Common.{◌≡◌, ◌<◌, ◌≤◌, ◌+◌, ◌-◌, ◌∙◌, ◌++◌, ◌∷◌, [], ℕ, List, drop, get_or, length, take, inl, inr, sym, ap, subst, arith}
use Rattle.std.proofs.lemmas.Bool.{cases_lt}
use Rattle.std.proofs.lemmas.List.{get_or-drop, get_or-take, get_or_append_left, get_or_push, get_or_read, length-drop, length-take-le}
use Rattle.area_graph.specs.declared.area_types.Arc.{Arc}
use Rattle.primary_alt.specs.steps.ArcsInto.{AreInto, AreStartsInto, IsStartInto}

any_arc : Arc
any_arc = record { tail = 0; to = 0; metric = 0; link_data = 0; bond = 0 }

-- they begin no later than those to the next node
pub starts_climb : (arcs : List Arc) (v from to : ℕ) → IsStartInto arcs v from → IsStartInto arcs (v + 1) to → from ≤ to
starts_climb arcs v from to low high = elim (cases_lt to from) [
  | inl less ↦ absurd (omega (arith, low.lower to any_arc (omega arith) less, high.others to any_arc (omega arith) (omega (arith, less, low.within))))
  | inr upto ↦ upto
]

-- a place of the row is one of the whole
row_place : (arcs : List Arc) (from to k : ℕ) (d : Arc) → k < to - from → get_or (take (to - from) (drop from arcs)) k d ≡ get_or arcs (from + k) d
row_place arcs from to k d low = get_or-take (to - from) (drop from arcs) k d low ∙ get_or-drop from arcs k d

row_length : (arcs : List Arc) (from to : ℕ) → from ≤ to → to ≤ length arcs → length (take (to - from) (drop from arcs)) ≡ to - from
row_length arcs from to climb within = length-take-le (to - from) (drop from arcs) (omega (arith, climb, within, length-drop from arcs))

pub row_into : (arcs : List Arc) (v from to : ℕ) → IsStartInto arcs v from → IsStartInto arcs (v + 1) to → AreInto arcs v (take (to - from) (drop from arcs))
row_into arcs v from to low high =
    let climb = starts_climb arcs v from to low high in
    let many = row_length arcs from to climb high.within in
    record {
      only = λ arc has.
          let k = has.0 in
          let within : k < to - from = omega (arith, has.1, many) in
          let at : get_or arcs (from + k) arc ≡ arc = sym (row_place arcs from to k arc within) ∙ has.2 in
          let is = ap (λ (a : Arc). a.to) at in (
            (from + k, omega (arith, within, high.within), at),
            omega (arith, is, low.others (from + k) arc (omega arith) (omega (arith, within, high.within)), high.lower (from + k) arc (omega arith) (omega (arith, within))),
          );
      all = λ arc has to_v.
          let k = has.0 in
          let is = ap (λ (a : Arc). a.to) has.2 in
          let after : from ≤ k = elim (cases_lt k from) [
            | inl early ↦ absurd (omega (arith, is, to_v, low.lower k arc (omega arith) early))
            | inr upto ↦ upto
          ] in
          let before : k < to = elim (cases_lt k to) [
            | inl early ↦ early
            | inr late ↦ absurd (omega (arith, is, to_v, high.others k arc late has.1))
          ] in
          let place : from + (k - from) ≡ k = omega (arith, after) in (
            k - from,
            omega (arith, after, before, many),
            row_place arcs from to (k - from) arc (omega (arith, after, before)) ∙ ap (λ (i : ℕ). get_or arcs i arc) place ∙ has.2,
          );
    }

-- where the arcs to v begin, as it is read
pub start_read : (arcs : List Arc) (starts : List ℕ) (v at start : ℕ) → AreStartsInto arcs starts → v < length starts → at ≡ v → start ≡ get_or starts at start
    → IsStartInto arcs v start
start_read arcs starts v at start are within same read =
    subst (λ (n : ℕ). IsStartInto arcs v n)
    (sym (get_or_read starts v start within (subst (λ (i : ℕ). start ≡ get_or starts i start) same read) 0)) (are v within)

-- one start more
pub start_pushed : (arcs : List Arc) (starts : List ℕ) (v start : ℕ) → length starts ≡ v → ((u : ℕ) → u < v → IsStartInto arcs u (get_or starts u 0)) → IsStartInto arcs v start
    → (u : ℕ) → u < v + 1 → IsStartInto arcs u (get_or (starts ++ start ∷ []) u 0)
start_pushed arcs starts v start many are new u low = elim (cases_lt u v) [
  | inl early ↦ subst (λ (n : ℕ). IsStartInto arcs u n) (sym (get_or_append_left starts (start ∷ []) 0 u (omega (arith, early, many)))) (are u early)
  | inr last ↦
      let same : v ≡ u = omega (arith, low, last) in
      subst (λ (n : ℕ). IsStartInto arcs n (get_or (starts ++ start ∷ []) n 0)) same
      (subst (λ (n : ℕ). IsStartInto arcs v n) (sym (get_or_push starts start 0 v many)) new)
]
