-- The root among the first nodes.
use Rattle.std.proofs.Common.{◌≡◌, ◌⊎◌, ◌<◌, ◌≤◌, ◌+◌, ◌∙◌, ℕ, List, length, Some, inl, inr, refl, sym, ap, subst, arith}
use Rattle.std.specs.Prelude.{slice_get}
use Rattle.std.specs.List.Sorted.{IsStrictlySortedBy}
use Rattle.std.proofs.lemmas.Bool.{cases_lt}
use Rattle.std.proofs.lemmas.Option.{slice_get_within}
use Rattle.mrt_graph.specs.declared.node_id.Kind.{Kind}
use Rattle.mrt_graph.specs.declared.node_id.Kind.TheVariants as kinds
use Rattle.mrt_graph.specs.declared.node_id.NodeId.{NodeId}
use Rattle.mrt_graph.specs.NodeOrder.{node_id_cmp}
use Rattle.mrt_island.specs.Policy.{Policy}
use Rattle.mrt_island.specs.steps.Rooting.{HasRouter, level_of}
use Rattle.mrt_island.specs.Rooting.{IsChosenBefore, IsRoot}
use Rattle.mrt_graph.proofs.NodeIds.{ascend_at, less_is_lower}

-- a router stands at that place, with that priority number
pub record IsAt (policy : Policy) (ids : List NodeId) (best lowest : ℕ) : Type 0 where
  pub id : NodeId
  pub there : slice_get ids best ≡ Some id
  pub router : id.kind ≡ kinds.Router
  pub level : policy.priority id.number ≡ lowest

-- no router stands before that place
abbrev pub NoRouter : List NodeId → ℕ → Type 0
NoRouter ids n = (k : ℕ) (other : NodeId) → k < n → slice_get ids k ≡ Some other → other.kind ≡ kinds.Router → ⊥

-- of the first n nodes the last router with the lowest priority number, if one of them is a router
pub record IsRootSoFar (policy : Policy) (ids : List NodeId) (n best lowest : ℕ) : Type 0 where
  pub small : lowest ≤ 255
  pub within : best < length ids
  pub first : (k : ℕ) (other : NodeId) → k < n → slice_get ids k ≡ Some other → other.kind ≡ kinds.Router
      → (lowest < policy.priority other.number) ⊎ ((lowest ≡ policy.priority other.number) × (k ≤ best))
  pub found : IsAt policy ids best lowest ⊎ ((lowest ≡ 255) × NoRouter ids n)

pub no_root_yet : (policy : Policy) (ids : List NodeId) → 0 < length ids → IsRootSoFar policy ids 0 0 255
no_root_yet policy ids some = record {
  small = omega arith;
  within = some;
  first = λ k other early there router. absurd (omega (arith, early));
  found = inr (refl, λ k other early there router. omega (arith, early));
}

router_level : (policy : Policy) (kind : Kind) (number own lowest : ℕ) → own ≡ level_of policy kind number → own ≤ lowest → lowest ≤ 255 → (kind ≡ kinds.Router) × (policy.priority number ≡ own)
router_level policy kinds.Router number own lowest is low small = (refl, sym is)
router_level policy kinds.Network number own lowest is low small = absurd (omega (arith, is, low, small))

level_at : (policy : Policy) (id : NodeId) (own : ℕ) → own ≡ level_of policy id.kind id.number → id.kind ≡ kinds.Router → own ≡ policy.priority id.number
level_at policy id own is router = is ∙ ap (λ (kind : Kind). level_of policy kind id.number) router

pub root_taken : (policy : Policy) (ids : List NodeId) (n best lowest own : ℕ) (id : NodeId) → slice_get ids n ≡ Some id → own ≡ level_of policy id.kind id.number → own ≤ lowest
    → IsRootSoFar policy ids n best lowest → IsRootSoFar policy ids (n + 1) n own
root_taken policy ids n best lowest own id there is low before =
    let router = router_level policy id.kind id.number own lowest is low before.small in
    record {
      small = omega (arith, low, before.small);
      within = slice_get_within ids n id there;
      first = λ k other early at kind. elim (cases_lt k n) [
        | inl earlier ↦ elim (before.first k other earlier at kind) [
          | inl above ↦ inl (omega (arith, low, above))
          | inr level ↦ elim (cases_lt own (policy.priority other.number)) [
            | inl above ↦ inl above
            | inr not_above ↦ inr (omega (arith, low, level.0, not_above), omega (arith, earlier))
          ]
        ]
        | inr not_earlier ↦
            let last : k ≡ n = omega (arith, early, not_earlier) in
            let also : slice_get ids n ≡ Some other = subst (λ (place : ℕ). slice_get ids place ≡ Some other) last at in
            let same : id ≡ other = let both : Some id ≡ Some other = sym there ∙ also in cc in
            inr (sym router.1 ∙ ap (λ (i : NodeId). policy.priority i.number) same, omega (arith, last))
      ];
      found = inl (record { id = id; there = there; router = router.0; level = router.1 });
    }

pub root_kept : (policy : Policy) (ids : List NodeId) (n best lowest own : ℕ) (id : NodeId) → slice_get ids n ≡ Some id → own ≡ level_of policy id.kind id.number
    → (id.kind ≡ kinds.Router → own ≤ 255) → lowest < own → IsRootSoFar policy ids n best lowest → IsRootSoFar policy ids (n + 1) best lowest
root_kept policy ids n best lowest own id there is few high before =
    record {
      small = before.small;
      within = before.within;
      first = λ k other early at kind. elim (cases_lt k n) [
        | inl earlier ↦ before.first k other earlier at kind
        | inr not_earlier ↦
            let last : k ≡ n = omega (arith, early, not_earlier) in
            let also : slice_get ids n ≡ Some other = subst (λ (place : ℕ). slice_get ids place ≡ Some other) last at in
            let same : id ≡ other = let both : Some id ≡ Some other = sym there ∙ also in cc in
            let router : id.kind ≡ kinds.Router = ap (λ (i : NodeId). i.kind) same ∙ kind in
            let level : own ≡ policy.priority other.number = level_at policy id own is router ∙ ap (λ (i : NodeId). policy.priority i.number) same in
            inl (omega (arith, high, level))
      ];
      found = elim before.found [
        | inl at ↦ inl at
        | inr none ↦ inr (
          none.0,
          λ k other early at kind. elim (cases_lt k n) [
            | inl earlier ↦ none.1 k other earlier at kind
            | inr not_earlier ↦
                let last : k ≡ n = omega (arith, early, not_earlier) in
                let also : slice_get ids n ≡ Some other = subst (λ (place : ℕ). slice_get ids place ≡ Some other) last at in
                let same : id ≡ other = let both : Some id ≡ Some other = sym there ∙ also in cc in
                omega (arith, few (ap (λ (i : NodeId). i.kind) same ∙ kind), high, none.0)
          ],
        )
      ];
    }

-- of two routers that ascend, the later one has no lower number
no_lower : (ids : List NodeId) (j k : ℕ) (x y : NodeId) → IsStrictlySortedBy node_id_cmp ids → j ≤ k → slice_get ids j ≡ Some x → slice_get ids k ≡ Some y → x.number ≤ y.number
no_lower ids j k x y up before at_j at_k = elim (cases_lt j k) [
  | inl earlier ↦ less_is_lower x y (ascend_at ids j k x y up earlier at_j at_k)
  | inr not_earlier ↦
      let last : j ≡ k = omega (arith, before, not_earlier) in
      let also : slice_get ids k ≡ Some x = subst (λ (place : ℕ). slice_get ids place ≡ Some x) last at_j in
      let same : x ≡ y = let both : Some x ≡ Some y = sym also ∙ at_k in cc in
      omega (arith, ap (λ (i : NodeId). i.number) same)
]

chosen_before : (policy : Policy) (ids : List NodeId) (best lowest k : ℕ) (at : IsAt policy ids best lowest) (other : NodeId) → IsStrictlySortedBy node_id_cmp ids → slice_get ids k ≡ Some other
    → (lowest < policy.priority other.number) ⊎ ((lowest ≡ policy.priority other.number) × (k ≤ best)) → IsChosenBefore policy at.id.number other.number
chosen_before policy ids best lowest k at other up there (inl above) = inl (omega (arith, at.level, above))
chosen_before policy ids best lowest k at other up there (inr level) = inr (at.level ∙ level.0, no_lower ids k best other at.id up level.1 there at.there)

pub root_found : (policy : Policy) (ids : List NodeId) (n best lowest : ℕ) → IsStrictlySortedBy node_id_cmp ids → HasRouter ids → length ids ≤ n → IsRootSoFar policy ids n best lowest → IsRoot policy ids best
root_found policy ids n best lowest up some all so_far = elim so_far.found [
  | inl at ↦ record {
    id = at.id;
    there = at.there;
    router = at.router;
    first = λ k other there kind.
        chosen_before policy ids best lowest k at other up there (so_far.first k other (omega (arith, all, slice_get_within ids k other there)) there kind);
  }
  | inr none ↦ absurd (none.1 some.place some.id (omega (arith, all, slice_get_within ids some.place some.id some.there)) some.there some.router)
]
