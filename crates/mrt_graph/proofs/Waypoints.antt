-- Which node's row serves for an unrelated node.
use Rattle.std.proofs.Common.{◌≡◌, ◌≢◌, ◌⊎◌, ◌∙◌, ◌<◌, ◌+◌, ℕ, zero, suc, true, false, List, [], Option, Some, None, length, get_or, inl, inr, refl, sym, ap, subst, arith}
use Rattle.std.specs.List.{AllByRecursion}
use Rattle.std.specs.Option.{option_and_then, option_map}
use Rattle.std.proofs.lemmas.Bool.{cases_Bool}
use Rattle.std.proofs.lemmas.Option.{same_Some, slice_get-get_or}
use Rattle.mrt_graph.specs.declared.cert.CertNode.{CertNode}
use Rattle.mrt_graph.specs.Certificate.{Certificate, IsCertNode, certificate_of}
use Rattle.mrt_graph.specs.CertFields.{head_of}
use Rattle.mrt_graph.specs.steps.FoldedRows.{waypoint}
use Rattle.mrt_graph.specs.Foldable.{in_chain}
use Rattle.mrt_graph.specs.Related.{are_unrelated}
use Rattle.mrt_graph.proofs.ListTests.{all_at, there}
use Rattle.mrt_graph.proofs.OneUnfolding.{chain_shift}
use Rattle.mrt_graph.proofs.Relations.{not_with_lower, unrelated_tells}

-- each node has a head among the nodes
pub head_there : (c : Certificate) (a : ℕ) → AllByRecursion (IsCertNode (length c.nodes)) c.nodes → a < length c.nodes
    → (h : ℕ) × ((head_of c a ≡ Some h) × (h < length c.nodes))
head_there c a kept within =
    let node = there c.nodes a within in
    (node.0.head, (ap (option_map (λ (x : CertNode). x.head)) node.1, (all_at (IsCertNode (length c.nodes)) c.nodes a node.0 kept node.1).head))

-- one step of it
pub at_related : (c : Certificate) (s k t : ℕ) → are_unrelated c s t ≡ false → waypoint c s (suc k) t ≡ Some t
at_related c s k t near = rw near refl

pub past_unrelated : (c : Certificate) (s k t h : ℕ) → are_unrelated c s t ≡ true → head_of c t ≡ Some h → waypoint c s (suc k) t ≡ waypoint c s k h
past_unrelated c s k t h far is = rw (far, is) refl

-- where a node is its own head, it ends there
pub at_top : (c : Certificate) (s k t : ℕ) → are_unrelated c s t ≡ true → head_of c t ≡ Some t → waypoint c s k t ≡ head_of c s
at_top c s zero t far own = refl
at_top c s (suc k) t far own = past_unrelated c s k t t far own ∙ at_top c s k t far own

-- the head of a node that is not related to s is not s
pub head_differs : (c : Certificate) (s t h : ℕ) → are_unrelated c s t ≡ true → head_of c t ≡ Some h → s ≢ h
head_differs c s t h far is same =
    not_with_lower c s t (is ∙ ap (λ (x : ℕ). Some x) (sym same)) (unrelated_tells c s t far)

-- it is another node that is related to s, or the head of s, and then none in the chain is related
pub way_is : (c : Certificate) (s k t w : ℕ) → s ≢ t → waypoint c s k t ≡ Some w
    → ((are_unrelated c s w ≡ false) × (s ≢ w)) ⊎ ((head_of c s ≡ Some w) × ((j x : ℕ) → j < k → in_chain c j t ≡ Some x → are_unrelated c s x ≡ true))
way_is c s zero t w two is = inr (is, λ j x none at. absurd (omega (arith, none)))
way_is c s (suc k) t w two is = elim (cases_Bool (are_unrelated c s t)) [
  | inr near ↦
      let same : t ≡ w = same_Some t w (sym (at_related c s k t near) ∙ is) in
      inl (subst (λ (x : ℕ). (are_unrelated c s x ≡ false) × (s ≢ x)) same (near, two))
  | inl far ↦ go (head_of c t) refl far (λ h other at. way_is c s k h w other at)
]
  where
    go : (o : Option ℕ) → head_of c t ≡ o → are_unrelated c s t ≡ true
        → ((h : ℕ) → s ≢ h → waypoint c s k h ≡ Some w
        → ((are_unrelated c s w ≡ false) × (s ≢ w)) ⊎ ((head_of c s ≡ Some w) × ((j x : ℕ) → j < k → in_chain c j h ≡ Some x → are_unrelated c s x ≡ true)))
        → ((are_unrelated c s w ≡ false) × (s ≢ w)) ⊎ ((head_of c s ≡ Some w) × ((j x : ℕ) → j < suc k → in_chain c j t ≡ Some x → are_unrelated c s x ≡ true))
    go None at far above = let none : ◌≡◌ {A = Option ℕ} None (Some w) = rw (far, at) at is in absurd cc
    go (Some h) at far above =
        elim (above h (head_differs c s t h far at) (sym (past_unrelated c s k t h far at) ∙ is)) [
          | inl found ↦ inl found
          | inr home ↦ inr (home.0, λ j x below at_j. chain j x below at_j far (λ i y i_below at_i. home.1 i y i_below at_i) at)
        ]
      where
        chain : (j x : ℕ) → j < suc k → in_chain c j t ≡ Some x → are_unrelated c s t ≡ true
            → ((i y : ℕ) → i < k → in_chain c i h ≡ Some y → are_unrelated c s y ≡ true) → head_of c t ≡ Some h → are_unrelated c s x ≡ true
        chain zero x below at_j far rest is_head = subst (λ (y : ℕ). are_unrelated c s y ≡ true) (same_Some t x at_j) far
        chain (suc j) x below at_j far rest is_head =
            rest j x (omega (arith, below)) (sym (chain_shift c j t ∙ ap (option_and_then (in_chain c j)) is_head) ∙ at_j)

-- one more step changes nothing once the chain has come to a node that is its own head
pub settled : (c : Certificate) (s k j t z : ℕ) → j < k → in_chain c j t ≡ Some z → head_of c z ≡ Some z → waypoint c s k t ≡ waypoint c s (suc k) t
settled c s zero j t z below at own = absurd (omega (arith, below))
settled c s (suc k) zero t z below at own = elim (cases_Bool (are_unrelated c s t)) [
  | inr near ↦ at_related c s k t near ∙ sym (at_related c s (suc k) t near)
  | inl far ↦
      let same : t ≡ z = same_Some t z at in
      let top : head_of c t ≡ Some t = subst (λ (x : ℕ). head_of c x ≡ Some x) (sym same) own in
      at_top c s (suc k) t far top ∙ sym (at_top c s (suc (suc k)) t far top)
]
settled c s (suc k) (suc j) t z below at own = elim (cases_Bool (are_unrelated c s t)) [
  | inr near ↦ at_related c s k t near ∙ sym (at_related c s (suc k) t near)
  | inl far ↦ go (head_of c t) refl far (λ h at_h. settled c s k j h z (omega (arith, below)) at_h own)
]
  where
    go : (o : Option ℕ) → head_of c t ≡ o → are_unrelated c s t ≡ true
        → ((h : ℕ) → in_chain c j h ≡ Some z → waypoint c s k h ≡ waypoint c s (suc k) h) → waypoint c s (suc k) t ≡ waypoint c s (suc (suc k)) t
    go None is far above = rw (far, is) refl
    go (Some h) is far above =
        past_unrelated c s k t h far is
        ∙ above h (sym (chain_shift c j t ∙ ap (option_and_then (in_chain c j)) is) ∙ at)
        ∙ sym (past_unrelated c s (suc k) t h far is)

-- there is one, among the nodes
pub way_there : (c : Certificate) (s k t : ℕ) → AllByRecursion (IsCertNode (length c.nodes)) c.nodes → s < length c.nodes → t < length c.nodes
    → (w : ℕ) × ((waypoint c s k t ≡ Some w) × (w < length c.nodes))
way_there c s zero t kept s_within t_within = head_there c s kept s_within
way_there c s (suc k) t kept s_within t_within = elim (cases_Bool (are_unrelated c s t)) [
  | inr near ↦ (t, (at_related c s k t near, t_within))
  | inl far ↦
      let h = head_there c t kept t_within in
      let rest = way_there c s k h.0 kept s_within h.1.1 in
      (rest.0, (past_unrelated c s k t h.0 far h.1.0 ∙ rest.1.0, rest.1.1))
]

-- ---- one turn

pub turn_related : (c : Certificate) (s k t : ℕ) → 0 < k → are_unrelated c s t ≡ false → waypoint c s k t ≡ Some t
turn_related c s zero t some near = absurd (omega (arith, some))
turn_related c s (suc k) t some near = at_related c s k t near

pub turn_on : (c : Certificate) (s k t h : ℕ) → are_unrelated c s t ≡ true → head_of c t ≡ Some h → waypoint c s (k + 1) t ≡ waypoint c s k h
turn_on c s k t h far is =
    let more : k + 1 ≡ suc k = omega arith in
    ap (λ (j : ℕ). waypoint c s j t) more ∙ past_unrelated c s k t h far is

pub head_at : (nodes : List CertNode) (v a : ℕ) (d : CertNode) → v < length nodes → a ≡ v → head_of (certificate_of nodes [] []) v ≡ Some (get_or nodes a d).head
head_at nodes v a d within same =
    ap (option_map (λ (x : CertNode). x.head)) (slice_get-get_or nodes v d within ∙ ap (λ (k : ℕ). Some (get_or nodes k d)) (sym same))
