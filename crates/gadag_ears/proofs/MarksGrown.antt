-- The marks are right with one more ear.
use Rattle.std.proofs.Common.{◌≡◌, ◌≢◌, ◌⊎◌, ◌∙◌, ℕ, List, [], ◌∷◌, Option, Some, None, slice_get, inl, inr, refl, sym, ap, subst}
use Rattle.std.specs.Option.{option_and_then, option_map}
use Rattle.std.specs.Prelude.{Contains}
use Rattle.std.proofs.lemmas.Bool.{cases_eq}
use Rattle.std.proofs.lemmas.Bool.Decides.{eqb_tells}
use Rattle.std.proofs.lemmas.Option.{same_Some}
use Rattle.mrt_graph.specs.declared.cert.Role.TheVariants.{Sole}
use Rattle.mrt_graph.specs.declared.gadag.Mark.{Mark}
use Rattle.mrt_graph.specs.declared.link.Link.{Link}
use Rattle.mrt_graph.specs.declared.tree.TreeNode.{TreeNode}
use Rattle.mrt_graph.specs.GadagFields.{role_at, way_at}
use Rattle.mrt_graph.specs.Leads.{far_node, leads}
use Rattle.mrt_graph.specs.Tails.{tail_at, tail_of}
use Rattle.mrt_graph.specs.Topology.{Topology}
use Rattle.mrt_graph.proofs.Hops.{far_ends}
use Rattle.mrt_graph.proofs.Members.{contains_cases, contains_first, contains_later, contains_none}
use Rattle.gadag_ears.specs.declared.kind.EarKind.{EarKind}
use Rattle.gadag_ears.specs.Ear.{Ear, last_node, new_nodes, onward_link}
use Rattle.gadag_ears.proofs.EarLast.{last_in}
use Rattle.gadag_ears.specs.steps.Marking.{AreEarMarked, IsSetAway, way_along}
use Rattle.gadag_ears.specs.LinkMarks.{AreDirected, HaveRoles, IsLastOfBlock, IsOfOneLink, IsOnEar, Onward, Out}

pub last_on : (tree : List TreeNode) (ear : Ear) (e : ℕ) → IsLastOfBlock tree ear e → IsOnEar tree ear (last_node ear.first ear.others) e
last_on tree ear e last = Onward (last_node ear.first ear.others) e (last_in ear.first ear.others) last.last

-- whether a link is on an ear
record IsOver (tree : List TreeNode) (kind : EarKind) (vs : List ℕ) (e : ℕ) : Type 0 where
  pub node : ℕ
  pub inside : Contains vs node
  pub over : onward_link kind tree node ≡ Some e

pub is_link_or_not : (o : Option ℕ) (e : ℕ) → (o ≡ Some e) ⊎ (o ≡ Some e → ⊥)
is_link_or_not None e = inr (λ same. cc)
is_link_or_not (Some d) e = elim (cases_eq d e) [
  | inl same ↦ inl (ap (λ (x : ℕ). Some x) same)
  | inr other ↦ inr (λ same. other (same_Some d e same))
]

over_or_not : (tree : List TreeNode) (kind : EarKind) (vs : List ℕ) (e : ℕ) → IsOver tree kind vs e ⊎ ((v : ℕ) → Contains vs v → onward_link kind tree v ≡ Some e → ⊥)
over_or_not tree kind [] e = inr (λ v none over. contains_none v none)
over_or_not tree kind (u ∷ us) e = elim (is_link_or_not (onward_link kind tree u) e) [
  | inl over ↦ inl (record { node = u; inside = contains_first u us; over = over })
  | inr not_here ↦ elim (over_or_not tree kind us e) [
    | inl it ↦ inl (record { node = it.node; inside = contains_later u it.node us it.inside; over = it.over })
    | inr nowhere ↦ inr (λ v c over. elim (contains_cases u v us c) [
      | inl same ↦ not_here (subst (λ (w : ℕ). onward_link kind tree w ≡ Some e) same over)
      | inr later ↦ nowhere v later over
    ])
  ]
]

-- a link on an ear, or on none of its nodes
pub record IsOn (tree : List TreeNode) (ear : Ear) (e : ℕ) : Type 0 where
  pub node : ℕ
  pub on : IsOnEar tree ear node e

not_out_nor_onward : (tree : List TreeNode) (ear : Ear) (v e : ℕ) → (e ≡ ear.link → ⊥)
    → ((w : ℕ) → Contains (new_nodes ear) w → onward_link ear.kind tree w ≡ Some e → ⊥) → IsOnEar tree ear v e → ⊥
not_out_nor_onward tree ear v e other nowhere Out = other refl
not_out_nor_onward tree ear v e other nowhere (Onward u f new over) = nowhere u new over

pub on_or_not : (tree : List TreeNode) (ear : Ear) (e : ℕ) → IsOn tree ear e ⊎ ((v : ℕ) → ¬ IsOnEar tree ear v e)
on_or_not tree ear e = elim (cases_eq e ear.link) [
  | inl same ↦ inl (record { node = ear.start; on = subst (λ (d : ℕ). IsOnEar tree ear ear.start d) (sym same) Out })
  | inr other ↦ elim (over_or_not tree ear.kind (new_nodes ear) e) [
    | inl it ↦ inl (record { node = it.node; on = Onward it.node e it.inside it.over })
    | inr nowhere ↦ inr (λ v on. not_out_nor_onward tree ear v e other nowhere on)
  ]
]

-- no other ear has a link of this one
abbrev IsApart : List TreeNode → Ear → List Ear → Type 0
IsApart tree ear ears = (d : Ear) (v w e : ℕ) → Contains ears d → IsOnEar tree ear v e → IsOnEar tree d w e → ⊥

-- what is said of a link of another ear stays
way_stays : (marks marks' : List Mark) (e : ℕ) → slice_get marks' e ≡ slice_get marks e → way_at marks' e ≡ way_at marks e
way_stays marks marks' e same = ap (λ o. option_map (λ mark. mark.way) o) same

pub tail_stays : (g : Topology) (marks marks' : List Mark) (e : ℕ) → way_at marks' e ≡ way_at marks e → tail_at g.links marks' e ≡ tail_at g.links marks e
tail_stays g marks marks' e same = ap (λ o. option_and_then (λ link. option_and_then (tail_of link) o) (slice_get g.links e)) same

tail_still : (g : Topology) (marks marks' : List Mark) (e : ℕ) → slice_get marks' e ≡ slice_get marks e → tail_at g.links marks' e ≡ tail_at g.links marks e
tail_still g marks marks' e same = tail_stays g marks marks' e (way_stays marks marks' e same)

-- a link that was directed away from its node v has this node as its tail
pub tail_along : (v w : ℕ) (link : Link) → far_node v link ≡ Some w → tail_of link (way_along v link) ≡ Some v
tail_along v w link to = elim (eqb_tells link.a v) [
  | inl at_a ↦ rw at_a.0 (ap (λ (u : ℕ). Some u) at_a.1)
  | inr other ↦ elim (far_ends link v w to) [
    | inl up ↦ absurd (other.1 up.0)
    | inr down ↦ rw other.0 (ap (λ (u : ℕ). Some u) down.0)
  ]
]

tail_set : (g : Topology) (marks : List Mark) (v w e : ℕ) → leads g.links e v ≡ Some w → IsSetAway g marks v e → tail_at g.links marks e ≡ Some v
tail_set g marks v w e to is =
    let far : far_node v is.0 ≡ Some w = sym (ap (λ o. option_and_then (far_node v) o) is.1) ∙ to in
    ap (λ o. option_and_then (λ link. option_and_then (tail_of link) (way_at marks e)) o) is.1 ∙ ap (λ o. option_and_then (tail_of is.0) o) is.2
    ∙ tail_along v w is.0 far

role_stays : (marks marks' : List Mark) (e : ℕ) → slice_get marks' e ≡ slice_get marks e → role_at marks' e ≡ role_at marks e
role_stays marks marks' e same = ap (λ o. option_map (λ mark. mark.role) o) same

onward_directed : (g : Topology) (tree : List TreeNode) (ear : Ear) (marks marks' : List Mark) (v w e : ℕ) → AreEarMarked g tree ear marks marks'
    → ¬ IsOfOneLink tree ear → IsOnEar tree ear v e → leads g.links e v ≡ Some w → tail_at g.links marks' e ≡ Some v
onward_directed g tree ear marks marks' v w e set more Out to = tail_set g marks' v w e to set.out
onward_directed g tree ear marks marks' v w e set more (Onward u f new over) to = tail_set g marks' v w e to (set.onward u f more new over)

pub directed_grown : (g : Topology) (tree : List TreeNode) (ears : List Ear) (ear : Ear) (marks marks' : List Mark) → AreDirected g tree ears marks
    → AreEarMarked g tree ear marks marks' → IsApart tree ear ears → ((v e : ℕ) → IsOnEar tree ear v e → (w : ℕ) × (leads g.links e v ≡ Some w))
    → AreDirected g tree (ear ∷ ears) marks'
directed_grown g tree ears ear marks marks' are set apart touches = record {
  out = λ d c. elim (contains_cases ear d ears c) [
    | inl same ↦ subst (λ (x : Ear). tail_at g.links marks' x.link ≡ Some x.start) (sym same)
        (let to = touches ear.start ear.link Out in tail_set g marks' ear.start to.0 ear.link to.1 set.out)
    | inr old ↦ tail_still g marks marks' d.link (set.others d.link (λ v on. apart d v d.start d.link old on Out)) ∙ are.out d old
  ];
  onward = λ d v e c more on. elim (contains_cases ear d ears c) [
    | inl same ↦
        let on' : IsOnEar tree ear v e = subst (λ (x : Ear). IsOnEar tree x v e) same on in
        let to = touches v e on' in
        onward_directed g tree ear marks marks' v to.0 e set (subst (λ (x : Ear). ¬ IsOfOneLink tree x) same more) on' to.1
    | inr old ↦ tail_still g marks marks' e (set.others e (λ w new. apart d w v e old new on)) ∙ are.onward d v e old more on
  ];
  others = λ e within none.
      way_stays marks marks' e (set.others e (λ v on. none ear v (contains_first ear ears) on))
      ∙ are.others e within (λ d v c. none d v (contains_later ear d ears c));
}

pub roles_grown : (g : Topology) (tree : List TreeNode) (ears : List Ear) (ear : Ear) (marks marks' : List Mark) → HaveRoles g tree ears marks
    → AreEarMarked g tree ear marks marks' → IsApart tree ear ears → HaveRoles g tree (ear ∷ ears) marks'
roles_grown g tree ears ear marks marks' are set apart = record {
  sole = λ d c one. elim (contains_cases ear d ears c) [
    | inl same ↦ subst (λ (x : Ear). role_at marks' x.link ≡ Some Sole) (sym same) (set.sole (subst (λ (x : Ear). IsOfOneLink tree x) same one))
    | inr old ↦ role_stays marks marks' d.link (set.others d.link (λ v on. apart d v d.start d.link old on Out)) ∙ are.sole d old one
  ];
  closing = λ d e c last other. elim (contains_cases ear d ears c) [
    | inl same ↦ set.closing e (subst (λ (x : Ear). IsLastOfBlock tree x e) same last) (subst (λ (x : Ear). e ≢ x.link) same other)
    | inr old ↦
        role_stays marks marks' e (set.others e (λ v on. apart d v (last_node d.first d.others) e old on (last_on tree d e last))) ∙ are.closing d e old last other
  ];
  others = λ e within none. elim (on_or_not tree ear e) [
    | inl it ↦ set.plain it.node e it.on (none ear (contains_first ear ears))
    | inr nowhere ↦ role_stays marks marks' e (set.others e nowhere) ∙ are.others e within (λ d c. none d (contains_later ear d ears c))
  ];
}
