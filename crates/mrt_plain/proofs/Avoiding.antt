-- What separates: no path without it leads on.
use Rattle.std.proofs.Common.{◌≡◌, ◌≢◌, ◌⊎◌, ◌<◌, ℕ, Bool, true, false, not, List, [], ◌∷◌, length, get_or, Option, Some, None, inl, inr, refl, sym, ◌∙◌, ap, subst, arith}
use Rattle.std.specs.Prelude.{◌==◌, ◌↔◌, ⊤, Contains, IsTrue, slice_get, if◌then◌else◌}
use Rattle.std.specs.Option.{option_and_then}
use Rattle.std.proofs.lemmas.Bool.{cases_Bool, cases_lt}
use Rattle.std.proofs.lemmas.List.{get_or_default}
use Rattle.std.proofs.lemmas.Option.{slice_get_past}
use Rattle.std.proofs.lemmas.Bool.Decides.{eqb_tells}
use Rattle.mrt_graph.specs.declared.link.Element.{Element}
use Rattle.mrt_graph.specs.declared.link.Element.TheVariants as elements
use Rattle.mrt_graph.specs.declared.link.Link.{Link}
use Rattle.mrt_graph.specs.Leads.{leads, far_node}
use Rattle.mrt_graph.specs.Reachable.{Path, Reachable}
use Rattle.mrt_graph.specs.Search.{IsMarked}
use Rattle.mrt_graph.specs.Separates.{IsNeitherEnd, Separates}
use Rattle.mrt_graph.specs.Uses.{Uses, nodes_met}
use Rattle.mrt_graph.specs.Walk.{Walk}
use Rattle.mrt_graph.proofs.Members.{contains_cases, contains_first, contains_later, contains_none}
use Rattle.mrt_graph.proofs.Walks.{met_first, met_onward}
use Rattle.mrt_plain.specs.steps.Without.{avoids, onward_without, StepsWithout}

-- a test and its negation
absurd_not : (b : Bool) → b ≡ true → not b ≡ true → ⊥
absurd_not true is test = cc
absurd_not false is test = cc

absurd_not' : (b : Bool) → b ≡ false → not b ≡ false → ⊥
absurd_not' true is test = cc
absurd_not' false is test = cc

-- a choice by a test that gave a node
clear_cases : (b : Bool) (w v : ℕ) → (if b then Some w else None) ≡ Some v → (b ≡ true) × (w ≡ v)
clear_cases true w v e = (refl, cc)
clear_cases false w v e = (cc, cc)

clear_says : (x : Element) (e v : ℕ) (o : Option ℕ) → option_and_then (λ (w : ℕ). if avoids x e w then Some w else None) o ≡ Some v → (o ≡ Some v) × (avoids x e v ≡ true)
clear_says x e v None h = (cc, cc)
clear_says x e v (Some w) h =
    let both : (avoids x e w ≡ true) × (w ≡ v) = clear_cases (avoids x e w) w v h
    in (ap Some both.1, subst (λ (u : ℕ). avoids x e u ≡ true) both.1 both.0)

-- a link that leads somewhere is one of the links
past_none : (far : Link → Option ℕ) (v : ℕ) (o : Option Link) → o ≡ None → option_and_then far o ≡ Some v → ⊥
past_none far v None same on = cc
past_none far v (Some l) same on = cc

lead_within : (far : Link → Option ℕ) (links : List Link) (e v : ℕ) → option_and_then far (slice_get links e) ≡ Some v → e < length links
lead_within far links e v on = elim (cases_lt e (length links)) [
  | inl within ↦ within
  | inr past ↦ absurd (past_none far v (slice_get links e) (slice_get_past links e past) on)
]

-- numbers that are unequal, and numbers that are not
pub differ : (a b : ℕ) → not (a == b) ≡ true → a ≢ b
differ a b test = elim (eqb_tells a b) as (λ _. a ≢ b) [
  | inl same ↦ absurd (absurd_not (a == b) same.0 test)
  | inr other ↦ other.1
]

pub agree : (a b : ℕ) → not (a == b) ≡ false → a ≡ b
agree a b test = elim (eqb_tells a b) as (λ _. a ≡ b) [
  | inl same ↦ same.1
  | inr other ↦ absurd (absurd_not' (a == b) other.0 test)
]

-- a step without x: a link that leads on, where neither it nor the node is x
pub onward_is : (links : List Link) (x : Element) (u v e : ℕ) → leads links e u ≡ Some v → avoids x e v ≡ true → onward_without links x u e ≡ Some v
onward_is links x u v e on clear =
    ap (option_and_then (λ (w : ℕ). if avoids x e w then Some w else None)) on
    ∙ ap (λ (b : Bool). if b then Some v else None) clear

pub onward_says : (links : List Link) (x : Element) (u v e : ℕ) → onward_without links x u e ≡ Some v → (leads links e u ≡ Some v) × (avoids x e v ≡ true)
onward_says links x u v e onward = clear_says x e v (leads links e u) onward

pub onward_within : (links : List Link) (x : Element) (u e v : ℕ) → onward_without links x u e ≡ Some v → e < length links
onward_within links x u e v onward = lead_within (far_node u) links e v (onward_says links x u v e onward).0

-- a walk uses what the rest of it uses
pub uses_later : (links : List Link) (x : Element) (s e v : ℕ) (es : List ℕ) → leads links e s ≡ Some v → Uses links v es x → Uses links s (e ∷ es) x
uses_later links (elements.Link a) s e v es on uses = contains_later e a es uses
uses_later links (elements.Node y) s e v es on uses =
    subst (λ (met : List ℕ). Contains met y) (sym (met_onward links s e v es on)) (contains_later s y (nodes_met links v es) uses)

-- and the first link and the node after it
pub uses_hit : (links : List Link) (x : Element) (s e v : ℕ) (es : List ℕ) → leads links e s ≡ Some v → avoids x e v ≡ false → Uses links s (e ∷ es) x
uses_hit links (elements.Link a) s e v es on hit = subst (λ (f : ℕ). Contains (e ∷ es) f) (agree e a hit) (contains_first e es)
uses_hit links (elements.Node y) s e v es on hit =
    subst (λ (met : List ℕ). Contains met y) (sym (met_onward links s e v es on))
    (contains_later s y (nodes_met links v es) (subst (λ (w : ℕ). Contains (nodes_met links v es) w) (agree v y hit) (met_first links es v)))

-- a walk uses x, or there is a path without x
pub uses_or_path : (links : List Link) (x : Element) (walk : List ℕ) (s t : ℕ) → Walk links s walk t → Uses links s walk x ⊎ Reachable (StepsWithout links x) s t
uses_or_path links x [] s t w = inr ([], w)
uses_or_path links x (e ∷ es) s t w = elim (cases_Bool (avoids x e w.0)) [
  | inl clear ↦ elim (uses_or_path links x es w.0 t w.2) [
    | inl uses ↦ inl (uses_later links x s e w.0 es w.1 uses)
    | inr path ↦ inr (w.0 ∷ path.0, ((e, onward_is links x s w.0 e w.1 clear), path.1))
  ]
  | inr hit ↦ inl (uses_hit links x s e w.0 es w.1 hit)
]

-- x is not the node s
pub Elsewhere : Element → ℕ → Type 0
Elsewhere (elements.Link a) s = ⊤
Elsewhere (elements.Node y) s = s ≢ y

-- this holds after each step without x, and at the beginning of what x may separate
pub elsewhere_onward : (x : Element) (e v : ℕ) → avoids x e v ≡ true → Elsewhere x v
unfolding Elsewhere
elsewhere_onward (elements.Link a) e v clear = tt
elsewhere_onward (elements.Node y) e v clear = differ v y clear

pub elsewhere_between : (x : Element) (s t : ℕ) → IsNeitherEnd x s t → Elsewhere x s
unfolding Elsewhere
elsewhere_between (elements.Link a) s t between = tt
elsewhere_between (elements.Node y) s t between = λ same. between.0 (sym same)

-- the empty walk uses the node s alone
pub unused_at_first : (links : List Link) (x : Element) (s : ℕ) → Elsewhere x s → Uses links s [] x → ⊥
unfolding Elsewhere
unused_at_first links (elements.Link a) s elsewhere uses = contains_none a uses
unused_at_first links (elements.Node y) s elsewhere uses = elim (contains_cases s y [] uses) [
  | inl same ↦ elsewhere (sym same)
  | inr later ↦ omega (arith, later.1)
]

-- one step more without x
pub unused_onward : (links : List Link) (x : Element) (s e v : ℕ) (es : List ℕ) → Elsewhere x s → leads links e s ≡ Some v → avoids x e v ≡ true
    → (Uses links v es x → ⊥) → Uses links s (e ∷ es) x → ⊥
unfolding Elsewhere
unused_onward links (elements.Link a) s e v es elsewhere on clear unused uses = elim (contains_cases e a es uses) [
  | inl same ↦ differ e a clear (sym same)
  | inr later ↦ unused later
]
unused_onward links (elements.Node y) s e v es elsewhere on clear unused uses =
    elim (contains_cases s y (nodes_met links v es) (subst (λ (met : List ℕ). Contains met y) (met_onward links s e v es on) uses)) [
      | inl same ↦ elsewhere (sym same)
      | inr later ↦ unused later
    ]

-- a walk that does not use x
pub record WalkWithout (links : List Link) (x : Element) (s t : ℕ) : Type 0 where
  pub walk : List ℕ
  pub walks : Walk links s walk t
  pub unused : Uses links s walk x → ⊥

-- a path without x is a walk that does not use x
pub walk_without : (links : List Link) (x : Element) (path : List ℕ) (s t : ℕ) → Elsewhere x s → Path (StepsWithout links x) s path t → WalkWithout links x s t
walk_without links x [] s t elsewhere p = record { walk = []; walks = p; unused = unused_at_first links x s elsewhere }
walk_without links x (v ∷ vs) s t elsewhere p =
    let says : (leads links p.0.0 s ≡ Some v) × (avoids x p.0.0 v ≡ true) = onward_says links x s v p.0.0 p.0.1 in
    let rest : WalkWithout links x v t = walk_without links x vs v t (elsewhere_onward x p.0.0 v says.1) p.1 in
    record {
      walk = p.0.0 ∷ rest.walk;
      walks = (v, says.0, rest.walks);
      unused = unused_onward links x s p.0.0 v rest.walk elsewhere says.0 says.1 rest.unused;
    }

-- x separates s and t exactly where no path without it leads from the one to the other
pub separates_where : (links : List Link) (x : Element) (s t : ℕ) → IsNeitherEnd x s t → (Reachable (StepsWithout links x) s t → ⊥) → Separates links x s t
separates_where links x s t between none = record {
  between = between;
  on_every_walk = λ walk w. elim (uses_or_path links x walk s t w) [ inl uses ↦ uses | inr path ↦ absurd (none path) ];
}

pub separates_none : (links : List Link) (x : Element) (s t : ℕ) → Separates links x s t → Reachable (StepsWithout links x) s t → ⊥
separates_none links x s t separates path =
    let other : WalkWithout links x s t = walk_without links x path.0 s t (elsewhere_between x s t separates.between) path.1
    in other.unused (separates.on_every_walk other.walk other.walks)

-- the answer read off the mark of t
pub told_by_mark : (links : List Link) (x : Element) (s t : ℕ) (marks : List Bool) (mark : Bool) → t < length marks → mark ≡ get_or marks t mark
    → IsNeitherEnd x s t → (IsMarked marks t ↔ Reachable (StepsWithout links x) s t) → IsTrue (not mark) ↔ Separates links x s t
told_by_mark links x s t marks mark within read between reached =
    let here : mark ≡ get_or marks t false = read ∙ get_or_default marks t mark false within in (
      (λ test. separates_where links x s t between (λ path. absurd_not mark (here ∙ reached.1 path) test)),
      (λ separates. elim (cases_Bool mark) [
        | inl marked ↦ absurd (separates_none links x s t separates (reached.0 (sym here ∙ marked)))
        | inr bare ↦ ap not bare
      ]),
    )
