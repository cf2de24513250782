-- Flags on what a walk uses: what is used so far, and what is left of the walk.
use Rattle.std.proofs.Common.{◌≡◌, ◌≢◌, ◌<◌, ◌↔◌, ◌⊎◌, ◌∙◌, ◌-◌, ℕ, Bool, false, List, Some, None, length, inl, inr, refl, sym, true≢false}
use Rattle.std.specs.Prelude.{Option, IsNone, IsTrue}
use Rattle.std.proofs.lemmas.Bool.{cases_Bool}
use Rattle.mrt_graph.specs.declared.cert.Color.{Color}
use Rattle.mrt_graph.specs.declared.link.Element.{Element}
use Rattle.mrt_graph.specs.ColorWalk.{color_walk}
use Rattle.mrt_graph.specs.Hop.{Hop, color_hop}
use Rattle.mrt_graph.specs.Separates.{IsNeitherEnd}
use Rattle.mrt_graph.specs.Uses.{Uses}
use Rattle.mrt_graph.proofs.Bridge.{color_leads}
use Rattle.primary_alt.proofs.ColorsUse.{IsOnWay, way_begins, way_ends, way_goes_on, way_meets, way_stops}
use Rattle.mrt_report.specs.LineParts.{LineParts}
use Rattle.mrt_report.specs.steps.Uses.{IsOverOne, TellUses, TellsUse}
use Rattle.mrt_report.specs.declared.elements.ArcElements.{ArcElements}
use Rattle.mrt_report.specs.declared.uses.ArcUses.{ArcUses}

-- the hop from each node
abbrev pub its_hops : LineParts → ℕ → Color → ℕ → Option Hop
its_hops parts to color = color_hop parts.island.links parts.rows color to

-- the whole walk
abbrev pub its_walk : LineParts → ℕ → Color → List ℕ
its_walk parts to color = color_walk parts.island.links (length parts.island.ids) parts.rows color parts.source to

-- the whole walk uses the element
abbrev pub IsUsed : LineParts → ℕ → Color → Element → Type 0
IsUsed parts to color x = Uses parts.island.links parts.source (its_walk parts to color) x

-- it uses the element exactly where what is left of it does
abbrev pub IsLeft : LineParts → ℕ → Color → ℕ → ℕ → Element → Type 0
IsLeft parts to color most at x =
    IsOnWay parts.island.links (its_hops parts to color) to x (its_walk parts to color) parts.source most at

-- on the way: where the flag is set, the whole walk uses the element; else what is left of the walk tells
abbrev pub TellsSoFar : LineParts → ℕ → Color → ℕ → ℕ → Option Element → Bool → Type 0
TellsSoFar parts to color most at None flag = flag ≡ false
TellsSoFar parts to color most at (Some x) flag = IsNeitherEnd x parts.source to
    → (IsTrue flag × IsUsed parts to color x) ⊎ ((flag ≡ false) × IsLeft parts to color most at x)

-- at the beginning
pub telling_begins : (parts : LineParts) (to : ℕ) (color : Color) (x : Option Element)
    → TellsSoFar parts to color (length parts.island.ids) parts.source x false
telling_begins parts to color None = refl
telling_begins parts to color (Some x) = λ between. inr (refl, way_begins parts.island.links (its_hops parts to color) to x parts.source (length parts.island.ids) between)

not_set : (flag : Bool) → (IsTrue flag → ⊥) → flag ≡ false
not_set flag not_true = elim (cases_Bool flag) [ inl set ↦ absurd (not_true set) | inr unset ↦ unset ]

-- one step more
pub telling_goes_on : (parts : LineParts) (to : ℕ) (color : Color) (most at e v : ℕ) (x : Option Element) (flag later : Bool)
    → 0 < most → at ≢ to → color_hop parts.island.links parts.rows color to at ≡ Some (record { link = e; to = v })
    → (IsTrue later ↔ (IsTrue flag ⊎ IsOverOne e v x))
    → TellsSoFar parts to color most at x flag → TellsSoFar parts to color (most - 1) v x later
telling_goes_on parts to color most at e v None flag later some other is tells so_far =
    not_set later (λ set. elim (tells.0 set) [
      | inl was ↦ true≢false (sym was ∙ so_far)
      | inr none ↦ none
    ])
telling_goes_on parts to color most at e v (Some x) flag later some other is tells so_far = λ between. elim (so_far between) [
  | inl was ↦ inl (tells.1 (inl was.0), was.1)
  | inr not_yet ↦ elim (cases_Bool later) [
    | inl set ↦ elim (tells.0 set) [
      | inl was ↦ absurd (true≢false (sym was ∙ not_yet.0))
      | inr over ↦ inl (set, way_meets parts.island.links (its_hops parts to color) (color_leads parts.island.links parts.rows color to) to x (its_walk parts to color) parts.source most at e v some other is over not_yet.1)
    ]
    | inr unset ↦ inr (
      unset,
      way_goes_on parts.island.links (its_hops parts to color) (color_leads parts.island.links parts.rows color to) to x (its_walk parts to color) parts.source most at e v some other is
          (λ over. true≢false (sym (tells.1 (inr over)) ∙ unset)) not_yet.1,
    )
  ]
]

-- where nothing is left of the walk
told : (parts : LineParts) (to : ℕ) (color : Color) (most at : ℕ) (x : Option Element) (flag : Bool)
    → ((y : Element) → IsLeft parts to color most at y → IsUsed parts to color y → ⊥)
    → TellsSoFar parts to color most at x flag → TellsUse parts to color x flag
told parts to color most at None flag over so_far = so_far
told parts to color most at (Some x) flag over so_far = λ between. elim (so_far between) [
  | inl was ↦ (λ set. was.1, λ uses. was.0)
  | inr not_yet ↦ (λ set. absurd (true≢false (sym set ∙ not_yet.0)), λ uses. absurd (over x not_yet.1 uses))
]

-- where the element is used already, or there is none
settled : (parts : LineParts) (to : ℕ) (color : Color) (most at : ℕ) (x : Option Element) (flag : Bool)
    → IsTrue flag ⊎ IsNone x → TellsSoFar parts to color most at x flag → TellsUse parts to color x flag
settled parts to color most at None flag is so_far = so_far
settled parts to color most at (Some x) flag is so_far = λ between. elim (so_far between) [
  | inl was ↦ (λ set. was.1, λ uses. was.0)
  | inr not_yet ↦ elim is [
    | inl set ↦ absurd (true≢false (sym set ∙ not_yet.0))
    | inr none ↦ absurd (true≢false none)
  ]
]

-- the same of both elements of an arc
pub record TellSoFar (parts : LineParts) (to : ℕ) (color : Color) (most at : ℕ) (elements : ArcElements) (flags : ArcUses) : Type 0 where
  pub link : TellsSoFar parts to color most at elements.link flags.link
  pub node : TellsSoFar parts to color most at elements.node flags.node

pub both_begin : (parts : LineParts) (to : ℕ) (color : Color) (elements : ArcElements)
    → TellSoFar parts to color (length parts.island.ids) parts.source elements (record { link = false; node = false })
both_begin parts to color elements = record {
  link = telling_begins parts to color elements.link;
  node = telling_begins parts to color elements.node;
}

-- a step from a node to another one
pub record IsStepOn (parts : LineParts) (to : ℕ) (color : Color) (most at e v : ℕ) : Type 0 where
  pub some : 0 < most
  pub other : at ≢ to
  pub hop : color_hop parts.island.links parts.rows color to at ≡ Some (record { link = e; to = v })

pub both_go_on : (parts : LineParts) (to : ℕ) (color : Color) (most at e v : ℕ) (elements : ArcElements) (flags later : ArcUses)
    → IsStepOn parts to color most at e v
    → (IsTrue later.link ↔ (IsTrue flags.link ⊎ IsOverOne e v elements.link))
    → (IsTrue later.node ↔ (IsTrue flags.node ⊎ IsOverOne e v elements.node))
    → TellSoFar parts to color most at elements flags → TellSoFar parts to color (most - 1) v elements later
both_go_on parts to color most at e v elements flags later step over_link over_node so_far = record {
  link = telling_goes_on parts to color most at e v elements.link flags.link later.link step.some step.other step.hop over_link so_far.link;
  node = telling_goes_on parts to color most at e v elements.node flags.node later.node step.some step.other step.hop over_node so_far.node;
}

-- at the end of the walk
pub both_end : (parts : LineParts) (to : ℕ) (color : Color) (most at : ℕ) (elements : ArcElements) (flags : ArcUses) → at ≡ to
    → TellSoFar parts to color most at elements flags → TellUses parts to color elements flags
both_end parts to color most at elements flags same so_far = record {
  link = told parts to color most at elements.link flags.link (λ y. way_ends parts.island.links (its_hops parts to color) to y (its_walk parts to color) parts.source most at same) so_far.link;
  node = told parts to color most at elements.node flags.node (λ y. way_ends parts.island.links (its_hops parts to color) to y (its_walk parts to color) parts.source most at same) so_far.node;
}

-- where all that are there are used
pub both_settled : (parts : LineParts) (to : ℕ) (color : Color) (most at : ℕ) (elements : ArcElements) (flags : ArcUses)
    → (IsTrue flags.link ⊎ IsNone elements.link) × (IsTrue flags.node ⊎ IsNone elements.node)
    → TellSoFar parts to color most at elements flags → TellUses parts to color elements flags
both_settled parts to color most at elements flags are so_far = record {
  link = settled parts to color most at elements.link flags.link are.0 so_far.link;
  node = settled parts to color most at elements.node flags.node are.1 so_far.node;
}

-- and with no step left
pub both_stop : (parts : LineParts) (to : ℕ) (color : Color) (most at : ℕ) (elements : ArcElements) (flags : ArcUses) → most ≡ 0
    → TellSoFar parts to color most at elements flags → TellUses parts to color elements flags
both_stop parts to color most at elements flags none so_far = record {
  link = told parts to color most at elements.link flags.link (λ y. way_stops parts.island.links (its_hops parts to color) to y (its_walk parts to color) parts.source most at none) so_far.link;
  node = told parts to color most at elements.node flags.node (λ y. way_stops parts.island.links (its_hops parts to color) to y (its_walk parts to color) parts.source most at none) so_far.node;
}
