-- For each failure there is an alternate, a color or none.
use Rattle.std.proofs.Common.{◌⊎◌, ℕ, List, Option, Some, None, inl, inr}
use Rattle.std.proofs.lemmas.Bool.{cases_eq}
use Rattle.mrt_graph.specs.Alternate.{AtEnd, ByBlue, ByRed, IsAlternate, OnBoth, Outside}
use Rattle.mrt_graph.specs.ColorWalk.{color_walk}
use Rattle.mrt_graph.specs.Rows.{Rows}
use Rattle.mrt_graph.specs.Separates.{IsNeitherEnd}
use Rattle.mrt_graph.specs.Uses.{Uses, nodes_met}
use Rattle.mrt_graph.specs.declared.cert.Color.{Color}
use Rattle.mrt_graph.specs.declared.cert.Color.TheVariants.{Blue, Red}
use Rattle.mrt_graph.specs.declared.link.Element.{Element}
use Rattle.mrt_graph.specs.declared.link.Element.TheVariants as elements
use Rattle.mrt_graph.specs.declared.link.Link.{Link}
use Rattle.mrt_graph.proofs.Members.{listed_or_not}

uses_or_not : (links : List Link) (s : ℕ) (walk : List ℕ) (x : Element) → Uses links s walk x ⊎ (Uses links s walk x → ⊥)
uses_or_not links s walk (elements.Link e) = listed_or_not walk e
uses_or_not links s walk (elements.Node y) = listed_or_not (nodes_met links s walk) y

between_or_not : (x : Element) (s t : ℕ) → IsNeitherEnd x s t ⊎ (IsNeitherEnd x s t → ⊥)
between_or_not (elements.Link e) s t = inl tt
between_or_not (elements.Node y) s t = elim (cases_eq y s) [
  | inl same ↦ inr (λ between. between.0 same)
  | inr other ↦ elim (cases_eq y t) [ inl same ↦ inr (λ between. between.1 same) | inr other' ↦ inl (other, other') ]
]

pub some_alternate : (links : List Link) (n : ℕ) (rows : Rows) (s t : ℕ) (failed : Option Element) → (answer : Option Color) × IsAlternate links n rows s t failed answer
some_alternate links n rows s t None = (Some Blue, Outside)
some_alternate links n rows s t (Some x) = elim (between_or_not x s t) [
  | inr end ↦ (None, AtEnd x end)
  | inl between ↦ elim (uses_or_not links s (color_walk links n rows Blue s t) x) [
    | inr not_blue ↦ (Some Blue, ByBlue x between not_blue)
    | inl blue ↦ elim (uses_or_not links s (color_walk links n rows Red s t) x) [
      | inr not_red ↦ (Some Red, ByRed x between blue not_red)
      | inl red ↦ (None, OnBoth x between blue red)
    ]
  ]
]
