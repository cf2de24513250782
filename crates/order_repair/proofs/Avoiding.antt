-- What a walk on a color does not use: where the nodes that it may meet are told, and the links over which it leaves them.
use Rattle.std.proofs.Common.{◌≡◌, ◌≢◌, ◌⊎◌, ◌∙◌, ℕ, zero, suc, List, Option, Some, inl, inr, sym, ap, subst}
use Rattle.std.proofs.lemmas.Bool.{cases_eq, eq-eqb, ne_eqb}
use Rattle.std.specs.Option.{option_and_then, option_map}
use Rattle.mrt_graph.specs.declared.cert.Color.{Color}
use Rattle.mrt_graph.specs.declared.cert.Row.{Row}
use Rattle.mrt_graph.specs.declared.link.Element.{Element}
use Rattle.mrt_graph.specs.declared.link.Element.TheVariants as elements
use Rattle.mrt_graph.specs.declared.link.Link.{Link}
use Rattle.mrt_graph.specs.ColorWalk.{links_followed}
use Rattle.mrt_graph.specs.Hop.{Hop, color_hop, hop_over}
use Rattle.mrt_graph.specs.Leads.{leads}
use Rattle.mrt_graph.specs.Rows.{Rows, link_of_color}
use Rattle.mrt_graph.specs.Uses.{Uses, nodes_met}
use Rattle.mrt_graph.proofs.Members.{Has, has_from_contains}
use Rattle.mrt_graph.proofs.Trails.{IsOnLinks}

-- from u the next hop leads to t, or to a node that may be met, and it crosses a link as told
pub record Goes (next : ℕ → Option Hop) (May : ℕ → Type 0) (Crosses : ℕ → ℕ → ℕ → Type 0) (t u : ℕ) : Type 0 where
  pub hop : Hop
  pub takes : next u ≡ Some hop
  pub keeps : (hop.to ≡ t) ⊎ May hop.to
  pub crosses : Crosses hop.link u hop.to

-- a link that is never crossed, or a node that is never met
abbrev pub Never : (ℕ → Type 0) → (ℕ → ℕ → ℕ → Type 0) → ℕ → Element → Type 0
Never May Crosses t (elements.Link e) = (u y : ℕ) → May u → u ≢ t → (y ≡ t) ⊎ May y → Crosses e u y → ⊥
Never May Crosses t (elements.Node f) = (f ≢ t) × (May f → ⊥)

-- the hop of a row
pub hop_is : (links : List Link) (rows : Rows) (color : Color) (t u : ℕ) (row : Row) (y : ℕ) → rows u t ≡ Some row
    → leads links (link_of_color color row) u ≡ Some y
    → color_hop links rows color t u ≡ Some (record { link = link_of_color color row; to = y })
hop_is links rows color t u row y is onward =
    ap (λ (o : Option Row). option_and_then (λ row. hop_over links u (link_of_color color row)) o) is
    ∙ ap (option_map made) onward
  where
    made : ℕ → Hop
    made v = record { link = link_of_color color row; to = v }

module _ (links : List Link) (next : ℕ → Option Hop) (on_links : IsOnLinks links next) (May : ℕ → Type 0)
    (Crosses : ℕ → ℕ → ℕ → Type 0) (t : ℕ) (goes : (u : ℕ) → May u → u ≢ t → Goes next May Crosses t u) where
  met : (s : ℕ) → s ≢ t → (s ≡ t) ⊎ May s → May s
  met s other at = elim at [ inl same ↦ absurd (other same) | inr may ↦ may ]

  -- a link over which no node is left
  no_link : (e : ℕ) → ((u y : ℕ) → May u → u ≢ t → (y ≡ t) ⊎ May y → Crosses e u y → ⊥) → (most s : ℕ)
      → (s ≡ t) ⊎ May s → Has (links_followed next t most s) e → ⊥
  no_link e never zero s at has = has
  no_link e never (suc most) s at has = elim (cases_eq s t) [
    | inl same ↦ let none = rw (eq-eqb s t same) at has in none
    | inr other ↦
        let go = goes s (met s other at) other in
        let left = rw (ne_eqb s t other, go.takes) at has in
        elim left [
          | inl same ↦
              never s go.hop.to (met s other at) other go.keeps (subst (λ (k : ℕ). Crosses k s go.hop.to) same go.crosses)
          | inr later ↦ no_link e never most go.hop.to go.keeps later
        ]
  ]

  -- a node that may not be met
  module _ (f : ℕ) (not_there : f ≢ t) (never : May f → ⊥) where
    not_here : (s : ℕ) → (s ≡ t) ⊎ May s → s ≡ f → ⊥
    not_here s at same = elim at [
      | inl there ↦ not_there (sym same ∙ there)
      | inr may ↦ never (subst May same may)
    ]

    no_node : (most s : ℕ) → (s ≡ t) ⊎ May s → Has (nodes_met links s (links_followed next t most s)) f → ⊥
    no_node zero s at has = elim has [ inl same ↦ not_here s at same | inr none ↦ none ]
    no_node (suc most) s at has = elim (cases_eq s t) [
      | inl there ↦
          let last = rw (eq-eqb s t there) at has in
          elim last [ inl same ↦ not_here s at same | inr none ↦ none ]
      | inr other ↦
          let go = goes s (met s other at) other in
          let onward = on_links s go.hop go.takes in
          let left = rw (ne_eqb s t other, go.takes, onward) at has in
          elim left [
            | inl same ↦ not_here s at same
            | inr later ↦ no_node most go.hop.to go.keeps later
          ]
    ]

  pub not_used : (x : Element) → Never May Crosses t x → (most s : ℕ) → May s → Uses links s (links_followed next t most s) x → ⊥
  not_used (elements.Link e) never most s may uses =
      no_link e never most s (inr may) (has_from_contains (links_followed next t most s) e uses)
  not_used (elements.Node f) never most s may uses =
      no_node f never.0 never.1 most s (inr may)
      (has_from_contains (nodes_met links s (links_followed next t most s)) f uses)
