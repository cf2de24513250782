-- What an alternate gives, where both color walks reach their destination and share only what separates.
use Rattle.std.proofs.Common.{◌≡◌, ◌↔◌, ◌⊎◌, ℕ, List, Option, Some, None, inl, inr, refl}
use Rattle.mrt_graph.specs.declared.cert.Color.{Color}
use Rattle.mrt_graph.specs.declared.cert.Color.TheVariants.{Blue, Red}
use Rattle.mrt_graph.specs.declared.link.Element.{Element}
use Rattle.mrt_graph.specs.declared.link.Link.{Link}
use Rattle.mrt_graph.specs.Alternate.{AtEnd, ByBlue, ByRed, IsAlternate, OnBoth, UsesOn}
use Rattle.mrt_graph.specs.ColorWalk.{color_walk}
use Rattle.mrt_graph.specs.Rows.{Rows}
use Rattle.mrt_graph.specs.Separates.{IsNeitherEnd, Separates}
use Rattle.mrt_graph.specs.Sound.{SoundFor}
use Rattle.mrt_graph.specs.Walk.{Walk}

-- none exactly for the ends and what separates them
pub none_exactly : (links : List Link) (n : ℕ) (rows : Rows) (s t : ℕ) → SoundFor links n rows s t → (x : Element) (answer : Option Color)
    → IsAlternate links n rows s t (Some x) answer → (answer ≡ None) ↔ ((¬ IsNeitherEnd x s t) ⊎ Separates links x s t)
none_exactly links n rows s t sound x answer (AtEnd y end) = (λ e. inl end, λ why. refl)
none_exactly links n rows s t sound x answer (OnBoth y between blue red) = (λ e. inr (sound.apart x between blue red), λ why. refl)
none_exactly links n rows s t sound x answer (ByBlue y between not_blue) = (
  λ e. cc,
  λ why. elim why [
    | inl end ↦ absurd (end between)
    | inr separates ↦ absurd (not_blue (separates.on_every_walk _ sound.blue.ends_at_t))
  ],
)
none_exactly links n rows s t sound x answer (ByRed y between blue not_red) = (
  λ e. cc,
  λ why. elim why [
    | inl end ↦ absurd (end between)
    | inr separates ↦ absurd (not_red (separates.on_every_walk _ sound.red.ends_at_t))
  ],
)

-- each color's walk leads to the destination
pub color_arrives : (links : List Link) (n : ℕ) (rows : Rows) (s t : ℕ) → SoundFor links n rows s t → (color : Color)
    → Walk links s (color_walk links n rows color s t) t
color_arrives links n rows s t sound Blue = sound.blue.ends_at_t
color_arrives links n rows s t sound Red = sound.red.ends_at_t

-- a color that is given does not use the element
pub not_used : (links : List Link) (n : ℕ) (rows : Rows) (s t : ℕ) (x : Element) (color : Color) → IsAlternate links n rows s t (Some x) (Some color)
    → ¬ UsesOn links n rows s t x color
not_used links n rows s t x color (ByBlue y between not_blue) = not_blue
not_used links n rows s t x color (ByRed y between blue not_red) = not_red
