-- Which elements a color walk uses, by flags.
use Rattle.std.specs.Prelude.{◌≡◌, ◌↔◌, ℕ, Bool, false, Option, Some, None, IsTrue, length}
use Rattle.mrt_graph.specs.declared.cert.Color.{Color}
use Rattle.mrt_graph.specs.declared.link.Element.{Element}
use Rattle.mrt_graph.specs.Alternate.{UsesOn}
use Rattle.mrt_graph.specs.Separates.{IsNeitherEnd}
use Rattle.primary_alt.specs.Meets.{IsOver}
use Rattle.mrt_report.specs.LineParts.{LineParts}
use Rattle.mrt_report.specs.declared.elements.ArcElements.{ArcElements}
use Rattle.mrt_report.specs.declared.uses.ArcUses.{ArcUses}

-- a hop over link e to node v is over the element, if there is one
abbrev pub IsOverOne : ℕ → ℕ → Option Element → Type 0
IsOverOne e v None = ⊥
IsOverOne e v (Some x) = IsOver e v x

-- the flag tells whether the color walk from the router uses the element, where it is neither end; what is not there is
-- not used
abbrev pub TellsUse : LineParts → ℕ → Color → Option Element → Bool → Type 0
TellsUse parts to color None flag = flag ≡ false
TellsUse parts to color (Some x) flag =
    IsNeitherEnd x parts.source to
    → IsTrue flag ↔ UsesOn parts.island.links (length parts.island.ids) parts.rows parts.source to x color

-- the flags tell it of both elements of an arc
pub record TellUses (parts : LineParts) (to : ℕ) (color : Color) (elements : ArcElements) (flags : ArcUses) : Type 0 where
  pub link : TellsUse parts to color elements.link flags.link
  pub node : TellsUse parts to color elements.node flags.node
