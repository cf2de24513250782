-- What one step of a walk uses.
use Rattle.std.specs.Prelude.{◌≡◌, ℕ}
use Rattle.mrt_graph.specs.declared.link.Element.{Element}
use Rattle.mrt_graph.specs.declared.link.Element.TheVariants as elements

-- a step over link e to node v: x is that link or that node
abbrev pub IsOver : ℕ → ℕ → Element → Type 0
IsOver e v (elements.Link x) = x ≡ e
IsOver e v (elements.Node x) = x ≡ v
