-- Steps that do without a link or a node.
use Rattle.std.specs.Prelude.{◌≡◌, ◌==◌, ℕ, Bool, not, List, Option, Some, None, if◌then◌else◌}
use Rattle.std.specs.Option.{option_and_then}
use Rattle.mrt_graph.specs.declared.link.Element.{Element}
use Rattle.mrt_graph.specs.declared.link.Element.TheVariants as elements
use Rattle.mrt_graph.specs.declared.link.Link.{Link}
use Rattle.mrt_graph.specs.Leads.{leads}

-- neither link e nor the node v that it leads to is x
abbrev pub avoids : Element → ℕ → ℕ → Bool
avoids (elements.Link x) e v = not (e == x)
avoids (elements.Node x) e v = not (v == x)

-- where link e leads from u; nowhere where the link or that node is x
abbrev pub onward_without : List Link → Element → ℕ → ℕ → Option ℕ
onward_without links x u e = option_and_then (λ v. if avoids x e v then Some v else None) (leads links e u)

-- some link leads from u to v, and neither it nor v is x
abbrev pub StepsWithout : List Link → Element → ℕ → ℕ → Type 0
StepsWithout links x u v = (e : ℕ) × (onward_without links x u e ≡ Some v)
