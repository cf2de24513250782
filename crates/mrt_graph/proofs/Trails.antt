-- Walks hop by hop: each link with the node that it leads to.
use Rattle.std.specs.Prelude.{◌≡◌, ◌≢◌, ℕ, List, [], ◌∷◌, Option, Some, map}
use Rattle.mrt_graph.specs.declared.link.Element.{Element}
use Rattle.mrt_graph.specs.declared.link.Element.TheVariants as elements
use Rattle.mrt_graph.specs.declared.link.Link.{Link}
use Rattle.mrt_graph.specs.Hop.{Hop}
use Rattle.mrt_graph.specs.Leads.{leads}
use Rattle.mrt_graph.proofs.Members.{Has}

-- no number is in the list twice
abbrev pub Differ : List ℕ → Type 0
Differ [] = Unit {0}
Differ (x ∷ xs) = (Has xs x → ⊥) × Differ xs

-- the hops lead from s to t
abbrev pub Trail : List Link → ℕ → List Hop → ℕ → Type 0
Trail links s [] t = s ≡ t
Trail links s (hop ∷ hops) t = (leads links hop.link s ≡ Some hop.to) × Trail links hop.to hops t

-- the nodes after the hops
abbrev pub nodes_behind : List Hop → List ℕ
nodes_behind hops = map (λ hop. hop.to) hops

-- the nodes that hops from s meet, s among them
abbrev pub nodes_on : ℕ → List Hop → List ℕ
nodes_on s hops = s ∷ nodes_behind hops

-- the links that hops go over
abbrev pub links_on : List Hop → List ℕ
links_on hops = map (λ hop. hop.link) hops

-- hops from s use this link or node
abbrev pub On : ℕ → List Hop → Element → Type 0
On s hops (elements.Link e) = Has (links_on hops) e
On s hops (elements.Node x) = Has (nodes_on s hops) x

-- all hops from s to t use x
abbrev pub Parts : List Link → Element → ℕ → ℕ → Type 0
Parts links x s t = (hops : List Hop) → Trail links s hops t → On s hops x

-- where each node that is not t gives its next hop, these are the hops from s to t
abbrev pub Follows : (ℕ → Option Hop) → ℕ → ℕ → List Hop → Type 0
Follows next t s [] = s ≡ t
Follows next t s (hop ∷ hops) = (s ≢ t) × ((next s ≡ Some hop) × Follows next t hop.to hops)

-- the next hop of each node is over a link that leads where it says
abbrev pub IsOnLinks : List Link → (ℕ → Option Hop) → Type 0
IsOnLinks links next = (s : ℕ) (hop : Hop) → next s ≡ Some hop → leads links hop.link s ≡ Some hop.to
