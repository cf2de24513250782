-- Walks, link by link and hop by hop.
use Rattle.std.proofs.Common.{ℕ, List, sym, subst}
use Rattle.mrt_graph.specs.declared.link.Element.TheVariants as elements
use Rattle.mrt_graph.specs.declared.link.Link.{Link}
use Rattle.mrt_graph.specs.Hop.{Hop}
use Rattle.mrt_graph.specs.Separates.{Separates}
use Rattle.mrt_graph.specs.Uses.{Uses, nodes_met}
use Rattle.mrt_graph.specs.Walk.{Walk}
use Rattle.mrt_graph.proofs.Bridge.{hops_of, met_of, walk_of}
use Rattle.mrt_graph.proofs.Hops.{Round}
use Rattle.mrt_graph.proofs.Members.{Has, contains_from_has, has_from_contains}
use Rattle.mrt_graph.proofs.Trails.{Trail, links_on, nodes_on}

-- where all hops from s to t meet x, all walks do
pub on_walks : (links : List Link) (s t x : ℕ) → ((hops : List Hop) → Trail links s hops t → Has (nodes_on s hops) x)
    → (walk : List ℕ) → Walk links s walk t → Uses links s walk (elements.Node x)
on_walks links s t x all walk is =
    let h = hops_of links s t walk is in
    subst (λ (es : List ℕ). Uses links s es (elements.Node x)) h.same
    (contains_from_has (nodes_met links s (links_on h.hops)) x
    (subst (λ (xs : List ℕ). Has xs x) (sym (met_of links s t h.hops h.trail)) (all h.hops h.trail)))

-- what separates s and t no walk from s to t goes round
pub no_round : (links : List Link) (s t x : ℕ) → Separates links (elements.Node x) s t → Round links x s t → ⊥
no_round links s t x separates around =
    let uses = separates.on_every_walk (links_on around.hops) (walk_of links s t around.hops around.trail) in
    around.without
    (subst (λ (xs : List ℕ). Has xs x) (met_of links s t around.hops around.trail)
    (has_from_contains (nodes_met links s (links_on around.hops)) x uses))
