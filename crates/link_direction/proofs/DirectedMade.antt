-- The answer, put together.
use Rattle.std.proofs.Common.{◌≡◌, ℕ, List, length, refl, sym, subst}
use Rattle.mrt_graph.specs.declared.gadag.Mark.{Mark}
use Rattle.mrt_graph.specs.declared.gadag.Place.{Place}
use Rattle.mrt_graph.specs.DirectedLists.{DirectedLists, directed_of}
use Rattle.mrt_graph.specs.GadagLists.{GadagLists, gadag_of}
use Rattle.mrt_graph.specs.Topology.{Topology}
use Rattle.link_direction.specs.Directed.{AreNumbers, IsDirected}
use Rattle.link_direction.specs.GadagOrder.{IsWholeOrder}
use Rattle.link_direction.specs.steps.LinksOfNoEar.{AreLinksDirected}
use Rattle.link_direction.proofs.LinksDirected.{links_directed}

-- of parts that are what they are to be, it is the whole
pub directed_made : (g : Topology) (root : ℕ) (gadag : GadagLists) (ear_order : List ℕ) (places : List Place) (marks marks' : List Mark) (order numbers : List ℕ)
    (d : DirectedLists) → gadag ≡ gadag_of ear_order places marks → length marks ≡ length g.links → IsWholeOrder g root marks order → AreNumbers g order numbers
    → AreLinksDirected g numbers (length g.links) marks marks' → d ≡ directed_of numbers places marks' → IsDirected g root gadag d
directed_made g root gadag ear_order places marks marks' order numbers d parts one_each whole numbered given made =
    subst (λ (y : GadagLists). IsDirected g root y d) (sym parts) (subst (λ (y : DirectedLists). IsDirected g root (gadag_of ear_order places marks) y) (sym made) (record {
      order = order;
      whole = whole;
      numbers = numbered;
      places = refl;
      ways = links_directed g order numbers marks marks' one_each numbered given;
    }))
