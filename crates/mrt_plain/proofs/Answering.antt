-- Answers, and what they mean.
use Rattle.std.proofs.Common.{◌≡◌, ◌↔◌, ℕ, Bool, true, false, List, Result, Ok, Err, refl, sym, ◌∙◌, ap, subst, true≢false}
use Rattle.std.specs.Prelude.{Contains, IfOk, IsTrue}
use Rattle.mrt_graph.specs.declared.cert.Color.{Color}
use Rattle.mrt_graph.specs.declared.link.Element.{Element}
use Rattle.mrt_graph.specs.declared.link.Element.TheVariants as elements
use Rattle.mrt_graph.specs.declared.link.Link.{Link}
use Rattle.mrt_graph.specs.ColorWalk.{color_walk}
use Rattle.mrt_graph.specs.Reaches.{AreDifferent, Reaches}
use Rattle.mrt_graph.specs.Rows.{Rows}
use Rattle.mrt_graph.specs.Separates.{IsNeitherEnd, Separates}
use Rattle.mrt_graph.specs.Uses.{Uses, nodes_met}
use Rattle.mrt_graph.specs.Walk.{Walk}

-- a yes to what holds
pub accepted : {A : Type 0} → A → IsTrue true ↔ A
accepted a = (λ _. a, λ _. refl)

-- a no to what would have made r true
pub refused : {A : Type 0} (r : Bool) → r ≡ false → (A → r ≡ true) → IsTrue false ↔ A
refused r is why = (λ never. absurd (true≢false (sym never)), λ a. absurd (true≢false (sym (why a) ∙ is)))

-- what an answer means, said in another way
pub ok_like : {E : Type 0} (F G : Bool → Type 0) → ((b : Bool) → F b → G b) → (r : Result Bool E) → IfOk r F → IfOk r G
ok_like F G like (Ok b) h = like b h
ok_like F G like (Err e) h = h

-- Reaches, where the walk's end is t and it was seen whether its nodes are different
pub reaches_told : (links : List Link) (n : ℕ) (rows : Rows) (color : Color) (s t : ℕ) (walk nodes : List ℕ) (end : ℕ) (told : Bool)
    → walk ≡ color_walk links n rows color s t → nodes ≡ nodes_met links s walk → Walk links s walk end → end ≡ t
    → (IsTrue told ↔ AreDifferent nodes) → IsTrue told ↔ Reaches links n rows color s t
reaches_told links n rows color s t walk nodes end told is met walks ends different =
    let all : nodes ≡ nodes_met links s (color_walk links n rows color s t) = met ∙ ap (λ (w : List ℕ). nodes_met links s w) is in (
      (λ told_so. record {
        ends_at_t = subst (λ (w : List ℕ). Walk links s w t) is (subst (λ (v : ℕ). Walk links s walk v) ends walks);
        no_node_twice = subst AreDifferent all (different.0 told_so);
      }),
      (λ reaches. different.1 (subst AreDifferent (sym all) reaches.no_node_twice)),
    )

-- Apart, of two walks
abbrev pub AreApart : List Link → ℕ → ℕ → List ℕ → List ℕ → Type 0
AreApart links s t blue red = (x : Element) → IsNeitherEnd x s t → Uses links s blue x → Uses links s red x → Separates links x s t

-- of their links alone
abbrev pub LinksApart : List Link → ℕ → ℕ → List ℕ → List ℕ → Type 0
LinksApart links s t blue red = (e : ℕ) → Contains blue e → Contains red e → Separates links (elements.Link e) s t

-- of the nodes that they meet alone
abbrev pub NodesApart : List Link → ℕ → ℕ → List ℕ → List ℕ → Type 0
NodesApart links s t blue red = (v : ℕ) → Contains blue v → Contains red v → IsNeitherEnd (elements.Node v) s t → Separates links (elements.Node v) s t

-- the same, of lists that are equal to these
pub links_at : (links : List Link) (s t : ℕ) (blue red blue' red' : List ℕ) (told : Bool) → blue ≡ blue' → red ≡ red'
    → (IsTrue told ↔ LinksApart links s t blue red) → IsTrue told ↔ LinksApart links s t blue' red'
links_at links s t blue red blue' red' told b r h =
    subst (λ (w : List ℕ). IsTrue told ↔ LinksApart links s t w red') b (subst (λ (w : List ℕ). IsTrue told ↔ LinksApart links s t blue w) r h)

pub nodes_at : (links : List Link) (s t : ℕ) (blue red blue' red' : List ℕ) (told : Bool) → blue ≡ blue' → red ≡ red'
    → (IsTrue told ↔ NodesApart links s t blue red) → IsTrue told ↔ NodesApart links s t blue' red'
nodes_at links s t blue red blue' red' told b r h =
    subst (λ (w : List ℕ). IsTrue told ↔ NodesApart links s t w red') b (subst (λ (w : List ℕ). IsTrue told ↔ NodesApart links s t blue w) r h)

-- Apart, where the links were looked at, and where the nodes were too
pub apart_refused : (links : List Link) (s t : ℕ) (blue red : List ℕ) (told : Bool)
    → (IsTrue told ↔ LinksApart links s t blue red) → told ≡ false → IsTrue false ↔ AreApart links s t blue red
apart_refused links s t blue red told links_apart is =
    refused told is (λ apart. links_apart.1 (λ e b r. apart (elements.Link e) tt b r))

apart_from : (links : List Link) (s t : ℕ) (blue red : List ℕ) → LinksApart links s t blue red
    → NodesApart links s t (nodes_met links s blue) (nodes_met links s red) → AreApart links s t blue red
apart_from links s t blue red of_links of_nodes (elements.Link e) between b r = of_links e b r
apart_from links s t blue red of_links of_nodes (elements.Node v) between b r = of_nodes v b r between

pub apart_told : (links : List Link) (s t : ℕ) (blue red : List ℕ) (of_links : Bool)
    → (IsTrue of_links ↔ LinksApart links s t blue red) → of_links ≡ true
    → (told : Bool) → (IsTrue told ↔ NodesApart links s t (nodes_met links s blue) (nodes_met links s red)) → IsTrue told ↔ AreApart links s t blue red
apart_told links s t blue red of_links links_apart is told nodes_apart = (
  (λ told_so. apart_from links s t blue red (links_apart.0 is) (nodes_apart.0 told_so)),
  (λ apart. nodes_apart.1 (λ v b r between. apart (elements.Node v) between b r)),
)
