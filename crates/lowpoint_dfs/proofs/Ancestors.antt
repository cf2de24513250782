-- Each link joins a node and one of its ancestors.
use Rattle.std.proofs.Common.{◌≡◌, ◌⊎◌, ◌<◌, ◌≤◌, ◌+◌, ◌++◌, ◌∙◌, ℕ, List, [], ◌∷◌, Some, length, slice_get, inl, inr, refl, sym, ap, subst, arith}
use Rattle.std.specs.Prelude.{Contains}
use Rattle.std.proofs.lemmas.Bool.{cases_lt}
use Rattle.std.proofs.lemmas.List.Elements.{Contains-append_left, Contains-push_cases}
use Rattle.mrt_graph.specs.declared.tree.TreeNode.{TreeNode}
use Rattle.mrt_graph.specs.GraphInvariant.{IsTopology}
use Rattle.mrt_graph.specs.Leads.{leads}
use Rattle.mrt_graph.specs.Topology.{Topology}
use Rattle.mrt_graph.specs.TreeFields.{search_number, parent_link}
use Rattle.mrt_graph.proofs.EndsAt.{end_leads}
use Rattle.mrt_graph.proofs.Hops.{lead_back}
use Rattle.mrt_graph.proofs.ListPlaces.{place_of, contains_at, at_last}
use Rattle.mrt_graph.proofs.Members.{contains_none}
use Rattle.std.proofs.lemmas.Option.{same_Some}
use Rattle.lowpoint_dfs.specs.SearchOrder.{IsFoundNext, IsSearchOrder, Begun, Found}
use Rattle.lowpoint_dfs.specs.Subtree.{IsInSubtree, Itself, Below, parent_of}
use Rattle.lowpoint_dfs.proofs.FoundInTurn.{number_at}
use Rattle.lowpoint_dfs.proofs.NodesListed.{done_leads}
use Rattle.lowpoint_dfs.proofs.ParentsFirst.{parent_over}

pub in_subtree_on : (g : Topology) (tree : List TreeNode) (u v w : ℕ) → IsInSubtree g tree u v → IsInSubtree g tree v w → IsInSubtree g tree u w
in_subtree_on g tree u v w above Itself = above
in_subtree_on g tree u v w above (Below x parent is rest) = Below x parent is (in_subtree_on g tree u v parent above rest)

-- of two ancestors of a node one is an ancestor of the other
pub one_up : (g : Topology) (tree : List TreeNode) (a b v : ℕ) → IsInSubtree g tree a v → IsInSubtree g tree b v → IsInSubtree g tree a b ⊎ IsInSubtree g tree b a
one_up g tree a b v Itself above = inr above
one_up g tree a b v (Below x parent is rest) Itself = inl (Below x parent is rest)
one_up g tree a b v (Below x parent is rest) (Below y other so more) =
    let same : other ≡ parent = same_Some other parent (sym so ∙ is) in
    one_up g tree a b parent rest (subst (λ (p : ℕ). IsInSubtree g tree b p) same more)

-- parents have lower numbers
abbrev pub Fall : Topology → List TreeNode → Type 0
Fall g tree = (v u : ℕ) → parent_of g tree v ≡ Some u → search_number tree u < search_number tree v

pub numbers_rise : (g : Topology) (tree : List TreeNode) (u v : ℕ) → Fall g tree → IsInSubtree g tree u v → search_number tree u ≤ search_number tree v
numbers_rise g tree u v fall Itself = omega arith
numbers_rise g tree u v fall (Below x parent is rest) = omega (arith, fall x parent is, numbers_rise g tree u parent fall rest)

-- the link over which a node is found leads to it
pub found_over : (g : Topology) (listed : List ℕ) (node link : ℕ) → IsTopology g → (next : IsFoundNext g listed node link) → leads g.links link next.at ≡ Some node
found_over g listed node link kept next =
    let first = next.first in
    subst (λ (e : ℕ). leads g.links e next.at ≡ Some node) next.over
    (subst (λ (w : ℕ). leads g.links next.end.link next.at ≡ Some w) next.to (end_leads g next.at first.place first.ends next.end kept first.list first.there))

pub found_outside : (g : Topology) (listed : List ℕ) (node link : ℕ) → IsFoundNext g listed node link → Contains listed node → ⊥
found_outside g listed node link next inside = next.first.asked (subst (λ (w : ℕ). Contains listed w) (sym next.to) inside)

-- the node listed last
pub record IsLast (order : List ℕ) (last : ℕ) : Type 0 where
  pub place : ℕ
  pub there : slice_get order place ≡ Some last
  pub end : length order ≡ place + 1

length_pushed : (xs : List ℕ) (y : ℕ) → length (xs ++ y ∷ []) ≡ length xs + 1
length_pushed [] y = refl
length_pushed (x ∷ xs) y = omega (arith, length_pushed xs y)

pushed_last : (listed : List ℕ) (node : ℕ) → IsLast (listed ++ node ∷ []) node
pushed_last listed node = record { place = length listed; there = at_last listed node; end = length_pushed listed node }

last_of : (g : Topology) (root : ℕ) (tree : List TreeNode) (order : List ℕ) → IsSearchOrder g root tree order → (last : ℕ) × IsLast order last
last_of g root tree order (Begun number parent) = (root, record { place = 0; there = refl; end = refl })
last_of g root tree order (Found listed node link earlier next number parent) = (node, pushed_last listed node)

last_is : (listed : List ℕ) (node last : ℕ) → IsLast (listed ++ node ∷ []) last → node ≡ last
last_is listed node last is =
    let same : is.place ≡ length listed = omega (arith, is.end, length_pushed listed node) in
    same_Some node last (sym (at_last listed node) ∙ subst (λ (k : ℕ). slice_get (listed ++ node ∷ []) k ≡ Some last) same is.there)

-- a listed node with a link to a node outside is an ancestor of the node listed last
abbrev Wait : Topology → List TreeNode → List ℕ → ℕ → Type 0
Wait g tree order last = (u e v : ℕ) → Contains order u → leads g.links e u ≡ Some v → ¬ Contains order v → IsInSubtree g tree u last

-- and so it is an ancestor of the node where the next one is found
above_next : (g : Topology) (root : ℕ) (tree : List TreeNode) (listed : List ℕ) (node link last : ℕ) → IsTopology g → Fall g tree → IsSearchOrder g root tree listed
    → (next : IsFoundNext g listed node link) → Wait g tree listed last
    → (u e v : ℕ) → Contains listed u → leads g.links e u ≡ Some v → ¬ Contains listed v → IsInSubtree g tree u next.at
above_next g root tree listed node link last kept fall searched next wait u e v inside onward outside =
    let at_above = wait next.at link node (contains_at listed next.place next.at next.there) (found_over g listed node link kept next) (found_outside g listed node link next) in
    let place = place_of listed u inside in
    elim (one_up g tree u next.at last (wait u e v inside onward outside) at_above) [
      | inl above ↦ above
      | inr below ↦ elim (cases_lt next.place place.0) [
        | inl later ↦ absurd (outside (done_leads g listed e u v kept (next.latest place.0 u later place.1) onward))
        | inr early ↦
            let same : place.0 ≡ next.place = omega (
              arith,
              early,
              numbers_rise g tree next.at u fall below,
              number_at g root tree listed searched place.0 u place.1,
              number_at g root tree listed searched next.place next.at next.there,
            ) in
            let is : u ≡ next.at = same_Some u next.at (sym place.1 ∙ subst (λ (k : ℕ). slice_get listed k ≡ Some next.at) (sym same) next.there) in
            subst (λ (w : ℕ). IsInSubtree g tree u w) is Itself
      ]
    ]

next_below : (g : Topology) (tree : List TreeNode) (listed : List ℕ) (node link u : ℕ) → IsTopology g → (next : IsFoundNext g listed node link) → parent_link tree node ≡ Some link
    → IsInSubtree g tree u next.at → IsInSubtree g tree u node
next_below g tree listed node link u kept next parent above =
    Below node next.at (parent_over g tree node link next.at parent (lead_back g.links link next.at node (found_over g listed node link kept next))) above

waits : (g : Topology) (root : ℕ) (tree : List TreeNode) (order : List ℕ) (last : ℕ) → IsTopology g → Fall g tree → IsSearchOrder g root tree order → IsLast order last
    → Wait g tree order last
waits g root tree order last kept fall (Begun number parent) is u e v inside onward outside =
    let u_root : root ≡ u = elim (Contains-push_cases [] root u inside) [ inl none ↦ absurd (contains_none u none) | inr same ↦ same ] in
    let last_root : root ≡ last = last_is [] root last is in
    subst (λ (w : ℕ). IsInSubtree g tree u w) (sym u_root ∙ last_root) Itself
waits g root tree order last kept fall (Found listed node link earlier next number parent) is u e v inside onward outside =
    let is_last : node ≡ last = last_is listed node last is in
    subst (λ (w : ℕ). IsInSubtree g tree u w) is_last (elim (Contains-push_cases listed node u inside) [
      | inr same ↦ subst (λ (w : ℕ). IsInSubtree g tree u w) (sym same) Itself
      | inl before ↦
          let last = last_of g root tree listed earlier in
          next_below g tree listed node link u kept next parent
          (above_next g root tree listed node link last.0 kept fall earlier next (waits g root tree listed last.0 kept fall earlier last.1) u e v before onward
          (λ c. outside (Contains-append_left listed (node ∷ []) v c)))
    ])

-- each link between listed nodes joins a node and one of its ancestors
pub joins : (g : Topology) (root : ℕ) (tree : List TreeNode) (order : List ℕ) → IsTopology g → Fall g tree → IsSearchOrder g root tree order
    → (e u v : ℕ) → Contains order u → Contains order v → leads g.links e u ≡ Some v → IsInSubtree g tree u v ⊎ IsInSubtree g tree v u
joins g root tree order kept fall (Begun number parent) e u v u_in v_in onward =
    let u_root : root ≡ u = elim (Contains-push_cases [] root u u_in) [ inl none ↦ absurd (contains_none u none) | inr same ↦ same ] in
    let v_root : root ≡ v = elim (Contains-push_cases [] root v v_in) [ inl none ↦ absurd (contains_none v none) | inr same ↦ same ] in
    inl (subst (λ (w : ℕ). IsInSubtree g tree u w) (sym u_root ∙ v_root) Itself)
joins g root tree order kept fall (Found listed node link earlier next number parent) e u v u_in v_in onward =
    let last = last_of g root tree listed earlier in
    let above : (x d : ℕ) → Contains listed x → leads g.links d x ≡ Some node → IsInSubtree g tree x node =
    λ x d x_in leads_on. next_below g tree listed node link x kept next parent
    (above_next g root tree listed node link last.0 kept fall earlier next (waits g root tree listed last.0 kept fall earlier last.1) x d node x_in leads_on
    (found_outside g listed node link next)) in
    elim (Contains-push_cases listed node u u_in) [
      | inl u_before ↦ elim (Contains-push_cases listed node v v_in) [
        | inl v_before ↦ joins g root tree listed kept fall earlier e u v u_before v_before onward
        | inr v_is ↦ inl (subst (λ (w : ℕ). IsInSubtree g tree u w) v_is (above u e u_before (onward ∙ ap (λ (w : ℕ). Some w) (sym v_is))))
      ]
      | inr u_is ↦ elim (Contains-push_cases listed node v v_in) [
        | inl v_before ↦ inr (subst (λ (w : ℕ). IsInSubtree g tree v w) u_is (above v e v_before (lead_back g.links e u v onward ∙ ap (λ (w : ℕ). Some w) (sym u_is))))
        | inr v_is ↦ inl (subst (λ (w : ℕ). IsInSubtree g tree u w) (sym u_is ∙ v_is) Itself)
      ]
    ]
