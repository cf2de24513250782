-- A graph has one search tree from its root.
use Rattle.std.proofs.Common.{◌≡◌, ◌<◌, ◌≤◌, ◌+◌, ◌++◌, ◌∙◌, ℕ, zero, suc, List, [], ◌∷◌, Option, Some, None, length, slice_get, inl, inr, refl, sym, ap, subst, arith, length-append}
use Rattle.std.specs.Option.{option_and_then, option_map_or}
use Rattle.std.specs.Prelude.{Contains}
use Rattle.std.proofs.lemmas.Bool.{cases_lt}
use Rattle.std.proofs.lemmas.List.Elements.{Contains-push_cases}
use Rattle.std.proofs.lemmas.Option.{same_Some, slice_get_past, slice_get_within}
use Rattle.mrt_graph.specs.declared.link.End.{End}
use Rattle.mrt_graph.specs.declared.tree.TreeNode.{TreeNode}
use Rattle.mrt_graph.specs.GraphInvariant.{IsTopology}
use Rattle.mrt_graph.specs.Leads.{leads}
use Rattle.mrt_graph.specs.Topology.{Topology}
use Rattle.mrt_graph.specs.TreeFields.{search_number, parent_link, low_of, low_link}
use Rattle.mrt_graph.proofs.EndsAt.{end_leads}
use Rattle.mrt_graph.proofs.Hops.{lead_back}
use Rattle.mrt_graph.proofs.ListPlaces.{place_of}
use Rattle.mrt_graph.proofs.ListTests.{there}
use Rattle.mrt_graph.proofs.Members.{contains_none}
use Rattle.mrt_graph.specs.FirstEnd.{IsFirstEnd}
use Rattle.lowpoint_dfs.specs.steps.Lowering.{AreAlike}
use Rattle.lowpoint_dfs.specs.Lowpoint.{HasLowpoint, IsLowLink, ByOffer, ByParent, offer}
use Rattle.lowpoint_dfs.specs.SearchOrder.{IsDone, IsFoundNext, IsSearchOrder, Begun, Found}
use Rattle.lowpoint_dfs.specs.SearchTree.{IsSearchTree}
use Rattle.lowpoint_dfs.specs.Subtree.{parent_of}
use Rattle.lowpoint_dfs.proofs.Ancestors.{Fall}
use Rattle.lowpoint_dfs.proofs.FoundInTurn.{number_at, root_first}
use Rattle.lowpoint_dfs.proofs.LowpointsGiven.{parent_link_is, same_offer}
use Rattle.lowpoint_dfs.proofs.ParentsFirst.{parent_over}
use Rattle.lowpoint_dfs.proofs.WholeTree.{leads_within, numbers_within, tree_falls, tree_lists}

-- a node's first end that has what is asked for is one
pub one_first : (g : Topology) (Asked : End → Type 0) (v : ℕ) (one other : End) → IsFirstEnd g Asked v one → IsFirstEnd g Asked v other → one ≡ other
one_first g Asked v one other a b =
    let ends : a.ends ≡ b.ends = same_Some a.ends b.ends (sym a.list ∙ b.list) in
    let a_there : slice_get b.ends a.place ≡ Some one = subst (λ (xs : List End). slice_get xs a.place ≡ Some one) ends a.there in
    let b_there : slice_get a.ends b.place ≡ Some other = subst (λ (xs : List End). slice_get xs b.place ≡ Some other) (sym ends) b.there in
    elim (cases_lt a.place b.place) [
      | inl early ↦ absurd (b.none_before a.place one early a_there a.asked)
      | inr late ↦ elim (cases_lt b.place a.place) [
        | inl early ↦ absurd (a.none_before b.place other early b_there b.asked)
        | inr now ↦ same_Some one other (sym a_there ∙ subst (λ (k : ℕ). slice_get b.ends k ≡ Some other) (omega (arith, late, now)) b.there)
      ]
    ]

-- a node with an end to a node outside is not done
not_done : (g : Topology) (listed : List ℕ) (v : ℕ) (end : End) → IsDone g listed v → IsFirstEnd g (λ end. ¬ Contains listed end.to) v end → ⊥
not_done g listed v end done first =
    let ends : first.ends ≡ done.ends = same_Some first.ends done.ends (sym first.list ∙ done.list) in
    first.asked (done.all_inside first.place end (subst (λ (xs : List End). slice_get xs first.place ≡ Some end) ends first.there))

-- what is found next is one
record AreSame (node link node' link' : ℕ) : Type 0 where
  pub nodes : node ≡ node'
  pub links : link ≡ link'

one_next : (g : Topology) (listed : List ℕ) (node link node' link' : ℕ) → IsFoundNext g listed node link → IsFoundNext g listed node' link' → AreSame node link node' link'
one_next g listed node link node' link' a b = elim (cases_lt a.place b.place) [
  | inl early ↦ absurd (not_done g listed b.at b.end (a.latest b.place b.at early b.there) b.first)
  | inr late ↦ elim (cases_lt b.place a.place) [
    | inl early ↦ absurd (not_done g listed a.at a.end (b.latest a.place a.at early a.there) a.first)
    | inr now ↦
        let at : a.at ≡ b.at = same_Some a.at b.at (sym a.there ∙ subst (λ (k : ℕ). slice_get listed k ≡ Some b.at) (omega (arith, late, now)) b.there) in
        let end : a.end ≡ b.end = one_first g (λ end. ¬ Contains listed end.to) b.at a.end b.end
        (subst (λ (v : ℕ). IsFirstEnd g (λ end. ¬ Contains listed end.to) v a.end) at a.first) b.first in
        record { nodes = sym a.to ∙ ap (λ (e : End). e.to) end ∙ b.to; links = sym a.over ∙ ap (λ (e : End). e.link) end ∙ b.over }
  ]
]

-- two search orders of one length are one, with the same parent links
record AreOne (tree other : List TreeNode) (order order' : List ℕ) : Type 0 where
  pub orders : order ≡ order'
  pub parents : (v : ℕ) → Contains order v → parent_link other v ≡ parent_link tree v

some_listed : (g : Topology) (root : ℕ) (tree : List TreeNode) (order : List ℕ) → IsSearchOrder g root tree order → 0 < length order
some_listed g root tree order searched = slice_get_within order 0 root (root_first g root tree order searched).first

one_order : (g : Topology) (root : ℕ) (tree other : List TreeNode) (order order' : List ℕ) → IsSearchOrder g root tree order → IsSearchOrder g root other order'
    → length order ≡ length order' → AreOne tree other order order'
one_order g root tree other order order' (Begun number parent) (Begun number' parent') same = record {
  orders = refl;
  parents = λ v c. elim (Contains-push_cases [] root v c) [
    | inl none ↦ absurd (contains_none v none)
    | inr is ↦ subst (λ (w : ℕ). parent_link other w ≡ parent_link tree w) is (parent' ∙ sym parent)
  ];
}
one_order g root tree other order order' (Begun number parent) (Found listed' node' link' earlier' next' number' parent') same =
    absurd (omega (arith, same, some_listed g root other listed' earlier', length-append listed' (node' ∷ [])))
one_order g root tree other order order' (Found listed node link earlier next number parent) (Begun number' parent') same =
    absurd (omega (arith, same, some_listed g root tree listed earlier, length-append listed (node ∷ [])))
one_order g root tree other order order' (Found listed node link earlier next number parent) (Found listed' node' link' earlier' next' number' parent') same =
    let before : AreOne tree other listed listed' = one_order g root tree other listed listed' earlier earlier'
    (omega (arith, same, length-append listed (node ∷ []), length-append listed' (node' ∷ []))) in
    let it : AreSame node link node' link' = one_next g listed node link node' link' next (subst (λ (l : List ℕ). IsFoundNext g l node' link') (sym before.orders) next') in
    record {
      orders = ap (λ (l : List ℕ). l ++ node ∷ []) before.orders ∙ ap (λ (v : ℕ). listed' ++ v ∷ []) it.nodes;
      parents = λ v c. elim (Contains-push_cases listed node v c) [
        | inl early ↦ before.parents v early
        | inr is ↦ subst (λ (w : ℕ). parent_link other w ≡ parent_link tree w) is
            (ap (λ (w : ℕ). parent_link other w) it.nodes ∙ parent' ∙ ap (λ (e : ℕ). Some e) (sym it.links) ∙ sym parent)
      ];
    }

-- no search order goes on beyond a finished one
none_longer : (g : Topology) (root : ℕ) (tree other : List TreeNode) (order order' : List ℕ) → IsSearchOrder g root tree order
    → ((k v : ℕ) → slice_get order k ≡ Some v → IsDone g order v) → IsSearchOrder g root other order' → length order < length order' → ⊥
none_longer g root tree other order order' searched ended (Begun number parent) longer = omega (arith, longer, some_listed g root tree order searched)
none_longer g root tree other order order' searched ended (Found listed node link earlier next number parent) longer = elim (cases_lt (length order) (length listed)) [
  | inl more ↦ none_longer g root tree other order listed searched ended earlier more
  | inr last ↦
      let one : AreOne tree other order listed = one_order g root tree other order listed searched earlier (omega (arith, longer, last, length-append listed (node ∷ []))) in
      let here : IsFoundNext g order node link = subst (λ (l : List ℕ). IsFoundNext g l node link) (sym one.orders) next in
      not_done g order here.at here.end (ended here.place here.at here.there) here.first
]

number_past : (tree : List TreeNode) (v : ℕ) → length tree ≤ v → search_number tree v ≡ 0
number_past tree v past = ap (λ (o : Option TreeNode). option_map_or (λ x. x.number) o 0) (slice_get_past tree v past)

parent_past : (tree : List TreeNode) (v : ℕ) → length tree ≤ v → parent_link tree v ≡ None
parent_past tree v past = ap (λ (o : Option TreeNode). option_and_then (λ x. x.parent) o) (slice_get_past tree v past)

-- two search trees have the same numbers and parent links
two_alike : (g : Topology) (root : ℕ) (tree other : List TreeNode) → IsTopology g → root < length g.ids → IsSearchTree g root tree → IsSearchTree g root other → AreAlike tree other
two_alike g root tree other kept within a b =
    record {
      numbers = λ v. elim (cases_lt v (length g.ids)) [
        | inr past ↦ number_past other v (omega (arith, past, b.one_each)) ∙ sym (number_past tree v (omega (arith, past, a.one_each)))
        | inl v_within ↦
            let place = place_of a.order v (tree_lists g root tree kept within a v v_within) in
            number_at g root other b.order b.searched place.0 v (subst (λ (l : List ℕ). slice_get l place.0 ≡ Some v) one.orders place.1)
            ∙ sym (number_at g root tree a.order a.searched place.0 v place.1)
      ];
      parents = λ v. elim (cases_lt v (length g.ids)) [
        | inr past ↦ parent_past other v (omega (arith, past, b.one_each)) ∙ sym (parent_past tree v (omega (arith, past, a.one_each)))
        | inl v_within ↦ one.parents v (tree_lists g root tree kept within a v v_within)
      ];
    }
  where
    lengths : length a.order ≡ length b.order
    lengths = elim (cases_lt (length a.order) (length b.order)) [
      | inl shorter ↦ absurd (none_longer g root tree other a.order b.order a.searched a.ended b.searched shorter)
      | inr more ↦ elim (cases_lt (length b.order) (length a.order)) [
        | inl shorter ↦ absurd (none_longer g root other tree b.order a.order b.searched b.ended a.searched shorter)
        | inr same ↦ omega (arith, more, same)
      ]
    ]

    one : AreOne tree other a.order b.order
    one = one_order g root tree other a.order b.order a.searched b.searched lengths

-- where the ends of a node offer the same in both trees, the lowpoint of one is at most that of the other
low_at_most : (g : Topology) (tree other : List TreeNode) (v : ℕ) → search_number other v ≡ search_number tree v
    → ((rows : List End) (k : ℕ) (end : End) → slice_get g.ends v ≡ Some rows → slice_get rows k ≡ Some end → offer other v end ≡ offer tree v end)
    → HasLowpoint g tree v → HasLowpoint g other v → low_of tree v ≤ low_of other v
low_at_most g tree other v number offers a b = elim b.low.one_of_them [
  | inl own ↦ a.low.least (low_of other v) (inl (own ∙ number))
  | inr it ↦ a.low.least (low_of other v) (inr (record {
    ends = it.ends;
    list = it.list;
    place = it.place;
    end = it.end;
    there = it.there;
    offers = sym (offers it.ends it.place it.end it.list it.there) ∙ it.offers;
  }))
]

-- the ends of a node offer the same in both trees, where the lowpoints of its children are the same
same_offers : (g : Topology) (tree other : List TreeNode) (v : ℕ) → IsTopology g → AreAlike tree other
    → ((u : ℕ) → u < length g.ids → parent_of g tree u ≡ Some v → low_of other u ≡ low_of tree u)
    → (rows : List End) (k : ℕ) (end : End) → slice_get g.ends v ≡ Some rows → slice_get rows k ≡ Some end → offer other v end ≡ offer tree v end
same_offers g tree other v kept alike children rows k end list at =
    let onward : leads g.links end.link v ≡ Some end.to = end_leads g v k rows end kept list at in
    same_offer tree other v end alike
    (λ over child. children end.to (leads_within g end.link v end.to kept onward).1
    (parent_over g tree end.to end.link v (parent_link_is tree end.to end.link child) (lead_back g.links end.link v end.to onward)))

low_by_children : (g : Topology) (tree other : List TreeNode) (v : ℕ) → IsTopology g → AreAlike tree other
    → ((u : ℕ) → u < length g.ids → parent_of g tree u ≡ Some v → low_of other u ≡ low_of tree u) → HasLowpoint g tree v → HasLowpoint g other v
    → low_of other v ≡ low_of tree v
low_by_children g tree other v kept alike children a b =
    let offers = same_offers g tree other v kept alike children in
    omega (
      arith,
      low_at_most g tree other v (alike.numbers v) offers a b,
      low_at_most g other tree v (sym (alike.numbers v)) (λ rows k end list at. sym (offers rows k end list at)) b a,
    )

same_lows : (left : ℕ) (g : Topology) (tree other : List TreeNode) → IsTopology g → Fall g tree → AreAlike tree other
    → ((v : ℕ) → v < length g.ids → HasLowpoint g tree v) → ((v : ℕ) → v < length g.ids → HasLowpoint g other v)
    → ((v : ℕ) → v < length g.ids → search_number tree v ≤ length g.ids)
    → (v : ℕ) → v < length g.ids → length g.ids ≤ search_number tree v + left → low_of other v ≡ low_of tree v
same_lows zero g tree other kept fall alike a b few v within fits =
    low_by_children g tree other v kept alike (λ u u_within is. absurd (omega (arith, fall u v is, few u u_within, fits))) (a v within) (b v within)
same_lows (suc left) g tree other kept fall alike a b few v within fits =
    low_by_children g tree other v kept alike
    (λ u u_within is. same_lows left g tree other kept fall alike a b few u u_within (omega (arith, fall u v is, fits))) (a v within) (b v within)

-- and the same lowpoint links
same_link : (g : Topology) (tree other : List TreeNode) (v : ℕ) → AreAlike tree other → low_of other v ≡ low_of tree v
    → ((rows : List End) (k : ℕ) (end : End) → slice_get g.ends v ≡ Some rows → slice_get rows k ≡ Some end → offer other v end ≡ offer tree v end)
    → IsLowLink g tree v → IsLowLink g other v → low_link other v ≡ low_link tree v
same_link g tree other v alike low offers (ByOffer end lower first link) (ByOffer end' lower' first' link') =
    let again : IsFirstEnd g (λ end. offer tree v end ≡ Some (low_of tree v)) v end' = record {
      ends = first'.ends;
      list = first'.list;
      place = first'.place;
      there = first'.there;
      asked = sym (offers first'.ends first'.place end' first'.list first'.there) ∙ first'.asked ∙ ap (λ (n : ℕ). Some n) low;
      none_before = λ k one early at is. first'.none_before k one early at (offers first'.ends k one first'.list at ∙ is ∙ ap (λ (n : ℕ). Some n) (sym low));
    } in
    let same : end ≡ end' = one_first g (λ end. offer tree v end ≡ Some (low_of tree v)) v end end' first again in
    link' ∙ ap (λ (e : End). Some e.link) (sym same) ∙ sym link
same_link g tree other v alike low offers (ByOffer end lower first link) (ByParent own link') = absurd (omega (arith, lower, own, low, alike.numbers v))
same_link g tree other v alike low offers (ByParent own link) (ByOffer end' lower' first' link') = absurd (omega (arith, lower', own, low, alike.numbers v))
same_link g tree other v alike low offers (ByParent own link) (ByParent own' link') = link' ∙ alike.parents v ∙ sym link

-- lists with the same elements are the same
same_elements : (xs ys : List TreeNode) → length xs ≡ length ys → ((k : ℕ) → k < length xs → slice_get xs k ≡ slice_get ys k) → xs ≡ ys
same_elements [] [] same each = refl
same_elements [] (y ∷ ys) same each = absurd (omega (arith, same))
same_elements (x ∷ xs) [] same each = absurd (omega (arith, same))
same_elements (x ∷ xs) (y ∷ ys) same each =
    ap (λ (z : TreeNode). z ∷ xs) (same_Some x y (each 0 (omega arith)))
    ∙ ap (λ (zs : List TreeNode). y ∷ zs) (same_elements xs ys (omega (arith, same)) (λ k within. each (suc k) (omega (arith, within))))

abbrev of_fields : ℕ → Option ℕ → ℕ → Option ℕ → TreeNode
of_fields number parent low link = record { number = number; parent = parent; low = low; low_link = link }

same_fields : (x y : TreeNode) → x.number ≡ y.number → x.parent ≡ y.parent → x.low ≡ y.low → x.low_link ≡ y.low_link → x ≡ y
same_fields x y number parent low link =
    ap (λ (n : ℕ). of_fields n x.parent x.low x.low_link) number
    ∙ ap (λ (o : Option ℕ). of_fields y.number o x.low x.low_link) parent
    ∙ ap (λ (n : ℕ). of_fields y.number y.parent n x.low_link) low
    ∙ ap (λ (o : Option ℕ). of_fields y.number y.parent y.low o) link

same_entries : (tree other : List TreeNode) (v : ℕ) (x y : TreeNode) → slice_get tree v ≡ Some x → slice_get other v ≡ Some y
    → search_number other v ≡ search_number tree v → parent_link other v ≡ parent_link tree v → low_of other v ≡ low_of tree v → low_link other v ≡ low_link tree v
    → slice_get tree v ≡ slice_get other v
same_entries tree other v x y at_x at_y number parent low link =
    let numbers : y.number ≡ x.number = rw (at_x, at_y) at number in
    let parents : y.parent ≡ x.parent = rw (at_x, at_y) at parent in
    let lows : y.low ≡ x.low = rw (at_x, at_y) at low in
    let links : y.low_link ≡ x.low_link = rw (at_x, at_y) at link in
    at_x ∙ ap (λ (z : TreeNode). Some z) (same_fields x y (sym numbers) (sym parents) (sym lows) (sym links)) ∙ sym at_y

pub one_search : (g : Topology) (root : ℕ) (tree other : List TreeNode) → IsTopology g → root < length g.ids → IsSearchTree g root tree → IsSearchTree g root other → tree ≡ other
one_search g root tree other kept within a b =
    same_elements tree other (omega (arith, a.one_each, b.one_each)) (λ v inside. here v (omega (arith, inside, a.one_each)))
  where
    alike : AreAlike tree other
    alike = two_alike g root tree other kept within a b

    low : (v : ℕ) → v < length g.ids → low_of other v ≡ low_of tree v
    low v v_within = same_lows (length g.ids) g tree other kept (tree_falls g root tree kept within a) alike a.lowpoints b.lowpoints
        (λ w w_within. (numbers_within g root tree kept within a w w_within).1) v v_within (omega arith)

    link : (v : ℕ) → v < length g.ids → low_link other v ≡ low_link tree v
    link v v_within = same_link g tree other v alike (low v v_within) (same_offers g tree other v kept alike (λ u u_within is. low u u_within))
        (a.lowpoints v v_within).link (b.lowpoints v v_within).link

    here : (v : ℕ) → v < length g.ids → slice_get tree v ≡ slice_get other v
    here v v_within =
        let x = there tree v (omega (arith, v_within, a.one_each)) in
        let y = there other v (omega (arith, v_within, b.one_each)) in
        same_entries tree other v x.0 y.0 x.1 y.1 (alike.numbers v) (alike.parents v) (low v v_within) (link v v_within)
