-- A node that is given the least of its number and of its ends' offers has its lowpoint, and the nodes after it keep theirs.
use Rattle.std.proofs.Common.{◌≡◌, ◌≢◌, ◌⊎◌, ◌<◌, ◌≤◌, ◌+◌, ◌==◌, ◌∙◌, ℕ, Bool, true, false, List, Option, Some, None, length, slice_get, inl, inr, refl, sym, ap, subst, arith}
use Rattle.std.specs.Option.{option_and_then, option_map_or}
use Rattle.std.proofs.lemmas.Bool.{cases_Bool, cases_eq, cases_lt, eqb-true}
use Rattle.std.proofs.lemmas.Option.{same_Some, slice_get_within}
use Rattle.mrt_graph.specs.declared.link.End.{End}
use Rattle.mrt_graph.specs.declared.tree.TreeNode.{TreeNode}
use Rattle.mrt_graph.specs.GraphInvariant.{IsTopology}
use Rattle.mrt_graph.specs.Leads.{leads}
use Rattle.mrt_graph.specs.Topology.{Topology}
use Rattle.mrt_graph.specs.TreeFields.{search_number, parent_link, low_of}
use Rattle.mrt_graph.proofs.EndsAt.{end_leads}
use Rattle.mrt_graph.proofs.Hops.{lead_back}
use Rattle.lowpoint_dfs.specs.steps.Lowering.{AreAlike, AreNumbered, IsGiven, IsLowFrom, Own, Offered}
use Rattle.lowpoint_dfs.specs.Lowpoint.{HasLowpoint, IsLeast, IsLowLink, ByOffer, ByParent, IsOffered, is_parent_link, offer}
use Rattle.lowpoint_dfs.specs.Subtree.{parent_of}
use Rattle.lowpoint_dfs.proofs.ParentsFirst.{parent_over}

-- a link that is found to be a parent link is one
pub parent_link_is : (tree : List TreeNode) (v e : ℕ) → is_parent_link tree v e ≡ true → parent_link tree v ≡ Some e
parent_link_is tree v e is = go (parent_link tree v) is
  where
    go : (o : Option ℕ) → option_map_or (λ parent. parent == e) o false ≡ true → o ≡ Some e
    go None holds = cc
    go (Some p) holds = ap (λ (x : ℕ). Some x) (eqb-true p e holds)

same_parent_link : (tree other : List TreeNode) (v e : ℕ) → AreAlike tree other → is_parent_link other v e ≡ is_parent_link tree v e
same_parent_link tree other v e alike = ap (λ (o : Option ℕ). option_map_or (λ parent. parent == e) o false) (alike.parents v)

-- an end offers the same in both trees, where they have the same lowpoint of a child that it leads to
pub same_offer : (tree other : List TreeNode) (v : ℕ) (end : End) → AreAlike tree other
    → (is_parent_link tree v end.link ≡ false → is_parent_link tree end.to end.link ≡ true → low_of other end.to ≡ low_of tree end.to)
    → offer other v end ≡ offer tree v end
same_offer tree other v end alike same = elim (cases_Bool (is_parent_link tree v end.link)) [
  | inl own ↦ rw (same_parent_link tree other v end.link alike, own) refl
  | inr over ↦ elim (cases_Bool (is_parent_link tree end.to end.link)) [
    | inl child ↦ rw (same_parent_link tree other v end.link alike, over, same_parent_link tree other end.to end.link alike, child)
        (ap (λ (n : ℕ). Some n) (same over child))
    | inr no_child ↦ rw (same_parent_link tree other v end.link alike, over, same_parent_link tree other end.to end.link alike, no_child)
        (ap (λ (n : ℕ). Some n) (alike.numbers end.to))
  ]
]

true_false : (b : Bool) → b ≡ true → b ≡ false → ⊥
true_false b holds fails = let both : true ≡ false = sym holds ∙ fails in cc

-- the ends of the node that was given its lowpoint offer what they did
offers_at : (tree other : List TreeNode) (v : ℕ) (ends : List End) → IsGiven tree v ends other → (end : End) → offer other v end ≡ offer tree v end
offers_at tree other v ends given end = same_offer tree other v end given.alike
    (λ over child. elim (cases_eq end.to v) [
      | inl same ↦ absurd (true_false (is_parent_link tree v end.link) (subst (λ (w : ℕ). is_parent_link tree w end.link ≡ true) same child) over)
      | inr differ ↦ given.lows end.to differ
    ])

same_ends : (ends others : List End) → Some ends ≡ Some others → others ≡ ends
same_ends ends others same = cc

pub has_given : (g : Topology) (tree other : List TreeNode) (v : ℕ) (ends : List End) → slice_get g.ends v ≡ Some ends → IsGiven tree v ends other
    → HasLowpoint g other v
has_given g tree other v ends list given = record { low = least given.is_lowest.from; link = linked given.is_lowest.from }
  where
    same : (end : End) → offer other v end ≡ offer tree v end
    same end = offers_at tree other v ends given end

    below : (n : ℕ) → (n ≡ search_number other v) ⊎ IsOffered g other v n → low_of other v ≤ n
    below n (inl is) = omega (arith, is, given.alike.numbers v, given.low, given.is_lowest.own)
    below n (inr it) =
        let there = subst (λ (xs : List End). slice_get xs it.place ≡ Some it.end) (same_ends ends it.ends (sym list ∙ it.list)) it.there in
        let lower = given.is_lowest.least it.place n it.end (slice_get_within ends it.place it.end there) there (sym (same it.end) ∙ it.offers) in
        omega (arith, lower, given.low)

    least : IsLowFrom tree v ends (length ends) given.lowest → IsLeast (λ n. (n ≡ search_number other v) ⊎ IsOffered g other v n) (low_of other v)
    least (Own low link) = record { one_of_them = inl (given.low ∙ low ∙ sym (given.alike.numbers v)); least = below }
    least (Offered place end early there offers lower link first) = record {
      one_of_them = inr (record {
        ends = ends;
        list = list;
        place = place;
        end = end;
        there = there;
        offers = same end ∙ offers ∙ ap (λ (n : ℕ). Some n) (sym given.low);
      });
      least = below;
    }

    linked : IsLowFrom tree v ends (length ends) given.lowest → IsLowLink g other v
    linked (Own low link) = ByParent (given.low ∙ low ∙ sym (given.alike.numbers v)) (given.link ∙ link ∙ sym (given.alike.parents v))
    linked (Offered place end early there offers lower link first) =
        ByOffer end (omega (arith, given.low, lower, given.alike.numbers v))
        (record {
          ends = ends;
          list = list;
          place = place;
          there = there;
          asked = same end ∙ offers ∙ ap (λ (n : ℕ). Some n) (sym given.low);
          none_before = λ j one before at is. first j one before at (sym (same one) ∙ is ∙ ap (λ (n : ℕ). Some n) given.low);
        })
        (given.link ∙ link)

-- the offers of the ends of a node found later stay as they were
offers_after : (g : Topology) (tree other : List TreeNode) (v w : ℕ) (ends : List End) → IsTopology g → ((u p : ℕ) → parent_of g tree u ≡ Some p → search_number tree p < search_number tree u)
    → IsGiven tree v ends other → search_number tree v < search_number tree w
    → (rows : List End) (k : ℕ) (end : End) → slice_get g.ends w ≡ Some rows → slice_get rows k ≡ Some end → offer other w end ≡ offer tree w end
offers_after g tree other v w ends kept falls given after rows k end list there = same_offer tree other w end given.alike
    (λ over child. elim (cases_eq end.to v) [
      | inl same ↦
          let onward : leads g.links end.link w ≡ Some v = subst (λ (x : ℕ). leads g.links end.link w ≡ Some x) same (end_leads g w k rows end kept list there) in
          let over_it : parent_link tree v ≡ Some end.link = subst (λ (x : ℕ). parent_link tree x ≡ Some end.link) same (parent_link_is tree end.to end.link child) in
          absurd (omega (arith, after, falls v w (parent_over g tree v end.link w over_it (lead_back g.links end.link w v onward))))
      | inr differ ↦ given.lows end.to differ
    ])

pub has_still : (g : Topology) (tree other : List TreeNode) (v w : ℕ) (ends : List End) → IsTopology g → ((u p : ℕ) → parent_of g tree u ≡ Some p → search_number tree p < search_number tree u)
    → IsGiven tree v ends other → search_number tree v < search_number tree w → HasLowpoint g tree w → HasLowpoint g other w
has_still g tree other v w ends kept falls given after has =
    record {
      low = record { one_of_them = one has.low.one_of_them; least = below };
      link = linked has.link;
    }
  where
    differ : w ≢ v
    differ same = omega (arith, after, ap (λ (x : ℕ). search_number tree x) same)

    low : low_of other w ≡ low_of tree w
    low = given.lows w differ

    same : (rows : List End) (k : ℕ) (end : End) → slice_get g.ends w ≡ Some rows → slice_get rows k ≡ Some end → offer other w end ≡ offer tree w end
    same = offers_after g tree other v w ends kept falls given after

    one : (low_of tree w ≡ search_number tree w) ⊎ IsOffered g tree w (low_of tree w) → (low_of other w ≡ search_number other w) ⊎ IsOffered g other w (low_of other w)
    one (inl is) = inl (low ∙ is ∙ sym (given.alike.numbers w))
    one (inr it) = inr (record {
      ends = it.ends;
      list = it.list;
      place = it.place;
      end = it.end;
      there = it.there;
      offers = same it.ends it.place it.end it.list it.there ∙ it.offers ∙ ap (λ (n : ℕ). Some n) (sym low);
    })

    below : (n : ℕ) → (n ≡ search_number other w) ⊎ IsOffered g other w n → low_of other w ≤ n
    below n (inl is) = let under = has.low.least n (inl (is ∙ given.alike.numbers w)) in omega (arith, low, under)
    below n (inr it) =
        let under = has.low.least n (inr (record {
          ends = it.ends;
          list = it.list;
          place = it.place;
          end = it.end;
          there = it.there;
          offers = sym (same it.ends it.place it.end it.list it.there) ∙ it.offers;
        })) in
        omega (arith, low, under)

    linked : IsLowLink g tree w → IsLowLink g other w
    linked (ByOffer end lower first link) =
        ByOffer end (omega (arith, low, lower, given.alike.numbers w))
        (record {
          ends = first.ends;
          list = first.list;
          place = first.place;
          there = first.there;
          asked = same first.ends first.place end first.list first.there ∙ first.asked ∙ ap (λ (n : ℕ). Some n) (sym low);
          none_before = λ j other_end early there is. first.none_before j other_end early there
              (sym (same first.ends j other_end first.list there) ∙ is ∙ ap (λ (n : ℕ). Some n) low);
        })
        (given.low_links w differ ∙ link)
    linked (ByParent is link) = ByParent (low ∙ is ∙ sym (given.alike.numbers w)) (given.low_links w differ ∙ link ∙ sym (given.alike.parents w))

-- the lowpoints of the nodes from a place on
pub record AreGiven (g : Topology) (start nodes : List TreeNode) (order : List ℕ) (place : ℕ) : Type 0 where
  pub one_each : length nodes ≡ length g.ids
  pub alike : AreAlike start nodes
  pub done : (k v : ℕ) → place ≤ k → slice_get order k ≡ Some v → HasLowpoint g nodes v

-- one node more
pub one_more : (g : Topology) (start nodes other : List TreeNode) (order : List ℕ) (place v : ℕ) (ends : List End) → IsTopology g → AreNumbered g start order
    → AreGiven g start nodes order (place + 1) → slice_get order place ≡ Some v → slice_get g.ends v ≡ Some ends → IsGiven nodes v ends other
    → AreGiven g start other order place
one_more g start nodes other order place v ends kept numbered are at list given = record {
  one_each = given.one_each ∙ are.one_each;
  alike = record {
    numbers = λ u. given.alike.numbers u ∙ are.alike.numbers u;
    parents = λ u. given.alike.parents u ∙ are.alike.parents u;
  };
  done = λ k w from w_at. elim (cases_lt place k) [
    | inl later ↦
        has_still g nodes other v w ends kept falls given
        (omega (arith, later, are.alike.numbers v, are.alike.numbers w, numbered.places place v at, numbered.places k w w_at))
        (are.done k w (omega (arith, later)) w_at)
    | inr now ↦
        let same : v ≡ w = same_Some v w (sym at ∙ subst (λ (i : ℕ). slice_get order i ≡ Some w) (omega (arith, from, now)) w_at) in
        subst (λ (x : ℕ). HasLowpoint g other x) same (has_given g nodes other v ends list given)
  ];
}
  where
    falls : (u p : ℕ) → parent_of g nodes u ≡ Some p → search_number nodes p < search_number nodes u
    falls u p is =
        let same : parent_of g nodes u ≡ parent_of g start u = ap (λ (o : Option ℕ). option_and_then (λ e. leads g.links e u) o) (are.alike.parents u) in
        omega (arith, are.alike.numbers u, are.alike.numbers p, numbered.falls u p (sym same ∙ is))
