-- A node has one hop for each other one, and between two nodes of a block paths lead one way.
use Rattle.std.proofs.Common.{◌≡◌, ◌≢◌, ◌<◌, ◌≤◌, ◌∙◌, ℕ, List, [], ◌∷◌, Option, Some, get_or, length, slice_get, inl, inr, refl, sym, ap, subst, arith}
use Rattle.std.proofs.lemmas.Bool.{cases_order}
use Rattle.std.proofs.lemmas.List.{same_lists}
use Rattle.std.proofs.lemmas.Option.{same_Some, slice_get-get_or}
use Rattle.mrt_graph.specs.declared.link.End.{End}
use Rattle.mrt_graph.specs.FirstEnd.{IsFirstEnd}
use Rattle.mrt_graph.specs.Topology.{Topology}
use Rattle.link_direction.specs.CommonBlock.{HaveCommonBlock, Peers, ToHead, FromHead}
use Rattle.link_direction.specs.Directions.{Directions}
use Rattle.block_spf.specs.declared.reach.Dir.{Dir}
use Rattle.block_spf.specs.declared.reach.Dir.TheVariants.{Down, Up}
use Rattle.block_spf.specs.declared.reach.Hop.{Hop}
use Rattle.block_spf.specs.LeastPath.{BeginsPath, IsHop, IsLeastPath, IsReachTo, NotReached, Reached, HaveCommonBlockOfMoreLinks}
use Rattle.block_spf.specs.Path.{Path}
use Rattle.block_spf.specs.Turns.{turn_of}
use Rattle.block_spf.proofs.InBlocks.{Home, Later, Onto, step_from_member}
use Rattle.link_direction.proofs.ClosedBlocks.{IsClosed, IsOrdered, member_not_head}
use Rattle.block_spf.proofs.MoreLinks.{AreIn, are_in}
use Rattle.link_direction.proofs.OneBlock.{one_block}

-- the first of a node's ends that has what is asked for is one
first_end_one : (g : Topology) (Asked : End → Type 0) (v : ℕ) (end other : End) → IsFirstEnd g Asked v end → IsFirstEnd g Asked v other → end ≡ other
first_end_one g Asked v end other one two =
    let same : one.ends ≡ two.ends = same_Some one.ends two.ends (sym one.list ∙ two.list) in
    let there : slice_get two.ends one.place ≡ Some end = subst (λ (es : List End). slice_get es one.place ≡ Some end) same one.there in
    let back : slice_get one.ends two.place ≡ Some other = subst (λ (es : List End). slice_get es two.place ≡ Some other) (sym same) two.there in
    elim (cases_order one.place two.place) [
      | inl equal ↦ same_Some end other (sym there ∙ ap (λ (i : ℕ). slice_get two.ends i) equal ∙ two.there)
      | inr (inl less) ↦ absurd (two.none_before one.place end less there one.asked)
      | inr (inr less) ↦ absurd (one.none_before two.place other less back two.asked)
    ]

abbrev made : ℕ → ℕ → Hop
made cost link = record { cost = cost; link = link }

-- least paths of one block to one node have one hop
least_one : (g : Topology) (w : Directions) (dir : Dir) (k h s t : ℕ) (hop other : Hop) → IsLeastPath g w dir k h s t hop → IsLeastPath g w dir k h s t other → hop ≡ other
least_one g w dir k h s t hop other one two =
    let up : hop.cost ≤ other.cost = omega (arith, one.least (two.end ∷ two.first.asked.others) two.first.asked.is_path, two.first.asked.costs) in
    let down : other.cost ≤ hop.cost = omega (arith, two.least (one.end ∷ one.first.asked.others) one.first.asked.is_path, one.first.asked.costs) in
    let cost : other.cost ≡ hop.cost = omega (arith, up, down) in
    let first : IsFirstEnd g (BeginsPath g w dir k h s t hop.cost) s two.end =
    subst (λ (c : ℕ). IsFirstEnd g (BeginsPath g w dir k h s t c) s two.end) cost two.first in
    let same : one.end ≡ two.end = first_end_one g (BeginsPath g w dir k h s t hop.cost) s one.end two.end one.first first in
    hop_one (sym cost) (one.over ∙ ap (λ (e : End). e.link) same ∙ sym two.over)
  where
    hop_one : hop.cost ≡ other.cost → hop.link ≡ other.link → hop ≡ other
    hop_one costs links = ap (λ (c : ℕ). made c hop.link) costs ∙ ap (λ (l : ℕ). made other.cost l) links

pub one_hop : (g : Topology) (root : ℕ) (w : Directions) (dir : Dir) (s t : ℕ) (hop other : Option Hop) → IsOrdered g root w → s < length g.ids → t < length g.ids
    → IsHop g w dir s t hop → IsHop g w dir s t other → hop ≡ other
one_hop g root w dir s t hop other is s_within t_within (NotReached none) (NotReached none') = refl
one_hop g root w dir s t hop other is s_within t_within (NotReached none) (Reached k h found share least) =
    absurd (none k h (least.end ∷ least.first.asked.others) share least.first.asked.is_path)
one_hop g root w dir s t hop other is s_within t_within (Reached k h found share least) (NotReached none) =
    absurd (none k h (least.end ∷ least.first.asked.others) share least.first.asked.is_path)
one_hop g root w dir s t hop other is s_within t_within (Reached k h found share least) (Reached k' h' found' share' least') =
    let same = one_block g root w s t k' h' k h is s_within t_within share.two share'.common share.common in
    let moved : IsLeastPath g w dir k h s t found' =
    subst (λ (x : ℕ). IsLeastPath g w dir k x s t found') same.1 (subst (λ (x : ℕ). IsLeastPath g w dir x h' s t found') same.0 least') in
    ap (λ (x : Hop). Some x) (least_one g w dir k h s t found found' least moved)

-- a path from a node of the block to another one leads to a later turn
pub path_later : (g : Topology) (root : ℕ) (w : Directions) (dir : Dir) (k h x t : ℕ) (end : End) (others : List End) → IsOrdered g root w → IsClosed g root w k h
    → w.block x ≡ k → t ≢ h → Path g w dir k h x (end ∷ others) t → turn_of dir (length g.ids) w x < turn_of dir (length g.ids) w t
path_later g root w dir k h x t end [] is closed inside other path =
    go (step_from_member g root w dir k h x end is closed inside path.0)
  where
    go : Onto dir (length g.ids) w k h x end.to → turn_of dir (length g.ids) w x < turn_of dir (length g.ids) w t
    go (Later block later) = subst (λ (y : ℕ). turn_of dir (length g.ids) w x < turn_of dir (length g.ids) w y) path.1 later
    go (Home home) = absurd (other (sym path.1 ∙ home))
path_later g root w dir k h x t end (next ∷ more) is closed inside other path =
    elim (step_from_member g root w dir k h x end is closed inside path.0) [
      | Later block later ↦ omega (arith, later, path_later g root w dir k h end.to t next more is closed block other path.2)
      | Home home ↦ absurd (path.1 home)
    ]

-- nodes of one block share that block
pub inside_both : (g : Topology) (root : ℕ) (w : Directions) (s k h t : ℕ) → IsOrdered g root w → s < length g.ids → t < length g.ids → w.block s ≡ w.block t
    → HaveCommonBlockOfMoreLinks g w s t k h → AreIn g root w s k h t × (w.block s ≡ k) × (t ≢ h)
inside_both g root w s k h t is s_within t_within peers share = (are, at.0, at.1)
  where
    are : AreIn g root w s k h t
    are = are_in g root w s k h t is s_within t_within share

    own : (k' h' : ℕ) → HaveCommonBlock w s t k' h' → w.block s ≡ k'
    own k' h' (Peers at_s at_t head) = at_s
    own k' h' (ToHead at_s head is_head) = at_s
    own k' h' (FromHead at_t head is_head) = peers ∙ at_t

    at : (w.block s ≡ k) × (t ≢ h)
    at = let inside = own k h share.common in (inside, member_not_head g root w k h t is are.closed t_within (sym peers ∙ inside))

pub not_both : (g : Topology) (root : ℕ) (w : Directions) (s t : ℕ) (up down : Option Hop) → IsOrdered g root w → s < length g.ids → t < length g.ids
    → w.block s ≡ w.block t → (a b : Hop) → up ≡ Some a → down ≡ Some b → IsHop g w Up s t up → IsHop g w Down s t down → ⊥
not_both g root w s t up down is s_within t_within peers a b is_up is_down (NotReached none) two = cc
not_both g root w s t up down is s_within t_within peers a b is_up is_down (Reached k h found share least) (NotReached none) = cc
not_both g root w s t up down is s_within t_within peers a b is_up is_down (Reached k h found share least) (Reached k' h' found' share' least') =
    let one = inside_both g root w s k h t is s_within t_within peers share in
    let other = inside_both g root w s k' h' t is s_within t_within peers share' in
    let rises : turn_of Up (length g.ids) w s < turn_of Up (length g.ids) w t =
    path_later g root w Up k h s t least.end least.first.asked.others is one.0.closed one.1 one.2 least.first.asked.is_path in
    let falls : turn_of Down (length g.ids) w s < turn_of Down (length g.ids) w t =
    path_later g root w Down k' h' s t least'.end least'.first.asked.others is other.0.closed other.1 other.2 least'.first.asked.is_path in
    omega (arith, rises, falls)

-- what all nodes have for one target is one list
pub one_reach_to : (g : Topology) (root : ℕ) (w : Directions) (dir : Dir) (t : ℕ) (hops others : List (Option Hop)) → IsOrdered g root w → t < length g.ids
    → IsReachTo g w dir t hops → IsReachTo g w dir t others → hops ≡ others
one_reach_to g root w dir t hops others is t_within one two =
    same_lists hops others (one.one_each ∙ sym two.one_each)
    (λ s d below.
    let at = slice_get-get_or hops s d below in
    let other_at = slice_get-get_or others s d (omega (arith, below, one.one_each, two.one_each)) in
    one_hop g root w dir s t (get_or hops s d) (get_or others s d) is (omega (arith, below, one.one_each)) t_within (one.each s (get_or hops s d) at)
    (two.each s (get_or others s d) other_at))
