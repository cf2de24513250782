-- The ways that begin with the ends of a node are the paths from it.
use Rattle.std.proofs.Common.{◌≡◌, ◌≢◌, ◌∙◌, ◌<◌, ◌≤◌, ℕ, Bool, true, false, List, [], ◌∷◌, Some, nat_lt, length, slice_get, inl, inr, refl, sym, subst, arith}
use Rattle.std.proofs.lemmas.Bool.{cases_Bool, ltb-false, ltb-true}
use Rattle.mrt_graph.specs.declared.link.End.{End}
use Rattle.mrt_graph.specs.Topology.{Topology}
use Rattle.link_direction.specs.CommonBlock.{HaveCommonBlock}
use Rattle.link_direction.specs.Directions.{Directions}
use Rattle.block_spf.specs.declared.reach.Dir.{Dir}
use Rattle.block_spf.specs.LeastPath.{BeginsPath, IsHop, NotReached, Reached, HaveCommonBlockOfMoreLinks}
use Rattle.block_spf.specs.Path.{IsStep, Path, cost_of}
use Rattle.block_spf.specs.steps.Rest.{IsRestCost, Rest}
use Rattle.block_spf.specs.Rest.{far}
use Rattle.block_spf.specs.steps.Side.{IsLeastOverEnds}
use Rattle.block_spf.specs.Side.{hop_by}
use Rattle.block_spf.specs.steps.PathsOverEnds.{AtHead, BeginsAt, HasHeadBy, Inside, IsWantedBlock, Sought}
use Rattle.block_spf.proofs.EndCosts.{one_head_by}
use Rattle.block_spf.proofs.InBlocks.{move_of, same_end, step_early, there_too}
use Rattle.link_direction.proofs.ClosedBlocks.{IsClosed, IsOrdered, head_of_member, leads_inside, member_not_head}
use Rattle.block_spf.proofs.MoreLinks.{are_in, closed_of_more, first_step, share_it}
use Rattle.block_spf.proofs.PathsInside.{path_in, path_low, path_within}

-- a path is its first end, and what is left
path_of_rest : (g : Topology) (w : Directions) (dir : Dir) (k h x t : ℕ) (end : End) (others : List End) → IsStep g w dir k x end
    → Rest g w dir k h end.to others t → Path g w dir k h x (end ∷ others) t
path_of_rest g w dir k h x t end [] step rest = (step, rest)
path_of_rest g w dir k h x t end (next ∷ more) step rest = (step, rest.0, rest.1)

rest_of_path : (g : Topology) (w : Directions) (dir : Dir) (k h x t : ℕ) (end : End) (others : List End) → Path g w dir k h x (end ∷ others) t
    → Rest g w dir k h end.to others t
rest_of_path g w dir k h x t end [] path = path.1
rest_of_path g w dir k h x t end (next ∷ more) path = (path.1, path.2)

-- in such a block the paths from x are ways
record IsAsked (it : Sought) (root : ℕ) (own : Bool) (x : ℕ) (aim : ℕ → ℕ) (k h : ℕ) : Type 0 where
  pub closed : IsClosed it.g root it.w k h
  pub in_wanted : IsWantedBlock it k
  pub kept_to : own ≡ true → k ≡ it.w.block x
  pub onward : own ≡ false → aim k ≢ x

module _ (it : Sought) (root : ℕ) (is : IsOrdered it.g root it.w) where
  abbrev g : Topology
  g = it.g

  abbrev w : Directions
  w = it.w

  abbrev dir : Dir
  dir = it.dir

  -- the head of the block, by the node that an end leads to
  head_by : (k h x : ℕ) (end : End) → IsClosed g root w k h → IsStep g w dir k x end → HasHeadBy w k h end.to
  head_by k h x end closed step =
      let move = move_of g w dir k x end is.kept step in
      elim (leads_inside g root w k h end.link x end.to is closed move.onward move.in_block) [
        | inl inside ↦ Inside inside (head_of_member g root w k h end.to is closed move.to_within inside)
        | inr home ↦ AtHead (λ inside. member_not_head g root w k h end.to is closed move.to_within inside home) home
      ]

  module _ (own : Bool) (x : ℕ) (aim : ℕ → ℕ) where
    -- a way is a path
    way_is_path : (place cost h : ℕ) (begins : BeginsAt it own x aim place cost) → IsClosed g root w begins.k h
        → Path g w dir begins.k h x (begins.end ∷ begins.others) (aim begins.k)
    way_is_path place cost h begins closed =
        path_of_rest g w dir begins.k h x (aim begins.k) begins.end begins.others begins.step
        (subst (λ (top : ℕ). Rest g w dir begins.k top begins.end.to begins.others (aim begins.k))
        (one_head_by w begins.k begins.h h begins.end.to begins.head (head_by begins.k h x begins.end closed begins.step)) begins.rest)

    -- a path is a way
    path_is_way : (k h : ℕ) → IsAsked it root own x aim k h → (place : ℕ) (ends : List End) (end : End) (others : List End) → slice_get g.ends x ≡ Some ends → slice_get ends place ≡ Some end
        → Path g w dir k h x (end ∷ others) (aim k) → BeginsAt it own x aim place (cost_of (end ∷ others))
    path_is_way k h asked place ends end others list there path =
        let step = first_step g w dir k h x (aim k) end others path in
        record {
          k = k;
          h = h;
          end = end;
          step = record { ends = ends; list = list; place = place; there = there; in_block = step.in_block; leads_on = step.leads_on };
          here = refl;
          in_wanted = asked.in_wanted;
          kept_to = asked.kept_to;
          onward = asked.onward;
          head = head_by k h x end asked.closed step;
          others = others;
          rest = rest_of_path g w dir k h x (aim k) end others path;
          costs = refl;
        }

    module _ (cost link : ℕ) (ends : List End) (list : slice_get g.ends x ≡ Some ends) (least : IsLeastOverEnds (BeginsAt it own x aim) ends (length ends) cost link) where
      -- no path is less than the least way
      at_most : (k h : ℕ) → IsAsked it root own x aim k h → (path : List End) → Path g w dir k h x path (aim k) → cost ≤ cost_of path
      at_most k h asked [] path = absurd path
      at_most k h asked (end ∷ others) path =
          let step = first_step g w dir k h x (aim k) end others path in
          least.least step.place (cost_of (end ∷ others)) (step_early g w dir k x step.place ends end list step refl)
          (path_is_way k h asked step.place ends end others list (there_too g w dir k x ends end list step) path)

  -- the least way within the own block has the least cost of what is left
  pub own_rest : (x : ℕ) (aim : ℕ → ℕ) (cost link : ℕ) (ends : List End) → x < length g.ids → slice_get g.ends x ≡ Some ends
      → x ≢ aim (w.block x) → IsWantedBlock it (w.block x) → IsLeastOverEnds (BeginsAt it true x aim) ends (length ends) cost link
      → IsRestCost g w dir (w.block x) (w.head x) x (aim (w.block x)) cost
  own_rest x aim cost link ends within list two in_wanted least =
      let found = closed_of_more g root w (w.block x) is in_wanted.more in
      let head = head_of_member g root w (w.block x) found.0 x is found.1 within refl in
      let closed : IsClosed g root w (w.block x) (w.head x) = subst (λ (y : ℕ). IsClosed g root w (w.block x) y) (sym head) found.1 in
      record {
        reached = λ below.
            let begins = (least.reached below).begins in
            let k_is : begins.k ≡ w.block x = begins.kept_to refl in
            let path = way_is_path true x aim (least.reached below).place cost (w.head x) begins (subst (λ (k : ℕ). IsClosed g root w k (w.head x)) (sym k_is) closed) in (
              begins.end ∷ begins.others,
              (
                member_not_head g root w (w.block x) (w.head x) x is closed within refl,
                subst (λ (k : ℕ). Path g w dir k (w.head x) x (begins.end ∷ begins.others) (aim k)) k_is path,
              ),
              begins.costs,
            );
        least = at_least closed;
      }
    where
      at_least : IsClosed g root w (w.block x) (w.head x) → (rest : List End) → Rest g w dir (w.block x) (w.head x) x rest (aim (w.block x)) → cost ≤ cost_of rest
      at_least closed [] rest = absurd (two rest)
      at_least closed (end ∷ others) rest =
          at_most true x aim cost link ends list least (w.block x) (w.head x)
          (record { closed = closed; in_wanted = in_wanted; kept_to = λ kept. refl; onward = λ all. (cc) }) (end ∷ others) rest.1

  -- the least way over all ends is the hop; so is the least one within the own block, where there is no other common one
  pub least_hop : (own : Bool) (s t : ℕ) (aim : ℕ → ℕ) (cost link : ℕ) (ends : List End) → slice_get g.ends s ≡ Some ends → (own ≡ true → s ≢ t)
      → ((k h : ℕ) → HaveCommonBlockOfMoreLinks g w s t k h → (own ≡ true → k ≡ w.block s) × (slice_get it.wanted k ≡ Some true) × (aim k ≡ t))
      → ((u k h : ℕ) → u < length g.ids → s ≢ u → HaveCommonBlock w s u k h → (own ≡ true → k ≡ w.block s) → (own ≡ false → aim k ≢ s) → aim k ≡ t)
      → IsLeastOverEnds (BeginsAt it own s aim) ends (length ends) cost link → IsHop g w dir s t (hop_by cost link)
  least_hop own s t aim cost link ends list two shared alone least = elim (cases_Bool (nat_lt cost far)) [
    | inl is_less ↦ rw is_less (reached (ltb-true cost far is_less))
    | inr is_not ↦ rw is_not (NotReached (λ k h path share is_path. none k h path share is_path (ltb-false cost far is_not)))
  ]
    where
      asked : (k h : ℕ) → IsClosed g root w k h → HaveCommonBlockOfMoreLinks g w s t k h → IsAsked it root own s aim k h
      asked k h closed share = record {
        closed = closed;
        in_wanted = record { more = share.more; marked = (shared k h share).1 };
        kept_to = (shared k h share).0;
        onward = λ all same. share.two (sym same ∙ (shared k h share).2);
      }

      to_aim : (k h : ℕ) (path : List End) → HaveCommonBlockOfMoreLinks g w s t k h → Path g w dir k h s path t → Path g w dir k h s path (aim k)
      to_aim k h path share = subst (λ (y : ℕ). Path g w dir k h s path y) (sym (shared k h share).2)

      lowest : (k h : ℕ) (path : List End) → IsClosed g root w k h → HaveCommonBlockOfMoreLinks g w s t k h → Path g w dir k h s path t → cost ≤ cost_of path
      lowest k h path closed share is_path = at_most own s aim cost link ends list least k h (asked k h closed share) path (to_aim k h path share is_path)

      none : (k h : ℕ) (path : List End) → HaveCommonBlockOfMoreLinks g w s t k h → Path g w dir k h s path t → far ≤ cost → ⊥
      none k h [] share is_path above = is_path
      none k h (end ∷ others) share is_path above =
          let from_within = (move_of g w dir k s end is.kept (first_step g w dir k h s t end others is_path)).from_within in
          let are = are_in g root w s k h t is from_within (path_within g w dir k h s t end others is.kept is_path) share in
          omega (arith, above, lowest k h (end ∷ others) are.closed share is_path, path_low g root w dir is k h are.closed s t end others is_path)

      reached : cost < far → IsHop g w dir s t (Some (record { cost = cost; link = link }))
      reached below =
          let it' = least.reached below in
          let begins = it'.begins in
          let k = begins.k in
          let found = closed_of_more g root w k is begins.in_wanted.more in
          let h = found.0 in
          let move = move_of g w dir k s begins.end is.kept begins.step in
          let common = is.ordered.links.common begins.end.link s begins.end.to move.onward in
          let aim_is : aim k ≡ t =
          alone begins.end.to k common.0 move.to_within move.apart
          (subst (λ (b : ℕ). HaveCommonBlock w s begins.end.to b common.0) begins.step.in_block common.1) begins.kept_to begins.onward in
          let path =
          subst (λ (y : ℕ). Path g w dir k h s (begins.end ∷ begins.others) y) aim_is (way_is_path own s aim it'.place cost h begins found.1) in
          let same = same_end g w dir k s it'.place ends it'.end begins.end list it'.there begins.step begins.here in
          let apart : s ≢ t = λ same. elim (cases_Bool own) [ inl kept ↦ two kept same | inr all ↦ begins.onward all (aim_is ∙ sym same) ] in
          let share = share_it g root w s k h t is (path_in g root w dir is k h found.1 s t begins.end begins.others path) apart in
          Reached k h (record { cost = cost; link = link }) share (record {
            end = it'.end;
            first = record {
              ends = ends;
              list = list;
              place = it'.place;
              there = it'.there;
              asked = subst (λ (e : End). BeginsPath g w dir k h s t cost e) same (record { others = begins.others; is_path = path; costs = begins.costs });
              none_before = λ place other early at begins_path.
                  it'.none_before place early
                  (subst (λ (c : ℕ). BeginsAt it own s aim place c) begins_path.costs
                  (path_is_way own s aim k h (asked k h found.1 share) place ends other begins_path.others list at (to_aim k h (other ∷ begins_path.others) share begins_path.is_path)));
            };
            over = it'.over;
            least = λ other_path is_path. lowest k h other_path found.1 share is_path;
          })
