-- In a block with a closing link, paths lead from each node to the head and from the head to each node, up and down.
use Rattle.std.proofs.Common.{◌≡◌, ◌≢◌, ◌⊎◌, ◌<◌, ◌≤◌, ◌+◌, ◌++◌, ◌∙◌, ℕ, zero, suc, List, [], ◌∷◌, Some, length, inl, inr, refl, sym, ap, subst, arith}
use Rattle.mrt_graph.specs.declared.link.End.{End}
use Rattle.mrt_graph.specs.Leads.{leads}
use Rattle.mrt_graph.specs.Topology.{Topology}
use Rattle.mrt_graph.proofs.EndsAt.{leads_end, list_of_ends}
use Rattle.mrt_graph.proofs.Hops.{lead_back}
use Rattle.link_direction.specs.Directions.{Directions}
use Rattle.link_direction.specs.OrderedGadag.{HasClosingLink}
use Rattle.block_spf.specs.declared.reach.Dir.{Dir}
use Rattle.block_spf.specs.declared.reach.Dir.TheVariants.{Down, Up}
use Rattle.block_spf.specs.Against.{against}
use Rattle.block_spf.specs.Path.{IsStep, LeadsOn, Path}
use Rattle.block_spf.specs.Turns.{turn_of}
use Rattle.block_spf.proofs.ByTurn.{turn_in}
use Rattle.link_direction.proofs.ClosedBlocks.{IsClosed, IsOrdered, member_not_head}
use Rattle.link_direction.proofs.LinkNodes.{leads_within}
use Rattle.block_spf.proofs.PathsSwept.{path_onward}
use Rattle.link_direction.proofs.UpLinks.{IsDirectedLink, into_of, out_of}

-- a step over a directed link, each way
pub record IsStepTo (g : Topology) (w : Directions) (dir : Dir) (k u v : ℕ) : Type 0 where
  pub end : End
  pub step : IsStep g w dir k u end
  pub to : end.to ≡ v

step_over : (g : Topology) (root : ℕ) (w : Directions) (dir : Dir) (k e u v : ℕ) → IsOrdered g root w → leads g.links e u ≡ Some v → w.lies_in e ≡ k
    → ((end : End) → end.link ≡ e → end.to ≡ v → LeadsOn w dir u end) → IsStepTo g w dir k u v
step_over g root w dir k e u v is onward in_block leads_on =
    let list = list_of_ends g u is.kept (leads_within g e u v is.kept onward).0 in
    let it = leads_end g u e v list.0 is.kept list.1 onward in
    record {
      end = it.end;
      step = record {
        ends = list.0;
        list = list.1;
        place = it.place;
        there = it.at;
        in_block = ap w.lies_in it.over ∙ in_block;
        leads_on = leads_on it.end it.over it.to;
      };
      to = it.to;
    }

pub step_up : (g : Topology) (root : ℕ) (w : Directions) (k e u v : ℕ) → IsOrdered g root w → IsDirectedLink g w k e u v → IsStepTo g w Up k u v
step_up g root w k e u v is it = step_over g root w Up k e u v is it.onward it.in_block (λ end over to. ap w.tail over ∙ it.away)

pub step_down : (g : Topology) (root : ℕ) (w : Directions) (k e u v : ℕ) → IsOrdered g root w → IsDirectedLink g w k e u v → IsStepTo g w Down k v u
step_down g root w k e u v is it =
    step_over g root w Down k e v u is (lead_back g.links e u v it.onward) it.in_block (λ end over to. ap w.tail over ∙ it.away ∙ sym to)

-- a path with its first end
pub record HasWay (g : Topology) (w : Directions) (dir : Dir) (k h s t : ℕ) : Type 0 where
  pub end : End
  pub others : List End
  pub is_path : Path g w dir k h s (end ∷ others) t

one_step : (g : Topology) (w : Directions) (dir : Dir) (k h s t : ℕ) → IsStepTo g w dir k s t → HasWay g w dir k h s t
one_step g w dir k h s t it = record { end = it.end; others = []; is_path = (it.step, it.to) }

-- a step to a node that is not the head, then a path
step_first : (g : Topology) (w : Directions) (dir : Dir) (k h s v t : ℕ) → IsStepTo g w dir k s v → v ≢ h → HasWay g w dir k h v t → HasWay g w dir k h s t
step_first g w dir k h s v t it not_head way = record {
  end = it.end;
  others = way.end ∷ way.others;
  is_path = (
    it.step,
    (λ same. not_head (sym it.to ∙ same)),
    subst (λ (y : ℕ). Path g w dir k h y (way.end ∷ way.others) t) (sym it.to) way.is_path,
  );
}

-- a path to a node that is not the head, then a step
step_last : (g : Topology) (w : Directions) (dir : Dir) (k h s v t : ℕ) → HasWay g w dir k h s v → v ≢ h → IsStepTo g w dir k v t → HasWay g w dir k h s t
step_last g w dir k h s v t way not_head it = record {
  end = way.end;
  others = way.others ++ it.end ∷ [];
  is_path =
      subst (λ (y : ℕ). Path g w dir k h s (way.end ∷ (way.others ++ it.end ∷ [])) y) it.to
      (path_onward g w dir k h s v way.end way.others it.end way.is_path not_head it.step);
}

-- where a step leads in a direction from a node of the block, to a later turn or to the head, and a step back in the other one
record IsNext (g : Topology) (w : Directions) (dir : Dir) (k h m : ℕ) : Type 0 where
  pub to : ℕ
  pub within : to < length g.ids
  pub step : IsStepTo g w dir k m to
  pub back : IsStepTo g w (against dir) k to m
  pub onto : (to ≡ h) ⊎ ((w.block to ≡ k) × (turn_of dir (length g.ids) w m < turn_of dir (length g.ids) w to))

-- paths in a direction to the head, and back from it in the other one
record HaveHome (g : Topology) (w : Directions) (dir : Dir) (k h m : ℕ) : Type 0 where
  pub home : HasWay g w dir k h m h
  pub back : HasWay g w (against dir) k h h m

module _ (g : Topology) (root : ℕ) (w : Directions) (k h : ℕ) (is : IsOrdered g root w) (closed : IsClosed g root w k h) where
  next_of : (dir : Dir) (m : ℕ) → m < length g.ids → w.block m ≡ k → IsNext g w dir k h m
  next_of Up m within inside =
      let it = out_of g root w k h m is closed within inside in
      record {
        to = it.to;
        within = (leads_within g it.link m it.to is.kept it.directed.onward).1;
        step = step_up g root w k it.link m it.to is it.directed;
        back = step_down g root w k it.link m it.to is it.directed;
        onto = elim it.onto [
          | inl home ↦ inl home
          | inr on ↦ inr (on.0, omega (arith, on.1, is.ordered.orders.from_one m within))
        ];
      }
  next_of Down m within inside =
      let it = into_of g root w k h m is closed within inside in
      record {
        to = it.from;
        within = (leads_within g it.link it.from m is.kept it.directed.onward).0;
        step = step_down g root w k it.link it.from m is it.directed;
        back = step_up g root w k it.link it.from m is it.directed;
        onto = elim it.origin [
          | inl home ↦ inl home
          | inr on ↦ inr (on.0, omega (arith, on.1, is.ordered.orders.to_n m within))
        ];
      }

  -- by later and later turns
  by_turn : (dir : Dir) (fuel m : ℕ) → m < length g.ids → w.block m ≡ k → length g.ids ≤ turn_of dir (length g.ids) w m + fuel → HaveHome g w dir k h m
  by_turn dir zero m within inside far_off =
      absurd (omega (arith, far_off, turn_in g root w dir m is.ordered within))
  by_turn dir (suc fuel) m within inside far_off =
      let it = next_of dir m within inside in
      elim it.onto [
        | inl home ↦ record {
          home = one_step g w dir k h m h (subst (λ (y : ℕ). IsStepTo g w dir k m y) home it.step);
          back = one_step g w (against dir) k h h m (subst (λ (y : ℕ). IsStepTo g w (against dir) k y m) home it.back);
        }
        | inr on ↦
            let not_head = member_not_head g root w k h it.to is closed it.within on.0 in
            let ways = by_turn dir fuel it.to it.within on.0 (omega (arith, far_off, on.1)) in
            record {
              home = step_first g w dir k h m it.to h it.step not_head ways.home;
              back = step_last g w (against dir) k h h it.to m ways.back not_head it.back;
            }
      ]

-- of a node whose block has a closing link
closed_at : (g : Topology) (root : ℕ) (w : Directions) (m : ℕ) → m < length g.ids → m ≢ root → HasClosingLink g w m → IsClosed g root w (w.block m) (w.head m)
closed_at g root w m within other closing = record { m = m; within = within; not_root = other; in_block = refl; has_head = refl; closing = closing }

-- paths lead from it to the head and back
home_of : (g : Topology) (root : ℕ) (w : Directions) (dir : Dir) (m : ℕ) → IsOrdered g root w → m < length g.ids → m ≢ root → HasClosingLink g w m
    → HaveHome g w dir (w.block m) (w.head m) m
home_of g root w dir m is within other closing =
    by_turn g root w (w.block m) (w.head m) is (closed_at g root w m within other closing) dir (length g.ids) m within refl (omega arith)

pub to_head : (g : Topology) (root : ℕ) (w : Directions) (dir : Dir) (m : ℕ) → IsOrdered g root w → m < length g.ids → m ≢ root → HasClosingLink g w m
    → (path : List End) × Path g w dir (w.block m) (w.head m) m path (w.head m)
to_head g root w dir m is within other closing =
    let way = (home_of g root w dir m is within other closing).home in (way.end ∷ way.others, way.is_path)

pub from_head : (g : Topology) (root : ℕ) (w : Directions) (dir : Dir) (m : ℕ) → IsOrdered g root w → m < length g.ids → m ≢ root → HasClosingLink g w m
    → (path : List End) × Path g w dir (w.block m) (w.head m) (w.head m) path m
from_head g root w Up m is within other closing =
    let way = (home_of g root w Down m is within other closing).back in (way.end ∷ way.others, way.is_path)
from_head g root w Down m is within other closing =
    let way = (home_of g root w Up m is within other closing).back in (way.end ∷ way.others, way.is_path)
