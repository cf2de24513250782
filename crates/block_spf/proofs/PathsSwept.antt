-- What the sweep knows of a source: paths, and none comes before them.
use Rattle.std.proofs.Common.{◌≡◌, ◌≢◌, ◌⊎◌, ◌<◌, ◌≤◌, ◌+◌, ◌++◌, ◌∙◌, ℕ, List, [], ◌∷◌, Some, length, slice_get, inl, inr, refl, sym, ap, subst, arith}
use Rattle.std.proofs.lemmas.Bool.{cases_eq, cases_lt}
use Rattle.mrt_graph.specs.declared.cert.Role.TheVariants.{Sole}
use Rattle.mrt_graph.specs.declared.link.End.{End}
use Rattle.mrt_graph.specs.Topology.{Topology}
use Rattle.link_direction.specs.Directions.{Directions}
use Rattle.block_spf.specs.declared.reach.Dir.{Dir}
use Rattle.block_spf.specs.steps.Known.{IsNoLater, Known, known}
use Rattle.block_spf.specs.steps.Offers.{PassesOn}
use Rattle.block_spf.specs.Path.{IsStep, Path, cost_of}
use Rattle.block_spf.specs.Rest.{far}
use Rattle.block_spf.specs.Turns.{turn_of}
use Rattle.block_spf.proofs.ByTurn.{turn_in}
use Rattle.block_spf.proofs.InBlocks.{Home, Later, move_of, step_from_head, step_from_member}
use Rattle.link_direction.proofs.ClosedBlocks.{IsClosed, IsOrdered, closed_of_link, head_lower, head_of_member, member_not_head}
use Rattle.block_spf.proofs.MoreLinks.{AreIn}
use Rattle.block_spf.proofs.Offering.{no_later_by, no_later_cost}
use Rattle.block_spf.proofs.PathsInside.{path_in, path_low}

-- what is known of v is a path from s: its cost, and the place of its first end
pub record HasPath (g : Topology) (root : ℕ) (w : Directions) (dir : Dir) (s v : ℕ) (way : Known) : Type 0 where
  pub k : ℕ
  pub h : ℕ
  pub closed : IsClosed g root w k h
  pub end : End
  pub others : List End
  pub is_path : Path g w dir k h s (end ∷ others) v
  pub costs : cost_of (end ∷ others) ≡ way.cost
  pub ends : List End
  pub list : slice_get g.ends s ≡ Some ends
  pub there : slice_get ends way.place ≡ Some end

-- what has been found after i turns: paths, and what the source and those nodes offered
pub record IsSwept (g : Topology) (root : ℕ) (w : Directions) (dir : Dir) (s i : ℕ) (found : ℕ → Known) : Type 0 where
  pub sound : (v : ℕ) → v < length g.ids → (found v).cost < far → HasPath g root w dir s v (found v)
  pub begun : (end : End) (step : IsStep g w dir (w.lies_in end.link) s end) → w.role end.link ≢ Sole
      → IsNoLater (found end.to) (known end.metric step.place)
  pub passed : (x : ℕ) (end : End) → IsStep g w dir (w.block x) x end → turn_of dir (length g.ids) w x < i → PassesOn w s x
      → (found x).cost < far → IsNoLater (found end.to) (known ((found x).cost + end.metric) (found x).place)

-- what x offers to v in its turn, where paths from s that come to it go on
pub record IsTurnOffer (g : Topology) (w : Directions) (dir : Dir) (s x : ℕ) (from : Known) (v : ℕ) (way : Known) : Type 0 where
  pub low : from.cost < far
  pub on : PassesOn w s x
  pub end : End
  pub step : IsStep g w dir (w.block x) x end
  pub to : v ≡ end.to
  pub is : way ≡ known (from.cost + end.metric) from.place

cost_onward : (ends : List End) (next : End) → cost_of (ends ++ next ∷ []) ≡ cost_of ends + next.metric
cost_onward [] next = omega arith
cost_onward (end ∷ ends) next = omega (arith, cost_onward ends next)

-- a path goes on by a step
pub path_onward : (g : Topology) (w : Directions) (dir : Dir) (k h s x : ℕ) (end : End) (others : List End) (next : End) → Path g w dir k h s (end ∷ others) x → x ≢ h
    → IsStep g w dir k x next → Path g w dir k h s (end ∷ (others ++ next ∷ [])) next.to
path_onward g w dir k h s x end [] next path not_head step =
    (path.0, (λ same. not_head (sym path.1 ∙ same)), (subst (λ (y : ℕ). IsStep g w dir k y next) (sym path.1) step, refl))
path_onward g w dir k h s x end (second ∷ more) next path not_head step =
    (path.0, path.1, path_onward g w dir k h end.to x second more next path.2 not_head step)

-- a node that a path from s has come to, and from which it goes on
record IsOnTheWay (g : Topology) (w : Directions) (dir : Dir) (s k h x : ℕ) : Type 0 where
  pub inside : w.block x ≡ k
  pub within : x < length g.ids
  pub ahead : (s ≡ h) ⊎ (turn_of dir (length g.ids) w s < turn_of dir (length g.ids) w x)

turn_differs : (dir : Dir) (n : ℕ) (w : Directions) (s x : ℕ) → turn_of dir n w s < turn_of dir n w x → x ≢ s
turn_differs dir n w s x less same = omega (arith, less, ap (λ (y : ℕ). turn_of dir n w y) same)

module _ (g : Topology) (root : ℕ) (w : Directions) (dir : Dir) (s : ℕ) (is : IsOrdered g root w) where
  -- a first end is a path
  pub begun_path : (end : End) (step : IsStep g w dir (w.lies_in end.link) s end) → w.role end.link ≢ Sole → HasPath g root w dir s end.to (known end.metric step.place)
  begun_path end step not_sole =
      let move = move_of g w dir (w.lies_in end.link) s end is.kept step in
      let closed = closed_of_link g root w end.link s end.to is move.onward not_sole in
      record {
        k = w.lies_in end.link;
        h = closed.0;
        closed = closed.1;
        end = end;
        others = [];
        is_path = (step, refl);
        costs = omega arith;
        ends = step.ends;
        list = step.list;
        there = step.there;
      }

  -- the path that is known, and its nodes
  pub found_in : (v : ℕ) (way : Known) (it : HasPath g root w dir s v way) → AreIn g root w s it.k it.h v
  found_in v way it = path_in g root w dir is it.k it.h it.closed s v it.end it.others it.is_path

  pub found_low : (v : ℕ) (way : Known) → HasPath g root w dir s v way → way.cost ≤ 268500000
  found_low v way it = omega (arith, it.costs, path_low g root w dir is it.k it.h it.closed s v it.end it.others it.is_path)

  module _ (x : ℕ) (from : Known) (it : HasPath g root w dir s x from) (on : PassesOn w s x) (end : End) (step : IsStep g w dir (w.block x) x end) where
    source : (w.block s ≡ it.k) ⊎ (s ≡ it.h)
    source = (found_in x from it).source

    head_of_source : w.block s ≡ it.k → w.head s ≡ it.h
    head_of_source member = head_of_member g root w it.k it.h s is it.closed (found_in x from it).source_within member

    -- paths go on from nodes of the block that are not the source, since they are not the head
    inside : w.block x ≡ it.k
    inside = elim (found_in x from it).target [
      | inl member ↦ member
      | inr home ↦ elim source [
        | inl member ↦ absurd (on.not_head (home ∙ sym (head_of_source member)))
        | inr head ↦ absurd (on.not_source (home ∙ sym head))
      ]
    ]

    onward : IsStep g w dir it.k x end
    onward = subst (λ (b : ℕ). IsStep g w dir b x end) inside step

    further_path : HasPath g root w dir s end.to (known (from.cost + end.metric) from.place)
    further_path = record {
      k = it.k;
      h = it.h;
      closed = it.closed;
      end = it.end;
      others = it.others ++ end ∷ [];
      is_path = path_onward g w dir it.k it.h s x it.end it.others end it.is_path
          (member_not_head g root w it.k it.h x is it.closed (found_in x from it).target_within inside) onward;
      costs = omega (arith, cost_onward it.others end, it.costs);
      ends = it.ends;
      list = it.list;
      there = it.there;
    }

    -- it leads to a node with a later turn, or to one from which no path goes on
    later_or_end : (turn_of dir (length g.ids) w x < turn_of dir (length g.ids) w end.to) ⊎ (PassesOn w s end.to → ⊥)
    later_or_end = elim (step_from_member g root w dir it.k it.h x end is it.closed inside onward) [
      | Later block later ↦ inl later
      | Home home ↦ inr (λ next. elim source [
        | inl member ↦ next.not_head (home ∙ sym (head_of_source member))
        | inr head ↦ next.not_source (home ∙ sym head)
      ])
    ]

  -- one more turn: x offered what it leads on to, where paths go on from it
  module _ (x i : ℕ) (before after : ℕ → Known) (within : x < length g.ids) (here : turn_of dir (length g.ids) w x ≡ i)
      (only : (v : ℕ) → v < length g.ids → turn_of dir (length g.ids) w v ≡ i → v ≡ x) (swept : IsSwept g root w dir s i before)
      (from : (v : ℕ) → v < length g.ids → (after v).cost < far → (after v ≡ before v) ⊎ IsTurnOffer g w dir s x (before x) v (after v))
      (kept : (v : ℕ) → IsNoLater (after v) (before v))
      (taken : (end : End) → IsStep g w dir (w.block x) x end → PassesOn w s x → (before x).cost < far
      → IsNoLater (after end.to) (known ((before x).cost + end.metric) (before x).place)) where
    -- what is known of a node that has had its turn stays
    unchanged : (y : ℕ) → y < length g.ids → turn_of dir (length g.ids) w y < i + 1 → PassesOn w s y → (after y).cost < far → after y ≡ before y
    unchanged y inside early on low = elim (from y inside low) [
      | inl old ↦ old
      | inr new ↦
          elim (later_or_end x (before x) (swept.sound x within new.low) new.on new.end new.step) [
            | inl later ↦ absurd (omega (arith, later, here, early, ap (λ (v : ℕ). turn_of dir (length g.ids) w v) new.to))
            | inr end ↦ absurd (end (subst (λ (v : ℕ). PassesOn w s v) new.to on))
          ]
    ]

    pub turn_taken : IsSwept g root w dir s (i + 1) after
    turn_taken = record {
      sound = λ v inside low. elim (from v inside low) [
        | inl old ↦ subst (λ (k : Known). HasPath g root w dir s v k) (sym old) (swept.sound v inside (subst (λ (k : Known). k.cost < far) old low))
        | inr new ↦
            subst (λ (k : Known). HasPath g root w dir s v k) (sym new.is)
            (subst (λ (y : ℕ). HasPath g root w dir s y (known ((before x).cost + new.end.metric) (before x).place)) (sym new.to)
            (further_path x (before x) (swept.sound x within new.low) new.on new.end new.step))
      ];
      begun = λ end step not_sole. no_later_by (after end.to) (before end.to) (known end.metric step.place) (kept end.to) (swept.begun end step not_sole);
      passed = λ y end step early on low.
          let inside = (move_of g w dir (w.block y) y end is.kept step).from_within in
          let same = unchanged y inside early on low in
          let low_before : (before y).cost < far = subst (λ (k : Known). k.cost < far) same low in
          subst (λ (k : Known). IsNoLater (after end.to) (known (k.cost + end.metric) k.place)) (sym same)
          (elim (cases_lt (turn_of dir (length g.ids) w y) i) [
            | inl past ↦
                no_later_by (after end.to) (before end.to) (known ((before y).cost + end.metric) (before y).place) (kept end.to)
                (swept.passed y end step past on low_before)
            | inr now ↦
                let y_is : y ≡ x = only y inside (omega (arith, early, now)) in
                subst (λ (z : ℕ). IsNoLater (after end.to) (known ((before z).cost + end.metric) (before z).place)) (sym y_is)
                (taken end (subst (λ (z : ℕ). IsStep g w dir (w.block z) z end) y_is step) (subst (λ (z : ℕ). PassesOn w s z) y_is on)
                (subst (λ (z : ℕ). (before z).cost < far) y_is low_before))
          ]);
    }

  -- after all turns, no path of a block of the source comes before what is known
  module _ (found : ℕ → Known) (swept : IsSwept g root w dir s (length g.ids) found) (k h u : ℕ) (are : AreIn g root w s k h u) where
    on_the_way : (x : ℕ) → IsOnTheWay g w dir s k h x → PassesOn w s x
    on_the_way x way = record {
      not_source = elim way.ahead [
        | inl head ↦ λ same. not_head (same ∙ head)
        | inr later ↦ turn_differs dir (length g.ids) w s x later
      ];
      not_head = elim are.source [
        | inl member ↦ λ same. not_head (same ∙ head_of_member g root w k h s is are.closed are.source_within member)
        | inr head ↦ λ same. omega (arith, head_not_above head, ap w.order head, head_lower g root w k h x is are.closed way.within way.inside, ap w.order same)
      ];
    }
      where
        not_head : x ≢ h
        not_head = member_not_head g root w k h x is are.closed way.within way.inside

        head_not_above : s ≡ h → w.order (w.head s) ≤ w.order s
        head_not_above head = elim (cases_eq s root) [
          | inl at_root ↦
              let same : w.head s ≡ s = ap w.head at_root ∙ is.ordered.heads.root_head ∙ sym at_root in
              omega (arith, ap w.order same)
          | inr other ↦ omega (arith, is.ordered.heads.lower s are.source_within other)
        ]

    -- a path that has come to x by so much goes on from there
    next_found : (x cost place : ℕ) (end : End) → IsOnTheWay g w dir s k h x → cost < far → IsNoLater (found x) (known cost place) → IsStep g w dir k x end
        → IsNoLater (found end.to) (known (cost + end.metric) place)
    next_found x cost place end way low so_far step =
        no_later_by (found end.to) (known ((found x).cost + end.metric) (found x).place) (known (cost + end.metric) place)
        (swept.passed x end (subst (λ (b : ℕ). IsStep g w dir b x end) (sym way.inside) step) (turn_in g root w dir x is.ordered way.within) (on_the_way x way)
        (omega (arith, low, no_later_cost (found x) (known cost place) so_far)))
        (elim so_far [ inl less ↦ inl (omega (arith, less)) | inr tie ↦ inr (omega (arith, tie.0), tie.1) ])

    ahead : (x : ℕ) (end : End) → IsOnTheWay g w dir s k h x → IsStep g w dir k x end → end.to ≢ h → IsOnTheWay g w dir s k h end.to
    ahead x end way step not_home = elim (step_from_member g root w dir k h x end is are.closed way.inside step) [
      | Later block later ↦ record {
        inside = block;
        within = (move_of g w dir k x end is.kept step).to_within;
        ahead = elim way.ahead [ inl head ↦ inl head | inr less ↦ inr (omega (arith, less, later)) ];
      }
      | Home home ↦ absurd (not_home home)
    ]

    further_found : (x t cost place : ℕ) (end : End) (others : List End) → IsOnTheWay g w dir s k h x → cost + cost_of (end ∷ others) < far → IsNoLater (found x) (known cost place)
        → Path g w dir k h x (end ∷ others) t → IsNoLater (found t) (known (cost + cost_of (end ∷ others)) place)
    further_found x t cost place end [] way low so_far path =
        subst (λ (c : ℕ). IsNoLater (found t) (known c place)) (omega arith)
        (subst (λ (y : ℕ). IsNoLater (found y) (known (cost + end.metric) place)) path.1 (next_found x cost place end way (omega (arith, low)) so_far path.0))
    further_found x t cost place end (next ∷ more) way low so_far path =
        subst (λ (c : ℕ). IsNoLater (found t) (known c place)) (omega arith)
        (further_found end.to t (cost + end.metric) place next more (ahead x end way path.0 path.1) (omega (arith, low))
        (next_found x cost place end way (omega (arith, low)) so_far path.0) path.2)

    pub path_found : (t : ℕ) (end : End) (others : List End) → Path g w dir k h s (end ∷ others) t → (place : ℕ) (ends : List End) → slice_get g.ends s ≡ Some ends
        → slice_get ends place ≡ Some end → IsNoLater (found t) (known (cost_of (end ∷ others)) place)
    path_found t end others path place ends list there = go others path
      where
        first : IsStep g w dir k s end → IsNoLater (found end.to) (known end.metric place)
        first step =
            swept.begun end (record { ends = ends; list = list; place = place; there = there; in_block = refl; leads_on = step.leads_on })
            (are.closed.closing.none_sole end.link (move_of g w dir k s end is.kept step).link (step.in_block ∙ sym are.closed.in_block))

        start : IsStep g w dir k s end → end.to ≢ h → IsOnTheWay g w dir s k h end.to
        start step not_head = elim are.source [
          | inl member ↦ elim (step_from_member g root w dir k h s end is are.closed member step) [
            | Later block later ↦ record { inside = block; within = (move_of g w dir k s end is.kept step).to_within; ahead = inr later }
            | Home home ↦ absurd (not_head home)
          ]
          | inr head ↦ record {
            inside = step_from_head g root w dir k h end is are.closed (subst (λ (y : ℕ). IsStep g w dir k y end) head step);
            within = (move_of g w dir k s end is.kept step).to_within;
            ahead = inl head;
          }
        ]

        go : (rest : List End) → Path g w dir k h s (end ∷ rest) t → IsNoLater (found t) (known (cost_of (end ∷ rest)) place)
        go [] it =
            subst (λ (c : ℕ). IsNoLater (found t) (known c place)) (omega arith)
            (subst (λ (y : ℕ). IsNoLater (found y) (known end.metric place)) it.1 (first it.0))
        go (next ∷ more) it =
            further_found end.to t end.metric place next more (start it.0 it.1)
            (omega (arith, path_low g root w dir is k h are.closed s t end (next ∷ more) it)) (first it.0) it.2
