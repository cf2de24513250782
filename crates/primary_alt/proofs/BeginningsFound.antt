-- The least beginnings of shortest paths from a router are their first arcs.
use Rattle.std.proofs.Common.{◌≡◌, ◌≢◌, ◌<◌, ◌≤◌, ◌+◌, ◌∙◌, ℕ, List, [], ◌∷◌, Option, Some, None, length, slice_get, inl, inr, refl, sym, ap, subst, arith}
use Rattle.std.specs.Prelude.{Contains}
use Rattle.std.proofs.lemmas.Bool.{cases_eq}
use Rattle.std.proofs.lemmas.Option.{same_Some, slice_get_within}
use Rattle.area_graph.specs.declared.area_types.Arc.{Arc}
use Rattle.area_graph.specs.AreaInvariant.{IsArea}
use Rattle.area_graph.specs.Parts.{AreaParts}
use Rattle.mrt_graph.proofs.ListPlaces.{contains_at, place_of}
use Rattle.mrt_graph.specs.GraphInvariant.{IsNetwork}
use Rattle.primary_alt.specs.declared.beginnings.Beginning.{Beginning}
use Rattle.primary_alt.specs.ArcWalk.{ArcWalk, cost_of}
use Rattle.primary_alt.specs.steps.Beginnings.{AreBeginnings, HasBeginning, IsFirst}
use Rattle.primary_alt.specs.Distance.{IsDistance}
use Rattle.primary_alt.specs.Distances.{HasDistance}
use Rattle.primary_alt.specs.DistancesFrom.{AreDistancesFrom}
use Rattle.primary_alt.specs.steps.LeastBeginnings.{AreLeast, BeginsWith, HasUpTo, IsBegun, IsUpTo, Later, Own, Second}
use Rattle.primary_alt.specs.steps.Onward.{CostInRow, IsOnward}
use Rattle.primary_alt.specs.Primaries.{BeginsShortest, IsFirstArc, LeadsOver}
use Rattle.primary_alt.specs.Routers.{IsRouter}
use Rattle.primary_alt.proofs.AreaArcs.{arcs_between}
use Rattle.primary_alt.proofs.ArcWalks.{arc_kept, arc_moves, one_distance, to_network_costs}
use Rattle.primary_alt.proofs.BeginningsPassed.{one_beginning, upto_more}
use Rattle.primary_alt.proofs.NumbersRead.{one_number}
use Rattle.primary_alt.proofs.RouterFacts.{router_alone, router_or_network}
use Rattle.primary_alt.proofs.TurnedWalks.{on_way, upto_walk}

-- of two arcs in a row one leaves a router
pub cost_in_row : (area : AreaParts) → IsArea area → CostInRow area.arcs
cost_in_row area kept k j arc next there there' same =
    elim (router_or_network area.ids next.tail ((arcs_between area kept).tails j next there')) [
      | inl router ↦ omega (arith, (arc_kept area j next kept there').of_router (router_alone area.ids next.tail router))
      | inr network ↦
          omega (arith, to_network_costs area arc kept (arc_kept area k arc kept there) (subst (λ (v : ℕ). IsNetwork area.ids v) (sym same) network))
    ]

-- the node itself is at distance 0
pub at_source : (arcs : List Arc) (s : ℕ) (known : List (Option ℕ)) → AreDistancesFrom arcs s known → s < length known → HasDistance known s 0
at_source arcs s known from within =
    let upto = upto_walk arcs s known from s [] within refl in
    let zero : upto.least ≡ 0 = omega (arith, upto.upto) in
    subst (λ (d : ℕ). HasDistance known s d) zero upto.there

-- after its first arc a shortest path is a shortest one
rest_least : (arcs rest : List Arc) (s v : ℕ) (arc : Arc) → IsDistance arcs s v (arc.metric + cost_of rest) → Contains arcs arc → arc.tail ≡ s → ArcWalk arcs arc.to rest v
    → IsDistance arcs arc.to v (cost_of rest)
rest_least arcs rest s v arc is has tail w = record { walk = rest; leads = w; costs = refl; least = λ other o. omega (arith, is.least (arc ∷ other) (has, tail, o)) }

begins_with : (arcs rest : List Arc) (s v : ℕ) (arc : Arc) → IsDistance arcs s v (arc.metric + cost_of rest) → Contains arcs arc → arc.tail ≡ s → ArcWalk arcs arc.to rest v
    → BeginsShortest arcs v arc
begins_with arcs rest s v arc is has tail w = record {
  rest = cost_of rest;
  far = rest_least arcs rest s v arc is has tail w;
  near = subst (λ (u : ℕ). IsDistance arcs u v (arc.metric + cost_of rest)) (sym tail) is;
}

-- an arc that begins a shortest one from the same node begins one of that cost
as_far : (arcs : List Arc) (x v d : ℕ) (arc : Arc) → IsDistance arcs x v d → arc.tail ≡ x → (shortest : BeginsShortest arcs v arc) → d ≡ arc.metric + cost_of shortest.far.walk
as_far arcs x v d arc is tail shortest =
    omega (arith, one_distance arcs x v d (arc.metric + shortest.rest) is (subst (λ (u : ℕ). IsDistance arcs u v (arc.metric + shortest.rest)) tail shortest.near), shortest.far.costs)

first_low : (a b : Beginning) → IsUpTo a b → a.first ≤ b.first
first_low a b upto = elim upto [ inl less ↦ omega (arith, less) | inr same ↦ omega (arith, same.0) ]

module _ (area : AreaParts) (kept : IsArea area) (s : ℕ) (router : IsRouter area.ids s) (known : List (Option ℕ)) (one_each : length known ≡ length area.ids)
    (from : AreDistancesFrom area.arcs s known) (here : HasDistance known s 0) (begins : List (Option Beginning)) (least : AreLeast area.arcs s known begins) where
  -- the next arc of a shortest path
  next_arc : (x d number v : ℕ) (arc : Arc) (more : List Arc) → HasDistance known x d → slice_get area.arcs number ≡ Some arc → arc.tail ≡ x → ArcWalk area.arcs arc.to more v
      → HasDistance known v (d + (arc.metric + cost_of more)) → IsOnward known arc (d + (d + arc.metric))
  next_arc x d number v arc more has there tail w whole = record {
    near = d;
    tail = subst (λ (u : ℕ). HasDistance known u d) (sym tail) has;
    to = on_way area.arcs s (length area.ids) known one_each from (arcs_between area kept).tos x d number v arc more has there tail w whole;
    is = refl;
  }

  first_arc : (k v : ℕ) (head : Arc) (rest : List Arc) → slice_get area.arcs k ≡ Some head → head.tail ≡ s → ArcWalk area.arcs head.to rest v → HasDistance known v (head.metric + cost_of rest)
      → IsOnward known head (0 + (0 + head.metric))
  first_arc k v head rest there tail w whole =
      let same : head.metric + cost_of rest ≡ 0 + (head.metric + cost_of rest) = omega arith in
      next_arc s 0 k v head rest here there tail w (subst (λ (n : ℕ). HasDistance known v n) same whole)

  module _ (k : ℕ) (head : Arc) (there_k : slice_get area.arcs k ≡ Some head) (tail_k : head.tail ≡ s) where
    head_costs : 1 ≤ head.metric
    head_costs =
        (arc_kept area k head kept there_k).of_router (λ network. router_alone area.ids s router (subst (λ (v : ℕ). IsNetwork area.ids v) tail_k network))

    head_is : (v : ℕ) (begin : Beginning) → (is : IsBegun area.arcs s known v begin) → begin.first ≡ k → is.head ≡ head
    head_is v begin is same = same_Some is.head head (sym is.there ∙ ap (λ (n : ℕ). slice_get area.arcs n) same ∙ there_k)

    module _ (on : IsOnward known head (0 + (0 + head.metric))) where
      far : HasDistance known head.to head.metric
      far =
          let same : on.near + head.metric ≡ head.metric = omega (arith, on.is) in
          subst (λ (d : ℕ). HasDistance known head.to d) same on.to

      by_head : HasUpTo begins head.to (record { first = k; second = k })
      by_head = least.least k _ head (record { first = k; second = k }) there_k on (Own tail_k)

      -- a node after the one that the first arc leads to, at that distance
      record IsAway (x d : ℕ) : Type 0 where
        at : HasDistance known x d
        costs : head.metric ≤ d
        other : x ≢ head.to
        more : IsNetwork area.ids x → head.metric < d

      not_s : (x d : ℕ) → HasDistance known x d → head.metric ≤ d → x ≢ s
      not_s x d at costs same = omega (arith, head_costs, costs, one_number known s d 0 (subst (λ (u : ℕ). HasDistance known u d) same at) here)

      away_on : (x d number : ℕ) (arc : Arc) → IsAway x d → slice_get area.arcs number ≡ Some arc → arc.tail ≡ x → HasDistance known arc.to (d + arc.metric) → IsAway arc.to (d + arc.metric)
      away_on x d number arc away there tail to =
          let dearer : head.metric < d + arc.metric =
          elim (router_or_network area.ids x (omega (arith, one_each, slice_get_within known x (Some d) away.at))) [
            | inl router' ↦
                omega (arith, away.costs, (arc_kept area number arc kept there).of_router (λ network. router_alone area.ids x router' (subst (λ (v : ℕ). IsNetwork area.ids v) tail network)))
            | inr network ↦ omega (arith, away.more network)
          ] in
          record {
            at = to;
            costs = omega (arith, dearer);
            other = λ same. omega (arith, dearer, one_number known head.to _ head.metric (subst (λ (u : ℕ). HasDistance known u (d + arc.metric)) same to) far);
            more = λ network. dearer;
          }

      -- the second arc
      second_on : (j sum : ℕ) (arc : Arc) → slice_get area.arcs j ≡ Some arc → arc.tail ≡ head.to → IsOnward known arc sum → HasUpTo begins arc.to (record { first = k; second = j })
      second_on j sum arc there tail on' =
          let before = by_head.least in
          let is = least.sound head.to before by_head.there in
          let has = subst (λ (u : ℕ). HasBeginning begins u before) (sym tail) by_head.there in
          let apart : arc.tail ≢ s = λ same. not_s head.to head.metric far (omega arith) (sym tail ∙ same) in
          elim (cases_eq is.head.to arc.tail) [
            | inl same ↦
                upto_more begins arc.to (record { first = before.first; second = j }) (record { first = k; second = j })
                (least.least j sum arc _ there on' (Second before is.head apart has is.there same))
                (elim by_head.upto [ inl less ↦ inl less | inr equal ↦ inr (equal.0, omega arith) ])
            | inr other ↦
                upto_more begins arc.to before (record { first = k; second = j })
                (least.least j sum arc _ there on' (Later before is.head apart has is.there other))
                (elim by_head.upto [
                  | inl less ↦ inl less
                  | inr equal ↦ absurd (other (ap (λ (a : Arc). a.to) (head_is head.to before is equal.0) ∙ sym tail))
                ])
          ]

      -- an arc after it
      later_on : (number sum d : ℕ) (arc : Arc) (begin : Beginning) → begin.first ≡ k → slice_get area.arcs number ≡ Some arc → IsAway arc.tail d → IsOnward known arc sum
          → HasUpTo begins arc.tail begin → HasUpTo begins arc.to begin
      later_on number sum d arc begin of there away on' has =
          let before = has.least in
          let is = least.sound arc.tail before has.there in
          let apart : arc.tail ≢ s = not_s arc.tail d away.at away.costs in
          elim (cases_eq is.head.to arc.tail) [
            | inl same ↦
                upto_more begins arc.to (record { first = before.first; second = number }) begin
                (least.least number sum arc _ there on' (Second before is.head apart has.there is.there same))
                (elim has.upto [
                  | inl less ↦ inl less
                  | inr equal ↦ absurd (away.other (sym same ∙ ap (λ (a : Arc). a.to) (head_is arc.tail before is (equal.0 ∙ of))))
                ])
            | inr other ↦ upto_more begins arc.to before begin (least.least number sum arc _ there on' (Later before is.head apart has.there is.there other)) has.upto
          ]

      along : (walk : List Arc) (x d v : ℕ) (begin : Beginning) → begin.first ≡ k → IsAway x d → ArcWalk area.arcs x walk v → HasDistance known v (d + cost_of walk)
          → HasUpTo begins x begin → HasUpTo begins v begin
      unfolding next_arc
      along [] x d v begin of away w whole has = subst (λ (u : ℕ). HasUpTo begins u begin) w has
      along (arc ∷ more) x d v begin of away w whole has =
          let at = place_of area.arcs arc w.0 in
          let on' = next_arc x d at.0 v arc more away.at at.1 w.1 w.2 whole in
          let sum : d + (arc.metric + cost_of more) ≡ (d + arc.metric) + cost_of more = omega arith in
          along more arc.to (d + arc.metric) v begin of (away_on x d at.0 arc away at.1 w.1 on'.to) w.2 (subst (λ (n : ℕ). HasDistance known v n) sum whole)
          (later_on at.0 _ d arc begin of at.1 (subst (λ (u : ℕ). IsAway u d) (sym w.1) away) on' (subst (λ (u : ℕ). HasUpTo begins u begin) (sym w.1) has))

      -- a shortest path that begins with both arcs
      over_both : (j v : ℕ) (arc : Arc) (more : List Arc) → slice_get area.arcs j ≡ Some arc → arc.tail ≡ head.to → ArcWalk area.arcs arc.to more v
          → HasDistance known v (head.metric + (arc.metric + cost_of more)) → HasUpTo begins v (record { first = k; second = j })
      unfolding next_arc
      over_both j v arc more there tail w whole =
          let is = arc_kept area j arc kept there in
          let on' = next_arc head.to head.metric j v arc more far there tail w whole in
          let sum : head.metric + (arc.metric + cost_of more) ≡ (head.metric + arc.metric) + cost_of more = omega arith in
          along more arc.to (head.metric + arc.metric) v (record { first = k; second = j }) refl
          (record {
            at = on'.to;
            costs = omega arith;
            other = λ same. arc_moves area arc kept is (same ∙ sym tail);
            more = λ network. omega (arith, to_network_costs area arc kept is network);
          })
          w (subst (λ (n : ℕ). HasDistance known v n) sum whole) (second_on j _ arc there tail on')

    -- a shortest path that begins with the first one
    over_first : (v : ℕ) (rest : List Arc) → ArcWalk area.arcs head.to rest v → HasDistance known v (head.metric + cost_of rest)
        → (begin : Beginning) × HasBeginning begins v begin × (begin.first ≤ k)
    over_first v rest w whole = go rest w (first_arc k v head rest there_k tail_k w whole) whole
      where
        go : (rest : List Arc) → ArcWalk area.arcs head.to rest v → IsOnward known head (0 + (0 + head.metric)) → HasDistance known v (head.metric + cost_of rest)
            → (begin : Beginning) × HasBeginning begins v begin × (begin.first ≤ k)
        go [] w on whole =
            let has = by_head on in
            (has.least, subst (λ (u : ℕ). HasBeginning begins u has.least) w has.there, first_low has.least (record { first = k; second = k }) has.upto)
        go (arc ∷ more) w on whole =
            let at = place_of area.arcs arc w.0 in
            let has = over_both on at.0 v arc more at.1 w.1 w.2 whole in
            (has.least, has.there, first_low has.least (record { first = k; second = at.0 }) has.upto)

  -- what is found is the first arc
  first_is : (t : ℕ) (begin : Beginning) → HasBeginning begins t begin → IsFirst area s t begin.first
  first_is t begin has =
      let is = least.sound t begin has in
      let far = from.some t _ is.costs in (
        is.head,
        record {
          there = is.there;
          from = is.tail;
          shortest = begins_with area.arcs is.rest s t is.head far (contains_at area.arcs begin.first is.head is.there) is.tail is.leads;
          first = λ k other at tail shortest.
              let low = over_first k other at tail t shortest.far.walk shortest.far.leads
              (subst (λ (n : ℕ). HasDistance known t n) (as_far area.arcs s t _ other far tail shortest) is.costs) in
              omega (arith, low.2, ap (λ (b : Beginning). b.first) (one_beginning begins t low.0 begin low.1 has));
        },
      )

  -- and the second one
  second_is : (t : ℕ) (begin : Beginning) → HasBeginning begins t begin → (head : Arc) → IsFirstArc area.arcs s t begin.first head → LeadsOver area t head
      → IsFirst area head.to t begin.second
  second_is t begin has head first over =
      let is = least.sound t begin has in
      let same : is.head ≡ head = same_Some is.head head (sym is.there ∙ first.there) in
      by_rest is.rest (subst (λ (a : Arc). ArcWalk area.arcs a.to is.rest t) same is.leads)
      (subst (λ (a : Arc). HasDistance known t (a.metric + cost_of is.rest)) same is.costs) is.second
    where
      by_rest : (rest : List Arc) → ArcWalk area.arcs head.to rest t → HasDistance known t (head.metric + cost_of rest) → BeginsWith area.arcs rest begin.second
          → IsFirst area head.to t begin.second
      by_rest [] w costs second = absurd (over.other w)
      by_rest (arc ∷ more) w costs second =
          let far = rest_least area.arcs (arc ∷ more) s t head (from.some t _ costs) (contains_at area.arcs begin.first head first.there) first.from w in
          let on = first_arc begin.first t head (arc ∷ more) first.there first.from w costs in (
            arc,
            record {
              there = second;
              from = w.1;
              shortest = begins_with area.arcs more head.to t arc far w.0 w.1 w.2;
              first = λ j other at tail shortest.
                  let has' = over_both begin.first head first.there first.from on j t other shortest.far.walk at tail shortest.far.leads
                  (subst (λ (n : ℕ). HasDistance known t (head.metric + n)) (as_far area.arcs head.to t _ other far tail shortest) costs) in
                  let same = one_beginning begins t has'.least begin has'.there has in
                  elim has'.upto [
                    | inl less ↦ absurd (omega (arith, less, ap (λ (b : Beginning). b.first) same))
                    | inr low ↦ omega (arith, low.1, ap (λ (b : Beginning). b.second) same)
                  ];
            },
          )

  -- where none is found no walk leads
  none_is : (t : ℕ) → t < length known → t ≢ s → slice_get begins t ≡ Some None → (walk : List Arc) → ¬ ArcWalk area.arcs s walk t
  none_is t within apart none walk w =
      let upto = upto_walk area.arcs s known from t walk within w in
      let is = from.some t upto.least upto.there in
      by_walk is.walk is.leads (subst (λ (d : ℕ). HasDistance known t d) (sym is.costs) upto.there)
    where
      by_walk : (walk : List Arc) → ArcWalk area.arcs s walk t → HasDistance known t (cost_of walk) → ⊥
      by_walk [] w has = apart (sym w)
      by_walk (arc ∷ more) w has =
          let at = place_of area.arcs arc w.0 in
          let found = over_first at.0 arc at.1 w.1 t more w.2 has in
          let clash : ◌≡◌ {A = Option (Option Beginning)} (Some None) (Some (Some found.0)) = sym none ∙ found.1 in cc

  pub beginnings : length begins ≡ length known → AreBeginnings area s begins
  beginnings many = record {
    none = λ t apart none. none_is t (omega (arith, many, slice_get_within begins t None none)) apart none;
    some = λ t begin apart has. record { first = first_is t begin has; second = second_is t begin has };
  }
