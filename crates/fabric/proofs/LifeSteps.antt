-- A packet's life goes on, step by step, from where it enters.
use Rattle.std.proofs.Common.{◌≡◌, ◌≢◌, ◌⊎◌, ◌<◌, ◌≤◌, ◌+◌, ◌∙◌, ℕ, List, [], ◌∷◌, Option, Some, length, inl, inr, refl, sym, ap, subst, arith}
use Rattle.std.specs.Prelude.{IsSome}
use Rattle.std.proofs.lemmas.Option.{same_Some}
use Rattle.fabric.specs.Answers.{AreInside, IsOpen, MayEnter}
use Rattle.fabric.specs.FabricParts.{ArePartsKept, AreRowsFor, FabricParts, element_of, node_at}
use Rattle.fabric.specs.FabricState.{entering, mode_of, packet_after}
use Rattle.fabric.specs.Causes.{IsCutOff}
use Rattle.fabric.specs.Handling.{IsHandled, IsInside, IsRepair}
use Rattle.fabric.specs.steps.KeptState.{IsKeptPacket}
use Rattle.fabric.specs.PacketHop.{IsHop}
use Rattle.fabric.specs.declared.event.Failure.{Failure}
use Rattle.fabric.specs.declared.event.Outcome.{Outcome}
use Rattle.fabric_script.specs.declared.entry.Entry.{Entry}
use Rattle.fabric_script.specs.declared.entry.Entry.TheVariants as entries
use Rattle.fabric.specs.declared.next_hop.NextHop.{NextHop}
use Rattle.fabric.specs.declared.packet.Mode.{Mode}
use Rattle.fabric.specs.declared.packet.Mode.TheVariants as modes
use Rattle.fabric.specs.declared.packet.Packet.{Packet}
use Rattle.fabric.specs.declared.packet.State.TheVariants as states
use Rattle.fabric.proofs.ColorHops.{Onward}
use Rattle.fabric.proofs.ColorWays.{on_walk, way, way_short}
use Rattle.fabric.proofs.Islands.{node_within, one_spot, spot_within}
use Rattle.fabric.proofs.Life.{HasEnded, IsFarther, IsLeft, Life, Lives, OnEntered, OnPrimary, OnSwitched, avoids_after, color_hop_of, inside_is, left_after, life_below, lost_life, step_on, visited_few}
use Rattle.fabric.proofs.Nearer.{Nearer, nearer_hop}
use Rattle.fabric.proofs.SmallIslands.{island_small}
use Rattle.fabric.proofs.Outcomes.{Arrives, Becomes, IsLost, IsSwitched, Moves, becomes}
use Rattle.mrt_graph.specs.declared.cert.Color.{Color}
use Rattle.mrt_graph.specs.declared.cert.Color.TheVariants.{Blue, Red}
use Rattle.mrt_graph.specs.declared.link.Element.{Element}
use Rattle.mrt_graph.specs.Alternate.{AtEnd, ByBlue, ByRed, IsAlternate, OnBoth, Outside, UsesOn}
use Rattle.mrt_graph.specs.GraphInvariant.{IsNetwork}
use Rattle.mrt_graph.proofs.Members.{Has}
use Rattle.mrt_graph.proofs.Trails.{Differ}
use Rattle.primary_alt.proofs.ArcWalks.{one_distance}
use Rattle.primary_alt.proofs.RouterFacts.{router_alone, router_within}

pub some_inside : (parts : FabricParts) (v m : ℕ) → node_at parts v ≡ Some m → IsSome (node_at parts v)
some_inside parts v m at = rw at refl

module _ (parts : FabricParts) (are : ArePartsKept parts) where
  -- a packet that moves
  pub moved_kept : (q : Packet) (hop : NextHop) → IsKeptPacket parts q → hop.next < length parts.area.ids → (q.mode ≢ modes.Primary → IsSome (node_at parts hop.next))
      → ¬ IsNetwork parts.area.ids hop.next → hop.next ≢ q.to → IsKeptPacket parts (record q { place = hop.next })
  moved_kept q hop kept within inside router other = record { place = within; to = kept.to; place_inside = inside; to_inside = kept.to_inside; router = λ going. router; apart = λ going. other }

  pub router_there : (t v : ℕ) → (v ≡ t) ⊎ (¬ IsNetwork parts.area.ids v) → v ≢ t → ¬ IsNetwork parts.area.ids v
  router_there t v (inl here) other = absurd (other here)
  router_there t v (inr router) other = router

  -- by its primary: it is farther from all places before
  by_primary : (failure : Option Failure) (q : Packet) (steps : ℕ) (visited : List ℕ) (hop : NextHop) → IsKeptPacket parts q → q.mode ≡ modes.Primary → q.state ≡ states.Going
      → Differ (q.to ∷ q.place ∷ visited) → ((v : ℕ) → Has visited v → v < length parts.area.ids) → length visited ≡ steps → ((v : ℕ) → Has visited v → IsFarther parts q.to v q.place)
      → Nearer parts q.place q.to hop → hop.next ≢ q.to → Lives parts failure (record q { place = hop.next }) (steps + 1)
  by_primary failure q steps visited hop kept mode going differ below count farther near other = record {
    kept = moved_kept q hop kept near.within (λ color. absurd (color mode)) (router_there q.to hop.next near.ends other) other;
    life = OnPrimary (q.place ∷ visited) mode going (
      λ has. elim has [ inl same ↦ other same | inr later ↦ differ.0 later ],
      (
        λ has. elim has [
          | inl same ↦ near.moves (sym same)
          | inr later ↦ fresh later
        ],
        differ.1,
      ),
    )
        (λ v has. elim has [ inl same ↦ subst (λ (y : ℕ). y < length parts.area.ids) same kept.place | inr later ↦ below v later ])
        (omega (arith, count))
        (λ v has. elim has [
          | inl same ↦ subst (λ (y : ℕ). IsFarther parts q.to y hop.next) same (record { far = near.distance; far_is = near.is; near = near.rest; near_is = near.rest_is; falls = near.falls })
          | inr later ↦ on (farther v later)
        ]);
  }
    where
      on : {v : ℕ} → IsFarther parts q.to v q.place → IsFarther parts q.to v hop.next
      on f =
          let same : f.near ≡ near.distance = one_distance parts.area.arcs q.place q.to f.near near.distance f.near_is near.is in
          let less = f.falls in
          let falls = near.falls in
          record { far = f.far; far_is = f.far_is; near = near.rest; near_is = near.rest_is; falls = omega (arith, same, less, falls) }

      fresh : Has visited hop.next → ⊥
      fresh has =
          let f = on (farther hop.next has) in
          let same : f.far ≡ f.near = one_distance parts.area.arcs hop.next q.to f.far f.near f.far_is f.near_is in
          let falls = f.falls in
          omega (arith, same, falls)

  -- on a color: less of its way is left
  pub color_kept : (color : Color) (q : Packet) (left : IsLeft parts color q) (hop : NextHop) → IsKeptPacket parts q → (on : Onward parts color q.to hop left.d left.hops)
      → hop.next ≢ q.to → IsKeptPacket parts (record q { place = hop.next })
  color_kept color q left hop kept on other =
      moved_kept q hop kept (spot_within parts are hop.next on.m on.at) (λ c. some_inside parts hop.next on.m on.at) (router_there q.to hop.next on.ends other) other

  moved_life : (failure : Option Failure) (q : Packet) (steps : ℕ) (hop : NextHop) → Lives parts failure q steps → q.state ≡ states.Going → IsHop parts q.mode q.place q.to hop
      → hop.next ≢ q.to → Lives parts failure (record q { place = hop.next }) (steps + 1)
  moved_life failure q steps hop lives going is other = go lives.life
    where
      go : Life parts failure q steps → Lives parts failure (record q { place = hop.next }) (steps + 1)
      go (HasEnded ended few never) = absurd (ended going)
      go (OnPrimary visited mode going' differ below count farther) =
          by_primary failure q steps visited hop lives.kept mode going differ below count farther
          (nearer_hop parts are q.place q.to hop (lives.kept.router going) (subst (λ (m : Mode). IsHop parts m q.place q.to hop) mode is)) other
      go (OnEntered color mode going' left few) =
          let on = step_on parts are color q lives.kept going left hop (color_hop_of parts color q.mode q.place q.to hop (inl mode) is) in
          let shorter = on.shorter in
          record {
            kept = color_kept color q left hop lives.kept on other;
            life = OnEntered color mode going (left_after parts are color q left hop on) (omega (arith, few, shorter));
          }
      go (OnSwitched color mode going' left few avoids) =
          let on = step_on parts are color q lives.kept going left hop (color_hop_of parts color q.mode q.place q.to hop (inr mode) is) in
          let shorter = on.shorter in
          record {
            kept = color_kept color q left hop lives.kept on other;
            life = OnSwitched color mode going (left_after parts are color q left hop on) (omega (arith, few, shorter)) (avoids_after parts are color failure q left hop on avoids);
          }

  -- a packet that is delivered
  pub delivered_kept : (q : Packet) → IsKeptPacket parts q → IsKeptPacket parts (record q { place = q.to; state = states.Delivered })
  delivered_kept q kept = record { place = kept.to; to = kept.to; place_inside = kept.to_inside; to_inside = kept.to_inside; router = λ going. cc; apart = λ going. cc }

  delivered_life : (failure : Option Failure) (q : Packet) (steps : ℕ) → Lives parts failure q steps → q.state ≡ states.Going
      → Lives parts failure (record q { place = q.to; state = states.Delivered }) (steps + 1)
  delivered_life failure q steps lives going = record {
    kept = delivered_kept q lives.kept;
    life = HasEnded (λ state. cc) (let less = life_below parts are failure q steps lives going in omega (arith, less)) (λ color loss switched lost. cc);
  }

  -- a color that is given does not use the failure
  given_avoids : (x : Element) (n d : ℕ) (color : Color) (o : Option Element) (answer : Option Color) → o ≡ Some x → answer ≡ Some color
      → IsAlternate parts.island.links (length parts.island.ids) parts.rows n d o answer
      → UsesOn parts.island.links (length parts.island.ids) parts.rows n d x color → ⊥
  given_avoids x n d color o answer is given Outside = cc
  given_avoids x n d color o answer is given (AtEnd y end) = cc
  given_avoids x n d color o answer is given (OnBoth y between blue red) = cc
  given_avoids x n d color o answer is given (ByBlue y between not_blue) =
      let same : y ≡ x = same_Some _ _ is in
      let same' : Blue ≡ color = same_Some _ _ given in
      λ uses. not_blue (subst (λ (z : Element). UsesOn parts.island.links (length parts.island.ids) parts.rows n d z Blue) (sym same)
      (subst (λ (c : Color). UsesOn parts.island.links (length parts.island.ids) parts.rows n d x c) (sym same') uses))
  given_avoids x n d color o answer is given (ByRed y between blue not_red) =
      let same : y ≡ x = same_Some _ _ is in
      let same' : Red ≡ color = same_Some _ _ given in
      λ uses. not_red (subst (λ (z : Element). UsesOn parts.island.links (length parts.island.ids) parts.rows n d z Red) (sym same)
      (subst (λ (c : Color). UsesOn parts.island.links (length parts.island.ids) parts.rows n d x c) (sym same') uses))

  -- the whole way on a color
  pub whole_way : (color : Color) (q : Packet) (n d : ℕ) → AreRowsFor parts q.to → IsKeptPacket parts q → q.place ≢ q.to → node_at parts q.place ≡ Some n → node_at parts q.to ≡ Some d → IsLeft parts color q
  whole_way color q n d rows kept apart at to =
      let apart' : n ≢ d = λ same. apart (one_spot parts are q.place q.to d (at ∙ ap (λ (y : ℕ). Some y) same) to) in
      let w = way parts are color n d (rows d to) (node_within parts are q.place n at) (node_within parts are q.to d to) apart' in
      record { n = n; d = d; at = at; to = to; hops = w.hops; follows = w.follows; differ = w.differ }

  whole_short : (color : Color) (q : Packet) (left : IsLeft parts color q) → length left.hops + 1 ≤ length parts.area.ids
  whole_short color q left =
      let short = way_short parts are color left.d left.n left.hops (node_within parts are q.place left.n left.at) left.follows left.differ in
      omega (arith, short, island_small parts are)

  -- a packet that is switched
  pub switched_kept : (q : Packet) (color : Color) → IsKeptPacket parts q → IsSome (node_at parts q.place) → IsSome (node_at parts q.to)
      → IsKeptPacket parts (record q { mode = modes.Switched color })
  switched_kept q color kept place to = record { place = kept.place; to = kept.to; place_inside = λ c. place; to_inside = λ c. to; router = kept.router; apart = kept.apart }

  switched_life : (failure : Option Failure) (q : Packet) (steps : ℕ) (color : Color) → AreRowsFor parts q.to → Lives parts failure q steps → q.state ≡ states.Going → q.mode ≡ modes.Primary
      → IsCutOff parts failure q → IsRepair parts failure q (Some (Some color)) → Lives parts failure (record q { mode = modes.Switched color }) (steps + 1)
  unfolding whole_way
  switched_life failure q steps color rows lives going mode off (IsInside at to _ place destination is) = go lives.life
    where
      kept' : IsKeptPacket parts (record q { mode = modes.Switched color })
      kept' = switched_kept q color lives.kept (some_inside parts q.place at place) (some_inside parts q.to to destination)

      go : Life parts failure q steps → Lives parts failure (record q { mode = modes.Switched color }) (steps + 1)
      go (HasEnded ended few never) = absurd (ended going)
      go (OnPrimary visited mode' going' differ below count farther) =
          let left = whole_way color (record q { mode = modes.Switched color }) at to rows kept' (lives.kept.apart going) place destination in
          let short = whole_short color (record q { mode = modes.Switched color }) left in
          let few = visited_few parts are q visited lives.kept differ below in
          record {
            kept = kept';
            life = OnSwitched color refl going left (omega (arith, short, few, count)) (record {
              failed = λ none. let cut = rw none at off.0.cut in cc;
              not_on = λ x failed on. given_avoids x at to color (element_of parts failure) (Some color) failed refl is
                  (on_walk parts are color to at left.hops (node_within parts are q.place at place) left.follows left.differ x on);
            });
          }
      go (OnEntered c mode' going' left few) = cc
      go (OnSwitched c mode' going' left few avoids) = cc

  -- each outcome
  pub life_after : (failure : Option Failure) (q : Packet) (steps : ℕ) → AreRowsFor parts q.to → Lives parts failure q steps → q.state ≡ states.Going → (outcome : Outcome) → IsHandled parts failure q outcome
      → Lives parts failure (packet_after outcome q) (steps + 1)
  life_after failure q steps rows lives going outcome handled = go (becomes parts failure q outcome handled)
    where
      go : {o : Outcome} → Becomes parts failure q o → Lives parts failure (packet_after o q) (steps + 1)
      go (Moves hop is other) = moved_life failure q steps hop lives going is other
      go (Arrives hop is here) = delivered_life failure q steps lives going
      go (IsLost loss why) = lost_life parts are failure q steps loss lives going why
      go (IsSwitched color primary off by) = switched_life failure q steps color rows lives going primary off by

  -- where it enters
  pub entering_kept : (at to : ℕ) (entry : Entry) → MayEnter parts.area parts.island at to entry → IsKeptPacket parts (entering at to entry)
  entering_kept at to entry may = record {
    place = router_within parts.area.ids at may.router;
    to = may.destination;
    place_inside = λ color. (inside entry color may.is_open).place;
    to_inside = λ color. (inside entry color may.is_open).destination;
    router = λ going. router_alone parts.area.ids at may.router;
    apart = λ going. may.apart;
  }
    where
      inside : (entry : Entry) → mode_of entry ≢ modes.Primary → IsOpen parts.area parts.island at to entry → AreInside parts.area parts.island at to
      inside entries.Blue color are = are
      inside entries.Red color are = are
      inside entries.Repair color anywhere = absurd (color refl)

  pub life_begins : (failure : Option Failure) (at to : ℕ) (entry : Entry) → AreRowsFor parts to → MayEnter parts.area parts.island at to entry → Lives parts failure (entering at to entry) 0
  life_begins failure at to entry rows may = record { kept = kept; life = go entry refl }
    where
      kept : IsKeptPacket parts (entering at to entry)
      kept = entering_kept at to entry may

      on_color : (color : Color) → mode_of entry ≡ modes.Entered color → Life parts failure (entering at to entry) 0
      on_color color mode =
          let n = inside_is (node_at parts at) (kept.place_inside (λ primary. cc)) in
          let d = inside_is (node_at parts to) (kept.to_inside (λ primary. cc)) in
          let left = whole_way color (entering at to entry) n.0 d.0 rows kept (kept.apart refl) n.1 d.1 in
          let short = whole_short color (entering at to entry) left in
          OnEntered color mode refl left (omega (arith, short))

      go : (e : Entry) → entry ≡ e → Life parts failure (entering at to entry) 0
      go entries.Blue is = on_color Blue (ap mode_of is)
      go entries.Red is = on_color Red (ap mode_of is)
      go entries.Repair is =
          OnPrimary [] (ap mode_of is) refl (λ has. elim has [ inl same ↦ kept.apart refl same | inr none ↦ absurd none ], (λ has. absurd has, tt)) (λ v has. absurd has) refl (λ v has. absurd has)
