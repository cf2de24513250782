-- What holds of a packet on its way, whatever happens to it.
use Rattle.std.proofs.Common.{◌≡◌, ◌≢◌, ◌⊎◌, ◌<◌, ◌≤◌, ◌+◌, ◌*◌, ◌-◌, ◌∙◌, ℕ, List, [], ◌∷◌, Option, Some, None, length, inl, inr, refl, ap, subst, arith}
use Rattle.std.specs.Prelude.{IsSome}
use Rattle.std.specs.Option.{option_map}
use Rattle.fabric.specs.FabricParts.{ArePartsKept, FabricParts, element_of, node_at}
use Rattle.fabric.specs.Causes.{IsCut}
use Rattle.fabric.specs.steps.KeptState.{IsKeptPacket}
use Rattle.fabric.specs.PacketHop.{IsColorHop, IsHop}
use Rattle.fabric.specs.declared.event.Failure.{Failure}
use Rattle.fabric.specs.declared.next_hop.NextHop.{NextHop}
use Rattle.fabric.specs.declared.packet.Loss.{Loss}
use Rattle.fabric.specs.declared.packet.Loss.TheVariants.{ColorCut, Inside, IsDestination, NoAlternate, NoRoute, Outside}
use Rattle.fabric.specs.declared.packet.Mode.{Mode}
use Rattle.fabric.specs.declared.packet.Mode.TheVariants as modes
use Rattle.fabric.specs.declared.packet.Packet.{Packet}
use Rattle.fabric.specs.declared.packet.State.TheVariants as states
use Rattle.fabric.proofs.ColorHops.{Onward, on_ahead, onward}
use Rattle.fabric.proofs.ColorWays.{next_on}
use Rattle.fabric.proofs.Islands.{one_spot}
use Rattle.fabric.proofs.Outcomes.{Why}
use Rattle.mrt_graph.specs.declared.cert.Color.{Color}
use Rattle.mrt_graph.specs.declared.link.Element.{Element}
use Rattle.mrt_graph.specs.declared.link.Element.TheVariants as elements
use Rattle.mrt_graph.specs.Hop.{Hop}
use Rattle.mrt_graph.proofs.Arrival.{at_most}
use Rattle.mrt_graph.proofs.Members.{Has}
use Rattle.mrt_graph.proofs.Trails.{Differ, Follows, On, nodes_on}
use Rattle.primary_alt.specs.Distance.{IsDistance}

-- what is left of a packet's way on a color
pub record IsLeft (parts : FabricParts) (color : Color) (q : Packet) : Type 0 where
  pub n : ℕ
  pub d : ℕ
  pub at : node_at parts q.place ≡ Some n
  pub to : node_at parts q.to ≡ Some d
  pub hops : List Hop
  pub follows : Follows (next_on parts color d) d n hops
  pub differ : Differ (nodes_on n hops)

-- there is a failure, and it is no element of what is left
pub record Avoids (parts : FabricParts) (failure : Option Failure) (n : ℕ) (hops : List Hop) : Type 0 where
  pub failed : failure ≢ None
  pub not_on : (x : Element) → element_of parts failure ≡ Some x → On n hops x → ⊥

-- one node is farther from t than another
pub record IsFarther (parts : FabricParts) (t v x : ℕ) : Type 0 where
  pub far : ℕ
  pub far_is : IsDistance parts.area.arcs v t far
  pub near : ℕ
  pub near_is : IsDistance parts.area.arcs x t near
  pub falls : near < far

-- twice as many steps as there are other nodes
abbrev pub most : FabricParts → ℕ
most parts = 2 * (length parts.area.ids - 1)

-- a packet after so many steps
pub data Life (parts : FabricParts) (failure : Option Failure) (q : Packet) (steps : ℕ) : Type 0 where
  HasEnded : q.state ≢ states.Going → steps ≤ most parts
      → ((color : Color) (loss : Loss) → q.mode ≡ modes.Switched color → q.state ≡ states.Lost loss → ⊥) → Life parts failure q steps
  OnPrimary : (visited : List ℕ) → q.mode ≡ modes.Primary → q.state ≡ states.Going → Differ (q.to ∷ q.place ∷ visited)
      → ((v : ℕ) → Has visited v → v < length parts.area.ids) → length visited ≡ steps
      → ((v : ℕ) → Has visited v → IsFarther parts q.to v q.place) → Life parts failure q steps
  OnEntered : (color : Color) → q.mode ≡ modes.Entered color → q.state ≡ states.Going → (left : IsLeft parts color q)
      → steps + length left.hops ≤ length parts.area.ids - 1 → Life parts failure q steps
  OnSwitched : (color : Color) → q.mode ≡ modes.Switched color → q.state ≡ states.Going → (left : IsLeft parts color q)
      → steps + length left.hops ≤ most parts → Avoids parts failure left.n left.hops → Life parts failure q steps

pub record Lives (parts : FabricParts) (failure : Option Failure) (q : Packet) (steps : ℕ) : Type 0 where
  pub kept : IsKeptPacket parts q
  pub life : Life parts failure q steps

-- a failure that comes
pub life_fails : (parts : FabricParts) (failed : Failure) (q : Packet) (steps : ℕ) → Lives parts None q steps → Lives parts (Some failed) q steps
life_fails parts failed q steps lives = record { kept = lives.kept; life = go lives.life }
  where
    go : Life parts None q steps → Life parts (Some failed) q steps
    go (HasEnded ended few never) = HasEnded ended few never
    go (OnPrimary visited mode going differ below count farther) = OnPrimary visited mode going differ below count farther
    go (OnEntered color mode going left few) = OnEntered color mode going left few
    go (OnSwitched color mode going left few avoids) = absurd (avoids.failed refl)

-- the hop of a packet on a color
pub color_hop_of : (parts : FabricParts) (color : Color) (mode : Mode) (x t : ℕ) (hop : NextHop) → (mode ≡ modes.Entered color) ⊎ (mode ≡ modes.Switched color)
    → IsHop parts mode x t hop → IsColorHop parts color x t hop
color_hop_of parts color mode x t hop (inl same) is = subst (λ (m : Mode). IsHop parts m x t hop) same is
color_hop_of parts color mode x t hop (inr same) is = subst (λ (m : Mode). IsHop parts m x t hop) same is

-- the island node of a place that is in the island
pub inside_is : (o : Option ℕ) → IsSome o → (n : ℕ) × (o ≡ Some n)
inside_is None some = cc
inside_is (Some n) some = (n, refl)

module _ (parts : FabricParts) (are : ArePartsKept parts) where
  -- two nodes that differ
  two : (q : Packet) → IsKeptPacket parts q → q.state ≡ states.Going → 2 ≤ length parts.area.ids
  two q kept going =
      let apart = kept.apart going in
      let place = kept.place in
      let to = kept.to in
      omega (arith, apart, place, to)

  some_left : (color : Color) (q : Packet) → IsKeptPacket parts q → q.state ≡ states.Going → (left : IsLeft parts color q) → 1 ≤ length left.hops
  some_left color q kept going left = go left.hops left.follows
    where
      go : (hops : List Hop) → Follows (next_on parts color left.d) left.d left.n hops → 1 ≤ length hops
      go [] f = absurd (kept.apart going (one_spot parts are q.place q.to left.d (left.at ∙ ap (λ (y : ℕ). Some y) f) left.to))
      go (h ∷ hops) f = omega arith

  pub visited_few : (q : Packet) (visited : List ℕ) → IsKeptPacket parts q → Differ (q.to ∷ q.place ∷ visited)
      → ((v : ℕ) → Has visited v → v < length parts.area.ids) → length visited + 2 ≤ length parts.area.ids
  visited_few q visited kept differ below =
      let few : length (q.to ∷ q.place ∷ visited) ≤ length parts.area.ids =
      at_most (length parts.area.ids) (q.to ∷ q.place ∷ visited) differ
      (λ v has. elim has [
        | inl same ↦ subst (λ (y : ℕ). y < length parts.area.ids) same kept.to
        | inr later ↦ elim later [ inl same ↦ subst (λ (y : ℕ). y < length parts.area.ids) same kept.place | inr visited ↦ below v visited ]
      ]) in
      omega (arith, few)

  -- a packet that is going has steps left
  pub life_below : (failure : Option Failure) (q : Packet) (steps : ℕ) → Lives parts failure q steps → q.state ≡ states.Going → steps < most parts
  life_below failure q steps lives going = go lives.life
    where
      go : Life parts failure q steps → steps < most parts
      go (HasEnded ended few never) = absurd (ended going)
      go (OnPrimary visited mode going' differ below count farther) =
          let few = visited_few q visited lives.kept differ below in omega (arith, few, count)
      go (OnEntered color mode going' left few) =
          let some = some_left color q lives.kept going left in
          let two = two q lives.kept going in
          omega (arith, few, some, two)
      go (OnSwitched color mode going' left few avoids) =
          let some = some_left color q lives.kept going left in omega (arith, few, some)

  pub life_most : (failure : Option Failure) (q : Packet) (steps : ℕ) → Lives parts failure q steps → steps ≤ most parts
  life_most failure q steps lives = go lives.life
    where
      go : Life parts failure q steps → steps ≤ most parts
      go (HasEnded ended few never) = few
      go (OnPrimary visited mode going differ below count farther) =
          let less = life_below failure q steps lives going in omega (arith, less)
      go (OnEntered color mode going left few) = let less = life_below failure q steps lives going in omega (arith, less)
      go (OnSwitched color mode going left few avoids) = let less = life_below failure q steps lives going in omega (arith, less)

  -- the rest of a way
  pub step_on : (color : Color) (q : Packet) → IsKeptPacket parts q → q.state ≡ states.Going → (left : IsLeft parts color q) (hop : NextHop)
      → IsColorHop parts color q.place q.to hop → Onward parts color q.to hop left.d left.hops
  step_on color q kept going left hop is =
      onward parts are color q.place q.to left.n left.d hop left.hops left.at left.to (kept.apart going) left.follows is

  abbrev pub left_after : (color : Color) (q : Packet) (left : IsLeft parts color q) (hop : NextHop) (on : Onward parts color q.to hop left.d left.hops)
      → IsLeft parts color (record q { place = hop.next })
  left_after color q left hop on = record { n = on.m; d = left.d; at = on.at; to = left.to; hops = on.rest; follows = on.follows; differ = on.differ left.n left.differ }

  pub avoids_after : (color : Color) (failure : Option Failure) (q : Packet) (left : IsLeft parts color q) (hop : NextHop) (on : Onward parts color q.to hop left.d left.hops)
      → Avoids parts failure left.n left.hops → Avoids parts failure on.m on.rest
  avoids_after color failure q left hop on avoids = record { failed = avoids.failed; not_on = go }
    where
      go : (x : Element) → element_of parts failure ≡ Some x → On on.m on.rest x → ⊥
      go (elements.Link e) is has = avoids.not_on (elements.Link e) is (on.links e has)
      go (elements.Node y) is has = avoids.not_on (elements.Node y) is (inr (on.nodes y has))

  -- what is switched is not lost
  pub switched_stays : (color : Color) (failure : Option Failure) (q : Packet) (left : IsLeft parts color q) → IsKeptPacket parts q → q.state ≡ states.Going
      → q.mode ≡ modes.Switched color → Avoids parts failure left.n left.hops → (loss : Loss) → Why parts failure q loss → ⊥
  switched_stays color failure q left kept going mode avoids = go
    where
      cut : IsCut parts failure q → ⊥
      cut at =
          let ahead = (step_on color q kept going left at.hop (color_hop_of parts color q.mode q.place q.to at.hop (inr mode) at.is)).ahead failure at.cut in
          avoids.not_on ahead.x ahead.is (on_ahead left.n left.hops ahead.x ahead.ahead)

      go : (loss : Loss) → Why parts failure q loss → ⊥
      go Inside is =
          avoids.not_on (elements.Node left.n) (ap (element_of parts) is ∙ ap (λ (o : Option ℕ). option_map (λ n. elements.Node n) o) left.at) (inl refl)
      go NoRoute why = let primary = why.0 in cc
      go IsDestination why = cut why.0
      go ColorCut why = cut why.1.0
      go Outside why = let primary = why.0 in cc
      go NoAlternate why = let primary = why.0 in cc

  -- a packet that is lost, or delivered
  pub ended_kept : (q : Packet) → IsKeptPacket parts q → (loss : Loss) → IsKeptPacket parts (record q { state = states.Lost loss })
  ended_kept q kept loss = record { place = kept.place; to = kept.to; place_inside = kept.place_inside; to_inside = kept.to_inside; router = λ going. cc; apart = λ going. cc }

  pub lost_life : (failure : Option Failure) (q : Packet) (steps : ℕ) (loss : Loss) → Lives parts failure q steps → q.state ≡ states.Going → Why parts failure q loss
      → Lives parts failure (record q { state = states.Lost loss }) (steps + 1)
  lost_life failure q steps loss lives going why = record {
    kept = ended_kept q lives.kept loss;
    life = HasEnded (λ state. cc) (let less = life_below failure q steps lives going in omega (arith, less)) (λ color loss' switched lost. never lives.life color switched);
  }
    where
      never : Life parts failure q steps → (color : Color) → q.mode ≡ modes.Switched color → ⊥
      never (HasEnded ended few n) color switched = absurd (ended going)
      never (OnPrimary visited mode going' differ below count farther) color switched = cc
      never (OnEntered c mode going' left few) color switched = cc
      never (OnSwitched c mode going' left few avoids) color switched =
          switched_stays c failure q left lives.kept going mode avoids loss why
