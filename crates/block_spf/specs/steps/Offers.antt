-- Offers of paths to nodes.
use Rattle.std.specs.Prelude.{◌≡◌, ◌≢◌, ◌<◌, ◌+◌, ◌*◌, ℕ, Bool, false, List, length, nat_lt}
use Rattle.mrt_graph.specs.declared.cert.Role.TheVariants.{Sole}
use Rattle.mrt_graph.specs.declared.gadag.Way.{Way}
use Rattle.mrt_graph.specs.declared.gadag.Way.TheVariants.{AToB, BToA, Unset}
use Rattle.mrt_graph.specs.declared.link.End.{End}
use Rattle.link_direction.specs.Directions.{Directions}
use Rattle.block_spf.specs.declared.fan.Opening.{Opening}
use Rattle.block_spf.specs.declared.reach.Dir.{Dir}
use Rattle.block_spf.specs.declared.reach.Dir.TheVariants.{Down, Up}
use Rattle.block_spf.specs.HasDirections.{AreDirections}
use Rattle.block_spf.specs.steps.Known.{AreOffered, IsOne, IsOver, Known, OfAny, known}
use Rattle.block_spf.specs.Path.{IsStep}

-- at its node x, a link to node `to` with this direction leads on
abbrev pub goes_on : Dir → Way → ℕ → ℕ → Bool
goes_on Up AToB x to = nat_lt x to
goes_on Up BToA x to = nat_lt to x
goes_on Down AToB x to = nat_lt to x
goes_on Down BToA x to = nat_lt x to
goes_on dir Unset x to = false

-- the end of source s at this place, which leads on and not over a sole link, offers a path to the node that it leads to, in
-- lane j of so many
pub record IsFirstOffer (opening : Opening) (w : Directions) (s width j place i : ℕ) (offer : Known) : Type 0 where
  pub below : j < width
  pub end : End
  pub step : IsStep opening.graph.now w opening.dir (w.lies_in end.link) s end
  pub here : step.place ≡ place
  pub not_sole : w.role end.link ≢ Sole
  pub one : IsOne (end.to * width + j) (known end.metric place) i offer

-- the end of node x at this place, which leads on in its block, offers paths to the node that it leads to, where these are
-- known to x
pub record IsFurtherOffer (opening : Opening) (w : Directions) (x : ℕ) (costs places : List ℕ) (place i : ℕ) (offer : Known) : Type 0 where
  pub end : End
  pub step : IsStep opening.graph.now w opening.dir (w.block x) x end
  pub here : step.place ≡ place
  pub over : IsOver costs places end.metric (end.to * length costs) i offer

-- by whatever directions the lists say, a source has offered the nodes to which its ends lead on, in lane j of so many
abbrev pub OffersFirst : Opening → ℕ → ℕ → ℕ → (ℕ → Known) → (ℕ → Known) → Type 0
OffersFirst opening s width j before after =
    (root : ℕ) (w : Directions) → AreDirections opening.graph.now opening.directed.now root w → AreOffered (OfAny (IsFirstOffer opening w s width j)) before after

-- and node x, what is known of it, those to which its ends lead on in its block
abbrev pub OffersFurther : Opening → ℕ → List ℕ → List ℕ → (ℕ → Known) → (ℕ → Known) → Type 0
OffersFurther opening x costs places before after =
    (root : ℕ) (w : Directions) → AreDirections opening.graph.now opening.directed.now root w → AreOffered (OfAny (IsFurtherOffer opening w x costs places)) before after

-- a path from source s that comes to node x goes on: x is not the source, and not the head of the source's block
pub record PassesOn (w : Directions) (s x : ℕ) : Type 0 where
  pub not_source : x ≢ s
  pub not_head : x ≢ w.head s
