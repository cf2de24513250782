-- Destinations, gathered event by event.
use Rattle.std.proofs.Common.{◌≡◌, ◌≢◌, ◌<◌, ◌+◌, ◌++◌, ◌∙◌, ℕ, zero, suc, Bool, true, false, List, [], ◌∷◌, Option, Some, get_or, length, set, slice_get, take, inl, inr, subst, sym, arith}
use Rattle.std.specs.Prelude.{◌⊎◌, ◌↔◌, Contains, replicate}
use Rattle.std.proofs.lemmas.Bool.{cases_eq}
use Rattle.std.proofs.lemmas.List.{take_more}
use Rattle.std.proofs.lemmas.List.Elements.{Contains-append_left, Contains-get_or, Contains-push, Contains-push_cases}
use Rattle.std.proofs.lemmas.List.Quantifiers.{all_pairs_push}
use Rattle.std.proofs.lemmas.Option.{same_Some, slice_get_within}
use Rattle.area_graph.specs.Parts.{AreaParts}
use Rattle.fabric.specs.Destinations.{AreDestinations, EntersFor, IsDestination}
use Rattle.fabric_script.specs.declared.event.ScriptEvent.{ScriptEvent}
use Rattle.fabric_script.specs.declared.event.ScriptEvent.TheVariants.{Fail, Inject, Step}
use Rattle.mrt_graph.proofs.ListPlaces.{set_elsewhere, set_there}
use Rattle.mrt_graph.proofs.Members.{contains_none}

-- the destinations of the events so far, and marks at these alone
pub record AreGathered (area : AreaParts) (events : List ScriptEvent) (spots : List ℕ) (known : List Bool) : Type 0 where
  pub are : AreDestinations area events spots
  pub marked : (t : ℕ) → slice_get known t ≡ Some true ↔ Contains spots t

no_mark : (n t : ℕ) → slice_get (replicate n false) t ≡ Some true → ⊥
no_mark zero t is = cc
no_mark (suc n) zero is = cc
no_mark (suc n) (suc t) is = no_mark n t is

-- before the first event
pub none_gathered : (area : AreaParts) (n : ℕ) → AreGathered area [] [] (replicate n false)
none_gathered area n = record {
  are = record {
    all = λ t. (λ among. absurd (contains_none t among), λ is. absurd (contains_none is.event is.among));
    once = λ i j d lt within. absurd (omega (arith, within));
  };
  marked = λ t. (λ mark. absurd (no_mark n t mark), λ among. absurd (contains_none t among));
}

-- a destination is a node of the area
enters_within : (area : AreaParts) (t : ℕ) (event : ScriptEvent) → EntersFor area t event → t < length area.ids
enters_within area t (Inject number to entry) enters = slice_get_within area.ids t to enters
enters_within area t (Step packet) enters = absurd enters
enters_within area t (Fail failed) enters = absurd enters

pub destination_within : (area : AreaParts) (events : List ScriptEvent) (t : ℕ) → IsDestination area events t → t < length area.ids
destination_within area events t is = enters_within area t is.event is.enters

-- an event more, by which a packet enters for this node, if it does
module _ (area : AreaParts) (events : List ScriptEvent) (d : ScriptEvent) (i : ℕ) (inside : i < length events) (spots : List ℕ) (known : List Bool)
    (so_far : AreGathered area (take i events) spots known) (found : Option ℕ) (here : (t : ℕ) → (found ≡ Some t) ↔ EntersFor area t (get_or events i d)) where
  still : (t : ℕ) → IsDestination area (take i events) t → IsDestination area (take (i + 1) events) t
  still t is = record {
    event = is.event;
    among = rw (take_more events i d inside) (Contains-append_left (take i events) (get_or events i d ∷ []) is.event is.among);
    enters = is.enters;
  }

  one_more : (t : ℕ) → found ≡ Some t → IsDestination area (take (i + 1) events) t
  one_more t is = record {
    event = get_or events i d;
    among = rw (take_more events i d inside) (Contains-push (take i events) (get_or events i d));
    enters = (here t).0 is;
  }

  before_or_here : (t : ℕ) → IsDestination area (take (i + 1) events) t → IsDestination area (take i events) t ⊎ (found ≡ Some t)
  before_or_here t is =
      let among : Contains (take i events ++ get_or events i d ∷ []) is.event =
      subst (λ (xs : List ScriptEvent). Contains xs is.event) (take_more events i d inside) is.among in
      elim (Contains-push_cases (take i events) (get_or events i d) is.event among) [
        | inl before ↦ inl (record { event = is.event; among = before; enters = is.enters })
        | inr last ↦ inr ((here t).1 (subst (λ (event : ScriptEvent). EntersFor area t event) (sym last) is.enters))
      ]

  -- it is for none, or for one that is known
  pub known_more : ((t : ℕ) → found ≡ Some t → Contains spots t) → AreGathered area (take (i + 1) events) spots known
  known_more there = record {
    are = record {
      all = λ t. (
        λ among. still t ((so_far.are.all t).0 among),
        λ is. elim (before_or_here t is) [
          | inl before ↦ (so_far.are.all t).1 before
          | inr now ↦ there t now
        ],
      );
      once = so_far.are.once;
    };
    marked = so_far.marked;
  }

  -- it is for a new one
  pub new_more : (t place : ℕ) (now : List ℕ) → found ≡ Some t → slice_get known place ≡ Some false → place ≡ t → now ≡ spots ++ t ∷ []
      → AreGathered area (take (i + 1) events) now (set known place true)
  new_more t place now is_found unknown at is_now = rw (at, is_now) (record {
    are = record {
      all = λ u. (
        λ among. elim (Contains-push_cases spots t u among) [
          | inl before ↦ still u ((so_far.are.all u).0 before)
          | inr last ↦ subst (λ (y : ℕ). IsDestination area (take (i + 1) events) y) last (one_more t is_found)
        ],
        λ is. elim (before_or_here u is) [
          | inl before ↦ Contains-append_left spots (t ∷ []) u ((so_far.are.all u).1 before)
          | inr now ↦ last_there u (same_Some t u (sym is_found ∙ now))
        ],
      );
      once = all_pairs_push (λ earlier later. earlier ≢ later) spots t so_far.are.once
          (λ k d less same. absent (subst (λ (y : ℕ). Contains spots y) same (Contains-get_or spots k d less)));
    };
    marked = λ u. (
      λ mark. elim (cases_eq u t) [
        | inl same ↦ last_there u (sym same)
        | inr other ↦ Contains-append_left spots (t ∷ []) u ((so_far.marked u).0 (sym (set_elsewhere known t u true other) ∙ mark))
      ],
      λ among. elim (Contains-push_cases spots t u among) [
        | inr last ↦ mark_there u last
        | inl before ↦ set_elsewhere known t u true (λ same. absent (subst (λ (y : ℕ). Contains spots y) same before)) ∙ (so_far.marked u).1 before
      ],
    );
  })
    where
      there : slice_get known t ≡ Some false
      there = subst (λ (k : ℕ). slice_get known k ≡ Some false) at unknown

      absent : Contains spots t → ⊥
      absent among = let marked = (so_far.marked t).1 among in let both : Some true ≡ Some false = sym marked ∙ there in cc

      last_there : (u : ℕ) → t ≡ u → Contains (spots ++ t ∷ []) u
      last_there u same = subst (λ (y : ℕ). Contains (spots ++ t ∷ []) y) same (Contains-push spots t)

      mark_there : (u : ℕ) → t ≡ u → slice_get (set known t true) u ≡ Some true
      mark_there u same =
          subst (λ (y : ℕ). slice_get (set known t true) y ≡ Some true) same (set_there known t true (slice_get_within known t false there))
