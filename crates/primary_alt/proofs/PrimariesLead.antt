-- Where primaries lead.
use Rattle.std.proofs.Common.{◌≡◌, ◌≢◌, ◌<◌, ◌≤◌, ◌+◌, ◌∙◌, ◌⊎◌, ◌↔◌, ℕ, List, Option, Some, None, slice_get, inl, inr, refl, sym, ap, subst, arith}
use Rattle.std.specs.Prelude.{IsSome}
use Rattle.std.proofs.lemmas.Bool.{cases_eq}
use Rattle.std.proofs.lemmas.Option.{same_Some}
use Rattle.area_graph.specs.declared.area_types.Arc.{Arc}
use Rattle.area_graph.specs.AreaInvariant.{IsArea}
use Rattle.area_graph.specs.Parts.{AreaParts}
use Rattle.mrt_graph.specs.GraphInvariant.{IsNetwork}
use Rattle.primary_alt.specs.declared.shortest.Primary.{Primary}
use Rattle.primary_alt.specs.ArcWalk.{ArcWalk}
use Rattle.primary_alt.specs.Distance.{IsDistance}
use Rattle.primary_alt.specs.Primaries.{Direct, IsFirstArc, IsPrimary, Itself, LeadsOver, NoWalk, Over}
use Rattle.primary_alt.proofs.ArcWalks.{arc_kept, one_distance, to_network}

-- there is one first arc
pub same_number : (arcs : List Arc) (s t n n' : ℕ) (arc arc' : Arc) → IsFirstArc arcs s t n arc → IsFirstArc arcs s t n' arc' → n ≡ n'
same_number arcs s t n n' arc arc' one other =
    let up : n ≤ n' = one.first n' arc' other.there other.from other.shortest in
    let down : n' ≤ n = other.first n arc one.there one.from one.shortest in
    omega (arith, up, down)

same_arc : (arcs : List Arc) (s t n n' : ℕ) (arc arc' : Arc) → IsFirstArc arcs s t n arc → IsFirstArc arcs s t n' arc' → arc ≡ arc'
same_arc arcs s t n n' arc arc' one other =
    same_Some arc arc' (sym one.there ∙ ap (λ (k : ℕ). slice_get arcs k) (same_number arcs s t n n' arc arc' one other) ∙ other.there)

-- a first arc begins a walk
no_arc : (arcs : List Arc) (s t n : ℕ) (arc : Arc) → ((walk : List Arc) → ¬ ArcWalk arcs s walk t) → IsFirstArc arcs s t n arc → ⊥
no_arc arcs s t n arc none first =
    none first.shortest.near.walk (subst (λ (v : ℕ). ArcWalk arcs v first.shortest.near.walk t) first.from first.shortest.near.leads)

-- a primary of these parts
abbrev made : ℕ → Option ℕ → ℕ → Option Primary
made first second next = Some (record { first = first; second = second; next = next })

-- by the other entry
from_direct : (area : AreaParts) (s t n : ℕ) (arc : Arc) (other : Option Primary) → s ≢ t → IsFirstArc area.arcs s t n arc → ¬ LeadsOver area t arc
    → IsPrimary area s t other → made n None arc.to ≡ other
from_direct area s t n arc other apart first direct (Itself same) = absurd (apart same)
from_direct area s t n arc other apart first direct (NoWalk none) = absurd (no_arc area.arcs s t n arc none first)
from_direct area s t n arc other apart first direct (Direct n' arc' apart' first' direct') =
    ap (λ (k : ℕ). made k None arc.to) (same_number area.arcs s t n n' arc arc' first first')
    ∙ ap (λ (a : Arc). made n' None a.to) (same_arc area.arcs s t n n' arc arc' first first')
from_direct area s t n arc other apart first direct (Over n' k' arc' onward' apart' first' over' second') =
    absurd (direct (subst (λ (a : Arc). LeadsOver area t a) (sym (same_arc area.arcs s t n n' arc arc' first first')) over'))

from_over : (area : AreaParts) (s t n k : ℕ) (arc onward : Arc) (other : Option Primary) → s ≢ t → IsFirstArc area.arcs s t n arc → LeadsOver area t arc
    → IsFirstArc area.arcs arc.to t k onward → IsPrimary area s t other → made n (Some k) onward.to ≡ other
from_over area s t n k arc onward other apart first over second (Itself same) = absurd (apart same)
from_over area s t n k arc onward other apart first over second (NoWalk none) = absurd (no_arc area.arcs s t n arc none first)
from_over area s t n k arc onward other apart first over second (Direct n' arc' apart' first' direct') =
    absurd (direct' (subst (λ (a : Arc). LeadsOver area t a) (same_arc area.arcs s t n n' arc arc' first first') over))
from_over area s t n k arc onward other apart first over second (Over n' k' arc' onward' apart' first' over' second') =
    let second'' : IsFirstArc area.arcs arc.to t k' onward' =
    subst (λ (a : Arc). IsFirstArc area.arcs a.to t k' onward') (sym (same_arc area.arcs s t n n' arc arc' first first')) second' in
    ap (λ (x : ℕ). made x (Some k) onward.to) (same_number area.arcs s t n n' arc arc' first first')
    ∙ ap (λ (x : ℕ). made n' (Some x) onward.to) (same_number area.arcs arc.to t k k' onward onward' second second'')
    ∙ ap (λ (a : Arc). made n' (Some k') a.to) (same_arc area.arcs arc.to t k k' onward onward' second second'')

from_none : (area : AreaParts) (s t : ℕ) (other : Option Primary) → ((s ≡ t) ⊎ ((walk : List Arc) → ¬ ArcWalk area.arcs s walk t)) → IsPrimary area s t other → None ≡ other
from_none area s t other why (Itself same) = refl
from_none area s t other why (NoWalk none) = refl
from_none area s t other why (Direct n arc apart first direct) = absurd (elim why [ inl same ↦ apart same | inr none ↦ no_arc area.arcs s t n arc none first ])
from_none area s t other why (Over n k arc onward apart first over second) =
    absurd (elim why [ inl same ↦ apart same | inr none ↦ no_arc area.arcs s t n arc none first ])

pub one_entry : (area : AreaParts) (s t : ℕ) (entry other : Option Primary) → IsPrimary area s t entry → IsPrimary area s t other → entry ≡ other
one_entry area s t entry other (Itself same) is = from_none area s t other (inl same) is
one_entry area s t entry other (NoWalk none) is = from_none area s t other (inr none) is
one_entry area s t entry other (Direct n arc apart first direct) is = from_direct area s t n arc other apart first direct is
one_entry area s t entry other (Over n k arc onward apart first over second) is = from_over area s t n k arc onward other apart first over second is

-- where there is one a walk leads
first_walk : (arcs : List Arc) (s t n : ℕ) (arc : Arc) → IsFirstArc arcs s t n arc → (walk : List Arc) × ArcWalk arcs s walk t
first_walk arcs s t n arc first =
    (first.shortest.near.walk, subst (λ (v : ℕ). ArcWalk arcs v first.shortest.near.walk t) first.from first.shortest.near.leads)

walk_there : (area : AreaParts) (s t : ℕ) (entry : Option Primary) → IsPrimary area s t entry → IsSome entry
    → (s ≢ t) × ((walk : List Arc) × ArcWalk area.arcs s walk t)
walk_there area s t entry (Itself same) some = cc
walk_there area s t entry (NoWalk none) some = cc
walk_there area s t entry (Direct n arc apart first direct) some = (apart, first_walk area.arcs s t n arc first)
walk_there area s t entry (Over n k arc onward apart first over second) some = (apart, first_walk area.arcs s t n arc first)

-- where a walk leads there is one
pub entry_there : (area : AreaParts) (s t : ℕ) (entry : Option Primary) (walk : List Arc) → IsPrimary area s t entry → s ≢ t → ArcWalk area.arcs s walk t → IsSome entry
entry_there area s t entry walk (Itself same) apart w = absurd (apart same)
entry_there area s t entry walk (NoWalk none) apart w = absurd (none walk w)
entry_there area s t entry walk (Direct n arc apart' first direct) apart w = refl
entry_there area s t entry walk (Over n k arc onward apart' first over second) apart w = refl

-- exactly there
pub entry_exactly : (area : AreaParts) (s t : ℕ) (entry : Option Primary) → IsPrimary area s t entry
    → IsSome entry ↔ ((s ≢ t) × ((walk : List Arc) × ArcWalk area.arcs s walk t))
entry_exactly area s t entry is = (walk_there area s t entry is, λ there. entry_there area s t entry there.1.0 is there.0 there.1.1)

-- it leads to t or to a router
data Whole (area : AreaParts) (s t : ℕ) (primary : Primary) : Type 0 where
  ByOne : (n : ℕ) (arc : Arc) → IsFirstArc area.arcs s t n arc → ¬ LeadsOver area t arc → primary.next ≡ arc.to → Whole area s t primary
  ByTwo : (n k : ℕ) (arc onward : Arc) → IsFirstArc area.arcs s t n arc → LeadsOver area t arc → IsFirstArc area.arcs arc.to t k onward → primary.next ≡ onward.to
      → Whole area s t primary

whole : (area : AreaParts) (s t : ℕ) (primary : Primary) (entry : Option Primary) → entry ≡ Some primary → IsPrimary area s t entry → Whole area s t primary
whole area s t primary entry is (Itself same) = cc
whole area s t primary entry is (NoWalk none) = cc
whole area s t primary entry is (Direct n arc apart first direct) = ByOne n arc first direct (ap (λ (p : Primary). p.next) (sym (same_Some _ primary is)))
whole area s t primary entry is (Over n k arc onward apart first over second) =
    ByTwo n k arc onward first over second (ap (λ (p : Primary). p.next) (sym (same_Some _ primary is)))

leads_to_router : (area : AreaParts) (s t : ℕ) (primary : Primary) → IsArea area → Whole area s t primary → (primary.next ≡ t) ⊎ (¬ IsNetwork area.ids primary.next)
leads_to_router area s t primary kept (ByOne n arc first direct next) = elim (cases_eq arc.to t) [
  | inl here ↦ inl (next ∙ here)
  | inr apart ↦ inr (λ network. direct (record { network = subst (λ (v : ℕ). IsNetwork area.ids v) next network; other = apart }))
]
leads_to_router area s t primary kept (ByTwo n k arc onward first over second next) =
    inr (λ network.
    to_network area onward kept (arc_kept area k onward kept second.there) (subst (λ (v : ℕ). IsNetwork area.ids v) next network)
    (subst (λ (v : ℕ). IsNetwork area.ids v) (sym second.from) over.network))

pub router_or_end : (area : AreaParts) (s t : ℕ) (primary : Primary) → IsArea area → IsPrimary area s t (Some primary) → (primary.next ≡ t) ⊎ (¬ IsNetwork area.ids primary.next)
router_or_end area s t primary kept is = leads_to_router area s t primary kept (whole area s t primary (Some primary) refl is)

-- there is a distance
pub primary_distance : (area : AreaParts) (s t : ℕ) (primary : Primary) → IsPrimary area s t (Some primary) → (distance : ℕ) × IsDistance area.arcs s t distance
primary_distance area s t primary is = go (whole area s t primary (Some primary) refl is)
  where
    by_first : (n : ℕ) (arc : Arc) → IsFirstArc area.arcs s t n arc → (distance : ℕ) × IsDistance area.arcs s t distance
    by_first n arc first =
        (arc.metric + first.shortest.rest, subst (λ (v : ℕ). IsDistance area.arcs v t (arc.metric + first.shortest.rest)) first.from first.shortest.near)

    go : Whole area s t primary → (distance : ℕ) × IsDistance area.arcs s t distance
    go (ByOne n arc first direct next) = by_first n arc first
    go (ByTwo n k arc onward first over second next) = by_first n arc first

-- an arc of a router costs something
router_costs : (area : AreaParts) (s t n : ℕ) (arc : Arc) → IsArea area → ¬ IsNetwork area.ids s → IsFirstArc area.arcs s t n arc → 1 ≤ arc.metric
router_costs area s t n arc kept router first =
    (arc_kept area n arc kept first.there).of_router (λ network. router (subst (λ (v : ℕ). IsNetwork area.ids v) first.from network))

falls : (area : AreaParts) (s t distance : ℕ) (primary : Primary) → IsArea area → ¬ IsNetwork area.ids s → IsDistance area.arcs s t distance → Whole area s t primary
    → (rest : ℕ) × IsDistance area.arcs primary.next t rest × (rest < distance)
falls area s t distance primary kept router d (ByOne n arc first direct next) =
    let near : IsDistance area.arcs s t (arc.metric + first.shortest.rest) =
    subst (λ (v : ℕ). IsDistance area.arcs v t (arc.metric + first.shortest.rest)) first.from first.shortest.near in
    let same = one_distance area.arcs s t distance (arc.metric + first.shortest.rest) d near in (
      first.shortest.rest,
      subst (λ (v : ℕ). IsDistance area.arcs v t first.shortest.rest) (sym next) first.shortest.far,
      omega (arith, same, router_costs area s t n arc kept router first),
    )
falls area s t distance primary kept router d (ByTwo n k arc onward first over second next) =
    let near : IsDistance area.arcs s t (arc.metric + first.shortest.rest) =
    subst (λ (v : ℕ). IsDistance area.arcs v t (arc.metric + first.shortest.rest)) first.from first.shortest.near in
    let same = one_distance area.arcs s t distance (arc.metric + first.shortest.rest) d near in
    let near' : IsDistance area.arcs arc.to t (onward.metric + second.shortest.rest) =
    subst (λ (v : ℕ). IsDistance area.arcs v t (onward.metric + second.shortest.rest)) second.from second.shortest.near in
    let same' = one_distance area.arcs arc.to t first.shortest.rest (onward.metric + second.shortest.rest) first.shortest.far near' in (
      second.shortest.rest,
      subst (λ (v : ℕ). IsDistance area.arcs v t second.shortest.rest) (sym next) second.shortest.far,
      omega (arith, same, same', router_costs area s t n arc kept router first),
    )

pub nearer : (area : AreaParts) → IsArea area → (s t distance : ℕ) (primary : Primary) → ¬ IsNetwork area.ids s → IsPrimary area s t (Some primary)
    → IsDistance area.arcs s t distance → (rest : ℕ) × IsDistance area.arcs primary.next t rest × (rest < distance)
nearer area kept s t distance primary router is d = falls area s t distance primary kept router d (whole area s t primary (Some primary) refl is)
