-- The node that a counted link enters.
use Rattle.std.proofs.Common.{◌≡◌, ◌<◌, ◌∙◌, ℕ, List, Option, Some, None, length, slice_get, sym, subst, refl}
use Rattle.std.specs.Option.{option_and_then, option_map}
use Rattle.std.proofs.lemmas.Option.{same_Some, slice_get_within}
use Rattle.mrt_graph.specs.declared.cert.Role.{Role}
use Rattle.mrt_graph.specs.declared.cert.Role.TheVariants.{Plain, Sole, Closing}
use Rattle.mrt_graph.specs.declared.gadag.Mark.{Mark}
use Rattle.mrt_graph.specs.declared.gadag.Way.{Way}
use Rattle.mrt_graph.specs.declared.link.Link.{Link}
use Rattle.mrt_graph.specs.GraphInvariant.{IsTopology}
use Rattle.mrt_graph.specs.Leads.{far_node, leads}
use Rattle.mrt_graph.specs.Tails.{tail_of}
use Rattle.mrt_graph.specs.Topology.{Topology}
use Rattle.mrt_graph.proofs.Hops.{lead_back}
use Rattle.lowpoint_dfs.proofs.WholeTree.{leads_within}
use Rattle.gadag_ears.specs.Counted.{IsCounted}
use Rattle.link_direction.specs.steps.Counting.{entered_by, entered_with}

-- what a link, a direction and a role say of a counted link
record IsCountedAs (link : Link) (way : Way) (role : Role) (u v : ℕ) : Type 0 where
  away : tail_of link way ≡ Some u
  to : far_node u link ≡ Some v
  not_closing : role ≡ Closing → ⊥

by_tail : (link : Link) (way : Way) (role : Role) (v : ℕ) → (role ≡ Closing → ⊥) → (o : Option ℕ) → tail_of link way ≡ o
    → option_and_then (λ u. far_node u link) o ≡ Some v → (u : ℕ) × IsCountedAs link way role u v
by_tail link way role v other None tail is = absurd (cc)
by_tail link way role v other (Some u) tail is = (u, record { away = tail; to = is; not_closing = other })

counted_as : (link : Link) (way : Way) (role : Role) (v : ℕ) → entered_with link role (tail_of link way) ≡ Some v → (u : ℕ) × IsCountedAs link way role u v
counted_as link way Plain v is = by_tail link way Plain v (λ same. (cc)) (tail_of link way) refl is
counted_as link way Sole v is = by_tail link way Sole v (λ same. (cc)) (tail_of link way) refl is
counted_as link way Closing v is = absurd (cc)

as_counted : (link : Link) (way : Way) (role : Role) (u v : ℕ) → tail_of link way ≡ Some u → far_node u link ≡ Some v → (role ≡ Closing → ⊥)
    → entered_with link role (tail_of link way) ≡ Some v
as_counted link way Plain u v away to other = rw away to
as_counted link way Sole u v away to other = rw away to
as_counted link way Closing u v away to other = absurd (other refl)

-- a link that enters a node is counted
pub counted_into : (g : Topology) (marks : List Mark) (e v : ℕ) → entered_by g marks e ≡ Some v → (u : ℕ) × IsCounted g marks e u v
counted_into g marks e v is =
    let it = go (slice_get g.links e) (slice_get marks e) v is in
    (it.0, record { away = it.1.0; to = it.1.1; not_closing = it.1.2 })
  where
    go : (o : Option Link) (m : Option Mark) (v : ℕ)
        → option_and_then (λ link. option_and_then (λ mark. entered_with link mark.role (tail_of link mark.way)) m) o ≡ Some v
        → (u : ℕ) × ((option_and_then (λ link. option_and_then (tail_of link) (option_map (λ mark. mark.way) m)) o ≡ Some u)
        × (option_and_then (far_node u) o ≡ Some v) × (option_map (λ mark. mark.role) m ≡ Some Closing → ⊥))
    go None m v is = absurd (cc)
    go (Some link) None v is = absurd (cc)
    go (Some link) (Some mark) v is =
        let it = counted_as link mark.way mark.role v is in
        (it.0, (it.1.away, it.1.to, λ (same : Some mark.role ≡ Some Closing). it.1.not_closing (same_Some mark.role Closing same)))

-- a counted link enters its far node
pub enters_there : (g : Topology) (marks : List Mark) (e u v : ℕ) → IsCounted g marks e u v → entered_by g marks e ≡ Some v
enters_there g marks e u v counted = go (slice_get g.links e) (slice_get marks e) counted.away counted.to counted.not_closing
  where
    go : (o : Option Link) (m : Option Mark) → option_and_then (λ link. option_and_then (tail_of link) (option_map (λ mark. mark.way) m)) o ≡ Some u
        → option_and_then (far_node u) o ≡ Some v → (option_map (λ mark. mark.role) m ≡ Some Closing → ⊥)
        → option_and_then (λ link. option_and_then (λ mark. entered_with link mark.role (tail_of link mark.way)) m) o ≡ Some v
    go None m away to other = absurd (cc)
    go (Some link) None away to other = absurd (cc)
    go (Some link) (Some mark) away to other =
        as_counted link mark.way mark.role u v away to (λ same. other (sym (sym (same_some_of mark.role Closing same))))
      where
        same_some_of : (r s : Role) → r ≡ s → Some r ≡ Some s
        same_some_of r s same = cc

-- a counted link that leads from x to the node that it enters is counted from x
pub counted_from : (g : Topology) (marks : List Mark) (e x v : ℕ) → entered_by g marks e ≡ Some v → leads g.links e x ≡ Some v → IsCounted g marks e x v
counted_from g marks e x v enters leads_on =
    let it = counted_into g marks e v enters in
    let same : it.0 ≡ x = same_Some it.0 x (sym (lead_back g.links e it.0 v it.1.to) ∙ lead_back g.links e x v leads_on) in
    subst (λ (u : ℕ). IsCounted g marks e u v) same it.1

-- the two nodes of a counted link
pub one_tail : (g : Topology) (marks : List Mark) (e u v x y : ℕ) → IsCounted g marks e u v → IsCounted g marks e x y → u ≡ x
one_tail g marks e u v x y one two = same_Some u x (sym one.away ∙ two.away)

pub one_far_node : (g : Topology) (marks : List Mark) (e u v y : ℕ) → IsCounted g marks e u v → leads g.links e u ≡ Some y → v ≡ y
one_far_node g marks e u v y one two = same_Some v y (sym one.to ∙ two)

pub link_within : (g : Topology) (e u v : ℕ) → leads g.links e u ≡ Some v → e < length g.links
link_within g e u v leads_on = there_in (slice_get g.links e) refl leads_on
  where
    there_in : (o : Option Link) → slice_get g.links e ≡ o → option_and_then (far_node u) o ≡ Some v → e < length g.links
    there_in None at is = absurd (cc)
    there_in (Some link) at is = slice_get_within g.links e link at

-- a counted link enters a node of the graph
pub enters_within : (g : Topology) (marks : List Mark) (e v : ℕ) → IsTopology g → entered_by g marks e ≡ Some v → v < length g.ids
enters_within g marks e v kept enters = let it = counted_into g marks e v enters in (leads_within g e it.0 v kept it.1.to).1
