-- The nodes of an island are joined by its links.
use Rattle.std.proofs.Common.{◌≡◌, ◌⊎◌, ◌<◌, ◌++◌, ◌∙◌, ℕ, Bool, true, List, [], ◌∷◌, map, Some, inl, inr, sym, ap, subst, arith}
use Rattle.std.specs.Prelude.{◌&&◌, slice_get}
use Rattle.std.specs.List.{filter}
use Rattle.std.specs.Option.{option_and_then, option_map}
use Rattle.std.proofs.lemmas.Bool.{and_from}
use Rattle.std.proofs.lemmas.Option.{slice_get-map}
use Rattle.mrt_graph.specs.Connected.{IsConnected}
use Rattle.mrt_graph.specs.EndsOfLinks.{pair_of}
use Rattle.mrt_graph.specs.Leads.{far_node, leads}
use Rattle.mrt_graph.specs.Reachable.{Path, Reachable}
use Rattle.mrt_graph.specs.Search.{IsMarked}
use Rattle.mrt_graph.specs.Walk.{Walk}
use Rattle.mrt_graph.proofs.Settled.{path_joined, reachable_onward}
use Rattle.area_graph.specs.AreaInvariant.{IsArea, IsBond}
use Rattle.area_graph.specs.Parts.{AreaParts}
use Rattle.area_graph.specs.declared.area_types.Bond.{Bond}
use Rattle.mrt_island.specs.Policy.{Policy}
use Rattle.mrt_island.specs.Eligible.{is_eligible}
use Rattle.mrt_island.specs.Members.{IsInside, IsMember, Joins}
use Rattle.mrt_island.specs.Numbering.{flags_set, is_inside, is_link, link_by, links_of, number_inside}
use Rattle.mrt_graph.proofs.Filters.{kept_at}
use Rattle.mrt_graph.proofs.ListTests.{all_at}
use Rattle.mrt_island.proofs.Counting.{HasNumber, number_rises, numbered_at}
use Rattle.mrt_island.proofs.Pairing.{eligible_paired}
use Rattle.mrt_island.proofs.Telling.{far_cases, far_to_a, far_to_b}

-- what is reached by steps that lead both ways is reached back
path_back : (step : ℕ → ℕ → Type 0) → ((u v : ℕ) → step u v → step v u) → (path : List ℕ) (s t : ℕ) → Path step s path t → Reachable step t s
path_back step back [] s t p = ([], sym p)
path_back step back (v ∷ vs) s t p = reachable_onward step t v s (path_back step back vs v t p.1) (back s v p.0)

-- eligible pairs lead both ways
pub joins_back : (policy : Policy) (area : AreaParts) (u v : ℕ) → IsArea area → Joins policy area u v → Joins policy area v u
joins_back policy area u v kept joins =
    let bond : IsBond area.ids joins.bond = all_at (IsBond area.ids) area.bonds joins.number joins.bond kept.bonds_kept joins.there in
    record {
      number = joins.number;
      bond = joins.bond;
      there = joins.there;
      eligible = joins.eligible;
      leads = elim (far_cases u joins.bond.a joins.bond.b v joins.leads) [
        | inl out ↦ far_to_a v joins.bond.a joins.bond.b u bond.different out.1 out.0
        | inr home ↦ far_to_b v joins.bond.a joins.bond.b u home.1 home.0
      ];
    }

pub member_back : (policy : Policy) (area : AreaParts) (r s : ℕ) → IsArea area → IsMember policy area r s → IsMember policy area s r
member_back policy area r s kept member = path_back (Joins policy area) (λ u v joins. joins_back policy area u v kept joins) member.0 r s member.1

pub member_onward : (policy : Policy) (area : AreaParts) (r s t : ℕ) → IsMember policy area r s → IsMember policy area s t → IsMember policy area r t
member_onward policy area r s t first second = (first.0 ++ second.0, path_joined (Joins policy area) first.0 second.0 r s t first.1 second.1)

-- a link of the island leads where the pair does
far_numbers : (inside : List Bool) (bond : Bond) (u v : ℕ) → bond.a < bond.b → IsMarked inside bond.a → ((bond.a ≡ u) × (bond.b ≡ v)) ⊎ ((bond.b ≡ u) × (bond.a ≡ v))
    → far_node (number_inside inside u) (pair_of (link_by inside bond)) ≡ Some (number_inside inside v)
far_numbers inside bond u v up set (inl out) =
    far_to_b (number_inside inside u) (number_inside inside bond.a) (number_inside inside bond.b) (number_inside inside v) (ap (number_inside inside) out.0) (ap (number_inside inside) out.1)
far_numbers inside bond u v up set (inr home) =
    far_to_a (number_inside inside u) (number_inside inside bond.a) (number_inside inside bond.b) (number_inside inside v)
    (λ same. omega (arith, same, number_rises inside bond.a bond.b up set))
    (ap (number_inside inside) home.0) (ap (number_inside inside) home.1)

both_marked : (inside : List Bool) (bond : Bond) (u v : ℕ) → IsMarked inside u → IsMarked inside v → ((bond.a ≡ u) × (bond.b ≡ v)) ⊎ ((bond.b ≡ u) × (bond.a ≡ v))
    → IsMarked inside bond.a × IsMarked inside bond.b
both_marked inside bond u v at_u at_v (inl out) = (subst (λ (s : ℕ). IsMarked inside s) (sym out.0) at_u, subst (λ (s : ℕ). IsMarked inside s) (sym out.1) at_v)
both_marked inside bond u v at_u at_v (inr home) = (subst (λ (s : ℕ). IsMarked inside s) (sym home.1) at_v, subst (λ (s : ℕ). IsMarked inside s) (sym home.0) at_u)

-- an eligible pair between two nodes that are inside is a link
link_for : (policy : Policy) (area : AreaParts) (inside : List Bool) (u v : ℕ) → IsArea area → Joins policy area u v → IsMarked inside u → IsMarked inside v
    → (e : ℕ) × (leads (map pair_of (links_of policy area inside)) e (number_inside inside u) ≡ Some (number_inside inside v))
link_for policy area inside u v kept joins at_u at_v =
    let way = far_cases u joins.bond.a joins.bond.b v joins.leads in
    let marked = both_marked inside joins.bond u v at_u at_v way in
    let bond : IsBond area.ids joins.bond = all_at (IsBond area.ids) area.bonds joins.number joins.bond kept.bonds_kept joins.there in
    let up : joins.bond.a < joins.bond.b = bond.ascending (eligible_paired policy area.ids joins.bond joins.eligible) in
    let link : is_link policy area.ids inside joins.bond ≡ true =
    and_from (is_eligible policy area.ids joins.bond) (is_inside inside joins.bond.a && is_inside inside joins.bond.b) joins.eligible
    (and_from (is_inside inside joins.bond.a) (is_inside inside joins.bond.b) marked.0 marked.1) in
    let placed = kept_at (is_link policy area.ids inside) area.bonds joins.number joins.bond joins.there link in
    let there : slice_get (map pair_of (links_of policy area inside)) placed.0 ≡ Some (pair_of (link_by inside joins.bond)) =
    slice_get-map pair_of (links_of policy area inside) placed.0
    ∙ ap (option_map pair_of) (slice_get-map (link_by inside) (filter (is_link policy area.ids inside) area.bonds) placed.0 ∙ ap (option_map (link_by inside)) placed.1) in
    (placed.0, ap (option_and_then (far_node (number_inside inside u))) there ∙ far_numbers inside joins.bond u v up marked.0 way)

-- a path in the area along eligible pairs is a walk in the island
walk_along : (policy : Policy) (area : AreaParts) (router : ℕ) (inside : List Bool) (those : IsInside policy area router inside) → IsArea area → (path : List ℕ) (u v : ℕ)
    → IsMember policy area those.start u → Path (Joins policy area) u path v → (walk : List ℕ) × Walk (map pair_of (links_of policy area inside)) (number_inside inside u) walk (number_inside inside v)
walk_along policy area router inside those kept [] u v member p = ([], ap (number_inside inside) p)
walk_along policy area router inside those kept (w ∷ ws) u v member p =
    let next : IsMember policy area those.start w = reachable_onward (Joins policy area) those.start u w member p.0 in
    let link = link_for policy area inside u w kept p.0 ((those.those u).1 member) ((those.those w).1 next) in
    let later = walk_along policy area router inside those kept ws w v next p.1 in
    (link.0 ∷ later.0, (number_inside inside w, link.1, later.1))

pub all_joined : (policy : Policy) (area : AreaParts) (router : ℕ) (inside : List Bool) → IsInside policy area router inside → IsArea area
    → IsConnected (flags_set inside) (map pair_of (links_of policy area inside))
all_joined policy area router inside those kept = λ s t within also.
    let u : HasNumber inside s = numbered_at inside s within in
    let v : HasNumber inside t = numbered_at inside t also in
    let to_u : IsMember policy area those.start u.place = (those.those u.place).0 u.set in
    let to_v : IsMember policy area those.start v.place = (those.those v.place).0 v.set in
    let across : IsMember policy area u.place v.place = member_onward policy area u.place those.start v.place (member_back policy area those.start u.place kept to_u) to_v in
    let walk = walk_along policy area router inside those kept across.0 u.place v.place to_u across.1 in (
      walk.0,
      subst (λ (a : ℕ). Walk (map pair_of (links_of policy area inside)) a walk.0 t) u.is
          (subst (λ (b : ℕ). Walk (map pair_of (links_of policy area inside)) (number_inside inside u.place) walk.0 b) v.is walk.1),
    )
