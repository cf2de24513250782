-- The bonds of a network that is made are for transit traffic: no metric of it is above 64.
use Rattle.std.proofs.Common.{◌≡◌, ◌≤◌, ◌+◌, ◌&&◌, ℕ, zero, suc, true, List, [], ◌∷◌, Option, Some, None, length, refl, sym, ap, subst, arith}
use Rattle.std.specs.List.{AllByRecursion, filter}
use Rattle.std.specs.Option.{option_map}
use Rattle.std.proofs.lemmas.Bool.{and_from, ne_eqb}
use Rattle.std.proofs.lemmas.Option.{same_Some}
use Rattle.mrt_graph.specs.declared.node_id.NodeId.{NodeId}
use Rattle.mrt_graph.proofs.Filters.{all_filter}
use Rattle.mrt_graph.proofs.InOrder.{all_in_order}
use Rattle.mrt_graph.proofs.Members.{Has, all_append, all_has, all_weaker, find_has}
use Rattle.ospf_lsa.specs.declared.lsa.Lsa.{Lsa}
use Rattle.ospf_lsa.specs.declared.lsa.RouterLink.{RouterLink}
use Rattle.ospf_lsa.specs.LsaText.{lsa_length}
use Rattle.area_graph.specs.AreaOf.{bond_by, bond_from}
use Rattle.area_graph.specs.Arcs.{arcs, is_arc, pairing_cmp}
use Rattle.area_graph.specs.Bonds.{are_partners, partner}
use Rattle.area_graph.specs.Entries.{Entry, entries, entries_in, entries_of_links, entry_of_link, far_of}
use Rattle.mrt_graph.specs.NodeIds.{router as router_node}
use Rattle.area_graph.proofs.ListedApart.{all_with}
use Rattle.mrt_island.specs.Eligible.{is_for_transit}
use Rattle.mrt_survey.specs.declared.made_link.MadeLink.{MadeLink}
use Rattle.mrt_survey.specs.MadeLinks.{made_links}
use Rattle.mrt_survey.specs.MadeLsas.{ends_of, lsa_of, made_lsas}
use Rattle.mrt_survey.proofs.EndsMade.{IsMadeEnd, ends_kept}
use Rattle.mrt_survey.proofs.LsasInstalled.{lsas_from}
use Rattle.mrt_survey.proofs.MadeArea.{speakers_are}
use Rattle.mrt_survey.proofs.MadeBounds.{IsMadeLink, links_kept}

abbrev IsLow : Entry → Type 0
IsLow entry = entry.metric ≤ 64

abbrev HasLowMetric : RouterLink → Type 0
HasLowMetric end = end.metric ≤ 64

-- the entry of an end that leads to a node
abbrev entry_to : NodeId → ℕ → RouterLink → NodeId → Entry
entry_to from place end to = record { from = from; to = to; metric = end.metric; link_data = end.link_data; place = place }

low_entry : (from : NodeId) (place : ℕ) (end : RouterLink) (entry : Entry) → HasLowMetric end → entry_of_link from place end ≡ Some entry → IsLow entry
low_entry from place end entry low is = go (far_of from.number end) is
  where
    go : (o : Option NodeId) → option_map (entry_to from place end) o ≡ Some entry → IsLow entry
    go None none = cc
    go (Some to) some =
        let metric : end.metric ≡ entry.metric = ap (λ (e : Entry). e.metric) (same_Some (entry_to from place end to) entry some) in
        omega (arith, metric, low)

low_entries : (from : NodeId) (place : ℕ) (ends : List RouterLink) → AllByRecursion HasLowMetric ends → AllByRecursion IsLow (entries_of_links from place ends)
low_entries from place [] low = tt
low_entries from place (end ∷ ends) low =
    all_with IsLow (entry_of_link from place end) (entries_of_links from (place + 1) ends)
    (λ entry is. low_entry from place end entry low.0 is) (low_entries from (place + 1) ends low.1)

low_in : (nodes : ℕ) (links : List MadeLink) (at from n : ℕ) → AllByRecursion (IsMadeLink nodes) links → AllByRecursion IsLow (entries_in (lsas_from links at from n))
low_in nodes links at from zero made = tt
low_in nodes links at from (suc n) made =
    let next = at + lsa_length (lsa_of links from) in
    let ends = ends_of links from in
    all_append IsLow (entries_of_links (router_node from) 0 ends) (entries_in (lsas_from links next (from + 1) n))
    (low_entries (router_node from) 0 ends
    (all_weaker (IsMadeEnd nodes (length links)) HasLowMetric (λ end kept. kept.metric_most) ends (ends_kept nodes links from made)))
    (low_in nodes links next (from + 1) n made)

pub low_arcs : (number nodes : ℕ) → 4 ≤ nodes → AllByRecursion IsLow (arcs (made_lsas number nodes))
low_arcs number nodes some =
    let links = made_links number nodes in
    let all = entries (made_lsas number nodes) in
    let low : AllByRecursion IsLow all =
    subst (λ (speaking : List Lsa). AllByRecursion IsLow (entries_in speaking)) (sym (speakers_are links nodes))
    (low_in nodes links 0 1 nodes (links_kept nodes some number)) in
    all_in_order pairing_cmp IsLow (filter (is_arc all) all) (all_filter (is_arc all) IsLow all low)

low_transit : (metric : ℕ) → metric ≤ 64 → is_for_transit metric ≡ true
low_transit metric low = rw (ne_eqb metric 65535 (λ same. omega (arith, same, low))) refl

-- where all metrics are low, the bond that an arc tells is for transit traffic in both directions
pub bond_transit : (ids : List NodeId) (all : List Entry) (arc : Entry) → AllByRecursion IsLow all → Has all arc
    → (is_for_transit (bond_from ids all arc).metric_a && is_for_transit (bond_from ids all arc).metric_b) ≡ true
bond_transit ids all arc low there = go (partner all arc) refl
  where
    of : (one : Entry) → Has all one → is_for_transit one.metric ≡ true
    of one has = low_transit one.metric (all_has IsLow all one low has)

    go : (o : Option Entry) → partner all arc ≡ o → (is_for_transit (bond_by ids arc o).metric_a && is_for_transit (bond_by ids arc o).metric_b) ≡ true
    go None is = and_from (is_for_transit arc.metric) _ (of arc there) refl
    go (Some other) is = and_from (is_for_transit arc.metric) _ (of arc there) (of other (find_has (are_partners all arc) all other is).0)
