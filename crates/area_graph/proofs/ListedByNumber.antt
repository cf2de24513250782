-- What LSAs list, by identifiers and by numbers.
use Rattle.std.proofs.Common.{◌≡◌, ◌∙◌, ◌+◌, ◌++◌, ℕ, cond, List, [], ◌∷◌, Option, Some, None, slice_get, zero-add, refl, sym, ap, subst}
use Rattle.std.specs.List.{AllByRecursion, AllZip, cons_option, filter}
use Rattle.std.specs.List.Sorted.{IsStrictlySortedBy}
use Rattle.std.specs.Option.{is_some, option_map, option_to_list}
use Rattle.std.proofs.lemmas.List.Elements.{filter-append}
use Rattle.std.proofs.lemmas.Option.{get_or_from_slice_get, slice_get_within}
use Rattle.mrt_graph.specs.NodeOrder.{node_id_cmp}
use Rattle.mrt_graph.specs.declared.node_id.NodeId.{NodeId}
use Rattle.mrt_graph.proofs.Members.{all_append, all_weaker}
use Rattle.ospf_lsa.specs.declared.lsa.Body.{Body}
use Rattle.ospf_lsa.specs.declared.lsa.Body.TheVariants.{Router, Network, Other}
use Rattle.ospf_lsa.specs.declared.lsa.Lsa.{Lsa}
use Rattle.ospf_lsa.specs.declared.lsa.RouterLink.{RouterLink}
use Rattle.area_graph.specs.declared.entry.NumberedEntry.{NumberedEntry}
use Rattle.area_graph.specs.Arcs.{arcs}
use Rattle.area_graph.specs.AreaOf.{area_of}
use Rattle.area_graph.specs.Entries.{Entry, entries, entries_in, entries_of, entries_of_links, entries_of_listed, far_of}
use Rattle.area_graph.specs.Nodes.{node_of, nodes, speakers}
use Rattle.mrt_graph.specs.NodeIds.{number_of}
use Rattle.area_graph.specs.steps.NumberedArcs.{arcs_among as n_arcs_among}
use Rattle.area_graph.specs.steps.NumberedArea.{arcs_of, bonds_of}
use Rattle.area_graph.specs.steps.NumberedEntries.{by_number, entries as n_entries, entries_from}
use Rattle.area_graph.proofs.Alongside.{zip_append}
use Rattle.area_graph.proofs.ByNumber.{IsNumbered, IsOfNode, leads_on, area_alike, arcs_alike}
use Rattle.area_graph.proofs.ListedApart.{StandFrom, stand_from}
use Rattle.mrt_graph.proofs.IdPlaces.{place_of_one}

-- the entries of a node's LSA are of that node
from_by : (own : NodeId) (place : ℕ) (link : RouterLink) (o : Option NodeId) (rest : List Entry) → AllByRecursion (λ e. e.from ≡ own) rest
    → AllByRecursion (λ e. e.from ≡ own)
    (option_to_list (option_map (λ to. record { from = own; to = to; metric = link.metric; link_data = link.link_data; place = place }) o) ++ rest)
from_by own place link None rest all = all
from_by own place link (Some to) rest all = (refl, all)

links_from : (own : NodeId) (place : ℕ) (links : List RouterLink) → AllByRecursion (λ e. e.from ≡ own) (entries_of_links own place links)
links_from own place [] = tt
links_from own place (link ∷ links) = from_by own place link (far_of own.number link) (entries_of_links own (place + 1) links) (links_from own (place + 1) links)

listed_from : (own : NodeId) (place : ℕ) (routers : List ℕ) → AllByRecursion (λ e. e.from ≡ own) (entries_of_listed own place routers)
listed_from own place [] = tt
listed_from own place (listed ∷ others) = (refl, listed_from own (place + 1) others)

body_from : (own : NodeId) (body : Body) → AllByRecursion (λ e. e.from ≡ own) (entries_of own body)
body_from own (Router flags spare links tos) = links_from own 0 links
body_from own (Network mask routers) = listed_from own 0 routers
body_from own (Other bytes) = tt

module _ (ids : List NodeId) (ascend : IsStrictlySortedBy node_id_cmp ids) where
  abbrev R : Entry → NumberedEntry → Type 0
  R entry n = IsNumbered ids entry n

  one_alike : (tail : ℕ) (e : Entry) (o : Option ℕ) (es : List Entry) (ns : List NumberedEntry) → number_of ids e.from ≡ Some tail → number_of ids e.to ≡ o → AllZip R es ns
      → AllZip R (cond (is_some o) (e ∷ es) es)
      (cons_option (option_map (λ far. record { tail = tail; far = far; metric = e.metric; link_data = e.link_data; place = e.place }) o) ns)
  one_alike tail e None es ns from to rest = rest
  one_alike tail e (Some far) es ns from to rest = (record { from = from; to = to; metric = refl; link_data = refl; place = refl }, rest)

  all_alike : (tail : ℕ) (own : NodeId) (es : List Entry) → number_of ids own ≡ Some tail → AllByRecursion (λ e. e.from ≡ own) es
      → AllZip R (filter (leads_on ids) es) (by_number ids tail es)
  all_alike tail own [] at all = tt
  all_alike tail own (e ∷ es) at all =
      one_alike tail e (number_of ids e.to) (filter (leads_on ids) es) (by_number ids tail es) (ap (number_of ids) all.0 ∙ at) refl (all_alike tail own es at all.1)

  number_there : (id : NodeId) (n : ℕ) → slice_get ids n ≡ Some id → number_of ids id ≡ Some n
  number_there id n there = place_of_one ids n id ascend (slice_get_within ids n id there) (get_or_from_slice_get ids n id id there)

  from_alike : (tail : ℕ) (lsas : List Lsa) → StandFrom ids tail lsas → AllZip R (filter (leads_on ids) (entries_in lsas)) (entries_from ids tail lsas)
  from_alike tail [] stand = tt
  from_alike tail (lsa ∷ lsas) stand =
      let here = entries_of (node_of lsa) lsa.body in
      let later = entries_in lsas in
      subst (λ (xs : List Entry). AllZip R xs (entries_from ids tail (lsa ∷ lsas))) (sym (filter-append (leads_on ids) here later))
      (zip_append R (filter (leads_on ids) here) (filter (leads_on ids) later) (by_number ids tail here) (entries_from ids (tail + 1) lsas)
      (all_alike tail (node_of lsa) here (number_there (node_of lsa) tail stand.0) (body_from (node_of lsa) lsa.body)) (from_alike (tail + 1) lsas stand.1))

  -- entries are of nodes that are there
  of_nodes : (tail : ℕ) (lsas : List Lsa) → StandFrom ids tail lsas → AllByRecursion (IsOfNode ids) (entries_in lsas)
  of_nodes tail [] stand = tt
  of_nodes tail (lsa ∷ lsas) stand =
      all_append (IsOfNode ids) (entries_of (node_of lsa) lsa.body) (entries_in lsas)
      (all_weaker (λ e. e.from ≡ node_of lsa) (IsOfNode ids)
      (λ e from. ap (λ (id : NodeId). is_some (number_of ids id)) from ∙ ap is_some (number_there (node_of lsa) tail stand.0))
      (entries_of (node_of lsa) lsa.body) (body_from (node_of lsa) lsa.body))
      (of_nodes (tail + 1) lsas stand.1)

-- the area by identifiers is the one that the code makes by numbers
pub area_by_number : (lsas : List Lsa) → IsStrictlySortedBy node_id_cmp (nodes lsas)
    → area_of lsas ≡ record { ids = nodes lsas; arcs = arcs_of (n_arcs_among (n_entries lsas)); bonds = bonds_of (n_arcs_among (n_entries lsas)) }
area_by_number lsas ascend =
    let ids = nodes lsas in
    let stand : StandFrom ids 0 (speakers lsas) = stand_from ids 0 (speakers lsas) (λ k. ap (slice_get ids) (zero-add k)) in
    area_alike ids ascend (arcs lsas) (n_arcs_among (n_entries lsas))
    (arcs_alike ids ascend (entries lsas) (n_entries lsas) (of_nodes ids ascend 0 (speakers lsas) stand) (from_alike ids ascend 0 (speakers lsas) stand))
