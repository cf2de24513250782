-- The bonds of LSAs whose numbers fit their fields have such numbers.
use Rattle.std.proofs.Common.{◌≡◌, ◌<◌, ◌+◌, ◌++◌, ◌^◌, ℕ, Bool, List, [], ◌∷◌, Option, Some, None, map, refl, arith}
use Rattle.std.specs.List.{AllByRecursion, filter}
use Rattle.std.specs.Option.{is_none, option_map, option_to_list}
use Rattle.mrt_graph.specs.declared.node_id.NodeId.{NodeId}
use Rattle.mrt_graph.proofs.InOrder.{all_in_order}
use Rattle.mrt_graph.proofs.Members.{all_append, all_from_has, all_has, find_has, has_filter}
use Rattle.ospf_lsa.specs.Lsas.{FitsBody, FitsLink}
use Rattle.ospf_lsa.specs.declared.lsa.Body.{Body}
use Rattle.ospf_lsa.specs.declared.lsa.Body.TheVariants.{Router, Network, Other}
use Rattle.ospf_lsa.specs.declared.lsa.Lsa.{Lsa}
use Rattle.ospf_lsa.specs.declared.lsa.RouterLink.{RouterLink}
use Rattle.lsdb.specs.Orders.{newest_in}
use Rattle.area_graph.specs.Arcs.{arc_cmp, arcs, arcs_among, is_arc, pairing_cmp}
use Rattle.area_graph.specs.AreaOf.{area_of, bond_by, bond_from}
use Rattle.area_graph.specs.Bonds.{are_partners, bonds, partner, pairs, singles, tells_pair}
use Rattle.area_graph.specs.Entries.{Entry, entries, entries_in, entries_of, entries_of_links, entries_of_listed, far_of}
use Rattle.area_graph.specs.Nodes.{node_of, nodes, speakers}
use Rattle.area_graph.specs.Ranges.{FitsBond}
use Rattle.area_graph.proofs.EveryOrder.{chosen}
use Rattle.area_graph.proofs.Speaking.{speaker_is}

-- an entry's numbers fit
record FitsEntry (entry : Entry) : Type 0 where
  metric : entry.metric < 2 ^ 16
  link_data : entry.link_data < 2 ^ 32

with_link : (from : NodeId) (place : ℕ) (link : RouterLink) (far : Option NodeId) (rest : List Entry) → FitsLink link → AllByRecursion FitsEntry rest
    → AllByRecursion FitsEntry (option_to_list (option_map (λ to. record { from = from; to = to; metric = link.metric; link_data = link.link_data; place = place }) far) ++ rest)
with_link from place link None rest fits all = all
with_link from place link (Some to) rest fits all = (record { metric = fits.metric; link_data = fits.link_data }, all)

all_links : (from : NodeId) (place : ℕ) (links : List RouterLink) → AllByRecursion FitsLink links → AllByRecursion FitsEntry (entries_of_links from place links)
all_links from place [] fit = tt
all_links from place (link ∷ links) fit =
    with_link from place link (far_of from.number link) (entries_of_links from (place + 1) links) fit.0 (all_links from (place + 1) links fit.1)

all_listed : (from : NodeId) (place : ℕ) (routers : List ℕ) → AllByRecursion FitsEntry (entries_of_listed from place routers)
all_listed from place [] = tt
all_listed from place (listed ∷ others) = (record { metric = omega arith; link_data = omega arith }, all_listed from (place + 1) others)

all_of_body : (from : NodeId) (body : Body) → FitsBody body → AllByRecursion FitsEntry (entries_of from body)
all_of_body from (Router flags spare links tos) fits = all_links from 0 links fits.2
all_of_body from (Network mask routers) fits = all_listed from 0 routers
all_of_body from (Other bytes) fits = tt

all_entries : (lsas : List Lsa) → AllByRecursion (λ lsa. FitsBody lsa.body) lsas → AllByRecursion FitsEntry (entries_in lsas)
all_entries [] fit = tt
all_entries (lsa ∷ lsas) fit =
    all_append FitsEntry (entries_of (node_of lsa) lsa.body) (entries_in lsas) (all_of_body (node_of lsa) lsa.body fit.0) (all_entries lsas fit.1)

kept_by : (P : Entry → Type 0) (test : Entry → Bool) (xs : List Entry) → AllByRecursion P xs → AllByRecursion P (filter test xs)
kept_by P test xs all = all_from_has P (filter test xs) (λ x has. all_has P xs x all (has_filter test xs x has).0)

all_arcs : (all : List Entry) → AllByRecursion FitsEntry all → AllByRecursion FitsEntry (arcs_among all)
all_arcs all fit = all_in_order pairing_cmp FitsEntry (filter (is_arc all) all) (kept_by FitsEntry (is_arc all) all fit)

all_bonds : (arcs : List Entry) → AllByRecursion FitsEntry arcs → AllByRecursion FitsEntry (bonds arcs)
all_bonds arcs fit =
    all_append FitsEntry (pairs arcs) (singles arcs) (kept_by FitsEntry (tells_pair arcs) arcs fit)
    (kept_by FitsEntry (λ arc. is_none (partner arcs arc)) _ (all_in_order arc_cmp FitsEntry arcs fit))

bond_fits : (ids : List NodeId) (arcs : List Entry) → AllByRecursion FitsEntry arcs → (one : Entry) → FitsEntry one → FitsBond (bond_from ids arcs one)
bond_fits ids arcs fit one fits = go (partner arcs one) refl
  where
    go : (o : Option Entry) → partner arcs one ≡ o → FitsBond (bond_by ids one o)
    go None is = record { metric_a = fits.metric; metric_b = omega arith; data_a = fits.link_data; data_b = omega arith }
    go (Some other) is =
        let also : FitsEntry other = all_has FitsEntry arcs other fit (find_has (are_partners arcs one) arcs other is).0 in
        record { metric_a = fits.metric; metric_b = also.metric; data_a = fits.link_data; data_b = also.link_data }

all_made : (ids : List NodeId) (arcs : List Entry) → AllByRecursion FitsEntry arcs → (told : List Entry) → AllByRecursion FitsEntry told
    → AllByRecursion FitsBond (map (bond_from ids arcs) told)
all_made ids arcs fit [] all = tt
all_made ids arcs fit (one ∷ told) all = (bond_fits ids arcs fit one all.0, all_made ids arcs fit told all.1)

pub bonds_fit : (lsas : List Lsa) → AllByRecursion (λ lsa. FitsBody lsa.body) lsas → AllByRecursion FitsBond (area_of (newest_in lsas)).bonds
bonds_fit lsas fit =
    let speaking : AllByRecursion (λ lsa. FitsBody lsa.body) (speakers (newest_in lsas)) =
    all_from_has (λ (lsa : Lsa). FitsBody lsa.body) (speakers (newest_in lsas)) (λ lsa has.
    all_has (λ (l : Lsa). FitsBody l.body) lsas lsa fit (chosen lsas lsa (speaker_is (newest_in lsas) lsa has).there)) in
    let fitting : AllByRecursion FitsEntry (arcs (newest_in lsas)) =
    all_arcs (entries (newest_in lsas)) (all_entries (speakers (newest_in lsas)) speaking) in
    all_made (nodes (newest_in lsas)) (arcs (newest_in lsas)) fitting (bonds (arcs (newest_in lsas))) (all_bonds (arcs (newest_in lsas)) fitting)
