-- What an area's entries keep.
use Rattle.std.proofs.Common.{◌≡◌, ◌≢◌, ◌∙◌, ◌⊎◌, ◌≤◌, ◌+◌, ◌++◌, ◌==◌, ℕ, suc, Bool, true, false, not, cond, zero-add, add-zero, List, [], ◌∷◌, Option, Some, None, map, slice_get, refl, sym, ap, subst, inl, inr, arith}
use Rattle.std.specs.List.{AllByRecursion, IsDistinct, cons_option, filter, list_any}
use Rattle.std.specs.Ordering.{on}
use Rattle.std.specs.Option.{option_map, option_to_list}
use Rattle.std.proofs.lemmas.Bool.{eqb-false, ne_eqb, and_left, and_right, or_parts, or_right}
use Rattle.std.proofs.lemmas.Bool.Decides.{eqb_tells}
use Rattle.std.proofs.lemmas.Map.Keys.{apart_from_distinct, IsDistinct-cons, IsDistinct-head, IsDistinct-tail, IsDistinct-from_apart}
use Rattle.std.proofs.lemmas.Option.{same_Some, none-some, slice_get_within}
use Rattle.mrt_graph.specs.GraphInvariant.{IsNetwork}
use Rattle.mrt_graph.specs.NodeOrder.{rank_of, node_id_cmp}
use Rattle.mrt_graph.specs.declared.node_id.Kind.{Kind}
use Rattle.mrt_graph.specs.declared.node_id.Kind.TheVariants as kinds
use Rattle.mrt_graph.specs.declared.node_id.NodeId.{NodeId}
use Rattle.mrt_graph.proofs.InOrder.{all_in_order}
use Rattle.mrt_graph.proofs.Members.{all_append, all_filter_map, all_has}
use Rattle.mrt_graph.proofs.Filters.{all_filter}
use Rattle.ospf_lsa.specs.Lsas.{has_zero_metric, IsOfType, KeepsMetrics}
use Rattle.ospf_lsa.specs.declared.lsa.Body.{Body}
use Rattle.ospf_lsa.specs.declared.lsa.Body.TheVariants.{Router, Network, Other}
use Rattle.ospf_lsa.specs.declared.lsa.Lsa.{Lsa}
use Rattle.ospf_lsa.specs.declared.lsa.RouterLink.{RouterLink}
use Rattle.lsdb.specs.Installing.{IsKept}
use Rattle.ospf_lsa.specs.MaxAge.{is_at_max_age}
use Rattle.area_graph.specs.steps.NumberedBonds.{same_entry}
use Rattle.area_graph.specs.steps.NumberedEntries.{by_number, entries, entries_from, numbered_entry}
use Rattle.area_graph.specs.Entries.{Entry, entries_of, entries_of_links, entries_of_listed, entry_of_link, far_of}
use Rattle.area_graph.specs.steps.Listed.{IsEntry, AreEntries}
use Rattle.area_graph.specs.Nodes.{node_of, live, speaks, speakers, nodes}
use Rattle.mrt_graph.specs.NodeIds.{router, network, number_of}
use Rattle.area_graph.specs.declared.entry.NumberedEntry.{NumberedEntry}
use Rattle.area_graph.proofs.OneOfEachNode.{of_router, of_network}
use Rattle.mrt_graph.proofs.IdPlaces.{number_found}

-- ---- what is known of each entry that the LSA of a node lists

-- it leads to another node, and not from a network to a network; a network's has metric 0 and link data 0, a router's a metric of at
-- least 1
record IsListed (own : NodeId) (entry : Entry) : Type 0 where
  different : own ≡ entry.to → ⊥
  not_both_networks : own.kind ≡ kinds.Network → entry.to.kind ≡ kinds.Network → ⊥
  of_network : own.kind ≡ kinds.Network → (entry.metric ≡ 0) × (entry.link_data ≡ 0)
  of_router : (own.kind ≡ kinds.Network → ⊥) → 1 ≤ entry.metric

no_network : (number : ℕ) → (router number).kind ≡ kinds.Network → ⊥
no_network number is = let ranks : 0 ≡ 1 = ap rank_of is in omega (arith, ranks)

-- where a link leads: to another router, or to a network
data Leads (own : ℕ) (link : RouterLink) (far : NodeId) : Type 0 where
  ToRouter : link.id ≢ own → (link.kind == 1) ≡ true → router link.id ≡ far → Leads own link far
  ToNetwork : (link.kind == 2) ≡ true → network link.id ≡ far → Leads own link far

leads_by : (own : ℕ) (link : RouterLink) (far : NodeId) (one self two : Bool) → (link.kind == 1) ≡ one → (link.id == own) ≡ self → (link.kind == 2) ≡ two
    → cond one (cond self None (Some (router link.id))) (cond two (Some (network link.id)) None) ≡ Some far → Leads own link far
leads_by own link far true true two is_one is_self is_two leads = absurd (none-some far leads)
leads_by own link far true false two is_one is_self is_two leads = ToRouter (λ same. eqb-false link.id own is_self same) is_one (same_Some (router link.id) far leads)
leads_by own link far false self true is_one is_self is_two leads = ToNetwork is_two (same_Some (network link.id) far leads)
leads_by own link far false self false is_one is_self is_two leads = absurd (none-some far leads)

leads_of : (own : ℕ) (link : RouterLink) (far : NodeId) → far_of own link ≡ Some far → Leads own link far
leads_of own link far leads = leads_by own link far (link.kind == 1) (link.id == own) (link.kind == 2) refl refl refl leads

far_differs : (own : ℕ) (link : RouterLink) (far : NodeId) → Leads own link far → router own ≡ far → ⊥
far_differs own link far (ToRouter differ is_one is) same = differ (ap (λ (x : NodeId). x.number) (is ∙ sym same))
far_differs own link far (ToNetwork is_two is) same = let ranks : 0 ≡ 1 = ap (λ (x : NodeId). rank_of x.kind) (same ∙ sym is) in omega (arith, ranks)

far_not_network : (own : ℕ) (link : RouterLink) (far : NodeId) → Leads own link far → link.metric ≡ 0 → has_zero_metric link ≡ false → ⊥
far_not_network own link far (ToRouter differ is_one is) zero none =
    let told : has_zero_metric link ≡ true = rw (zero, is_one) refl in cc
far_not_network own link far (ToNetwork is_two is) zero none =
    let told : has_zero_metric link ≡ true = rw (zero, is_two) (or_right (link.kind == 1) true refl) in cc

positive : (n : ℕ) → (n ≡ 0 → ⊥) → 1 ≤ n
positive n none = elim (eqb_tells n 0) [ inl zero ↦ absurd (none zero.1) | inr other ↦ let apart : n ≢ 0 = other.1 in omega arith ]

link_listed : (own place : ℕ) (link : RouterLink) (e : Entry) (o : Option NodeId) → far_of own link ≡ o → has_zero_metric link ≡ false
    → option_map (λ to. record { from = router own; to = to; metric = link.metric; link_data = link.link_data; place = place }) o ≡ Some e → IsListed (router own) e
link_listed own place link e None leads_on metric is = absurd (none-some e is)
link_listed own place link e (Some to) leads_on metric is =
    let leads = leads_of own link to leads_on in
    subst (IsListed (router own)) (same_Some (record { from = router own; to = to; metric = link.metric; link_data = link.link_data; place = place }) e is) (record {
      different = far_differs own link to leads;
      not_both_networks = λ network there. no_network own network;
      of_network = λ network. absurd (no_network own network);
      of_router = λ other. positive link.metric (λ zero. far_not_network own link to leads zero metric);
    })

pub all_with : {X : Type 0} (P : X → Type 0) (o : Option X) (rest : List X) → ((x : X) → o ≡ Some x → P x) → AllByRecursion P rest → AllByRecursion P (option_to_list o ++ rest)
all_with P None rest here later = later
all_with P (Some x) rest here later = (here x refl, later)

links_listed : (own place : ℕ) (links : List RouterLink) → list_any has_zero_metric links ≡ false → AllByRecursion (IsListed (router own)) (entries_of_links (router own) place links)
links_listed own place [] metrics = tt
links_listed own place (link ∷ links) metrics =
    let parts = or_parts (has_zero_metric link) (list_any has_zero_metric links) metrics in
    all_with (IsListed (router own)) (entry_of_link (router own) place link) (entries_of_links (router own) (place + 1) links)
    (λ e is. link_listed own place link e (far_of own link) refl parts.0 is) (links_listed own (place + 1) links parts.1)

routers_listed : (own place : ℕ) (routers : List ℕ) → AllByRecursion (IsListed (network own)) (entries_of_listed (network own) place routers)
routers_listed own place [] = tt
routers_listed own place (listed ∷ others) = (
  record {
    different = λ same. let ranks : 1 ≡ 0 = ap (λ (x : NodeId). rank_of x.kind) same in omega (arith, ranks);
    not_both_networks = λ network there. no_network listed there;
    of_network = λ network. (refl, refl);
    of_router = λ other. absurd (other refl);
  },
  routers_listed own (place + 1) others,
)

body_listed : (lsa : Lsa) (body : Body) → (lsa.kind ≡ 1) ⊎ (lsa.kind ≡ 2) → IsOfType lsa.kind body → KeepsMetrics body
    → AllByRecursion (IsListed (node_of lsa)) (entries_of (node_of lsa) body)
body_listed lsa (Router flags spare links tos) type kind metrics =
    subst (λ (own : NodeId). AllByRecursion (IsListed own) (entries_of_links own 0 links)) (sym (of_router lsa kind)) (links_listed lsa.id 0 links metrics)
body_listed lsa (Network mask routers) type kind metrics =
    subst (λ (own : NodeId). AllByRecursion (IsListed own) (entries_of_listed own 0 routers)) (sym (of_network lsa kind)) (routers_listed lsa.id 0 routers)
body_listed lsa (Other bytes) type kind metrics = elim type [ inl one ↦ absurd (kind.0 one) | inr two ↦ absurd (kind.1 two) ]

-- ---- by number

kind_at : (ids : List NodeId) (n : ℕ) (id : NodeId) → slice_get ids n ≡ Some id → IsNetwork ids n → id.kind ≡ kinds.Network
kind_at ids n id there is = same_Some id.kind kinds.Network (sym (ap (option_map (λ (x : NodeId). x.kind)) there) ∙ is)

network_at : (ids : List NodeId) (n : ℕ) (id : NodeId) → slice_get ids n ≡ Some id → id.kind ≡ kinds.Network → IsNetwork ids n
network_at ids n id there is = ap (option_map (λ (x : NodeId). x.kind)) there ∙ ap (λ (kind : Kind). Some kind) is

entry_kept : (ids : List NodeId) (tail : ℕ) (own : NodeId) (e : Entry) (n : NumberedEntry) (o : Option ℕ) → slice_get ids tail ≡ Some own → number_of ids e.to ≡ o → IsListed own e
    → option_map (λ far. record { tail = tail; far = far; metric = e.metric; link_data = e.link_data; place = e.place }) o ≡ Some n → IsEntry ids n
entry_kept ids tail own e n None at_tail numbered listed is = absurd (none-some n is)
entry_kept ids tail own e n (Some far) at_tail numbered listed is =
    let at_far = number_found ids e.to far numbered in
    subst (IsEntry ids) (same_Some (record { tail = tail; far = far; metric = e.metric; link_data = e.link_data; place = e.place }) n is) (record {
      tail = slice_get_within ids tail own at_tail;
      far = slice_get_within ids far e.to at_far;
      different = λ same. listed.different (same_Some own e.to (sym at_tail ∙ ap (slice_get ids) same ∙ at_far));
      not_both_networks = λ one other. listed.not_both_networks (kind_at ids tail own at_tail one) (kind_at ids far e.to at_far other);
      of_network = λ one. listed.of_network (kind_at ids tail own at_tail one);
      of_router = λ other. listed.of_router (λ one. other (network_at ids tail own at_tail one));
    })

all_kept : (ids : List NodeId) (tail : ℕ) (own : NodeId) (es : List Entry) → slice_get ids tail ≡ Some own → AllByRecursion (IsListed own) es → AllByRecursion (IsEntry ids) (by_number ids tail es)
all_kept ids tail own es at_tail listed =
    all_filter_map (IsEntry ids) (numbered_entry ids tail) es
    (λ e n has is. entry_kept ids tail own e n (number_of ids e.to) at_tail refl (all_has (IsListed own) es e listed has) is)

-- LSAs that speak for the nodes from that number on
abbrev pub StandFrom : List NodeId → ℕ → List Lsa → Type 0
StandFrom ids tail [] = Unit {0}
StandFrom ids tail (lsa ∷ lsas) = (slice_get ids tail ≡ Some (node_of lsa)) × StandFrom ids (tail + 1) lsas

from_kept : (ids : List NodeId) (tail : ℕ) (lsas : List Lsa) → AllByRecursion IsKept lsas → StandFrom ids tail lsas
    → AllByRecursion (IsEntry ids) (entries_from ids tail lsas)
from_kept ids tail [] kept stand = tt
from_kept ids tail (lsa ∷ lsas) kept stand =
    all_append (IsEntry ids) (by_number ids tail (entries_of (node_of lsa) lsa.body)) (entries_from ids (tail + 1) lsas)
    (all_kept ids tail (node_of lsa) (entries_of (node_of lsa) lsa.body) stand.0 (body_listed lsa lsa.body kept.0.type kept.0.body kept.0.metrics))
    (from_kept ids (tail + 1) lsas kept.1 stand.1)

pub stand_from : (ids : List NodeId) (tail : ℕ) (lsas : List Lsa) → ((k : ℕ) → slice_get ids (tail + k) ≡ slice_get (map node_of lsas) k) → StandFrom ids tail lsas
stand_from ids tail [] at = tt
stand_from ids tail (lsa ∷ lsas) at = (
  ap (slice_get ids) (sym (add-zero tail)) ∙ at 0,
  stand_from ids (tail + 1) lsas (λ k. let next : tail + 1 + k ≡ tail + suc k = omega arith in ap (slice_get ids) next ∙ at (suc k)),
)

pub entries_kept : (lsas : List Lsa) → AllByRecursion IsKept lsas → AllByRecursion (IsEntry (nodes lsas)) (entries lsas)
entries_kept lsas kept =
    from_kept (nodes lsas) 0 (speakers lsas)
    (all_in_order (on node_of node_id_cmp) IsKept (filter (speaks (live lsas)) (live lsas))
    (all_filter (speaks (live lsas)) IsKept (live lsas) (all_filter (λ lsa. not (is_at_max_age lsa)) IsKept lsas kept)))
    (stand_from (nodes lsas) 0 (speakers lsas) (λ k. ap (slice_get (nodes lsas)) (zero-add k)))

-- ---- no two entries have one node and one place

-- places rise
Rising : ℕ → List Entry → Type 0
Rising from [] = Unit {0}
Rising from (e ∷ es) = (from ≤ e.place) × Rising (e.place + 1) es

lower_start : (low from : ℕ) (es : List Entry) → low ≤ from → Rising from es → Rising low es
unfolding Rising
lower_start low from [] le rise = tt
lower_start low from (e ∷ es) le rise = (omega (arith, le, rise.0), rise.1)

link_rises : (own : NodeId) (place : ℕ) (link : RouterLink) (o : Option NodeId) (rest : List Entry) → Rising (place + 1) rest
    → Rising place (option_to_list (option_map (λ to. record { from = own; to = to; metric = link.metric; link_data = link.link_data; place = place }) o) ++ rest)
unfolding Rising
link_rises own place link None rest rise = lower_start place (place + 1) rest (omega arith) rise
link_rises own place link (Some to) rest rise = (omega arith, rise)

links_rise : (own : NodeId) (place : ℕ) (links : List RouterLink) → Rising place (entries_of_links own place links)
unfolding Rising
links_rise own place [] = tt
links_rise own place (link ∷ links) = link_rises own place link (far_of own.number link) (entries_of_links own (place + 1) links) (links_rise own (place + 1) links)

routers_rise : (own : NodeId) (place : ℕ) (routers : List ℕ) → Rising place (entries_of_listed own place routers)
unfolding Rising
routers_rise own place [] = tt
routers_rise own place (listed ∷ others) = (omega arith, routers_rise own (place + 1) others)

body_rises : (own : NodeId) (body : Body) → Rising 0 (entries_of own body)
unfolding Rising
body_rises own (Router flags spare links tos) = links_rise own 0 links
body_rises own (Network mask routers) = routers_rise own 0 routers
body_rises own (Other bytes) = tt

-- an entry of that node at that place or a later one
record StandsAt (node from : ℕ) (e : NumberedEntry) : Type 0 where
  tail : e.tail ≡ node
  place : from ≤ e.place

-- entries of a node from that place on, of which no two have one place
record InPlaces (node from : ℕ) (xs : List NumberedEntry) : Type 0 where
  at : AllByRecursion (StandsAt node from) xs
  apart : IsDistinct same_entry xs

earlier_place : (xs : List NumberedEntry) (node low from : ℕ) → low ≤ from → AllByRecursion (StandsAt node from) xs → AllByRecursion (StandsAt node low) xs
earlier_place [] node low from le all = tt
earlier_place (x ∷ xs) node low from le all = (record { tail = all.0.tail; place = omega (arith, all.0.place, le) }, earlier_place xs node low from le all.1)

apart_from_later : (x : NumberedEntry) (xs : List NumberedEntry) (node from : ℕ) → x.place ≡ from → AllByRecursion (StandsAt node (from + 1)) xs
    → AllByRecursion (λ y. same_entry x y ≡ false) xs
apart_from_later x [] node from is all = tt
apart_from_later x (y ∷ ys) node from is all = (
  and_right (y.tail == x.tail) (y.place == x.place) (ne_eqb y.place x.place (λ same. omega (arith, same, is, all.0.place))),
  apart_from_later x ys node from is all.1,
)

no_entries : (node from : ℕ) → InPlaces node from []
no_entries node from = record { at = tt; apart = IsDistinct-from_apart same_entry [] (λ i j d before within. absurd (omega (arith, within))) }

place_by : (ids : List NodeId) (tail from : ℕ) (e : Entry) (o : Option ℕ) (rest : List NumberedEntry) → from ≤ e.place → InPlaces tail (e.place + 1) rest
    → InPlaces tail from (cons_option (option_map (λ far. record { tail = tail; far = far; metric = e.metric; link_data = e.link_data; place = e.place }) o) rest)
place_by ids tail from e None rest le later = record { at = earlier_place rest tail from (e.place + 1) (omega (arith, le)) later.at; apart = later.apart }
place_by ids tail from e (Some far) rest le later =
    let first : NumberedEntry = record { tail = tail; far = far; metric = e.metric; link_data = e.link_data; place = e.place } in
    record {
      at = (record { tail = refl; place = le }, earlier_place rest tail from (e.place + 1) (omega (arith, le)) later.at);
      apart = IsDistinct-cons same_entry first rest (apart_from_later first rest tail e.place refl later.at) later.apart;
    }

in_places : (ids : List NodeId) (tail from : ℕ) (es : List Entry) → Rising from es → InPlaces tail from (by_number ids tail es)
unfolding Rising
in_places ids tail from [] rise = no_entries tail from
in_places ids tail from (e ∷ es) rise = place_by ids tail from e (number_of ids e.to) (by_number ids tail es) rise.0 (in_places ids tail (e.place + 1) es rise.1)

-- entries of that node and of later ones, of which no two have one node and one place
record InNodes (from : ℕ) (xs : List NumberedEntry) : Type 0 where
  at : AllByRecursion (λ e. from ≤ e.tail) xs
  apart : IsDistinct same_entry xs

later_nodes : (node : ℕ) (xs : List NumberedEntry) → AllByRecursion (λ e. node + 1 ≤ e.tail) xs → AllByRecursion (λ e. node ≤ e.tail) xs
later_nodes node [] all = tt
later_nodes node (x ∷ xs) all = (omega (arith, all.0), later_nodes node xs all.1)

apart_from_nodes : (x : NumberedEntry) (ys : List NumberedEntry) (node : ℕ) → x.tail ≡ node → AllByRecursion (λ e. node + 1 ≤ e.tail) ys → AllByRecursion (λ y. same_entry x y ≡ false) ys
apart_from_nodes x [] node is all = tt
apart_from_nodes x (y ∷ ys) node is all = (
  and_left (y.tail == x.tail) (y.place == x.place) (ne_eqb y.tail x.tail (λ same. omega (arith, same, is, all.0))),
  apart_from_nodes x ys node is all.1,
)

with_later_nodes : (node : ℕ) (xs ys : List NumberedEntry) → InPlaces node 0 xs → InNodes (node + 1) ys → InNodes node (xs ++ ys)
with_later_nodes node [] ys here later = record { at = later_nodes node ys later.at; apart = later.apart }
with_later_nodes node (x ∷ xs) ys here later =
    let rest : InPlaces node 0 xs = record { at = here.at.1; apart = IsDistinct-tail same_entry x xs here.apart } in
    let all = with_later_nodes node xs ys rest later in
    record {
      at = (omega (arith, here.at.0.tail), all.at);
      apart = IsDistinct-cons same_entry x (xs ++ ys)
          (all_append (λ y. same_entry x y ≡ false) xs ys (IsDistinct-head same_entry x xs here.apart) (apart_from_nodes x ys node here.at.0.tail later.at)) all.apart;
    }

in_nodes : (ids : List NodeId) (tail : ℕ) (lsas : List Lsa) → InNodes tail (entries_from ids tail lsas)
in_nodes ids tail [] = record { at = tt; apart = (no_entries tail 0).apart }
in_nodes ids tail (lsa ∷ lsas) =
    with_later_nodes tail (by_number ids tail (entries_of (node_of lsa) lsa.body)) (entries_from ids (tail + 1) lsas)
    (in_places ids tail 0 (entries_of (node_of lsa) lsa.body) (body_rises (node_of lsa) lsa.body)) (in_nodes ids (tail + 1) lsas)

-- the entries of LSAs that may stand in a database are entries of their nodes, each with a place of its own
pub are_entries : (lsas : List Lsa) → AllByRecursion IsKept lsas → AreEntries (nodes lsas) (entries lsas)
are_entries lsas kept = record {
  kept = entries_kept lsas kept;
  apart = λ j k d before within. apart_from_distinct same_entry (entries lsas) j k d (in_nodes (nodes lsas) 0 (speakers lsas)).apart before within;
}
