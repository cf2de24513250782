-- After any deliveries each database is that of a list.
use Rattle.std.proofs.Common.{◌≡◌, ◌∙◌, ◌<◌, ◌+◌, ◌↔◌, ℕ, true, List, [], ◌∷◌, Option, Some, None, Contains, map, refl, sym, ap, subst, arith}
use Rattle.std.specs.List.{AllByRecursion, IsDistinct, list_any}
use Rattle.std.specs.List.Sorted.{IsPermutation}
use Rattle.std.specs.Option.{option_map, IsSomeAnd}
use Rattle.std.proofs.lemmas.Option.{same_Some, slice_get_within}
use Rattle.mrt_graph.proofs.Members.{Has, all_from_has, all_has, contains_from_has, has_filter, has_from_contains}
use Rattle.ospf_lsa.specs.declared.lsa.Lsa.{Lsa}
use Rattle.lsdb.specs.declared.key.Key.{Key}
use Rattle.lsdb.specs.Conflicts.{least_conflict}
use Rattle.lsdb.specs.Entries.{Database, Entry, entries_in}
use Rattle.lsdb.specs.Installing.{IsKept}
use Rattle.lsdb.specs.Installs.{all_installed, AreBehind}
use Rattle.lsdb.specs.Keys.{key_of, keys_in}
use Rattle.lsdb.specs.Newest.{IsSettled}
use Rattle.lsdb.specs.Orders.{newest_in, timeless, without_place, HoldTheSame}
use Rattle.lsdb.proofs.Agreements.{same_agree, settled_agree}
use Rattle.lsdb.proofs.Entered.{keys_of_newest}
use Rattle.lsdb.proofs.Lists.{all_of_list}
use Rattle.lsdb.proofs.Orders.{swapped}
use Rattle.lsdb.proofs.Reordered.{keys_reordered, newest_reordered}
use Rattle.lsdb.proofs.Settling.{no_conflict_settled, settled_no_conflict}
use Rattle.flood.specs.Routers.{Router}
use Rattle.flood.specs.declared.update.Update.{Update}
use Rattle.flood.specs.Databases.{after_installs, empty_database}
use Rattle.flood.specs.FloodState.{FloodState, database_of, started}
use Rattle.ospf_lsa.specs.AreaLsas.{is_area_lsa}
use Rattle.flood.specs.Receiving.{after_all, after_one, new_router, news, topology, MayFlood}
use Rattle.flood.specs.Runs.{Delivery, after_deliveries, brought, delivered_to, lsas_of, numbered, same_instance, sent, AreNewestOfTheSame, IsFlooded}
use Rattle.flood.proofs.Bringing.{AreAfter, after_run, all_of_file, all_packets, brought_of_file, came, kept_topology, packet_of, router_at_start, sent_found, stays, brought_are_topology}
use Rattle.flood.proofs.Converging.{IsCover, cover_settled, covers_agree, kept_numbered, numbered_has}
use Rattle.flood.proofs.OneDelivery.{all_news}
use Rattle.flood.proofs.Covered.{all_covered, any_has, covers, entries_after, found_in, sent_once}
use Rattle.area_graph.proofs.EveryOrder.{chosen}

-- the state after deliveries
abbrev pub after : List Update → ℕ → List Delivery → FloodState
after updates count deliveries = after_deliveries (started updates count) deliveries

from_start : (updates : List Update) (count : ℕ) (deliveries : List Delivery) (r : ℕ) → r < count
    → AreAfter (started updates count) deliveries r new_router
from_start updates count deliveries r within =
    after_run (started updates count) deliveries r new_router (router_at_start count r new_router within)

-- a router's database after deliveries
pub database_after : (updates : List Update) (count : ℕ) (deliveries : List Delivery) (r : ℕ) → r < count
    → database_of (after updates count deliveries) r
    ≡ Some (after_all new_router (brought (started updates count) deliveries r)).database
database_after updates count deliveries r within =
    ap (option_map (λ (t : Router). t.database)) (from_start updates count deliveries r within).router_is

databases_after : (router : Router) (xs : List Lsa)
    → (after_all router xs).database ≡ after_installs router.database (numbered router.arrivals xs)
databases_after router [] = refl
databases_after router (x ∷ xs) = databases_after (after_one router x) xs

pub database_law : (updates : List Update) (count : ℕ) (deliveries : List Delivery) (r : ℕ) → r < count
    → database_of (after updates count deliveries) r
    ≡ Some (after_installs empty_database (delivered_to updates count deliveries r))
database_law updates count deliveries r within =
    database_after updates count deliveries r within
    ∙ ap Some (databases_after new_router (brought (started updates count) deliveries r))

entries_of_all : (updates : List Update) (count : ℕ) (deliveries : List Delivery) (r : ℕ)
    → (after_all new_router (brought (started updates count) deliveries r)).database.entries
    ≡ all_installed [] (delivered_to updates count deliveries r)
entries_of_all updates count deliveries r = entries_after new_router (brought (started updates count) deliveries r)

newest_of_all : (updates : List Update) (count : ℕ) (deliveries : List Delivery) (r : ℕ)
    → map (λ (e : Entry). e.lsa) (after_all new_router (brought (started updates count) deliveries r)).database.entries
    ≡ newest_in (delivered_to updates count deliveries r)
newest_of_all updates count deliveries r =
    ap (λ (es : List Entry). map (λ (e : Entry). e.lsa) es)
    (entries_of_all updates count deliveries r ∙ all_of_list (delivered_to updates count deliveries r))

conflicts_of_all : (updates : List Update) (count : ℕ) (deliveries : List Delivery) (r : ℕ)
    → least_conflict (after_all new_router (brought (started updates count) deliveries r)).database.entries
    ≡ least_conflict (entries_in (delivered_to updates count deliveries r))
conflicts_of_all updates count deliveries r =
    ap least_conflict
    (entries_of_all updates count deliveries r ∙ all_of_list (delivered_to updates count deliveries r))

some_and : {X : Type 0} (o : Option X) (x : X) (P : X → Type 0) → o ≡ Some x → P x → IsSomeAnd o P
some_and {X = X} o x P is holds = subst (λ (t : Option X). IsSomeAnd t P) (sym is) holds

pub entries_law : (updates : List Update) (count : ℕ) (deliveries : List Delivery) (r : ℕ) → r < count
    → IsSomeAnd (database_of (after updates count deliveries) r)
    (λ database. database.entries ≡ all_installed [] (delivered_to updates count deliveries r))
entries_law updates count deliveries r within =
    some_and (database_of (after updates count deliveries) r)
    (after_all new_router (brought (started updates count) deliveries r)).database
    (λ (d : Database). d.entries ≡ all_installed [] (delivered_to updates count deliveries r))
    (database_after updates count deliveries r within) (entries_of_all updates count deliveries r)

pub newest_law : (updates : List Update) (count : ℕ) (deliveries : List Delivery) (r : ℕ) → r < count
    → IsSomeAnd (database_of (after updates count deliveries) r)
    (λ database. map (λ (e : Entry). e.lsa) database.entries ≡ newest_in (delivered_to updates count deliveries r))
newest_law updates count deliveries r within =
    some_and (database_of (after updates count deliveries) r)
    (after_all new_router (brought (started updates count) deliveries r)).database
    (λ (d : Database). map (λ (e : Entry). e.lsa) d.entries
    ≡ newest_in (delivered_to updates count deliveries r))
    (database_after updates count deliveries r within) (newest_of_all updates count deliveries r)

settled_both : (updates : List Update) (count : ℕ) (deliveries : List Delivery) (r : ℕ)
    → (least_conflict (after_all new_router (brought (started updates count) deliveries r)).database.entries ≡ None)
    ↔ IsSettled (delivered_to updates count deliveries r)
settled_both updates count deliveries r = (
  λ none. no_conflict_settled (delivered_to updates count deliveries r)
      (sym (conflicts_of_all updates count deliveries r) ∙ none),
  λ settled. conflicts_of_all updates count deliveries r
      ∙ settled_no_conflict (delivered_to updates count deliveries r) settled,
)

pub settled_law : (updates : List Update) (count : ℕ) (deliveries : List Delivery) (r : ℕ) → r < count
    → IsSomeAnd (database_of (after updates count deliveries) r)
    (λ database. (least_conflict database.entries ≡ None) ↔ IsSettled (delivered_to updates count deliveries r))
settled_law updates count deliveries r within =
    some_and (database_of (after updates count deliveries) r)
    (after_all new_router (brought (started updates count) deliveries r)).database
    (λ (d : Database). (least_conflict d.entries ≡ None) ↔ IsSettled (delivered_to updates count deliveries r))
    (database_after updates count deliveries r within) (settled_both updates count deliveries r)

numbers_rise : (number : ℕ) (lsas : List Lsa) → AreBehind (Some number) (numbered (number + 1) lsas)
numbers_rise number [] = tt
numbers_rise number (x ∷ lsas) = (omega arith, numbers_rise (number + 1) lsas)

numbers_from_none : (lsas : List Lsa) → AreBehind None (numbered 0 lsas)
numbers_from_none [] = tt
numbers_from_none (x ∷ lsas) = (tt, numbers_rise 0 lsas)

pub numbers_law : (updates : List Update) (count : ℕ) (deliveries : List Delivery) (r : ℕ)
    → AreBehind None (delivered_to updates count deliveries r)
numbers_law updates count deliveries r = numbers_from_none (brought (started updates count) deliveries r)

kept_brought : (updates : List Update) (count : ℕ) (deliveries : List Delivery) (r : ℕ)
    → AllByRecursion MayFlood updates → AllByRecursion IsKept (brought (started updates count) deliveries r)
kept_brought updates count deliveries r may =
    all_from_has IsKept (brought (started updates count) deliveries r) (λ x has.
    all_has IsKept (topology (lsas_of updates)) x (kept_topology updates may)
    (brought_of_file updates count deliveries r x has))

pub kept_law : (updates : List Update) (count : ℕ) (deliveries : List Delivery) (r : ℕ)
    → AllByRecursion MayFlood updates → AllByRecursion IsKept (delivered_to updates count deliveries r)
kept_law updates count deliveries r may =
    kept_numbered 0 (brought (started updates count) deliveries r) (kept_brought updates count deliveries r may)

-- ---- nothing is made up

pub packets_law : (updates : List Update) (count : ℕ) (deliveries : List Delivery) (update : Update) (lsa : Lsa)
    → Contains (after updates count deliveries).packets update → Contains update.lsas lsa
    → Contains (lsas_of updates) lsa
packets_law updates count deliveries update lsa among has =
    contains_from_has (lsas_of updates) lsa
    (all_has (Has (lsas_of updates)) update.lsas lsa
    (all_has (λ (u : Update). AllByRecursion (Has (lsas_of updates)) u.lsas)
    (after updates count deliveries).packets update
    (all_packets (Has (lsas_of updates)) (started updates count) deliveries (all_of_file updates))
    (has_from_contains (after updates count deliveries).packets update among))
    (has_from_contains update.lsas lsa has))

newest_given : (updates : List Update) (count : ℕ) (deliveries : List Delivery) (r : ℕ) (database : Database)
    → r < count → database_of (after updates count deliveries) r ≡ Some database
    → map (λ (e : Entry). e.lsa) database.entries ≡ newest_in (delivered_to updates count deliveries r)
newest_given updates count deliveries r database within is =
    let same : database ≡ (after_all new_router (brought (started updates count) deliveries r)).database =
    same_Some database _ (sym is ∙ database_after updates count deliveries r within) in
    ap (λ (d : Database). map (λ (e : Entry). e.lsa) d.entries) same ∙ newest_of_all updates count deliveries r

settled_given : (updates : List Update) (count : ℕ) (deliveries : List Delivery) (r : ℕ) (database : Database)
    → r < count → database_of (after updates count deliveries) r ≡ Some database
    → (least_conflict database.entries ≡ None) ↔ IsSettled (delivered_to updates count deliveries r)
settled_given updates count deliveries r database within is =
    let same : database ≡ (after_all new_router (brought (started updates count) deliveries r)).database =
    same_Some database _ (sym is ∙ database_after updates count deliveries r within) in
    subst (λ (d : Database). (least_conflict d.entries ≡ None) ↔ IsSettled (delivered_to updates count deliveries r))
    (sym same) (settled_both updates count deliveries r)

pub databases_law : (updates : List Update) (count : ℕ) (deliveries : List Delivery) (r : ℕ) (database : Database)
    (lsa : Lsa) → r < count → database_of (after updates count deliveries) r ≡ Some database
    → Contains (map (λ (e : Entry). e.lsa) database.entries) lsa
    → Contains (map without_place (lsas_of updates)) (without_place lsa)
databases_law updates count deliveries r database lsa within is among =
    let has : Has (newest_in (delivered_to updates count deliveries r)) lsa =
    subst (λ (ls : List Lsa). Has ls lsa) (newest_given updates count deliveries r database within is)
    (has_from_contains (map (λ (e : Entry). e.lsa) database.entries) lsa among) in
    contains_from_has (map without_place (lsas_of updates)) (without_place lsa)
    (numbered_has 0 (brought (started updates count) deliveries r) (lsas_of updates)
    (λ x brought_it. (has_filter is_area_lsa (lsas_of updates) x
    (brought_of_file updates count deliveries r x brought_it)).0) lsa
    (chosen (delivered_to updates count deliveries r) lsa has))

-- ---- once

pub once_law : (updates : List Update) (count : ℕ) (deliveries : List Delivery) (r : ℕ) → r < count
    → IsDistinct same_instance (sent (started updates count) deliveries r)
once_law updates count deliveries r within =
    subst (IsDistinct same_instance) (sym (from_start updates count deliveries r within).sends)
    (sent_once [] (brought (started updates count) deliveries r)).distinct

-- ---- the same deliveries

pub same_settled_law : (updates : List Update) (count : ℕ) (deliveries : List Delivery) (r q : ℕ)
    (its others : Database) → r < count → q < count
    → database_of (after updates count deliveries) r ≡ Some its
    → database_of (after updates count deliveries) q ≡ Some others
    → HoldTheSame (delivered_to updates count deliveries r) (delivered_to updates count deliveries q)
    → (least_conflict its.entries ≡ None) ↔ (least_conflict others.entries ≡ None)
same_settled_law updates count deliveries r q its others within within' is is' same =
    let one = settled_given updates count deliveries r its within is in
    let other = settled_given updates count deliveries q others within' is' in
    let agree = same_agree (delivered_to updates count deliveries r) (delivered_to updates count deliveries q) same in (
      λ none. other.1 (settled_agree (delivered_to updates count deliveries r)
          (delivered_to updates count deliveries q) agree (one.0 none)),
      λ none. one.1 (settled_agree (delivered_to updates count deliveries q)
          (delivered_to updates count deliveries r)
          (swapped (delivered_to updates count deliveries r) (delivered_to updates count deliveries q) agree)
          (other.0 none)),
    )

pub same_newest_law : (updates : List Update) (count : ℕ) (deliveries : List Delivery) (r q : ℕ)
    (its others : Database) → AllByRecursion MayFlood updates → r < count → q < count
    → database_of (after updates count deliveries) r ≡ Some its
    → database_of (after updates count deliveries) q ≡ Some others
    → HoldTheSame (delivered_to updates count deliveries r) (delivered_to updates count deliveries q)
    → least_conflict its.entries ≡ None
    → AreNewestOfTheSame (map (λ (e : Entry). e.lsa) its.entries) (map (λ (e : Entry). e.lsa) others.entries)
same_newest_law updates count deliveries r q its others may within within' is is' same none = record {
  lsas = delivered_to updates count deliveries r;
  others = delivered_to updates count deliveries q;
  kept = kept_law updates count deliveries r may;
  settled = (settled_given updates count deliveries r its within is).0 none;
  same = same;
  one_is = newest_given updates count deliveries r its within is;
  other_is = newest_given updates count deliveries q others within' is';
}

-- ---- flooding converges

-- what is sent on by one router reaches each
sent_reaches : (updates : List Update) (count : ℕ) (deliveries : List Delivery) (q r : ℕ) (z : Lsa)
    → IsFlooded updates count deliveries → r < count → is_area_lsa z ≡ true
    → Has (sent (started updates count) deliveries q) z → Has (brought (started updates count) deliveries r) z
sent_reaches updates count deliveries q r z flooded within is has =
    let found = sent_found (started updates count) deliveries q z has in
    came (started updates count) deliveries found.packet r found.update z
    (flooded.everywhere found.packet r found.new
    (slice_get_within (after updates count deliveries).packets found.packet found.update found.at) within)
    found.at found.has is

covers_one : (updates : List Update) (count : ℕ) (deliveries : List Delivery) (r : ℕ) (x : Lsa)
    → IsFlooded updates count deliveries → r < count → Has (topology (lsas_of updates)) x
    → list_any (covers x) (brought (started updates count) deliveries r) ≡ true
covers_one updates count deliveries r x flooded within has =
    let of_file = has_filter is_area_lsa (lsas_of updates) x has in
    let home = packet_of updates x of_file.0 in
    let first = flooded.once home.packet (slice_get_within updates home.packet home.update home.at) in
    let q : ℕ = first.0 in
    let arrived_there : Has (brought (started updates count) deliveries q) x =
    came (started updates count) deliveries home.packet q home.update x first.2
    (stays (started updates count) deliveries home.packet home.update home.at) home.has of_file.1 in
    let out : list_any (covers x) (news new_router (brought (started updates count) deliveries q)) ≡ true =
    all_covered [] (brought (started updates count) deliveries q) [] (λ e none. absurd none) x arrived_there in
    let by = found_in (covers x) (news new_router (brought (started updates count) deliveries q)) out in
    let sent_it : Has (sent (started updates count) deliveries q) by.lsa =
    subst (λ (ls : List Lsa). Has ls by.lsa) (sym (from_start updates count deliveries q first.1).sends) by.has in
    let is : is_area_lsa by.lsa ≡ true =
    all_has (λ (l : Lsa). is_area_lsa l ≡ true) (news new_router (brought (started updates count) deliveries q)) by.lsa
    (all_news (λ (l : Lsa). is_area_lsa l ≡ true) new_router (brought (started updates count) deliveries q)
    (brought_are_topology (started updates count) deliveries q)) by.has in
    any_has (covers x) (brought (started updates count) deliveries r) by.lsa
    (sent_reaches updates count deliveries q r by.lsa flooded within is sent_it) by.passes

cover_at : (updates : List Update) (count : ℕ) (deliveries : List Delivery) (r : ℕ)
    → IsFlooded updates count deliveries → r < count
    → IsCover (topology (lsas_of updates)) (brought (started updates count) deliveries r)
cover_at updates count deliveries r flooded within = record {
  of_file = brought_of_file updates count deliveries r;
  covers_file = λ x has. covers_one updates count deliveries r x flooded within has;
}

pub converged_settled_law : (updates : List Update) (count : ℕ) (deliveries : List Delivery) (r : ℕ)
    (database : Database) → IsFlooded updates count deliveries → r < count
    → database_of (after updates count deliveries) r ≡ Some database → least_conflict database.entries ≡ None
converged_settled_law updates count deliveries r database flooded within is =
    (settled_given updates count deliveries r database within is).1
    (cover_settled (topology (lsas_of updates)) (brought (started updates count) deliveries r)
    (cover_at updates count deliveries r flooded within) flooded.settled)

pub converged_newest_law : (updates : List Update) (count : ℕ) (deliveries : List Delivery) (r q : ℕ)
    (its others : Database) → AllByRecursion MayFlood updates → IsFlooded updates count deliveries
    → r < count → q < count
    → database_of (after updates count deliveries) r ≡ Some its
    → database_of (after updates count deliveries) q ≡ Some others
    → AreNewestOfTheSame (map (λ (e : Entry). e.lsa) its.entries) (map (λ (e : Entry). e.lsa) others.entries)
converged_newest_law updates count deliveries r q its others may flooded within within' is is' =
    let agree = covers_agree (topology (lsas_of updates)) (brought (started updates count) deliveries r)
    (brought (started updates count) deliveries q) (cover_at updates count deliveries r flooded within)
    (cover_at updates count deliveries q flooded within') flooded.settled (kept_topology updates may)
    (kept_brought updates count deliveries r may) in
    record {
      lsas = agree.lsas;
      others = agree.others;
      kept = agree.kept;
      settled = agree.settled;
      same = agree.same;
      one_is = newest_given updates count deliveries r its within is ∙ agree.one_is;
      other_is = newest_given updates count deliveries q others within' is' ∙ agree.other_is;
    }

-- ---- newest of the same

pub keys_law : (its others : List Lsa) → AreNewestOfTheSame its others → IsPermutation (map key_of its) (map key_of others)
keys_law its others are =
    subst (λ (ks : List Key). IsPermutation ks (map key_of others))
    (sym (ap (map key_of) are.one_is ∙ keys_of_newest are.lsas))
    (subst (λ (ks : List Key). IsPermutation (keys_in are.lsas) ks)
    (sym (ap (map key_of) are.other_is ∙ keys_of_newest are.others))
    (keys_reordered are.lsas are.others (same_agree are.lsas are.others are.same)))

pub timeless_law : (its others : List Lsa) → AreNewestOfTheSame its others
    → IsPermutation (map timeless its) (map timeless others)
timeless_law its others are =
    subst (λ (ls : List Lsa). IsPermutation ls (map timeless others)) (sym (ap (map timeless) are.one_is))
    (subst (λ (ls : List Lsa). IsPermutation (map timeless (newest_in are.lsas)) ls)
    (sym (ap (map timeless) are.other_is))
    (newest_reordered are.lsas are.others (same_agree are.lsas are.others are.same) are.settled))
