-- Newest records of which the live ones are the same have one area; so the area of settled records is the same in every order of the records.
use Rattle.std.proofs.Common.{◌≡◌, ◌∙◌, ◌≤◌, ◌&&◌, true, false, List, [], ◌∷◌, Some, map, inl, inr, refl, sym, ap, subst, arith}
use Rattle.std.specs.List.{AllByRecursion}
use Rattle.std.proofs.lemmas.Bool.{cases_Bool, not-true, not_from_false}
use Rattle.std.proofs.lemmas.Option.{same_Some}
use Rattle.mrt_graph.proofs.Members.{Has, all_filter_map, all_has, contains_from_has, filter_has, has_filter, has_from_contains, has_map, is_from, none_pass}
use Rattle.mrt_graph.proofs.Tallies.{one_if, tally, tally_filtered, tally_map, tally_none}
use Rattle.ospf_lsa.specs.MaxAge.{is_at_max_age}
use Rattle.ospf_lsa.specs.declared.lsa.Lsa.{Lsa}
use Rattle.lsdb.specs.declared.key.Key.{Key}
use Rattle.lsdb.specs.Entries.{Entry, entry_of, entries_in}
use Rattle.lsdb.specs.Installing.{IsKept}
use Rattle.lsdb.specs.Instances.{HoldTheSameInstances}
use Rattle.lsdb.specs.Keys.{key_of, same_key, is_of, keys_in}
use Rattle.lsdb.specs.Newest.{is_newest, newest_of, same_but_age, IsSettled}
use Rattle.lsdb.specs.Orders.{newest_in, timeless, AreReordered, HoldTheSame}
use Rattle.lsdb.proofs.Agreements.{reordered_same}
use Rattle.lsdb.proofs.Arrivals.{AreDistinct, keys_distinct}
use Rattle.lsdb.proofs.Entered.{keys_of_newest}
use Rattle.lsdb.proofs.Stores.{key_is}
use Rattle.lsdb.proofs.SameInstances.{settled_instances}
use Rattle.lsdb.proofs.Timeless.{timeless_is}
use Rattle.area_graph.specs.AreaOf.{area_of}
use Rattle.area_graph.specs.LiveLsas.{HoldTheSameLive}
use Rattle.area_graph.specs.Nodes.{live}
use Rattle.area_graph.proofs.ByNumber.{filter_through}
use Rattle.area_graph.proofs.Speaking.{Alike, AreNewest, SayAll, alike, area_by, is_live, same_area, speakers_among}

-- a newest instance of a key is one of the records
chosen_by : (lsas : List Lsa) (key : Key) (entry : Entry) (instances : List Lsa) → newest_of lsas key ≡ instances → entry_of instances ≡ Some entry → Has lsas entry.lsa
chosen_by lsas key entry [] is made = absurd cc
chosen_by lsas key entry (first ∷ rest) is made =
    let same : first ≡ entry.lsa = ap (λ (e : Entry). e.lsa) (same_Some _ entry made) in
    let among : Has (newest_of lsas key) entry.lsa = subst (λ (instances : List Lsa). Has instances entry.lsa) (sym is) (inl same) in
    (has_filter (λ lsa. is_of key lsa && is_newest lsas lsa) lsas entry.lsa among).0

pub chosen : (lsas : List Lsa) (lsa : Lsa) → Has (newest_in lsas) lsa → Has lsas lsa
chosen lsas lsa has =
    let from = is_from (λ (entry : Entry). entry.lsa) (entries_in lsas) lsa has in
    let all = all_filter_map (λ entry. Has lsas entry.lsa) (λ key. entry_of (newest_of lsas key)) (keys_in lsas)
    (λ key entry has_key made. chosen_by lsas key entry (newest_of lsas key) refl made) in
    subst (Has lsas) from.is (all_has (λ (entry : Entry). Has lsas entry.lsa) (entries_in lsas) from.origin all from.there)

-- no two of them are of one key
keys_once : (keys : List Key) → AreDistinct keys → (key : Key) → tally (same_key key) keys ≤ 1
keys_once [] distinct key = omega arith
keys_once (first ∷ keys) distinct key = elim (cases_Bool (same_key key first)) [
  | inl same ↦
      let is : first ≡ key = key_is key first same in
      let none : tally (same_key key) keys ≡ 0 = tally_none (same_key key) keys (λ other has.
      subst (λ (k : Key). same_key k other ≡ false) is (none_pass (same_key first) keys other distinct.0 has)) in
      let counted : one_if (same_key key first) ≡ 1 = ap one_if same in
      omega (arith, none, counted)
  | inr differs ↦
      let counted : one_if (same_key key first) ≡ 0 = ap one_if differs in
      omega (arith, counted, keys_once keys distinct.1 key)
]

chosen_once : (lsas : List Lsa) (key : Key) → tally (is_of key) (newest_in lsas) ≤ 1
chosen_once lsas key =
    let mapped : tally (same_key key) (map key_of (newest_in lsas)) ≡ tally (is_of key) (newest_in lsas) = tally_map (same_key key) key_of (newest_in lsas) in
    let keys : tally (same_key key) (map key_of (newest_in lsas)) ≡ tally (same_key key) (keys_in lsas) = ap (tally (same_key key)) (keys_of_newest lsas) in
    omega (arith, mapped, keys, keys_once (keys_in lsas) (keys_distinct lsas) key)

-- what says the same as an LSA that may stand in a database may stand in one
kept_like : (x y : Lsa) → timeless x ≡ timeless y → IsKept x → IsKept y
kept_like x y same kept =
    let moved : IsKept (timeless x) = record { type = kept.type; body = kept.body; own_id = kept.own_id; metrics = kept.metrics } in
    let there : IsKept (timeless y) = subst IsKept same moved in
    record { type = there.type; body = there.body; own_id = there.own_id; metrics = there.metrics }

-- the live ones of newest records are newest ones
live_newest : (lsas : List Lsa) → ((lsa : Lsa) → Has (live (newest_in lsas)) lsa → IsKept lsa) → AreNewest (live (newest_in lsas))
live_newest lsas kept = record {
  kept = kept;
  once = λ key. omega (arith, chosen_once lsas key, tally_filtered (is_of key) is_live (newest_in lsas));
}

-- the area is that of the live ones
live_area : (lsas : List Lsa) → area_of (live lsas) ≡ area_of lsas
live_area lsas = ap (λ (ls : List Lsa). area_by (speakers_among ls)) (sym (filter_through is_live is_live (λ lsa passes. passes) lsas))

-- newest records whose live ones say the same have the same area
area_by_saying : (lsas others : List Lsa) → AllByRecursion IsKept lsas → SayAll (live (newest_in lsas)) (live (newest_in others))
    → SayAll (live (newest_in others)) (live (newest_in lsas)) → area_of (newest_in lsas) ≡ area_of (newest_in others)
area_by_saying lsas others kept there back =
    let kept_one : (lsa : Lsa) → Has (live (newest_in lsas)) lsa → IsKept lsa = λ lsa has.
    all_has IsKept lsas lsa kept (chosen lsas lsa (has_filter is_live (newest_in lsas) lsa has).0) in
    let kept_other : (lsa : Lsa) → Has (live (newest_in others)) lsa → IsKept lsa = λ lsa has.
    let origin = alike (live (newest_in others)) (live (newest_in lsas)) lsa back has in
    kept_like origin.other lsa origin.same (kept_one origin.other origin.there) in
    sym (live_area (newest_in lsas))
    ∙ same_area (live (newest_in lsas)) (live (newest_in others)) (live_newest lsas kept_one) (live_newest others kept_other) there back
    ∙ live_area (newest_in others)

-- where each LSA of a list has its like in another, the other says all that the list says
say_alike : (one other : List Lsa) → ((lsa : Lsa) → Has one lsa → Alike other lsa) → SayAll one other
say_alike one other each = λ said has.
    let from = is_from timeless one said has in
    let like = each from.origin from.there in
    subst (Has (map timeless other)) (like.same ∙ from.is) (has_map timeless other like.other like.there)

-- live LSAs that differ in nothing but place and age say the same
live_alike : (lsas others : List Lsa) (lsa other : Lsa) → Has (live lsas) lsa → Has (live others) other → same_but_age lsa other ≡ true
    → timeless lsa ≡ timeless other
live_alike lsas others lsa other has too same =
    timeless_is lsa other same
    (not-true (is_at_max_age lsa) (has_filter is_live lsas lsa has).1 ∙ sym (not-true (is_at_max_age other) (has_filter is_live others other too).1))

-- newest records of which the live ones are the same but for place and age have the same area
pub same_live : (lsas others : List Lsa) → AllByRecursion IsKept lsas → HoldTheSameLive (newest_in lsas) (newest_in others)
    → area_of (newest_in lsas) ≡ area_of (newest_in others)
same_live lsas others kept hold =
    area_by_saying lsas others kept
    (say_alike (live (newest_in lsas)) (live (newest_in others)) (λ lsa has.
    let like = hold.there lsa (contains_from_has (live (newest_in lsas)) lsa has) in
    let there = has_from_contains (live (newest_in others)) like.0 like.1 in
    record { other = like.0; there = there; same = sym (live_alike (newest_in lsas) (newest_in others) lsa like.0 has there like.2) }))
    (say_alike (live (newest_in others)) (live (newest_in lsas)) (λ lsa has.
    let like = hold.back lsa (contains_from_has (live (newest_in others)) lsa has) in
    let there = has_from_contains (live (newest_in lsas)) like.0 like.1 in
    record { other = like.0; there = there; same = live_alike (newest_in lsas) (newest_in others) like.0 lsa there has like.2 }))

-- lists that hold the same instances hold the same live ones
pub live_instances : (lsas others : List Lsa) → HoldTheSameInstances lsas others → HoldTheSameLive lsas others
live_instances lsas others hold = record {
  there = λ lsa has.
      let kept = has_filter is_live lsas lsa (has_from_contains (live lsas) lsa has) in
      let like = hold.there lsa (contains_from_has lsas lsa kept.0) in
      let alive : is_at_max_age like.0 ≡ false = sym like.2.max_age ∙ not-true (is_at_max_age lsa) kept.1 in (
        like.0,
        contains_from_has (live others) like.0
            (filter_has is_live others like.0 (has_from_contains others like.0 like.1) (not_from_false (is_at_max_age like.0) alive)),
        like.2.alike,
      );
  back = λ lsa has.
      let kept = has_filter is_live others lsa (has_from_contains (live others) lsa has) in
      let like = hold.back lsa (contains_from_has others lsa kept.0) in
      let alive : is_at_max_age like.0 ≡ false = like.2.max_age ∙ not-true (is_at_max_age lsa) kept.1 in (
        like.0,
        contains_from_has (live lsas) like.0
            (filter_has is_live lsas like.0 (has_from_contains lsas like.0 like.1) (not_from_false (is_at_max_age like.0) alive)),
        like.2.alike,
      );
}

-- and so settled records that hold the same LSAs
pub same_records : (lsas others : List Lsa) → AllByRecursion IsKept lsas → IsSettled lsas → HoldTheSame lsas others → area_of (newest_in lsas) ≡ area_of (newest_in others)
same_records lsas others kept settled same =
    same_live lsas others kept (live_instances (newest_in lsas) (newest_in others) (settled_instances lsas others same settled))

pub same_in_every_order : (lsas others : List Lsa) → AllByRecursion IsKept lsas → IsSettled lsas → AreReordered lsas others → area_of (newest_in lsas) ≡ area_of (newest_in others)
same_in_every_order lsas others kept settled reordered = same_records lsas others kept settled (reordered_same lsas others reordered)
