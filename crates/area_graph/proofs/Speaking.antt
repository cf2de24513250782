-- Lists of LSAs that say the same have the same nodes, and so the same area.
use Rattle.std.proofs.Common.{◌≡◌, ◌∙◌, ◌≤◌, ◌&&◌, ◌++◌, Bool, true, false, not, List, [], ◌∷◌, map, inl, inr, refl, sym, ap, subst, arith}
use Rattle.std.specs.Prelude.{nat_lt}
use Rattle.std.specs.declared.cmp.Ordering.{Ordering}
use Rattle.std.specs.declared.cmp.Ordering.TheVariants.{Less, Equal, Greater}
use Rattle.std.specs.Cmp.{IsTotalOrder}
use Rattle.std.specs.List.{AllByRecursion, filter, list_any}
use Rattle.std.specs.Ordering.{is_lt, on, ordering_reverse}
use Rattle.std.proofs.lemmas.Bool.{ltb-false, not-true, not_from_false}
use Rattle.std.proofs.lemmas.Cmp.{on_total}
use Rattle.mrt_graph.specs.NodeOrder.{node_id_cmp}
use Rattle.mrt_graph.specs.declared.node_id.NodeId.{NodeId}
use Rattle.mrt_graph.specs.SameGraph.{same_id}
use Rattle.mrt_graph.specs.InOrder.{in_order}
use Rattle.mrt_graph.proofs.InOrder.{Contains-in_order, Rises, before_ranks, in_order_rises, is_before, not_before_itself}
use Rattle.mrt_graph.proofs.Members.{Has, all_from_has, all_has, all_map, contains_from_has, filter_has, has_filter, has_from_contains, has_map, is_from, none_pass, pass_none}
use Rattle.mrt_graph.proofs.Tallies.{one_if, tally, tally_filtered, tally_some}
use Rattle.mrt_graph.proofs.NodeIds.{node_id_total, tied_nodes}
use Rattle.ospf_lsa.specs.declared.lsa.Lsa.{Lsa}
use Rattle.lsdb.specs.Installing.{IsKept}
use Rattle.lsdb.specs.Keys.{key_of, same_key, is_of}
use Rattle.lsdb.specs.Orders.{timeless}
use Rattle.ospf_lsa.specs.MaxAge.{is_at_max_age}
use Rattle.lsdb.specs.declared.key.Key.{Key}
use Rattle.lsdb.proofs.Arrivals.{own_key}
use Rattle.lsdb.proofs.Timeless.{same_age}
use Rattle.area_graph.specs.Arcs.{arcs_among}
use Rattle.area_graph.specs.AreaOf.{area_of, area_with}
use Rattle.area_graph.specs.Entries.{entries_of, entries_in}
use Rattle.area_graph.specs.Nodes.{node_of, live, is_above, speaks, speakers}
use Rattle.area_graph.specs.Parts.{AreaParts}
use Rattle.area_graph.proofs.OneOfEachNode.{one_id, one_kind}
use Rattle.mrt_graph.proofs.SameIds.{flipped, same_itself}
use Rattle.area_graph.proofs.OrderedMembers.{has_in_order, tally_in_order}

-- each LSA of the one list says what one of the other says
abbrev pub SayAll : List Lsa → List Lsa → Type 0
SayAll one other = (said : Lsa) → Has (map timeless one) said → Has (map timeless other) said

-- an LSA of a list that says what this one says
pub record Alike (lsas : List Lsa) (lsa : Lsa) : Type 0 where
  pub other : Lsa
  pub there : Has lsas other
  pub same : timeless other ≡ timeless lsa

pub alike : (one other : List Lsa) (x : Lsa) → SayAll one other → Has one x → Alike other x
alike one other x say has =
    let from = is_from timeless other (timeless x) (say (timeless x) (has_map timeless one x has)) in
    record { other = from.origin; there = from.there; same = from.is }

-- an LSA that speaks for its node
pub record IsSpeaker (lsas : List Lsa) (x : Lsa) : Type 0 where
  pub there : Has lsas x
  pub alive : is_at_max_age x ≡ false
  pub highest : (y : Lsa) → Has lsas y → is_at_max_age y ≡ false → is_above x y ≡ false

abbrev by_node : Lsa → Lsa → Ordering
by_node = on node_of node_id_cmp

nodes_total : IsTotalOrder by_node
nodes_total = on_total node_of node_id_total

abbrev pub is_live : Lsa → Bool
is_live lsa = not (is_at_max_age lsa)

abbrev among : List Lsa → List Lsa
among lsas = filter (speaks (live lsas)) (live lsas)

pub speaker_is : (lsas : List Lsa) (x : Lsa) → Has (speakers lsas) x → IsSpeaker lsas x
speaker_is lsas x has =
    let kept = has_filter (speaks (live lsas)) (live lsas) x (has_in_order by_node (among lsas) x has) in
    let alive = has_filter is_live lsas x kept.0 in
    record {
      there = alive.0;
      alive = not-true (is_at_max_age x) alive.1;
      highest = λ y has_y alive_y. none_pass (is_above x) (live lsas) y (not-true (list_any (is_above x) (live lsas)) kept.1)
          (filter_has is_live lsas y has_y (not_from_false (is_at_max_age y) alive_y));
    }

pub is_speaker : (lsas : List Lsa) (x : Lsa) → IsSpeaker lsas x → Has (speakers lsas) x
is_speaker lsas x speaker =
    let alive : Has (live lsas) x = filter_has is_live lsas x speaker.there (not_from_false (is_at_max_age x) speaker.alive) in
    let none : list_any (is_above x) (live lsas) ≡ false = pass_none (is_above x) (live lsas) (λ y has.
    let kept = has_filter is_live lsas y has in speaker.highest y kept.0 (not-true (is_at_max_age y) kept.1)) in
    let kept : Has (among lsas) x = filter_has (speaks (live lsas)) (live lsas) x alive (not_from_false (list_any (is_above x) (live lsas)) none) in
    has_from_contains (speakers lsas) x (Contains-in_order by_node (among lsas) x (contains_from_has (among lsas) x kept))

-- what stands above is told by what LSAs say
same_above : (x y u v : Lsa) → timeless x ≡ timeless y → timeless u ≡ timeless v → is_above x u ≡ is_above y v
same_above x y u v first second = ap (λ l. is_above l u) first ∙ ap (λ l. is_above y l) second

speaker_alike : (one other : List Lsa) (x : Lsa) → SayAll one other → SayAll other one → Has (speakers one) x → Has (map timeless (speakers other)) (timeless x)
speaker_alike one other x there back has =
    let speaker = speaker_is one x has in
    let found = alike one other x there speaker.there in
    let also : IsSpeaker other found.other = record {
      there = found.there;
      alive = same_age found.other x found.same ∙ speaker.alive;
      highest = λ y has_y alive_y.
          let origin = alike other one y back has_y in
          same_above found.other x y origin.other found.same (sym origin.same)
          ∙ speaker.highest origin.other origin.there (same_age origin.other y origin.same ∙ alive_y);
    } in
    subst (Has (map timeless (speakers other))) found.same (has_map timeless (speakers other) found.other (is_speaker other found.other also))

speakers_say : (one other : List Lsa) → SayAll one other → SayAll other one → SayAll (speakers one) (speakers other)
speakers_say one other there back = λ said has.
    let from = is_from timeless (speakers one) said has in
    subst (Has (map timeless (speakers other))) from.is (speaker_alike one other from.origin there back from.there)

-- LSAs that speak for one node are of one key
same_key_of : (lsas : List Lsa) (x y : Lsa) → IsKept x → IsKept y → IsSpeaker lsas x → IsSpeaker lsas y → by_node x y ≡ Equal → key_of x ≡ key_of y
same_key_of lsas x y kept_x kept_y speaks_x speaks_y tie =
    let node : node_of x ≡ node_of y = tied_nodes (node_of x) (node_of y) tie in
    let there : same_id (node_of x) (node_of y) ≡ true = subst (λ (n : NodeId). same_id (node_of x) n ≡ true) node (same_itself (node_of x)) in
    let upper : nat_lt x.router y.router ≡ false = ap (λ b. b && nat_lt x.router y.router) (sym there) ∙ speaks_x.highest y speaks_y.there speaks_y.alive in
    let lower : nat_lt y.router x.router ≡ false =
    ap (λ b. b && nat_lt y.router x.router) (sym (flipped (node_of x) (node_of y) there)) ∙ speaks_y.highest x speaks_x.there speaks_x.alive in
    let kind : x.kind ≡ y.kind = one_kind x y kept_x kept_y node in
    let id : x.id ≡ y.id = one_id x y node in
    let router : x.router ≡ y.router = omega (arith, ltb-false x.router y.router upper, ltb-false y.router x.router lower) in
    λ i. record { kind = kind i; id = id i; router = router i }

-- each stands before all the later
abbrev pub Climbs : {X : Type 0} → (X → X → Ordering) → List X → Type 0
Climbs cmp [] = Unit {0}
Climbs cmp (x ∷ xs) = AllByRecursion (λ y. is_before cmp x y ≡ true) xs × Climbs cmp xs

-- lists that climb and have the same members are one
pub one_climb : {X : Type 0} (cmp : X → X → Ordering) → IsTotalOrder cmp → (xs ys : List X) → Climbs cmp xs → Climbs cmp ys
    → ((z : X) → Has xs z → Has ys z) → ((z : X) → Has ys z → Has xs z) → xs ≡ ys
one_climb cmp total [] [] climbs climbs' there back = refl
one_climb cmp total [] (y ∷ ys) climbs climbs' there back = absurd (back y (inl refl))
one_climb cmp total (x ∷ xs) [] climbs climbs' there back = absurd (there x (inl refl))
one_climb {X} cmp total (x ∷ xs) (y ∷ ys) climbs climbs' there back =
    let above_x : (z : X) → Has xs z → is_before cmp x z ≡ true = λ z has. all_has (λ z. is_before cmp x z ≡ true) xs z climbs.0 has in
    let above_y : (z : X) → Has ys z → is_before cmp y z ≡ true = λ z has. all_has (λ z. is_before cmp y z ≡ true) ys z climbs'.0 has in
    let first : x ≡ y = elim (there x (inl refl)) [
      | inl same ↦ sym same
      | inr later_x ↦ elim (back y (inl refl)) [
        | inl same ↦ same
        | inr later_y ↦
            let ahead = above_x y later_y in
            let behind = (before_ranks cmp total).one_way y x (above_y x later_x) in
            absurd cc
      ]
    ] in
    let onward : (z : X) → Has xs z → Has ys z = λ z has. elim (there z (inr has)) [
      | inl same ↦
          let ahead : is_before cmp z z ≡ true = subst (λ u. is_before cmp u z ≡ true) (first ∙ same) (above_x z has) in
          let never = not_before_itself cmp total z in
          absurd cc
      | inr later ↦ later
    ] in
    let backward : (z : X) → Has ys z → Has xs z = λ z has. elim (back z (inr has)) [
      | inl same ↦
          let ahead : is_before cmp z z ≡ true = subst (λ u. is_before cmp u z ≡ true) (sym first ∙ same) (above_y z has) in
          let never = not_before_itself cmp total z in
          absurd cc
      | inr later ↦ later
    ] in
    let rest : xs ≡ ys = one_climb cmp total xs ys climbs.1 climbs'.1 onward backward in
    cc

-- a list that rises and has no ties climbs
climb_by : (x y : Lsa) (o : Ordering) → by_node x y ≡ o → is_before by_node y x ≡ false → (o ≡ Equal → ⊥) → is_before by_node x y ≡ true
climb_by x y Less is behind differ = ap is_lt is
climb_by x y Equal is behind differ = absurd (differ refl)
climb_by x y Greater is behind differ =
    let ahead : is_before by_node y x ≡ true = ap is_lt (nodes_total.antisymm y x ∙ ap ordering_reverse is) in absurd cc

climbs_from_rises : (xs : List Lsa) → Rises by_node xs → ((key : Key) → tally (is_of key) xs ≤ 1)
    → ((x y : Lsa) → Has xs x → Has xs y → by_node x y ≡ Equal → key_of x ≡ key_of y) → Climbs by_node xs
climbs_from_rises [] rises once ties = tt
climbs_from_rises (x ∷ xs) rises once ties = (
  all_from_has (λ y. is_before by_node x y ≡ true) xs (λ y has. climb_by x y (by_node x y) refl (all_has (λ z. is_before by_node z x ≡ false) xs y rises.0 has) (λ tie.
      let same : key_of x ≡ key_of y = ties x y (inl refl) (inr has) tie in
      let passes : is_of (key_of x) y ≡ true = subst (λ key. same_key (key_of x) key ≡ true) same (own_key (key_of x)) in
      let first : one_if (is_of (key_of x) x) ≡ 1 = ap one_if (own_key (key_of x)) in
      omega (arith, once (key_of x), first, tally_some (is_of (key_of x)) xs y has passes))),
  climbs_from_rises xs rises.1 (λ key. omega (arith, once key)) (λ y z has_y has_z tie. ties y z (inr has_y) (inr has_z) tie),
)

climbs_timeless : (xs : List Lsa) → Climbs by_node xs → Climbs by_node (map timeless xs)
climbs_timeless [] climbs = tt
climbs_timeless (x ∷ xs) climbs = (all_map (λ y. is_before by_node x y ≡ true) timeless xs climbs.0, climbs_timeless xs climbs.1)

-- LSAs that may stand in a database, of which no two have one key
pub record AreNewest (lsas : List Lsa) : Type 0 where
  pub kept : (lsa : Lsa) → Has lsas lsa → IsKept lsa
  pub once : (key : Key) → tally (is_of key) lsas ≤ 1

speakers_climb : (lsas : List Lsa) → AreNewest lsas → Climbs by_node (speakers lsas)
speakers_climb lsas newest =
    climbs_from_rises (speakers lsas) (in_order_rises by_node nodes_total (among lsas))
    (λ key. omega (arith, tally_in_order by_node (is_of key) (among lsas), tally_filtered (is_of key) (speaks (live lsas)) (live lsas), tally_filtered (is_of key) is_live lsas, newest.once key))
    (λ x y has_x has_y tie.
    let speaks_x = speaker_is lsas x has_x in
    let speaks_y = speaker_is lsas y has_y in
    same_key_of lsas x y (newest.kept x speaks_x.there) (newest.kept y speaks_y.there) speaks_x speaks_y tie)

same_speakers : (one other : List Lsa) → AreNewest one → AreNewest other → SayAll one other → SayAll other one → map timeless (speakers one) ≡ map timeless (speakers other)
same_speakers one other newest newest' there back =
    one_climb by_node nodes_total (map timeless (speakers one)) (map timeless (speakers other)) (climbs_timeless (speakers one) (speakers_climb one newest))
    (climbs_timeless (speakers other) (speakers_climb other newest')) (speakers_say one other there back) (speakers_say other one back there)

-- those that speak among live ones
abbrev pub speakers_among : List Lsa → List Lsa
speakers_among lsas = in_order by_node (filter (speaks lsas) lsas)

-- the area of LSAs that speak
abbrev pub area_by : List Lsa → AreaParts
area_by speaking = area_with (map node_of speaking) (arcs_among (entries_in speaking))

nodes_timeless : (xs : List Lsa) → map node_of (map timeless xs) ≡ map node_of xs
nodes_timeless [] = refl
nodes_timeless (x ∷ xs) = ap (λ rest. node_of x ∷ rest) (nodes_timeless xs)

entries_timeless : (xs : List Lsa) → entries_in (map timeless xs) ≡ entries_in xs
entries_timeless [] = refl
entries_timeless (x ∷ xs) = ap (λ rest. entries_of (node_of x) x.body ++ rest) (entries_timeless xs)

area_timeless : (xs : List Lsa) → area_by (map timeless xs) ≡ area_by xs
area_timeless xs =
    ap (λ ids. area_with ids (arcs_among (entries_in (map timeless xs)))) (nodes_timeless xs)
    ∙ ap (λ all. area_with (map node_of xs) (arcs_among all)) (entries_timeless xs)

-- LSAs that say the same have the same area
pub same_area : (one other : List Lsa) → AreNewest one → AreNewest other → SayAll one other → SayAll other one → area_of one ≡ area_of other
same_area one other newest newest' there back =
    sym (area_timeless (speakers one)) ∙ ap area_by (same_speakers one other newest newest' there back) ∙ area_timeless (speakers other)
