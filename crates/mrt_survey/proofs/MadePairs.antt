-- Between the two routers of a link that is made there is a pair of arcs.
use Rattle.std.proofs.Common.{◌≡◌, ◌≢◌, ◌≤◌, ◌<◌, ◌⊎◌, ◌∙◌, ◌+◌, ◌++◌, ◌==◌, ◌&&◌, ℕ, zero, suc, Bool, true, false, List, [], ◌∷◌, Option, Some, None, refl, sym, ap, subst, inl, inr, arith}
use Rattle.std.specs.List.{enumerate_from, filter, filter_map, find, list_any, position_or_len}
use Rattle.std.specs.Option.{is_some, option_map, option_to_list}
use Rattle.std.proofs.lemmas.Bool.{and_from, and_parts, cases_Bool, cases_eq, eq-eqb, eqb-true, ne_eqb, true≢false}
use Rattle.mrt_graph.specs.InOrder.{in_order}
use Rattle.mrt_graph.specs.SameGraph.{same_id}
use Rattle.mrt_graph.specs.declared.node_id.NodeId.{NodeId}
use Rattle.mrt_graph.proofs.InOrder.{Contains-in_order}
use Rattle.mrt_graph.proofs.Members.{Has, all_has, contains_from_has, filter_has, has_filter, has_from_contains, none_pass}
use Rattle.mrt_graph.proofs.NodeIds.{same_parts}
use Rattle.ospf_lsa.specs.declared.lsa.Lsa.{Lsa}
use Rattle.ospf_lsa.specs.declared.lsa.RouterLink.{RouterLink}
use Rattle.ospf_lsa.specs.LsaText.{lsa_length}
use Rattle.area_graph.specs.Arcs.{answers, arcs, is_arc, pairing_cmp}
use Rattle.area_graph.specs.Bonds.{are_partners, parallels, partner, same_entry, turn_of}
use Rattle.area_graph.specs.Entries.{Entry, entries, entries_in, entries_of_links, entry_of_link, far_of}
use Rattle.mrt_graph.specs.NodeIds.{router as router_node}
use Rattle.mrt_survey.specs.declared.made_link.MadeLink.{MadeLink}
use Rattle.mrt_survey.specs.MadeLinks.{made_links}
use Rattle.mrt_survey.specs.MadeLsas.{end_at, ends_of, link_to, lsa_of, made_lsas}
use Rattle.mrt_survey.proofs.LsasInstalled.{lsas_from}
use Rattle.mrt_survey.proofs.MadeArea.{speakers_are}
use Rattle.mrt_survey.proofs.MadeBounds.{IsMadeLink, links_kept}

-- what a function gives of a member is a member
has_given : {X Y : Type 0} (h : X → Option Y) (xs : List X) (x : X) (y : Y) → Has xs x → h x ≡ Some y → Has (filter_map h xs) y
has_given h [] x y has is = absurd has
has_given {Y = Y} h (z ∷ zs) x y has is = elim has [
  | inl same ↦ let here : h z ≡ Some y = ap h same ∙ is in rw here (inl refl)
  | inr later ↦ go (h z) refl (has_given h zs x y later is)
]
  where
    go : (o : Option Y) → h z ≡ o → Has (filter_map h zs) y → Has (filter_map h (z ∷ zs)) y
    go None at rest = rw at rest
    go (Some w) at rest = rw at (inr rest)

pub has_either : {X : Type 0} (xs ys : List X) (x : X) → Has xs x ⊎ Has ys x → Has (xs ++ ys) x
has_either [] ys x has = elim has [ inl none ↦ absurd none | inr second ↦ second ]
has_either (y ∷ xs) ys x has = elim has [
  | inl first ↦ elim first [ inl same ↦ inl same | inr later ↦ inr (has_either xs ys x (inl later)) ]
  | inr second ↦ inr (has_either xs ys x (inr second))
]

some_any : {X : Type 0} (p : X → Bool) (xs : List X) (x : X) → Has xs x → p x ≡ true → list_any p xs ≡ true
some_any p xs x has passes = elim (cases_Bool (list_any p xs)) [
  | inl any ↦ any
  | inr none ↦ absurd (true≢false (sym passes ∙ none_pass p xs x none has))
]

some_found : {X : Type 0} (p : X → Bool) (xs : List X) (x : X) → Has xs x → p x ≡ true → is_some (find p xs) ≡ true
some_found p [] x has passes = absurd has
some_found p (y ∷ ys) x has passes = elim (cases_Bool (p y)) [
  | inl first ↦ rw first refl
  | inr fails ↦ rw fails (elim has [
    | inl same ↦ absurd (true≢false (sym passes ∙ ap p (sym same) ∙ fails))
    | inr later ↦ some_found p ys x later passes
  ])
]

-- a link has its number
has_number : (from : ℕ) (links : List MadeLink) (link : MadeLink) → Has links link → (k : ℕ) × Has (enumerate_from from links) (k, link)
has_number from [] link has = absurd has
has_number from (x ∷ xs) link has = elim has [
  | inl same ↦ (from, inl (λ i. (from, same i)))
  | inr later ↦ let rest = has_number (from + 1) xs link later in (rest.0, inr rest.1)
]

-- an end at a router, to another one
record HasEnd (links : List MadeLink) (v far : ℕ) : Type 0 where
  end : RouterLink
  there : Has (ends_of links v) end
  to : end.id ≡ far
  point : end.kind ≡ 1

first_end : (links : List MadeLink) (link : MadeLink) → Has links link → HasEnd links link.first link.second
first_end links link has =
    let number = has_number 1 links link has in
    let here : end_at link.first (number.0, link) ≡ Some (link_to link.second number.0 link.first_metric) = rw (eq-eqb link.first link.first refl) refl in
    record {
      end = link_to link.second number.0 link.first_metric;
      there = has_given (end_at link.first) (enumerate_from 1 links) (number.0, link) (link_to link.second number.0 link.first_metric) number.1 here;
      to = refl;
      point = refl;
    }

second_end : (links : List MadeLink) (link : MadeLink) → Has links link → link.first ≢ link.second → HasEnd links link.second link.first
second_end links link has differ =
    let number = has_number 1 links link has in
    let here : end_at link.second (number.0, link) ≡ Some (link_to link.first number.0 link.second_metric) =
    rw (ne_eqb link.first link.second differ, eq-eqb link.second link.second refl) refl in
    record {
      end = link_to link.first number.0 link.second_metric;
      there = has_given (end_at link.second) (enumerate_from 1 links) (number.0, link) (link_to link.first number.0 link.second_metric) number.1 here;
      to = refl;
      point = refl;
    }

-- an entry among others, from one router to another
pub record HasWay (all : List Entry) (a b : ℕ) : Type 0 where
  pub entry : Entry
  pub there : Has all entry
  pub from : entry.from ≡ router_node a
  pub to : entry.to ≡ router_node b

-- the entry of an end
abbrev entry_by : ℕ → ℕ → RouterLink → Entry
entry_by v place end = record { from = router_node v; to = router_node end.id; metric = end.metric; link_data = end.link_data; place = place }

end_entry : (v far place : ℕ) (ends : List RouterLink) (end : RouterLink) → Has ends end → end.id ≡ far → end.kind ≡ 1 → v ≢ far
    → HasWay (entries_of_links (router_node v) place ends) v far
end_entry v far place [] end has to point differ = absurd has
end_entry v far place (x ∷ xs) end has to point differ = elim has [
  | inl same ↦ here (ap (λ (e : RouterLink). e.id) same ∙ to) (ap (λ (e : RouterLink). e.kind) same ∙ point)
  | inr later ↦ after (end_entry v far (place + 1) xs end later to point differ)
]
  where
    here : x.id ≡ far → x.kind ≡ 1 → HasWay (entries_of_links (router_node v) place (x ∷ xs)) v far
    here to point =
        let leads : far_of v x ≡ Some (router_node x.id) = rw (eq-eqb x.kind 1 point, ne_eqb x.id v (λ same. differ (sym same ∙ to))) refl in
        let is : entry_of_link (router_node v) place x ≡ Some (entry_by v place x) =
        ap (option_map (λ (to : NodeId). record { from = router_node v; to = to; metric = x.metric; link_data = x.link_data; place = place })) leads in
        record {
          entry = entry_by v place x;
          there = has_either (option_to_list (entry_of_link (router_node v) place x)) (entries_of_links (router_node v) (place + 1) xs) (entry_by v place x)
              (inl (rw is (inl refl)));
          from = refl;
          to = ap router_node to;
        }

    after : HasWay (entries_of_links (router_node v) (place + 1) xs) v far → HasWay (entries_of_links (router_node v) place (x ∷ xs)) v far
    after rest = record {
      entry = rest.entry;
      there = has_either (option_to_list (entry_of_link (router_node v) place x)) (entries_of_links (router_node v) (place + 1) xs) rest.entry (inr rest.there);
      from = rest.from;
      to = rest.to;
    }

lsa_entry : (links : List MadeLink) (at from n v : ℕ) (entry : Entry) → from ≤ v → v < from + n → Has (entries_of_links (router_node v) 0 (ends_of links v)) entry
    → Has (entries_in (lsas_from links at from n)) entry
lsa_entry links at from zero v entry least most has = absurd (omega (arith, least, most))
lsa_entry links at from (suc n) v entry least most has =
    let next = at + lsa_length (lsa_of links from) in
    has_either (entries_of_links (router_node from) 0 (ends_of links from)) (entries_in (lsas_from links next (from + 1) n)) entry
    (elim (cases_eq from v) [
      | inl same ↦ inl (subst (λ (u : ℕ). Has (entries_of_links (router_node u) 0 (ends_of links u)) entry) (sym same) has)
      | inr later ↦ inr (lsa_entry links next (from + 1) n v entry (omega (arith, least, later)) (omega (arith, most)) has)
    ])

same_itself : (x : NodeId) → same_id x x ≡ true
same_itself x = rw (eq-eqb x.number x.number refl) (eq-eqb _ _ refl)

same_node : (x y : NodeId) → x ≡ y → same_id x y ≡ true
same_node x y same = subst (λ (z : NodeId). same_id x z ≡ true) same (same_itself x)

same_nodes : (x y : NodeId) → same_id x y ≡ true → x ≡ y
same_nodes x y same =
    let parts = and_parts (x.number == y.number) _ same in
    same_parts x y (eqb-true x.number y.number parts.0) (eqb-true _ _ parts.1)

-- whether an arc leads from the one node to the other
abbrev is_way : NodeId → NodeId → Entry → Bool
is_way from to arc = same_id arc.from from && same_id arc.to to

-- the first of the arcs from the one router to the other
pub record HasFirst (all : List Entry) (a b : ℕ) : Type 0 where
  pub way : HasWay all a b
  pub first : turn_of all way.entry ≡ 0

abbrev ways_of : List Entry → ℕ → ℕ → List Entry
ways_of all a b = parallels all (router_node a) (router_node b)

listed : (all : List Entry) (a b : ℕ) (arc : Entry) → Has all arc → arc.from ≡ router_node a → arc.to ≡ router_node b → Has (ways_of all a b) arc
listed all a b arc has from to =
    filter_has (is_way (router_node a) (router_node b)) all arc has
    (and_from (same_id arc.from (router_node a)) _ (same_node arc.from (router_node a) from) (same_node arc.to (router_node b) to))

first_place : (arc : Entry) (rest : List Entry) → position_or_len (same_entry arc) (arc ∷ rest) ≡ 0
first_place arc rest =
    let itself : same_entry arc arc ≡ true =
    and_from (same_id arc.from arc.from) (arc.place == arc.place) (same_itself arc.from) (eq-eqb arc.place arc.place refl) in
    rw itself refl

first_of : (all : List Entry) (a b : ℕ) → HasWay all a b → HasFirst all a b
first_of all a b some = go (ways_of all a b) refl
  where
    go : (ways : List Entry) → ways_of all a b ≡ ways → HasFirst all a b
    go [] none =
        absurd (subst (λ (ways : List Entry). Has ways some.entry) none (listed all a b some.entry some.there some.from some.to))
    go (arc ∷ rest) is =
        let kept = has_filter (is_way (router_node a) (router_node b)) all arc (subst (λ (ways : List Entry). Has ways arc) (sym is) (inl refl)) in
        let parts = and_parts (same_id arc.from (router_node a)) _ kept.1 in
        let from : arc.from ≡ router_node a = same_nodes arc.from (router_node a) parts.0 in
        let to : arc.to ≡ router_node b = same_nodes arc.to (router_node b) parts.1 in
        record {
          way = record { entry = arc; there = kept.0; from = from; to = to };
          first = ap (λ (u : NodeId). position_or_len (same_entry arc) (parallels all u arc.to)) from
              ∙ ap (λ (v : NodeId). position_or_len (same_entry arc) (parallels all (router_node a) v)) to
              ∙ ap (position_or_len (same_entry arc)) is ∙ first_place arc rest;
        }

-- an arc that has a partner
pub record HasPair (all : List Entry) (a b : ℕ) : Type 0 where
  pub way : HasWay all a b
  pub paired : is_some (partner all way.entry) ≡ true

-- where ways lead there and back, a pair does
pub pair_of_ways : (all : List Entry) (a b : ℕ) → HasWay all a b → HasWay all b a → HasPair all a b
pair_of_ways all a b there back =
    let one = first_of all a b there in
    let other = first_of all b a back in
    record {
      way = one.way;
      paired = some_found (are_partners all one.way.entry) all other.way.entry other.way.there
          (and_from (answers one.way.entry other.way.entry) _
          (and_from (same_id other.way.entry.from one.way.entry.to) _
          (same_node other.way.entry.from one.way.entry.to (other.way.from ∙ sym one.way.to))
          (same_node other.way.entry.to one.way.entry.from (other.way.to ∙ sym one.way.from)))
          (eq-eqb (turn_of all other.way.entry) (turn_of all one.way.entry) (other.first ∙ sym one.first)));
    }

-- of entries that lead there and back, arcs do
arc_way : (all : List Entry) (a b : ℕ) → HasWay all a b → HasWay all b a → HasWay (in_order pairing_cmp (filter (is_arc all) all)) a b
arc_way all a b there back =
    let passes : is_arc all there.entry ≡ true =
    some_any (answers there.entry) all back.entry back.there
    (and_from (same_id back.entry.from there.entry.to) _ (same_node back.entry.from there.entry.to (back.from ∙ sym there.to))
    (same_node back.entry.to there.entry.from (back.to ∙ sym there.from))) in
    let kept = filter_has (is_arc all) all there.entry there.there passes in
    record {
      entry = there.entry;
      there = has_from_contains (in_order pairing_cmp (filter (is_arc all) all)) there.entry
          (Contains-in_order pairing_cmp (filter (is_arc all) all) there.entry (contains_from_has (filter (is_arc all) all) there.entry kept));
      from = there.from;
      to = there.to;
    }

module _ (number nodes : ℕ) (some : 4 ≤ nodes) where
  abbrev links : List MadeLink
  links = made_links number nodes

  entry_way : (v far : ℕ) → 1 ≤ v → v ≤ nodes → v ≢ far → HasEnd links v far → HasWay (entries (made_lsas number nodes)) v far
  entry_way v far least most differ end =
      let way = end_entry v far 0 (ends_of links v) end.end end.there end.to end.point differ in
      let there : Has (entries_in (made_lsas number nodes)) way.entry = lsa_entry links 0 1 nodes v way.entry least (omega (arith, most)) way.there in
      record {
        entry = way.entry;
        there = subst (λ (speaking : List Lsa). Has (entries_in speaking) way.entry) (sym (speakers_are links nodes)) there;
        from = way.from;
        to = way.to;
      }

  -- a link of the network makes a pair, in each direction
  pub link_pairs : (link : MadeLink) → Has links link
      → HasPair (arcs (made_lsas number nodes)) link.first link.second × HasPair (arcs (made_lsas number nodes)) link.second link.first
  link_pairs link has =
      let kept = all_has (IsMadeLink nodes) links link (links_kept nodes some number) has in
      let all = entries (made_lsas number nodes) in
      let there = entry_way link.first link.second kept.first_some kept.first_most kept.different (first_end links link has) in
      let back = entry_way link.second link.first kept.second_some kept.second_most (λ same. kept.different (sym same)) (second_end links link has kept.different) in
      let arc = arc_way all link.first link.second there back in
      let arc_back = arc_way all link.second link.first back there in (
        pair_of_ways (arcs (made_lsas number nodes)) link.first link.second arc arc_back,
        pair_of_ways (arcs (made_lsas number nodes)) link.second link.first arc_back arc,
      )
