-- The area of a network that is made: its nodes, and how many arcs it has at most.
use Rattle.std.proofs.Common.{◌≡◌, ◌≤◌, ◌∙◌, ◌+◌, ◌*◌, ◌++◌, ◌&&◌, ℕ, zero, suc, Bool, true, false, not, nat_lt, List, [], ◌∷◌, Option, Some, None, length, map, refl, sym, ap, subst, inl, inr, arith}
use Rattle.std.specs.List.{filter, list_any, range_with_len}
use Rattle.std.specs.Option.{option_to_list}
use Rattle.std.specs.Ordering.{nat_cmp, on}
use Rattle.std.specs.Cmp.{nat_cmp_is}
use Rattle.std.specs.declared.cmp.Ordering.TheVariants.{Less}
use Rattle.std.proofs.lemmas.Bool.{false_from_ne_true, ltb-true}
use Rattle.std.proofs.lemmas.Bool.Decides.{eqb_tells}
use Rattle.std.proofs.lemmas.List.{length-append, length-map}
use Rattle.std.proofs.lemmas.List.FromFn.{length-map-range_with_len}
use Rattle.mrt_graph.specs.InOrder.{in_order, put_in_order}
use Rattle.mrt_graph.specs.NodeOrder.{node_id_cmp}
use Rattle.mrt_graph.specs.SameGraph.{same_id}
use Rattle.mrt_graph.specs.declared.node_id.NodeId.{NodeId}
use Rattle.mrt_graph.proofs.InOrder.{length-in_order}
use Rattle.mrt_graph.proofs.Members.{Has, pass_none}
use Rattle.ospf_lsa.specs.declared.lsa.Lsa.{Lsa}
use Rattle.ospf_lsa.specs.declared.lsa.RouterLink.{RouterLink}
use Rattle.ospf_lsa.specs.LsaText.{lsa_length}
use Rattle.ospf_lsa.specs.MaxAge.{is_at_max_age}
use Rattle.area_graph.specs.AreaOf.{arc_from, area_of}
use Rattle.area_graph.specs.AreaSize.{IsTooLarge}
use Rattle.area_graph.specs.Arcs.{arc_cmp, arcs, is_arc, pairing_cmp}
use Rattle.area_graph.specs.Entries.{Entry, entries, entries_in, entries_of_links, entry_of_link}
use Rattle.area_graph.specs.Nodes.{is_above, live, node_of, nodes, speakers, speaks}
use Rattle.mrt_graph.specs.NodeIds.{router as router_node}
use Rattle.mrt_survey.specs.declared.made_link.MadeLink.{MadeLink}
use Rattle.mrt_survey.specs.MadeLinks.{made_links}
use Rattle.mrt_survey.specs.MadeLsas.{ends_of, lsa_of, made_lsas}
use Rattle.mrt_survey.proofs.LsasInstalled.{lsas_from}
use Rattle.mrt_survey.proofs.MadeBounds.{count_made}
use Rattle.mrt_survey.proofs.TextSize.{all_ends, ends_from, total}

-- a filter that all pass
filter_all : {X : Type 0} (p : X → Bool) (xs : List X) → ((x : X) → Has xs x → p x ≡ true) → filter p xs ≡ xs
filter_all p [] all = refl
filter_all {X = X} p (x ∷ xs) all = rw (all x (inl refl)) (ap (λ (ys : List X). x ∷ ys) (filter_all p xs (λ y has. all y (inr has))))

pub filter_fewer : {X : Type 0} (p : X → Bool) (xs : List X) → length (filter p xs) ≤ length xs
filter_fewer p [] = omega arith
filter_fewer p (x ∷ xs) = go (p x) refl (filter_fewer p xs)
  where
    go : (b : Bool) → p x ≡ b → length (filter p xs) ≤ length xs → length (filter p (x ∷ xs)) ≤ suc (length xs)
    go true is rest = rw is (omega (arith, rest))
    go false is rest = rw is (omega (arith, rest))

-- an LSA that is made is of a router, and of age 1
record IsMade (lsa : Lsa) : Type 0 where
  kind : lsa.kind ≡ 1
  age : lsa.age ≡ 1
  own : lsa.id ≡ lsa.router

all_made : (links : List MadeLink) (at from n : ℕ) (lsa : Lsa) → Has (lsas_from links at from n) lsa → IsMade lsa
all_made links at from zero lsa has = absurd has
all_made links at from (suc n) lsa has = elim has [
  | inl same ↦ subst IsMade same (record { kind = refl; age = refl; own = refl })
  | inr later ↦ all_made links (at + lsa_length (lsa_of links from)) (from + 1) n lsa later
]

made_live : (lsa : Lsa) → IsMade lsa → not (is_at_max_age lsa) ≡ true
made_live lsa made = rw made.age refl

and_false : (a : Bool) → (a && false) ≡ false
and_false true = refl
and_false false = refl

of_router : (lsa : Lsa) → IsMade lsa → node_of lsa ≡ router_node lsa.id
of_router lsa made = rw made.kind refl

-- none is above another
not_above : (lsa other : Lsa) → IsMade lsa → IsMade other → is_above lsa other ≡ false
not_above lsa other made made' =
    (λ i. same_id (of_router lsa made i) (of_router other made' i) && nat_lt lsa.router other.router)
    ∙ elim (eqb_tells lsa.id other.id) [
      | inl same ↦
          let routers : lsa.router ≡ other.router = sym made.own ∙ same.1 ∙ made'.own in
          let none : nat_lt lsa.router other.router ≡ false = not_less lsa.router other.router routers in
          ap (λ (b : Bool). same_id (router_node lsa.id) (router_node other.id) && b) none ∙ and_false _
      | inr differ ↦ rw differ.0 refl
    ]
  where
    not_less : (a b : ℕ) → a ≡ b → nat_lt a b ≡ false
    not_less a b same = false_from_ne_true (nat_lt a b) (λ less. let l = ltb-true a b less in omega (arith, l, same))

made_in_order : (links : List MadeLink) (at from n : ℕ) → in_order (on node_of node_id_cmp) (lsas_from links at from n) ≡ lsas_from links at from n
made_in_order links at from zero = refl
made_in_order links at from (suc n) =
    ap (put_in_order (on node_of node_id_cmp) (record (lsa_of links from) { at = at }))
    (made_in_order links (at + lsa_length (lsa_of links from)) (from + 1) n)
    ∙ first n
  where
    first : (n : ℕ) → put_in_order (on node_of node_id_cmp) (record (lsa_of links from) { at = at })
        (lsas_from links (at + lsa_length (lsa_of links from)) (from + 1) n)
        ≡ record (lsa_of links from) { at = at } ∷ lsas_from links (at + lsa_length (lsa_of links from)) (from + 1) n
    first zero = refl
    first (suc n) = let below : Less ≡ nat_cmp from (from + 1) = nat_cmp_is from (from + 1) Less (omega arith) in rw (← below) refl

module _ (links : List MadeLink) (n : ℕ) where
  abbrev all : List Lsa
  all = lsas_from links 0 1 n

  all_live : live all ≡ all
  all_live = filter_all (λ lsa. not (is_at_max_age lsa)) all (λ lsa has. made_live lsa (all_made links 0 1 n lsa has))

  all_speak : (lsa : Lsa) → Has all lsa → speaks all lsa ≡ true
  all_speak lsa has =
      let made = all_made links 0 1 n lsa has in
      let none : list_any (is_above lsa) all ≡ false =
      pass_none (is_above lsa) all (λ other has'. not_above lsa other made (all_made links 0 1 n other has')) in
      rw none refl

  -- each LSA speaks for its router
  pub speakers_are : speakers all ≡ all
  speakers_are =
      ap (λ (lsas : List Lsa). in_order (on node_of node_id_cmp) (filter (speaks lsas) lsas)) all_live
      ∙ ap (in_order (on node_of node_id_cmp)) (filter_all (speaks all) all all_speak)
      ∙ made_in_order links 0 1 n

-- the nodes are the routers
routers_of : (links : List MadeLink) (at from n : ℕ) → map node_of (lsas_from links at from n) ≡ map router_node (range_with_len from n)
routers_of links at from zero = refl
routers_of links at from (suc n) =
    ap (λ (ids : List NodeId). router_node from ∷ ids) (routers_of links (at + lsa_length (lsa_of links from)) (from + 1) n)

pub made_nodes : (number nodes : ℕ) → (area_of (made_lsas number nodes)).ids ≡ map router_node (range_with_len 1 nodes)
made_nodes number count =
    ap (map node_of) (speakers_are (made_links number count) count) ∙ routers_of (made_links number count) 0 1 count

-- a router has at most as many entries as ends
few_entries : (from : NodeId) (place : ℕ) (ends : List RouterLink) → length (entries_of_links from place ends) ≤ length ends
few_entries from place [] = omega arith
few_entries from place (end ∷ ends) =
    let rest = few_entries from (place + 1) ends in
    let whole = length-append (option_to_list (entry_of_link from place end)) (entries_of_links from (place + 1) ends) in
    let one = at_most_one (entry_of_link from place end) in
    omega (arith, rest, whole, one)
  where
    at_most_one : (o : Option Entry) → length (option_to_list o) ≤ 1
    at_most_one None = omega arith
    at_most_one (Some entry) = omega arith

entries_total : (links : List MadeLink) (at from n : ℕ) → length (entries_in (lsas_from links at from n)) ≤ total (ends_from 1 links) from n
entries_total links at from zero = omega arith
entries_total links at from (suc n) =
    let next = at + lsa_length (lsa_of links from) in
    let mine = entries_of_links (router_node from) 0 (ends_of links from) in
    let whole : length (mine ++ entries_in (lsas_from links next (from + 1) n)) ≡ length mine + length (entries_in (lsas_from links next (from + 1) n)) =
    length-append mine (entries_in (lsas_from links next (from + 1) n)) in
    let own = few_entries (router_node from) 0 (ends_of links from) in
    let rest = entries_total links next (from + 1) n in
    omega (arith, whole, own, rest)

-- there are at most two arcs a link
pub made_arcs : (number nodes : ℕ) → length (arcs (made_lsas number nodes)) ≤ 2 * length (made_links number nodes)
made_arcs number count =
    let lsas = made_lsas number count in
    let all = entries lsas in
    let told : length all ≡ length (entries_in lsas) = ap (λ (speaking : List Lsa). length (entries_in speaking)) (speakers_are (made_links number count) count) in
    let ordered = length-in_order pairing_cmp (filter (is_arc all) all) in
    let passing = filter_fewer (is_arc all) all in
    let most = entries_total (made_links number count) 0 1 count in
    let ends = all_ends (made_links number count) 1 1 count in
    omega (arith, told, ordered, passing, most, ends)

pub made_area_arcs : (number nodes : ℕ) → length (area_of (made_lsas number nodes)).arcs ≤ 2 * length (made_links number nodes)
made_area_arcs number count =
    let lsas = made_lsas number count in
    let mapped = length-map (in_order arc_cmp (arcs lsas)) (arc_from (nodes lsas) (arcs lsas)) in
    let ordered = length-in_order arc_cmp (arcs lsas) in
    let few = made_arcs number count in
    omega (arith, mapped, ordered, few)

pub made_count : (number nodes : ℕ) → length (area_of (made_lsas number nodes)).ids ≡ nodes
made_count number nodes = ap length (made_nodes number nodes) ∙ length-map-range_with_len router_node 1 nodes

-- the area is within the limits
pub made_area_within : (number nodes : ℕ) → nodes ≤ 2048
    → IsTooLarge (length (area_of (made_lsas number nodes)).ids) (length (area_of (made_lsas number nodes)).arcs) → ⊥
made_area_within number nodes few over = elim over [
  | inl many ↦ let count = made_count number nodes in omega (arith, many, count, few)
  | inr many ↦ let arcs = made_area_arcs number nodes in let links = count_made number nodes in omega (arith, many, arcs, links, few)
]
