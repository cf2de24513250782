-- Links connect all nodes that can be reached from the first one.
use Rattle.std.proofs.Common.{◌≡◌, ◌⊎◌, ◌<◌, ◌++◌, ◌∙◌, ℕ, zero, suc, Bool, true, false, List, [], ◌∷◌, Some, length, map, replicate, set, slice_get, inl, inr, refl, sym, ap, subst, arith}
use Rattle.std.specs.Option.{option_and_then, option_map}
use Rattle.std.proofs.lemmas.Bool.{cases_eq, eq-eqb}
use Rattle.std.proofs.lemmas.List.{get_or-set_other}
use Rattle.std.proofs.lemmas.Option.{slice_get-map}
use Rattle.mrt_graph.specs.declared.link.Link.{Link}
use Rattle.mrt_graph.specs.declared.link.LinkIn.{LinkIn}
use Rattle.mrt_graph.specs.Connected.{IsConnected}
use Rattle.mrt_graph.specs.EndsOfLinks.{pair_of}
use Rattle.mrt_graph.specs.Leads.{far_node, leads}
use Rattle.mrt_graph.specs.Search.{IsMarked}
use Rattle.mrt_graph.specs.Walk.{Walk}
use Rattle.mrt_graph.proofs.Hops.{lead_back}
use Rattle.mrt_graph.proofs.Walks.{walk_joined, walk_onward}
use Rattle.graph_tests.specs.steps.Reached.{AreReached}

walk_back : (links : List Link) (walk : List ℕ) (s t : ℕ) → Walk links s walk t → (back : List ℕ) × Walk links t back s
walk_back links [] s t walks = ([], sym walks)
walk_back links (e ∷ es) s t walks =
    let rest = walk_back links es walks.0 t walks.2 in
    (_, walk_onward links rest.0 t walks.0 e s rest.1 (lead_back links e s walks.0 walks.1))

-- the start alone
none_marked : (n v : ℕ) → IsMarked (replicate n false) v → ⊥
none_marked zero v marked = cc
none_marked (suc n) zero marked = cc
none_marked (suc n) (suc v) marked = none_marked n v marked

pub start_reached : (links : List Link) (n : ℕ) → AreReached links (set (replicate n false) 0 true)
start_reached links n v marked = elim (cases_eq v 0) [
  | inl same ↦ ([], sym same)
  | inr other ↦ absurd (none_marked n v (sym (get_or-set_other (replicate n false) 0 v true false other) ∙ marked))
]

-- both nodes of a link
pub joined_reached : (links : List Link) (e a b : ℕ) (marks marks' : List Bool) → leads links e a ≡ Some b
    → ((v : ℕ) → IsMarked marks' v → IsMarked marks v ⊎ ((IsMarked marks a ⊎ IsMarked marks b) × ((v ≡ a) ⊎ (v ≡ b))))
    → AreReached links marks → AreReached links marks'
joined_reached links e a b marks marks' to only reached v marked = elim (only v marked) [
  | inl old ↦ reached v old
  | inr new ↦ elim new.0 [
    | inl at_a ↦
        let walk = reached a at_a in
        elim new.1 [
          | inl is_a ↦ (walk.0, subst (λ (w : ℕ). Walk links 0 walk.0 w) (sym is_a) walk.1)
          | inr is_b ↦ (walk.0 ++ e ∷ [], subst (λ (w : ℕ). Walk links 0 (walk.0 ++ e ∷ []) w) (sym is_b) (walk_onward links walk.0 0 a e b walk.1 to))
        ]
    | inr at_b ↦
        let walk = reached b at_b in
        elim new.1 [
          | inl is_a ↦ (
            walk.0 ++ e ∷ [],
            subst (λ (w : ℕ). Walk links 0 (walk.0 ++ e ∷ []) w) (sym is_a) (walk_onward links walk.0 0 b e a walk.1 (lead_back links e a b to)),
          )
          | inr is_b ↦ (walk.0, subst (λ (w : ℕ). Walk links 0 walk.0 w) (sym is_b) walk.1)
        ]
  ]
]

pub link_leads : (links : List LinkIn) (k : ℕ) (link : LinkIn) → slice_get links k ≡ Some link → leads (map pair_of links) k link.a ≡ Some link.b
link_leads links k link is =
    ap (λ o. option_and_then (far_node link.a) o) (slice_get-map pair_of links k ∙ ap (λ o. option_map pair_of o) is) ∙ from_first
  where
    from_first : far_node link.a (pair_of link) ≡ Some link.b
    from_first = rw (eq-eqb link.a link.a refl) refl

-- where all nodes have their marks
pub all_reached : (links : List Link) (count : ℕ) (marks : List Bool) → length marks ≡ count → ((v : ℕ) → v < length marks → IsMarked marks v) → AreReached links marks
    → IsConnected count links
all_reached links count marks one_each all reached s t s_within t_within =
    let to_s = reached s (all s (omega (arith, s_within, one_each))) in
    let to_t = reached t (all t (omega (arith, t_within, one_each))) in
    let back = walk_back links to_s.0 0 s to_s.1 in
    (_, walk_joined links back.0 to_t.0 s 0 t back.1 to_t.1)
