-- Island nodes that destinations are, gathered one by one.
use Rattle.std.proofs.Common.{◌≡◌, ◌<◌, ◌≤◌, ◌+◌, ◌++◌, ◌∙◌, ℕ, Bool, true, false, List, [], ◌∷◌, Option, Some, get_or, length, replicate, set, slice_get, take, inl, inr, sym, ap, subst}
use Rattle.std.specs.Prelude.{◌⊎◌, ◌↔◌, Contains}
use Rattle.std.proofs.lemmas.List.{get_or-set_same, take_all, take_more}
use Rattle.std.proofs.lemmas.List.Elements.{Contains-append_left, Contains-push, Contains-push_cases}
use Rattle.std.proofs.lemmas.Option.{same_Some}
use Rattle.mrt_graph.specs.Search.{IsMarked}
use Rattle.mrt_graph.proofs.Members.{contains_none}
use Rattle.mrt_graph.proofs.Searching.{mark_kept, mark_set, no_mark_at_first}
use Rattle.primary_alt.specs.RouteLists.{RouteLists}
use Rattle.mrt_answer.specs.steps.Made.{IsWanted}

-- before the first destination
pub none_wanted : (routes : RouteLists) (n d : ℕ) → IsMarked (replicate n false) d ↔ IsWanted routes [] d
none_wanted routes n d = (λ mark. absurd (no_mark_at_first n d mark), λ is. absurd (contains_none is.t is.among))

-- one more destination, and the island node that it is, if it is one
module _ (routes : RouteLists) (spots : List ℕ) (e i : ℕ) (inside : i < length spots) (node : Option ℕ)
    (here : slice_get routes.nodes (get_or spots i e) ≡ Some node) where
  still : (d : ℕ) → IsWanted routes (take i spots) d → IsWanted routes (take (i + 1) spots) d
  still d is = record {
    t = is.t;
    among = rw (take_more spots i e inside) (Contains-append_left (take i spots) (get_or spots i e ∷ []) is.t is.among);
    is = is.is;
  }

  before_or_here : (d : ℕ) → IsWanted routes (take (i + 1) spots) d → IsWanted routes (take i spots) d ⊎ (node ≡ Some d)
  before_or_here d is =
      let among : Contains (take i spots ++ get_or spots i e ∷ []) is.t = subst (λ (xs : List ℕ). Contains xs is.t) (take_more spots i e inside) is.among in
      elim (Contains-push_cases (take i spots) (get_or spots i e) is.t among) [
        | inl before ↦ inl (record { t = is.t; among = before; is = is.is })
        | inr last ↦ inr (same_Some node (Some d) (sym here ∙ ap (λ (t : ℕ). slice_get routes.nodes t) last ∙ is.is))
      ]

  one_more : (d : ℕ) → node ≡ Some d → IsWanted routes (take (i + 1) spots) d
  one_more d is = record {
    t = get_or spots i e;
    among = rw (take_more spots i e inside) (Contains-push (take i spots) (get_or spots i e));
    is = here ∙ ap (λ (o : Option ℕ). Some o) is;
  }

  module _ (marks : List Bool) (so_far : (d : ℕ) → IsMarked marks d ↔ IsWanted routes (take i spots) d) where
    -- it is none
    pub outside_more : ((d : ℕ) → node ≡ Some d → ⊥) → (d : ℕ) → IsMarked marks d ↔ IsWanted routes (take (i + 1) spots) d
    outside_more none d = (
      λ mark. still d ((so_far d).0 mark),
      λ is. elim (before_or_here d is) [ inl before ↦ (so_far d).1 before | inr now ↦ absurd (none d now) ],
    )

    -- it is this one
    pub node_more : (u : ℕ) → node ≡ Some u → u < length marks → (d : ℕ) → IsMarked (set marks u true) d ↔ IsWanted routes (take (i + 1) spots) d
    node_more u is within d = (
      λ mark. elim (mark_set marks u d within mark) [
        | inl before ↦ still d ((so_far d).0 before)
        | inr same ↦ one_more d (is ∙ ap (λ (k : ℕ). Some k) (sym same))
      ],
      λ wanted. elim (before_or_here d wanted) [
        | inl before ↦ mark_kept marks u d within ((so_far d).1 before)
        | inr now ↦ subst (λ (k : ℕ). IsMarked (set marks u true) k) (same_Some u d (sym is ∙ now)) (get_or-set_same marks u true false within)
      ],
    )

-- all of them
pub all_wanted : (routes : RouteLists) (spots : List ℕ) (i : ℕ) (marks : List Bool) → length spots ≤ i
    → ((d : ℕ) → IsMarked marks d ↔ IsWanted routes (take i spots) d) → (d : ℕ) → IsMarked marks d ↔ IsWanted routes spots d
all_wanted routes spots i marks past so_far d = subst (λ (xs : List ℕ). IsMarked marks d ↔ IsWanted routes xs d) (take_all i spots past) (so_far d)
