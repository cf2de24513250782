-- Lists that hold the same instances.
use Rattle.std.proofs.Common.{◌≡◌, ◌⊎◌, Bool, true, false, List, [], ◌∷◌, Contains, map, inl, inr, refl, sym, subst}
use Rattle.std.specs.Prelude.{◌≢◌}
use Rattle.std.specs.List.Sorted.{IsPermutation}
use Rattle.std.proofs.lemmas.List.Sorted.{Contains-permutation, IsPermutation-sym}
use Rattle.mrt_graph.proofs.Members.{Has, contains_from_has, has_from_contains, has_map, is_from}
use Rattle.ospf_lsa.specs.MaxAge.{is_at_max_age}
use Rattle.ospf_lsa.specs.declared.lsa.Lsa.{Lsa}
use Rattle.lsdb.specs.Instances.{DifferInMaxAge, HoldTheSameButAge, HoldTheSameInstances, IsSameInstance}
use Rattle.lsdb.specs.Newest.{same_but_age, IsSettled}
use Rattle.lsdb.specs.Orders.{newest_in, timeless, HoldTheSame}
use Rattle.lsdb.proofs.Agreements.{same_agree}
use Rattle.lsdb.proofs.Alike.{alike_equiv}
use Rattle.lsdb.proofs.Reordered.{newest_reordered}
use Rattle.lsdb.proofs.Timeless.{same_age}

-- ---- of settled lists that hold the same LSAs

-- LSAs that are one but for their places and the seconds of their ages are the same instance
same_instance : (x y : Lsa) → timeless x ≡ timeless y → IsSameInstance x y
same_instance x y same = record {
  alike = subst (λ (z : Lsa). same_but_age (timeless x) z ≡ true) same (alike_equiv.refl (timeless x));
  max_age = same_age x y same;
}

like_in : (one other : List Lsa) → IsPermutation (map timeless one) (map timeless other) → (lsa : Lsa) → Contains one lsa
    → (found : Lsa) × Contains other found × (timeless found ≡ timeless lsa)
like_in one other moves lsa has =
    let from = is_from timeless other (timeless lsa)
    (has_from_contains (map timeless other) (timeless lsa)
    (Contains-permutation (map timeless one) (map timeless other) (timeless lsa) moves
    (contains_from_has (map timeless one) (timeless lsa) (has_map timeless one lsa (has_from_contains one lsa has))))) in
    (from.origin, contains_from_has other from.origin from.there, from.is)

pub settled_instances : (lsas others : List Lsa) → HoldTheSame lsas others → IsSettled lsas
    → HoldTheSameInstances (newest_in lsas) (newest_in others)
settled_instances lsas others same settled =
    let moves = newest_reordered lsas others (same_agree lsas others same) settled in
    let back = IsPermutation-sym (map timeless (newest_in lsas)) (map timeless (newest_in others)) moves in
    record {
      there = λ lsa has.
          let found = like_in (newest_in lsas) (newest_in others) moves lsa has in
          (found.0, found.1, same_instance lsa found.0 (sym found.2));
      back = λ other has.
          let found = like_in (newest_in others) (newest_in lsas) back other has in
          (found.0, found.1, same_instance found.0 other found.2);
    }

-- ---- of lists that differ in ages

same_or_not : (a b : Bool) → (a ≡ b) ⊎ (a ≢ b)
same_or_not true true = inl refl
same_or_not false false = inl refl
same_or_not true false = inr (λ same. absurd cc)
same_or_not false true = inr (λ same. absurd cc)

-- one LSA like this one is among the others
abbrev Likes : (Lsa → Lsa → Type 0) → List Lsa → Lsa → Type 0
Likes IsLike others lsa = (other : Lsa) × Contains others other × IsLike lsa other

-- where each that is like another is the same or they differ, each of a list is the same as some other, or some differ
each_or : (IsLike Same : Lsa → Lsa → Type 0) (Differ : Type 0) (others lsas : List Lsa)
    → ((lsa : Lsa) → Has lsas lsa → (like : Likes IsLike others lsa) → Same lsa like.0 ⊎ Differ)
    → ((lsa : Lsa) → Has lsas lsa → Likes IsLike others lsa)
    → ((lsa : Lsa) → Has lsas lsa → Likes Same others lsa) ⊎ Differ
each_or IsLike Same Differ others [] same_here like = inl (λ lsa has. absurd has)
each_or IsLike Same Differ others (x ∷ lsas) same_here like =
    let found : Likes IsLike others x = like x (inl refl) in
    elim (same_here x (inl refl) found) [
      | inr differ ↦ inr differ
      | inl same ↦ elim (each_or IsLike Same Differ others lsas (λ lsa later. same_here lsa (inr later)) (λ lsa later. like lsa (inr later))) [
        | inr differ ↦ inr differ
        | inl rest ↦ inl (λ lsa has. elim has [
          | inl is ↦ subst (Likes Same others) is (found.0, found.1, same)
          | inr later ↦ rest lsa later
        ])
      ]
    ]

pub same_or_differ : (lsas others : List Lsa) → HoldTheSameButAge lsas others → HoldTheSameInstances lsas others ⊎ DifferInMaxAge lsas others
same_or_differ lsas others hold =
    let told : (one other : Lsa) → Contains lsas one → Contains others other → same_but_age one other ≡ true
    → IsSameInstance one other ⊎ DifferInMaxAge lsas others =
    λ one other in_one in_other alike. elim (same_or_not (is_at_max_age one) (is_at_max_age other)) [
      | inl same ↦ inl (record { alike = alike; max_age = same })
      | inr differ ↦ inr (record { one = one; in_one = in_one; other = other; in_other = in_other; alike = alike; max_age = differ })
    ] in
    let there : ((lsa : Lsa) → Has lsas lsa → Likes IsSameInstance others lsa) ⊎ DifferInMaxAge lsas others =
    each_or (λ one other. same_but_age one other ≡ true) IsSameInstance (DifferInMaxAge lsas others) others lsas
    (λ lsa has like. told lsa like.0 (contains_from_has lsas lsa has) like.1 like.2)
    (λ lsa has. hold.there lsa (contains_from_has lsas lsa has)) in
    let back : ((other : Lsa) → Has others other → Likes (λ y x. IsSameInstance x y) lsas other) ⊎ DifferInMaxAge lsas others =
    each_or (λ other one. same_but_age one other ≡ true) (λ other one. IsSameInstance one other) (DifferInMaxAge lsas others) lsas others
    (λ other has like. told like.0 other like.1 (contains_from_has others other has) like.2)
    (λ other has. hold.back other (contains_from_has others other has)) in
    elim there [
      | inr differ ↦ inr differ
      | inl all_there ↦ elim back [
        | inr differ ↦ inr differ
        | inl all_back ↦ inl (record {
          there = λ lsa has. all_there lsa (has_from_contains lsas lsa has);
          back = λ other has. all_back other (has_from_contains others other has);
        })
      ]
    ]
