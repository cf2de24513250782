-- One end more, while the least of a node's number and of its ends' offers is found.
use Rattle.std.proofs.Common.{◌≡◌, ◌<◌, ◌≤◌, ◌+◌, ◌∙◌, ℕ, List, Option, Some, None, slice_get, inl, inr, refl, sym, ap, subst, arith}
use Rattle.std.proofs.lemmas.Bool.{cases_lt, lt-ltb, le-ltb}
use Rattle.mrt_graph.specs.declared.link.End.{End}
use Rattle.mrt_graph.specs.declared.tree.TreeNode.{TreeNode}
use Rattle.std.proofs.lemmas.Option.{same_Some}
use Rattle.lowpoint_dfs.specs.declared.lowpoints.Lowest.{Lowest}
use Rattle.lowpoint_dfs.specs.steps.Lowering.{IsLowFrom, Own, Offered, IsLowest, lowered}
use Rattle.lowpoint_dfs.specs.Lowpoint.{offer}

same_end : (ends : List End) (j k : ℕ) (one other : End) → slice_get ends j ≡ Some one → slice_get ends k ≡ Some other → j ≡ k → Some one ≡ Some other
same_end ends j k one other at_j at_k same = sym (subst (λ (i : ℕ). slice_get ends i ≡ Some one) same at_j) ∙ at_k

offer_there : (tree : List TreeNode) (v j k : ℕ) (ends : List End) (end other : End) (o : Option ℕ) → slice_get ends k ≡ Some end → slice_get ends j ≡ Some other → j ≡ k
    → offer tree v end ≡ o → offer tree v other ≡ o
offer_there tree v j k ends end other o at there same is =
    let one : Some end ≡ Some other = same_end ends k j end other at there (sym same) in
    ap (λ (x : Option End). offer_or o x) (sym one) ∙ is
  where
    offer_or : Option ℕ → Option End → Option ℕ
    offer_or d None = d
    offer_or d (Some x) = offer tree v x

some_none : (n : ℕ) → None ≡ Some n → ⊥
some_none n same = cc

more_from : (tree : List TreeNode) (v k : ℕ) (ends : List End) (known : Lowest) → IsLowFrom tree v ends k known → IsLowFrom tree v ends (k + 1) known
more_from tree v k ends known (Own low link) = Own low link
more_from tree v k ends known (Offered place end early there offers lower link first) = Offered place end (omega (arith, early)) there offers lower link first

-- an end that offers nothing lower
no_lower : (tree : List TreeNode) (v k : ℕ) (ends : List End) (known : Lowest) → IsLowest tree v ends k known
    → ((n : ℕ) (end : End) → slice_get ends k ≡ Some end → offer tree v end ≡ Some n → known.low ≤ n) → IsLowest tree v ends (k + 1) known
no_lower tree v k ends known lowest here = record {
  own = lowest.own;
  least = λ j n end early there offers. elim (cases_lt j k) [
    | inl before ↦ lowest.least j n end before there offers
    | inr now ↦ here n end (subst (λ (i : ℕ). slice_get ends i ≡ Some end) (omega (arith, early, now)) there) offers
  ];
  from = more_from tree v k ends known lowest.from;
}

-- an end that offers a lower number
now_lower : (tree : List TreeNode) (v k n : ℕ) (ends : List End) (end : End) (known : Lowest) → IsLowest tree v ends k known → slice_get ends k ≡ Some end
    → offer tree v end ≡ Some n → n < known.low → IsLowest tree v ends (k + 1) (record { low = n; link = Some end.link })
now_lower tree v k n ends end known lowest at is lower = record {
  own = omega (arith, lower, lowest.own);
  least = λ j m other early there offers. elim (cases_lt j k) [
    | inl before ↦ omega (arith, lower, lowest.least j m other before there offers)
    | inr now ↦
        let same : n ≡ m = same_Some n m (sym (offer_there tree v j k ends end other (Some n) at there (omega (arith, early, now)) is) ∙ offers) in
        omega (arith, same)
  ];
  from = Offered k end (omega arith) at is (omega (arith, lower, lowest.own)) refl
      (λ j other early there offers. omega (arith, lower, lowest.least j n other early there offers));
}

lowest_given : (tree : List TreeNode) (v k : ℕ) (ends : List End) (end : End) (known : Lowest) (o : Option ℕ) → IsLowest tree v ends k known → slice_get ends k ≡ Some end
    → offer tree v end ≡ o → IsLowest tree v ends (k + 1) (lowered known o end.link)
lowest_given tree v k ends end known None lowest at is =
    no_lower tree v k ends known lowest
    (λ n other there offers. absurd (some_none n (sym (offer_there tree v k k ends end other None at there refl is) ∙ offers)))
lowest_given tree v k ends end known (Some n) lowest at is = elim (cases_lt n known.low) [
  | inl lower ↦ rw (lt-ltb n known.low lower) (now_lower tree v k n ends end known lowest at is lower)
  | inr higher ↦ rw (le-ltb n known.low higher) (no_lower tree v k ends known lowest
      (λ m other there offers.
      let same : n ≡ m = same_Some n m (sym (offer_there tree v k k ends end other (Some n) at there refl is) ∙ offers) in omega (arith, same, higher)))
]

pub lowest_more : (tree : List TreeNode) (v k : ℕ) (ends : List End) (end : End) (known : Lowest) → IsLowest tree v ends k known → slice_get ends k ≡ Some end
    → IsLowest tree v ends (k + 1) (lowered known (offer tree v end) end.link)
lowest_more tree v k ends end known lowest at = lowest_given tree v k ends end known (offer tree v end) lowest at refl
