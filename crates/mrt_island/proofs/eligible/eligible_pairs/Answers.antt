use Rattle.std.proofs.Common.{◌≡◌, ◌+◌, ◌<◌, ◌++◌, ◌∙◌, ℕ, Bool, List, [], ◌∷◌, length, get_or, drop, map, sym, ap, subst, arith, append_assoc}
use Rattle.std.specs.List.{AllByRecursion}
use Rattle.std.proofs.lemmas.List.{append-nil, at_drop_more, drop_all}
use Rattle.std.proofs.lemmas.List.Elements.{All-from_recursion}
use Rattle.area_graph.specs.declared.area_types.Bond.{Bond}
use Rattle.area_graph.specs.AreaInvariant.{IsBond}
use Rattle.mrt_island.specs.Eligible.{is_eligible}
use Rattle.mrt_island.specs.Policy.{policy_of}
use Rattle.mrt_island.proofs.eligible.eligible_pairs.Goals as goal

-- a flag more
one_more : (p : Bond → Bool) (bonds : List Bond) (k : ℕ) (bond : Bond) (flag : Bool) (before after : List Bool) → k < length bonds → bond ≡ get_or bonds k bond → flag ≡ p bond
    → after ≡ before ++ flag ∷ [] → before ++ map p (drop k bonds) ≡ map p bonds → after ++ map p (drop (k + 1) bonds) ≡ map p bonds
one_more p bonds k bond flag before after within is told grown so_far =
    let rest = map p (drop (k + 1) bonds) in
    ap (λ (flags : List Bool). flags ++ rest) grown ∙ append_assoc before (flag ∷ []) rest
    ∙ ap (λ (b : Bool). before ++ b ∷ rest) (told ∙ ap p is) ∙ ap (λ (flags : List Bool). before ++ flags) (sym (at_drop_more (map p) bonds k bond within)) ∙ so_far

pub is_eligible-requires : goal.is_eligible-requires
is_eligible-requires c =
    let ids = c.args.area.now.ids in
    let bonds = c.bonds-bonds.result.now in
    subst (IsBond ids) (sym c.bond-item.is)
    (All-from_recursion (IsBond ids) bonds (subst (AllByRecursion (IsBond ids)) (sym c.bonds-bonds.ensures.value) c.bonds-bonds.ensures.kept.bonds_kept) c.loop-bond.bond-index
    c.bond-item.result c.loop-bond-test.true)

pub loop-bond-preserved : goal.loop-bond-preserved
loop-bond-preserved c = record {
  room = omega (arith, c.push_reserved.ensures.capacity);
  count = omega (arith, c.push_reserved.ensures.len);
  so_far = one_more (is_eligible (policy_of c.args.profile.now) c.args.area.now.ids) c.bonds-bonds.result.now c.loop-bond.bond-index c.bond-item.result c.is_eligible.result _ _
      c.loop-bond-test.true c.bond-item.is c.is_eligible.ensures c.push_reserved.ensures.items c.loop-bond.invariant.so_far;
}

pub returns : goal.returns
returns c =
    let p = is_eligible (policy_of c.args.profile.now) c.args.area.now.ids in
    let flags = c.loop-bond.flags.items in
    sym (append-nil flags) ∙ ap (λ (bonds : List Bond). flags ++ map p bonds) (sym (drop_all c.loop-bond.bond-index c.bonds-bonds.result.now c.loop-bond-test.false))
    ∙ c.loop-bond.invariant.so_far ∙ ap (map p) c.bonds-bonds.ensures.value
