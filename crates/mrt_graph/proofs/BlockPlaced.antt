-- Where the rows of a node for those of its block stand.
use Rattle.std.proofs.Common.{◌≡◌, ◌∙◌, ◌<◌, ◌≤◌, ◌+◌, ℕ, false, List, Some, filter, length, slice_get, nat_lt, refl, sym, ap, subst, arith}
use Rattle.std.proofs.lemmas.Bool.{not-true}
use Rattle.std.proofs.lemmas.Option.{get_or_from_slice_get}
use Rattle.mrt_graph.specs.Certificate.{Certificate}
use Rattle.mrt_graph.specs.steps.Groups.{AreRising}
use Rattle.mrt_graph.specs.Groups.{count_below, has_key, with_key}
use Rattle.mrt_graph.specs.Kin.{Kin, is_child, is_upper, kin_of}
use Rattle.mrt_graph.specs.steps.Kin.{IsUpperNumber, kin_below}
use Rattle.mrt_graph.specs.Related.{are_unrelated}
use Rattle.mrt_graph.proofs.Counts.{count_lower}
use Rattle.mrt_graph.proofs.Grouping.{passing_rise}
use Rattle.mrt_graph.proofs.KinOf.{told}
use Rattle.mrt_graph.proofs.ListTests.{there}
use Rattle.mrt_graph.proofs.Tallies.{one_if}

pub children_rise : (heads : List ℕ) (s : ℕ) (children : List ℕ) → children ≡ with_key heads s → AreRising children
children_rise heads s children is = subst AreRising (sym is) (passing_rise (has_key heads s) (length heads))

pub lower_is : (heads : List ℕ) (s t : ℕ) (children : List ℕ) (lower : ℕ) → children ≡ with_key heads s → t ≤ length heads
    → lower ≡ length (filter (λ u. nat_lt u t) children) → lower ≡ count_below (is_child heads s) t
lower_is heads s t children lower is within counted =
    counted ∙ ap (λ (xs : List ℕ). length (filter (λ u. nat_lt u t) xs)) is ∙ count_lower (has_key heads s) t (length heads) within

pub upper_is : (heads : List ℕ) (s t number upper x : ℕ) → IsUpperNumber heads s number → t < length heads → x ≡ t → upper ≡ one_if (nat_lt number x)
    → upper ≡ count_below (is_upper heads s) t
upper_is heads s t number upper x are within same is = is ∙ ap (λ (y : ℕ). one_if (nat_lt number y)) same ∙ sym (are t within)

-- the nodes of the block, the head in another one and the children there are all that are related
pub before_is : (kin : Kin) (s t block rank upper lower : ℕ) → slice_get kin.blocks s ≡ Some block → rank ≡ count_below (has_key kin.blocks block) t
    → upper ≡ count_below (is_upper kin.heads s) t → lower ≡ count_below (is_child kin.heads s) t → rank + upper + lower ≡ kin_below kin s t
before_is kin s t block rank upper lower block_is rank_as upper_as lower_as =
    let own = ap (λ (k : ℕ). count_below (has_key kin.blocks k) t) (get_or_from_slice_get kin.blocks s block 0 block_is) in
    omega (arith, own, rank_as, upper_as, lower_as)

-- two nodes of one block are related
pub one_block : (c : Certificate) (kin : Kin) (s t block : ℕ) → kin_of c.nodes ≡ kin → length kin.heads ≡ length kin.blocks → s < length kin.blocks → t < length kin.blocks
    → slice_get kin.blocks s ≡ Some block → slice_get kin.blocks t ≡ Some block → are_unrelated c s t ≡ false
one_block c kin s t block same both s_in t_in s_is t_is =
    let up = there kin.heads s (omega (arith, s_in, both)) in
    let down = there kin.heads t (omega (arith, t_in, both)) in
    not-true (are_unrelated c s t) (sym ((told c kin s t block block up.0 down.0 same s_in t_in s_is t_is up.1 down.1).one_block refl))
