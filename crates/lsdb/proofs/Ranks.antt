-- The order of ranks.
use Rattle.std.proofs.Common.{◌≡◌, ◌∙◌, true, false, refl, sym, ap}
use Rattle.std.specs.Cmp.{IsTotalOrder, bool_cmp_total}
use Rattle.std.specs.Ordering.{is_gt, ordering_reverse}
use Rattle.std.specs.declared.cmp.Ordering.{Ordering}
use Rattle.std.specs.declared.cmp.Ordering.TheVariants.{Less, Equal, Greater}
use Rattle.std.proofs.lemmas.Cmp.{then_total, on_total, int_cmp_total, nat_cmp_total}
use Rattle.ospf_lsa.specs.declared.lsa.Lsa.{Lsa}
use Rattle.ospf_lsa.specs.MaxAge.{is_at_max_age}
use Rattle.lsdb.specs.Rank.{rank_cmp, outranks}

pub ranks_total : IsTotalOrder rank_cmp
ranks_total =
    then_total (then_total (on_total (λ (l : Lsa). l.sequence) int_cmp_total)
    (on_total (λ (l : Lsa). l.checksum) nat_cmp_total)) (on_total is_at_max_age bool_cmp_total)

pub flipped : (x y : Lsa) (r : Ordering) → rank_cmp x y ≡ r → rank_cmp y x ≡ ordering_reverse r
flipped x y r is = ranks_total.antisymm y x ∙ ap ordering_reverse is

own_reverse : (r : Ordering) → r ≡ ordering_reverse r → r ≡ Equal
own_reverse Less h = absurd cc
own_reverse Equal h = refl
own_reverse Greater h = absurd cc

pub none_outranks_itself : (x : Lsa) → outranks x x ≡ false
none_outranks_itself x = ap is_gt (own_reverse (rank_cmp x x) (ranks_total.antisymm x x))

pub greater_is : (r : Ordering) → is_gt r ≡ true → r ≡ Greater
greater_is Less h = absurd cc
greater_is Equal h = absurd cc
greater_is Greater h = refl

pub greater_trans : (a b c : Lsa) → rank_cmp a b ≡ Greater → rank_cmp b c ≡ Greater → rank_cmp a c ≡ Greater
greater_trans a b c ab bc = flipped c a Less (ranks_total.trans c b a (flipped b c Greater bc) (flipped a b Greater ab))

-- what is above one that is not outranked by a third is above the third
above_by : (r : Ordering) (x l m : Lsa) → rank_cmp l m ≡ r → is_gt r ≡ false → rank_cmp x m ≡ Greater
    → rank_cmp x l ≡ Greater
above_by Less x l m is free xm = greater_trans x m l xm (flipped l m Less is)
above_by Equal x l m is free xm = flipped l x Less (ranks_total.congr l m x is ∙ flipped x m Greater xm)
above_by Greater x l m is free xm = absurd cc

pub above : (x l m : Lsa) → outranks l m ≡ false → rank_cmp x m ≡ Greater → rank_cmp x l ≡ Greater
above x l m free xm = above_by (rank_cmp l m) x l m refl free xm

pub same_above : (x m l : Lsa) → rank_cmp x m ≡ Equal → outranks x l ≡ outranks m l
same_above x m l is = ap is_gt (ranks_total.congr x m l is)

pub same_below : (x m l : Lsa) → rank_cmp x m ≡ Equal → outranks l x ≡ outranks l m
same_below x m l is =
    ap is_gt (ranks_total.antisymm l x ∙ ap ordering_reverse (ranks_total.congr x m l is)
    ∙ sym (ranks_total.antisymm l m))
