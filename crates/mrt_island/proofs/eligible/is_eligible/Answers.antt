use Rattle.std.proofs.Common.{◌≡◌, Bool, true}
use Rattle.std.specs.Prelude.{◌&&◌}
use Rattle.mrt_island.specs.Eligible.{is_for_transit, may_end}
use Rattle.mrt_island.specs.Policy.{policy_of}
use Rattle.mrt_island.proofs.eligible.is_eligible.Goals as goal
use Rattle.mrt_island.proofs.eligible.is_eligible.Goals.{then-bond, else-bond, then-serves, else-serves, then-serves-2, else-serves-2}

-- five tests the first four of which hold
all_but_one : (a b c d e last : Bool) → a ≡ true → b ≡ true → c ≡ true → d ≡ true → last ≡ e → last ≡ (a && ((b && c) && (d && e)))
all_but_one a b c d e last p q r s is = rw (p, q, r, s) is

pub returns-then-is_for_transit : goal.returns-then-is_for_transit
returns-then-is_for_transit c =
    let at = may_end (policy_of c.args.profile.now) c.args.area.now.ids in
    let bond = c.args.bond.now in
    elim c.if-serves-2.branch [
      | then-serves-2 w ↦ elim c.if-serves.branch [
        | then-serves v ↦ elim c.if-bond.branch [
          | then-bond u ↦
              all_but_one bond.paired (at bond.a bond.data_a) (at bond.b bond.data_b) (is_for_transit bond.metric_a) (is_for_transit bond.metric_b) _ (cc) (cc) (cc) (cc)
              c.is_for_transit-then-is_for_transit.ensures
          | else-bond u ↦ cc
        ]
        | else-serves v ↦ cc
      ]
      | else-serves-2 w ↦ cc
    ]
