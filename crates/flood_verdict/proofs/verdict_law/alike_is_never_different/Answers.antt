use Rattle.flood_verdict.proofs.AlikeTold.{FloodLaws, never_different}
use Rattle.flood_verdict.proofs.OneVerdict.{CertLaws}
use Rattle.flood_verdict.proofs.verdict_law.alike_is_never_different.Goals as goal

pub returns : goal.returns
returns c =
    let laws : FloodLaws = record { the_same = c.the_same_deliveries_give_the_same_database.ensures.newest; flooded = c.flooding_converges.ensures.newest; one_area = c.newest_of_the_same_give_one_area.ensures } in
    let certs : CertLaws = record { one_island = c.a_router_has_one_island.ensures.one; one_certificate = c.one_certificate.ensures.one } in
    λ settings updates count deliveries one other router its others may_flood alike its_are others_are.
    never_different laws certs settings updates count may_flood deliveries one other its others its_are others_are router
    alike
