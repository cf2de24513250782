use Rattle.std.proofs.Common.{◌≡◌, List, map, replicate}
use Rattle.std.specs.List.{AllByRecursion}
use Rattle.ospf_lsa.specs.declared.lsa.Lsa.{Lsa}
use Rattle.flood.specs.steps.Numbers.{router_in, IsStored}
use Rattle.flood.specs.Receiving.{new_router}
use Rattle.flood.proofs.flood.new_routers.Given as goal

abbrev pub invariant-loop-number : goal.invariant-loop-number
invariant-loop-number l = record {
  told : (lsas : List Lsa) → map (router_in lsas) l.routers.items ≡ replicate l._number new_router;
  stored : (lsas : List Lsa) → AllByRecursion (λ router. IsStored lsas router.store) l.routers.items;
}
