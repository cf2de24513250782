-- LSAs without a fault of the types that a database takes may stand in one.
use Rattle.std.proofs.Common.{◌≡◌, ◌⊎◌}
use Rattle.ospf_lsa.specs.Lsas.{IsLsa}
use Rattle.ospf_lsa.specs.Types.{router_lsa, network_lsa}
use Rattle.ospf_lsa.specs.declared.lsa.Lsa.{Lsa}
use Rattle.lsdb.specs.Installing.{IsKept}

pub read_is_kept : (lsa : Lsa) → IsLsa lsa → (lsa.kind ≡ router_lsa) ⊎ (lsa.kind ≡ network_lsa) → IsKept lsa
read_is_kept lsa is type = record { type = type; body = is.of_type; own_id = is.own_id; metrics = is.metrics }
