-- Of which LSAs an area is made.
use Rattle.std.specs.Prelude.{◌==◌, ◌||◌, Bool}
use Rattle.ospf_lsa.specs.declared.lsa.Lsa.{Lsa}
use Rattle.ospf_lsa.specs.Types.{router_lsa, network_lsa}

-- whether an LSA is a router-LSA (type 1) or a network-LSA (type 2), of which an area is made
abbrev pub is_area_lsa : Lsa → Bool
is_area_lsa lsa = (lsa.kind == router_lsa) || (lsa.kind == network_lsa)
