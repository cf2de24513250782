-- Numbers of the standard that several crates name.
use Rattle.std.specs.Prelude.{ℕ}

-- the LS type of a router-LSA (RFC 2328, section A.4.1)
abbrev pub router_lsa : ℕ
router_lsa = 1

-- the LS type of a network-LSA (RFC 2328, section A.4.1)
abbrev pub network_lsa : ℕ
network_lsa = 2

-- the type of a link to another router, and of one to a transit network (RFC 2328, section A.4.2)
abbrev pub point_to_point : ℕ
point_to_point = 1

abbrev pub transit : ℕ
transit = 2

-- MaxAge, in seconds (RFC 2328, appendix B)
abbrev pub max_age : ℕ
max_age = 3600
