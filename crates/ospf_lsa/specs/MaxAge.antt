-- Which LSAs are at MaxAge (RFC 2328, section 12.1.1; RFC 1793, section 2.2).
use Rattle.std.specs.Prelude.{◌%◌, ◌^◌, Bool, nat_le}
use Rattle.ospf_lsa.specs.Types.{max_age}
use Rattle.ospf_lsa.specs.declared.lsa.Lsa.{Lsa}

-- whether its age, without the highest bit of its field, which is DoNotAge, is MaxAge or more
abbrev pub is_at_max_age : Lsa → Bool
is_at_max_age lsa = nat_le max_age (lsa.age % 2 ^ 15)
