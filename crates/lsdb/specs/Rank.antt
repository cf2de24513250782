-- Which of two instances of an LSA is newer (RFC 2328, section 13.1, without its last rule: of two whose ages are more than
-- 15 minutes apart the younger would be newer. A file has no time at which its ages were read, so here the two are of one
-- rank, and are alike or in conflict).
use Rattle.std.specs.Prelude.{Bool}
use Rattle.std.specs.Ordering.{int_cmp, nat_cmp, bool_cmp, ordering_then, is_gt}
use Rattle.std.specs.declared.cmp.Ordering.{Ordering}
use Rattle.ospf_lsa.specs.MaxAge.{is_at_max_age}
use Rattle.ospf_lsa.specs.declared.lsa.Lsa.{Lsa}

-- the order of ranks: by sequence number, which has a sign, then by checksum, and then an LSA at MaxAge is above one
-- that is not
abbrev pub rank_cmp : Lsa → Lsa → Ordering
rank_cmp one other =
    ordering_then (ordering_then (int_cmp one.sequence other.sequence) (nat_cmp one.checksum other.checksum))
    (bool_cmp (is_at_max_age one) (is_at_max_age other))

-- whether the first instance is newer than the other
abbrev pub outranks : Lsa → Lsa → Bool
outranks one other = is_gt (rank_cmp one other)
