-- The newest instances of an LSA (RFC 2328, section 13.1), and whether they agree.
use Rattle.std.specs.Prelude.{◌≡◌, Bool, true, false, not, ◌&&◌, ◌==◌, List, nat_eq}
use Rattle.std.specs.Cmp.Lexicographic.{pointwise}
use Rattle.std.specs.Ordering.{int_eq}
use Rattle.std.specs.List.{filter, list_all, list_any}
use Rattle.ospf_lsa.specs.declared.lsa.RouterLink.{RouterLink}
use Rattle.ospf_lsa.specs.declared.lsa.Body.{Body}
use Rattle.ospf_lsa.specs.declared.lsa.Body.TheVariants.{Router, Network, Other}
use Rattle.ospf_lsa.specs.declared.lsa.Lsa.{Lsa}
use Rattle.lsdb.specs.declared.key.Key.{Key}
use Rattle.lsdb.specs.Keys.{key_of, is_of}
use Rattle.lsdb.specs.Rank.{outranks}

-- whether two links of router-LSAs are alike
abbrev pub same_link : RouterLink → RouterLink → Bool
same_link one other =
    (one.id == other.id) && ((one.link_data == other.link_data) && ((one.kind == other.kind)
    && ((one.entries == other.entries) && (one.metric == other.metric))))

-- whether two bodies are alike
abbrev pub same_body : Body → Body → Bool
same_body (Router flags spare links tos) (Router flags' spare' links' tos') =
    (flags == flags') && ((spare == spare') && (pointwise same_link links links' && pointwise nat_eq tos tos'))
same_body (Network mask routers) (Network mask' routers') = (mask == mask') && pointwise nat_eq routers routers'
same_body (Other bytes) (Other bytes') = pointwise nat_eq bytes bytes'
same_body _ _ = false

-- whether two instances differ in nothing but their place in the file and their age
abbrev pub same_but_age : Lsa → Lsa → Bool
same_but_age one other =
    (((((one.options == other.options) && (one.kind == other.kind)) && (one.id == other.id))
    && (one.router == other.router)) && int_eq one.sequence other.sequence) && (one.checksum == other.checksum)
    && same_body one.body other.body

-- whether no instance of an LSA's key has a greater rank than this one
abbrev pub is_newest : List Lsa → Lsa → Bool
is_newest lsas lsa = not (list_any (λ other. is_of (key_of lsa) other && outranks other lsa) lsas)

-- the newest instances of a key, in their order
abbrev pub newest_of : List Lsa → Key → List Lsa
newest_of lsas key = filter (λ lsa. is_of key lsa && is_newest lsas lsa) lsas

-- whether any two of these instances differ in nothing but their place and their age
abbrev pub are_alike : List Lsa → Bool
are_alike lsas = list_all (λ one. list_all (same_but_age one) lsas) lsas

-- the newest instances of each key are alike
abbrev pub IsSettled : List Lsa → Type 0
IsSettled lsas = (key : Key) → are_alike (newest_of lsas key) ≡ true
