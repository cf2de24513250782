-- LSAs without a fault (RFC 2328, sections 12.1.6, 12.1.7 and A.4).
use Rattle.std.specs.Prelude.{◌≡◌, ◌≢◌, ◌<◌, ◌^◌, ◌+◌, ◌||◌, ◌&&◌, ◌==◌, ℕ, Bool, true, false, List, [], ◌∷◌, length}
use Rattle.std.specs.Int.{w32, cast_signed}
use Rattle.std.specs.Int.RustNames.{FitsSigned}
use Rattle.std.specs.List.{list_any, sum_by, AllByRecursion}
use Rattle.ospf_lsa.specs.declared.lsa.RouterLink.{RouterLink}
use Rattle.ospf_lsa.specs.declared.lsa.Body.{Body}
use Rattle.ospf_lsa.specs.declared.lsa.Body.TheVariants.{Router, Network, Other}
use Rattle.ospf_lsa.specs.declared.lsa.Lsa.{Lsa}
use Rattle.ospf_lsa.specs.Checksum.{is_good}
use Rattle.ospf_lsa.specs.LsaText.{lsa_length, covered_text}
use Rattle.ospf_lsa.specs.Types.{network_lsa, point_to_point, router_lsa, transit}

-- a link to a router (type 1) or to a transit network (type 2) with metric 0
abbrev pub has_zero_metric : RouterLink → Bool
has_zero_metric link = (link.metric == 0) && ((link.kind == point_to_point) || (link.kind == transit))

-- a number of 32 bits
abbrev pub Is32Bits : ℕ → Type 0
Is32Bits number = number < 2 ^ 32

-- a byte
abbrev pub IsByte : ℕ → Type 0
IsByte number = number < 2 ^ 8

-- each number of a link fits its field, the number of its TOS entries among them
pub record FitsLink (link : RouterLink) : Type 0 where
  pub id : link.id < 2 ^ 32
  pub link_data : link.link_data < 2 ^ 32
  pub kind : link.kind < 2 ^ 8
  pub entries : link.entries < 2 ^ 8
  pub metric : link.metric < 2 ^ 16

-- these are as many TOS entries as the links say that they have
abbrev pub AreEntriesOf : List RouterLink → List ℕ → Type 0
AreEntriesOf links tos = length tos ≡ sum_by (λ link. link.entries) links

-- each number of a body fits its field, and of a router-LSA there are as many TOS entries as its links say
abbrev pub FitsBody : Body → Type 0
FitsBody (Router flags spare links tos) =
    (flags < 2 ^ 8) × (spare < 2 ^ 8) × AllByRecursion FitsLink links × AllByRecursion Is32Bits tos
    × AreEntriesOf links tos
FitsBody (Network mask routers) = (mask < 2 ^ 32) × AllByRecursion Is32Bits routers
FitsBody (Other bytes) = AllByRecursion IsByte bytes

-- each number of a header fits its field, but for the checksum and the length
pub record FitsHeader (lsa : Lsa) : Type 0 where
  pub age : lsa.age < 2 ^ 16
  pub options : lsa.options < 2 ^ 8
  pub kind : lsa.kind < 2 ^ 8
  pub id : lsa.id < 2 ^ 32
  pub router : lsa.router < 2 ^ 32
  pub sequence : FitsSigned w32 lsa.sequence

-- the body is of the LS type: a router-LSA's, a network-LSA's, or of any other type its bytes
abbrev pub IsOfType : ℕ → Body → Type 0
IsOfType kind (Router flags spare links tos) = kind ≡ router_lsa
IsOfType kind (Network mask routers) = kind ≡ network_lsa
IsOfType kind (Other bytes) = (kind ≢ router_lsa) × (kind ≢ network_lsa)

-- none of a body's links leads to a router or to a transit network with metric 0
abbrev pub KeepsMetrics : Body → Type 0
KeepsMetrics (Router flags spare links tos) = list_any has_zero_metric links ≡ false
KeepsMetrics (Network mask routers) = Unit {0}
KeepsMetrics (Other bytes) = Unit {0}

-- an LSA without a fault: each number fits its field, the checksum is good, the sequence number is not the reserved
-- one, 0x80000000, the link state ID of a router-LSA is its advertising router, the body is of its type, no metric is 0
-- where it may not be, and the whole is at most as long as its length field can say
pub record IsLsa (lsa : Lsa) : Type 0 where
  pub header : FitsHeader lsa
  pub checksum : lsa.checksum < 2 ^ 16
  pub good : is_good (covered_text lsa) lsa.checksum ≡ true
  pub not_reserved : lsa.sequence ≢ cast_signed w32 (2 ^ 31)
  pub own_id : lsa.kind ≡ router_lsa → lsa.id ≡ lsa.router
  pub of_type : IsOfType lsa.kind lsa.body
  pub body : FitsBody lsa.body
  pub metrics : KeepsMetrics lsa.body
  pub length_fits : lsa_length lsa < 2 ^ 16

-- such LSAs one after another, the first at this place, each of the others where the one before it ends
abbrev pub AreLsas : ℕ → List Lsa → Type 0
AreLsas at [] = Unit {0}
AreLsas at (lsa ∷ lsas) = (lsa.at ≡ at) × IsLsa lsa × AreLsas (at + lsa_length lsa) lsas
