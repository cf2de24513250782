-- An LSA without a fault can be written.
use Rattle.std.proofs.Common.{◌≡◌, ◌<◌, ◌≤◌, ℕ, zero, suc, ◌+◌, List, [], ◌∷◌, length, get_or, sym, subst, arith}
use Rattle.ospf_lsa.specs.declared.lsa.Body.{Body}
use Rattle.ospf_lsa.specs.declared.lsa.Body.TheVariants.{Router, Network, Other}
use Rattle.ospf_lsa.specs.declared.lsa.Lsa.{Lsa}
use Rattle.ospf_lsa.specs.LsaText.{lsa_length}
use Rattle.ospf_lsa.specs.Lsas.{AreLsas, FitsBody, IsLsa, IsOfType}
use Rattle.ospf_lsa.specs.Written.{HasItsEntries}

-- what writing asks of an LSA
pub record IsWritable (lsa : Lsa) : Type 0 where
  pub kind : IsOfType lsa.kind lsa.body
  pub entries : HasItsEntries lsa.body
  pub fits : lsa_length lsa ≤ 65535

its_entries : (body : Body) → FitsBody body → HasItsEntries body
its_entries (Router flags spare links tos) fits = fits.4
its_entries (Network mask routers) fits = tt
its_entries (Other bytes) fits = tt

pub faultless_written : (lsa : Lsa) → IsLsa lsa → IsWritable lsa
faultless_written lsa is =
    record { kind = is.of_type; entries = its_entries lsa.body is.body; fits = omega (arith, is.length_fits) }

-- each LSA of a file is without a fault
pub faultless_at : (lsas : List Lsa) (at i : ℕ) (lsa : Lsa) → AreLsas at lsas → i < length lsas
    → lsa ≡ get_or lsas i lsa → IsLsa lsa
faultless_at [] at i lsa are lt is = absurd (omega arith)
faultless_at (first ∷ lsas) at zero lsa are lt is = subst IsLsa (sym is) are.1
faultless_at (first ∷ lsas) at (suc i) lsa are lt is = faultless_at lsas (at + lsa_length first) i lsa are.2
    (omega arith) is
