-- The LSAs of a file, installed one after another.
use Rattle.std.proofs.Common.{◌≡◌, ◌∙◌, ◌<◌, ◌+◌, ◌==◌, ℕ, true, List, [], ◌∷◌, ◌⊎◌, length, drop, get_or, refl, sym, ap, subst, inl, inr}
use Rattle.std.proofs.lemmas.Bool.{cases_Bool, eqb-true}
use Rattle.std.proofs.lemmas.List.{drop_more}
use Rattle.ospf_lsa.specs.declared.lsa.Lsa.{Lsa}
use Rattle.ospf_lsa.specs.LsaText.{lsa_length}
use Rattle.ospf_lsa.specs.Lsas.{AreLsas, IsLsa}
use Rattle.ospf_lsa.specs.Types.{router_lsa, network_lsa}
use Rattle.ospf_lsa.specs.AreaLsas.{is_area_lsa}
use Rattle.lsdb.specs.Database.{entering}
use Rattle.lsdb.specs.Entries.{Entry}
use Rattle.lsdb.specs.Installing.{installed}
use Rattle.lsdb.specs.Installs.{all_installed}

-- these entries come of what is installed and of the LSAs that are left, which begin at some place
pub record IsUnderWay (entries : List Entry) (rest : List Lsa) (whole : List Entry) : Type 0 where
  pub at : ℕ
  pub left : AreLsas at rest
  pub comes : all_installed entries (entering rest) ≡ whole

-- the LSA that is read, and those after it
pub at_place : (lsas : List Lsa) (place : ℕ) (lsa : Lsa) → place < length lsas → lsa ≡ get_or lsas place lsa
    → drop place lsas ≡ lsa ∷ drop (place + 1) lsas
at_place lsas place lsa inside is =
    drop_more lsas place lsa inside ∙ ap (λ (l : Lsa). l ∷ drop (place + 1) lsas) (sym is)

pub next_one : (entries : List Entry) (lsa : Lsa) (rest all : List Lsa) (whole : List Entry) → all ≡ lsa ∷ rest
    → IsUnderWay entries all whole → IsLsa lsa
next_one entries lsa rest all whole is way =
    let left : AreLsas way.at (lsa ∷ rest) = subst (AreLsas way.at) is way.left in left.1

-- the types that enter
pub type_of : (lsa : Lsa) → is_area_lsa lsa ≡ true → (lsa.kind ≡ router_lsa) ⊎ (lsa.kind ≡ network_lsa)
type_of lsa enters = elim (cases_Bool (lsa.kind == 1)) [
  | inl router ↦ inl (eqb-true _ _ router)
  | inr other ↦ inr (eqb-true _ _ (rw other at enters))
]

-- an LSA that enters is installed
pub installed_next : (entries after : List Entry) (lsa : Lsa) (rest all : List Lsa) (whole : List Entry)
    → is_area_lsa lsa ≡ true → after ≡ (installed entries lsa).0 → all ≡ lsa ∷ rest
    → IsUnderWay entries all whole → IsUnderWay after rest whole
installed_next entries after lsa rest all whole enters one is way =
    let left : AreLsas way.at (lsa ∷ rest) = subst (AreLsas way.at) is way.left in
    let next : all_installed entries (entering (lsa ∷ rest)) ≡ all_installed (installed entries lsa).0 (entering rest) =
    rw enters refl in
    record {
      at = way.at + lsa_length lsa;
      left = left.2;
      comes = ap (λ (es : List Entry). all_installed es (entering rest)) one ∙ sym next
          ∙ ap (λ (ls : List Lsa). all_installed entries (entering ls)) (sym is) ∙ way.comes;
    }

-- no LSA is left
pub none_left : (entries : List Entry) (rest : List Lsa) (whole : List Entry) → rest ≡ []
    → IsUnderWay entries rest whole → entries ≡ whole
none_left entries rest whole none way =
    ap (λ (ls : List Lsa). all_installed entries (entering ls)) (sym none) ∙ way.comes
