-- Of a router of an island there is one table.
use Rattle.std.proofs.Common.{◌≡◌, ◌∙◌, ◌<◌, ℕ, List, Option, None, length, sym, subst, arith}
use Rattle.std.proofs.lemmas.List.{ext_get_or}
use Rattle.std.proofs.lemmas.Option.{slice_get-get_or}
use Rattle.area_graph.specs.AreaInvariant.{IsArea}
use Rattle.area_graph.specs.Parts.{AreaParts}
use Rattle.mrt_graph.specs.declared.cert.CertFile.{CertFile}
use Rattle.mrt_graph.specs.GraphInvariant.{IsTopology}
use Rattle.mrt_graph.specs.Topology.{Topology}
use Rattle.mrt_report.specs.TableParts.{TableParts, table_parts}
use Rattle.mrt_report.specs.TableText.{IsTableText}
use Rattle.mrt_rows.specs.CertOf.{IsCertOf}
use Rattle.primary_alt.specs.declared.shortest.Primary.{Primary}
use Rattle.primary_alt.specs.Primaries.{ArePrimaries, IsPrimary}
use Rattle.mrt_island.specs.IslandOf.{IsIsland}
use Rattle.mrt_island.specs.Policy.{Policy}
use Rattle.mrt_island.specs.declared.island.Island.{Island}
use Rattle.mrt_answer.specs.Texts.{IsComputedFile, IsTableOf}

-- the law of the layer below on the certificate that is computed
abbrev pub CertificateLaw : Type 0
CertificateLaw = (g : Topology) (root : ℕ) (file other : CertFile) → IsTopology g → root < length g.ids
    → IsCertOf g root file → IsCertOf g root other → file ≡ other

-- the law of the layer below on the island of a router
abbrev pub IslandLaw : Type 0
IslandLaw = (policy : Policy) (area : AreaParts) (number : ℕ) (g h : Topology) (root node : ℕ) (link_of others : List (Option ℕ))
    → IsArea area → IsIsland policy area number g root link_of → IsIsland policy area number h node others
    → (g ≡ h) × (root ≡ node) × (link_of ≡ others)

-- the laws of the layers below on tables and on primaries
pub record TableLaws : Type 0 where
  pub table : (parts : TableParts) (root : ℕ) (text other : List ℕ) → IsArea parts.area → IsTopology parts.island
      → IsTableText parts root text → IsTableText parts root other → text ≡ other
  pub primary : (area : AreaParts) (s t : ℕ) (entry other : Option Primary) → IsPrimary area s t entry
      → IsPrimary area s t other → entry ≡ other

-- a router has one list of primaries
pub one_list : TableLaws → (area : AreaParts) (s : ℕ) (entries others : List (Option Primary)) → ArePrimaries area s entries
    → ArePrimaries area s others → entries ≡ others
one_list laws area s entries others one two =
    ext_get_or None entries others (one.one_each ∙ sym two.one_each)
    (λ t within. laws.primary area s t _ _ (one.each t _ (slice_get-get_or entries t None within))
    (two.each t _ (slice_get-get_or others t None (omega (arith, within, one.one_each, two.one_each)))))

-- where the certificate of an island is one, so is a router's table
pub one_table : TableLaws → (area : AreaParts) → IsArea area → (island : Island) → IsTopology island.graph → (source spot : ℕ)
    → ((file other : CertFile) → IsComputedFile island.graph island.root file → IsComputedFile island.graph island.root other → file ≡ other)
    → (text other : List ℕ) → IsTableOf area island source spot text → IsTableOf area island source spot other → text ≡ other
one_table laws area area_kept island kept source spot one_file text other one two =
    let file = one_file one.file two.file one.certificate two.certificate in
    let primaries = one_list laws area spot one.primaries two.primaries one.primaries_are two.primaries_are in
    laws.table (table_parts area island.graph island.link_of two.file.cert source two.primaries) island.root text other area_kept
    kept
    (subst (λ (p : TableParts). IsTableText p island.root text)
    (λ i. table_parts area island.graph island.link_of (file i).cert source (primaries i)) one.spelled) two.spelled
