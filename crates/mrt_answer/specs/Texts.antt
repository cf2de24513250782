-- The texts of forms, and what comes of a check.
use Rattle.std.specs.Prelude.{ℕ, List, length, ◌++◌, Ok, Err, codes, decimal, Option, ◌≡◌, true}
use Rattle.mrt_graph.specs.declared.cert.CertFile.{CertFile}
use Rattle.mrt_graph.specs.Accepted.{Accepted}
use Rattle.mrt_graph.specs.Certificate.{row_of}
use Rattle.mrt_graph.specs.Sound.{Sound}
use Rattle.mrt_graph.specs.Topology.{Topology}
use Rattle.mrt_rows.specs.CertOf.{IsCertOf}
use Rattle.mrt_args.specs.CertSpelling.{IsSpellingOf}
use Rattle.mrt_exit.specs.AnswerSteps.{Step}
use Rattle.mrt_exit.specs.declared.exit.Exit.TheVariants.{No, NoCommonBlock}
use Rattle.mrt_graph.specs.FirstFault.{FirstFault}
use Rattle.text_parts.specs.Spelling.{address_text}
use Rattle.area_graph.specs.Parts.{AreaParts}
use Rattle.mrt_report.specs.TableParts.{table_parts}
use Rattle.mrt_report.specs.TableText.{IsTableText}
use Rattle.primary_alt.specs.declared.shortest.Primary.{Primary}
use Rattle.primary_alt.specs.Primaries.{ArePrimaries}
use Rattle.mrt_island.specs.declared.island.Island.{Island}
use Rattle.fabric.specs.FabricParts.{FabricParts}
use Rattle.fabric_script.specs.declared.script.Script.{Script}
use Rattle.fabric_script.specs.declared.trace.Trace.{Trace}
use Rattle.fabric.specs.RunTexts.{IsScriptText, IsTraceText}
use Rattle.mrt_graph.specs.Related.{are_unrelated}
use Rattle.proxy_rows.specs.ProxyText.{IsProxyText}

-- the file is the certificate that is computed for a graph and its root: it is accepted, so that its rows are sound
pub record IsComputedFile (graph : Topology) (root : ℕ) (file : CertFile) : Type 0 where
  pub computed : IsCertOf graph root file
  pub accepted : Accepted graph root file
  pub sound : Sound graph.links (length graph.ids) (row_of file.cert)

-- the text spells it
pub record IsComputed (graph : Topology) (root : ℕ) (text : List ℕ) : Type 0 where
  pub file : CertFile
  pub certificate : IsComputedFile graph root file
  pub spelled : IsSpellingOf text file

-- the line that says yes of a certificate: its root, and how many nodes and links its island has
abbrev pub accepted_line : ℕ → ℕ → ℕ → List ℕ
accepted_line root nodes links =
    codes "accepted root " ++ address_text root ++ codes " nodes " ++ decimal nodes ++ codes " links " ++ decimal links
    ++ codes "\n"

-- a certificate that is accepted for a graph and its root, so that its rows are sound; else the first rule that fails, and its least
-- place
abbrev pub judged : Topology → ℕ → CertFile → Step (Unit {0})
judged graph root file (Ok done) = Accepted graph root file × Sound graph.links (length graph.ids) (row_of file.cert)
judged graph root file (Err (No rule a b)) = FirstFault graph root file rule a b
judged graph root file (Err _) = ⊥

-- the same file but for its version, which is 2: its root is the same, and so is each node, link and row
abbrev pub upgraded : CertFile → CertFile
upgraded file = record { version = 2; root = file.root; cert = file.cert }

-- the text spells that file, which is accepted for the graph and its root
abbrev pub IsUpgrade : Topology → ℕ → CertFile → List ℕ → Type 0
IsUpgrade graph root file text = Accepted graph root (upgraded file) × IsSpellingOf text (upgraded file)

-- the text is the table of a router of an island, by its number in the island and its number in the area: what its primaries for all
-- nodes of the area and the certificate of the island give
pub record IsTableOf (area : AreaParts) (island : Island) (source spot : ℕ) (text : List ℕ) : Type 0 where
  pub file : CertFile
  pub certificate : IsComputedFile island.graph island.root file
  pub primaries : List (Option Primary)
  pub primaries_are : ArePrimaries area spot primaries
  pub spelled : IsTableText (table_parts area island.graph island.link_of file.cert source primaries) island.root text

-- these are read in an area and an island: the two, with the rows of the certificate that is computed for the island, and of each bond
-- of the area the link of the island that it is
pub record ArePartsIn (area : AreaParts) (island : Island) (parts : FabricParts) : Type 0 where
  pub area_is : parts.area ≡ area
  pub island_is : parts.island ≡ island.graph
  pub links_are : parts.link_of ≡ island.link_of
  pub file : CertFile
  pub certificate : IsComputedFile island.graph island.root file
  pub rows_are : parts.rows ≡ row_of file.cert

-- the text is that of a packet's trace
abbrev pub IsTraceIn : AreaParts → Island → Trace → List ℕ → Type 0
IsTraceIn area island trace text = (parts : FabricParts) × ArePartsIn area island parts × IsTraceText parts trace text

-- the text is that of a script
abbrev pub IsScriptIn : AreaParts → Island → Script → List ℕ → Type 0
IsScriptIn area island script text = (parts : FabricParts) × ArePartsIn area island parts × IsScriptText parts script text

-- the text is that on a prefix that two nodes of a graph are attached to, by the certificate that is computed for it and a
-- root
pub record IsProxyOf (graph : Topology) (root a b : ℕ) (text : List ℕ) : Type 0 where
  pub file : CertFile
  pub certificate : IsComputedFile graph root file
  pub spelled : IsProxyText graph root file.cert a b text

-- that text; or that the certificate gives the two no common block
abbrev pub proxied : Topology → ℕ → ℕ → ℕ → Step (List ℕ)
proxied graph root a b (Ok text) = IsProxyOf graph root a b text
proxied graph root a b (Err NoCommonBlock) =
    (file : CertFile) × IsComputedFile graph root file × (are_unrelated file.cert a b ≡ true)
proxied graph root a b (Err _) = ⊥
