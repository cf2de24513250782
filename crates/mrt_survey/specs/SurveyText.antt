-- The text of a survey.
use Rattle.std.specs.Prelude.{◌≡◌, ◌++◌, ℕ, Bool, List, Some, codes, decimal, length, slice_get, Contains, map}
use Rattle.std.specs.List.{filter, sum_by}
use Rattle.mrt_graph.specs.declared.cert.CertLink.{CertLink}
use Rattle.mrt_graph.specs.declared.cert.Row.{Row}
use Rattle.mrt_graph.specs.declared.cert.Tag.TheVariants.{Carried}
use Rattle.mrt_graph.specs.declared.node_id.NodeId.{NodeId}
use Rattle.mrt_graph.specs.Certificate.{Certificate}
use Rattle.mrt_graph.specs.Roles.{is_sole}
use Rattle.text_parts.specs.Spelling.{node_text}
use Rattle.mrt_graph.specs.Tags.{is_near, same_tag}
use Rattle.mrt_graph.specs.Topology.{Topology}
use Rattle.mrt_survey.specs.Counting.{AreSoMany}
use Rattle.mrt_survey.specs.Separating.{SeparatesTwo}

-- block k has a link: it is the block of one
abbrev pub HasLink : List CertLink → ℕ → Type 0
HasLink links k = Contains (map (λ link. link.block) links) k

-- a row whose source and destination have no block in common
abbrev pub is_carried : Row → Bool
is_carried row = same_tag row.tag Carried

-- the number that the network was made from, how many nodes and links it has, and its root
abbrev pub island_line : ℕ → ℕ → ℕ → NodeId → List ℕ
island_line number nodes links root =
    codes "survey " ++ (decimal number ++ (codes " nodes " ++ (decimal nodes ++ (codes " links " ++ (decimal links
    ++ (codes " root " ++ (node_text root ++ codes "\n")))))))

-- how many blocks have a link, how many links are sole, and how many nodes separate two others
abbrev pub block_line : ℕ → ℕ → ℕ → List ℕ
block_line blocks sole separating =
    codes "blocks " ++ (decimal blocks ++ (codes " sole " ++ (decimal sole ++ (codes " separating "
    ++ (decimal separating ++ codes "\n")))))

-- how many rows are between nodes with a common block, and how many are carried
abbrev pub row_line : ℕ → ℕ → List ℕ
row_line common carried =
    codes "common " ++ (decimal common ++ (codes " carried " ++ (decimal carried ++ codes "\n")))

-- the sums of the blue and of the red link numbers
abbrev pub sum_line : ℕ → ℕ → List ℕ
sum_line blue red = codes "sums blue " ++ (decimal blue ++ (codes " red " ++ (decimal red ++ codes "\n")))

-- the four lines on a graph and its certificate; counts of rows and sums are over all rows
pub record IsSurveyText (number : ℕ) (g : Topology) (root : ℕ) (c : Certificate) (text : List ℕ) : Type 0 where
  pub root_id : NodeId
  pub root_is : slice_get g.ids root ≡ Some root_id
  pub blocks : ℕ
  pub blocks_are : AreSoMany (HasLink c.links) (length c.nodes) blocks
  pub separating : ℕ
  pub separating_are : AreSoMany (SeparatesTwo g.links (length g.ids)) (length g.ids) separating
  pub spelled : text
      ≡ island_line number (length g.ids) (length g.links) root_id
      ++ (block_line blocks (length (filter (λ link. is_sole link.role) c.links)) separating
      ++ (row_line (length (filter is_near c.rows)) (length (filter is_carried c.rows))
      ++ sum_line (sum_by (λ row. row.blue) c.rows) (sum_by (λ row. row.red) c.rows)))
