-- The limits of the two versions, and what each certificate file keeps.
use Rattle.std.specs.Prelude.{◌≡◌, ◌⊎◌, ◌<◌, ◌≤◌, ◌^◌, length}
use Rattle.std.specs.List.{AllByRecursion}
use Rattle.mrt_graph.specs.Certificate.{IsCertificate}
use Rattle.mrt_graph.specs.Foldable.{IsFoldable}
use Rattle.mrt_graph.specs.declared.cert.CertNode.{CertNode}
use Rattle.mrt_graph.specs.declared.cert.CertFile.{CertFile}

-- the number of the node's identifier has 32 bits
abbrev pub HasNumber : CertNode → Type 0
HasNumber node = node.id.number < 2 ^ 32

-- of version 1: at most 2,048 nodes and 8,192 links
pub record IsVersionOne (f : CertFile) : Type 0 where
  pub version : f.version ≡ 1
  pub nodes : length f.cert.nodes ≤ 2048
  pub links : length f.cert.links ≤ 8192

-- of version 2: at most 4,096 nodes and 16,384 links, and the rows that it leaves out follow from its other ones
pub record IsVersionTwo (f : CertFile) : Type 0 where
  pub version : f.version ≡ 2
  pub nodes : length f.cert.nodes ≤ 4096
  pub links : length f.cert.links ≤ 16384
  pub foldable : IsFoldable f.cert

-- one of the two
abbrev pub IsOfVersion : CertFile → Type 0
IsOfVersion f = IsVersionOne f ⊎ IsVersionTwo f

-- a certificate file: what every certificate keeps, with numbers of 32 bits, and what its version asks
pub record IsCertFile (f : CertFile) : Type 0 where
  pub certificate : IsCertificate f.cert
  pub root : f.root < 2 ^ 32
  pub numbers : AllByRecursion HasNumber f.cert.nodes
  pub of_version : IsOfVersion f
