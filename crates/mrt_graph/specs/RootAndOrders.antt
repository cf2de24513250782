-- The second rule: the root stands first, and the order numbers differ.
use Rattle.std.specs.Prelude.{◌≡◌, ◌==◌, ◌&&◌, ◌||◌, ℕ, Bool, true, false, Some, nat_le, length, slice_get}
use Rattle.std.specs.Option.{option_map_or}
use Rattle.mrt_graph.specs.declared.cert.CertFile.{CertFile}
use Rattle.mrt_graph.specs.BothThere.{are_different, are_equal}
use Rattle.mrt_graph.specs.Certificate.{Certificate}
use Rattle.mrt_graph.specs.CertFields.{order_of}
use Rattle.mrt_graph.specs.Places.{EachPair, IsFirstPair}
use Rattle.mrt_graph.specs.Topology.{Topology}

-- the file's root is the number of the graph's root, and that node has order 1
abbrev pub root_stands : Topology → ℕ → CertFile → Bool
root_stands g root file =
    option_map_or (λ id. id.number == file.root) (slice_get g.ids root) false
    && are_equal (order_of file.cert root) (Some 1)

-- node a and a node b above it do not have one order
abbrev pub orders_differ : Certificate → ℕ → ℕ → Bool
orders_differ c a b = nat_le b a || are_different (order_of c a) (order_of c b)

-- the root stands, and no two nodes have one order
pub record RootAndOrders (g : Topology) (root : ℕ) (file : CertFile) : Type 0 where
  pub root_first : root_stands g root file ≡ true
  pub orders : EachPair (orders_differ file.cert) (length file.cert.nodes)

-- its faults: at the root and the root; else at the least node that has an equal above it, and the least of those
pub data OrderFault (g : Topology) (root : ℕ) (file : CertFile) : ℕ → ℕ → Type 0 where
  AtRoot : root_stands g root file ≡ false → OrderFault g root file root root
  EqualOrders : (a b : ℕ) → root_stands g root file ≡ true
      → IsFirstPair (orders_differ file.cert) (length file.cert.nodes) a b → OrderFault g root file a b
