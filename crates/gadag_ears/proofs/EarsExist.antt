-- Where an end begins an ear, that ear exists.
use Rattle.std.proofs.Common.{◌≡◌, ◌≤◌, ◌⊎◌, ◌+◌, ◌++◌, ℕ, zero, suc, List, [], ◌∷◌, Some, inl, inr, refl, arith}
use Rattle.std.specs.Prelude.{Contains}
use Rattle.mrt_graph.specs.declared.link.End.{End}
use Rattle.mrt_graph.specs.declared.tree.TreeNode.{TreeNode}
use Rattle.mrt_graph.specs.Topology.{Topology}
use Rattle.mrt_graph.proofs.Members.{listed_or_not}
use Rattle.gadag_ears.specs.declared.kind.EarKind.{EarKind}
use Rattle.gadag_ears.specs.Ear.{Ear, GoesOn, IsBegun, IsNextEar, next_node}
use Rattle.gadag_ears.specs.EarOrder.{IsEarOrder}
use Rattle.gadag_ears.proofs.CutLists.{in_turn}
use Rattle.gadag_ears.proofs.EarWalk.{GoesNearer, IsGoing, begins, goes_nearer, next_there, next_within, rank}
use Rattle.gadag_ears.proofs.SearchFacts.{AreFacts}
use Rattle.gadag_ears.proofs.TurnsKept.{AreKept, all_kept}

-- the rest of an ear's way
record IsRest (g : Topology) (tree : List TreeNode) (kind : EarKind) (nodes : List ℕ) (here : ℕ) : Type 0 where
  pub others : List ℕ
  pub stop : ℕ
  pub goes : GoesOn g tree kind nodes here others stop

-- an ear stops at the next node, or goes on to it
stops_or_goes : (g : Topology) (root : ℕ) (tree : List TreeNode) (nodes : List ℕ) (x first link here k : ℕ) (kind : EarKind) → AreFacts g root tree
    → IsGoing g tree nodes x first link here k kind → IsRest g tree kind nodes here
    ⊎ ((next : ℕ) × (next_node g tree kind here ≡ Some next) × (¬ Contains nodes next) × GoesNearer g tree nodes x first link here k next kind)
stops_or_goes g root tree nodes x first link here k kind facts going =
    let next = next_there g root tree nodes x first link here k kind facts going in
    elim (listed_or_not nodes next.0) [
      | inl inside ↦ inl (record { others = []; stop = next.0; goes = (next.1, inside) })
      | inr outside ↦ inr (
        next.0,
        next.1,
        outside,
        goes_nearer g root tree nodes x first link here k next.0 kind facts going next.1 (next_within g root tree kind here next.0 facts next.1) outside,
      )
    ]

rest_exists : (left : ℕ) (g : Topology) (root : ℕ) (tree : List TreeNode) (nodes : List ℕ) (x first link here k : ℕ) (kind : EarKind) → AreFacts g root tree
    → IsGoing g tree nodes x first link here k kind → rank g tree kind here ≤ left → IsRest g tree kind nodes here
rest_exists zero g root tree nodes x first link here k kind facts going near = elim (stops_or_goes g root tree nodes x first link here k kind facts going) [
  | inl rest ↦ rest
  | inr on ↦ absurd (omega (arith, on.3.nearer, near))
]
rest_exists (suc left) g root tree nodes x first link here k kind facts going near = elim (stops_or_goes g root tree nodes x first link here k kind facts going) [
  | inl rest ↦ rest
  | inr on ↦
      let rest = rest_exists left g root tree nodes x first link on.0 (k + 1) kind facts on.3.going (omega (arith, on.3.nearer, near)) in
      record { others = on.0 ∷ rest.others; stop = rest.stop; goes = (on.1, on.2, rest.goes) }
]

pub ear_exists : (g : Topology) (root : ℕ) (tree : List TreeNode) (over : List ℕ) (x : ℕ) (later : List ℕ) (ears : List Ear) (end : End) (kind : EarKind)
    → AreFacts g root tree → IsEarOrder g root tree over x later ears → IsBegun g tree (over ++ x ∷ later) x end kind
    → (ear : Ear) × (ear.kind ≡ kind) × (ear.link ≡ end.link) × IsNextEar g tree (over ++ x ∷ later) x ear
ear_exists g root tree over x later ears end kind facts ordered begun =
    let kept : AreKept g tree over x later = all_kept g root tree over x later ears facts ordered in
    let going : IsGoing g tree (over ++ x ∷ later) x end.to end.link end.to 0 kind =
    begins g root tree kind (over ++ x ∷ later) x end.to end facts (in_turn over x later) kept.closed begun refl in
    let rest = rest_exists (rank g tree kind end.to) g root tree (over ++ x ∷ later) x end.to end.link end.to 0 kind facts going (omega arith) in (
      record { kind = kind; start = x; link = end.link; first = end.to; others = rest.others; stop = rest.stop },
      refl,
      refl,
      record { end = end; begun = begun; from = refl; over = refl; to = refl; onward = rest.goes },
    )
