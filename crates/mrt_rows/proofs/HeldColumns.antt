-- What is held between columns, as its parts change.
use Rattle.std.proofs.Common.{◌≡◌, ℕ, Bool, List, Option, [], length, sym, subst, arith}
use Rattle.std.specs.declared.alloc.Global.{Global}
use Rattle.std.specs.declared.vec.Vec.{Vec}
use Rattle.mrt_graph.specs.Topology.{Topology}
use Rattle.link_direction.specs.Directions.{Directions}
use Rattle.mrt_rows.specs.declared.column.Columns.{Columns}
use Rattle.mrt_rows.specs.Chain.{AreBlockAims}
use Rattle.mrt_rows.specs.AimedColumns.{AreColumns, AreColumnsFor}
use Rattle.mrt_rows.specs.TilesAimed.{AreShared, AreTiles}

-- the same of equal lists
pub aims_moved : (g : Topology) (root : ℕ) (w : Directions) (targets others aims after : List ℕ) (marks : List Bool) → others ≡ targets → aims ≡ after
    → AreBlockAims g root w others aims marks → AreBlockAims g root w targets after marks
aims_moved g root w targets others aims after marks alike same are =
    subst (λ (ts : List ℕ). AreBlockAims g root w ts after marks) alike (subst (λ (xs : List ℕ). AreBlockAims g root w others xs marks) same are)

pub shared_moved : (count count' width width' : ℕ) (aims aims' : List ℕ) (marks marks' wanted wanted' : List Bool) (firsts firsts' : List ℕ) (shared shared' : List Bool)
    → count ≡ count' → width ≡ width' → aims ≡ aims' → marks ≡ marks' → wanted ≡ wanted' → firsts ≡ firsts' → shared ≡ shared'
    → AreShared count width aims marks wanted firsts shared → AreShared count' width' aims' marks' wanted' firsts' shared'
shared_moved count count' width width' aims aims' marks marks' wanted wanted' firsts firsts' shared shared' as_many as_wide same_aims same_marks same_wanted same_firsts same_shared are =
    rw (sym as_many, sym as_wide, sym same_aims, sym same_marks, sym same_wanted, sym same_firsts, sym same_shared) are

-- with other destinations, which are not aimed at
pub retargeted : (g : Topology) (root : ℕ) (w : Directions) (held : Columns) (targets : Vec ℕ Global) → length targets.items ≡ length held.targets.items
    → AreColumns g root w held → AreColumnsFor g root w (record held { targets = targets }) []
retargeted g root w held targets many are = record {
  common = are.common;
  one_below_each = are.one_below_each;
  some_places = omega (arith, are.some_places, many);
  each = subst (λ (k : ℕ). AreTiles g k held.each) (sym many) are.each;
  shared = are.shared;
  aimed = λ j t at inside. cc;
}

-- with other nodes below others
pub climbed : (g : Topology) (root : ℕ) (w : Directions) (held : Columns) (below : Vec (Option ℕ) Global) → length below.items ≡ length g.ids
    → AreColumns g root w held → AreColumns g root w (record held { below = below })
climbed g root w held below one_each are = record {
  common = are.common;
  one_below_each = one_each;
  some_places = are.some_places;
  each = are.each;
  shared = are.shared;
  aimed = λ j t at inside. let aimed = are.aimed j t at inside in record {
    within = aimed.within;
    marks = aimed.marks;
    aims = aimed.aims;
    parted = aimed.parted;
    each = aimed.each;
    shared = aimed.shared;
  };
}
