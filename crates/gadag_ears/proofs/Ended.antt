-- The list of all turns, and the ears in it.
use Rattle.std.proofs.Common.{◌≡◌, ◌<◌, ◌≤◌, ◌++◌, ◌==◌, ℕ, List, [], ◌∷◌, Some, count_by, length, inl, inr, sym, subst, arith}
use Rattle.std.specs.Prelude.{Contains}
use Rattle.mrt_graph.specs.declared.tree.TreeNode.{TreeNode}
use Rattle.mrt_graph.specs.Leads.{leads}
use Rattle.mrt_graph.specs.Topology.{Topology}
use Rattle.mrt_graph.specs.Walk.{Walk}
use Rattle.mrt_graph.proofs.Members.{contains_cases, contains_none}
use Rattle.mrt_graph.proofs.Tallies.{count_is_tally}
use Rattle.lowpoint_dfs.specs.SearchOrder.{IsDone}
use Rattle.gadag_ears.specs.Ear.{Ear, new_nodes}
use Rattle.gadag_ears.specs.EarOrder.{AreEars, Begun, Grown, IsEarOrder, Turned}
use Rattle.gadag_ears.proofs.CutLists.{After, Before, Here, StandsIn, in_turn, kept_in, put_in, stands_in, turned}
use Rattle.gadag_ears.proofs.Once.{some_of, times}
use Rattle.gadag_ears.proofs.SearchFacts.{AreFacts}
use Rattle.gadag_ears.proofs.TurnsKept.{AreKept, all_kept, brought_at, done_leads}

-- the root is in the list, and so are each ear's new nodes and the node where it stops
pub record AreEarsIn (root : ℕ) (listed : List ℕ) (ears : List Ear) : Type 0 where
  pub root_in : Contains listed root
  pub new_in : (ear : Ear) (v : ℕ) → Contains ears ear → Contains (new_nodes ear) v → Contains listed v
  pub stop_in : (ear : Ear) → Contains ears ear → Contains listed ear.stop

pub ears_in : (g : Topology) (root : ℕ) (tree : List TreeNode) (over : List ℕ) (x : ℕ) (later : List ℕ) (ears : List Ear) → AreFacts g root tree
    → IsEarOrder g root tree over x later ears → AreEarsIn root (over ++ x ∷ later) ears
ears_in g root tree over x later ears facts Begun = record {
  root_in = in_turn [] root [];
  new_in = λ ear v none. absurd (contains_none ear none);
  stop_in = λ ear none. absurd (contains_none ear none);
}
ears_in g root tree over x later ears facts (Grown over' x' later' ears' ear before next) =
    let old = ears_in g root tree over' x' later' ears' facts before in
    let brings = brought_at g root tree over' x' later' ear facts (all_kept g root tree over' x' later' ears' facts before) next in
    record {
      root_in = kept_in over' x' later' (new_nodes ear) root old.root_in;
      new_in = λ e v c new. elim (contains_cases ear e ears' c) [
        | inl same ↦ put_in over' x' later' (new_nodes ear) v (subst (λ (d : Ear). Contains (new_nodes d) v) same new)
        | inr later ↦ kept_in over' x' later' (new_nodes ear) v (old.new_in e v later new)
      ];
      stop_in = λ e c. kept_in over' x' later' (new_nodes ear) e.stop (elim (contains_cases ear e ears' c) [
        | inl same ↦ subst (λ (d : Ear). Contains (over' ++ x' ∷ later') d.stop) (sym same) brings.stop_in
        | inr later ↦ old.stop_in e later
      ]);
    }
ears_in g root tree over x later ears facts (Turned over' x' y later' ears' before done) =
    subst (λ (xs : List ℕ). AreEarsIn root xs ears') (sym (turned over' x' y later'))
    (ears_in g root tree over' x' (y ∷ later') ears' facts before)

-- when all turns are over the neighbours of all listed nodes are in the list
pub record AreAllDone (g : Topology) (root : ℕ) (tree : List TreeNode) (order : List ℕ) : Type 0 where
  pub root_in : Contains order root
  pub once : (v : ℕ) → times v order ≤ 1
  pub neighbours : (u e v : ℕ) → Contains order u → leads g.links e u ≡ Some v → Contains order v

pub all_done : (g : Topology) (root : ℕ) (tree : List TreeNode) (order : List ℕ) (ears : List Ear) → AreFacts g root tree → AreEars g root tree order ears
    → AreAllDone g root tree order
all_done g root tree order ears facts are =
    subst (λ (xs : List ℕ). AreAllDone g root tree xs) (sym are.whole) (record {
      root_in = (ears_in g root tree are.before are.last [] ears facts are.ordered).root_in;
      once = kept.once;
      neighbours = λ u e v c onward. by u e v onward (stands_in are.before are.last [] u c);
    })
  where
    kept : AreKept g tree are.before are.last []
    kept = all_kept g root tree are.before are.last [] ears facts are.ordered

    by : (u e v : ℕ) → leads g.links e u ≡ Some v → StandsIn are.before are.last [] u → Contains (are.before ++ are.last ∷ []) v
    by u e v onward (Before c) = kept.neighbours u e v c onward
    by u e v onward (Here same) = done_leads g root tree (are.before ++ are.last ∷ []) e are.last v facts
        (subst (λ (xs : List ℕ). IsDone g xs are.last) are.whole are.ended) (subst (λ (w : ℕ). leads g.links e w ≡ Some v) same onward)
    by u e v onward (After none) = absurd (contains_none u none)

walk_listed : (g : Topology) (root : ℕ) (tree : List TreeNode) (order : List ℕ) → AreAllDone g root tree order
    → (walk : List ℕ) (s t : ℕ) → Contains order s → Walk g.links s walk t → Contains order t
walk_listed g root tree order done [] s t listed walks = subst (λ (w : ℕ). Contains order w) walks listed
walk_listed g root tree order done (e ∷ es) s t listed walks =
    walk_listed g root tree order done es walks.0 t (done.neighbours s e walks.0 listed walks.1) walks.2

pub each_listed : (g : Topology) (root : ℕ) (tree : List TreeNode) (order : List ℕ) (ears : List Ear) → AreFacts g root tree → AreEars g root tree order ears
    → (v : ℕ) → v < length g.ids → Contains order v
each_listed g root tree order ears facts are v within =
    let done = all_done g root tree order ears facts are in
    let walk = facts.kept.connected root v facts.root_within within in
    walk_listed g root tree order done walk.0 root v done.root_in walk.1

pub each_once : (g : Topology) (root : ℕ) (tree : List TreeNode) (order : List ℕ) (ears : List Ear) → AreFacts g root tree → AreEars g root tree order ears
    → (v : ℕ) → v < length g.ids → count_by (λ node. node == v) order ≡ 1
each_once g root tree order ears facts are v within =
    let done = all_done g root tree order ears facts are in
    omega (arith, count_is_tally (λ node. node == v) order, done.once v, some_of v order (each_listed g root tree order ears facts are v within))
