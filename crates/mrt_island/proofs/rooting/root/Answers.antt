use Rattle.std.proofs.Common.{ℕ, get_or, sym, subst, arith}
use Rattle.std.proofs.lemmas.Option.{slice_get-get_or, slice_get_within}
use Rattle.mrt_graph.specs.declared.node_id.Kind.TheVariants as kinds
use Rattle.mrt_graph.specs.declared.node_id.NodeId.{NodeId}
use Rattle.mrt_island.proofs.RootSoFar.{no_root_yet, root_taken, root_kept, root_found}
use Rattle.mrt_island.specs.Policy.{policy_of}
use Rattle.mrt_island.specs.Rooting.{IsRoot}
use Rattle.mrt_island.proofs.rooting.root.Goals as goal
use Rattle.mrt_island.proofs.rooting.root.Goals.{then-own-lowest, else-own-lowest}

pub loop-k-init : goal.loop-k-init
loop-k-init c = no_root_yet (policy_of c.args.profile.now) c.args.ids.now (omega (arith, slice_get_within c.args.ids.now c.requires.some.place c.requires.some.id c.requires.some.there))

-- what stands past the end
abbrev none : NodeId
none = record { kind = kinds.Router; number = 0 }

pub loop-k-preserved : goal.loop-k-preserved
loop-k-preserved c = elim c.if-own-lowest.branch [
  | then-own-lowest w ↦
      rw (w.best-is, w.lowest-is)
      (root_taken (policy_of c.args.profile.now) c.args.ids.now c.loop-k.k c.loop-k.best c.loop-k.lowest c.level-own.result (get_or c.args.ids.now c.loop-k.k none)
      (slice_get-get_or c.args.ids.now c.loop-k.k none c.loop-k-test.true) c.level-own.ensures.value w.if-own-lowest.true c.loop-k.invariant)
  | else-own-lowest w ↦
      rw (w.best-is, w.lowest-is)
      (root_kept (policy_of c.args.profile.now) c.args.ids.now c.loop-k.k c.loop-k.best c.loop-k.lowest c.level-own.result (get_or c.args.ids.now c.loop-k.k none)
      (slice_get-get_or c.args.ids.now c.loop-k.k none c.loop-k-test.true) c.level-own.ensures.value c.level-own.ensures.router w.if-own-lowest.false c.loop-k.invariant)
]

pub returns : goal.returns
returns c =
    subst (λ (n : ℕ). IsRoot (policy_of c.args.profile.now) c.args.ids.now n) (sym c.new.ensures)
    (root_found (policy_of c.args.profile.now) c.args.ids.now c.loop-k.k c.loop-k.best c.loop-k.lowest c.requires.ascend c.requires.some (omega arith) c.loop-k.invariant)
