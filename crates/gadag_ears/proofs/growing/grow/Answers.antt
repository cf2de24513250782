use Rattle.std.proofs.Common.{◌≡◌, ◌<◌, ◌++◌, ◌∙◌, ℕ, Bool, List, ◌∷◌, length, reverse, sym, ap, subst, arith}
use Rattle.std.specs.Prelude.{Contains}
use Rattle.mrt_graph.specs.declared.tree.TreeNode.{TreeNode}
use Rattle.mrt_graph.specs.declared.gadag.Place.{Place}
use Rattle.mrt_graph.specs.Topology.{Topology}
use Rattle.mrt_graph.proofs.Members.{contains_first}
use Rattle.gadag_ears.specs.declared.growing.Growing.{Growing}
use Rattle.gadag_ears.specs.declared.kind.EarKind.{EarKind}
use Rattle.gadag_ears.specs.steps.Growing.{AreListed, IsLeaving, IsPlaceOfEar, IsEarTurn, IsEarWay, StartsEar}
use Rattle.gadag_ears.specs.Ear.{Ear}
use Rattle.gadag_ears.specs.steps.Ear.{ear_of}
use Rattle.gadag_ears.specs.steps.Marking.{AreEarMarked, IsMarkable}
use Rattle.mrt_graph.specs.declared.gadag.Mark.{Mark}
use Rattle.gadag_ears.proofs.CutLists.{put_in}
use Rattle.gadag_ears.proofs.EarBrought.{IsFoundEar, ear_of_way, leaving_of, markable_ear, room_for_new, turn_grown, turn_kept}
use Rattle.gadag_ears.proofs.growing.grow.Goals as goal

-- the ear that was found, for each root of which this is a turn
found_ear : (g : Topology) (root : ℕ) (tree : List TreeNode) (kind : EarKind) (growing : Growing) (x link first stop : ℕ) (new : List ℕ) (listed : List Bool)
    → listed ≡ growing.listed.items → StartsEar g tree kind growing x link first → IsEarTurn g root tree x growing
    → ((nodes : List ℕ) → AreListed listed nodes → IsEarWay g tree kind nodes first new stop) → IsFoundEar g root tree x growing kind link first stop new
found_ear g root tree kind growing x link first stop new listed same starts turn way =
    ear_of_way g root tree kind growing x link first stop starts.end new turn starts.begun starts.over starts.to
    (way (growing.order.items ++ x ∷ reverse growing.waiting.items)
    (subst (λ (xs : List Bool). AreListed xs (growing.order.items ++ x ∷ reverse growing.waiting.items)) (sym same) turn.listed))

stop_within : (g : Topology) (tree : List TreeNode) (kind : EarKind) (growing : Growing) (x link first stop : ℕ) (new : List ℕ)
    → (starts : StartsEar g tree kind growing x link first) → IsFoundEar g starts.root tree x growing kind link first stop new → stop < length growing.places.items
stop_within g tree kind growing x link first stop new starts found =
    let inside = (turn_kept g starts.root tree x growing starts.turn).within found.ear.stop found.brings.stop_in in
    omega (arith, inside, found.is_stop, starts.turn.one_place_each)

pub walk-stop-requires-clause-leaving : goal.walk-stop-requires-clause-leaving
walk-stop-requires-clause-leaving c =
    subst (λ (xs : List Bool). IsLeaving c.args.g.now c.args.tree.now c.args.kind xs c.args.first) (sym c.deref.ensures.value)
    (leaving_of c.args.g.now c.args.tree.now c.args.kind c.args.growing.now c.args.x c.args.link c.args.first c.requires.starts)

pub place_of_ear-place-requires : goal.place_of_ear-place-requires
place_of_ear-place-requires c =
    let starts = c.requires.starts in
    let found = found_ear c.args.g.now starts.root c.args.tree.now c.args.kind c.args.growing.now c.args.x c.args.link c.args.first c.walk-stop.result c.walk-stop.new.new.items
    c.deref.result.now c.deref.ensures.value starts starts.turn c.walk-stop.ensures.way in
    omega (
      arith,
      stop_within c.args.g.now c.args.tree.now c.args.kind c.args.growing.now c.args.x c.args.link c.args.first c.walk-stop.result c.walk-stop.new.new.items starts found,
      ap (λ (xs : List Place). length xs) c.deref-3.ensures.value,
    )

pub enter_all-requires-clause-within : goal.enter_all-requires-clause-within
enter_all-requires-clause-within c = λ v new.
    let starts = c.requires.starts in
    let found = found_ear c.args.g.now starts.root c.args.tree.now c.args.kind c.args.growing.now c.args.x c.args.link c.args.first c.walk-stop.result c.walk-stop.new.new.items
    c.deref.result.now c.deref.ensures.value starts starts.turn c.walk-stop.ensures.way in
    let inside = found.kept.within v (put_in c.args.growing.now.order.items c.args.x (reverse c.args.growing.now.waiting.items) c.walk-stop.new.new.items v new) in
    omega (arith, inside, starts.turn.one_mark_each)

pub enter_all-requires-clause-room : goal.enter_all-requires-clause-room
enter_all-requires-clause-room c =
    let starts = c.requires.starts in
    let found = found_ear c.args.g.now starts.root c.args.tree.now c.args.kind c.args.growing.now c.args.x c.args.link c.args.first c.walk-stop.result c.walk-stop.new.new.items
    c.deref.result.now c.deref.ensures.value starts starts.turn c.walk-stop.ensures.way in
    let few = room_for_new c.args.g.now c.args.tree.now c.args.growing.now.order.items c.args.x c.args.growing.now.waiting.items c.walk-stop.new.new.items found.kept in
    omega (arith, few, c.requires.room.waiting)

marked_after : (g : Topology) (root : ℕ) (tree : List TreeNode) (x : ℕ) (growing : Growing) (kind : EarKind) (link first stop : ℕ) (new : List ℕ) (marks marks' : List Mark)
    → marks' ≡ marks → (found : IsFoundEar g root tree x growing kind link first stop new)
    → AreEarMarked g tree (ear_of kind x link first found.others stop) growing.marks.items marks → AreEarMarked g tree found.ear growing.marks.items marks'
marked_after g root tree x growing kind link first stop new marks marks' same found set =
    subst (λ (xs : List Mark). AreEarMarked g tree found.ear growing.marks.items xs) (sym same)
    (subst (λ (ear : Ear). AreEarMarked g tree ear growing.marks.items marks) (sym found.is_ear) set)

pub mark_ear-requires-clause-can : goal.mark_ear-requires-clause-can
mark_ear-requires-clause-can c =
    let starts = c.requires.starts in
    let found = found_ear c.args.g.now starts.root c.args.tree.now c.args.kind c.args.growing.now c.args.x c.args.link c.args.first c.walk-stop.result c.walk-stop.new.new.items
    c.deref.result.now c.deref.ensures.value starts starts.turn c.walk-stop.ensures.way in
    subst (λ (xs : List ℕ). IsMarkable c.args.g.now c.args.tree.now c.args.kind c.args.x c.args.link xs c.begins_block-begins.result) (sym c.deref-2.ensures.value)
    (markable_ear c.args.g.now starts.root c.args.tree.now c.args.x c.args.growing.now c.args.kind c.args.link c.args.first c.walk-stop.result
    c.walk-stop.new.new.items c.begins_block-begins.result found c.begins_block-begins.ensures)

pub mark_ear-requires-clause-one_each : goal.mark_ear-requires-clause-one_each
mark_ear-requires-clause-one_each c = c.requires.starts.turn.marked.one_each

pub returns-clause-turn : goal.returns-clause-turn
returns-clause-turn c = λ root turn.
    let found = found_ear c.args.g.now root c.args.tree.now c.args.kind c.args.growing.now c.args.x c.args.link c.args.first c.walk-stop.result c.walk-stop.new.new.items
    c.deref.result.now c.deref.ensures.value c.requires.starts turn c.walk-stop.ensures.way in
    let place = subst (λ (xs : List Place). IsPlaceOfEar c.args.kind c.args.x c.args.first c.walk-stop.result xs c.place_of_ear-place.result)
    c.deref-3.ensures.value c.place_of_ear-place.ensures in
    turn_grown c.args.g.now root c.args.tree.now c.args.x c.args.growing.now c.enter_all.new.growing c.args.kind c.args.link c.args.first c.walk-stop.result
    c.place_of_ear-place.result.head c.place_of_ear-place.result.block c.walk-stop.new.new.items turn found place
    c.enter_all.ensures.order c.enter_all.ensures.waiting c.enter_all.ensures.entered
    (marked_after c.args.g.now root c.args.tree.now c.args.x c.args.growing.now c.args.kind c.args.link c.args.first c.walk-stop.result c.walk-stop.new.new.items
    c.mark_ear.new.marks.items c.enter_all.new.growing.marks.items (ap (λ v. v.items) c.enter_all.ensures.marks) found
    (c.mark_ear.ensures.marked c.args.first c.walk-stop.result found.others (c.deref-2.ensures.value ∙ found.are) c.begins_block-begins.ensures))

pub returns-clause-entered : goal.returns-clause-entered
returns-clause-entered c =
    let starts = c.requires.starts in
    let found = found_ear c.args.g.now starts.root c.args.tree.now c.args.kind c.args.growing.now c.args.x c.args.link c.args.first c.walk-stop.result c.walk-stop.new.new.items
    c.deref.result.now c.deref.ensures.value starts starts.turn c.walk-stop.ensures.way in
    c.enter_all.ensures.entered.marked c.args.first
    (subst (λ (xs : List ℕ). Contains xs c.args.first) found.is_new
    (subst (λ (v : ℕ). Contains (v ∷ found.ear.others) c.args.first) (sym found.is_first) (contains_first c.args.first found.ear.others)))
