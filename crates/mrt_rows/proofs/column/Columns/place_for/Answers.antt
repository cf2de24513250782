use Rattle.std.proofs.Common.{◌≡◌, ◌<◌, ◌∙◌, ℕ, List, Some, length, slice_get, sym, ap, subst}
use Rattle.std.specs.Prelude.{IfSome}
use Rattle.std.proofs.lemmas.List.{with_items_is}
use Rattle.mrt_rows.specs.steps.ListedDirections.{directions_by}
use Rattle.mrt_rows.proofs.HeldColumns.{retargeted}
use Rattle.mrt_rows.proofs.column.Columns.place_for.Goals as goal

pub take_next-requires-clause-some : goal.take_next-requires-clause-some
take_next-requires-clause-some c = subst (λ (xs : List ℕ). 0 < length xs) (sym c.deref_mut.ensures.value) c.requires.held.some_places

pub take_next-requires-clause-marks : goal.take_next-requires-clause-marks
take_next-requires-clause-marks c =
    subst (λ (n : ℕ). IfSome c.args.marks (λ marks. length marks.now ≡ n)) (sym c.node_count.ensures.count) c.requires.marks

pub aim_tiles-requires-clause-within : goal.aim_tiles-requires-clause-within
aim_tiles-requires-clause-within c = λ j t at.
    let same = with_items_is c.args.self.now.targets c.take_next.new.targets (c.take_next.ensures.one_each ∙ c.deref_mut.ensures.len) in
    subst (λ (n : ℕ). t < n) c.node_count.ensures.count
    (c.take_next.ensures.within j t (subst (λ (ts : List ℕ). slice_get ts j ≡ Some t) same at))

pub aim_tiles-requires-clause-held : goal.aim_tiles-requires-clause-held
aim_tiles-requires-clause-held c =
    let rooted = c.args.rooted.now in
    let same = with_items_is c.args.self.now.targets c.take_next.new.targets (c.take_next.ensures.one_each ∙ c.deref_mut.ensures.len) in
    retargeted rooted.graph.now rooted.root (directions_by rooted) c.args.self.now _
    (ap (λ (xs : List ℕ). length xs) same ∙ c.take_next.ensures.one_each ∙ ap (λ (xs : List ℕ). length xs) c.deref_mut.ensures.value)
    c.requires.held

pub returns-in-None-clause-place : goal.returns-in-None-clause-place
returns-in-None-clause-place c =
    let same = with_items_is c.args.self.now.targets c.take_next.new.targets (c.take_next.ensures.one_each ∙ c.deref_mut.ensures.len) in
    ap (λ (ts : List ℕ). slice_get ts 0) (c.aim_tiles.ensures.targets ∙ same) ∙ c.take_next.ensures.first
