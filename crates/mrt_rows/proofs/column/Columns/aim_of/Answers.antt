use Rattle.std.proofs.Common.{◌≡◌, ◌∙◌, ◌<◌, ◌+◌, ◌*◌, ℕ, List, Option, Some, get_or, length, slice_get, refl, sym, ap, subst, arith}
use Rattle.std.proofs.lemmas.Option.{get_or_from_slice_get, slice_get-get_or, slice_get_read, slice_get_within}
use Rattle.block_spf.specs.BlockAims.{aim_at}
use Rattle.block_spf.proofs.SideBySide.{row_within}
use Rattle.mrt_rows.specs.steps.Chain.{IsRowAim, Under}
use Rattle.mrt_rows.specs.steps.ListedDirections.{directions_by}
use Rattle.mrt_rows.proofs.AimsOfRows.{block_aim}
use Rattle.mrt_rows.proofs.Rooting.{og_of}
use Rattle.mrt_rows.proofs.column.Columns.aim_of.Goals as goal

read : (below : List (Option ℕ)) (i v : ℕ) (o : Option ℕ) → i ≡ v → v < length below → o ≡ get_or below i o → slice_get below v ≡ Some o
read below i v o named within is =
    subst (λ (x : ℕ). slice_get below x ≡ Some o) named
    (slice_get-get_or below i o (omega (arith, named, within)) ∙ ap (λ (x : Option ℕ). Some x) (sym is))

pub index-requires : goal.index-requires
index-requires c =
    omega (arith, c.args.self.now.below.small, c.get.ensures.value, c.requires.source, c.requires.aimed.below.one_each)

pub index-requires-2 : goal.index-requires-2
index-requires-2 c =
    let g = c.args.rooted.now.graph.now in
    let columns = c.args.self.now in
    let aims = columns.each.aims.items in
    let width = length columns.targets.items in
    let held = c.requires.aimed.held in
    let wide : c.len.result ≡ width = c.len.ensures ∙ columns.targets.ok.0 in
    let block_within = c.requires.aimed.rooted.ordered.heads.block_within c.args.s c.requires.source in
    let own_within : c.get-2.result < length g.ids = omega (arith, c.get-2.ensures.value, c.place.ensures.block, block_within) in
    let below : c.args.to.at < width = slice_get_within columns.targets.items c.args.to.at c.args.to.node c.requires.aimed.place in
    let same : c.get-2.result * c.len.result ≡ c.get-2.result * width = ap (λ (n : ℕ). c.get-2.result * n) wide in
    omega (arith, columns.each.aims.small, row_within c.get-2.result (length g.ids) width (length aims) held.each.aims own_within, below, same)

pub overflow_mul-at : goal.overflow_mul-at
overflow_mul-at c =
    let g = c.args.rooted.now.graph.now in
    let columns = c.args.self.now in
    let aims = columns.each.aims.items in
    let width = length columns.targets.items in
    let held = c.requires.aimed.held in
    let wide : c.len.result ≡ width = c.len.ensures ∙ columns.targets.ok.0 in
    let block_within = c.requires.aimed.rooted.ordered.heads.block_within c.args.s c.requires.source in
    let own_within : c.get-2.result < length g.ids = omega (arith, c.get-2.ensures.value, c.place.ensures.block, block_within) in
    let same : c.get-2.result * c.len.result ≡ c.get-2.result * width = ap (λ (n : ℕ). c.get-2.result * n) wide in
    omega (arith, columns.each.aims.small, row_within c.get-2.result (length g.ids) width (length aims) held.each.aims own_within, same)

pub overflow_add-at : goal.overflow_add-at
overflow_add-at c =
    let g = c.args.rooted.now.graph.now in
    let columns = c.args.self.now in
    let aims = columns.each.aims.items in
    let width = length columns.targets.items in
    let held = c.requires.aimed.held in
    let wide : c.len.result ≡ width = c.len.ensures ∙ columns.targets.ok.0 in
    let block_within = c.requires.aimed.rooted.ordered.heads.block_within c.args.s c.requires.source in
    let own_within : c.get-2.result < length g.ids = omega (arith, c.get-2.ensures.value, c.place.ensures.block, block_within) in
    let below : c.args.to.at < width = slice_get_within columns.targets.items c.args.to.at c.args.to.node c.requires.aimed.place in
    let same : c.get-2.result * c.len.result ≡ c.get-2.result * width = ap (λ (n : ℕ). c.get-2.result * n) wide in
    omega (arith, columns.each.aims.small, row_within c.get-2.result (length g.ids) width (length aims) held.each.aims own_within, below, same)

pub returns-in-Some : goal.returns-in-Some
returns-in-Some c =
    let below = c.requires.aimed.below in
    let at = read c.args.self.now.below.items c.get.result c.args.s c.index.result.now c.get.ensures.value
    (omega (arith, c.requires.source, below.one_each)) c.index.ensures in
    Under (at ∙ ap (λ (o : Option ℕ). Some o) c.in-Some.is)

pub returns : goal.returns
returns c =
    let rooted = c.args.rooted.now in
    let g = rooted.graph.now in
    let w = directions_by rooted in
    let s = c.args.s in
    let to = c.args.to in
    let columns = c.args.self.now in
    let aims = columns.each.aims.items in
    let width = length columns.targets.items in
    let held = c.requires.aimed.held in
    let none = read columns.below.items c.get.result s c.index.result.now c.get.ensures.value
    (omega (arith, c.requires.source, c.requires.aimed.below.one_each)) c.index.ensures ∙ ap (λ (o : Option ℕ). Some o) c.in_default.is in
    let wide : c.len.result ≡ width = c.len.ensures ∙ columns.targets.ok.0 in
    let block_is : c.get-2.result ≡ w.block s = c.get-2.ensures.value ∙ c.place.ensures.block in
    let block_within = c.requires.aimed.rooted.ordered.heads.block_within s c.requires.source in
    let below : to.at < width = slice_get_within columns.targets.items to.at to.node c.requires.aimed.place in
    let place : c.get-2.result * c.len.result + to.at ≡ w.block s * width + to.at =
    ap (λ (n : ℕ). c.get-2.result * n + to.at) wide ∙ ap (λ (b : ℕ). b * width + to.at) block_is in
    let room : w.block s * width + to.at < length aims =
    omega (arith, row_within (w.block s) (length g.ids) width (length aims) held.each.aims block_within, below) in
    let there : slice_get aims (w.block s * width + to.at) ≡ Some c.index-2.result.now =
    slice_get_read aims (length aims) (w.block s * width + to.at) c.index-2.result.now refl room
    (subst (λ (i : ℕ). c.index-2.result.now ≡ get_or aims i c.index-2.result.now) place c.index-2.ensures) in
    let aimed = held.aimed to.at to.node c.requires.aimed.place c.requires.aimed.within in
    subst (λ (a : ℕ). IsRowAim w columns.below.items s a) (get_or_from_slice_get aims (w.block s * width + to.at) c.index-2.result.now 0 there)
    (block_aim (og_of c.requires.aimed.rooted) to.node c.requires.aimed.within columns.below.items c.requires.aimed.below (aim_at aims width to.at)
    aimed.marks (aimed.aims.each to.at to.node c.requires.aimed.place) s c.requires.source none)
