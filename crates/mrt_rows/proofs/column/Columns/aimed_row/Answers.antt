use Rattle.std.proofs.Common.{◌≡◌, ◌≢◌, ◌∙◌, ℕ, Some, sym, ap, subst}
use Rattle.std.proofs.lemmas.Bool.{eqb-false, eqb-true}
use Rattle.mrt_rows.specs.steps.NearOf.{IsNearRow}
use Rattle.mrt_rows.specs.Put.{AreFirstLinks}
use Rattle.mrt_rows.specs.steps.ListedDirections.{directions_by}
use Rattle.mrt_rows.proofs.ChainAims.{aim_apart, aim_within}
use Rattle.mrt_rows.proofs.Rooting.{og_of}
use Rattle.mrt_rows.proofs.column.Columns.aimed_row.Goals as goal

pub returns-then-eq : goal.returns-then-eq
returns-then-eq c =
    let rooted = c.args.rooted.now in
    let g = rooted.graph.now in
    let root = rooted.root in
    let w = directions_by rooted in
    let og = og_of c.requires.aimed.rooted in
    let s = c.args.s in
    let source = c.source-source.ensures.source in
    let node = c.source-source.ensures.node in
    let head : w.head s ≡ c.args.aim = ap w.head (sym node) ∙ sym source.place.head ∙ eqb-true c.source-source.result.place.head c.args.aim (sym c.eq.ensures ∙ c.if-eq.true) in
    let apart = aim_apart og c.args.to.node c.requires.aimed.within c.args.self.now.below.items c.requires.aimed.below s c.args.aim c.requires.source c.requires.two
    c.requires.aim in
    let other : s ≢ root = λ at_root. apart (sym head ∙ ap w.head at_root ∙ og.ordered.heads.root_head ∙ sym at_root) in
    subst (λ (t : ℕ). IsNearRow g root w s t (Some c.row_home.result)) head
    (subst (λ (v : ℕ). IsNearRow g root w v (w.head v) (Some c.row_home.result)) node
    (c.row_home.ensures g root w og.kept og.ordered source (λ at_root. other (sym node ∙ at_root))))

pub place-requires-clause-node : goal.place-requires-clause-node
place-requires-clause-node c =
    aim_within (og_of c.requires.aimed.rooted) c.args.to.node c.requires.aimed.within c.args.self.now.below.items c.requires.aimed.below c.args.s c.args.aim
    c.requires.source c.requires.aim

pub row-requires-clause-relation : goal.row-requires-clause-relation
row-requires-clause-relation c = (c.place.result, c.place.ensures, c.relation_of-relation.ensures)

pub row-requires-clause-target : goal.row-requires-clause-target
row-requires-clause-target c =
    aim_within (og_of c.requires.aimed.rooted) c.args.to.node c.requires.aimed.within c.args.self.now.below.items c.requires.aimed.below c.args.s c.args.aim
    c.requires.source c.requires.aim

pub row-requires-clause-two : goal.row-requires-clause-two
row-requires-clause-two c = λ same.
    aim_apart (og_of c.requires.aimed.rooted) c.args.to.node c.requires.aimed.within c.args.self.now.below.items c.requires.aimed.below c.args.s c.args.aim
    c.requires.source c.requires.two c.requires.aim (sym same ∙ c.source-source.ensures.node)

pub links_to-links-requires-clause-away : goal.links_to-links-requires-clause-away
links_to-links-requires-clause-away c = λ same.
    let w = directions_by c.args.rooted.now in
    let source = c.source-source.ensures.source in
    eqb-false c.source-source.result.place.head c.args.aim (sym c.eq.ensures ∙ c.if-eq.false)
    (source.place.head ∙ ap w.head c.source-source.ensures.node ∙ same)

pub row-requires-clause-links : goal.row-requires-clause-links
row-requires-clause-links c =
    let rooted = c.args.rooted.now in
    subst (λ (v : ℕ). AreFirstLinks rooted.graph.now (directions_by rooted) v c.args.aim c.links_to-links.result) (sym c.source-source.ensures.node) c.links_to-links.ensures

pub returns : goal.returns
returns c =
    let rooted = c.args.rooted.now in
    subst (λ (v : ℕ). IsNearRow rooted.graph.now rooted.root (directions_by rooted) v c.args.aim c.row.result) c.source-source.ensures.node c.row.ensures
