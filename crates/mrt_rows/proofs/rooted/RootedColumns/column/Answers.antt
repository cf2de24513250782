use Rattle.std.proofs.Common.{ℕ, length, sym, subst}
use Rattle.mrt_graph.specs.declared.cert.CertFile.{CertFile}
use Rattle.mrt_graph.specs.Column.{ColumnSound}
use Rattle.mrt_rows.specs.CertOf.{IsCertOf}
use Rattle.mrt_rows.specs.ColumnOf.{HasRowsFor}
use Rattle.mrt_rows.specs.Rooted.{AreAimedAt}
use Rattle.mrt_rows.specs.RootedParts.{RootedParts}
use Rattle.mrt_rows.specs.ListedDirections.{directions_of}
use Rattle.mrt_rows.proofs.rooted.RootedColumns.column.Goals as goal

pub new-requires : goal.new-requires
new-requires c = (subst (λ (rooted : RootedParts). AreAimedAt c.args.g.now c.requires.0 rooted) (sym c.self.view_is) c.requires.1).aimed

pub returns-clause-rows : goal.returns-clause-rows
returns-clause-rows c = λ to file at is_of.
    let g = c.args.g.now in
    let root = c.self.inside.root in
    let d = c.self.inside.directed in
    let it = subst (λ (rooted : RootedParts). AreAimedAt g to rooted) (sym c.self.view_is) at in
    let from = it.made.directed in
    let is = subst (λ (rooted : RootedParts). IsCertOf g rooted.root file) (sym c.self.view_is) is_of in
    let rooted = it.aimed.rooted in
    let within = rooted.ordered.root_within in
    let found = c.columns_are_of_one_certificate.ensures g root from.tree from.gadag d (directions_of g d) rooted.kept within from.searched from.by_ears
    from.in_order rooted.says in
    subst (λ (t : ℕ). HasRowsFor file.cert t c.new.result) it.is
    (subst (λ (f : CertFile). HasRowsFor f.cert c.self.inside.to.node c.new.result) (c.one_certificate.ensures.one g root found.0 file rooted.kept within found.1 is)
    (found.2.each c.self.inside.to.node c.new.result it.aimed.within c.new.ensures))

pub returns-clause-sound : goal.returns-clause-sound
returns-clause-sound c = λ to at.
    let g = c.args.g.now in
    let d = c.self.inside.directed in
    let it = subst (λ (rooted : RootedParts). AreAimedAt g to rooted) (sym c.self.view_is) at in
    let rooted = it.aimed.rooted in
    subst (λ (t : ℕ). ColumnSound g.links (length g.ids) c.new.result t) it.is
    (c.columns_are_sound.ensures g c.self.inside.root (directions_of g d) c.self.inside.to.node c.new.result rooted.kept rooted.ordered it.aimed.within
    c.new.ensures)
