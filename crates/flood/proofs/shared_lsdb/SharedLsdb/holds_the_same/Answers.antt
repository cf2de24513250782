use Rattle.std.proofs.Common.{◌∙◌, sym, ap, subst, map}
use Rattle.lsdb.specs.Entries.{Database, Entry}
use Rattle.lsdb.specs.Orders.{without_place}
use Rattle.flood.specs.steps.Numbers.{entries_by}
use Rattle.flood.specs.steps.SharedStore.{IsSharedStore}
use Rattle.flood.proofs.Copies.{of_the_same, placeless_in}
use Rattle.flood.proofs.shared_lsdb.SharedLsdb.holds_the_same.Goals as goal

pub returns-clause-same : goal.returns-clause-same
returns-clause-same c =
    let here = ap (λ (d : Database). map (λ (e : Entry). without_place e.lsa) d.entries) (sym c.self.view_is)
    ∙ placeless_in (entries_by c.self.inside.lsas.now c.self.inside.store.now.held.items) in
    let there = ap (λ (d : Database). map (λ (e : Entry). without_place e.lsa) d.entries) (sym c.other.view_is)
    ∙ placeless_in (entries_by c.other.inside.lsas.now c.other.inside.store.now.held.items) in (
      λ holds. here ∙ c.hold_the_same.ensures.0 holds ∙ sym there,
      λ same. c.hold_the_same.ensures.1 (sym here ∙ same ∙ there),
    )

pub returns-clause-of_the_same : goal.returns-clause-of_the_same
returns-clause-of_the_same c =
    let here = ap (λ (d : Database). map (λ (e : Entry). without_place e.lsa) d.entries) (sym c.self.view_is)
    ∙ placeless_in (entries_by c.self.inside.lsas.now c.self.inside.store.now.held.items) in
    let there = ap (λ (d : Database). map (λ (e : Entry). without_place e.lsa) d.entries) (sym c.other.view_is)
    ∙ placeless_in (entries_by c.other.inside.lsas.now c.other.inside.store.now.held.items) in
    λ holds.
    of_the_same c.self.inside.store.now.keys.keys c.other.inside.store.now.keys.keys c.args.self.now.entries
    c.args.other.now.entries c.self.inside.store.now.greatest c.other.inside.store.now.greatest
    (subst (λ (d : Database).
    IsSharedStore c.self.inside.store.now.keys.keys d.entries c.self.inside.store.now.greatest)
    c.self.view_is c.self.invariant.entries)
    (subst (λ (d : Database).
    IsSharedStore c.other.inside.store.now.keys.keys d.entries c.other.inside.store.now.greatest)
    c.other.view_is c.other.invariant.entries)
    (here ∙ c.hold_the_same.ensures.0 holds ∙ sym there)
