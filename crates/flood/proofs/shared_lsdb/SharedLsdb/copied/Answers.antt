use Rattle.std.proofs.Common.{◌≡◌, ◌∙◌, [], ap, subst}
use Rattle.lsdb.specs.Entries.{Database}
use Rattle.lsdb.specs.Installs.{all_installed}
use Rattle.flood.specs.Runs.{numbered}
use Rattle.flood.specs.steps.SharedStore.{IsSharedStore, lsas_in}
use Rattle.flood.proofs.Copies.{copied_lsas, copied_of_the_same, copied_placeless, copied_settled}
use Rattle.flood.proofs.shared_lsdb.SharedLsdb.copied.Goals as goal

-- the entries are kept, and the copy has those of installing them one after another
kept_here : (c : goal.In_ok-copy) → IsSharedStore c.self.inside.store.now.keys.keys c.args.self.now.entries c.self.inside.store.now.greatest
kept_here c =
    subst (λ (d : Database). IsSharedStore c.self.inside.store.now.keys.keys d.entries c.self.inside.store.now.greatest)
    c.self.view_is c.self.invariant.entries

copied_here : (c : goal.In_ok-copy) → c.in_ok-copy.copy.entries ≡ all_installed [] (numbered 0 (lsas_in c.args.self.now.entries))
copied_here c =
    c.in_ok-copy.ensures.entries ∙ ap (λ (d : Database). all_installed [] (numbered 0 (lsas_in d.entries))) c.self.view_is

pub returns-clause-settled : goal.returns-clause-settled
returns-clause-settled c = copied_settled _ c.args.self.now.entries c.in_ok-copy.copy.entries _ (kept_here c) (copied_here c)

pub returns-clause-newest : goal.returns-clause-newest
returns-clause-newest c = copied_placeless _ c.args.self.now.entries c.in_ok-copy.copy.entries _ (kept_here c) (copied_here c)

pub returns-clause-places : goal.returns-clause-places
returns-clause-places c = copied_lsas _ c.args.self.now.entries c.in_ok-copy.copy.entries _ (kept_here c) (copied_here c)

pub returns-clause-of_the_same : goal.returns-clause-of_the_same
returns-clause-of_the_same c = copied_of_the_same _ c.args.self.now.entries c.in_ok-copy.copy.entries _ (kept_here c) (copied_here c)
