use Rattle.std.proofs.Common.{◌∙◌, sym, ap, map}
use Rattle.lsdb.proofs.Stores.{lsas_of_entries}
use Rattle.lsdb.specs.Entries.{Database, Entry}
use Rattle.lsdb.proofs.lsdb.Lsdb.newest.Goals as goal

pub returns-clause-lsas : goal.returns-clause-lsas
returns-clause-lsas c =
    c.as_slice.ensures.value
    ∙ sym (lsas_of_entries c.self.inside.lsas.items c.self.inside.differing.items c.self.invariant.noted)
    ∙ ap (λ (d : Database). map (λ (entry : Entry). entry.lsa) d.entries) c.self.view_is
