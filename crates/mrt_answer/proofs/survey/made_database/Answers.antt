use Rattle.std.proofs.Common.{◌∙◌, ℕ, List, map, subst}
use Rattle.lsdb.specs.Database.{IsDatabase}
use Rattle.lsdb.specs.Entries.{Entry}
use Rattle.mrt_args.proofs.HandedOn.{if_ok}
use Rattle.mrt_answer.proofs.MadeNetworks.{memory_of_database}
use Rattle.mrt_answer.proofs.survey.made_database.Goals as goal

pub returns-clause-newest : goal.returns-clause-newest
returns-clause-newest c =
    if_ok c.database_of.result _ _ c.database_of.ensures.newest (λ database held.
    c.made_networks_are_taken.ensures.newest c.args.number c.args.nodes c.requires (map (λ (entry : Entry). entry.lsa) database.entries)
    (subst (λ (text : List ℕ). IsDatabase text (map (λ (entry : Entry). entry.lsa) database.entries))
    (c.as_slice.ensures.value ∙ c.in_ok-bytes.ensures.text) held))

pub returns-clause-none : goal.returns-clause-none
returns-clause-none c =
    memory_of_database c.database_of.result c.as_slice.result.now
    (rw (c.as_slice.ensures.value, c.in_ok-bytes.ensures.text) (c.made_networks_are_taken.ensures.faultless c.args.number c.args.nodes c.requires))
    c.database_of.ensures.none
