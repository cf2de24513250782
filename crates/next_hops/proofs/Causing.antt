-- From the errors of the calls to the causes of failures.
use Rattle.std.proofs.Common.{◌≡◌, ◌⊎◌, ◌∙◌, ◌<◌, ℕ, false, List, [], Option, Some, None, Result, Ok, Err, length, ap, inl, inr, refl, sym, subst, true≢false}
use Rattle.std.specs.Prelude.{Contains, IfErr}
use Rattle.std.specs.Result.{IsErrAnd}
use Rattle.std.proofs.lemmas.Option.{slice_get_within}
use Rattle.area_graph.specs.AreaOf.{area_of}
use Rattle.area_graph.specs.AreaSize.{TellsTooLarge}
use Rattle.area_graph.specs.Parts.{AreaParts}
use Rattle.area_graph.specs.declared.area_error.AreaError.{AreaError}
use Rattle.area_graph.specs.declared.area_error.AreaError.TheVariants as areas
use Rattle.lsdb.specs.Conflicts.{least_conflict, settled_by}
use Rattle.lsdb.specs.Database.{HoldsLsas, IsDatabase, entering}
use Rattle.lsdb.specs.Disagreements.{IsFirstConflictOf}
use Rattle.lsdb.specs.Entries.{Entry, entries_in}
use Rattle.lsdb.specs.declared.change.Conflict.{Conflict}
use Rattle.mrt_graph.specs.NodeIds.{router}
use Rattle.mrt_graph.specs.Topology.{Topology}
use Rattle.mrt_graph.proofs.ListPlaces.{contains_at}
use Rattle.mrt_island.specs.IslandOf.{IsIsland}
use Rattle.mrt_island.specs.Numbering.{number_inside}
use Rattle.mrt_island.specs.Policy.{Policy, policy_of}
use Rattle.mrt_island.specs.Settings.{supports}
use Rattle.mrt_island.specs.declared.island_error.IslandError.{IslandError}
use Rattle.mrt_island.specs.declared.island_error.IslandError.TheVariants as islands
use Rattle.mrt_island.specs.declared.setting.Setting.{Setting}
use Rattle.mrt_island.proofs.Counting.{flagged_at}
use Rattle.next_hops.specs.Causes.{IsCause}
use Rattle.next_hops.specs.steps.Causes.{IsMissed}
use Rattle.next_hops.specs.Failures.{area_failure, island_failure, lsa_failure}
use Rattle.next_hops.specs.NextHops.{HasIsland}
use Rattle.next_hops.specs.declared.failure.Failure.{Failure}
use Rattle.next_hops.specs.declared.failure.Failure.TheVariants as failures
use Rattle.ospf_lsa.specs.Outcome.{IsFirstLsaFault}
use Rattle.ospf_lsa.specs.declared.error.LsaError.{LsaError}
use Rattle.ospf_lsa.specs.declared.error.LsaError.TheVariants as lsa_errors
use Rattle.ospf_lsa.specs.declared.error.LsaKind.{LsaKind}
use Rattle.ospf_lsa.specs.declared.lsa.Lsa.{Lsa}

-- what is so of a failure, handed on by `?`
pub failed : {T : Type 0} (result : Result T Failure) (failure : Failure) (P : Failure → Type 0)
    → IsErrAnd result (λ told. told ≡ failure) → P failure → IfErr result P
failed (Ok t) failure P is so = tt
failed (Err told) failure P is so = subst P (sym is) so

pub lsa_cause : {T : Type 0} (bytes : List ℕ) (number other : ℕ) (error : LsaError)
    → ((at : ℕ) (kind : LsaKind) → ◌≡◌ {A = Result T LsaError} (Err error) (Err (lsa_errors.Fault at kind)) → IsFirstLsaFault bytes at kind)
    → IsCause bytes number other (lsa_failure error)
lsa_cause bytes number other (lsa_errors.Fault at kind) first = first at kind refl
lsa_cause bytes number other lsa_errors.NoMemory first = tt

conflict_told : (least : Option Conflict) (conflict : Conflict)
    → ◌≡◌ {A = Result (Unit {0}) Conflict} (Err conflict) (settled_by least) → least ≡ Some conflict
conflict_told None conflict is = absurd cc
conflict_told (Some c) conflict is = cc

pub conflict_cause : (bytes : List ℕ) (number other : ℕ) (lsas : List Lsa) → HoldsLsas bytes lsas → (entries : List Entry)
    → entries ≡ entries_in (entering lsas)
    → ((all : List Lsa) (conflict : Conflict) → least_conflict (entries_in all) ≡ Some conflict → IsFirstConflictOf all conflict)
    → (conflict : Conflict) → ◌≡◌ {A = Result (Unit {0}) Conflict} (Err conflict) (settled_by (least_conflict entries))
    → IsCause bytes number other (failures.Conflict conflict)
conflict_cause bytes number other lsas held entries are first conflict is =
    (lsas, held, first (entering lsas) conflict (sym (ap least_conflict are) ∙ conflict_told (least_conflict entries) conflict is))

pub area_cause : (bytes : List ℕ) (number other : ℕ) (newest : List Lsa) → IsDatabase bytes newest → (error : AreaError)
    → (error ≡ areas.NoMemory) ⊎ TellsTooLarge (length (area_of newest).ids) (length (area_of newest).arcs) error
    → IsCause bytes number other (area_failure error)
area_cause bytes number other newest database (areas.TooLarge nodes arcs) (inl is) = absurd cc
area_cause bytes number other newest database (areas.TooLarge nodes arcs) (inr tells) = (newest, database, tells)
area_cause bytes number other newest database areas.NoMemory told = tt

-- a router that is not there; under no settings each router supports the profile
pub island_cause : {T : Type 0} (bytes : List ℕ) (number other : ℕ) (newest : List Lsa) → IsDatabase bytes newest
    → (area : AreaParts) → area ≡ area_of newest → (settings : List Setting) → settings ≡ [] → (error : IslandError)
    → (◌≡◌ {A = Result T IslandError} (Err error) (Err islands.NotThere) → Contains area.ids (router number) → ⊥)
    → (◌≡◌ {A = Result T IslandError} (Err error) (Err islands.Unsupported)
    → Contains area.ids (router number) × (supports settings number ≡ false))
    → IsCause bytes number other (island_failure error)
island_cause bytes number other newest database area is settings none islands.NotThere missing unsupported =
    (newest, database, subst (λ (a : AreaParts). Contains a.ids (router number) → ⊥) is (missing refl))
island_cause bytes number other newest database area is settings none islands.Unsupported missing unsupported =
    absurd (true≢false (subst (λ (s : List Setting). supports s number ≡ false) none (unsupported refl).1))
island_cause bytes number other newest database area is settings none islands.NoMemory missing unsupported = tt

-- the root and the router are nodes of the router's island
pub inside : (policy : Policy) (area : AreaParts) (number : ℕ) (graph : Topology) (root : ℕ) (link_of : List (Option ℕ))
    → IsIsland policy area number graph root link_of → (root < length graph.ids) × Contains graph.ids (router number)
inside policy area number graph root link_of island =
    let start = island.those.start in
    rw island.made.same_ids (
      slice_get_within _ root island.rooted.id island.rooted.there,
      contains_at _ (number_inside island.inside start) (router number)
          (flagged_at island.inside area.ids start (router number) island.those.there ((island.those.those start).1 ([], refl))),
    )

-- the island of what the calls gave, in the words of the bytes
pub island_of : (bytes : List ℕ) (number : ℕ) (graph : Topology) (root : ℕ) (link_of : List (Option ℕ)) (newest : List Lsa)
    → IsDatabase bytes newest → (area : AreaParts) → area ≡ area_of newest → (settings : List Setting) → settings ≡ []
    → IsIsland (policy_of settings) area number graph root link_of → HasIsland bytes number graph root
island_of bytes number graph root link_of newest database area is settings none island = record {
  newest = newest;
  database = database;
  link_of = link_of;
  island = subst (λ (s : List Setting). IsIsland (policy_of s) (area_of newest) number graph root link_of) none
      (subst (λ (a : AreaParts). IsIsland (policy_of settings) a number graph root link_of) is island);
}

-- a destination that is not there
pub missed : {T : Type 0} (result : Result T Failure) (bytes : List ℕ) (number other : ℕ) (graph : Topology) (root : ℕ)
    → HasIsland bytes number graph root → IfErr result (IsMissed graph.ids other) → IfErr result (IsCause bytes number other)
missed (Ok t) bytes number other graph root island said = tt
missed (Err failures.NotThere) bytes number other graph root island said = (graph, root, island, said)
missed (Err failures.NoMemory) bytes number other graph root island said = tt
missed (Err failure) bytes number other graph root island said = absurd said
