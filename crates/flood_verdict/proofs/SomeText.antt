-- A script of deliveries has a text.
use Rattle.std.proofs.Common.{◌≡◌, ◌++◌, ◌<◌, ◌^◌, ℕ, List, [], ◌∷◌, Option, Some, map, refl, subst}
use Rattle.std.specs.List.{AllByRecursion}
use Rattle.std.specs.Option.{IsSomeAnd}
use Rattle.flood.specs.Databases.{after_installs, empty_database}
use Rattle.flood.specs.FloodState.{FloodState, database_of, started}
use Rattle.flood.specs.FloodStep.{delivered}
use Rattle.flood.specs.Receiving.{MayFlood}
use Rattle.flood.specs.Runs.{Delivery, after_deliveries, after_delivery, delivered_to, lsas_of}
use Rattle.flood.specs.declared.update.Update.{Update}
use Rattle.flood.specs.FloodScripts.{IsAmong}
use Rattle.flood.specs.FloodTexts.{IsFloodText, answer_line, verdict_line}
use Rattle.flood.specs.declared.script.FloodLine.{FloodLine}
use Rattle.flood.specs.declared.script.FloodLine.TheVariants.{Deliver, Same}
use Rattle.flood.specs.declared.script.FloodScript.{FloodScript}
use Rattle.flood.specs.declared.verdict.Verdict.{Verdict}
use Rattle.lsdb.specs.Entries.{Database}
use Rattle.lsdb.specs.Installing.{IsKept}
use Rattle.lsdb.specs.Orders.{newest_in}
use Rattle.mrt_island.specs.declared.setting.Setting.{Setting}
use Rattle.ospf_lsa.specs.Lsas.{FitsBody}
use Rattle.ospf_lsa.specs.declared.lsa.Lsa.{Lsa}
use Rattle.flood_verdict.specs.OfLsas.{IsOfLsas}
use Rattle.flood_verdict.specs.Says.{Says}

-- the laws of the layers below on databases, and that there is a verdict
pub record TextLaws : Type 0 where
  pub database : (updates : List Update) (count : ℕ) (deliveries : List Delivery) (router : ℕ) → router < count
      → database_of (after_deliveries (started updates count) deliveries) router
      ≡ Some (after_installs empty_database (delivered_to updates count deliveries router))
  pub newest : (updates : List Update) (count : ℕ) (deliveries : List Delivery) (router : ℕ) → router < count
      → IsSomeAnd (database_of (after_deliveries (started updates count) deliveries) router)
      (λ database. map (λ entry. entry.lsa) database.entries ≡ newest_in (delivered_to updates count deliveries router))
  pub kept : (updates : List Update) (count : ℕ) (deliveries : List Delivery) (router : ℕ) → AllByRecursion MayFlood updates
      → AllByRecursion IsKept (delivered_to updates count deliveries router)
  pub bodies : (updates : List Update) (count : ℕ) (deliveries : List Delivery) (router : ℕ)
      → AllByRecursion (λ (lsa : Lsa). FitsBody lsa.body) (lsas_of updates)
      → AllByRecursion (λ (lsa : Lsa). FitsBody lsa.body) (delivered_to updates count deliveries router)
  pub ids : (updates : List Update) (count : ℕ) (deliveries : List Delivery) (router : ℕ)
      → AllByRecursion (λ (lsa : Lsa). lsa.id < 2 ^ 32) (lsas_of updates)
      → AllByRecursion (λ (lsa : Lsa). lsa.id < 2 ^ 32) (delivered_to updates count deliveries router)
  pub verdict : (settings : List Setting) (its others : Database) (router : ℕ) → IsOfLsas its → IsOfLsas others
      → (verdict : Verdict) × Says settings its others router verdict

-- one delivery more
after_on : (state : FloodState) (before : List Delivery) (delivery : Delivery)
    → after_deliveries state (before ++ delivery ∷ []) ≡ after_delivery (after_deliveries state before) delivery
after_on state [] delivery = refl
after_on state (first ∷ before) delivery = after_on (after_delivery state first) before delivery

module _ (laws : TextLaws) (settings : List Setting) (updates : List Update) (count : ℕ) (may : AllByRecursion MayFlood updates)
    (bodies : AllByRecursion (λ (lsa : Lsa). FitsBody lsa.body) (lsas_of updates))
    (ids : AllByRecursion (λ (lsa : Lsa). lsa.id < 2 ^ 32) (lsas_of updates)) where
  abbrev after : List Delivery → FloodState
  after before = after_deliveries (started updates count) before

  database_there : (before : List Delivery) (router : ℕ) → router < count
      → (database : Database) × (database_of (after before) router ≡ Some database) × IsOfLsas database
  database_there before router within =
      let is = laws.database updates count before router within in (
        after_installs empty_database (delivered_to updates count before router),
        is,
        record {
          lsas = delivered_to updates count before router;
          kept = laws.kept updates count before router may;
          bodies = laws.bodies updates count before router bodies;
          ids = laws.ids updates count before router ids;
          newest = subst (λ (o : Option Database). IsSomeAnd o
              (λ database. map (λ entry. entry.lsa) database.entries ≡ newest_in (delivered_to updates count before router))) is
              (laws.newest updates count before router within);
        },
      )

  text_there : (before : List Delivery) (lines : List FloodLine) → AllByRecursion (IsAmong count) lines
      → (text : List ℕ) × IsFloodText (Says settings) (after before) lines text
  text_there before [] among = ([], refl)
  text_there before (Deliver packet router ∷ lines) among =
      let delivery : Delivery = record { packet = packet; router = router } in
      let rest = text_there (before ++ delivery ∷ []) lines among.1 in
      let front : List ℕ = answer_line (delivered (after before) packet router).0 in (
        front ++ rest.0,
        (
          front,
          rest.0,
          refl,
          refl,
          subst (λ (state : FloodState). IsFloodText (Says settings) state lines rest.0) (after_on (started updates count) before delivery) rest.1,
        ),
      )
  text_there before (Same one other router ∷ lines) among =
      let its = database_there before one among.0.0 in
      let others = database_there before other among.0.1 in
      let verdict = laws.verdict settings its.0 others.0 router its.2 others.2 in
      let rest = text_there before lines among.1 in
      let front : List ℕ = verdict_line verdict.0 in (
        front ++ rest.0,
        (
          front,
          rest.0,
          refl,
          (verdict.0, record { its = its.0; others = others.0; its_are = its.1; others_are = others.1; told = verdict.1 }, refl),
          rest.1,
        ),
      )

-- from the beginning
pub script_text : TextLaws → (settings : List Setting) (updates : List Update) (script : FloodScript) → AllByRecursion MayFlood updates
    → AllByRecursion (λ (lsa : Lsa). FitsBody lsa.body) (lsas_of updates) → AllByRecursion (λ (lsa : Lsa). lsa.id < 2 ^ 32) (lsas_of updates)
    → AllByRecursion (IsAmong script.routers) script.lines
    → (text : List ℕ) × IsFloodText (Says settings) (started updates script.routers) script.lines text
script_text laws settings updates script may bodies ids among =
    text_there laws settings updates script.routers may bodies ids [] script.lines among
