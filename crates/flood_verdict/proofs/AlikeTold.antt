-- Comparisons of databases that were told the same.
use Rattle.std.proofs.Common.{◌≡◌, ◌∙◌, ◌∷◌, ◌<◌, [], ℕ, List, Option, Some, None, length, refl, subst, inl, inr, slice_get}
use Rattle.std.specs.Prelude.{map}
use Rattle.std.specs.List.{AllByRecursion}
use Rattle.std.specs.Option.{option_map, option_map_or}
use Rattle.std.proofs.Math.ListN.{length-set}
use Rattle.std.proofs.lemmas.List.{length-replicate}
use Rattle.std.proofs.lemmas.Option.{slice_get_within}
use Rattle.ospf_lsa.specs.declared.lsa.Lsa.{Lsa}
use Rattle.area_graph.specs.AreaOf.{area_of}
use Rattle.area_graph.specs.Parts.{AreaParts}
use Rattle.flood.specs.declared.answer.Answer.TheVariants as answers
use Rattle.flood.specs.Routers.{Router}
use Rattle.flood.specs.declared.update.Update.{Update}
use Rattle.flood.specs.FloodState.{FloodState, database_of, started}
use Rattle.flood.specs.FloodStep.{reached}
use Rattle.flood.specs.Receiving.{MayFlood, after_all, new_router, topology}
use Rattle.flood.specs.Runs.{AreNewestOfTheSame, Delivery, IsFlooded, after_deliveries, after_delivery, delivered_to}
use Rattle.flood.specs.declared.script.FloodLine.{FloodLine}
use Rattle.flood.specs.declared.script.FloodScript.{FloodScript}
use Rattle.flood.specs.declared.verdict.Verdict.TheVariants as verdicts
use Rattle.flood.specs.FloodTexts.{IsFloodText, deliveries_of}
use Rattle.flood.proofs.ComparedInState.{compared_in_state}
use Rattle.lsdb.specs.Conflicts.{least_conflict}
use Rattle.lsdb.specs.Entries.{Database, Entry}
use Rattle.lsdb.specs.Orders.{HoldTheSame}
use Rattle.mrt_island.specs.declared.setting.Setting.{Setting}
use Rattle.flood_verdict.specs.Alike.{AreAlike, ComparesAlike, IsToldAlike}
use Rattle.flood_verdict.specs.Says.{IsIslandCert, Says, area_in}
use Rattle.flood_verdict.proofs.OneVerdict.{CertLaws, one_file}

-- ---- deliveries keep the number of routers

kept_at : (state : FloodState) (router : ℕ) (update : Update) (there : Option Router)
    → length (option_map_or (reached state router update) there (answers.NoSuchRouter, state)).1.routers
    ≡ length state.routers
kept_at state router update None = refl
kept_at state router update (Some there) = length-set state.routers router (after_all there (topology update.lsas))

kept : (state : FloodState) (router : ℕ) (packet : Option Update)
    → length (option_map_or
    (λ (update : Update).
    option_map_or (reached state router update) (slice_get state.routers router) (answers.NoSuchRouter, state))
    packet (answers.NoSuchPacket, state)).1.routers ≡ length state.routers
kept state router None = refl
kept state router (Some update) = kept_at state router update (slice_get state.routers router)

routers_kept : (state : FloodState) (deliveries : List Delivery)
    → length (after_deliveries state deliveries).routers ≡ length state.routers
routers_kept state [] = refl
routers_kept state (delivery ∷ deliveries) =
    routers_kept (after_delivery state delivery) deliveries
    ∙ kept state delivery.router (slice_get state.packets delivery.packet)

there_is : (there : Option Router) (database : Database) → option_map (λ (r : Router). r.database) there ≡ Some database
    → (router : Router) × (there ≡ Some router)
there_is None database is = absurd cc
there_is (Some router) database is = (router, refl)

-- a router that has a database is one of so many
pub is_among : (updates : List Update) (count : ℕ) (deliveries : List Delivery) (router : ℕ) (database : Database)
    → database_of (after_deliveries (started updates count) deliveries) router ≡ Some database → router < count
is_among updates count deliveries router database is =
    let state = after_deliveries (started updates count) deliveries in
    let there = there_is (slice_get state.routers router) database is in
    subst (λ (n : ℕ). router < n) (routers_kept (started updates count) deliveries ∙ length-replicate count new_router)
    (slice_get_within state.routers router there.0 there.1)

-- ---- what alike deliveries bring

-- the laws of the layers below on deliveries and on areas
pub record FloodLaws : Type 0 where
  pub the_same : (updates : List Update) (count : ℕ) (deliveries : List Delivery) (router other : ℕ)
      (its others : Database) → AllByRecursion MayFlood updates → router < count → other < count
      → database_of (after_deliveries (started updates count) deliveries) router ≡ Some its
      → database_of (after_deliveries (started updates count) deliveries) other ≡ Some others
      → HoldTheSame (delivered_to updates count deliveries router) (delivered_to updates count deliveries other)
      → least_conflict its.entries ≡ None
      → AreNewestOfTheSame (map (λ entry. entry.lsa) its.entries) (map (λ entry. entry.lsa) others.entries)
  pub flooded : (updates : List Update) (count : ℕ) (deliveries : List Delivery) (router other : ℕ)
      (its others : Database) → AllByRecursion MayFlood updates → IsFlooded updates count deliveries
      → router < count → other < count
      → database_of (after_deliveries (started updates count) deliveries) router ≡ Some its
      → database_of (after_deliveries (started updates count) deliveries) other ≡ Some others
      → AreNewestOfTheSame (map (λ entry. entry.lsa) its.entries) (map (λ entry. entry.lsa) others.entries)
  pub one_area : (its others : List Lsa) → AreNewestOfTheSame its others → area_of its ≡ area_of others

module _ (laws : FloodLaws) (certs : CertLaws) (settings : List Setting) (updates : List Update) (count : ℕ)
    (may_flood : AllByRecursion MayFlood updates) where
  module _ (deliveries : List Delivery) (one other : ℕ) (its others : Database)
      (its_are : database_of (after_deliveries (started updates count) deliveries) one ≡ Some its)
      (others_are : database_of (after_deliveries (started updates count) deliveries) other ≡ Some others) where
    one_area_each : AreAlike updates count deliveries one other → least_conflict its.entries ≡ None
        → area_in its ≡ area_in others
    one_area_each (inl same) settled =
        laws.one_area (map (λ (entry : Entry). entry.lsa) its.entries) (map (λ (entry : Entry). entry.lsa) others.entries)
        (laws.the_same updates count deliveries one other its others may_flood
        (is_among updates count deliveries one its its_are) (is_among updates count deliveries other others others_are)
        its_are others_are same settled)
    one_area_each (inr flooded) settled =
        laws.one_area (map (λ (entry : Entry). entry.lsa) its.entries) (map (λ (entry : Entry). entry.lsa) others.entries)
        (laws.flooded updates count deliveries one other its others may_flood flooded
        (is_among updates count deliveries one its its_are) (is_among updates count deliveries other others others_are)
        its_are others_are)

    pub never_different : (router : ℕ) → AreAlike updates count deliveries one other
        → Says settings its others router verdicts.Different → ⊥
    never_different router alike (file, second, its_tell, others_tell, differ) =
        let area : area_in its ≡ area_in others = one_area_each alike its_tell.settled in
        let there : IsIslandCert settings (area_in others) router file =
        subst (λ (a : AreaParts). IsIslandCert settings a router file) area its_tell.told in
        differ (one_file certs settings (area_in others) router file second others_tell.area_kept there others_tell.told)

-- in the text of a script
pub told_alike : FloodLaws → CertLaws → (settings : List Setting) (updates : List Update) (script : FloodScript)
    (text : List ℕ) → AllByRecursion MayFlood updates
    → IsFloodText (Says settings) (started updates script.routers) script.lines text
    → (compares : ComparesAlike updates script) → IsToldAlike (Says settings) updates script compares text
told_alike laws certs settings updates script text may_flood is compares =
    let told = compared_in_state (Says settings) (started updates script.routers) compares.before compares.after
    compares.one compares.other compares.router text
    (subst (λ (l : List FloodLine). IsFloodText (Says settings) (started updates script.routers) l text)
    compares.lines_are is) in
    let compared = told.4 in
    record {
      front = told.0;
      rest = told.1;
      verdict = told.2;
      answers = told.3;
      agrees = λ is_different.
          never_different laws certs settings updates script.routers may_flood (deliveries_of compares.before)
          compares.one compares.other compared.its compared.others compared.its_are compared.others_are compares.router
          compares.alike
          (subst (Says settings compared.its compared.others compares.router) is_different compared.told);
      text_is = told.5;
    }
