-- Of a form over packets there comes an answer, and a network that can be made has its survey.
use Rattle.std.proofs.Common.{◌⊎◌, ◌<◌, ◌^◌, ℕ, List, [], Result, Ok, Err, inl, inr}
use Rattle.std.specs.List.{AllByRecursion}
use Rattle.flood.specs.FloodState.{started}
use Rattle.flood.specs.Receiving.{MayFlood}
use Rattle.flood.specs.Runs.{lsas_of}
use Rattle.flood.specs.UpdateOutcome.{IsFirstUpdateFault}
use Rattle.flood.specs.Updates.{AreUpdates}
use Rattle.flood.specs.declared.error.UpdateKind.{UpdateKind}
use Rattle.flood.specs.declared.update.Update.{Update}
use Rattle.flood.specs.FloodScripts.{IsAmong, IsFirstFloodFault, IsScript}
use Rattle.flood.specs.FloodTexts.{IsFloodText}
use Rattle.flood.specs.declared.script.FloodScript.{FloodScript}
use Rattle.flood_verdict.specs.Says.{Says}
use Rattle.mrt_graph.specs.AcceptedFor.{IsAcceptedAt}
use Rattle.mrt_graph.specs.Certificate.{Certificate}
use Rattle.text_parts.specs.TextLines.{text_lines}
use Rattle.mrt_graph.specs.Topology.{Topology}
use Rattle.mrt_island.specs.declared.island.Island.{Island}
use Rattle.mrt_island.specs.declared.setting.Setting.{Setting}
use Rattle.mrt_survey.specs.MadeLsas.{made_lsas}
use Rattle.mrt_survey.specs.SurveyText.{IsSurveyText}
use Rattle.ospf_lsa.specs.LsaText.{lsas_text}
use Rattle.ospf_lsa.specs.Lsas.{FitsBody, IsByte}
use Rattle.ospf_lsa.specs.declared.lsa.Lsa.{Lsa}
use Rattle.mrt_exit.specs.AnswerSteps.{◌▸◌}
use Rattle.mrt_exit.specs.declared.exit.Exit.{Exit}
use Rattle.mrt_exit.specs.declared.exit.Exit.TheVariants.{BadScript, BadUpdate}
use Rattle.mrt_args.specs.FileBytes.{FileBytes}
use Rattle.mrt_args.specs.Form.{IsNetworkSize}
use Rattle.mrt_answer.specs.Forms.{delivered, flooded}
use Rattle.mrt_answer.specs.Input.{Input}
use Rattle.mrt_answer.specs.Islands.{island_in}
use Rattle.mrt_answer.specs.Reading.{deliveries_of, input_of, profile_of, updates_of}
use Rattle.mrt_answer.specs.Surveyed.{IsSurveyed, made_input}
use Rattle.mrt_answer.proofs.AnswersCome.{ComingLaws, HasAnswer, a_profile, both, computed_file, held_in, ids_kept, island_here}
use Rattle.mrt_answer.proofs.OneAnswer.{area_kept, bonds_kept}

-- the laws of the layers below on packets and their deliveries
pub record FloodLaws : Type 0 where
  pub updates : (bytes : List ℕ) → AllByRecursion IsByte bytes
      → ((updates : List Update) × AreUpdates 0 bytes updates []) ⊎ ((at : ℕ) × (kind : UpdateKind) × IsFirstUpdateFault bytes at kind)
  pub may : (bytes : List ℕ) (updates : List Update) → AllByRecursion IsByte bytes → AreUpdates 0 bytes updates [] → AllByRecursion MayFlood updates
  pub bodies : (bytes : List ℕ) (updates : List Update) → AreUpdates 0 bytes updates []
      → AllByRecursion (λ (lsa : Lsa). FitsBody lsa.body) (lsas_of updates)
  pub ids : (bytes : List ℕ) (updates : List Update) → AreUpdates 0 bytes updates []
      → AllByRecursion (λ (lsa : Lsa). lsa.id < 2 ^ 32) (lsas_of updates)
  pub scripts : (lines : List (List ℕ)) → ((script : FloodScript) × IsScript lines script) ⊎ ((number : ℕ) × IsFirstFloodFault lines number)
  pub text : (settings : List Setting) (updates : List Update) (script : FloodScript) → AllByRecursion MayFlood updates
      → AllByRecursion (λ (lsa : Lsa). FitsBody lsa.body) (lsas_of updates) → AllByRecursion (λ (lsa : Lsa). lsa.id < 2 ^ 32) (lsas_of updates)
      → AllByRecursion (IsAmong script.routers) script.lines
      → (text : List ℕ) × IsFloodText (Says settings) (started updates script.routers) script.lines text

module _ (laws : FloodLaws) where
  packets_come : (bytes : List ℕ) → AllByRecursion IsByte bytes → HasAnswer (updates_of bytes)
  packets_come bytes are = elim (laws.updates bytes are) [
    | inl read ↦ (Ok read.0, read.1)
    | inr fault ↦ (Err (BadUpdate fault.0 fault.1), fault.2)
  ]

  deliveries_come : (bytes : List ℕ) → HasAnswer (deliveries_of bytes)
  deliveries_come bytes = elim (laws.scripts (text_lines bytes)) [
    | inl read ↦ (Ok read.0, read.1)
    | inr fault ↦ (Err (BadScript fault.0), fault.1)
  ]

  pub flooded_comes : ComingLaws → (bytes : FileBytes) → AllByRecursion IsByte bytes.first → HasAnswer (flooded bytes)
  flooded_comes coming bytes are =
      let packets = packets_come bytes.first are in
      let said = a_profile coming bytes.profile in
      let script = deliveries_come bytes.last in
      both (updates_of bytes.first) (λ updates. profile_of bytes.profile ▸ λ settings. deliveries_of bytes.last ▸ delivered updates settings)
      packets.0 packets.1 (λ updates is.
      both (profile_of bytes.profile) (λ settings. deliveries_of bytes.last ▸ delivered updates settings) said.0 said.1 (λ settings too.
      both (deliveries_of bytes.last) (delivered updates settings) script.0 script.1 (λ lines also.
      let may = laws.may bytes.first updates are is in
      let text = laws.text settings updates lines may (laws.bodies bytes.first updates is) (laws.ids bytes.first updates is) also.among in
      (Ok text.0, (may, text.1)))))

-- the survey of a network that can be made: router 1 of it has an island
pub survey_comes : ComingLaws → ((number : ℕ) (g : Topology) (root : ℕ) (c : Certificate) → IsAcceptedAt g root c → (text : List ℕ) × IsSurveyText number g root c text)
    → (number nodes : ℕ) → IsNetworkSize nodes → input_of (lsas_text (made_lsas number nodes)) [] (Ok (made_input number nodes))
    → ((exit : Exit) → island_in (made_input number nodes) 1 (Err exit) → ⊥) → (text : List ℕ) × IsSurveyed number nodes text
survey_comes laws survey number nodes size given no_exit =
    let database : List ℕ = lsas_text (made_lsas number nodes) in
    let found = island_here laws (made_input number nodes) (area_kept laws.areas database [] (made_input number nodes) given) 1 in
    by found.0 found.1
  where
    by : (answer : Result Island Exit) → island_in (made_input number nodes) 1 answer → (text : List ℕ) × IsSurveyed number nodes text
    by (Err exit) its = absurd (no_exit exit its)
    by (Ok island) its =
        let database : List ℕ = lsas_text (made_lsas number nodes) in
        let input : Input = made_input number nodes in
        let held = held_in laws input (area_kept laws.areas database [] input given) (bonds_kept laws.areas database [] input given)
        (ids_kept laws database [] input given) 1 island its in
        let file = computed_file laws island.graph island.root held.graph held.root in
        let text = survey number island.graph island.root file.0.cert
        (record { version = file.0.version; number = file.0.root; accepted = file.1.accepted }) in (
          text.0,
          record {
            size = size;
            island = island;
            island_is = its;
            survey = record { file = file.0; certificate = file.1; spelled = text.1 };
          },
        )
