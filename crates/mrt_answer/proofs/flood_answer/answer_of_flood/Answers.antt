use Rattle.std.proofs.Common.{ℕ, List, Ok, Err, subst}
use Rattle.flood.specs.declared.update.Update.{Update}
use Rattle.flood.specs.FloodState.{started}
use Rattle.flood.specs.declared.script.FloodScript.{FloodScript}
use Rattle.flood.specs.FloodTexts.{IsFloodText}
use Rattle.flood_verdict.specs.Says.{Says}
use Rattle.mrt_island.specs.declared.setting.Setting.{Setting}
use Rattle.mrt_exit.specs.AnswerSteps.{IsAnswer, Step, ◌▸◌}
use Rattle.mrt_args.specs.FileBytes.{FileBytes}
use Rattle.mrt_args.specs.Work.{flood_bytes}
use Rattle.mrt_args.proofs.HandedOn.{if_ok}
use Rattle.mrt_answer.specs.Forms.{delivered}
use Rattle.mrt_answer.specs.Reading.{deliveries_of, profile_of, updates_of}
use Rattle.mrt_answer.proofs.TextSteps.{ends_second, handed_on, of_bytes}
use Rattle.mrt_answer.proofs.flood_answer.answer_of_flood.Goals.{In_ok-profile, In_ok-script, In_ok-updates}
use Rattle.mrt_answer.proofs.flood_answer.answer_of_flood.Goals as goal

-- what each file's bytes, as they are lent, were read as
packets : (c : In_ok-updates) → updates_of c.args.files.now.updates.items (Ok c.in_ok-updates.updates.items)
packets c = subst (λ (b : List ℕ). updates_of b (Ok c.in_ok-updates.updates.items)) c.deref.ensures.value c.in_ok-updates.ensures.updates

settings : (c : In_ok-profile) → profile_of c.args.files.now.profile.items (Ok c.in_ok-profile.profile)
settings c = subst (λ (b : List ℕ). profile_of b (Ok c.in_ok-profile.profile)) c.deref-2.ensures.value c.in_ok-profile.ensures

deliveries : (c : In_ok-script) → deliveries_of c.args.files.now.script.items (Ok c.in_ok-script.script)
deliveries c = subst (λ (b : List ℕ). deliveries_of b (Ok c.in_ok-script.script)) c.deref-3.ensures.value c.in_ok-script.ensures.script

-- what comes after the packets, and after the profile
abbrev by_script : FileBytes → List Update → List Setting → Step (List ℕ)
by_script bytes updates settings = deliveries_of bytes.last ▸ delivered updates settings

abbrev by_profile : FileBytes → List Update → Step (List ℕ)
by_profile bytes updates = profile_of bytes.profile ▸ by_script bytes updates

pub returns-in_err-updates : goal.returns-in_err-updates
returns-in_err-updates c =
    let bytes = flood_bytes c.args.files.now in
    let exit = c.in_err-updates.field-0.0 in
    handed_on (updates_of bytes.first) (by_profile bytes) c.from_residual.result exit c.from_residual.ensures.1
    (subst (λ (b : List ℕ). IsAnswer (updates_of b) (Err exit)) c.deref.ensures.value c.in_err-updates.ensures.none)

pub returns-in_err-profile : goal.returns-in_err-profile
returns-in_err-profile c =
    let bytes = flood_bytes c.args.files.now in
    let exit = c.in_err-profile.field-0.0 in
    let answer = c.from_residual-in_err-profile in
    let updates : List Update = c.in_ok-updates.updates.items in
    ends_second (updates_of bytes.first) (by_profile bytes) updates (packets (goal.at.returns-in_err-profile c).In_ok-updates) answer.result
    (handed_on (profile_of bytes.profile) (by_script bytes updates) answer.result exit answer.ensures.1
    (subst (λ (b : List ℕ). IsAnswer (profile_of b) (Err exit)) c.deref-2.ensures.value c.in_err-profile.ensures))

pub returns-in_err-script : goal.returns-in_err-script
returns-in_err-script c =
    let bytes = flood_bytes c.args.files.now in
    let exit = c.in_err-script.field-0.0 in
    let answer = c.from_residual-in_err-script in
    let updates : List Update = c.in_ok-updates.updates.items in
    let at = goal.at.returns-in_err-script c in
    ends_second (updates_of bytes.first) (by_profile bytes) updates (packets at.In_ok-updates) answer.result
    (ends_second (profile_of bytes.profile) (by_script bytes updates) c.in_ok-profile.profile (settings at.In_ok-profile) answer.result
    (handed_on (deliveries_of bytes.last) (delivered updates c.in_ok-profile.profile) answer.result exit answer.ensures.1
    (subst (λ (b : List ℕ). IsAnswer (deliveries_of b) (Err exit)) c.deref-3.ensures.value c.in_err-script.ensures.script)))

pub returns : goal.returns
returns c =
    let bytes = flood_bytes c.args.files.now in
    let updates : List Update = c.in_ok-updates.updates.items in
    let script : FloodScript = c.in_ok-script.script in
    let at = goal.at.returns c in
    ends_second (updates_of bytes.first) (by_profile bytes) updates (packets at.In_ok-updates) c.bytes_answer.result
    (ends_second (profile_of bytes.profile) (by_script bytes updates) c.in_ok-profile.profile (settings at.In_ok-profile) c.bytes_answer.result
    (ends_second (deliveries_of bytes.last) (delivered updates c.in_ok-profile.profile) script (deliveries at.In_ok-script) c.bytes_answer.result
    (of_bytes (delivered updates c.in_ok-profile.profile script) c.flood_text.result c.bytes_answer.result
    (if_ok c.flood_text.result _ _ c.flood_text.ensures (λ text answers. (
      c.in_ok-updates.ensures.may_flood,
      subst (λ (s : List Setting). IsFloodText (Says s) (started updates script.routers) script.lines text.items) c.new-comparing.ensures answers,
    ))) c.bytes_answer.ensures.text c.bytes_answer.ensures.none)))

pub flood_text-requires-clause-few_updates : goal.flood_text-requires-clause-few_updates
flood_text-requires-clause-few_updates c = c.in_ok-updates.ensures.few

pub flood_text-requires-clause-may_flood : goal.flood_text-requires-clause-may_flood
flood_text-requires-clause-may_flood c = c.in_ok-updates.ensures.may_flood

pub flood_text-requires-clause-some : goal.flood_text-requires-clause-some
flood_text-requires-clause-some c = c.in_ok-script.ensures.some

pub flood_text-requires-clause-at_most : goal.flood_text-requires-clause-at_most
flood_text-requires-clause-at_most c = c.in_ok-script.ensures.at_most

pub flood_text-requires-clause-few : goal.flood_text-requires-clause-few
flood_text-requires-clause-few c = c.in_ok-script.ensures.few

pub flood_text-requires-clause-among : goal.flood_text-requires-clause-among
flood_text-requires-clause-among c = c.in_ok-script.ensures.among
