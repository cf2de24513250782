-- Routers that have to tell the same are told so.
use Rattle.std.proofs.Common.{◌≡◌, ℕ, List, [], Ok, subst}
use Rattle.std.specs.List.{AllByRecursion}
use Rattle.flood.specs.declared.update.Update.{Update}
use Rattle.flood.specs.FloodState.{started}
use Rattle.flood.specs.Receiving.{MayFlood}
use Rattle.flood.specs.Updates.{AreUpdates}
use Rattle.flood.specs.declared.script.FloodScript.{FloodScript}
use Rattle.flood.specs.FloodScripts.{IsScript}
use Rattle.flood.specs.FloodTexts.{IsFloodText}
use Rattle.flood_verdict.specs.Alike.{ComparesAlike, IsToldAlike}
use Rattle.flood_verdict.specs.Says.{Says}
use Rattle.mrt_island.specs.ProfileFaults.{AreSettings}
use Rattle.mrt_island.specs.declared.setting.Setting.{Setting}
use Rattle.mrt_args.specs.FileBytes.{FileBytes}
use Rattle.text_parts.specs.TextLines.{text_lines}
use Rattle.mrt_answer.specs.Reading.{HoldsFlood}
use Rattle.mrt_answer.specs.Forms.{flooded}

-- the law of the layer below on the lines of a script that compare such routers
abbrev pub NoDifferenceLaw : Type 0
NoDifferenceLaw = (settings : List Setting) (updates : List Update) (script : FloodScript) (text : List ℕ)
    → AllByRecursion MayFlood updates → IsFloodText (Says settings) (started updates script.routers) script.lines text
    → (compares : ComparesAlike updates script) → IsToldAlike (Says settings) updates script compares text

-- the laws of the layers below: each file holds one thing
pub record FloodLaws : Type 0 where
  pub updates : (bytes : List ℕ) (updates others : List Update) → AreUpdates 0 bytes updates [] → AreUpdates 0 bytes others [] → updates ≡ others
  pub settings : (lines : List (List ℕ)) (settings others : List Setting) → AreSettings lines settings → AreSettings lines others
      → settings ≡ others
  pub script : (lines : List (List ℕ)) (script other : FloodScript) → IsScript lines script → IsScript lines other → script ≡ other

pub told_alike : FloodLaws → NoDifferenceLaw → (bytes : FileBytes) (text : List ℕ) → flooded bytes (Ok text)
    → (held : HoldsFlood bytes) (compares : ComparesAlike held.updates held.script)
    → IsToldAlike (Says held.settings) held.updates held.script compares text
told_alike laws never bytes text (us, are, (ss, said, (script, is, (may, told)))) held compares =
    let same_updates = laws.updates bytes.first us held.updates are held.packets in
    let same_settings = laws.settings (text_lines bytes.profile) ss held.settings said held.profile_is in
    let same_script = laws.script (text_lines bytes.last) script held.script is held.script_is in
    never held.settings held.updates held.script text
    (subst (λ (updates : List Update). AllByRecursion MayFlood updates) same_updates may)
    (subst (λ (of : List Setting). IsFloodText (Says of) (started held.updates held.script.routers) held.script.lines text) same_settings
    (subst (λ (s : FloodScript). IsFloodText (Says ss) (started held.updates s.routers) s.lines text) same_script
    (subst (λ (u : List Update). IsFloodText (Says ss) (started u script.routers) script.lines text) same_updates told))) compares
