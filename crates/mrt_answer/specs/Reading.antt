-- What the bytes of the files hold, or what is wrong with them.
use Rattle.std.specs.Prelude.{◌≡◌, ℕ, List, [], Ok, Err, Some}
use Rattle.cert_format.specs.FirstFault.{first_fault}
use Rattle.fabric_script.specs.declared.script.Script.{Script}
use Rattle.fabric_script.specs.ScriptFaults.{IsFirstScriptFault, IsScript}
use Rattle.flood.specs.declared.update.Update.{Update}
use Rattle.flood.specs.UpdateOutcome.{IsFirstUpdateFault}
use Rattle.flood.specs.Updates.{AreUpdates}
use Rattle.flood.specs.declared.script.FloodScript.{FloodScript}
use Rattle.flood.specs.FloodScripts.{IsFirstFloodFault, IsScript as IsFloodScript}
use Rattle.lsdb.specs.Database.{IsDatabase}
use Rattle.text_parts.specs.TextLines.{text_lines}
use Rattle.mrt_graph.specs.declared.cert.CertFile.{CertFile}
use Rattle.mrt_island.specs.ProfileFaults.{IsFirstProfileFault}
use Rattle.mrt_island.specs.declared.setting.Setting.{Setting}
use Rattle.ospf_lsa.specs.declared.lsa.Lsa.{Lsa}
use Rattle.mrt_exit.specs.AnswerSteps.{Step, such, ◌▸◌}
use Rattle.mrt_exit.specs.declared.exit.Exit.TheVariants.{BadDatabase, BadProfile, BadCertificate, BadScript, BadUpdate}
use Rattle.mrt_args.specs.CertSpelling.{IsSpellingOf}
use Rattle.mrt_args.specs.FileBytes.{FileBytes}
use Rattle.mrt_answer.specs.Database.{IsBadDatabase}
use Rattle.mrt_answer.specs.Input.{Input, IsProfile}

-- the newest LSAs of a database, or what is wrong with it
abbrev pub database_of : List ℕ → Step (List Lsa)
database_of bytes (Ok newest) = IsDatabase bytes newest
database_of bytes (Err (BadDatabase at kind)) = IsBadDatabase bytes at kind
database_of bytes (Err _) = ⊥

-- the settings of a profile, or its first faulty line
abbrev pub profile_of : List ℕ → Step (List Setting)
profile_of bytes (Ok settings) = IsProfile bytes settings
profile_of bytes (Err (BadProfile line kind)) = IsFirstProfileFault (text_lines bytes) line kind
profile_of bytes (Err _) = ⊥

-- the file that a certificate's bytes spell, or their first fault
abbrev pub certificate_of : List ℕ → Step CertFile
certificate_of bytes (Ok file) = IsSpellingOf bytes file
certificate_of bytes (Err (BadCertificate at kind)) = first_fault bytes ≡ Some (at, kind)
certificate_of bytes (Err _) = ⊥

-- a script of events, or its first line that is not as it should be
abbrev pub script_of : List ℕ → Step Script
script_of bytes (Ok script) = IsScript (text_lines bytes) script
script_of bytes (Err (BadScript line)) = IsFirstScriptFault (text_lines bytes) line
script_of bytes (Err _) = ⊥

-- Link State Update packets, or their first fault
abbrev pub updates_of : List ℕ → Step (List Update)
updates_of bytes (Ok updates) = AreUpdates 0 bytes updates []
updates_of bytes (Err (BadUpdate at kind)) = IsFirstUpdateFault bytes at kind
updates_of bytes (Err _) = ⊥

-- a script of deliveries, or its first line that is not as it should be
abbrev pub deliveries_of : List ℕ → Step FloodScript
deliveries_of bytes (Ok script) = IsFloodScript (text_lines bytes) script
deliveries_of bytes (Err (BadScript line)) = IsFirstFloodFault (text_lines bytes) line
deliveries_of bytes (Err _) = ⊥

-- the bytes of the three files are packets, a profile and a script of deliveries
pub record HoldsFlood (bytes : FileBytes) : Type 0 where
  pub updates : List Update
  pub packets : updates_of bytes.first (Ok updates)
  pub settings : List Setting
  pub profile_is : profile_of bytes.profile (Ok settings)
  pub script : FloodScript
  pub script_is : deliveries_of bytes.last (Ok script)

-- a database, and then a profile
abbrev pub input_of : List ℕ → List ℕ → Step Input
input_of database profile =
    database_of database ▸ λ newest. profile_of profile ▸ λ settings.
    such (λ input. input ≡ record { newest = newest; settings = settings })
