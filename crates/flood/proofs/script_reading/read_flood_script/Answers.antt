use Rattle.std.proofs.Common.{◌≤◌, List, ℕ, Result, Ok, Err}
use Rattle.std.specs.List.{AllByRecursion}
use Rattle.std.specs.Result.{IfOk}
use Rattle.text_parts.specs.TextLines.{text_lines}
use Rattle.text_parts.proofs.WholeLists.{one_line_error, reading_tells}
use Rattle.flood.specs.declared.script_error.FloodScriptError.{FloodScriptError}
use Rattle.flood.specs.declared.script.FloodScript.{FloodScript}
use Rattle.flood.specs.Deliveries.{deliveries_in}
use Rattle.flood.specs.FloodScripts.{IsAmong, IsScript}
use Rattle.flood.specs.steps.Taking.{error_of, wrong}
use Rattle.flood.proofs.LinesSay.{script_means}
use Rattle.flood.proofs.RoutersCounted.{counted}
use Rattle.flood.proofs.script_reading.read_flood_script.Goals as goal

-- what follows of a script that was read
so : (P : FloodScript → Type 0) (lines : List (List ℕ)) → ((script : FloodScript) → IsScript lines script → P script)
    → (read : Result FloodScript FloodScriptError) → IfOk read (IsScript lines) → IfOk read P
so P lines follows (Ok script) is = follows script is
so P lines follows (Err error) is = tt

pub returns : goal.returns
returns c =
    let lines = text_lines c.args.bytes.now in
    let tells = reading_tells script_means lines error_of (one_line_error error_of (λ number place same. cc) (λ number same. cc))
    c.text_of.result c.text_of.ensures c.script_or_fault.result c.script_or_fault.ensures in
    record {
      found = tells.found;
      only = tells.only;
      fault = λ line. tells.fault line wrong;
      faulty = λ line. tells.faulty line wrong;
      some = so (λ script. 1 ≤ script.routers) lines (λ script is. (counted lines script is).0) c.script_or_fault.result tells.found;
      at_most = so (λ script. script.routers ≤ 64) lines (λ script is. (counted lines script is).1) c.script_or_fault.result tells.found;
      few = so (λ script. deliveries_in script.lines ≤ 65535) lines (λ script is. is.few) c.script_or_fault.result tells.found;
      among = so (λ script. AllByRecursion (IsAmong script.routers) script.lines) lines (λ script is. is.among) c.script_or_fault.result tells.found;
    }
