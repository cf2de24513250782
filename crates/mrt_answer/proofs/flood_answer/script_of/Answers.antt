use Rattle.std.proofs.Common.{◌≡◌, ℕ, List, Err, ap, inl, inr, refl}
use Rattle.mrt_exit.specs.Faults.{flood_script_exit}
use Rattle.mrt_exit.specs.AnswerSteps.{IsAnswer}
use Rattle.text_parts.specs.TextLines.{text_lines}
use Rattle.flood.specs.FloodScripts.{IsFirstFloodFault}
use Rattle.flood.specs.declared.script_error.FloodScriptError.{FloodScriptError}
use Rattle.flood.specs.declared.script_error.FloodScriptError.TheVariants as errors
use Rattle.mrt_answer.specs.Reading.{deliveries_of}
use Rattle.mrt_exit.proofs.Stepping.{told_on}
use Rattle.mrt_answer.proofs.flood_answer.script_of.Goals as goal

-- the error of the reader says what is wrong with the bytes
told : (bytes : List ℕ) (error : FloodScriptError) → ((line : ℕ) → error ≡ errors.Fault line → IsFirstFloodFault (text_lines bytes) line)
    → IsAnswer (deliveries_of bytes) (Err (flood_script_exit error))
told bytes (errors.Fault line) first = inl (first line refl)
told bytes errors.NoMemory first = inr refl

pub returns-in_err-read_flood_script-clause-script : goal.returns-in_err-read_flood_script-clause-script
returns-in_err-read_flood_script-clause-script c =
    told_on (deliveries_of c.args.bytes.now) c.from_residual.result (flood_script_exit c.in_err-read_flood_script.field-0.0) c.from_residual.ensures.1
    (told c.args.bytes.now c.in_err-read_flood_script.field-0.0 (λ line is. c.in_err-read_flood_script.ensures.fault line (ap (λ (error : FloodScriptError). Err error) is)))
