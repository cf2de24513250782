use Rattle.std.proofs.Common.{◌≡◌, ℕ, List, Err, ap, inl, inr, refl}
use Rattle.mrt_exit.specs.Faults.{script_exit}
use Rattle.mrt_exit.specs.AnswerSteps.{IsAnswer}
use Rattle.text_parts.specs.TextLines.{text_lines}
use Rattle.fabric_script.specs.ScriptFaults.{IsFirstScriptFault}
use Rattle.fabric_script.specs.declared.script_error.ScriptError.{ScriptError}
use Rattle.fabric_script.specs.declared.script_error.ScriptError.TheVariants as errors
use Rattle.mrt_answer.specs.Reading.{script_of}
use Rattle.mrt_exit.proofs.Stepping.{told_on}
use Rattle.mrt_answer.proofs.input.script_of.Goals as goal

-- the error of the reader says what is wrong with the bytes
told : (bytes : List ℕ) (error : ScriptError) → ((line : ℕ) → error ≡ errors.Fault line → IsFirstScriptFault (text_lines bytes) line)
    → IsAnswer (script_of bytes) (Err (script_exit error))
told bytes (errors.Fault line) first = inl (first line refl)
told bytes errors.NoMemory first = inr refl

pub returns-in_err-read_script-clause-script : goal.returns-in_err-read_script-clause-script
returns-in_err-read_script-clause-script c =
    told_on (script_of c.args.bytes.now) c.from_residual.result (script_exit c.in_err-read_script.field-0.0) c.from_residual.ensures.1
    (told c.args.bytes.now c.in_err-read_script.field-0.0 (λ line is. c.in_err-read_script.ensures.fault line (ap (λ (error : ScriptError). Err error) is)))
