use Rattle.std.proofs.Common.{◌≡◌, refl}
use Rattle.text_parts.specs.TextLines.{text_lines}
use Rattle.text_parts.proofs.WholeLists.{reading_tells}
use Rattle.text_parts.specs.declared.line_error.LineError.{LineError}
use Rattle.text_parts.specs.declared.line_error.LineError.TheVariants as lines
use Rattle.mrt_island.specs.declared.profile_error.ProfileKind.{ProfileKind}
use Rattle.mrt_island.specs.steps.ProfileTaking.{error_of}
use Rattle.mrt_island.proofs.SettingsSaid.{profile_means}
use Rattle.mrt_island.proofs.profile_reading.read_profile.Goals as goal

one_error : (one other : LineError ProfileKind) → error_of one ≡ error_of other → one ≡ other
one_error (lines.Fault line kind) (lines.Fault number fault) same = cc
one_error (lines.Fault line kind) lines.NoMemory same = absurd cc
one_error lines.NoMemory (lines.Fault number fault) same = absurd cc
one_error lines.NoMemory lines.NoMemory same = refl

pub returns : goal.returns
returns c =
    let tells = reading_tells profile_means (text_lines c.args.bytes.now) error_of one_error c.text_of.result c.text_of.ensures c.profile_or_fault.result c.profile_or_fault.ensures in
    record { found = tells.found; only = tells.only; fault = tells.fault; faulty = tells.faulty }
