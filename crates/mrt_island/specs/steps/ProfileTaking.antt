-- The error of a profile.
use Rattle.text_parts.specs.declared.line_error.LineError.{LineError}
use Rattle.text_parts.specs.declared.line_error.LineError.TheVariants as errors
use Rattle.mrt_island.specs.declared.profile_error.ProfileError.{ProfileError}
use Rattle.mrt_island.specs.declared.profile_error.ProfileError.TheVariants.{Fault, NoMemory}
use Rattle.mrt_island.specs.declared.profile_error.ProfileKind.{ProfileKind}

-- the error of a reading of lines, as that of profiles
abbrev pub error_of : LineError ProfileKind → ProfileError
error_of (errors.Fault line kind) = Fault line kind
error_of errors.NoMemory = NoMemory
