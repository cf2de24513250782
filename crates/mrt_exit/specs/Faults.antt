-- The exits that the faults of the readers and of the devices come to.
use Rattle.std.specs.Prelude.{ℕ, nat_lt, if◌then◌else◌}
use Rattle.area_graph.specs.declared.area_error.AreaError.{AreaError}
use Rattle.area_graph.specs.declared.area_error.AreaError.TheVariants as area_errors
use Rattle.cert_format.specs.declared.error.CertFault.{CertFault}
use Rattle.fabric_script.specs.declared.script_error.ScriptError.{ScriptError}
use Rattle.fabric_script.specs.declared.script_error.ScriptError.TheVariants as script_errors
use Rattle.flood.specs.declared.error.UpdateError.{UpdateError}
use Rattle.flood.specs.declared.error.UpdateError.TheVariants as update_errors
use Rattle.flood.specs.declared.script_error.FloodScriptError.{FloodScriptError}
use Rattle.flood.specs.declared.script_error.FloodScriptError.TheVariants as flood_script_errors
use Rattle.lsdb.specs.declared.change.Conflict.{Conflict}
use Rattle.mrt_io.specs.declared.device.PutError.{PutError}
use Rattle.mrt_io.specs.declared.device.PutError.TheVariants.{Failed}
use Rattle.mrt_island.specs.declared.profile_error.ProfileError.{ProfileError}
use Rattle.mrt_island.specs.declared.profile_error.ProfileError.TheVariants as profile_errors
use Rattle.ospf_lsa.specs.declared.error.LsaError.{LsaError}
use Rattle.ospf_lsa.specs.declared.error.LsaError.TheVariants as lsa_errors
use Rattle.mrt_exit.specs.declared.exit.DbKind.TheVariants as database_kinds
use Rattle.mrt_exit.specs.declared.exit.Exit.{Exit}
use Rattle.mrt_exit.specs.declared.exit.Exit.TheVariants.{BadDatabase, BadProfile, BadCertificate, BadScript, BadUpdate, TooLarge, WriteFault, NoMemory}
use Rattle.mrt_exit.specs.declared.exit.What.{What}
use Rattle.mrt_exit.specs.declared.exit.What.TheVariants as whats

-- a record of a database has a fault
abbrev pub record_exit : LsaError → Exit
record_exit (lsa_errors.Fault at kind) = BadDatabase at (database_kinds.Lsa kind)
record_exit lsa_errors.NoMemory = NoMemory

-- two newest instances contradict each other; the place is that of the second
abbrev pub conflict_exit : Conflict → Exit
conflict_exit conflict = BadDatabase conflict.second (database_kinds.Conflict conflict.first)

-- a line of a profile has a fault
abbrev pub profile_exit : ProfileError → Exit
profile_exit (profile_errors.Fault line kind) = BadProfile line kind
profile_exit profile_errors.NoMemory = NoMemory

-- a field of a certificate file has a fault
abbrev pub certificate_exit : CertFault → Exit
certificate_exit fault = BadCertificate fault.at fault.kind

-- a line of a script is not as it should be
abbrev pub script_exit : ScriptError → Exit
script_exit (script_errors.Fault line) = BadScript line
script_exit script_errors.NoMemory = NoMemory

-- a Link State Update packet has a fault
abbrev pub update_exit : UpdateError → Exit
update_exit (update_errors.Fault at kind) = BadUpdate at kind
update_exit update_errors.NoMemory = NoMemory

-- a line of a script of deliveries is not as it should be
abbrev pub flood_script_exit : FloodScriptError → Exit
flood_script_exit (flood_script_errors.Fault line) = BadScript line
flood_script_exit flood_script_errors.NoMemory = NoMemory

-- one count is too large, or another where the first is at most this many
abbrev pub too_large : ℕ → What → ℕ → What → ℕ → Exit
too_large most what count other others = if nat_lt most count then TooLarge what count else TooLarge other others

-- an area is too large: its nodes, or where these are within their limit its arcs
abbrev pub area_exit : AreaError → Exit
area_exit (area_errors.TooLarge nodes arcs) = too_large 4096 whats.AreaNodes nodes whats.AreaArcs arcs
area_exit area_errors.NoMemory = NoMemory

-- a sink failed after so many bytes
abbrev pub put_exit : PutError → Exit
put_exit (Failed taken) = WriteFault taken
