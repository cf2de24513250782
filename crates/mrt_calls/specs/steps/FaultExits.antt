-- The exit that a fault tells of.
use Rattle.std.specs.Prelude.{◌==◌, ℕ, Option, Some, None, nat_lt, if◌then◌else◌}
use Rattle.std.specs.Option.{option_and_then, option_map}
use Rattle.cert_format.specs.declared.error.CertKind.{CertKind}
use Rattle.cert_format.specs.declared.error.CertKind.TheVariants as faults
use Rattle.flood.specs.declared.error.UpdateKind.{UpdateKind}
use Rattle.flood.specs.declared.error.UpdateKind.TheVariants as updates
use Rattle.mrt_island.specs.declared.profile_error.ProfileKind.{ProfileKind}
use Rattle.mrt_island.specs.declared.profile_error.ProfileKind.TheVariants as lines
use Rattle.ospf_lsa.specs.declared.error.LsaKind.{LsaKind}
use Rattle.ospf_lsa.specs.declared.error.LsaKind.TheVariants as records
use Rattle.mrt_exit.specs.declared.exit.DbKind.{DbKind}
use Rattle.mrt_exit.specs.declared.exit.DbKind.TheVariants.{Lsa, Conflict}
use Rattle.mrt_exit.specs.declared.exit.Exit.{Exit}
use Rattle.mrt_exit.specs.declared.exit.Exit.TheVariants.{Done, No, Usage, BadDatabase, BadProfile, BadCertificate, TooLarge, NotThere, ReadFault, WriteFault, NoMemory, BadScript, NoCommonBlock, BadUpdate}
use Rattle.mrt_exit.specs.declared.exit.What.{What}
use Rattle.mrt_exit.specs.declared.exit.What.TheVariants as whats
use Rattle.mrt_calls.specs.declared.fault.MrtFault.{MrtFault}

-- what is wrong with a record of a database, by its number
abbrev pub record_kind : ℕ → Option LsaKind
record_kind number =
    if number == 1 then Some records.Truncated else
    (if number == 2 then Some records.Length else
    (if number == 3 then Some records.Checksum else
    (if number == 4 then Some records.ReservedSequence else
    (if number == 5 then Some records.IdMismatch else
    (if number == 6 then Some records.Body else
    (if number == 7 then Some records.ZeroMetric else
    None))))))

-- what is wrong with a line of a profile, by its number
abbrev pub line_kind : ℕ → Option ProfileKind
line_kind number =
    if number == 1 then Some lines.Bytes else
    (if number == 2 then Some lines.Words else
    (if number == 3 then Some lines.Address else
    (if number == 4 then Some lines.Number else
    (if number == 5 then Some lines.Repeated else
    None))))

-- a fault of a certificate's bytes, by its number
abbrev pub certificate_kind : ℕ → Option CertKind
certificate_kind number =
    if number == 1 then Some faults.Magic else
    (if number == 2 then Some faults.Truncated else
    (if number == 3 then Some faults.Range else
    (if number == 4 then Some faults.Tag else
    (if number == 5 then Some faults.Trailing else
    (if number == 6 then Some faults.Heads else
    None)))))

-- what is too large, by its number
abbrev pub what_kind : ℕ → Option What
what_kind number =
    if number == 1 then Some whats.DatabaseFile else
    (if number == 2 then Some whats.UpdatesFile else
    (if number == 3 then Some whats.ProfileFile else
    (if number == 4 then Some whats.CertificateFile else
    (if number == 5 then Some whats.ScriptFile else
    (if number == 6 then Some whats.AreaNodes else
    (if number == 7 then Some whats.AreaArcs else
    None))))))

-- what is wrong with a Link State Update packet, by its number; of an LSA in it, as of a record of a database
abbrev pub update_kind : ℕ → Option UpdateKind
update_kind number =
    if number == 17 then Some updates.Truncated else
    (if number == 18 then Some updates.Header else
    (if number == 19 then Some updates.Length else
    (if number == 20 then Some updates.Count else
    option_map (λ kind. updates.Lsa kind) (record_kind number))))

-- what is wrong with a database
abbrev pub database_kind : ℕ → ℕ → Option DbKind
database_kind number other = if number == 8 then Some (Conflict other) else option_map (λ kind. Lsa kind) (record_kind number)

-- a number below a limit
abbrev pub below : ℕ → ℕ → Option ℕ
below limit number = if nat_lt number limit then Some number else None

-- a rule that fails, and its place
abbrev pub no_in : ℕ → ℕ → ℕ → Option Exit
no_in rule a b =
    option_and_then (λ r. option_and_then (λ s. option_map (λ t. No r s t) (below 65536 b)) (below 65536 a)) (below 256 rule)

-- how much there is of what is too large
abbrev pub large_in : ℕ → ℕ → Option Exit
large_in kind size = option_and_then (λ what. option_map (λ s. TooLarge what s) (below 4294967296 size)) (what_kind kind)

-- an exit of these numbers, if there is one with this status
abbrev pub exit_in : MrtFault → Option Exit
exit_in fault =
    if fault.status == 0 then Some Done else
    (if fault.status == 1 then no_in fault.kind fault.at fault.other else
    (if fault.status == 2 then Some Usage else
    (if fault.status == 3 then option_map (λ kind. BadDatabase fault.at kind) (database_kind fault.kind fault.other) else
    (if fault.status == 4 then option_map (λ kind. BadProfile fault.at kind) (line_kind fault.kind) else
    (if fault.status == 5 then option_map (λ kind. BadCertificate fault.at kind) (certificate_kind fault.kind) else
    (if fault.status == 6 then large_in fault.kind fault.size else
    (if fault.status == 7 then Some (NotThere fault.at) else
    (if fault.status == 8 then option_map (λ word. ReadFault word) (below 256 fault.at) else
    (if fault.status == 9 then Some (WriteFault fault.size) else
    (if fault.status == 10 then Some NoMemory else
    (if fault.status == 11 then Some (BadScript fault.at) else
    (if fault.status == 13 then Some NoCommonBlock else
    (if fault.status == 14 then option_map (λ kind. BadUpdate fault.at kind) (update_kind fault.kind) else
    None)))))))))))))
