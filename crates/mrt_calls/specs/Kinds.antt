-- The numbers that C knows the kinds of faults by.
use Rattle.std.specs.Prelude.{ℕ}
use Rattle.cert_format.specs.declared.error.CertKind.{CertKind}
use Rattle.cert_format.specs.declared.error.CertKind.TheVariants as faults
use Rattle.flood.specs.declared.error.UpdateKind.{UpdateKind}
use Rattle.flood.specs.declared.error.UpdateKind.TheVariants as updates
use Rattle.mrt_island.specs.declared.profile_error.ProfileKind.{ProfileKind}
use Rattle.mrt_island.specs.declared.profile_error.ProfileKind.TheVariants as lines
use Rattle.ospf_lsa.specs.declared.error.LsaKind.{LsaKind}
use Rattle.ospf_lsa.specs.declared.error.LsaKind.TheVariants as records
use Rattle.mrt_exit.specs.declared.exit.What.{What}
use Rattle.mrt_exit.specs.declared.exit.What.TheVariants as whats

-- what is wrong with a record of a database
abbrev pub record_number : LsaKind → ℕ
record_number records.Truncated = 1
record_number records.Length = 2
record_number records.Checksum = 3
record_number records.ReservedSequence = 4
record_number records.IdMismatch = 5
record_number records.Body = 6
record_number records.ZeroMetric = 7

-- what is wrong with a line of a profile
abbrev pub line_number : ProfileKind → ℕ
line_number lines.Bytes = 1
line_number lines.Words = 2
line_number lines.Address = 3
line_number lines.Number = 4
line_number lines.Repeated = 5

-- a fault of a certificate's bytes
abbrev pub certificate_number : CertKind → ℕ
certificate_number faults.Magic = 1
certificate_number faults.Truncated = 2
certificate_number faults.Range = 3
certificate_number faults.Tag = 4
certificate_number faults.Trailing = 5
certificate_number faults.Heads = 6

-- what is too large
abbrev pub what_number : What → ℕ
what_number whats.DatabaseFile = 1
what_number whats.UpdatesFile = 2
what_number whats.ProfileFile = 3
what_number whats.CertificateFile = 4
what_number whats.ScriptFile = 5
what_number whats.AreaNodes = 6
what_number whats.AreaArcs = 7

-- what is wrong with a Link State Update packet; of an LSA in it, as of a record of a database
abbrev pub update_number : UpdateKind → ℕ
update_number (updates.Lsa kind) = record_number kind
update_number updates.Truncated = 17
update_number updates.Header = 18
update_number updates.Length = 19
update_number updates.Count = 20
