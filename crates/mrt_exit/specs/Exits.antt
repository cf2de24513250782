-- What each exit shows: the program's status, and its line on standard error.
use Rattle.std.specs.Prelude.{ℕ, List, ◌++◌, codes, decimal}
use Rattle.cert_format.specs.declared.error.CertKind.{CertKind}
use Rattle.cert_format.specs.declared.error.CertKind.TheVariants as faults
use Rattle.flood.specs.declared.error.UpdateKind.{UpdateKind}
use Rattle.flood.specs.declared.error.UpdateKind.TheVariants as updates
use Rattle.text_parts.specs.Spelling.{address_text}
use Rattle.mrt_island.specs.declared.profile_error.ProfileKind.{ProfileKind}
use Rattle.mrt_island.specs.declared.profile_error.ProfileKind.TheVariants as lines
use Rattle.ospf_lsa.specs.declared.error.LsaKind.{LsaKind}
use Rattle.ospf_lsa.specs.declared.error.LsaKind.TheVariants as records
use Rattle.mrt_exit.specs.declared.exit.DbKind.{DbKind}
use Rattle.mrt_exit.specs.declared.exit.DbKind.TheVariants.{Lsa, Conflict}
use Rattle.mrt_exit.specs.declared.exit.Exit.{Exit}
use Rattle.mrt_exit.specs.declared.exit.Exit.TheVariants.{Done, No, Usage, BadDatabase, BadProfile, BadCertificate, TooLarge, NotThere, ReadFault, WriteFault, NoMemory, BadScript, NoCommonBlock, BadUpdate}
use Rattle.mrt_exit.specs.declared.exit.What.{What}
use Rattle.mrt_exit.specs.declared.exit.What.TheVariants.{DatabaseFile, UpdatesFile, ProfileFile, CertificateFile, ScriptFile, AreaNodes, AreaArcs}

-- the program's exit status
abbrev pub status_of : Exit → ℕ
status_of Done = 0
status_of (No rule a b) = 1
status_of Usage = 2
status_of (BadDatabase at kind) = 3
status_of (BadProfile line kind) = 4
status_of (BadCertificate at kind) = 5
status_of (TooLarge what size) = 6
status_of (NotThere number) = 7
status_of (ReadFault word) = 8
status_of (WriteFault taken) = 9
status_of NoMemory = 10
status_of (BadScript line) = 11
status_of NoCommonBlock = 13
status_of (BadUpdate at kind) = 14

-- what is wrong with a record of a database, in words
abbrev pub record_text : LsaKind → List ℕ
record_text records.Truncated = codes "truncated"
record_text records.Length = codes "length"
record_text records.Checksum = codes "checksum"
record_text records.ReservedSequence = codes "reserved-sequence"
record_text records.IdMismatch = codes "id-mismatch"
record_text records.Body = codes "body"
record_text records.ZeroMetric = codes "zero-metric"

-- what is wrong with a Link State Update packet, in words; of an LSA in it, as of a record of a database
abbrev pub update_text : UpdateKind → List ℕ
update_text updates.Truncated = codes "truncated"
update_text updates.Header = codes "header"
update_text updates.Length = codes "length"
update_text (updates.Lsa kind) = record_text kind
update_text updates.Count = codes "count"

-- what is wrong with a line of a profile, in words
abbrev pub line_text : ProfileKind → List ℕ
line_text lines.Bytes = codes "bytes"
line_text lines.Words = codes "words"
line_text lines.Address = codes "address"
line_text lines.Number = codes "number"
line_text lines.Repeated = codes "repeated"

-- a fault of a certificate's bytes, in words
abbrev pub kind_text : CertKind → List ℕ
kind_text faults.Magic = codes "magic"
kind_text faults.Truncated = codes "truncated"
kind_text faults.Range = codes "range"
kind_text faults.Tag = codes "tag"
kind_text faults.Trailing = codes "trailing"
kind_text faults.Heads = codes "heads"

-- what is too large, in words
abbrev pub what_text : What → List ℕ
what_text DatabaseFile = codes "database-file"
what_text UpdatesFile = codes "updates-file"
what_text ProfileFile = codes "profile-file"
what_text CertificateFile = codes "certificate-file"
what_text ScriptFile = codes "script-file"
what_text AreaNodes = codes "area-nodes"
what_text AreaArcs = codes "area-arcs"

-- the line of Usage: the forms that there are
unfoldable pub usage_line : List ℕ
usage_line = codes "mrt: usage: check DB PROFILE CERT, certify DB PROFILE ROUTER, table DB PROFILE ROUTER, trace DB PROFILE FROM TO blue/red/repair [FAIL], fabric DB PROFILE SCRIPT, survey NUMBER NODES, upgrade DB PROFILE CERT, lfa DB ROUTER, order DB PROFILE ROUTER, proxy DB PROFILE ROUTER A B, flood UPDATES PROFILE SCRIPT\n"

-- the line of BadDatabase: a record's fault, or a conflict with the record that came first
abbrev pub database_line : ℕ → DbKind → List ℕ
database_line at (Lsa kind) = codes "mrt: bad database: " ++ record_text kind ++ codes " at " ++ decimal at ++ codes "\n"
database_line at (Conflict first) =
    codes "mrt: bad database: conflict at " ++ decimal at ++ codes " with " ++ decimal first ++ codes "\n"

-- the line on standard error; Done has none
abbrev pub line_of : Exit → List ℕ
line_of Done = codes ""
line_of (No rule a b) =
    codes "mrt: no: rule " ++ decimal rule ++ codes " at " ++ decimal a ++ codes " " ++ decimal b ++ codes "\n"
line_of Usage = usage_line
line_of (BadDatabase at kind) = database_line at kind
line_of (BadProfile line kind) =
    codes "mrt: bad profile: " ++ line_text kind ++ codes " on line " ++ decimal line ++ codes "\n"
line_of (BadCertificate at kind) =
    codes "mrt: bad certificate: " ++ kind_text kind ++ codes " at " ++ decimal at ++ codes "\n"
line_of (TooLarge what size) =
    codes "mrt: too large: " ++ what_text what ++ codes " " ++ decimal size ++ codes "\n"
line_of (NotThere number) = codes "mrt: not there: " ++ address_text number ++ codes "\n"
line_of (ReadFault word) = codes "mrt: read fault: word " ++ decimal word ++ codes "\n"
line_of (WriteFault taken) = codes "mrt: write fault after " ++ decimal taken ++ codes "\n"
line_of NoMemory = codes "mrt: no memory\n"
line_of (BadScript line) = codes "mrt: bad script on line " ++ decimal line ++ codes "\n"
line_of NoCommonBlock = codes "mrt: no common block\n"
line_of (BadUpdate at kind) =
    codes "mrt: bad update: " ++ update_text kind ++ codes " at " ++ decimal at ++ codes "\n"
