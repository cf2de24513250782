-- What the steps of reading answer.
use Rattle.std.specs.Prelude.{◌≡◌, ◌≢◌, ℕ, ◌+◌, ◌<◌, ◌≤◌, ◌^◌, List, [], ◌++◌, length, Option, Some, Result, Ok, Err}
use Rattle.std.specs.Int.{Width, byte_len, to_be_bytes}
use Rattle.std.specs.List.{AllByRecursion, flat_map, slice_index_or}
use Rattle.mrt_graph.specs.Certificate.{IsCertNode, IsCertRow, certificate_of}
use Rattle.mrt_graph.specs.Foldable.{in_chain}
use Rattle.mrt_graph.specs.Tags.{tag_number}
use Rattle.mrt_graph.specs.declared.cert.Row.{Row}
use Rattle.mrt_graph.specs.declared.cert.CertNode.{CertNode}
use Rattle.cert_format.specs.Limits.{HasNumber}
use Rattle.cert_format.specs.Versions.{most_links, most_nodes}
use Rattle.cert_format.specs.declared.error.CertKind.{CertKind}
use Rattle.cert_format.specs.declared.error.CertKind.TheVariants.{Trailing, Truncated}
use Rattle.cert_format.specs.declared.error.CertFault.{CertFault}
use Rattle.cert_format.specs.declared.error.CertError.{CertError}
use Rattle.cert_format.specs.declared.error.CertError.TheVariants as errors
use Rattle.cert_format.specs.declared.header.Header.{Header}
use Rattle.cert_format.specs.CertText.{header_text}
use Rattle.cert_format.specs.Layout.{Field, Form, Then, header_form}
use Rattle.cert_format.specs.FirstFault.{fault_in}

-- what is left of a file, and the place of its first byte
pub record Rest : Type 0 where
  pub at : ℕ
  pub bytes : List ℕ

-- these bytes are left, from that place on
abbrev pub rest_of : ℕ → List ℕ → Rest
rest_of at bytes = record { at = at; bytes = bytes }

-- it is this fault
abbrev pub Names : CertFault → Option (ℕ × CertKind) → Type 0
Names fault first = first ≡ Some (fault.at, fault.kind)

-- the text stood at the front, and after is what follows it
pub record Took (text : List ℕ) (before after : Rest) : Type 0 where
  pub parts : before.bytes ≡ text ++ after.bytes
  pub place : after.at ≡ before.at + length text

-- a number of this width, or fewer bytes than it has
abbrev pub ReadsNumber : Width → Rest → Result (ℕ × Rest) CertFault → Type 0
ReadsNumber width before (Ok x) = Took (to_be_bytes width x.0) before x.1 × (x.0 < 256 ^ byte_len width)
ReadsNumber width before (Err e) = Names e (Some (before.at, Truncated)) × (length before.bytes < byte_len width)

-- a number that the field allows stood at the front, and what follows it is read on
pub record TookField (field : Field) (number : ℕ) (before after : Rest) : Type 0 where
  pub took : Took (to_be_bytes field.width number) before after
  pub fits : number < 256 ^ byte_len field.width
  pub least : field.least ≤ number
  pub below : number < field.bound
  pub goes_on : (next : ℕ → Form) → fault_in (Then field next) before.at before.bytes ≡ fault_in (next number) after.at after.bytes

-- a number that the field allows, or the field's fault
abbrev pub ReadsField : Field → Rest → Result (ℕ × Rest) CertFault → Type 0
ReadsField field before (Ok x) = TookField field x.0 before x.1
ReadsField field before (Err e) = (next : ℕ → Form) → Names e (fault_in (Then field next) before.at before.bytes)

-- a part that is spelled so and keeps this; or the first fault in it
abbrev pub ReadsPart : {A : Type 0} → ((A → Form) → Form) → (A → List ℕ) → (A → Type 0) → Rest → Result (A × Rest) CertFault → Type 0
ReadsPart part text Keeps before (Ok x) = Took (text x.0) before x.1 × Keeps x.0
ReadsPart {A} part text Keeps before (Err e) = (next : A → Form) → Names e (fault_in (part next) before.at before.bytes)

-- what each node keeps
pub record IsNode (nodes : ℕ) (node : CertNode) : Type 0 where
  pub kept : IsCertNode nodes node
  pub number : HasNumber node

-- what each row in a file keeps: it is of two of so many links, and has one of so many tags
pub record IsFileRow (tags links : ℕ) (row : Row) : Type 0 where
  pub kept : IsCertRow links row
  pub tagged : tag_number row.tag < tags

-- that many of them, each of which keeps this
pub record IsListOf {A : Type 0} (count : ℕ) (Keeps : A → Type 0) (xs : List A) : Type 0 where
  pub many : length xs ≡ count
  pub each : AllByRecursion Keeps xs

-- what a header says is within the limits of its version
pub record IsHeader (version nodes links root : ℕ) : Type 0 where
  pub from_one : 1 ≤ version
  pub to_two : version ≤ 2
  pub some_node : 1 ≤ nodes
  pub few_nodes : nodes ≤ most_nodes version
  pub few_links : links ≤ most_links version
  pub root_fits : root < 2 ^ 32

-- a header that is spelled so stood at the front, and what follows it is read on
pub record TookHeader (version nodes links root : ℕ) (before after : Rest) : Type 0 where
  pub took : Took (header_text version nodes links root) before after
  pub within : IsHeader version nodes links root
  pub goes_on : (next : ℕ → ℕ → ℕ → Form) → fault_in (header_form next) before.at before.bytes ≡ fault_in (next version nodes links) after.at after.bytes

-- such a header, or the first fault in it
abbrev pub ReadsHeader : Rest → Result (Header × Rest) CertFault → Type 0
ReadsHeader before (Ok x) = TookHeader x.0.version x.0.nodes x.0.links x.0.root before x.1
ReadsHeader before (Err e) = (next : ℕ → ℕ → ℕ → Form) → Names e (fault_in (header_form next) before.at before.bytes)

-- some more were read, each of which is spelled so and keeps this
pub record TookMore {A : Type 0} (text : A → List ℕ) (Keeps : A → Type 0) (old new : List A) (before after : Rest) : Type 0 where
  pub more : List A
  pub adds : new ≡ old ++ more
  pub took : Took (flat_map text more) before after
  pub each : AllByRecursion Keeps more

-- parts are read until there are so many; or until the first fault, or none where there is no memory
abbrev pub ReadsList : {A : Type 0} → ((A → Form) → Form) → (A → List ℕ) → (A → Type 0) → ℕ → List A → List A → Rest → Result Rest CertError → Type 0
ReadsList part text Keeps count old new before (Ok after) = TookMore text Keeps old new before after × (length new ≡ count)
ReadsList {A} part text Keeps count old new before (Err (errors.Fault at kind)) =
    (left : Rest) × TookMore text Keeps old new before left × (length new < count)
    × ((next : A → Form) → fault_in (part next) left.at left.bytes ≡ Some (at, kind))
ReadsList part text Keeps count old new before (Err errors.NoMemory) = new ≡ old

-- nothing is left, or this is the fault
abbrev pub Ends : Rest → Result Unit CertFault → Type 0
Ends before (Ok _) = before.bytes ≡ []
Ends before (Err fault) = (before.bytes ≢ []) × (fault.at ≡ before.at) × (fault.kind ≡ Trailing)

-- of each node the one to which its chain of heads comes after so many steps
pub record AreEnds (nodes : List CertNode) (steps : ℕ) (ends : List ℕ) : Type 0 where
  pub many : length ends ≡ length nodes
  pub each : (v : ℕ) → v < length nodes → in_chain (certificate_of nodes [] []) steps v ≡ Some (slice_index_or ends v 0)
