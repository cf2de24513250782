-- What a reader keeps between the pieces of a stream, and what its steps answer.
use Rattle.std.specs.Prelude.{◌≡◌, ◌==◌, ◌<◌, ◌≤◌, ◌++◌, ℕ, Bool, true, false, List, [], Option, Some, None, Result, Ok, Err, IsOk, is_some, length, not, take, if◌then◌else◌}
use Rattle.std.specs.List.{AllByRecursion, flat_map}
use Rattle.std.specs.Option.{option_map_or}
use Rattle.mrt_graph.specs.Certificate.{IsCertLink}
use Rattle.mrt_graph.specs.Kin.{Kin, kin_of}
use Rattle.mrt_graph.specs.declared.cert.CertFile.{CertFile}
use Rattle.mrt_graph.specs.declared.cert.CertLink.{CertLink}
use Rattle.mrt_graph.specs.declared.cert.CertNode.{CertNode}
use Rattle.mrt_graph.specs.declared.cert.Row.{Row}
use Rattle.cert_format.specs.declared.error.CertError.{CertError}
use Rattle.cert_format.specs.declared.error.CertError.TheVariants as errors
use Rattle.cert_format.specs.declared.error.CertFault.{CertFault}
use Rattle.cert_format.specs.declared.error.CertKind.{CertKind}
use Rattle.cert_format.specs.declared.error.CertKind.TheVariants.{Heads}
use Rattle.cert_format.specs.declared.header.Header.{Header}
use Rattle.cert_format.specs.declared.parts_read.PartsRead.{PartsRead}
use Rattle.cert_format.specs.declared.parts_read.Mark.{Mark}
use Rattle.cert_format.specs.declared.state.State.{State}
use Rattle.cert_format.specs.CertText.{cert_text, header_text, link_text, node_text, row_text}
use Rattle.cert_format.specs.FirstFault.{first_fault}
use Rattle.cert_format.specs.Layout.{head_place}
use Rattle.cert_format.specs.Limits.{IsCertFile}
use Rattle.cert_format.specs.steps.Reading.{IsFileRow, IsHeader, IsNode, Rest, Took}
use Rattle.cert_format.specs.Stream.{Progress, end_fault, is_cut}
use Rattle.cert_format.specs.Versions.{row_count, stray_head, tag_count}

-- the header, the nodes, the links and the rows, as far as they were read; and of version 2, once all nodes were, which of
-- them are related
pub record Parts : Type 0 where
  pub header : Option Header
  pub nodes : List CertNode
  pub links : List CertLink
  pub rows : List Row
  pub kin : Option Kin

abbrev pub parts_of : PartsRead → Parts
parts_of kept =
    record { header = kept.header; nodes = kept.nodes.items; links = kept.links.items; rows = kept.rows.items; kin = kept.relatives }

abbrev pub no_parts : Parts
no_parts = record { header = None; nodes = []; links = []; rows = []; kin = None }

-- the bytes of the parts, in their order
abbrev pub text_of_header : Option Header → List ℕ
text_of_header header = option_map_or (λ it. header_text it.version it.nodes it.links it.root) header []

abbrev pub text_of : Parts → List ℕ
text_of parts =
    text_of_header parts.header
    ++ (flat_map node_text parts.nodes ++ (flat_map link_text parts.links ++ flat_map row_text parts.rows))

-- nothing stands behind the nodes
pub record AreBare (parts : Parts) : Type 0 where
  pub links : parts.links ≡ []
  pub rows : parts.rows ≡ []
  pub kin : parts.kin ≡ None

-- what is known once all nodes were read: no head is at fault, and of version 2 which of them are related
pub record AreKnown (version : ℕ) (nodes : List CertNode) (kin : Option Kin) : Type 0 where
  pub heads : stray_head version nodes ≡ None
  pub index : kin ≡ (if version == 1 then None else Some (kin_of nodes))

-- at most so many, each of which keeps this
pub record AreFirst {A : Type 0} (count : ℕ) (Keeps : A → Type 0) (xs : List A) : Type 0 where
  pub few : length xs ≤ count
  pub each : AllByRecursion Keeps xs

-- lists that the header announces, or their beginnings: links only after all nodes, and rows only after all links
pub record AreUnder (announced : Header) (parts : Parts) : Type 0 where
  pub header : IsHeader announced.version announced.nodes announced.links announced.root
  pub nodes : AreFirst announced.nodes (IsNode announced.nodes) parts.nodes
  pub links : AreFirst announced.links (IsCertLink announced.nodes) parts.links
  pub rows : AreFirst (row_count announced.version parts.nodes) (IsFileRow (tag_count announced.version) announced.links) parts.rows
  pub nodes_first : length parts.nodes < announced.nodes → AreBare parts
  pub links_first : length parts.links < announced.links → parts.rows ≡ []
  pub known : length parts.nodes ≡ announced.nodes → AreKnown announced.version parts.nodes parts.kin

-- the parts at the front of a file, each of which is allowed
abbrev pub AreBelow : Option Header → Parts → Type 0
AreBelow None parts = (parts.nodes ≡ []) × AreBare parts
AreBelow (Some announced) parts = AreUnder announced parts

abbrev pub AreParts : Parts → Type 0
AreParts parts = AreBelow parts.header parts

-- all the parts that the header announces
pub record AreWhole (announced : Header) (parts : Parts) : Type 0 where
  pub header : parts.header ≡ Some announced
  pub under : AreUnder announced parts
  pub nodes : length parts.nodes ≡ announced.nodes
  pub links : length parts.links ≡ announced.links
  pub rows : length parts.rows ≡ row_count announced.version parts.nodes

-- the bytes are spelled by the file
abbrev pub IsFileOf : List ℕ → CertFile → Type 0
IsFileOf bytes f = IsCertFile f × (bytes ≡ cert_text f)

-- the first ones are those at the front of the others
abbrev pub Begins : {A : Type 0} → List A → List A → Type 0
Begins {A} first all = (more : List A) × (all ≡ first ++ more)

-- nothing that was read before was lost
pub record Grew (old new : Parts) : Type 0 where
  pub nodes : Begins old.nodes new.nodes
  pub links : Begins old.links new.links
  pub rows : Begins old.rows new.rows
  pub kin : (kin : Kin) → old.kin ≡ Some kin → new.kin ≡ Some kin

-- how far parts were read, and those up to there
abbrev pub mark_of : Parts → Mark
mark_of parts = record {
  header = parts.header;
  nodes = length parts.nodes;
  links = length parts.links;
  rows = length parts.rows;
  related = is_some parts.kin;
}

abbrev pub front_of : Mark → Parts → Parts
front_of mark parts = record {
  header = mark.header;
  nodes = take mark.nodes parts.nodes;
  links = take mark.links parts.links;
  rows = take mark.rows parts.rows;
  kin = if mark.related then parts.kin else None;
}

-- parts were taken off the rest
pub record TookParts (old : Parts) (before : Rest) (new : Parts) (after : Rest) : Type 0 where
  pub text : List ℕ
  pub adds : text_of new ≡ text_of old ++ text
  pub took : Took text before after
  pub grew : Grew old new

-- the first fault of what is left after parts; where it is a cut, fewer bytes are left than a part has
pub record AreFollowed (parts : Parts) (left : Rest) (at : ℕ) (kind : CertKind) : Type 0 where
  pub first : first_fault (text_of parts ++ left.bytes) ≡ Some (at, kind)
  pub cut : is_cut kind ≡ true → AreParts parts × (length left.bytes < 14)

-- all parts are there and nothing is left, or this is the first fault
abbrev pub Comes : Parts → Rest → Result Unit CertError → Type 0
Comes parts left (Ok _) = ((announced : Header) × AreWhole announced parts) × (left.bytes ≡ [])
Comes parts left (Err (errors.Fault at kind)) = AreFollowed parts left at kind
Comes parts left (Err errors.NoMemory) = Unit {0}

-- parts were taken off the rest, as far as the file goes
pub record ReadsOn (old : Parts) (before : Rest) (new : Parts) (result : Result Unit CertError) : Type 0 where
  pub left : Rest
  pub took : TookParts old before new left
  pub comes : Comes new left result

-- what is known of nodes, or the fault of a head
abbrev pub Knows : ℕ → List CertNode → Option Kin → Result Unit CertError → Type 0
Knows version nodes kin (Ok _) = AreKnown version nodes kin
Knows version nodes kin (Err (errors.Fault at kind)) = (a : ℕ) × (stray_head version nodes ≡ Some a) × (at ≡ head_place a) × (kind ≡ Heads)
Knows version nodes kin (Err errors.NoMemory) = Unit {0}

-- a fault that more bytes do not mend
abbrev pub has_failed : Option CertFault → Bool
has_failed fault = option_map_or (λ it. not (is_cut it.kind)) fault false

-- the parts and the bytes of the next one are such that the stream would have this fault if it ended there
pub record AreCut (fault : CertFault) (parts : Parts) (held : List ℕ) : Type 0 where
  pub are : AreParts parts
  pub few : length held < 14
  pub first : first_fault (text_of parts ++ held) ≡ Some (fault.at, fault.kind)

abbrev pub AreReading : Option CertFault → Parts → List ℕ → Type 0
AreReading None parts held = ((announced : Header) × AreWhole announced parts) × (held ≡ [])
AreReading (Some fault) parts held = is_cut fault.kind ≡ true → AreCut fault parts held

abbrev pub IsReading : State → Type 0
IsReading state = AreReading state.fault (parts_of state.kept) state.held

-- the stream so far, or the fault that came
abbrev pub progress_by : Option CertFault → Parts → List ℕ → Progress
progress_by None parts held = Ok (text_of parts ++ held)
progress_by (Some fault) parts held = if is_cut fault.kind then Ok (text_of parts ++ held) else Err (fault.at, fault.kind)

abbrev pub progress_of : State → Progress
progress_of state = progress_by state.fault (parts_of state.kept) state.held

-- whether a fault came
abbrev pub Tells : Progress → Result Unit CertError → Type 0
Tells progress (Ok _) = IsOk progress
Tells progress (Err (errors.Fault at kind)) = progress ≡ Err (at, kind)
Tells progress (Err errors.NoMemory) = ⊥

-- where the stream ends: the file that it spells, or the fault
abbrev pub Finishes : Progress → Result CertFile CertFault → Type 0
Finishes progress (Ok f) = IsCertFile f × (progress ≡ Ok (cert_text f))
Finishes progress (Err fault) = end_fault progress ≡ Some (fault.at, fault.kind)
