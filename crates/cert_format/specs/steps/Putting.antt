-- What a writer to a sink has before and after each call.
use Rattle.std.specs.Prelude.{◌≡◌, ◌<◌, ◌≤◌, ◌+◌, ◌-◌, ◌^◌, ◌++◌, ℕ, List, [], Option, Result, length, IsOk, IfErr, OnOk, if◌then◌else◌}
use Rattle.std.specs.List.{flat_map}
use Rattle.mrt_graph.specs.declared.cert.CertFile.{CertFile}
use Rattle.mrt_graph.specs.declared.cert.CertNode.{CertNode}
use Rattle.mrt_graph.specs.declared.cert.CertLink.{CertLink}
use Rattle.mrt_graph.specs.declared.cert.Row.{Row}
use Rattle.mrt_io.specs.Counts.{Rose}
use Rattle.mrt_io.specs.Writing.{Gained, GainedPart}
use Rattle.mrt_io.specs.declared.device.PutError.{PutError}
use Rattle.mrt_io.specs.declared.device.PutError.TheVariants.{Failed}
use Rattle.cert_format.specs.CertText.{header_text, link_text, node_text, row_text}
use Rattle.cert_format.specs.Limits.{IsCertFile}
use Rattle.cert_format.specs.Versions.{rows_in, stands_in}
use Rattle.cert_format.specs.Putting.{Writer}

-- what was given the header of a file alone
abbrev pub begun : CertFile → Writer
begun f = record {
  version = f.version;
  gone = 0;
  held = header_text f.version (length f.cert.nodes) (length f.cert.links) f.root;
}

-- a file within the limits of its version, and a writer that was given its header alone
pub record IsWritable (f : CertFile) (writer : Writer) : Type 0 where
  pub within : IsCertFile f
  pub header : writer ≡ begun f

-- A writer wrote this text, all that it was to, or failed. The sink told `told` before and tells `tells` now, its count of
-- faults was `was` and is `is`, and it was healthy for these numbers of bytes and is for those.
pub record Wrote (told tells : Option (List ℕ)) (was is : ℕ) (healthy stays : ℕ → Type 0) (text : List ℕ)
    (result : Result Unit PutError) : Type 0 where
  pub gained : OnOk result (Gained told text tells)
  pub part : IfErr result (GainedPart told text tells)
  pub cause : IfErr result (λ _. Rose was is)
  pub count : was ≤ is
  pub succeeds : (n : ℕ) → healthy n → length text ≤ n → IsOk result
  pub no_fault : (n : ℕ) → healthy n → length text ≤ n → is ≡ was
  pub stays_healthy : (n : ℕ) → healthy n → length text ≤ n → stays (n - length text)

-- the error of a later piece, after so many bytes: how many were taken of all
abbrev pub later_error : ℕ → PutError → PutError
later_error before (Failed taken) = Failed (before + taken)

-- these are a number of 64 bits
abbrev pub IsFailedWithin : ℕ → PutError → Type 0
IsFailedWithin before (Failed taken) = before + taken < 2 ^ 64

-- the bytes of nodes, links and those rows that stand in a file of this version
abbrev pub parts_text : ℕ → List CertNode → List CertLink → List Row → List ℕ
parts_text version nodes links rows =
    flat_map node_text nodes ++ (flat_map link_text links ++ flat_map row_text (rows_in version rows))

-- a row's bytes in a file of this version, where it stands there
abbrev pub row_text_in : ℕ → Row → List ℕ
row_text_in version row = if stands_in version row then row_text row else []
