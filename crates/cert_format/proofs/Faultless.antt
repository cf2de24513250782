-- Bytes in which no field is at fault, read field by field: the file that they spell.
use Rattle.std.proofs.Common.{◌≡◌, ◌+◌, ◌<◌, ◌≤◌, ℕ, zero, suc, ltb, List, [], ◌∷◌, ◌++◌, length, take, drop, Option, Some, None, inl, inr, refl, sym, ap, ◌∙◌, take-append-drop, arith, ◌⊎◌, ◌==◌, ◌^◌, subst}
use Rattle.std.specs.Int.{w8, w16, w32, byte_len, from_be_bytes, to_be_bytes}
use Rattle.std.specs.List.{flat_map, AllByRecursion}
use Rattle.std.specs.Prelude.{codes}
use Rattle.std.proofs.lemmas.Bool.{cases_Bool, ltb-false}
use Rattle.std.proofs.lemmas.List.{length-take-le, append-nil}
use Rattle.mrt_graph.proofs.Bytes.{IsBytes, bytes_after}
use Rattle.mrt_graph.specs.Certificate.{IsCertLink}
use Rattle.mrt_graph.specs.declared.cert.CertNode.{CertNode}
use Rattle.mrt_graph.specs.declared.cert.CertLink.{CertLink}
use Rattle.mrt_graph.specs.declared.cert.Row.{Row}
use Rattle.cert_format.specs.declared.error.CertKind.{CertKind}
use Rattle.cert_format.specs.declared.error.CertKind.TheVariants.{Heads, Trailing, Truncated}
use Rattle.cert_format.specs.declared.header.Header.{Header}
use Rattle.cert_format.specs.CertText.{header_text, link_text, node_text, row_text, cert_text}
use Rattle.cert_format.specs.FirstFault.{fault_in, field_value, first_fault}
use Rattle.cert_format.specs.Layout.{End, Field, Form, Then, after_nodes, allows, any, collected, exactly, head_place, header_form, known_version, link_form, link_named, node_form, node_named, row_form, row_named, tag, within, after_links}
use Rattle.cert_format.specs.steps.Reading.{IsFileRow, IsHeader, IsListOf, IsNode, Rest, Took, TookField, rest_of}
use Rattle.cert_format.specs.Versions.{most_links, most_nodes, stray_head, row_count, tag_count}
use Rattle.cert_format.proofs.Fields.{IsWide, wide8, wide16, wide32, took_field}
use Rattle.cert_format.proofs.Files.{head_fails, heads_pass}
use Rattle.cert_format.proofs.GoesOn.{all_made, made_of}
use Rattle.cert_format.proofs.Lists.{Took-then}
use Rattle.cert_format.proofs.Parts.{link_read, node_read, row_read, took_as}
use Rattle.mrt_graph.specs.declared.cert.CertFile.{CertFile}
use Rattle.cert_format.specs.Limits.{IsCertFile}
use Rattle.cert_format.specs.steps.Steps.{text_of}
use Rattle.cert_format.proofs.Finished.{file_of}

-- what was read at the front, and then bytes in which no field of the form is at fault
pub record Reads {A : Type 0} (Is : A → Rest → Type 0) (next : A → Form) : Type 0 where
  pub one : A
  pub after : Rest
  pub is : Is one after
  pub are : IsBytes after.bytes
  pub faultless : fault_in (next one) after.at after.bytes ≡ None

-- something that is spelled so and keeps this
abbrev pub ReadsAs : {A : Type 0} → (A → List ℕ) → (A → Type 0) → Rest → (A → Form) → Type 0
ReadsAs {A} text Keeps before next = Reads (λ (x : A) (after : Rest). Took (text x) before after × Keeps x) next

pub some_none : {X : Type 0} (x : X) → ◌≡◌ {A = Option X} (Some x) None → ⊥
some_none x e = cc

bytes_taken : (n : ℕ) (bytes : List ℕ) → IsBytes bytes → IsBytes (take n bytes)
bytes_taken zero bytes are i = omega arith
bytes_taken (suc n) [] are i = omega arith
bytes_taken (suc n) (byte ∷ bytes) are zero = are 0
bytes_taken (suc n) (byte ∷ bytes) are (suc i) = bytes_taken n bytes (λ k. are (suc k)) i

pub field_read : (field : Field) (next : ℕ → Form) (before : Rest) → IsWide field.width → IsBytes before.bytes
    → fault_in (Then field next) before.at before.bytes ≡ None → Reads (λ (n : ℕ) (after : Rest). TookField field n before after) next
unfolding fault_in
field_read field next before wide are none = elim (cases_Bool (ltb (length before.bytes) (byte_len field.width))) [
  | inl few ↦
      let here : ◌≡◌ {A = Option (ℕ × CertKind)} (Some (before.at, Truncated)) None = rw few at none in
      absurd (some_none (before.at, Truncated) here)
  | inr long ↦
      let size = byte_len field.width in
      let n = field_value field before.bytes in
      let len = length-take-le size before.bytes (ltb-false _ _ long) in
      let fits = bytes_taken size before.bytes are in
      elim (cases_Bool (allows field n)) [
        | inl allowed ↦
            let later : fault_in (next n) (before.at + size) (drop size before.bytes) ≡ None = rw (long, allowed) at none in
            let after = rest_of (before.at + size) (drop size before.bytes) in
            let took : Took (to_be_bytes field.width n) before after = record {
              parts = sym (take-append-drop size before.bytes) ∙ ap (λ (t : List ℕ). t ++ drop size before.bytes) (sym (wide.back (take size before.bytes) len fits));
              place = omega (arith, wide.len n);
            } in
            record {
              one = n;
              after = after;
              is = took_field field n before after wide took (wide.small (take size before.bytes) len fits) allowed;
              are = bytes_after size before.bytes are;
              faultless = later;
            }
        | inr refused ↦
            let here : ◌≡◌ {A = Option (ℕ × CertKind)} (Some (before.at, field.fault)) None = rw (long, refused) at none in
            absurd (some_none (before.at, field.fault) here)
      ]
]

pub header_read : (next : ℕ → ℕ → ℕ → Form) (before : Rest) → IsBytes before.bytes → fault_in (header_form next) before.at before.bytes ≡ None
    → ReadsAs (λ (it : Header). header_text it.version it.nodes it.links it.root) (λ (it : Header). IsHeader it.version it.nodes it.links it.root) before
    (λ (it : Header). next it.version it.nodes it.links)
header_read next before are none =
    let wanted = from_be_bytes w32 (codes "MRTC") in
    let m = field_read (exactly w32 wanted) _ before wide32 are none in
    let v = field_read known_version _ m.after wide16 m.are m.faultless in
    let n = field_read (within w16 1 (most_nodes v.one + 1)) _ v.after wide16 v.are v.faultless in
    let l = field_read (within w16 0 (most_links v.one + 1)) _ n.after wide16 n.are n.faultless in
    let r = field_read (any w32) _ l.after wide32 l.are l.faultless in
    let ends = to_be_bytes w16 l.one ++ to_be_bytes w32 r.one in
    let counts = to_be_bytes w16 n.one ++ ends in
    record {
      one = record { version = v.one; nodes = n.one; links = l.one; root = r.one };
      after = r.after;
      is = (
        Took-then (codes "MRTC") (to_be_bytes w16 v.one ++ counts) before m.after r.after (took_as w32 m.one wanted before m.after (omega (arith, m.is.least, m.is.below)) m.is.took)
            (Took-then (to_be_bytes w16 v.one) counts m.after v.after r.after v.is.took
            (Took-then (to_be_bytes w16 n.one) ends v.after n.after r.after n.is.took (Took-then (to_be_bytes w16 l.one) (to_be_bytes w32 r.one) n.after l.after r.after l.is.took r.is.took))),
        record {
          from_one = v.is.least;
          to_two = omega (arith, v.is.below);
          some_node = n.is.least;
          few_nodes = omega (arith, n.is.below);
          few_links = omega (arith, l.is.below);
          root_fits = r.is.fits;
        },
      );
      are = r.are;
      faultless = r.faultless;
    }

pub faultless_node : (nodes : ℕ) (next : CertNode → Form) (before : Rest) → IsBytes before.bytes → fault_in (node_form nodes next) before.at before.bytes ≡ None
    → ReadsAs node_text (IsNode nodes) before next
faultless_node nodes next before are none =
    let k = field_read (within w8 1 3) _ before wide8 are none in
    let i = field_read (any w32) _ k.after wide32 k.are k.faultless in
    let o = field_read (within w16 1 (nodes + 1)) _ i.after wide16 i.are i.faultless in
    let h = field_read (within w16 0 nodes) _ o.after wide16 o.are o.faultless in
    let b = field_read (within w16 0 nodes) _ h.after wide16 h.are h.faultless in
    let is = node_read nodes k.one i.one o.one h.one b.one before k.after i.after o.after h.after b.after k.is i.is o.is h.is b.is in
    record { one = node_named k.one i.one o.one h.one b.one; after = b.after; is = is; are = b.are; faultless = b.faultless }

pub faultless_link : (nodes : ℕ) (next : CertLink → Form) (before : Rest) → IsBytes before.bytes → fault_in (link_form nodes next) before.at before.bytes ≡ None
    → ReadsAs link_text (IsCertLink nodes) before next
faultless_link nodes next before are none =
    let a = field_read (any w16) _ before wide16 are none in
    let b = field_read (within w16 (a.one + 1) nodes) _ a.after wide16 a.are a.faultless in
    let k = field_read (within w16 0 nodes) _ b.after wide16 b.are b.faultless in
    let r = field_read (within w8 0 3) _ k.after wide8 k.are k.faultless in
    let is = link_read nodes a.one b.one k.one r.one before a.after b.after k.after r.after a.is b.is k.is r.is in
    record { one = link_named a.one b.one k.one r.one; after = r.after; is = is; are = r.are; faultless = r.faultless }

pub faultless_row : (count links : ℕ) → count ≤ 7 → (next : Row → Form) (before : Rest) → IsBytes before.bytes → fault_in (row_form count links next) before.at before.bytes ≡ None
    → ReadsAs row_text (IsFileRow count links) before next
faultless_row count links few next before are none =
    let b = field_read (within w16 0 links) _ before wide16 are none in
    let r = field_read (within w16 0 links) _ b.after wide16 b.are b.faultless in
    let t = field_read (tag count) _ r.after wide8 r.are r.faultless in
    let is = row_read count links b.one r.one t.one before b.after r.after t.after few b.is r.is t.is in
    record { one = row_named b.one r.one t.one; after = t.after; is = is; are = t.are; faultless = t.faultless }

-- so many parts, which decide what follows them
pub collected_read : {A : Type 0} (part : (A → Form) → Form) (text : A → List ℕ) (Keeps : A → Type 0)
    → ((next : A → Form) (before : Rest) → IsBytes before.bytes → fault_in (part next) before.at before.bytes ≡ None → ReadsAs text Keeps before next)
    → (count : ℕ) (next : List A → Form) (before : Rest) → IsBytes before.bytes → fault_in (collected count part next) before.at before.bytes ≡ None
    → ReadsAs (flat_map text) (IsListOf count Keeps) before next
collected_read part text Keeps reads zero next before are none =
    record { one = []; after = before; is = (record { parts = refl; place = omega arith }, record { many = refl; each = tt }); are = are; faultless = none }
collected_read part text Keeps reads (suc count) next before are none =
    let first = reads (λ x. collected count part (λ xs. next (x ∷ xs))) before are none in
    let others = collected_read part text Keeps reads count (λ xs. next (first.one ∷ xs)) first.after first.are first.faultless in
    record {
      one = first.one ∷ others.one;
      after = others.after;
      is = (
        Took-then (text first.one) (flat_map text others.one) before first.after others.after first.is.0 others.is.0,
        record { many = ap suc others.is.1.many; each = (first.is.1, others.is.1.each) },
      );
      are = others.are;
      faultless = others.faultless;
    }

-- no head is at fault
pub heads_read : (version links at : ℕ) (ns : List CertNode) (bytes : List ℕ) → fault_in (after_nodes version links ns) at bytes ≡ None
    → stray_head version ns ≡ None
heads_read version links at ns bytes none = go (stray_head version ns) refl
  where
    go : (o : Option ℕ) → stray_head version ns ≡ o → stray_head version ns ≡ None
    go None is = is
    go (Some a) is = absurd (some_none (head_place a, Heads) (sym (head_fails version links at a ns bytes is) ∙ none))

-- nothing is left
pub end_read : (at : ℕ) (bytes : List ℕ) → fault_in End at bytes ≡ None → bytes ≡ []
unfolding fault_in
end_read at [] none = refl
end_read at (byte ∷ bytes) none = absurd (some_none (at, Trailing) none)

-- ---- a whole file

bytes_of : (bytes : List ℕ) → AllByRecursion (λ byte. byte < 2 ^ 8) bytes → IsBytes bytes
bytes_of [] all i = omega arith
bytes_of (byte ∷ bytes) all zero = all.0
bytes_of (byte ∷ bytes) all (suc i) = bytes_of bytes all.1 i

few_tag_count : (version : ℕ) → tag_count version ≤ 7
few_tag_count version = elim (cases_Bool (version == 1)) [ inl one ↦ rw one (omega arith) | inr two ↦ rw two (omega arith) ]

file_spelled : (bytes : List ℕ) → IsBytes bytes → first_fault bytes ≡ None → (f : CertFile) × IsCertFile f × (bytes ≡ cert_text f)
file_spelled bytes are none =
    let h = header_read (λ version nodes links. collected nodes (node_form nodes) (after_nodes version links)) (rest_of 0 bytes) are none in
    let header = h.one in
    let n = collected_read (node_form header.nodes) node_text (IsNode header.nodes) (faultless_node header.nodes) header.nodes (after_nodes header.version header.links) h.after h.are h.faultless in
    let heads = heads_read header.version header.links n.after.at n.one n.after.bytes n.faultless in
    let count = length n.one in
    let tags = tag_count header.version in
    let l = collected_read (link_form count) link_text (IsCertLink count) (faultless_link count) header.links (λ all. after_links header.version header.links n.one) n.after n.are
    (sym (heads_pass header.version header.links n.after.at n.one n.after.bytes heads) ∙ n.faultless) in
    let r = collected_read (row_form tags header.links) row_text (IsFileRow tags header.links) (faultless_row tags header.links (few_tag_count header.version)) (row_count header.version n.one) (λ rows. End) l.after l.are l.faultless in
    let parts = made_of header n.one l.one r.one in
    let text : bytes ≡ text_of parts =
    h.is.0.parts ∙ ap (λ (t : List ℕ). header_text header.version header.nodes header.links header.root ++ t)
    (n.is.0.parts ∙ ap (λ (t : List ℕ). flat_map node_text n.one ++ t) (l.is.0.parts ∙ ap (λ (t : List ℕ). flat_map link_text l.one ++ t)
    (r.is.0.parts ∙ ap (λ (t : List ℕ). flat_map row_text r.one ++ t) (end_read r.after.at r.after.bytes r.faultless) ∙ append-nil (flat_map row_text r.one)))) in
    let links : IsListOf header.links (IsCertLink header.nodes) l.one = subst (λ (k : ℕ). IsListOf header.links (IsCertLink k) l.one) n.is.1.many l.is.1 in
    let whole = all_made header n.one l.one r.one h.is.1 n.is.1 links r.is.1 heads in
    let file = file_of header parts whole in
    (file.0, file.1.0, text ∙ file.1.1)

-- these bytes are a certificate file, or have a first fault
abbrev pub AreEither : List ℕ → Type 0
AreEither bytes = ((f : CertFile) × IsCertFile f × (bytes ≡ cert_text f)) ⊎ ((at : ℕ) × (kind : CertKind) × (first_fault bytes ≡ Some (at, kind)))

pub either : (bytes : List ℕ) → AllByRecursion (λ byte. byte < 2 ^ 8) bytes → AreEither bytes
either bytes all = go (first_fault bytes) refl
  where
    go : (o : Option (ℕ × CertKind)) → first_fault bytes ≡ o → AreEither bytes
    go None none = inl (file_spelled bytes (bytes_of bytes all) none)
    go (Some fault) some = inr (fault.0, fault.1, some)
