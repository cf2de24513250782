-- A field that is read is the field that was written, and what was written is read again.
use Rattle.std.proofs.Common.{◌≡◌, ℕ, ◌+◌, ◌^◌, ◌<◌, ◌≤◌, true, false, ltb, List, [], ◌∷◌, ◌++◌, length, get_or, Some, Result, Ok, Err, refl, sym, ap, subst, ◌∙◌, arith}
use Rattle.std.specs.Int.{Width, w8, w16, w32, byte_len, from_be_bytes, to_be_bytes}
use Rattle.std.proofs.lemmas.Bool.{and_parts, leb-true, ltb-true, lt-ltb, le-ltb}
use Rattle.std.proofs.lemmas.Bool.Decides.{nat_tests}
use Rattle.std.specs.Prelude.{nat_le, nat_lt}
use Rattle.std.proofs.lemmas.List.{take_at, drop_at, length-append}
use Rattle.std.proofs.lemmas.Nat.{be_bytes_2, be_bytes_4, from_be_bytes-to_be_bytes_2, from_be_bytes-to_be_bytes_4}
use Rattle.cert_format.specs.declared.error.CertKind.TheVariants.{Truncated}
use Rattle.mrt_graph.specs.declared.node_id.Kind.{Kind}
use Rattle.mrt_graph.specs.declared.node_id.Kind.TheVariants as kinds
use Rattle.mrt_graph.specs.declared.cert.Role.{Role}
use Rattle.mrt_graph.specs.declared.cert.Role.TheVariants as roles
use Rattle.mrt_graph.specs.declared.cert.Tag.{Tag}
use Rattle.mrt_graph.specs.declared.cert.Tag.TheVariants as tags
use Rattle.mrt_graph.proofs.Bytes.{IsBytes}
use Rattle.mrt_graph.specs.Tags.{tag_number}
use Rattle.cert_format.specs.CertText.{kind_number, role_number}
use Rattle.cert_format.specs.Layout.{any, Field, Form, Then, allows}
use Rattle.cert_format.specs.FirstFault.{field_value, fault_in}
use Rattle.cert_format.specs.declared.error.CertFault.{CertFault}
use Rattle.cert_format.specs.steps.Reading.{Rest, Names, Took, TookField, ReadsNumber, ReadsField}

-- numbers of this width and their bytes
pub record IsWide (w : Width) : Type 0 where
  pub len : (n : ℕ) → length (to_be_bytes w n) ≡ byte_len w
  pub back : (bytes : List ℕ) → length bytes ≡ byte_len w → IsBytes bytes → to_be_bytes w (from_be_bytes w bytes) ≡ bytes
  pub again : (n : ℕ) → n < 256 ^ byte_len w → from_be_bytes w (to_be_bytes w n) ≡ n
  pub small : (bytes : List ℕ) → length bytes ≡ byte_len w → IsBytes bytes → from_be_bytes w bytes < 256 ^ byte_len w

one_back : (bytes : List ℕ) → length bytes ≡ 1 → get_or bytes 0 0 < 256 → to_be_bytes w8 (from_be_bytes w8 bytes) ≡ bytes
one_back [] len lt = absurd (omega arith)
one_back (b ∷ []) len lt = ap (λ (x : ℕ). x ∷ []) (omega arith)
one_back (b ∷ c ∷ bs) len lt = absurd (omega (arith, len))

pub wide8 : IsWide w8
wide8 = record {
  len = λ n. refl;
  back = λ bytes len fits. one_back bytes len (fits 0);
  again = λ n lt. omega arith;
  small = λ bytes len fits. omega (arith, fits 0);
}

pub wide16 : IsWide w16
wide16 = record {
  len = λ n. refl;
  back = λ bytes len fits. be_bytes_2 bytes _ len fits refl;
  again = λ n lt. from_be_bytes-to_be_bytes_2 n lt;
  small = λ bytes len fits. omega (arith, fits 0, fits 1);
}

pub wide32 : IsWide w32
wide32 = record {
  len = λ n. refl;
  back = λ bytes len fits. be_bytes_4 bytes _ len fits refl;
  again = λ n lt. from_be_bytes-to_be_bytes_4 n lt;
  small = λ bytes len fits. omega (arith, fits 0, fits 1, fits 2, fits 3);
}

-- what was written is what the field reads
written_is_read : (field : Field) (n : ℕ) (rest : List ℕ) → IsWide field.width → n < 256 ^ byte_len field.width → field_value field (to_be_bytes field.width n ++ rest) ≡ n
written_is_read field n rest wide lt =
    rw (take_at (to_be_bytes field.width n) rest (byte_len field.width) (wide.len n)) (wide.again n lt)

pub field_short : (field : Field) (next : ℕ → Form) (at : ℕ) (bytes : List ℕ) → length bytes < byte_len field.width → fault_in (Then field next) at bytes ≡ Some (at, Truncated)
unfolding fault_in
field_short field next at bytes lt = rw (lt-ltb _ _ lt) refl

pub field_allows : (field : Field) (n : ℕ) → field.least ≤ n → n < field.bound → allows field n ≡ true
field_allows field n low high = grind (arith, nat_tests)

pub field_passes : (field : Field) (next : ℕ → Form) (at n : ℕ) (rest : List ℕ) → IsWide field.width → n < 256 ^ byte_len field.width → field.least ≤ n → n < field.bound
    → fault_in (Then field next) at (to_be_bytes field.width n ++ rest) ≡ fault_in (next n) (at + byte_len field.width) rest
unfolding fault_in
field_passes field next at n rest wide lt low high =
    let long : ltb (length (to_be_bytes field.width n ++ rest)) (byte_len field.width) ≡ false = le-ltb _ _ (omega (arith, length-append (to_be_bytes field.width n) rest, wide.len n)) in
    rw (long, written_is_read field n rest wide lt, field_allows field n low high, drop_at (to_be_bytes field.width n) rest (byte_len field.width) (wide.len n)) refl

pub field_refuses : (field : Field) (next : ℕ → Form) (at n : ℕ) (rest : List ℕ) → IsWide field.width → n < 256 ^ byte_len field.width → allows field n ≡ false
    → fault_in (Then field next) at (to_be_bytes field.width n ++ rest) ≡ Some (at, field.fault)
unfolding fault_in
field_refuses field next at n rest wide lt refused =
    let long : ltb (length (to_be_bytes field.width n ++ rest)) (byte_len field.width) ≡ false = le-ltb _ _ (omega (arith, length-append (to_be_bytes field.width n) rest, wide.len n)) in
    rw (long, written_is_read field n rest wide lt, refused) refl

pub field_told : (field : Field) (n : ℕ) → allows field n ≡ true → (field.least ≤ n) × (n < field.bound)
field_told field n allowed =
    let both = and_parts (nat_le field.least n) (nat_lt n field.bound) allowed in
    (leb-true field.least n both.0, ltb-true n field.bound both.1)

pub took_field : (field : Field) (n : ℕ) (before after : Rest) → IsWide field.width → Took (to_be_bytes field.width n) before after → n < 256 ^ byte_len field.width → allows field n ≡ true
    → TookField field n before after
took_field field n before after wide took lt allowed = record {
  took = took;
  fits = lt;
  least = (field_told field n allowed).0;
  below = (field_told field n allowed).1;
  goes_on = λ next.
      let place : before.at + byte_len field.width ≡ after.at = omega (arith, took.place, wide.len n) in
      ap (λ (bytes : List ℕ). fault_in (Then field next) before.at bytes) took.parts
      ∙ field_passes field next before.at n after.bytes wide lt (field_told field n allowed).0 (field_told field n allowed).1
      ∙ ap (λ (at : ℕ). fault_in (next n) at after.bytes) place;
}

pub refused_field : (field : Field) (n : ℕ) (before after : Rest) → IsWide field.width → Took (to_be_bytes field.width n) before after → n < 256 ^ byte_len field.width → allows field n ≡ false
    → (next : ℕ → Form) → fault_in (Then field next) before.at before.bytes ≡ Some (before.at, field.fault)
refused_field field n before after wide took lt refused next =
    ap (λ (bytes : List ℕ). fault_in (Then field next) before.at bytes) took.parts ∙ field_refuses field next before.at n after.bytes wide lt refused

pub short_field : (field : Field) (e : CertFault) (before : Rest) → Names e (Some (before.at, Truncated)) × (length before.bytes < byte_len field.width)
    → (next : ℕ → Form) → Names e (fault_in (Then field next) before.at before.bytes)
short_field field e before h next = subst (Names e) (sym (field_short field next before.at before.bytes h.1)) h.0

pub few_tags : (row_tag : Tag) → tag_number row_tag < 7
few_tags tags.Sole = omega arith
few_tags tags.Head = omega arith
few_tags tags.Top = omega arith
few_tags tags.Below = omega arith
few_tags tags.Above = omega arith
few_tags tags.Unordered = omega arith
few_tags tags.Carried = omega arith

pub kind_fits : (kind : Kind) → (1 ≤ kind_number kind) × (kind_number kind < 3)
kind_fits kinds.Router = (omega arith, omega arith)
kind_fits kinds.Network = (omega arith, omega arith)

pub role_fits : (role : Role) → role_number role < 3
role_fits roles.Plain = omega arith
role_fits roles.Sole = omega arith
role_fits roles.Closing = omega arith

pub any_is_read : (w : Width) (before : Rest) (r : Result (ℕ × Rest) CertFault) → IsWide w → ReadsNumber w before r → ReadsField (any w) before r
any_is_read w before (Ok x) wide read = took_field (any w) x.0 before x.1 wide read.0 read.1 (field_allows (any w) x.0 (omega arith) read.1)
any_is_read w before (Err e) wide read = short_field (any w) e before read
