-- Forms, and bytes that lead into them.
use Rattle.std.proofs.Common.{◌≡◌, ◌+◌, ◌-◌, ◌<◌, ◌≤◌, ℕ, true, false, ltb, List, [], ◌∷◌, ◌++◌, length, drop, Option, Some, inl, inr, refl, sym, ap, ◌∙◌, arith, length-append, length-drop}
use Rattle.std.specs.Int.{byte_len}
use Rattle.std.proofs.lemmas.Bool.{cases_Bool, ltb-true, ltb-false, le-ltb, both_ways}
use Rattle.std.proofs.lemmas.List.{take-append-le, drop-append-le}
use Rattle.cert_format.specs.declared.error.CertKind.{CertKind}
use Rattle.cert_format.specs.declared.error.CertKind.TheVariants.{Truncated, Trailing}
use Rattle.cert_format.specs.Layout.{Form, End, Then, Fails, allows, header_form}
use Rattle.cert_format.specs.FirstFault.{field_value, fault_in}
use Rattle.cert_format.specs.Stream.{is_cut}

-- fields of so many bytes, whichever numbers they have
abbrev pub Spans : Form → ℕ → Type 0
Spans End size = size ≡ 0
Spans (Then field next) size =
    (byte_len field.width ≤ size) × (is_cut field.fault ≡ false) × ((n : ℕ) → Spans (next n) (size - byte_len field.width))
Spans (Fails place fault) size = is_cut fault ≡ false

-- what some faults are
pub same_fault : (p q : ℕ × CertKind) → Some p ≡ Some q → p ≡ q
same_fault p q e = cc

same_kind : (at a : ℕ) (kind other : CertKind) → ◌≡◌ {A = Option (ℕ × CertKind)} (Some (at, kind)) (Some (a, other)) → kind ≡ other
same_kind at a kind other e = ap (λ (fault : ℕ × CertKind). fault.1) (same_fault (at, kind) (a, other) e)

-- where the bytes are cut there are fewer than the fields have
pub cut_short : (form : Form) (size at : ℕ) (bytes : List ℕ) (a : ℕ) (kind : CertKind) → Spans form size
    → fault_in form at bytes ≡ Some (a, kind) → is_cut kind ≡ true → length bytes < size
unfolding fault_in
cut_short End size at [] a kind spans e cut = absurd cc
cut_short End size at (byte ∷ bytes) a kind spans e cut =
    absurd (both_ways (is_cut Trailing) refl (ap is_cut (same_kind at a Trailing kind e) ∙ cut))
cut_short (Fails place fault) size at bytes a kind spans e cut =
    absurd (both_ways (is_cut fault) spans (ap is_cut (same_kind place a fault kind e) ∙ cut))
cut_short (Then field next) size at bytes a kind spans e cut = elim (cases_Bool (ltb (length bytes) (byte_len field.width))) [
  | inl few ↦ let lt = ltb-true _ _ few in omega (arith, lt, spans.0)
  | inr long ↦ let le = ltb-false _ _ long in elim (cases_Bool (allows field (field_value field bytes))) [
    | inl allowed ↦
        let later : fault_in (next (field_value field bytes)) (at + byte_len field.width) (drop (byte_len field.width) bytes) ≡ Some (a, kind) = rw (long, allowed) at e in
        let shorter = cut_short (next (field_value field bytes)) (size - byte_len field.width) (at + byte_len field.width) (drop (byte_len field.width) bytes) a kind (spans.2 (field_value field bytes)) later cut in
        let dropped = length-drop (byte_len field.width) bytes in
        omega (arith, shorter, dropped, le, spans.0)
    | inr refused ↦
        let here : ◌≡◌ {A = Option (ℕ × CertKind)} (Some (at, field.fault)) (Some (a, kind)) = rw (long, refused) at e in
        absurd (both_ways (is_cut field.fault) spans.1 (ap is_cut (same_kind at a field.fault kind here) ∙ cut))
  ]
]

-- a fault that is certain stays, whatever bytes follow
pub fault_stays : (form : Form) (at : ℕ) (bytes more : List ℕ) (a : ℕ) (kind : CertKind)
    → fault_in form at bytes ≡ Some (a, kind) → is_cut kind ≡ false → fault_in form at (bytes ++ more) ≡ Some (a, kind)
unfolding fault_in
fault_stays End at [] more a kind e certain = absurd cc
fault_stays End at (byte ∷ bytes) more a kind e certain = e
fault_stays (Fails place fault) at bytes more a kind e certain = e
fault_stays (Then field next) at bytes more a kind e certain = elim (cases_Bool (ltb (length bytes) (byte_len field.width))) [
  | inl few ↦
      let here : ◌≡◌ {A = Option (ℕ × CertKind)} (Some (at, Truncated)) (Some (a, kind)) = rw few at e in
      absurd (both_ways (is_cut kind) certain (sym (ap is_cut (same_kind at a Truncated kind here))))
  | inr long ↦ let le = ltb-false _ _ long in
      let longer : ltb (length (bytes ++ more)) (byte_len field.width) ≡ false = le-ltb _ _ (omega (arith, le, length-append bytes more)) in
      let number : field_value field (bytes ++ more) ≡ field_value field bytes = rw (take-append-le (byte_len field.width) bytes more le) refl in
      let left = drop-append-le (byte_len field.width) bytes more le in
      elim (cases_Bool (allows field (field_value field bytes))) [
        | inl allowed ↦
            let later : fault_in (next (field_value field bytes)) (at + byte_len field.width) (drop (byte_len field.width) bytes) ≡ Some (a, kind) = rw (long, allowed) at e in
            rw (longer, number, allowed, left) (fault_stays (next (field_value field bytes)) (at + byte_len field.width) (drop (byte_len field.width) bytes) more a kind later certain)
        | inr refused ↦
            let here : ◌≡◌ {A = Option (ℕ × CertKind)} (Some (at, field.fault)) (Some (a, kind)) = rw (long, refused) at e in
            rw (longer, number, refused) here
      ]
]

pub header_spans : Spans (header_form (λ version nodes links. End)) 14
header_spans = (omega arith, refl, λ magic. (omega arith, refl, λ version. (omega arith, refl, λ nodes. (omega arith, refl, λ links. (omega arith, refl, λ root. refl)))))
