-- The packet at the front of bytes is one without a fault or has a first fault, and each in one way.
use Rattle.std.proofs.Common.{◌≡◌, ◌≢◌, ◌∙◌, ◌<◌, ◌≤◌, ◌+◌, ◌⊎◌, ℕ, List, length, map, inl, inr, refl, sym, ap, arith}
use Rattle.std.proofs.lemmas.Bool.{cases_lt, cases_eq}
use Rattle.mrt_graph.proofs.Bytes.{IsBytes, bytes_after}
use Rattle.ospf_lsa.specs.declared.error.LsaKind.{LsaKind}
use Rattle.ospf_lsa.specs.declared.lsa.Lsa.{Lsa}
use Rattle.ospf_lsa.specs.Lsas.{AreLsas}
use Rattle.ospf_lsa.specs.LsaText.{lsas_text}
use Rattle.ospf_lsa.specs.Outcome.{IsFirstLsaFault}
use Rattle.ospf_lsa.proofs.Files.{either_of}
use Rattle.ospf_lsa.proofs.Numbers.{all_bytes, bytes_taken}
use Rattle.ospf_lsa.proofs.OneReading.{never_both, one_list, one_fault}
use Rattle.flood.specs.declared.error.UpdateKind.{UpdateKind}
use Rattle.flood.specs.declared.error.UpdateKind.TheVariants as kinds
use Rattle.flood.specs.declared.update.Update.{Update}
use Rattle.flood.specs.PacketFaults.{HasFault, HasFirstFault, HasLsaFault, HasOtherCount, HasOtherHeader, HasShortLength, IsTruncated, order_of}
use Rattle.flood.specs.PacketFields.{ospf_version, link_state_update, version_field, type_field, length_field, router_field, area_field, count_field, lsa_bytes}
use Rattle.flood.specs.steps.Reading.{HasSoundHeader}
use Rattle.flood.specs.Updates.{IsUpdate, placed_from}

-- ---- one reading

pub one_update : (at : ℕ) (bytes : List ℕ) (u v : Update) → IsUpdate at bytes u → IsUpdate at bytes v → u ≡ v
one_update at bytes u v one other =
    let read : one.read ≡ other.read =
    one_list (lsa_bytes bytes) one.read other.read one.faultless one.spelled other.faultless other.spelled in
    let make : ℕ → ℕ → ℕ → List Lsa → Update = λ p r a l. record { at = p; router = r; area = a; lsas = l } in
    ap (λ (p : ℕ). make p u.router u.area u.lsas) (one.place ∙ sym other.place)
    ∙ ap (λ (r : ℕ). make v.at r u.area u.lsas) (one.router ∙ sym other.router)
    ∙ ap (λ (a : ℕ). make v.at v.router a u.lsas) (one.area ∙ sym other.area)
    ∙ ap (λ (l : List Lsa). make v.at v.router v.area l)
    (one.lsas ∙ ap (map (placed_from (at + 28))) read ∙ sym other.lsas)

-- ---- no fault in a packet without one

pub sound_of : (at : ℕ) (bytes : List ℕ) (u : Update) → IsUpdate at bytes u → HasSoundHeader bytes
sound_of at bytes u is = record {
  header_there = is.header_there;
  whole = is.whole;
  version = is.version;
  type = is.type;
  long_enough = is.long_enough;
}

not_truncated : (bytes : List ℕ) → HasSoundHeader bytes → IsTruncated bytes → ⊥
not_truncated bytes sound (inl short) = omega (arith, short, sound.header_there)
not_truncated bytes sound (inr short) = omega (arith, short, sound.whole)

not_other : (bytes : List ℕ) → HasSoundHeader bytes → HasOtherHeader bytes → ⊥
not_other bytes sound (inl differs) = differs sound.version
not_other bytes sound (inr differs) = differs sound.type

not_short : (bytes : List ℕ) → HasSoundHeader bytes → HasShortLength bytes → ⊥
not_short bytes sound short = omega (arith, short, sound.long_enough)

not_lsa : (kind : LsaKind) (offset : ℕ) (bytes : List ℕ) (lsas : List Lsa) → AreLsas 0 lsas
    → lsa_bytes bytes ≡ lsas_text lsas → HasLsaFault kind offset bytes → ⊥
not_lsa kind offset bytes lsas are spelled has =
    never_both (lsa_bytes bytes) lsas has.place kind are spelled has.fault

not_count : (bytes : List ℕ) (lsas : List Lsa) → AreLsas 0 lsas → lsa_bytes bytes ≡ lsas_text lsas
    → count_field bytes ≡ length lsas → HasOtherCount bytes → ⊥
not_count bytes lsas are spelled count has =
    has.differs (count ∙ ap length (one_list (lsa_bytes bytes) lsas has.lsas are spelled has.faultless has.spelled))

pub no_fault : (at : ℕ) (bytes : List ℕ) (u : Update) → IsUpdate at bytes u → (kind : UpdateKind) (offset : ℕ)
    → HasFault kind offset bytes → ⊥
no_fault at bytes u is kinds.Truncated offset has = not_truncated bytes (sound_of at bytes u is) has.1
no_fault at bytes u is kinds.Header offset has = not_other bytes (sound_of at bytes u is) has.1
no_fault at bytes u is kinds.Length offset has = not_short bytes (sound_of at bytes u is) has.1
no_fault at bytes u is (kinds.Lsa kind) offset has = not_lsa kind offset bytes is.read is.faultless is.spelled has
no_fault at bytes u is kinds.Count offset has = not_count bytes is.read is.faultless is.spelled is.count has.1

-- ---- one first fault

-- two kinds of one packet, and where they are told
record AreOne (kind other : UpdateKind) (offset place : ℕ) : Type 0 where
  kinds_same : kind ≡ other
  places_same : offset ≡ place

of_one_order : (bytes : List ℕ) (kind other : UpdateKind) (offset place : ℕ) → order_of kind ≡ order_of other
    → HasFault kind offset bytes → HasFault other place bytes → AreOne kind other offset place
of_one_order bytes kinds.Truncated kinds.Truncated offset place same has has' =
    record { kinds_same = refl; places_same = has.0 ∙ sym has'.0 }
of_one_order bytes kinds.Header kinds.Header offset place same has has' =
    record { kinds_same = refl; places_same = has.0 ∙ sym has'.0 }
of_one_order bytes kinds.Length kinds.Length offset place same has has' =
    record { kinds_same = refl; places_same = has.0 ∙ sym has'.0 }
of_one_order bytes kinds.Count kinds.Count offset place same has has' =
    record { kinds_same = refl; places_same = has.0 ∙ sym has'.0 }
of_one_order bytes (kinds.Lsa kind) (kinds.Lsa other) offset place same has has' =
    let one = one_fault (lsa_bytes bytes) has.place has'.place kind other has.fault has'.fault in
    record {
      kinds_same = ap (λ (k : LsaKind). kinds.Lsa k) one.1;
      places_same = has.told ∙ ap (λ (p : ℕ). 28 + p) one.0 ∙ sym has'.told;
    }
of_one_order bytes kind other offset place same has has' = absurd (omega (arith, same))

pub one_first_fault : (bytes : List ℕ) (kind other : UpdateKind) (offset place : ℕ)
    → HasFirstFault kind offset bytes → HasFirstFault other place bytes → (kind ≡ other) × (offset ≡ place)
one_first_fault bytes kind other offset place one two =
    elim (cases_lt (order_of kind) (order_of other)) [
      | inl less ↦ absurd (two.none_earlier kind offset less one.fault)
      | inr more ↦ elim (cases_lt (order_of other) (order_of kind)) [
        | inl less ↦ absurd (one.none_earlier other place less two.fault)
        | inr least ↦
            let are : AreOne kind other offset place =
            of_one_order bytes kind other offset place (omega (arith, more, least)) one.fault two.fault in
            (are.kinds_same, are.places_same)
      ]
    ]

-- ---- a first fault, or none

-- none of the kinds before so many
none_before : (n : ℕ) (bytes : List ℕ) → (0 < n → ¬ IsTruncated bytes) → (1 < n → ¬ HasOtherHeader bytes)
    → (2 < n → ¬ HasShortLength bytes) → (3 < n → (kind : LsaKind) (offset : ℕ) → ¬ HasLsaFault kind offset bytes)
    → n ≤ 4 → (other : UpdateKind) (place : ℕ) → order_of other < n → ¬ HasFault other place bytes
none_before n bytes t h l lsa few kinds.Truncated place lt has = t lt has.1
none_before n bytes t h l lsa few kinds.Header place lt has = h lt has.1
none_before n bytes t h l lsa few kinds.Length place lt has = l lt has.1
none_before n bytes t h l lsa few (kinds.Lsa kind) place lt has = lsa lt kind place has
none_before n bytes t h l lsa few kinds.Count place lt has = omega (arith, lt, few)

pub lsa_refused : (bytes : List ℕ) (kind : LsaKind) (place : ℕ) → HasSoundHeader bytes
    → IsFirstLsaFault (lsa_bytes bytes) place kind → HasFirstFault (kinds.Lsa kind) (28 + place) bytes
lsa_refused bytes kind place sound first = record {
  fault = record { place = place; fault = first; told = refl };
  none_earlier = none_before 3 bytes (λ _. not_truncated bytes sound) (λ _. not_other bytes sound)
      (λ _. not_short bytes sound) (λ lt. absurd (omega (arith, lt))) (omega arith);
}

pub count_refused : (bytes : List ℕ) (lsas : List Lsa) → HasSoundHeader bytes → AreLsas 0 lsas
    → lsa_bytes bytes ≡ lsas_text lsas → count_field bytes ≢ length lsas → HasFirstFault kinds.Count 0 bytes
count_refused bytes lsas sound are spelled differs = record {
  fault = (refl, record { lsas = lsas; faultless = are; spelled = spelled; differs = differs });
  none_earlier = none_before 4 bytes (λ _. not_truncated bytes sound) (λ _. not_other bytes sound)
      (λ _. not_short bytes sound)
      (λ _ kind offset. not_lsa kind offset bytes lsas are spelled) (omega arith);
}

-- the packet at the front, or its first fault
abbrev pub IsEither : ℕ → List ℕ → Type 0
IsEither at bytes =
    ((update : Update) × IsUpdate at bytes update)
    ⊎ ((kind : UpdateKind) × (offset : ℕ) × HasFirstFault kind offset bytes)

counted : (at : ℕ) (bytes : List ℕ) (lsas : List Lsa) → HasSoundHeader bytes → AreLsas 0 lsas
    → lsa_bytes bytes ≡ lsas_text lsas → IsEither at bytes
counted at bytes lsas sound are spelled = elim (cases_eq (count_field bytes) (length lsas)) [
  | inl same ↦
      inl (
        record {
          at = at;
          router = router_field bytes;
          area = area_field bytes;
          lsas = map (placed_from (at + 28)) lsas;
        },
        record {
          header_there = sound.header_there;
          whole = sound.whole;
          version = sound.version;
          type = sound.type;
          long_enough = sound.long_enough;
          read = lsas;
          faultless = are;
          spelled = spelled;
          count = same;
          place = refl;
          router = refl;
          area = refl;
          lsas = refl;
        },
      )
  | inr differs ↦ inr (kinds.Count, 0, count_refused bytes lsas sound are spelled differs)
]

behind_header : (at : ℕ) (bytes : List ℕ) → IsBytes bytes → HasSoundHeader bytes → IsEither at bytes
behind_header at bytes are sound =
    elim (either_of (lsa_bytes bytes)
    (all_bytes (lsa_bytes bytes) (bytes_taken _ _ (bytes_after 28 bytes are)))) [
      | inl read ↦ counted at bytes read.0 sound read.1 read.2
      | inr fault ↦ inr (kinds.Lsa fault.1, 28 + fault.0, lsa_refused bytes fault.1 fault.0 sound fault.2)
    ]

none_first : (bytes : List ℕ) (other : UpdateKind) (place : ℕ) → order_of other < 0 → ¬ HasFault other place bytes
none_first bytes other place lt has = omega (arith, lt)

other_header : (bytes : List ℕ) → 28 ≤ length bytes → length_field bytes ≤ length bytes → HasOtherHeader bytes
    → HasFirstFault kinds.Header 0 bytes
other_header bytes there whole other = record {
  fault = (refl, other);
  none_earlier = none_before 1 bytes (λ _. not_cut) (λ lt. absurd (omega (arith, lt)))
      (λ lt. absurd (omega (arith, lt))) (λ lt. absurd (omega (arith, lt))) (omega arith);
}
  where
    not_cut : IsTruncated bytes → ⊥
    not_cut (inl short) = omega (arith, short, there)
    not_cut (inr short) = omega (arith, short, whole)

short_length : (bytes : List ℕ) → 28 ≤ length bytes → version_field bytes ≡ ospf_version
    → type_field bytes ≡ link_state_update → HasShortLength bytes → HasFirstFault kinds.Length 0 bytes
short_length bytes there version type short = record {
  fault = (refl, short);
  none_earlier = none_before 2 bytes (λ _. not_cut) (λ _. not_foreign)
      (λ lt. absurd (omega (arith, lt))) (λ lt. absurd (omega (arith, lt))) (omega arith);
}
  where
    not_cut : IsTruncated bytes → ⊥
    not_cut (inl less) = omega (arith, less, there)
    not_cut (inr less) = omega (arith, less, there, short)

    not_foreign : HasOtherHeader bytes → ⊥
    not_foreign (inl differs) = differs version
    not_foreign (inr differs) = differs type

pub either_at_front : (at : ℕ) (bytes : List ℕ) → IsBytes bytes → IsEither at bytes
either_at_front at bytes are = elim (cases_lt (length bytes) 28) [
  | inl short ↦
      inr (kinds.Truncated, 0, record { fault = (refl, inl short); none_earlier = none_first bytes })
  | inr there ↦ elim (cases_lt (length bytes) (length_field bytes)) [
    | inl short ↦
        inr (kinds.Truncated, 0, record { fault = (refl, inr short); none_earlier = none_first bytes })
    | inr whole ↦ elim (cases_eq (version_field bytes) ospf_version) [
      | inr differs ↦ inr (kinds.Header, 0, other_header bytes there whole (inl differs))
      | inl version ↦ elim (cases_eq (type_field bytes) link_state_update) [
        | inr differs ↦ inr (kinds.Header, 0, other_header bytes there whole (inr differs))
        | inl type ↦ elim (cases_lt (length_field bytes) 28) [
          | inl short ↦ inr (kinds.Length, 0, short_length bytes there version type short)
          | inr long ↦
              behind_header at bytes are (record {
                header_there = there;
                whole = whole;
                version = version;
                type = type;
                long_enough = long;
              })
        ]
      ]
    ]
  ]
]
