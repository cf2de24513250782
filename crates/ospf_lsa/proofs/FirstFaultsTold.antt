-- The fault that reading tells of a record is its first.
use Rattle.std.proofs.Common.{◌≡◌, ◌≢◌, ◌<◌, ◌-◌, ◌/◌, ◌%◌, ◌^◌, ◌⊎◌, ℕ, Bool, true, false, List, length, drop, Option, Some, None, Result, Ok, Err, inl, inr, refl, sym, ap, subst, ◌∙◌, arith}
use Rattle.std.specs.List.{list_any}
use Rattle.std.specs.Option.{option_map_or}
use Rattle.std.proofs.lemmas.Bool.{cases_lt, le-ltb, lt-ltb}
use Rattle.std.proofs.lemmas.Bool.Decides.{eqb_tells}
use Rattle.std.proofs.lemmas.List.{length-drop, length-take}
use Rattle.ospf_lsa.specs.declared.error.LsaKind.{LsaKind}
use Rattle.ospf_lsa.specs.declared.error.LsaKind.TheVariants as kinds
use Rattle.ospf_lsa.specs.declared.lsa.Body.{Body}
use Rattle.ospf_lsa.specs.declared.lsa.Body.TheVariants.{Network, Other}
use Rattle.ospf_lsa.specs.Checksum.{is_good}
use Rattle.ospf_lsa.specs.Faults.{SpellsLinks, HasFault, HasFirstFault, HasBadBody, order_of}
use Rattle.ospf_lsa.specs.Header.{number_at, type_field, id_field, router_field, sequence_field, checksum_field, length_field, covered_bytes, body_bytes}
use Rattle.ospf_lsa.specs.Lsas.{has_zero_metric}
use Rattle.ospf_lsa.specs.steps.Reading.{header_fault, numbers_in, Links, body_in, body_links, with_links, router_body, network_body, typed_body, with_body, record_in}
use Rattle.ospf_lsa.proofs.Bodies.{links_found, spelled_found}
use Rattle.ospf_lsa.proofs.FaultlessAtFront.{opposite}
use Rattle.ospf_lsa.proofs.HeaderFaults.{IsWhole, short_told, cut_told, length_told, checksum_told, sequence_told, router_told}
use Rattle.ospf_lsa.proofs.KindsInOrder.{NoneBefore, first_of}
use Rattle.mrt_graph.proofs.Bytes.{IsBytes, bytes_after}
use Rattle.ospf_lsa.proofs.Numbers.{bytes_taken, number_fits}
use Rattle.ospf_lsa.proofs.Records.{IsHeader, header_passes, header_whole}

-- a header without a fault has none of the faults that are told before the body's
header_none : (place : ℕ) (bytes : List ℕ) → place < 7 → IsHeader bytes → (5 < place → ¬ HasBadBody bytes)
    → NoneBefore place bytes
header_none place bytes few is body = record {
  truncated = λ lt fault. elim fault
      [ inl cut ↦ omega (arith, is.long, cut) | inr cut ↦ omega (arith, is.within, cut) ];
  short = λ lt fault. omega (arith, is.least, fault);
  checksum = λ lt fault. opposite (is_good (covered_bytes bytes) (checksum_field bytes)) is.good fault;
  sequence = λ lt fault. is.not_reserved fault;
  id = λ lt fault. fault.1 (is.own_id fault.0);
  body = body;
  few = few;
}

same_told : (kind told : LsaKind) (o : Option LsaKind) → Some kind ≡ o → o ≡ Some told → kind ≡ told
same_told kind told o e f = cc

told_none : (told : LsaKind) (o : Option LsaKind) → o ≡ None → o ≡ Some told → ⊥
told_none told o e f = absurd cc

-- no fault comes before the first
none_first : (bytes : List ℕ) → NoneBefore 0 bytes
none_first bytes = record {
  truncated = λ lt. absurd (omega (arith, lt));
  short = λ lt. absurd (omega (arith, lt));
  checksum = λ lt. absurd (omega (arith, lt));
  sequence = λ lt. absurd (omega (arith, lt));
  id = λ lt. absurd (omega (arith, lt));
  body = λ lt. absurd (omega (arith, lt));
  few = omega arith;
}

header_first : (bytes : List ℕ) (told : LsaKind) → header_fault bytes ≡ Some told → HasFirstFault told bytes
header_first bytes told e = elim (cases_lt (length bytes) 20) [
  | inl short ↦ told_so kinds.Truncated (short_told bytes short) (inl short) (none_first bytes)
  | inr long ↦ elim (cases_lt (length bytes) (length_field bytes)) [
    | inl cut ↦ told_so kinds.Truncated (cut_told bytes long cut) (inr cut) (none_first bytes)
    | inr within ↦ elim (cases_lt (length_field bytes) 20) [
      | inl little ↦ told_so kinds.Length (length_told bytes long within little) little (record {
        truncated = λ lt fault. elim fault
            [ inl cut ↦ omega (arith, long, cut) | inr cut ↦ omega (arith, within, cut) ];
        short = λ lt. absurd (omega (arith, lt));
        checksum = λ lt. absurd (omega (arith, lt));
        sequence = λ lt. absurd (omega (arith, lt));
        id = λ lt. absurd (omega (arith, lt));
        body = λ lt. absurd (omega (arith, lt));
        few = omega arith;
      })
      | inr least ↦ by_checksum (is_good (covered_bytes bytes) (checksum_field bytes))
          (record { long = long; within = within; least = least }) refl
    ]
  ]
]
  where
    told_so : (kind : LsaKind) → Some kind ≡ header_fault bytes → HasFault kind bytes
        → NoneBefore (order_of kind) bytes → HasFirstFault told bytes
    told_so kind is fault none =
        subst (λ (k : LsaKind). HasFirstFault k bytes) (same_told kind told (header_fault bytes) is e)
        (first_of kind bytes fault none)

    passes : (whole : IsWhole bytes) → is_good (covered_bytes bytes) (checksum_field bytes) ≡ true → sequence_field bytes ≢ 2 ^ 31
        → (type_field bytes ≡ 1 → id_field bytes ≡ router_field bytes) → HasFirstFault told bytes
    passes whole good kept own =
        absurd (told_none told (header_fault bytes)
        (header_passes bytes (record { long = whole.long; within = whole.within; least = whole.least; good = good; not_reserved = kept; own_id = own })) e)

    by_id : (whole : IsWhole bytes) → is_good (covered_bytes bytes) (checksum_field bytes) ≡ true
        → sequence_field bytes ≢ 2 ^ 31 → (type_field bytes ≡ 1) → HasFirstFault told bytes
    by_id whole good kept router = elim (eqb_tells (id_field bytes) (router_field bytes)) [
      | inl same ↦ passes whole good kept (λ is. same.1)
      | inr other ↦ told_so kinds.IdMismatch (router_told bytes whole good kept router other.1) (router, other.1)
          (record {
            truncated = λ lt fault. elim fault
                [ inl cut ↦ omega (arith, whole.long, cut) | inr cut ↦ omega (arith, whole.within, cut) ];
            short = λ lt fault. omega (arith, whole.least, fault);
            checksum = λ lt fault. opposite (is_good (covered_bytes bytes) (checksum_field bytes)) good fault;
            sequence = λ lt. kept;
            id = λ lt. absurd (omega (arith, lt));
            body = λ lt. absurd (omega (arith, lt));
            few = omega arith;
          })
    ]

    by_sequence : (whole : IsWhole bytes) → is_good (covered_bytes bytes) (checksum_field bytes) ≡ true
        → HasFirstFault told bytes
    by_sequence whole good = elim (eqb_tells (sequence_field bytes) (2 ^ 31)) [
      | inl reserved ↦ told_so kinds.ReservedSequence (sequence_told bytes whole good reserved.1) reserved.1 (record {
        truncated = λ lt fault. elim fault
            [ inl cut ↦ omega (arith, whole.long, cut) | inr cut ↦ omega (arith, whole.within, cut) ];
        short = λ lt fault. omega (arith, whole.least, fault);
        checksum = λ lt fault. opposite (is_good (covered_bytes bytes) (checksum_field bytes)) good fault;
        sequence = λ lt. absurd (omega (arith, lt));
        id = λ lt. absurd (omega (arith, lt));
        body = λ lt. absurd (omega (arith, lt));
        few = omega arith;
      })
      | inr kept ↦ elim (eqb_tells (type_field bytes) 1) [
        | inl router ↦ by_id whole good kept.1 router.1
        | inr other ↦ passes whole good kept.1 (λ is. absurd (other.1 is))
      ]
    ]

    by_checksum : (b : Bool) → IsWhole bytes → is_good (covered_bytes bytes) (checksum_field bytes) ≡ b
        → HasFirstFault told bytes
    by_checksum false whole bad = told_so kinds.Checksum (checksum_told bytes whole bad) bad (record {
      truncated = λ lt fault. elim fault
          [ inl cut ↦ omega (arith, whole.long, cut) | inr cut ↦ omega (arith, whole.within, cut) ];
      short = λ lt fault. omega (arith, whole.least, fault);
      checksum = λ lt. absurd (omega (arith, lt));
      sequence = λ lt. absurd (omega (arith, lt));
      id = λ lt. absurd (omega (arith, lt));
      body = λ lt. absurd (omega (arith, lt));
      few = omega arith;
    })
    by_checksum true whole good = by_sequence whole good

-- the body's faults

body_long : (bytes : List ℕ) → IsHeader bytes → length (body_bytes bytes) ≡ length_field bytes - 20
body_long bytes is = simp (length-take, length-drop) (omega (arith, is.within))

body_short : (bytes : List ℕ) → IsHeader bytes → IsBytes bytes → length (body_bytes bytes) < 2 ^ 16
body_short bytes is are = omega (arith, body_long bytes is, number_fits 2 18 bytes are)

no_links : (links : Links) (o : Option Links) → o ≡ None → o ≡ Some links → ⊥
no_links links o e f = absurd cc

same_kind : (kind told : LsaKind) (r : Result Body LsaKind) → r ≡ Err kind → r ≡ Err told → kind ≡ told
same_kind kind told r e f = cc

ok_kind : (body : Body) (told : LsaKind) (r : Result Body LsaKind) → r ≡ Ok body → r ≡ Err told → ⊥
ok_kind body told r e f = absurd cc

router_first : (bytes : List ℕ) (told : LsaKind) → type_field bytes ≡ 1 → IsHeader bytes → IsBytes bytes
    → IsBytes (body_bytes bytes)
    → router_body (body_bytes bytes) ≡ Err told → HasFirstFault told bytes
router_first bytes told router is are body_are e = by_links (body_links (body_bytes bytes)) refl
  where
    by_metrics : (links : Links) (b : Bool) → body_links (body_bytes bytes) ≡ Some links
        → list_any has_zero_metric links.0 ≡ b → with_links (body_bytes bytes) links ≡ Err told → HasFirstFault told bytes
    by_metrics links true found zero h =
        let spells : SpellsLinks (body_bytes bytes) links.0 = links_found (body_bytes bytes) links found body_are in
        let refused : with_links (body_bytes bytes) links ≡ Err kinds.ZeroMetric = rw zero refl in
        subst (λ (k : LsaKind). HasFirstFault k bytes)
        (same_kind kinds.ZeroMetric told (with_links (body_bytes bytes) links) refused h)
        (first_of kinds.ZeroMetric bytes (router, (links.0, spells, zero))
        (header_none 6 bytes (omega arith) is (λ lt bad. elim bad [
          | inl refused ↦ refused.1 links.0 spells
          | inr network ↦ omega (arith, router, network.0)
        ])))
    by_metrics links false found none h =
        absurd (ok_kind (body_in (body_bytes bytes) links) told (with_links (body_bytes bytes) links) (rw none refl) h)

    by_links : (o : Option Links) → body_links (body_bytes bytes) ≡ o → HasFirstFault told bytes
    by_links None found =
        let refused : router_body (body_bytes bytes) ≡ Err kinds.Body =
        ap (λ (o : Option Links). option_map_or (with_links (body_bytes bytes)) o (Err kinds.Body))
        found in
        subst (λ (k : LsaKind). HasFirstFault k bytes)
        (same_kind kinds.Body told (router_body (body_bytes bytes)) refused e)
        (first_of kinds.Body bytes
        (inl (
          router,
          λ links spells. no_links (links, spells.tos) (body_links (body_bytes bytes)) found
              (spelled_found (body_bytes bytes) links (body_short bytes is are) spells),
        ))
        (header_none 5 bytes (omega arith) is (λ lt. absurd (omega (arith, lt)))))
    by_links (Some links) found =
        by_metrics links (list_any has_zero_metric links.0) found refl
        (sym (ap (λ (o : Option Links). option_map_or (with_links (body_bytes bytes)) o (Err kinds.Body))
        found) ∙ e)

network_first : (bytes : List ℕ) (told : LsaKind) → type_field bytes ≡ 2 → IsHeader bytes
    → network_body (body_bytes bytes) ≡ Err told → HasFirstFault told bytes
network_first bytes told network is e = elim (cases_lt (length (body_bytes bytes)) 4) [
  | inl short ↦ told_so (rw (lt-ltb _ _ short) refl) (inl (omega (arith, short, body_long bytes is, is.least)))
  | inr long ↦ elim (eqb_tells (length (body_bytes bytes) % 4) 0) [
    | inl whole ↦
        absurd (ok_kind
        (Network (number_at 0 4 (body_bytes bytes))
        (numbers_in ((length (body_bytes bytes) - 4) / 4) (drop 4 (body_bytes bytes)))) told
        (network_body (body_bytes bytes)) (rw (le-ltb _ _ long, whole.0) refl) e)
    | inr odd ↦ told_so (rw (le-ltb _ _ long, odd.0) refl)
        (inr (λ even. odd.1 (omega (arith, even, body_long bytes is, is.least))))
  ]
]
  where
    told_so : network_body (body_bytes bytes) ≡ Err kinds.Body
        → ((length_field bytes < 24) ⊎ (length_field bytes % 4 ≢ 0)) → HasFirstFault told bytes
    told_so refused bad =
        subst (λ (k : LsaKind). HasFirstFault k bytes)
        (same_kind kinds.Body told (network_body (body_bytes bytes)) refused e)
        (first_of kinds.Body bytes (inr (network, bad))
        (header_none 5 bytes (omega arith) is (λ lt. absurd (omega (arith, lt)))))

body_first : (bytes : List ℕ) (told : LsaKind) → IsHeader bytes → IsBytes bytes → IsBytes (body_bytes bytes)
    → typed_body (type_field bytes) (body_bytes bytes) ≡ Err told → HasFirstFault told bytes
body_first bytes told is are body_are e = elim (eqb_tells (type_field bytes) 1) [
  | inl router ↦ let opened : typed_body (type_field bytes) (body_bytes bytes) ≡ router_body (body_bytes bytes) =
      rw (router.0) refl in router_first bytes told router.1 is are body_are (sym opened ∙ e)
  | inr no_router ↦ elim (eqb_tells (type_field bytes) 2) [
    | inl network ↦ let opened : typed_body (type_field bytes) (body_bytes bytes) ≡ network_body (body_bytes bytes) =
        rw (no_router.0, network.0) refl in network_first bytes told network.1 is (sym opened ∙ e)
    | inr no_network ↦
        absurd (ok_kind (Other (body_bytes bytes)) told (typed_body (type_field bytes) (body_bytes bytes))
        (rw (no_router.0, no_network.0) refl) e)
  ]
]

pub told_is_first : (at : ℕ) (bytes : List ℕ) (told : LsaKind) → record_in at bytes ≡ Err told → IsBytes bytes
    → HasFirstFault told bytes
told_is_first at bytes told e are = by_header (header_fault bytes) refl e
  where
    told_of_body : (r : Result Body LsaKind) → with_body at bytes r ≡ Err told → r ≡ Err told
    told_of_body (Ok body) h = absurd cc
    told_of_body (Err kind) h = let same : kind ≡ told = cc in ap Err same

    by_header : (o : Option LsaKind) → header_fault bytes ≡ o
        → option_map_or Err o (with_body at bytes (typed_body (type_field bytes) (body_bytes bytes))) ≡ Err told
        → HasFirstFault told bytes
    by_header None found h = body_first bytes told (header_whole bytes found) are
        (bytes_taken (length_field bytes - 20) (drop 20 bytes) (bytes_after 20 bytes are))
        (told_of_body (typed_body (type_field bytes) (body_bytes bytes)) h)
    by_header (Some kind) found h = let same : kind ≡ told = cc in header_first bytes told (found ∙ ap Some same)
