-- An LSA that is written is read.
use Rattle.std.proofs.Common.{◌≡◌, ◌<◌, ◌≤◌, ◌^◌, ℕ, ◌/◌, ◌%◌, true, List, [], ◌∷◌, ◌++◌, drop, refl, sym, ap, ◌∙◌, arith}
use Rattle.std.specs.Prelude.{slice_set, slice_index_or}
use Rattle.std.specs.Int.{w8, w16, w32, to_be_bytes, cast_unsigned}
use Rattle.std.proofs.lemmas.List.{append-nil}
use Rattle.ospf_lsa.specs.declared.lsa.Lsa.{Lsa}
use Rattle.ospf_lsa.specs.Checksum.{is_good, fresh_checksum}
use Rattle.ospf_lsa.specs.LsaText.{body_text, lsa_length, lsa_text, covered_text, lsas_text}
use Rattle.ospf_lsa.specs.Lsas.{AreLsas, FitsBody, FitsHeader, IsOfType}
use Rattle.ospf_lsa.specs.Written.{renewed, renewed_at_front, with_checksum, IsReadable}
use Rattle.ospf_lsa.proofs.Fresh.{fresh_good, fresh_small}

-- what stands before the checksum field, but for the age
before : Lsa → List ℕ
before lsa =
    to_be_bytes w8 lsa.options ++
    (to_be_bytes w8 lsa.kind ++
    (to_be_bytes w32 lsa.id ++ (to_be_bytes w32 lsa.router ++ to_be_bytes w32 (cast_unsigned w32 lsa.sequence))))

-- and what stands after it
behind : Lsa → List ℕ
behind lsa = to_be_bytes w16 (lsa_length lsa) ++ body_text lsa.body

covered_parts : (lsa : Lsa) (checksum : ℕ)
    → covered_text (with_checksum lsa checksum) ≡ before lsa ++ (checksum / 256 % 256 ∷ checksum % 256 ∷ behind lsa)
unfolding before behind
covered_parts lsa checksum = refl

-- a checksum put into its field
pub field_set : (lsa : Lsa) (checksum : ℕ) (bytes field : List ℕ) → bytes ≡ lsa_text (with_checksum lsa 0)
    → field ≡ to_be_bytes w16 checksum
    → slice_set (slice_set bytes 16 (slice_index_or field 0 0)) 17 (slice_index_or field 1 0)
    ≡ lsa_text (with_checksum lsa checksum)
field_set lsa checksum bytes field e f =
    ap (λ (b : List ℕ). slice_set (slice_set b 16 (slice_index_or field 0 0)) 17 (slice_index_or field 1 0)) e
    ∙ ap (λ (g : List ℕ). slice_set (slice_set (lsa_text (with_checksum lsa 0)) 16 (slice_index_or g 0 0)) 17
    (slice_index_or g 1 0)) f

-- the checksum that is put there
pub checksum_of : (lsa : Lsa) (bytes covered : List ℕ) (checksum : ℕ) → bytes ≡ lsa_text (with_checksum lsa 0)
    → covered ≡ drop 2 bytes → checksum ≡ fresh_checksum covered
    → checksum ≡ (renewed lsa).checksum
checksum_of lsa bytes covered checksum e f g = g ∙ ap fresh_checksum (f ∙ ap (drop 2) e)

-- it is good
renewed_good : (lsa : Lsa) → is_good (covered_text (renewed lsa)) (renewed lsa).checksum ≡ true
unfolding before behind
renewed_good lsa = fresh_good (before lsa) (behind lsa) refl

renewed_fits : (lsa : Lsa) → (renewed lsa).checksum < 2 ^ 16
unfolding before behind
renewed_fits lsa = fresh_small (before lsa) (behind lsa) refl

-- what is written of an LSA without these faults is one without any
pub renewed_kept : (lsa : Lsa) → FitsHeader lsa → IsOfType lsa.kind lsa.body → FitsBody lsa.body
    → lsa_length lsa ≤ 65535 → IsReadable lsa → AreLsas 0 (renewed_at_front lsa ∷ [])
renewed_kept lsa header of_type body fits kept = (
  refl,
  record {
    header = record {
      age = header.age;
      options = header.options;
      kind = header.kind;
      id = header.id;
      router = header.router;
      sequence = header.sequence;
    };
    checksum = renewed_fits lsa;
    good = renewed_good lsa;
    not_reserved = kept.not_reserved;
    own_id = kept.own_id;
    of_type = of_type;
    body = body;
    metrics = kept.metrics;
    length_fits = omega (arith, fits);
  },
  tt,
)

-- one LSA's bytes are those of a file of it alone
pub text_alone : (lsa : Lsa) (bytes : List ℕ) → bytes ≡ lsa_text (renewed lsa)
    → bytes ≡ lsas_text (renewed_at_front lsa ∷ [])
text_alone lsa bytes e = e ∙ sym (append-nil (lsa_text (renewed lsa)))
