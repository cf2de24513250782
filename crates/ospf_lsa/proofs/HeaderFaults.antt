-- The first fault of a header, by what was found before it.
use Rattle.std.proofs.Common.{◌≡◌, ◌≢◌, ◌<◌, ◌≤◌, ◌^◌, true, false, List, ℕ, length, Some, refl}
use Rattle.std.proofs.lemmas.Bool.{eq-eqb, ne_eqb, le-ltb, lt-ltb}
use Rattle.ospf_lsa.specs.declared.error.LsaKind.TheVariants as kinds
use Rattle.ospf_lsa.specs.Checksum.{is_good}
use Rattle.ospf_lsa.specs.Header.{number_at, length_field, covered_bytes}
use Rattle.ospf_lsa.specs.steps.Reading.{header_fault}

-- the whole of the LSA is there
pub record IsWhole (bytes : List ℕ) : Type 0 where
  pub long : 20 ≤ length bytes
  pub within : length_field bytes ≤ length bytes
  pub least : 20 ≤ length_field bytes

pub short_told : (bytes : List ℕ) → length bytes < 20 → Some kinds.Truncated ≡ header_fault bytes
short_told bytes short = rw (lt-ltb _ _ short) refl

pub cut_told : (bytes : List ℕ) → 20 ≤ length bytes → length bytes < length_field bytes
    → Some kinds.Truncated ≡ header_fault bytes
cut_told bytes long cut = rw (le-ltb _ _ long, lt-ltb _ _ cut) refl

pub length_told : (bytes : List ℕ) → 20 ≤ length bytes → length_field bytes ≤ length bytes → length_field bytes < 20
    → Some kinds.Length ≡ header_fault bytes
length_told bytes long within little = rw (le-ltb _ _ long, le-ltb _ _ within, lt-ltb _ _ little) refl

pub checksum_told : (bytes : List ℕ) → IsWhole bytes → is_good (covered_bytes bytes) (number_at 16 2 bytes) ≡ false
    → Some kinds.Checksum ≡ header_fault bytes
checksum_told bytes whole bad = rw (le-ltb _ _ whole.long, le-ltb _ _ whole.within, le-ltb _ _ whole.least, bad) refl

pub sequence_told : (bytes : List ℕ) → IsWhole bytes → is_good (covered_bytes bytes) (number_at 16 2 bytes) ≡ true
    → number_at 12 4 bytes ≡ 2 ^ 31 → Some kinds.ReservedSequence ≡ header_fault bytes
sequence_told bytes whole good reserved =
    rw (le-ltb _ _ whole.long, le-ltb _ _ whole.within, le-ltb _ _ whole.least, good, eq-eqb _ _ reserved) refl

pub router_told : (bytes : List ℕ) → IsWhole bytes → is_good (covered_bytes bytes) (number_at 16 2 bytes) ≡ true
    → number_at 12 4 bytes ≢ 2 ^ 31 → number_at 3 1 bytes ≡ 1 → number_at 4 4 bytes ≢ number_at 8 4 bytes
    → Some kinds.IdMismatch ≡ header_fault bytes
router_told bytes whole good kept router other =
    rw (
      le-ltb _ _ whole.long,
      le-ltb _ _ whole.within,
      le-ltb _ _ whole.least,
      good,
      ne_eqb _ _ kept,
      eq-eqb _ _ router,
      ne_eqb _ _ other,
    ) refl
