-- What a packet's first fault tells of the file.
use Rattle.std.proofs.Common.{◌≡◌, ◌<◌, ◌≤◌, ◌+◌, ◌-◌, ◌^◌, ℕ, List, Contains, length, drop, ap, subst, arith}
use Rattle.std.proofs.lemmas.List.{length-take, length-drop}
use Rattle.mrt_graph.proofs.Members.{has_from_contains}
use Rattle.ospf_lsa.specs.declared.error.LsaKind.{LsaKind}
use Rattle.ospf_lsa.specs.declared.lsa.Lsa.{Lsa}
use Rattle.ospf_lsa.specs.Lsas.{AreLsas}
use Rattle.ospf_lsa.specs.LsaText.{lsas_text}
use Rattle.ospf_lsa.specs.Outcome.{IsFirstLsaFault}
use Rattle.flood.specs.declared.error.UpdateKind.{UpdateKind}
use Rattle.flood.specs.declared.error.UpdateKind.TheVariants as kinds
use Rattle.flood.specs.declared.error.UpdateError.{UpdateError}
use Rattle.flood.specs.declared.error.UpdateError.TheVariants.{Fault}
use Rattle.flood.specs.declared.update.Update.{Update}
use Rattle.flood.specs.PacketFaults.{HasFirstFault}
use Rattle.flood.specs.PacketFields.{length_field, lsa_bytes}
use Rattle.flood.specs.steps.Reading.{HasSoundHeader, IsRefused}
use Rattle.flood.specs.UpdateOutcome.{IsFirstUpdateFault}
use Rattle.flood.proofs.OneFile.{IsReadTo, first_found}
use Rattle.flood.proofs.OnePacket.{lsa_refused}
use Rattle.flood.proofs.Placing.{at_within}

pub length_lsa_bytes : (bytes : List ℕ) → HasSoundHeader bytes → length (lsa_bytes bytes) + 28 ≤ length bytes
length_lsa_bytes bytes sound =
    omega (
      arith,
      sound.header_there,
      sound.whole,
      sound.long_enough,
      length-drop 28 bytes,
      length-take (length_field bytes - 28) (drop 28 bytes),
    )

-- the places of a packet's LSAs in the file fit 32 bits
pub places_fit : (at : ℕ) (bytes front : List ℕ) (lsas : List Lsa) → at + length bytes < 2 ^ 32 → HasSoundHeader bytes
    → front ≡ lsa_bytes bytes → AreLsas 0 lsas → front ≡ lsas_text lsas → (lsa : Lsa) → Contains lsas lsa
    → at + 28 + lsa.at < 2 ^ 32
places_fit at bytes front lsas room sound is are spelled lsa among =
    let within = at_within 0 lsas lsa are (has_from_contains lsas lsa among) in
    omega (arith, within, room, length_lsa_bytes bytes sound, ap length spelled, ap length is)

-- an LSA's fault
pub told_of_lsa : (at record_at place : ℕ) (of : LsaKind) (kind : UpdateKind) (bytes front : List ℕ)
    → HasSoundHeader bytes → front ≡ lsa_bytes bytes → IsFirstLsaFault front record_at of
    → Fault (at + 28 + record_at) (kinds.Lsa of) ≡ Fault place kind → IsRefused at place kind bytes
told_of_lsa at record_at place of kind bytes front sound is first told =
    let here : at + 28 + record_at ≡ place = cc in
    let same : kinds.Lsa of ≡ kind = cc in
    record {
      offset = 28 + record_at;
      fault = subst (λ (k : UpdateKind). HasFirstFault k (28 + record_at) bytes) same
          (lsa_refused bytes of record_at sound (subst (λ (b : List ℕ). IsFirstLsaFault b record_at of) is first));
      told = omega (arith, here);
    }

pub record_within : (at record_at : ℕ) (of : LsaKind) (bytes front : List ℕ) → at + length bytes < 2 ^ 32
    → HasSoundHeader bytes → front ≡ lsa_bytes bytes → IsFirstLsaFault front record_at of → at + 28 + record_at < 2 ^ 32
record_within at record_at of bytes front room sound is first =
    omega (arith, room, first.more, ap length is, length_lsa_bytes bytes sound)

-- a fault that is told at the packet itself
pub told_here : (at place : ℕ) (of kind : UpdateKind) (bytes : List ℕ) → HasFirstFault of 0 bytes
    → Fault at of ≡ Fault place kind → IsRefused at place kind bytes
told_here at place of kind bytes first told =
    let here : at ≡ place = cc in
    let same : of ≡ kind = cc in
    record {
      offset = 0;
      fault = subst (λ (k : UpdateKind). HasFirstFault k 0 bytes) same first;
      told = omega (arith, here);
    }

-- the fault of the next packet is that of the file
pub told_in_file : (bytes front : List ℕ) (updates : List Update) (at : ℕ) (e : UpdateError) → at < length bytes
    → IsReadTo bytes updates at → front ≡ drop at bytes
    → ((place : ℕ) (kind : UpdateKind) → e ≡ Fault place kind → IsRefused at place kind front)
    → (place : ℕ) (kind : UpdateKind) → e ≡ Fault place kind → IsFirstUpdateFault bytes place kind
told_in_file bytes front updates at e more so_far is told place kind same =
    let refused = told place kind same in
    first_found bytes updates at place kind refused.offset more so_far
    (subst (λ (b : List ℕ). HasFirstFault kind refused.offset b) is refused.fault) refused.told
