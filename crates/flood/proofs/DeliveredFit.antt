-- What is read may be flooded, and what holds of its LSAs holds of those that are delivered.
use Rattle.std.proofs.Common.{◌+◌, ◌<◌, ◌^◌, ℕ, zero, suc, List, [], ◌∷◌, drop, map, sym, subst, arith}
use Rattle.std.specs.List.{AllByRecursion}
use Rattle.mrt_graph.proofs.Bytes.{IsBytes}
use Rattle.mrt_graph.proofs.Members.{all_append, all_from_has, all_has, has_filter}
use Rattle.ospf_lsa.specs.AreaLsas.{is_area_lsa}
use Rattle.ospf_lsa.specs.LsaText.{lsa_length}
use Rattle.ospf_lsa.specs.Lsas.{AreLsas, FitsBody, IsByte, IsLsa}
use Rattle.ospf_lsa.specs.declared.lsa.Lsa.{Lsa}
use Rattle.flood.specs.FloodState.{started}
use Rattle.flood.specs.PacketFields.{length_field}
use Rattle.flood.specs.Receiving.{MayFlood, arrived}
use Rattle.flood.specs.Runs.{Delivery, brought, delivered_to, lsas_of, numbered}
use Rattle.flood.specs.Updates.{AreUpdates, placed_from}
use Rattle.flood.specs.declared.update.Update.{Update}
use Rattle.flood.proofs.Bringing.{brought_of_file}
use Rattle.flood.proofs.MayBeFlooded.{all_may_flood}

-- ---- what is delivered, of what does not speak of places

module _ (P : Lsa → Type 0) (moved : (number : ℕ) (lsa : Lsa) → P lsa → P (arrived number lsa)) where
  numbered_all : (number : ℕ) (lsas : List Lsa) → AllByRecursion P lsas → AllByRecursion P (numbered number lsas)
  numbered_all number [] all = tt
  numbered_all number (lsa ∷ lsas) all = (moved number lsa all.0, numbered_all (number + 1) lsas all.1)

  delivered_all : (updates : List Update) (count : ℕ) (deliveries : List Delivery) (router : ℕ) → AllByRecursion P (lsas_of updates)
      → AllByRecursion P (delivered_to updates count deliveries router)
  delivered_all updates count deliveries router all =
      let came : List Lsa = brought (started updates count) deliveries router in
      numbered_all 0 came (all_from_has P came (λ lsa has.
      all_has P (lsas_of updates) lsa all (has_filter is_area_lsa (lsas_of updates) lsa (brought_of_file updates count deliveries router lsa has)).0))

pub bodies_delivered : (updates : List Update) (count : ℕ) (deliveries : List Delivery) (router : ℕ)
    → AllByRecursion (λ (lsa : Lsa). FitsBody lsa.body) (lsas_of updates)
    → AllByRecursion (λ (lsa : Lsa). FitsBody lsa.body) (delivered_to updates count deliveries router)
bodies_delivered = delivered_all (λ (lsa : Lsa). FitsBody lsa.body) (λ number lsa fits. fits)

pub ids_delivered : (updates : List Update) (count : ℕ) (deliveries : List Delivery) (router : ℕ)
    → AllByRecursion (λ (lsa : Lsa). lsa.id < 2 ^ 32) (lsas_of updates)
    → AllByRecursion (λ (lsa : Lsa). lsa.id < 2 ^ 32) (delivered_to updates count deliveries router)
ids_delivered = delivered_all (λ (lsa : Lsa). lsa.id < 2 ^ 32) (λ number lsa fits. fits)

-- ---- what is read

module _ (P : Lsa → Type 0) (faultless : (lsa : Lsa) → IsLsa lsa → P lsa) (moved : (start : ℕ) (lsa : Lsa) → P lsa → P (placed_from start lsa)) where
  placed_all : (start at : ℕ) (lsas : List Lsa) → AreLsas at lsas → AllByRecursion P (map (placed_from start) lsas)
  placed_all start at [] are = tt
  placed_all start at (lsa ∷ lsas) are = (moved start lsa (faultless lsa are.1), placed_all start (at + lsa_length lsa) lsas are.2)

  read_all : (at : ℕ) (bytes : List ℕ) (updates : List Update) (rest : List ℕ) → AreUpdates at bytes updates rest
      → AllByRecursion P (lsas_of updates)
  read_all at bytes [] rest are = tt
  read_all at bytes (update ∷ updates) rest are =
      all_append P update.lsas (lsas_of updates)
      (subst (λ (lsas : List Lsa). AllByRecursion P lsas) (sym are.0.lsas) (placed_all (at + 28) 0 are.0.read are.0.faultless))
      (read_all (at + length_field bytes) (drop (length_field bytes) bytes) updates rest are.1)

pub bodies_read : (bytes : List ℕ) (updates : List Update) → AreUpdates 0 bytes updates []
    → AllByRecursion (λ (lsa : Lsa). FitsBody lsa.body) (lsas_of updates)
bodies_read bytes updates are = read_all (λ (lsa : Lsa). FitsBody lsa.body) (λ lsa is. is.body) (λ start lsa fits. fits) 0 bytes updates [] are

pub ids_read : (bytes : List ℕ) (updates : List Update) → AreUpdates 0 bytes updates []
    → AllByRecursion (λ (lsa : Lsa). lsa.id < 2 ^ 32) (lsas_of updates)
ids_read bytes updates are = read_all (λ (lsa : Lsa). lsa.id < 2 ^ 32) (λ lsa is. is.header.id) (λ start lsa fits. fits) 0 bytes updates [] are

bytes_by_place : (bytes : List ℕ) → AllByRecursion IsByte bytes → IsBytes bytes
bytes_by_place [] all i = omega arith
bytes_by_place (byte ∷ bytes) all zero = omega (arith, all.0)
bytes_by_place (byte ∷ bytes) all (suc i) = bytes_by_place bytes all.1 i

pub read_may_flood : (bytes : List ℕ) (updates : List Update) → AllByRecursion IsByte bytes → AreUpdates 0 bytes updates []
    → AllByRecursion MayFlood updates
read_may_flood bytes updates all are = all_may_flood 0 bytes updates [] (bytes_by_place bytes all) are
