-- What is read may be flooded.
use Rattle.std.proofs.Common.{◌≡◌, ◌≤◌, ◌+◌, ◌-◌, ◌*◌, ◌⊎◌, ◌==◌, ◌||◌, ℕ, Bool, true, false, cond, List, [], ◌∷◌, length, map, drop, inl, inr, refl, sym, ap, subst, arith}
use Rattle.std.specs.List.{AllByRecursion}
use Rattle.std.proofs.lemmas.Bool.{eqb-true}
use Rattle.std.proofs.lemmas.List.{length-append, length-drop, length-map, length-take}
use Rattle.mrt_graph.proofs.Bytes.{IsBytes, bytes_after}
use Rattle.ospf_lsa.specs.Lsas.{AreLsas, IsLsa}
use Rattle.ospf_lsa.specs.LsaText.{lsa_text, lsa_length, lsas_text}
use Rattle.ospf_lsa.specs.Types.{router_lsa, network_lsa}
use Rattle.ospf_lsa.specs.declared.lsa.Lsa.{Lsa}
use Rattle.ospf_lsa.proofs.Numbers.{number_fits}
use Rattle.ospf_lsa.proofs.OneReading.{length_lsa}
use Rattle.lsdb.specs.Installing.{IsKept}
use Rattle.lsdb.proofs.Readings.{read_is_kept}
use Rattle.flood.specs.declared.update.Update.{Update}
use Rattle.flood.specs.PacketFields.{length_field}
use Rattle.ospf_lsa.specs.AreaLsas.{is_area_lsa}
use Rattle.flood.specs.Receiving.{topology, MayFlood}
use Rattle.flood.specs.Updates.{AreUpdates, IsUpdate, placed_from}

-- an LSA has at least 20 bytes
few_lsas : (lsas : List Lsa) → 20 * length lsas ≤ length (lsas_text lsas)
few_lsas [] = omega arith
few_lsas (lsa ∷ lsas) = omega (arith, few_lsas lsas, length-append (lsa_text lsa) (lsas_text lsas), length_lsa lsa)

of_type_by : (a b : Bool) (lsa : Lsa) → (lsa.kind == router_lsa) ≡ a → (lsa.kind == network_lsa) ≡ b → (a || b) ≡ true
    → (lsa.kind ≡ router_lsa) ⊎ (lsa.kind ≡ network_lsa)
of_type_by true b lsa is is' one = inl (eqb-true _ _ is)
of_type_by false true lsa is is' one = inr (eqb-true _ _ is')
of_type_by false false lsa is is' one = absurd cc

kept_lsa : (start : ℕ) (lsa : Lsa) → IsLsa lsa → is_area_lsa lsa ≡ true → IsKept (placed_from start lsa)
kept_lsa start lsa is topo =
    let kept = read_is_kept lsa is
    (of_type_by (lsa.kind == router_lsa) (lsa.kind == network_lsa) lsa refl refl topo) in
    record { type = kept.type; body = kept.body; own_id = kept.own_id; metrics = kept.metrics }

kept_by : (b : Bool) (start : ℕ) (lsa : Lsa) (rest : List Lsa) → is_area_lsa lsa ≡ b → IsLsa lsa
    → AllByRecursion IsKept rest → AllByRecursion IsKept (cond b (placed_from start lsa ∷ rest) rest)
kept_by true start lsa rest topo is all = (kept_lsa start lsa is topo, all)
kept_by false start lsa rest topo is all = all

kept_all : (start at : ℕ) (lsas : List Lsa) → AreLsas at lsas
    → AllByRecursion IsKept (topology (map (placed_from start) lsas))
kept_all start at [] are = tt
kept_all start at (lsa ∷ lsas) are =
    kept_by (is_area_lsa lsa) start lsa (topology (map (placed_from start) lsas)) refl are.1
    (kept_all start (at + lsa_length lsa) lsas are.2)

one_may_flood : (at : ℕ) (bytes : List ℕ) (update : Update) → IsBytes bytes → IsUpdate at bytes update → MayFlood update
one_may_flood at bytes update are is = record {
  few = omega (
    arith,
    ap length is.lsas,
    length-map is.read (placed_from (at + 28)),
    few_lsas is.read,
    ap length is.spelled,
    length-take (length_field bytes - 28) (drop 28 bytes),
    number_fits 2 2 bytes are,
  );
  kept = subst (λ (ls : List Lsa). AllByRecursion IsKept (topology ls)) (sym is.lsas)
      (kept_all (at + 28) 0 is.read is.faultless);
}

pub all_may_flood : (at : ℕ) (bytes : List ℕ) (updates : List Update) (rest : List ℕ) → IsBytes bytes
    → AreUpdates at bytes updates rest → AllByRecursion MayFlood updates
all_may_flood at bytes [] rest are is = tt
all_may_flood at bytes (update ∷ updates) rest are is = (
  one_may_flood at bytes update are is.0,
  all_may_flood (at + length_field bytes) (drop (length_field bytes) bytes) updates rest
      (bytes_after (length_field bytes) bytes are) is.1,
)

-- a packet has at least 28 bytes
pub few_updates : (at : ℕ) (bytes : List ℕ) (updates : List Update) (rest : List ℕ) → AreUpdates at bytes updates rest
    → 28 * length updates ≤ length bytes
few_updates at bytes [] rest is = omega arith
few_updates at bytes (update ∷ updates) rest is =
    let later = few_updates (at + length_field bytes) (drop (length_field bytes) bytes) updates rest is.1 in
    omega (arith, later, length-drop (length_field bytes) bytes, is.0.whole, is.0.long_enough)
