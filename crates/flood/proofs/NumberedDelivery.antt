-- One delivery, of a packet by the numbers of its LSAs.
use Rattle.std.proofs.Common.{◌≡◌, ◌∙◌, ◌<◌, ◌≤◌, ◌+◌, ◌^◌, ◌++◌, ◌↔◌, ℕ, zero, suc, List, [], ◌∷◌, Option, None, length, map, replicate, set, get_or, refl, sym, ap, subst, add-one, arith}
use Rattle.std.specs.List.{AllByRecursion}
use Rattle.std.proofs.lemmas.List.{get_or-map, length-map, map-append, map-set}
use Rattle.ospf_lsa.specs.declared.lsa.Lsa.{Lsa}
use Rattle.lsdb.specs.Installing.{IsBehind, IsKept}
use Rattle.mrt_graph.proofs.Members.{all_append}
use Rattle.flood.specs.declared.answer.Answer.{Answer}
use Rattle.flood.specs.declared.answer.Answer.TheVariants as answers
use Rattle.flood.specs.declared.numbered_update.NumberedUpdate.{NumberedUpdate}
use Rattle.flood.specs.declared.receiver.Receiver.{Receiver}
use Rattle.flood.specs.declared.update.Update.{Update}
use Rattle.flood.specs.FloodState.{FloodState}
use Rattle.flood.specs.steps.FloodState.{IsFlood, IsRouter}
use Rattle.flood.specs.FloodStep.{answer_of, delivered, sent_on}
use Rattle.flood.specs.steps.Numbers.{flood_in, lsa_in, lsas_by, router_in, update_in, AreNumbers, IsFloodIn, IsStored}
use Rattle.flood.specs.Receiving.{after_all, new_router, news, topology, MayFlood}
use Rattle.flood.specs.Routers.{Router}
use Rattle.flood.proofs.Numbered.{all_at}
use Rattle.flood.proofs.OneDelivery.{IsDone, all_set, answer_told, done_of, few_sent, flood_kept, state_told}

-- ---- before any delivery

one_more_end : (count : ℕ) → new_router ∷ replicate count new_router ≡ replicate count new_router ++ new_router ∷ []
one_more_end zero = refl
one_more_end (suc count) = ap (λ (rs : List Router). new_router ∷ rs) (one_more_end count)

pub one_more_router : (lsas : List Lsa) (routers routers' : List Receiver) (r : Receiver) (count : ℕ)
    → routers' ≡ routers ++ r ∷ [] → router_in lsas r ≡ new_router
    → map (router_in lsas) routers ≡ replicate count new_router
    → map (router_in lsas) routers' ≡ replicate (count + 1) new_router
one_more_router lsas routers routers' r count grown is told =
    ap (map (router_in lsas)) grown ∙ map-append (router_in lsas) routers (r ∷ [])
    ∙ ap (λ (x : Router). map (router_in lsas) routers ++ x ∷ []) is
    ∙ ap (λ (rs : List Router). rs ++ new_router ∷ []) told ∙ sym (one_more_end count)
    ∙ ap (λ (n : ℕ). replicate n new_router) (sym (add-one count))

pub one_more_stored : (lsas : List Lsa) (routers routers' : List Receiver) (r : Receiver) → routers' ≡ routers ++ r ∷ []
    → IsStored lsas r.store → AllByRecursion (λ (x : Receiver). IsStored lsas x.store) routers
    → AllByRecursion (λ (x : Receiver). IsStored lsas x.store) routers'
one_more_stored lsas routers routers' r grown is stored =
    subst (AllByRecursion (λ (x : Receiver). IsStored lsas x.store)) (sym grown)
    (all_append (λ (x : Receiver). IsStored lsas x.store) routers (r ∷ []) stored (is, tt))

all_new : (count : ℕ) → AllByRecursion (IsRouter 0) (replicate count new_router)
all_new zero = tt
all_new (suc count) = (record { behind = tt; few = omega arith }, all_new count)

module _ (lsas : List Lsa) (packets : List NumberedUpdate) (routers : List Receiver) (updates : List Update) (count : ℕ)
    (packets_are : map (update_in lsas) packets ≡ updates)
    (routers_are : map (router_in lsas) routers ≡ replicate count new_router) where
  pub flood_begun : length updates ≤ 4294000000 → AllByRecursion MayFlood updates
      → AllByRecursion (λ packet. AreNumbers lsas packet.lsas.items) packets
      → AllByRecursion (λ router. IsStored lsas router.store) routers → IsFloodIn lsas packets routers 0
  flood_begun few may_flood numbers stored = record {
    flood = subst
        (λ (us : List Update). IsFlood (record { packets = us; routers = map (router_in lsas) routers; changed = 0 }))
        (sym packets_are)
        (subst (λ (rs : List Router). IsFlood (record { packets = updates; routers = rs; changed = 0 })) (sym routers_are)
        (record {
          few_packets = omega (arith, few);
          few_deliveries = omega arith;
          packets = may_flood;
          routers = all_new count;
        }));
    numbers = numbers;
    stored = stored;
  }

-- ---- a delivery

-- what a router may receive
pub record IsDeliverable (lsas : List Lsa) (numbers : List ℕ) (router : Receiver) : Type 0 where
  pub stored : IsStored lsas router.store
  pub are_numbers : AreNumbers lsas numbers
  pub kept : AllByRecursion IsKept (topology (lsas_by lsas numbers))
  pub behind : IsBehind router.store.greatest router.arrivals
  pub room : router.arrivals + length numbers < 2 ^ 32

-- what it received, and the numbers of what was new
pub record HasReceived (lsas : List Lsa) (numbers : List ℕ) (router after : Receiver) (new : List ℕ) : Type 0 where
  pub news_are : lsas_by lsas new ≡ news (router_in lsas router) (topology (lsas_by lsas numbers))
  pub new_ones : AreNumbers lsas new
  pub after_is : router_in lsas after ≡ after_all (router_in lsas router) (topology (lsas_by lsas numbers))
  pub stored : IsStored lsas after.store

pub received_of : (ls lsas : List Lsa) (ns numbers : List ℕ) (router after : Receiver) (new : List ℕ) → ls ≡ lsas
    → ns ≡ numbers → HasReceived ls ns router after new → HasReceived lsas numbers router after new
received_of ls lsas ns numbers router after new lsas_are numbers_are has =
    subst (λ (x : List Lsa). HasReceived x numbers router after new) lsas_are
    (subst (λ (x : List ℕ). HasReceived ls x router after new) numbers_are has)

never_refused : (number : ℕ) (new : List Lsa) → answer_of number new ≡ answers.NoSuchRouter → ⊥
never_refused number [] is = absurd cc
never_refused number (x ∷ new) is = absurd cc

-- no packet is sent on exactly where nothing was new
pub sent_of_new : (number : ℕ) (new : List Lsa) (count : ℕ) (sent : Option ℕ) → answer_of number new ≡ answers.Changed count sent
    → (sent ≡ None) ↔ (count ≡ 0)
sent_of_new number [] count sent is = ((λ unsent. cc), (λ nothing. cc))
sent_of_new number (x ∷ new) count sent is =
    let many : length (x ∷ new) ≡ count = cc in
    ((λ unsent. absurd (cc)), (λ nothing. absurd (omega (arith, many, nothing))))

module _ (lsas : List Lsa) (packets : List NumberedUpdate) (routers : List Receiver) (changed p r : ℕ)
    (packet : NumberedUpdate) (router : Receiver) (is : IsFloodIn lsas packets routers changed)
    (p_there : p < length packets) (r_there : r < length routers)
    (packet_is : packet ≡ get_or packets p packet) (router_is : router ≡ get_or routers r router) where
  abbrev state : FloodState
  state = flood_in lsas packets routers changed

  packet_at : update_in lsas packet ≡ get_or (map (update_in lsas) packets) p (update_in lsas packet)
  packet_at =
      ap (update_in lsas) packet_is ∙ sym (get_or-map (update_in lsas) packets p packet (update_in lsas packet) p_there)

  router_at : router_in lsas router ≡ get_or (map (router_in lsas) routers) r (router_in lsas router)
  router_at =
      ap (router_in lsas) router_is ∙ sym (get_or-map (router_in lsas) routers r router (router_in lsas router) r_there)

  may_flood : MayFlood (update_in lsas packet)
  may_flood =
      all_at MayFlood (map (update_in lsas) packets) p (update_in lsas packet) is.flood.packets
      (omega (arith, p_there, length-map packets (update_in lsas))) packet_at

  fits : IsRouter changed (router_in lsas router)
  fits =
      all_at (IsRouter changed) (map (router_in lsas) routers) r (router_in lsas router) is.flood.routers
      (omega (arith, r_there, length-map routers (router_in lsas))) router_at

  deliverable_here : IsDeliverable lsas packet.lsas.items router
  deliverable_here = record {
    stored = all_at (λ (x : Receiver). IsStored lsas x.store) routers r router is.stored r_there router_is;
    are_numbers = all_at (λ (x : NumberedUpdate). AreNumbers lsas x.lsas.items) packets p packet is.numbers p_there packet_is;
    kept = may_flood.kept;
    behind = fits.behind;
    room = omega (arith, fits.few, may_flood.few, is.flood.few_deliveries, length-map packet.lsas.items (lsa_in lsas));
  }

  pub deliverable : (ls : List Lsa) (ns : List ℕ) → ls ≡ lsas → ns ≡ packet.lsas.items → IsDeliverable ls ns router
  deliverable ls ns lsas_are numbers_are =
      subst (λ (x : List Lsa). IsDeliverable x ns router) (sym lsas_are)
      (subst (λ (x : List ℕ). IsDeliverable lsas x router) (sym numbers_are) deliverable_here)

  -- after the router received it, and gave its new LSAs to the packet that it sends on
  module _ (sent : NumberedUpdate) (after : Receiver) (new : List ℕ)
      (received : HasReceived lsas packet.lsas.items router after new)
      (sent_is : update_in lsas sent ≡ record (update_in lsas packet) { lsas = lsas_by lsas new }) where
    done : IsDone state p r (update_in lsas packet) (update_in lsas sent) (router_in lsas router) (router_in lsas after)
        (lsas_by lsas new)
    done =
        done_of state p r (update_in lsas packet) (update_in lsas sent) (router_in lsas router) (router_in lsas after)
        (lsas_by lsas packet.lsas.items) (lsas_by lsas new)
        (omega (arith, p_there, length-map packets (update_in lsas)))
        (omega (arith, r_there, length-map routers (router_in lsas))) packet_at router_at refl received.news_are received.after_is
        sent_is

    pub few_new : length sent.lsas.items ≤ 65535
    few_new = omega (arith, few_sent done is.flood, length-map sent.lsas.items (lsa_in lsas))

    pub flood_on : (self : FloodState) (packets' : List NumberedUpdate) → state ≡ self → self.changed < 65535
        → map (update_in lsas) packets'
        ≡ map (update_in lsas) packets ++ sent_on (update_in lsas sent) (lsas_by lsas sent.lsas.items)
        → (AreNumbers lsas sent.lsas.items → AllByRecursion (λ x. AreNumbers lsas x.lsas.items) packets
        → AllByRecursion (λ x. AreNumbers lsas x.lsas.items) packets') → sent.lsas.items ≡ new
        → IsFloodIn lsas packets' (set routers r after) (changed + 1)
    flood_on self packets' view room told numbers new_are = record {
      flood = subst
          (λ (rs : List Router). IsFlood (record { packets = map (update_in lsas) packets'; routers = rs; changed = changed + 1 }))
          (sym (map-set (router_in lsas) routers r after))
          (flood_kept done self (map (update_in lsas) packets') view room is.flood told);
      numbers = numbers (subst (AreNumbers lsas) (sym new_are) received.new_ones) is.numbers;
      stored = all_set (λ (x : Receiver). IsStored lsas x.store) routers r after is.stored received.stored;
    }

    pub answer_on : (self : FloodState) (answer : Answer) → state ≡ self
        → answer ≡ answer_of (length packets) (lsas_by lsas sent.lsas.items) → answer ≡ (delivered self p r).0
    answer_on self answer view told =
        answer_told done self answer view
        (told
        ∙ ap (λ (n : ℕ). answer_of n (lsas_by lsas sent.lsas.items)) (sym (length-map packets (update_in lsas))))

    pub state_on : (self : FloodState) (packets' : List NumberedUpdate) → state ≡ self
        → map (update_in lsas) packets'
        ≡ map (update_in lsas) packets ++ sent_on (update_in lsas sent) (lsas_by lsas sent.lsas.items)
        → flood_in lsas packets' (set routers r after) (changed + 1) ≡ (delivered self p r).1
    state_on self packets' view told =
        ap (λ (rs : List Router). record { packets = map (update_in lsas) packets'; routers = rs; changed = changed + 1 })
        (map-set (router_in lsas) routers r after)
        ∙ state_told done self (map (update_in lsas) packets') view told

    -- no such router is not its answer, as there is one
    pub not_refused : (self : FloodState) (answer : Answer) (router_number : ℕ) → state ≡ self → r ≡ router_number
        → answer ≡ answer_of (length packets) (lsas_by lsas sent.lsas.items)
        → (answer ≡ answers.NoSuchRouter) ↔ ((p < length self.packets) × (length self.routers ≤ router_number))
    not_refused self answer router_number view told_as told = (
      λ is. absurd (never_refused (length packets) (lsas_by lsas sent.lsas.items) (sym told ∙ is)),
      λ both.
          absurd (omega (
            arith,
            both.1,
            r_there,
            told_as,
            length-map routers (router_in lsas),
            ap (λ (s : FloodState). length s.routers) view,
          )),
    )
