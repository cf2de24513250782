-- One delivery.
use Rattle.std.proofs.Common.{◌≡◌, ◌∙◌, ◌<◌, ◌≤◌, ◌+◌, ◌++◌, ℕ, zero, suc, Bool, true, false, cond, List, [], ◌∷◌, Option, Some, length, set, slice_get, get_or, refl, sym, ap, subst, arith}
use Rattle.std.specs.List.{AllByRecursion, filter}
use Rattle.std.specs.Option.{option_map_or}
use Rattle.std.proofs.lemmas.List.{length-append}
use Rattle.std.proofs.lemmas.Option.{slice_get_read}
use Rattle.mrt_graph.proofs.Members.{all_append, all_has, all_weaker, has_at}
use Rattle.ospf_lsa.specs.declared.lsa.Lsa.{Lsa}
use Rattle.lsdb.specs.Installing.{IsBehind, IsKept}
use Rattle.flood.specs.declared.answer.Answer.{Answer}
use Rattle.flood.specs.declared.answer.Answer.TheVariants as answers
use Rattle.flood.specs.Routers.{Router}
use Rattle.flood.specs.declared.update.Update.{Update}
use Rattle.flood.specs.FloodState.{FloodState}
use Rattle.flood.specs.steps.FloodState.{IsFlood, IsRouter}
use Rattle.flood.specs.FloodStep.{answer_of, delivered, reached, sent_on}
use Rattle.ospf_lsa.specs.AreaLsas.{is_area_lsa}
use Rattle.flood.specs.Receiving.{after_all, after_one, is_news, news, topology, MayFlood}

-- ---- lists

pub all_set : {X : Type 0} (P : X → Type 0) (xs : List X) (i : ℕ) (y : X) → AllByRecursion P xs → P y
    → AllByRecursion P (set xs i y)
all_set P [] i y all is = tt
all_set P (x ∷ xs) zero y all is = (is, all.1)
all_set P (x ∷ xs) (suc i) y all is = (all.0, all_set P xs i y all.1 is)

all_by : {X : Type 0} (b : Bool) (P : X → Type 0) (x : X) (rest : List X) → P x → AllByRecursion P rest
    → AllByRecursion P (cond b (x ∷ rest) rest)
all_by true P x rest is all = (is, all)
all_by false P x rest is all = all

pub all_filter : {X : Type 0} (P : X → Type 0) (p : X → Bool) (xs : List X) → AllByRecursion P xs
    → AllByRecursion P (filter p xs)
all_filter P p [] all = tt
all_filter P p (x ∷ xs) all = all_by (p x) P x (filter p xs) all.0 (all_filter P p xs all.1)

pub all_news : (P : Lsa → Type 0) (router : Router) (xs : List Lsa) → AllByRecursion P xs
    → AllByRecursion P (news router xs)
all_news P router [] all = tt
all_news P router (x ∷ xs) all =
    all_by (is_news router x) P x (news (after_one router x) xs) all.0 (all_news P (after_one router x) xs all.1)

few_by : {X : Type 0} (b : Bool) (x : X) (rest : List X) (n : ℕ) → length rest ≤ n
    → length (cond b (x ∷ rest) rest) ≤ suc n
few_by true x rest n few = omega (arith, few)
few_by false x rest n few = omega (arith, few)

pub few_topology : (xs : List Lsa) → length (topology xs) ≤ length xs
few_topology [] = omega arith
few_topology (x ∷ xs) = few_by (is_area_lsa x) x (topology xs) (length xs) (few_topology xs)

pub few_news : (router : Router) (xs : List Lsa) → length (news router xs) ≤ length xs
few_news router [] = omega arith
few_news router (x ∷ xs) =
    few_by (is_news router x) x (news (after_one router x) xs) (length xs) (few_news (after_one router x) xs)

-- ---- the router

behind_all : (router : Router) (xs : List Lsa) → IsBehind router.database.greatest router.arrivals
    → IsBehind (after_all router xs).database.greatest (after_all router xs).arrivals
behind_all router [] behind = behind
behind_all router (x ∷ xs) behind = behind_all (after_one router x) xs (omega arith)

pub arrivals_all : (router : Router) (xs : List Lsa) → (after_all router xs).arrivals ≡ router.arrivals + length xs
arrivals_all router [] = omega arith
arrivals_all router (x ∷ xs) = omega (arith, arrivals_all (after_one router x) xs)

-- ---- the step

-- where there are such a packet and such a router
pub there : (state : FloodState) (p r : ℕ) (update : Update) (router : Router) → slice_get state.packets p ≡ Some update
    → slice_get state.routers r ≡ Some router → delivered state p r ≡ reached state r update router
there state p r update router packet at =
    ap (λ (o : Option Update). option_map_or
    (λ (u : Update). option_map_or (reached state r u) (slice_get state.routers r) (answers.NoSuchRouter, state)) o
    (answers.NoSuchPacket, state)) packet
    ∙ ap (λ (o : Option Router). option_map_or (reached state r update) o (answers.NoSuchRouter, state)) at

same_sent : (update : Update) (xs : List Lsa) → sent_on (record update { lsas = xs }) xs ≡ sent_on update xs
same_sent update [] = refl
same_sent update (x ∷ xs) = refl

-- what the parts of a delivery gave: the packet and the one of its new LSAs, the router before and after it, and these LSAs
pub record IsDone (state : FloodState) (p r : ℕ) (update sent : Update) (router after : Router) (new : List Lsa)
    : Type 0 where
  pub packet : slice_get state.packets p ≡ Some update
  pub at : slice_get state.routers r ≡ Some router
  pub new_are : new ≡ news router (topology update.lsas)
  pub after_is : after ≡ after_all router (topology update.lsas)
  pub sent_is : sent ≡ record update { lsas = new }

-- it is so where the packet and the router are there and the router received the packet's LSAs
pub done_of : (state : FloodState) (p r : ℕ) (update sent : Update) (router after : Router) (lsas new : List Lsa)
    → p < length state.packets → r < length state.routers
    → update ≡ get_or state.packets p update → router ≡ get_or state.routers r router
    → lsas ≡ update.lsas → new ≡ news router (topology lsas) → after ≡ after_all router (topology lsas)
    → sent ≡ record update { lsas = new } → IsDone state p r update sent router after new
done_of state p r update sent router after lsas new packet_there router_there packet at lsas_are new_are after_is sent_is =
    record {
      packet = slice_get_read state.packets (length state.packets) p update refl packet_there packet;
      at = slice_get_read state.routers (length state.routers) r router refl router_there at;
      new_are = new_are ∙ ap (λ (ls : List Lsa). news router (topology ls)) lsas_are;
      after_is = after_is ∙ ap (λ (ls : List Lsa). after_all router (topology ls)) lsas_are;
      sent_is = sent_is;
    }

all_sent : (sent : Update) (xs : List Lsa) → sent.lsas ≡ xs → MayFlood sent → AllByRecursion MayFlood (sent_on sent xs)
all_sent sent [] is may = tt
all_sent sent (x ∷ xs) is may =
    (subst (λ (ls : List Lsa). MayFlood (record sent { lsas = ls })) is may, tt)

one_sent : (sent : Update) (xs : List Lsa) → length (sent_on sent xs) ≤ 1
one_sent sent [] = omega arith
one_sent sent (x ∷ xs) = omega arith

router_fits : (changed : ℕ) (router : Router) (xs : List Lsa) → IsRouter changed router → length xs ≤ 65535
    → IsRouter (changed + 1) (after_all router xs)
router_fits changed router xs is few = record {
  behind = behind_all router xs is.behind;
  few = omega (arith, arrivals_all router xs, is.few, few);
}

module _ {state : FloodState} {p r : ℕ} {update sent : Update} {router after : Router} {new : List Lsa}
    (done : IsDone state p r update sent router after new) where
  pub answer_told : (self : FloodState) (answer : Answer) → state ≡ self
      → answer ≡ answer_of (length state.packets) sent.lsas → answer ≡ (delivered self p r).0
  answer_told self answer view told =
      told ∙ ap (λ (u : Update). answer_of (length state.packets) u.lsas) done.sent_is
      ∙ ap (answer_of (length state.packets)) done.new_are
      ∙ sym (ap (λ (s : Answer × FloodState). s.0) (there state p r update router done.packet done.at))
      ∙ ap (λ (s : FloodState). (delivered s p r).0) view

  pub state_told : (self : FloodState) (packets : List Update) → state ≡ self
      → packets ≡ state.packets ++ sent_on sent sent.lsas
      → record { packets = packets; routers = set state.routers r after; changed = state.changed + 1 }
      ≡ (delivered self p r).1
  state_told self packets view told =
      let make : List Update → Router → FloodState = λ ps there. record
      { packets = ps; routers = set state.routers r there; changed = state.changed + 1 } in
      let sent_same : sent_on sent sent.lsas ≡ sent_on update (news router (topology update.lsas)) =
      ap (λ (u : Update). sent_on u u.lsas) done.sent_is ∙ same_sent update new
      ∙ ap (sent_on update) done.new_are in
      ap (λ (ps : List Update). make ps after)
      (told ∙ ap (λ (us : List Update). state.packets ++ us) sent_same)
      ∙ ap (λ (t : Router).
      make (state.packets ++ sent_on update (news router (topology update.lsas))) t) done.after_is
      ∙ sym (ap (λ (s : Answer × FloodState). s.1) (there state p r update router done.packet done.at))
      ∙ ap (λ (s : FloodState). (delivered s p r).1) view

  may_flood_here : IsFlood state → MayFlood update
  may_flood_here is =
      all_has MayFlood state.packets update is.packets (has_at state.packets p update done.packet)

  pub few_sent : IsFlood state → length sent.lsas ≤ 65535
  few_sent is =
      omega (
        arith,
        ap (λ (u : Update). length u.lsas) done.sent_is,
        ap length done.new_are,
        few_news router (topology update.lsas),
        few_topology update.lsas,
        (may_flood_here is).few,
      )

  sent_may_flood : IsFlood state → MayFlood sent
  sent_may_flood is = record {
    few = few_sent is;
    kept = subst (λ (u : Update). AllByRecursion IsKept (topology u.lsas)) (sym done.sent_is)
        (subst (λ (ls : List Lsa). AllByRecursion IsKept (topology ls)) (sym done.new_are)
        (all_filter IsKept is_area_lsa (news router (topology update.lsas))
        (all_news IsKept router (topology update.lsas) (may_flood_here is).kept)));
  }

  pub flood_kept : (self : FloodState) (packets : List Update) → state ≡ self → self.changed < 65535 → IsFlood state
      → packets ≡ state.packets ++ sent_on sent sent.lsas
      → IsFlood (record { packets = packets; routers = set state.routers r after; changed = state.changed + 1 })
  flood_kept self packets view room is told = record {
    few_packets = omega (
      arith,
      ap length told,
      length-append state.packets (sent_on sent sent.lsas),
      one_sent sent sent.lsas,
      is.few_packets,
    );
    few_deliveries = omega (arith, room, ap (λ (s : FloodState). s.changed) view);
    packets = subst (AllByRecursion MayFlood) (sym told)
        (all_append MayFlood state.packets (sent_on sent sent.lsas) is.packets
        (all_sent sent sent.lsas refl (sent_may_flood is)));
    routers = all_set (IsRouter (state.changed + 1)) state.routers r after
        (all_weaker (IsRouter state.changed) (IsRouter (state.changed + 1))
        (λ x fits. record { behind = fits.behind; few = omega (arith, fits.few) }) state.routers is.routers)
        (subst (IsRouter (state.changed + 1)) (sym done.after_is)
        (router_fits state.changed router (topology update.lsas)
        (all_has (IsRouter state.changed) state.routers router is.routers
        (has_at state.routers r router done.at))
        (omega (arith, few_topology update.lsas, (may_flood_here is).few))));
  }
