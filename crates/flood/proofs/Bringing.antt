-- What deliveries bring to a router, and what it sends on.
use Rattle.std.proofs.Common.{◌≡◌, ◌∙◌, ◌<◌, ◌≤◌, ◌+◌, ◌++◌, ◌==◌, ℕ, zero, suc, Bool, true, false, cond, List, [], ◌∷◌, Option, Some, None, length, replicate, set, slice_get, inl, inr, refl, sym, ap, subst, arith}
use Rattle.std.specs.List.{AllByRecursion}
use Rattle.std.specs.Option.{option_map_or}
use Rattle.std.proofs.lemmas.Bool.{eqb-true, eq-eqb}
use Rattle.std.proofs.lemmas.List.{length-append, append-nil}
use Rattle.std.proofs.lemmas.Option.{same_Some, slice_get_within}
use Rattle.mrt_graph.proofs.ListPlaces.{at_left, at_last, set_there, set_elsewhere}
use Rattle.mrt_graph.proofs.ListTests.{there as found_at}
use Rattle.mrt_graph.proofs.Members.{Has, all_append, all_from_has, all_has, filter_has, has_at, has_filter}
use Rattle.ospf_lsa.specs.declared.lsa.Lsa.{Lsa}
use Rattle.lsdb.specs.Installing.{IsKept}
use Rattle.flood.specs.declared.answer.Answer.{Answer}
use Rattle.flood.specs.declared.answer.Answer.TheVariants as answers
use Rattle.flood.specs.Routers.{Router}
use Rattle.flood.specs.declared.update.Update.{Update}
use Rattle.flood.specs.FloodState.{FloodState, started}
use Rattle.flood.specs.FloodStep.{answer_of, delivered, reached, sent_on}
use Rattle.ospf_lsa.specs.AreaLsas.{is_area_lsa}
use Rattle.flood.specs.Receiving.{after_all, news, topology, MayFlood}
use Rattle.flood.specs.Runs.{Delivery, after_deliveries, after_delivery, brought, brought_by, lsas_at, lsas_of, sent, sent_after, sent_in, WasDelivered}
use Rattle.flood.proofs.Covered.{has_left, has_right, has_either}
use Rattle.flood.proofs.InTurn.{after_append, news_append}
use Rattle.flood.proofs.OneDelivery.{all_filter, all_news, there}

-- ---- the step, case by case

no_packet : (state : FloodState) (p r : ℕ) → slice_get state.packets p ≡ None
    → delivered state p r ≡ (answers.NoSuchPacket, state)
no_packet state p r is =
    ap (λ (o : Option Update). option_map_or
    (λ (u : Update). option_map_or (reached state r u) (slice_get state.routers r) (answers.NoSuchRouter, state)) o
    (answers.NoSuchPacket, state)) is

no_router : (state : FloodState) (p r : ℕ) (update : Update) → slice_get state.packets p ≡ Some update
    → slice_get state.routers r ≡ None → delivered state p r ≡ (answers.NoSuchRouter, state)
no_router state p r update packet is =
    ap (λ (o : Option Update). option_map_or
    (λ (u : Update). option_map_or (reached state r u) (slice_get state.routers r) (answers.NoSuchRouter, state)) o
    (answers.NoSuchPacket, state)) packet
    ∙ ap (λ (o : Option Router). option_map_or (reached state r update) o (answers.NoSuchRouter, state)) is

at_packet : (state : FloodState) (p : ℕ) (update : Update) → slice_get state.packets p ≡ Some update
    → lsas_at state p ≡ update.lsas
at_packet state p update is = ap (λ (o : Option Update). option_map_or (λ (u : Update). u.lsas) o []) is

at_none : (state : FloodState) (p : ℕ) → slice_get state.packets p ≡ None → lsas_at state p ≡ []
at_none state p is = ap (λ (o : Option Update). option_map_or (λ (u : Update). u.lsas) o []) is

-- the packet that is sent on has what was new
sent_new : (packets : List Update) (routers : List Router) (changed : ℕ) (update : Update) (xs : List Lsa)
    → sent_in (record { packets = packets ++ sent_on update xs; routers = routers; changed = changed })
    (answer_of (length packets) xs) ≡ xs
sent_new packets routers changed update [] = refl
sent_new packets routers changed update (x ∷ xs) =
    ap (λ (o : Option Update). option_map_or (λ (u : Update). u.lsas) o [])
    (at_last packets (record update { lsas = x ∷ xs }))

-- ---- one delivery

-- what a router is after a delivery, and what it sends on
record IsAfter (state : FloodState) (delivery : Delivery) (r : ℕ) (router : Router) : Type 0 where
  router_is : slice_get (after_delivery state delivery).routers r
      ≡ Some (after_all router (brought_by state delivery r))
  sends : sent_after state delivery r ≡ news router (brought_by state delivery r)

if_nothing : {X : Type 0} (b : Bool) (xs : List X) → xs ≡ [] → cond b xs [] ≡ []
if_nothing true xs is = is
if_nothing false xs is = refl

nothing_by : (state : FloodState) (delivery : Delivery) (r : ℕ) (router : Router) (answer : Answer)
    → slice_get state.routers r ≡ Some router
    → delivered state delivery.packet delivery.router ≡ (answer, state) → sent_in state answer ≡ []
    → brought_by state delivery r ≡ [] → IsAfter state delivery r router
nothing_by state delivery r router answer at is quiet nothing = record {
  router_is = ap (λ (s : Answer × FloodState). slice_get s.1.routers r) is ∙ at
      ∙ ap (λ (xs : List Lsa). Some (after_all router xs)) (sym nothing);
  sends = if_nothing (delivery.router == r)
      (sent_in (after_delivery state delivery) (delivered state delivery.packet delivery.router).0)
      (ap (λ (s : Answer × FloodState). sent_in s.1 s.0) is ∙ quiet)
      ∙ ap (news router) (sym nothing);
}

to_it : (state : FloodState) (delivery : Delivery) (r : ℕ) (router : Router) (update : Update)
    → slice_get state.packets delivery.packet ≡ Some update → slice_get state.routers r ≡ Some router
    → (delivery.router == r) ≡ true → IsAfter state delivery r router
to_it state delivery r router update packet at same =
    let here : delivery.router ≡ r = eqb-true _ _ same in
    let at_own : slice_get state.routers delivery.router ≡ Some router = ap (slice_get state.routers) here ∙ at in
    let step : delivered state delivery.packet delivery.router ≡ reached state delivery.router update router =
    there state delivery.packet delivery.router update router packet at_own in
    let bring : brought_by state delivery r ≡ topology update.lsas =
    ap (λ (b : Bool). cond b (topology (lsas_at state delivery.packet)) []) same
    ∙ ap topology (at_packet state delivery.packet update packet) in
    record {
      router_is = ap (λ (s : Answer × FloodState). slice_get s.1.routers r) step
          ∙ ap (slice_get (set state.routers delivery.router (after_all router (topology update.lsas)))) (sym here)
          ∙ set_there state.routers delivery.router (after_all router (topology update.lsas))
          (slice_get_within state.routers delivery.router router at_own)
          ∙ ap (λ (xs : List Lsa). Some (after_all router xs)) (sym bring);
      sends = ap (λ (b : Bool). cond b
          (sent_in (after_delivery state delivery) (delivered state delivery.packet delivery.router).0) []) same
          ∙ ap (λ (s : Answer × FloodState). sent_in s.1 s.0) step
          ∙ sent_new state.packets (set state.routers delivery.router (after_all router (topology update.lsas)))
          (state.changed + 1) update (news router (topology update.lsas))
          ∙ ap (news router) (sym bring);
    }

differ : (a b : ℕ) → (a == b) ≡ false → b ≡ a → ⊥
differ a b other same = let told : (a == b) ≡ true = eq-eqb a b (sym same) in cc

elsewhere_at : (state : FloodState) (delivery : Delivery) (r : ℕ) (update : Update) (o : Option Router)
    → slice_get state.packets delivery.packet ≡ Some update → slice_get state.routers delivery.router ≡ o
    → (delivery.router == r) ≡ false
    → slice_get (after_delivery state delivery).routers r ≡ slice_get state.routers r
elsewhere_at state delivery r update None packet at other =
    ap (λ (s : Answer × FloodState). slice_get s.1.routers r)
    (no_router state delivery.packet delivery.router update packet at)
elsewhere_at state delivery r update (Some router) packet at other =
    ap (λ (s : Answer × FloodState). slice_get s.1.routers r)
    (there state delivery.packet delivery.router update router packet at)
    ∙ set_elsewhere state.routers delivery.router r (after_all router (topology update.lsas))
    (differ delivery.router r other)

to_another : (state : FloodState) (delivery : Delivery) (r : ℕ) (router : Router) (update : Update)
    → slice_get state.packets delivery.packet ≡ Some update → slice_get state.routers r ≡ Some router
    → (delivery.router == r) ≡ false → IsAfter state delivery r router
to_another state delivery r router update packet at other =
    let nothing : brought_by state delivery r ≡ [] =
    ap (λ (b : Bool). cond b (topology (lsas_at state delivery.packet)) []) other in
    record {
      router_is = elsewhere_at state delivery r update (slice_get state.routers delivery.router) packet refl other ∙ at
          ∙ ap (λ (xs : List Lsa). Some (after_all router xs)) (sym nothing);
      sends = ap (λ (b : Bool). cond b
          (sent_in (after_delivery state delivery) (delivered state delivery.packet delivery.router).0) []) other
          ∙ ap (news router) (sym nothing);
    }

with_packet : (b : Bool) (state : FloodState) (delivery : Delivery) (r : ℕ) (router : Router) (update : Update)
    → (delivery.router == r) ≡ b → slice_get state.packets delivery.packet ≡ Some update
    → slice_get state.routers r ≡ Some router → IsAfter state delivery r router
with_packet true state delivery r router update same packet at = to_it state delivery r router update packet at same
with_packet false state delivery r router update other packet at =
    to_another state delivery r router update packet at other

after_by : (o : Option Update) (state : FloodState) (delivery : Delivery) (r : ℕ) (router : Router)
    → slice_get state.packets delivery.packet ≡ o → slice_get state.routers r ≡ Some router
    → IsAfter state delivery r router
after_by None state delivery r router packet at =
    nothing_by state delivery r router answers.NoSuchPacket at
    (no_packet state delivery.packet delivery.router packet) refl
    (if_nothing (delivery.router == r) (topology (lsas_at state delivery.packet))
    (ap topology (at_none state delivery.packet packet)))
after_by (Some update) state delivery r router packet at =
    with_packet (delivery.router == r) state delivery r router update refl packet at

-- ---- many

-- what a router is after deliveries, and what it sends on
pub record AreAfter (state : FloodState) (deliveries : List Delivery) (r : ℕ) (router : Router) : Type 0 where
  pub router_is : slice_get (after_deliveries state deliveries).routers r
      ≡ Some (after_all router (brought state deliveries r))
  pub sends : sent state deliveries r ≡ news router (brought state deliveries r)

pub after_run : (state : FloodState) (deliveries : List Delivery) (r : ℕ) (router : Router)
    → slice_get state.routers r ≡ Some router → AreAfter state deliveries r router
after_run state [] r router at = record { router_is = at; sends = refl }
after_run state (delivery ∷ deliveries) r router at =
    let one = after_by (slice_get state.packets delivery.packet) state delivery r router refl at in
    let first : List Lsa = brought_by state delivery r in
    let rest : List Lsa = brought (after_delivery state delivery) deliveries r in
    let later = after_run (after_delivery state delivery) deliveries r (after_all router first) one.router_is in
    record {
      router_is = later.router_is ∙ ap (λ (t : Router). Some t) (sym (after_append router first rest));
      sends = ap (λ (xs : List Lsa). xs ++ sent (after_delivery state delivery) deliveries r) one.sends
          ∙ ap (λ (xs : List Lsa). news router first ++ xs) later.sends
          ∙ sym (news_append router first rest);
    }

pub router_at_start : {X : Type 0} (count r : ℕ) (x : X) → r < count → slice_get (replicate count x) r ≡ Some x
router_at_start zero r x lt = absurd (omega (arith, lt))
router_at_start (suc count) zero x lt = refl
router_at_start (suc count) (suc r) x lt = router_at_start count r x (omega (arith, lt))

-- ---- packets stay

record IsGrown (old new : List Update) : Type 0 where
  more : List Update
  is : new ≡ old ++ more

grown_by : (o : Option Update) (o' : Option Router) (state : FloodState) (delivery : Delivery)
    → slice_get state.packets delivery.packet ≡ o → slice_get state.routers delivery.router ≡ o'
    → IsGrown state.packets (after_delivery state delivery).packets
grown_by None o' state delivery packet at = record {
  more = [];
  is = ap (λ (s : Answer × FloodState). s.1.packets) (no_packet state delivery.packet delivery.router packet)
      ∙ sym (append-nil state.packets);
}
grown_by (Some update) None state delivery packet at = record {
  more = [];
  is = ap (λ (s : Answer × FloodState). s.1.packets)
      (no_router state delivery.packet delivery.router update packet at)
      ∙ sym (append-nil state.packets);
}
grown_by (Some update) (Some router) state delivery packet at = record {
  more = sent_on update (news router (topology update.lsas));
  is = ap (λ (s : Answer × FloodState). s.1.packets)
      (there state delivery.packet delivery.router update router packet at);
}

grown : (state : FloodState) (delivery : Delivery) → IsGrown state.packets (after_delivery state delivery).packets
grown state delivery =
    grown_by (slice_get state.packets delivery.packet) (slice_get state.routers delivery.router) state delivery refl refl

pub no_fewer : (state : FloodState) (delivery : Delivery)
    → length state.packets ≤ length (after_delivery state delivery).packets
no_fewer state delivery =
    let more = grown state delivery in omega (arith, ap length more.is, length-append state.packets more.more)

pub stays : (state : FloodState) (deliveries : List Delivery) (p : ℕ) (update : Update)
    → slice_get state.packets p ≡ Some update → slice_get (after_deliveries state deliveries).packets p ≡ Some update
stays state [] p update is = is
stays state (delivery ∷ deliveries) p update is =
    let more = grown state delivery in
    stays (after_delivery state delivery) deliveries p update
    (ap (λ (us : List Update). slice_get us p) more.is ∙ at_left state.packets more.more p update is)

-- ---- what holds of each LSA of each packet

abbrev pub AllLsas : (Lsa → Type 0) → List Update → Type 0
AllLsas P updates = AllByRecursion (λ update. AllByRecursion P update.lsas) updates

sent_all : (P : Lsa → Type 0) (update : Update) (xs : List Lsa) → AllByRecursion P xs → AllLsas P (sent_on update xs)
sent_all P update [] all = tt
sent_all P update (x ∷ xs) all = (all, tt)

kept_by : (P : Lsa → Type 0) (o : Option Update) (o' : Option Router) (state : FloodState) (delivery : Delivery)
    → slice_get state.packets delivery.packet ≡ o → slice_get state.routers delivery.router ≡ o'
    → AllLsas P state.packets → AllLsas P (after_delivery state delivery).packets
kept_by P None o' state delivery packet at all =
    subst (AllLsas P) (sym (ap (λ (s : Answer × FloodState). s.1.packets)
    (no_packet state delivery.packet delivery.router packet))) all
kept_by P (Some update) None state delivery packet at all =
    subst (AllLsas P) (sym (ap (λ (s : Answer × FloodState). s.1.packets)
    (no_router state delivery.packet delivery.router update packet at))) all
kept_by P (Some update) (Some router) state delivery packet at all =
    let held : AllByRecursion P update.lsas =
    all_has (λ (u : Update). AllByRecursion P u.lsas) state.packets update all
    (has_at state.packets delivery.packet update packet) in
    subst (AllLsas P) (sym (ap (λ (s : Answer × FloodState). s.1.packets)
    (there state delivery.packet delivery.router update router packet at)))
    (all_append (λ (u : Update). AllByRecursion P u.lsas) state.packets
    (sent_on update (news router (topology update.lsas))) all
    (sent_all P update (news router (topology update.lsas))
    (all_news P router (topology update.lsas) (all_filter P is_area_lsa update.lsas held))))

all_kept : (P : Lsa → Type 0) (state : FloodState) (delivery : Delivery) → AllLsas P state.packets
    → AllLsas P (after_delivery state delivery).packets
all_kept P state delivery =
    kept_by P (slice_get state.packets delivery.packet) (slice_get state.routers delivery.router) state delivery refl
    refl

pub all_packets : (P : Lsa → Type 0) (state : FloodState) (deliveries : List Delivery) → AllLsas P state.packets
    → AllLsas P (after_deliveries state deliveries).packets
all_packets P state [] all = all
all_packets P state (delivery ∷ deliveries) all =
    all_packets P (after_delivery state delivery) deliveries (all_kept P state delivery all)

at_by : (P : Lsa → Type 0) (o : Option Update) (packets : List Update) (p : ℕ) → slice_get packets p ≡ o
    → AllLsas P packets → AllByRecursion P (option_map_or (λ (u : Update). u.lsas) o [])
at_by P None packets p is all = tt
at_by P (Some update) packets p is all =
    all_has (λ (u : Update). AllByRecursion P u.lsas) packets update all (has_at packets p update is)

if_all : (P : Lsa → Type 0) (b : Bool) (xs : List Lsa) → AllByRecursion P xs → AllByRecursion P (cond b xs [])
if_all P true xs all = all
if_all P false xs all = tt

pub all_brought : (P : Lsa → Type 0) (state : FloodState) (deliveries : List Delivery) (r : ℕ)
    → AllLsas P state.packets → AllByRecursion P (brought state deliveries r)
all_brought P state [] r all = tt
all_brought P state (delivery ∷ deliveries) r all =
    all_append P (brought_by state delivery r) (brought (after_delivery state delivery) deliveries r)
    (if_all P (delivery.router == r) (topology (lsas_at state delivery.packet))
    (all_filter P is_area_lsa (lsas_at state delivery.packet)
    (at_by P (slice_get state.packets delivery.packet) state.packets delivery.packet refl all)))
    (all_brought P (after_delivery state delivery) deliveries r (all_kept P state delivery all))

-- all of them are of types 1 and 2
topologies : (xs : List Lsa) → AllByRecursion (λ x. is_area_lsa x ≡ true) (topology xs)
topologies xs =
    all_from_has (λ (x : Lsa). is_area_lsa x ≡ true) (topology xs) (λ x has. (has_filter is_area_lsa xs x has).1)

pub brought_are_topology : (state : FloodState) (deliveries : List Delivery) (r : ℕ)
    → AllByRecursion (λ x. is_area_lsa x ≡ true) (brought state deliveries r)
brought_are_topology state [] r = tt
brought_are_topology state (delivery ∷ deliveries) r =
    all_append (λ (x : Lsa). is_area_lsa x ≡ true) (brought_by state delivery r)
    (brought (after_delivery state delivery) deliveries r)
    (if_all (λ (x : Lsa). is_area_lsa x ≡ true) (delivery.router == r) (topology (lsas_at state delivery.packet))
    (topologies (lsas_at state delivery.packet)))
    (brought_are_topology (after_delivery state delivery) deliveries r)

-- ---- the LSAs of the file

of_packet : (updates : List Update) (update : Update) (x : Lsa) → Has updates update → Has update.lsas x
    → Has (lsas_of updates) x
of_packet [] update x among has = absurd among
of_packet (first ∷ updates) update x (inl same) has =
    has_left first.lsas (lsas_of updates) x (subst (λ (u : Update). Has u.lsas x) (sym same) has)
of_packet (first ∷ updates) update x (inr later) has =
    has_right first.lsas (lsas_of updates) x (of_packet updates update x later has)

pub all_of_file : (updates : List Update) → AllLsas (Has (lsas_of updates)) updates
all_of_file updates =
    all_from_has (λ (u : Update). AllByRecursion (Has (lsas_of updates)) u.lsas) updates
    (λ u among. all_from_has (Has (lsas_of updates)) u.lsas (λ x has. of_packet updates u x among has))

-- the packet of an LSA of the file
pub record IsIn (updates : List Update) (x : Lsa) : Type 0 where
  pub packet : ℕ
  pub update : Update
  pub at : slice_get updates packet ≡ Some update
  pub has : Has update.lsas x

pub packet_of : (updates : List Update) (x : Lsa) → Has (lsas_of updates) x → IsIn updates x
packet_of [] x has = absurd has
packet_of (first ∷ updates) x has = elim (has_either first.lsas (lsas_of updates) x has) [
  | inl here ↦ record { packet = 0; update = first; at = refl; has = here }
  | inr later ↦
      let found = packet_of updates x later in
      record { packet = suc found.packet; update = found.update; at = found.at; has = found.has }
]

kept_in : (updates : List Update) (x : Lsa) → AllByRecursion MayFlood updates → Has (lsas_of updates) x
    → is_area_lsa x ≡ true → IsKept x
kept_in updates x may has is =
    let found = packet_of updates x has in
    all_has IsKept (topology found.update.lsas) x
    (all_has MayFlood updates found.update may (has_at updates found.packet found.update found.at)).kept
    (filter_has is_area_lsa found.update.lsas x found.has is)

pub kept_topology : (updates : List Update) → AllByRecursion MayFlood updates
    → AllByRecursion IsKept (topology (lsas_of updates))
kept_topology updates may =
    all_from_has IsKept (topology (lsas_of updates)) (λ x has.
    let of_file = has_filter is_area_lsa (lsas_of updates) x has in
    kept_in updates x may of_file.0 of_file.1)

pub brought_of_file : (updates : List Update) (count : ℕ) (deliveries : List Delivery) (r : ℕ) (x : Lsa)
    → Has (brought (started updates count) deliveries r) x → Has (topology (lsas_of updates)) x
brought_of_file updates count deliveries r x has =
    filter_has is_area_lsa (lsas_of updates) x
    (all_has (Has (lsas_of updates)) (brought (started updates count) deliveries r) x
    (all_brought (Has (lsas_of updates)) (started updates count) deliveries r (all_of_file updates)) has)
    (all_has (λ (l : Lsa). is_area_lsa l ≡ true) (brought (started updates count) deliveries r) x
    (brought_are_topology (started updates count) deliveries r) has)

-- ---- what was delivered came

if_true : {X : Type 0} (a b : ℕ) (xs : List X) → a ≡ b → cond (a == b) xs [] ≡ xs
if_true {X = X} a b xs same = ap (λ (t : Bool). cond t xs []) (eq-eqb a b same)

pub came : (state : FloodState) (deliveries : List Delivery) (p r : ℕ) (update : Update) (x : Lsa)
    → WasDelivered state deliveries p r → slice_get (after_deliveries state deliveries).packets p ≡ Some update
    → Has update.lsas x → is_area_lsa x ≡ true → Has (brought state deliveries r) x
came state [] p r update x was at has is = absurd was
came state (delivery ∷ deliveries) p r update x (inl here) at has is =
    let found = found_at state.packets p here.2 in
    let same : found.0 ≡ update = same_Some found.0 update
    (sym (stays state (delivery ∷ deliveries) p found.0 found.1) ∙ at) in
    let lsas : lsas_at state delivery.packet ≡ update.lsas =
    ap (lsas_at state) here.0 ∙ at_packet state p found.0 found.1 ∙ ap (λ (u : Update). u.lsas) same in
    has_left (brought_by state delivery r) (brought (after_delivery state delivery) deliveries r) x
    (subst (λ (xs : List Lsa). Has xs x)
    (sym (if_true delivery.router r (topology (lsas_at state delivery.packet)) here.1 ∙ ap topology lsas))
    (filter_has is_area_lsa update.lsas x has is))
came state (delivery ∷ deliveries) p r update x (inr later) at has is =
    has_right (brought_by state delivery r) (brought (after_delivery state delivery) deliveries r) x
    (came (after_delivery state delivery) deliveries p r update x later at has is)

-- ---- what is sent on is a packet after those of the file

pub record IsSentIn (before : ℕ) (packets : List Update) (x : Lsa) : Type 0 where
  pub packet : ℕ
  pub update : Update
  pub new : before ≤ packet
  pub at : slice_get packets packet ≡ Some update
  pub has : Has update.lsas x

sent_at : (packets : List Update) (routers : List Router) (changed : ℕ) (update : Update) (xs : List Lsa) (x : Lsa)
    → Has xs x → IsSentIn (length packets) (packets ++ sent_on update xs) x
sent_at packets routers changed update [] x has = absurd has
sent_at packets routers changed update (y ∷ ys) x has = record {
  packet = length packets;
  update = record update { lsas = y ∷ ys };
  new = omega arith;
  at = at_last packets (record update { lsas = y ∷ ys });
  has = has;
}

if_has : (b : Bool) (xs : List Lsa) (x : Lsa) → Has (cond b xs []) x → Has xs x
if_has true xs x has = has
if_has false xs x has = absurd has

sent_one_by : (o : Option Update) (o' : Option Router) (state : FloodState) (delivery : Delivery) (x : Lsa)
    → slice_get state.packets delivery.packet ≡ o → slice_get state.routers delivery.router ≡ o'
    → Has (sent_in (after_delivery state delivery) (delivered state delivery.packet delivery.router).0) x
    → IsSentIn (length state.packets) (after_delivery state delivery).packets x
sent_one_by None o' state delivery x packet at has =
    absurd (subst (λ (s : Answer × FloodState). Has (sent_in s.1 s.0) x)
    (no_packet state delivery.packet delivery.router packet) has)
sent_one_by (Some update) None state delivery x packet at has =
    absurd (subst (λ (s : Answer × FloodState). Has (sent_in s.1 s.0) x)
    (no_router state delivery.packet delivery.router update packet at) has)
sent_one_by (Some update) (Some router) state delivery x packet at has =
    let step = there state delivery.packet delivery.router update router packet at in
    let routers : List Router = set state.routers delivery.router (after_all router (topology update.lsas)) in
    let fresh : Has (news router (topology update.lsas)) x =
    subst (λ (xs : List Lsa). Has xs x)
    (sent_new state.packets routers (state.changed + 1) update (news router (topology update.lsas)))
    (subst (λ (s : Answer × FloodState). Has (sent_in s.1 s.0) x) step has) in
    subst (λ (us : List Update). IsSentIn (length state.packets) us x)
    (sym (ap (λ (s : Answer × FloodState). s.1.packets) step))
    (sent_at state.packets routers (state.changed + 1) update (news router (topology update.lsas)) x fresh)

pub sent_found : (state : FloodState) (deliveries : List Delivery) (r : ℕ) (x : Lsa) → Has (sent state deliveries r) x
    → IsSentIn (length state.packets) (after_deliveries state deliveries).packets x
sent_found state [] r x has = absurd has
sent_found state (delivery ∷ deliveries) r x has =
    elim (has_either (sent_after state delivery r) (sent (after_delivery state delivery) deliveries r) x has) [
      | inl here ↦
          let one = sent_one_by (slice_get state.packets delivery.packet) (slice_get state.routers delivery.router) state
          delivery x refl refl
          (if_has (delivery.router == r)
          (sent_in (after_delivery state delivery) (delivered state delivery.packet delivery.router).0) x here) in
          record {
            packet = one.packet;
            update = one.update;
            new = one.new;
            at = stays (after_delivery state delivery) deliveries one.packet one.update one.at;
            has = one.has;
          }
      | inr later ↦
          let one = sent_found (after_delivery state delivery) deliveries r x later in
          record {
            packet = one.packet;
            update = one.update;
            new = omega (arith, one.new, no_fewer state delivery);
            at = one.at;
            has = one.has;
          }
    ]
