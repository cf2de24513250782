use Rattle.std.proofs.Common.{◌≡◌, ◌<◌, ◌≤◌, ◌+◌, ◌∙◌, ℕ, List, [], ◌∷◌, Option, length, slice_get, refl, sym, ap, set, subst, arith}
use Rattle.std.specs.Option.{option_map_or}
use Rattle.std.proofs.lemmas.List.{length-map}
use Rattle.std.proofs.lemmas.Option.{slice_get_past}
use Rattle.mrt_graph.proofs.ListTests.{there}
use Rattle.ospf_lsa.specs.declared.lsa.Lsa.{Lsa}
use Rattle.flood.specs.declared.answer.Answer.{Answer}
use Rattle.flood.specs.declared.answer.Answer.TheVariants as answers
use Rattle.flood.specs.declared.numbered_update.NumberedUpdate.{NumberedUpdate}
use Rattle.flood.specs.declared.receiver.Receiver.{Receiver}
use Rattle.flood.specs.declared.update.Update.{Update}
use Rattle.flood.specs.FloodState.{FloodState}
use Rattle.flood.specs.Routers.{Router}
use Rattle.flood.specs.FloodStep.{answer_of, delivered, reached}
use Rattle.flood.specs.steps.Numbers.{flood_in, router_in, update_in}
use Rattle.flood.proofs.NumberedDelivery.{HasReceived, answer_on, deliverable, few_new, flood_on, not_refused, received_of, sent_of_new, state_on}
use Rattle.flood.proofs.flood.Flood.deliver.Goals.{In_ok-news, Then-as_slice-from, Then-as_slice-packet}
use Rattle.flood.proofs.flood.Flood.deliver.Goals as goal

-- where there is no such packet, or no such router
no_packet : (state : FloodState) (p r : ℕ) → length state.packets ≤ p → delivered state p r ≡ (answers.NoSuchPacket, state)
no_packet state p r past =
    ap (λ (o : Option Update). option_map_or
    (λ (u : Update). option_map_or (reached state r u) (slice_get state.routers r) (answers.NoSuchRouter, state)) o
    (answers.NoSuchPacket, state)) (slice_get_past state.packets p past)

no_router : (state : FloodState) (p r : ℕ) → p < length state.packets → length state.routers ≤ r → delivered state p r ≡ (answers.NoSuchRouter, state)
no_router state p r within past =
    let at = there state.packets p within in
    ap (λ (o : Option Update). option_map_or
    (λ (u : Update). option_map_or (reached state r u) (slice_get state.routers r) (answers.NoSuchRouter, state)) o
    (answers.NoSuchPacket, state)) at.1
    ∙ ap (λ (o : Option Router). option_map_or (reached state r at.0) o (answers.NoSuchRouter, state)) (slice_get_past state.routers r past)

other_refusal : answers.NoSuchPacket ≡ answers.NoSuchRouter → ⊥
other_refusal is = cc

packet_unchanged : (count : ℕ) (sent : Option ℕ) → answers.NoSuchPacket ≡ answers.Changed count sent → ⊥
packet_unchanged count sent is = cc

router_unchanged : (count : ℕ) (sent : Option ℕ) → answers.NoSuchRouter ≡ answers.Changed count sent → ⊥
router_unchanged count sent is = cc

has_packet : (number : ℕ) (new : List Lsa) → answer_of number new ≡ answers.NoSuchPacket → ⊥
has_packet number [] is = absurd cc
has_packet number (x ∷ new) is = absurd cc

many_packets : (lsas : List Lsa) (packets : List NumberedUpdate) (routers : List Receiver) (changed : ℕ) (self : FloodState) → flood_in lsas packets routers changed ≡ self
    → length self.packets ≡ length packets
many_packets lsas packets routers changed self view = omega (arith, ap (λ (f : FloodState). length f.packets) view, length-map packets (update_in lsas))

many_routers : (lsas : List Lsa) (packets : List NumberedUpdate) (routers : List Receiver) (changed : ℕ) (self : FloodState) → flood_in lsas packets routers changed ≡ self
    → length self.routers ≡ length routers
many_routers lsas packets routers changed self view = omega (arith, ap (λ (f : FloodState). length f.routers) view, length-map routers (router_in lsas))

past_packet : (c : Then-as_slice-packet) → length c.args.self.packets ≤ c.args.packet
past_packet c =
    omega (arith, many_packets c.self.inside.lsas.items c.self.inside.packets.items c.self.inside.routers.items c.self.inside.changed c.args.self c.self.view_is, c.if-as_slice-packet.true, ap length c.as_slice.ensures.value)

pub returns-then-as_slice-packet-clause-answer : goal.returns-then-as_slice-packet-clause-answer
returns-then-as_slice-packet-clause-answer c =
    sym (ap (λ (x : Answer × FloodState). x.0) (no_packet c.args.self c.args.packet c.args.router (past_packet (goal.at.returns-then-as_slice-packet-clause-answer c).Then-as_slice-packet)))

pub returns-then-as_slice-packet-clause-state : goal.returns-then-as_slice-packet-clause-state
returns-then-as_slice-packet-clause-state c =
    sym (ap (λ (x : Answer × FloodState). x.1) (no_packet c.args.self c.args.packet c.args.router (past_packet (goal.at.returns-then-as_slice-packet-clause-state c).Then-as_slice-packet)))

pub returns-then-as_slice-packet-clause-no_packet : goal.returns-then-as_slice-packet-clause-no_packet
returns-then-as_slice-packet-clause-no_packet c = (
  λ is. past_packet (goal.at.returns-then-as_slice-packet-clause-no_packet c).Then-as_slice-packet,
  λ past. refl,
)

pub returns-then-as_slice-packet-clause-no_router : goal.returns-then-as_slice-packet-clause-no_router
returns-then-as_slice-packet-clause-no_router c =
    let past = past_packet (goal.at.returns-then-as_slice-packet-clause-no_router c).Then-as_slice-packet in
    ((λ is. absurd (other_refusal is)), (λ both. absurd (omega (arith, both.0, past))))

pub returns-then-as_slice-packet-clause-sent : goal.returns-then-as_slice-packet-clause-sent
returns-then-as_slice-packet-clause-sent c = λ count sent is. absurd (packet_unchanged count sent is)

past_router : (c : Then-as_slice-from) → (c.args.packet < length c.args.self.packets) × (length c.args.self.routers ≤ c.args.router)
past_router c = (
  omega (arith, many_packets c.self.inside.lsas.items c.self.inside.packets.items c.self.inside.routers.items c.self.inside.changed c.args.self c.self.view_is, c.if-as_slice-packet.false, ap length c.as_slice.ensures.value),
  omega (arith, many_routers c.self.inside.lsas.items c.self.inside.packets.items c.self.inside.routers.items c.self.inside.changed c.args.self c.self.view_is, c.if-as_slice-from.true, ap length c.as_slice-2.ensures.value, c.from.ensures),
)

pub returns-then-as_slice-from-clause-answer : goal.returns-then-as_slice-from-clause-answer
returns-then-as_slice-from-clause-answer c =
    let past = past_router (goal.at.returns-then-as_slice-from-clause-answer c).Then-as_slice-from in
    sym (ap (λ (x : Answer × FloodState). x.0) (no_router c.args.self c.args.packet c.args.router past.0 past.1))

pub returns-then-as_slice-from-clause-state : goal.returns-then-as_slice-from-clause-state
returns-then-as_slice-from-clause-state c =
    let past = past_router (goal.at.returns-then-as_slice-from-clause-state c).Then-as_slice-from in
    sym (ap (λ (x : Answer × FloodState). x.1) (no_router c.args.self c.args.packet c.args.router past.0 past.1))

pub returns-then-as_slice-from-clause-no_packet : goal.returns-then-as_slice-from-clause-no_packet
returns-then-as_slice-from-clause-no_packet c =
    let past = past_router (goal.at.returns-then-as_slice-from-clause-no_packet c).Then-as_slice-from in
    ((λ is. absurd (other_refusal (sym is))), (λ gone. absurd (omega (arith, gone, past.0))))

pub returns-then-as_slice-from-clause-no_router : goal.returns-then-as_slice-from-clause-no_router
returns-then-as_slice-from-clause-no_router c = ((λ is. past_router (goal.at.returns-then-as_slice-from-clause-no_router c).Then-as_slice-from), (λ both. refl))

pub returns-then-as_slice-from-clause-sent : goal.returns-then-as_slice-from-clause-sent
returns-then-as_slice-from-clause-sent c = λ count sent is. absurd (router_unchanged count sent is)

pub receive-requires : goal.receive-requires
receive-requires c =
    let it = deliverable c.self.inside.lsas.items c.self.inside.packets.items c.self.inside.routers.items c.self.inside.changed
    c.args.packet c.from-2.result c.index-update.result.now c.index_mut.result.now c.self.invariant
    (omega (arith, c.if-as_slice-packet.false, ap length c.as_slice.ensures.value))
    (omega (arith, c.if-as_slice-from.false, ap length c.as_slice-2.ensures.value, c.from.ensures, c.from-2.ensures))
    c.index-update.ensures c.index_mut.ensures.value c.as_slice-3.result.now c.as_slice-numbers.result.now
    c.as_slice-3.ensures.value c.as_slice-numbers.ensures.value in
    record { stored = it.stored; numbers = it.are_numbers; kept = it.kept; behind = it.behind; room = it.room }

-- what the router received
received_here : (c : In_ok-news) → HasReceived c.self.inside.lsas.items c.index-update.result.now.lsas.items
    c.index_mut.result.now c.receive.new.self c.in_ok-news.news.items
received_here c =
    received_of c.as_slice-3.result.now c.self.inside.lsas.items c.as_slice-numbers.result.now
    c.index-update.result.now.lsas.items c.index_mut.result.now c.receive.new.self c.in_ok-news.news.items
    c.as_slice-3.ensures.value c.as_slice-numbers.ensures.value (record {
      news_are = c.in_ok-news.ensures.news;
      new_ones = c.in_ok-news.ensures.numbers;
      after_is = c.in_ok-news.ensures.after;
      stored = c.in_ok-news.ensures.stored;
    })

pub send_on-requires-clause-few : goal.send_on-requires-clause-few
send_on-requires-clause-few c =
    let few = few_new c.self.inside.lsas.items c.self.inside.packets.items c.self.inside.routers.items c.self.inside.changed
    c.args.packet c.from-2.result c.index-update.result.now c.index_mut.result.now c.self.invariant
    (omega (arith, c.if-as_slice-packet.false, ap length c.as_slice.ensures.value))
    (omega (arith, c.if-as_slice-from.false, ap length c.as_slice-2.ensures.value, c.from.ensures, c.from-2.ensures))
    c.index-update.ensures c.index_mut.ensures.value c.with_lsas-sent.result c.receive.new.self c.in_ok-news.news.items
    (received_here (goal.at.send_on-requires-clause-few c).In_ok-news)
    (c.with_lsas-sent.ensures.packet c.self.inside.lsas.items) in
    omega (arith, few)

pub send_on-requires-clause-room : goal.send_on-requires-clause-room
send_on-requires-clause-room c =
    omega (arith, c.self.invariant.flood.few_packets, c.self.invariant.flood.few_deliveries, length-map c.self.inside.packets.items (update_in c.self.inside.lsas.items))

pub invariant_of-flood : goal.invariant_of-flood
invariant_of-flood c =
    flood_on c.self.inside.lsas.items c.self.inside.packets.items c.self.inside.routers.items c.self.inside.changed
    c.args.packet c.from-2.result c.index-update.result.now c.index_mut.result.now c.self.invariant
    (omega (arith, c.if-as_slice-packet.false, ap length c.as_slice.ensures.value))
    (omega (arith, c.if-as_slice-from.false, ap length c.as_slice-2.ensures.value, c.from.ensures, c.from-2.ensures))
    c.index-update.ensures c.index_mut.ensures.value c.with_lsas-sent.result c.receive.new.self c.in_ok-news.news.items
    (received_here (goal.at.invariant_of-flood c).In_ok-news) (c.with_lsas-sent.ensures.packet c.self.inside.lsas.items) c.args.self c.send_on.new.packets.items
    c.self.view_is c.requires (c.in_ok-answer.ensures.packets c.self.inside.lsas.items)
    (c.in_ok-answer.ensures.numbers c.self.inside.lsas.items) c.with_lsas-sent.ensures.lsas

pub returns-clause-answer : goal.returns-clause-answer
returns-clause-answer c =
    subst (λ (r : ℕ). c.in_ok-answer.answer ≡ (delivered c.args.self c.args.packet r).0) c.from-2.ensures
    (answer_on c.self.inside.lsas.items c.self.inside.packets.items c.self.inside.routers.items c.self.inside.changed
    c.args.packet c.from-2.result c.index-update.result.now c.index_mut.result.now c.self.invariant
    (omega (arith, c.if-as_slice-packet.false, ap length c.as_slice.ensures.value))
    (omega (arith, c.if-as_slice-from.false, ap length c.as_slice-2.ensures.value, c.from.ensures, c.from-2.ensures))
    c.index-update.ensures c.index_mut.ensures.value c.with_lsas-sent.result c.receive.new.self c.in_ok-news.news.items
    (received_here (goal.at.returns-clause-answer c).In_ok-news) (c.with_lsas-sent.ensures.packet c.self.inside.lsas.items) c.args.self c.in_ok-answer.answer
    c.self.view_is (c.in_ok-answer.ensures.answer c.self.inside.lsas.items))

pub returns-clause-state : goal.returns-clause-state
returns-clause-state c =
    subst (λ (r : ℕ). flood_in c.self.inside.lsas.items c.send_on.new.packets.items
    (set c.self.inside.routers.items c.from-2.result c.receive.new.self) (c.self.inside.changed + 1)
    ≡ (delivered c.args.self c.args.packet r).1) c.from-2.ensures
    (state_on c.self.inside.lsas.items c.self.inside.packets.items c.self.inside.routers.items c.self.inside.changed
    c.args.packet c.from-2.result c.index-update.result.now c.index_mut.result.now c.self.invariant
    (omega (arith, c.if-as_slice-packet.false, ap length c.as_slice.ensures.value))
    (omega (arith, c.if-as_slice-from.false, ap length c.as_slice-2.ensures.value, c.from.ensures, c.from-2.ensures))
    c.index-update.ensures c.index_mut.ensures.value c.with_lsas-sent.result c.receive.new.self c.in_ok-news.news.items
    (received_here (goal.at.returns-clause-state c).In_ok-news) (c.with_lsas-sent.ensures.packet c.self.inside.lsas.items) c.args.self c.send_on.new.packets.items
    c.self.view_is (c.in_ok-answer.ensures.packets c.self.inside.lsas.items))

pub returns-clause-no_packet : goal.returns-clause-no_packet
returns-clause-no_packet c =
    let many = many_packets c.self.inside.lsas.items c.self.inside.packets.items c.self.inside.routers.items c.self.inside.changed c.args.self c.self.view_is in (
      λ is. absurd (has_packet _ _ (sym (c.in_ok-answer.ensures.answer c.self.inside.lsas.items) ∙ is)),
      λ gone. absurd (omega (arith, gone, many, c.if-as_slice-packet.false, ap length c.as_slice.ensures.value)),
    )

pub returns-clause-no_router : goal.returns-clause-no_router
returns-clause-no_router c =
    not_refused c.self.inside.lsas.items c.self.inside.packets.items c.self.inside.routers.items c.self.inside.changed
    c.args.packet c.from-2.result c.index-update.result.now c.index_mut.result.now c.self.invariant
    (omega (arith, c.if-as_slice-packet.false, ap length c.as_slice.ensures.value))
    (omega (arith, c.if-as_slice-from.false, ap length c.as_slice-2.ensures.value, c.from.ensures, c.from-2.ensures))
    c.index-update.ensures c.index_mut.ensures.value c.with_lsas-sent.result c.receive.new.self c.in_ok-news.news.items
    (received_here (goal.at.returns-clause-no_router c).In_ok-news) (c.with_lsas-sent.ensures.packet c.self.inside.lsas.items) c.args.self c.in_ok-answer.answer
    c.args.router c.self.view_is c.from-2.ensures (c.in_ok-answer.ensures.answer c.self.inside.lsas.items)

pub returns-clause-sent : goal.returns-clause-sent
returns-clause-sent c = λ count sent is.
    let told = c.in_ok-answer.ensures.answer c.self.inside.lsas.items in
    sent_of_new _ _ count sent (sym told ∙ is)
