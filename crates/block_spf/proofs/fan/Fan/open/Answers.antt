use Rattle.std.proofs.Common.{◌≡◌, ◌*◌, ◌∙◌, ℕ, Bool, List, length, sym, ap, subst}
use Rattle.std.specs.Vec.{with_items}
use Rattle.std.proofs.lemmas.List.{with_items_is}
use Rattle.block_spf.specs.declared.fan.Opening.{Opening}
use Rattle.block_spf.specs.Fan.{IsOpen}
use Rattle.block_spf.specs.FanEntries.{FanEntries}
use Rattle.block_spf.specs.steps.FanEntries.{fan_entries}
use Rattle.block_spf.specs.steps.Opening.{AreFirstOffered, AreStops}
use Rattle.block_spf.proofs.fan.Fan.open.Goals as goal

pub begin-requires-clause-costs : goal.begin-requires-clause-costs
begin-requires-clause-costs c =
    let fan = c.self.inside in
    let n = length c.args.g.now.ids in
    ap (λ (xs : List ℕ). length xs) c.deref_mut.ensures.value ∙ c.self.invariant.one_cost_each
    ∙ ap (λ (k : ℕ). k * length fan.from_costs.items) (ap (λ (e : FanEntries). e.nodes) c.self.view_is ∙ c.requires.nodes)
    ∙ ap (λ (m : ℕ). n * m) (sym (c.len-width.ensures ∙ fan.from_costs.ok.0))

pub begin-requires-clause-places : goal.begin-requires-clause-places
begin-requires-clause-places c =
    let fan = c.self.inside in
    let n = length c.args.g.now.ids in
    ap (λ (xs : List ℕ). length xs) c.deref_mut-2.ensures.value ∙ c.self.invariant.one_place_each
    ∙ ap (λ (k : ℕ). k * length fan.from_costs.items) (ap (λ (e : FanEntries). e.nodes) c.self.view_is ∙ c.requires.nodes)
    ∙ ap (λ (m : ℕ). n * m) (sym (c.len-width.ensures ∙ fan.from_costs.ok.0))

pub begin-requires-clause-stops : goal.begin-requires-clause-stops
begin-requires-clause-stops c =
    ap (λ (bs : List Bool). length bs) c.deref_mut-3.ensures.value ∙ ap (λ (e : FanEntries). e.nodes) c.self.view_is ∙ c.requires.nodes

pub sweep-requires-clause-stops : goal.sweep-requires-clause-stops
sweep-requires-clause-stops c =
    let fan = c.self.inside in
    let stops = c.deref.ensures.value ∙ with_items_is fan.stops c.begin.new.stops (c.begin.auto.stops ∙ c.deref_mut-3.ensures.len) in
    let width : c.len-width.result ≡ length c.deref_mut-6.result.now =
    c.len-width.ensures ∙ fan.from_costs.ok.0 ∙ sym (ap (λ (xs : List ℕ). length xs) c.deref_mut-6.ensures.value) in
    let opening : Opening = record { graph = c.args.g; directed = c.args.d; dir = c.args.dir; turns = c.args.turns; first = c.args.first } in
    subst (λ (m : ℕ). AreStops opening m c.deref.result.now) width
    (subst (λ (bs : List Bool). AreStops opening c.len-width.result bs) (sym stops) c.begin.ensures.stops)

pub sweep-requires-clause-from_places : goal.sweep-requires-clause-from_places
sweep-requires-clause-from_places c =
    ap (λ (xs : List ℕ). length xs) c.deref_mut-7.ensures.value ∙ c.self.invariant.one_source_each
    ∙ sym (ap (λ (xs : List ℕ). length xs) c.deref_mut-6.ensures.value)

pub sweep-requires-clause-begun : goal.sweep-requires-clause-begun
sweep-requires-clause-begun c =
    let fan = c.self.inside in
    let costs = c.deref_mut-4.ensures.value ∙ with_items_is fan.costs c.begin.new.costs (c.begin.auto.costs ∙ c.deref_mut.ensures.len) in
    let places = c.deref_mut-5.ensures.value ∙ with_items_is fan.places c.begin.new.places (c.begin.auto.places ∙ c.deref_mut-2.ensures.len) in
    let width : c.len-width.result ≡ length c.deref_mut-6.result.now =
    c.len-width.ensures ∙ fan.from_costs.ok.0 ∙ sym (ap (λ (xs : List ℕ). length xs) c.deref_mut-6.ensures.value) in
    let opening : Opening = record { graph = c.args.g; directed = c.args.d; dir = c.args.dir; turns = c.args.turns; first = c.args.first } in
    subst (λ (m : ℕ). AreFirstOffered opening m c.deref_mut-4.result.now c.deref_mut-5.result.now) width
    (subst (λ (xs : List ℕ). AreFirstOffered opening c.len-width.result xs c.deref_mut-5.result.now) (sym costs)
    (subst (λ (xs : List ℕ). AreFirstOffered opening c.len-width.result c.begin.new.costs xs) (sym places) c.begin.ensures.begun))

pub returns-clause-open : goal.returns-clause-open
returns-clause-open c = λ root w are.
    let fan = c.self.inside in
    let costs = c.sweep.new.costs in
    let places = c.sweep.new.places in
    let from = c.sweep.new.from_costs in
    let stops = length c.deref.result.now in
    let width = length c.deref_mut-6.result.now in
    let costs_after = with_items (with_items fan.costs c.begin.new.costs) costs in
    let places_after = with_items (with_items fan.places c.begin.new.places) places in
    let from_after = with_items fan.from_costs from in
    let costs_is = with_items_is (with_items fan.costs c.begin.new.costs) costs (c.sweep.auto.costs ∙ c.deref_mut-4.ensures.len) in
    let places_is = with_items_is (with_items fan.places c.begin.new.places) places (c.sweep.auto.places ∙ c.deref_mut-5.ensures.len) in
    let from_is : length from_after.items ≡ width =
    ap (λ (xs : List ℕ). length xs) (with_items_is fan.from_costs from (c.sweep.auto.from_costs ∙ c.deref_mut-6.ensures.len)) ∙ c.sweep.auto.from_costs in
    let same = ap (λ (xs : List ℕ). fan_entries stops width xs places) (sym costs_is)
    ∙ ap (λ (xs : List ℕ). fan_entries stops width costs_after.items xs) (sym places_is)
    ∙ ap (λ (m : ℕ). fan_entries stops m costs_after.items places_after.items) (sym from_is)
    ∙ ap (λ xs. fan_entries (length xs) (length from_after.items) costs_after.items places_after.items) c.deref.ensures.value in
    subst (λ (e : FanEntries). IsOpen c.args.g.now w c.args.dir c.args.first e) same (c.sweep.ensures root w are)

pub returns-clause-nodes : goal.returns-clause-nodes
returns-clause-nodes c =
    ap length (with_items_is c.self.inside.stops c.begin.new.stops (c.begin.auto.stops ∙ c.deref_mut-3.ensures.len)) ∙ c.begin.auto.stops ∙ ap length c.deref_mut-3.ensures.value
    ∙ ap (λ (e : FanEntries). e.nodes) c.self.view_is

pub returns-clause-width : goal.returns-clause-width
returns-clause-width c =
    ap length (with_items_is c.self.inside.from_costs c.sweep.new.from_costs (c.sweep.auto.from_costs ∙ c.deref_mut-6.ensures.len)) ∙ c.sweep.auto.from_costs
    ∙ ap length c.deref_mut-6.ensures.value ∙ ap (λ (e : FanEntries). e.width) c.self.view_is

pub invariant_of-self : goal.invariant_of-self
invariant_of-self c =
    let fan = c.self.inside in
    let begun = c.begin.new in
    let swept = c.sweep.new in
    let stops = ap length (with_items_is fan.stops begun.stops (c.begin.auto.stops ∙ c.deref_mut-3.ensures.len)) ∙ c.begin.auto.stops ∙ ap length c.deref_mut-3.ensures.value in
    let from = ap length (with_items_is fan.from_costs swept.from_costs (c.sweep.auto.from_costs ∙ c.deref_mut-6.ensures.len)) ∙ c.sweep.auto.from_costs
    ∙ ap length c.deref_mut-6.ensures.value in
    let from_places = ap length (with_items_is fan.from_places swept.from_places (c.sweep.auto.from_places ∙ c.deref_mut-7.ensures.len)) ∙ c.sweep.auto.from_places
    ∙ ap length c.deref_mut-7.ensures.value in
    let costs = ap length (with_items_is (with_items fan.costs begun.costs) swept.costs (c.sweep.auto.costs ∙ c.deref_mut-4.ensures.len)) ∙ c.sweep.auto.costs
    ∙ ap length (c.deref_mut-4.ensures.value ∙ with_items_is fan.costs begun.costs (c.begin.auto.costs ∙ c.deref_mut.ensures.len)) ∙ c.begin.auto.costs ∙ ap length c.deref_mut.ensures.value in
    let places = ap length (with_items_is (with_items fan.places begun.places) swept.places (c.sweep.auto.places ∙ c.deref_mut-5.ensures.len)) ∙ c.sweep.auto.places
    ∙ ap length (c.deref_mut-5.ensures.value ∙ with_items_is fan.places begun.places (c.begin.auto.places ∙ c.deref_mut-2.ensures.len)) ∙ c.begin.auto.places ∙ ap length c.deref_mut-2.ensures.value in
    let wide = ap (λ (n : ℕ). n * length fan.from_costs.items) (sym stops) ∙ ap (λ (m : ℕ). length (with_items fan.stops begun.stops).items * m) (sym from) in
    record {
      one_cost_each = costs ∙ c.self.invariant.one_cost_each ∙ wide;
      one_place_each = places ∙ c.self.invariant.one_place_each ∙ wide;
      one_source_each = from_places ∙ c.self.invariant.one_source_each ∙ sym from;
    }
