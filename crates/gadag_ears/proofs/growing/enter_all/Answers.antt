use Rattle.std.proofs.Common.{◌≡◌, ◌≤◌, ◌-◌, ◌++◌, ◌∙◌, ℕ, Bool, true, List, [], ◌∷◌, append-nil, drop, get_or, length, length-append, length-drop, reverse, set, refl, sym, ap, subst, arith}
use Rattle.std.proofs.lemmas.List.{drop_all, length-reverse}
use Rattle.mrt_graph.specs.declared.gadag.Place.{Place}
use Rattle.gadag_ears.specs.steps.Growing.{AreEntered, HasEntered}
use Rattle.gadag_ears.proofs.Entering.{drop_from, member_before, none_entered, one_more_entered, one_more_waits}
use Rattle.gadag_ears.proofs.growing.enter_all.Goals as goal

node_is : (items others : List ℕ) (k u v : ℕ) → u ≡ v → v ≡ get_or items k v → items ≡ others → u ≡ get_or others k u
node_is items others k u v same is alike =
    subst (λ (xs : List ℕ). u ≡ get_or xs k u) alike (subst (λ (w : ℕ). w ≡ get_or items k w) (sym same) is)

entered_with : (listed : List Bool) (places : List Place) (head block : ℕ) (listed' : List Bool) (places' : List Place) (some some' : List ℕ) (u v : ℕ)
    → some ≡ some' → v ≡ u → AreEntered listed places head block some' (set listed' u true) (set places' u (record { head = head; block = block }))
    → AreEntered listed places head block some (set listed' u true) (set places' v (record { head = head; block = block }))
entered_with listed places head block listed' places' some some' u v same is are =
    subst (λ (w : ℕ). AreEntered listed places head block some (set listed' u true) (set places' w (record { head = head; block = block }))) (sym is)
    (subst (λ (xs : List ℕ). AreEntered listed places head block xs (set listed' u true) (set places' u (record { head = head; block = block }))) (sym same) are)

pub index_mut-requires : goal.index_mut-requires
index_mut-requires c =
    let is = node_is c.entry.growing.added.items c.args.growing.now.added.items (c.entry.k - 1) c.get.result c.index.result.now
    c.get.ensures.value c.index.ensures (ap (λ v. v.items) c.entry.invariant.added) in
    let member = member_before c.args.growing.now.added.items c.entry.k c.get.result c.entry-test.true (omega (arith, c.entry.auto.k, c.len-k.ensures)) is in
    omega (arith, c.requires.within c.get.result member, c.entry.invariant.entered.one_mark_each)

pub index_mut-requires-in-entry : goal.index_mut-requires-in-entry
index_mut-requires-in-entry c =
    let is = node_is c.entry.growing.added.items c.args.growing.now.added.items (c.entry.k - 1) c.get-in-entry.result c.index.result.now
    c.get-in-entry.ensures.value c.index.ensures (ap (λ v. v.items) c.entry.invariant.added) in
    let member = member_before c.args.growing.now.added.items c.entry.k c.get-in-entry.result c.entry-test.true (omega (arith, c.entry.auto.k, c.len-k.ensures)) is in
    omega (arith, c.requires.within c.get-in-entry.result member, c.entry.invariant.entered.one_place_each, c.requires.one_place_each)

pub entry-preserved : goal.entry-preserved
entry-preserved c =
    let is = node_is c.entry.growing.added.items c.args.growing.now.added.items (c.entry.k - 1) c.get.result c.index.result.now
    c.get.ensures.value c.index.ensures (ap (λ v. v.items) c.entry.invariant.added) in
    let few : c.entry.k ≤ length c.args.growing.now.added.items = omega (arith, c.entry.auto.k, c.len-k.ensures) in
    let member = member_before c.args.growing.now.added.items c.entry.k c.get.result c.entry-test.true few is in
    let more = drop_from c.args.growing.now.added.items c.entry.k c.get.result c.get.result c.entry-test.true few is in
    let same : c.get-in-entry.result ≡ c.get.result = c.get-in-entry.ensures.value ∙ sym c.get.ensures.value in
    let entered = one_more_entered c.args.growing.now.listed.items c.args.growing.now.places.items c.args.head c.args.block
    (drop c.entry.k c.args.growing.now.added.items) c.entry.growing.listed.items c.entry.growing.places.items c.get.result
    (c.requires.within c.get.result member) (omega (arith, c.requires.within c.get.result member, c.requires.one_place_each)) c.entry.invariant.entered in
    record {
      order = c.entry.invariant.order;
      added = c.entry.invariant.added;
      marks = c.entry.invariant.marks;
      waiting = c.push_reserved.ensures.items
          ∙ ap (λ (v : ℕ). c.entry.growing.waiting.items ++ v ∷ []) (sym c.get.ensures.value)
          ∙ one_more_waits c.args.growing.now.waiting.items c.entry.growing.waiting.items (drop c.entry.k c.args.growing.now.added.items) c.get.result c.entry.invariant.waiting
          ∙ ap (λ (xs : List ℕ). c.args.growing.now.waiting.items ++ reverse xs) (sym more);
      room = c.push_reserved.ensures.capacity ∙ c.entry.invariant.room;
      entered = entered_with c.args.growing.now.listed.items c.args.growing.now.places.items c.args.head c.args.block c.entry.growing.listed.items
          c.entry.growing.places.items (drop (c.entry.k - 1) c.args.growing.now.added.items) (c.get.result ∷ drop c.entry.k c.args.growing.now.added.items)
          c.get.result c.get-in-entry.result more same entered;
    }

pub entry-init : goal.entry-init
entry-init c =
    let growing = c.args.growing.now in
    subst (λ (some : List ℕ). HasEntered growing c.args.head c.args.block some growing) (sym (drop_all c.len-k.result growing.added.items (omega (arith, c.len-k.ensures, growing.added.ok.0))))
    (record {
      order = refl;
      added = refl;
      marks = refl;
      waiting = sym (append-nil growing.waiting.items);
      room = refl;
      entered = none_entered growing.listed.items growing.places.items c.args.head c.args.block;
    })

pub push_reserved-requires : goal.push_reserved-requires
push_reserved-requires c =
    let growing = c.args.growing.now in
    let left = drop c.entry.k growing.added.items in
    omega (
      arith,
      c.requires.room,
      c.entry.invariant.room,
      ap length c.entry.invariant.waiting,
      length-append growing.waiting.items (reverse left),
      length-reverse left,
      length-drop c.entry.k growing.added.items,
      c.entry-test.true,
      c.entry.auto.k,
      c.len-k.ensures,
      c.entry.growing.waiting.ok.0,
    )

pub returns : goal.returns
returns c =
    let growing = c.args.growing.now in
    let none : c.entry.k ≡ 0 = omega (arith, c.entry-test.false) in
    subst (λ (k : ℕ). HasEntered growing c.args.head c.args.block (drop k growing.added.items) c.entry.growing) none c.entry.invariant
