use Rattle.std.proofs.Common.{◌≡◌, ◌<◌, ◌∙◌, ℕ, List, Option, None, Some, get_or, length, set, slice_get, inl, inr, refl, sym, ap, subst, arith, true≢false}
use Rattle.std.specs.Prelude.{◌↔◌, IfSome}
use Rattle.std.proofs.lemmas.Option.{same_Some, slice_get_read, slice_get_within}
use Rattle.area_graph.specs.declared.area_types.Arc.{Arc}
use Rattle.mrt_graph.proofs.ListPlaces.{set_elsewhere, set_there}
use Rattle.primary_alt.specs.declared.beginnings.Beginning.{Beginning}
use Rattle.primary_alt.specs.steps.Beginnings.{HasBeginning}
use Rattle.primary_alt.specs.steps.LeastBeginnings.{GoesOn, HasUpTo, IsAtMost, IsPassedOn, IsUpTo}
use Rattle.primary_alt.proofs.beginnings.pass_on.Goals as goal

itself : (begins : List (Option Beginning)) (v : ℕ) (begin : Beginning) → HasBeginning begins v begin → HasUpTo begins v begin
itself begins v begin has = record { least = begin; there = has; upto = inr (refl, omega arith) }

at_most : (begins : List (Option Beginning)) (v : ℕ) (held : Option Beginning) (begin : Beginning) → slice_get begins v ≡ Some held → IsAtMost held begin → HasUpTo begins v begin
at_most begins v None begin at most = absurd most
at_most begins v (Some h) begin at most = record { least = h; there = at; upto = most }

module _ (arcs : List Arc) (s number : ℕ) (arc : Arc) (begins : List (Option Beginning)) where
  abbrev Alone : Option Beginning → Type 0
  Alone over = (b : Beginning) → (over ≡ Some b) ↔ GoesOn arcs s begins number arc b

  none_passed : (over : Option Beginning) → Alone over → over ≡ None → IsPassedOn arcs s number arc begins begins
  none_passed over alone none = record {
    elsewhere = λ u other. refl;
    from = λ b has. inl has;
    taken = λ b goes. absurd (clash b (sym none ∙ (alone b).1 goes));
    lower = λ b has. itself begins arc.to b has;
  }
    where
      clash : (b : Beginning) → None ≡ Some b → ⊥
      clash b same = cc

  none_lower : (over held : Option Beginning) (begin : Beginning) → Alone over → over ≡ Some begin → slice_get begins arc.to ≡ Some held → IsAtMost held begin → IsPassedOn arcs s number arc begins begins
  none_lower over held begin alone is at most = record {
    elsewhere = λ u other. refl;
    from = λ b has. inl has;
    taken = λ b goes. subst (λ (x : Beginning). HasUpTo begins arc.to x) (same_Some begin b (sym is ∙ (alone b).1 goes)) (at_most begins arc.to held begin at most);
    lower = λ b has. itself begins arc.to b has;
  }

  one_put : (over held : Option Beginning) (begin : Beginning) → Alone over → over ≡ Some begin → arc.to < length begins → slice_get begins arc.to ≡ Some held
      → IfSome held (λ h. IsUpTo begin h) → IsPassedOn arcs s number arc begins (set begins arc.to (Some begin))
  one_put over held begin alone is within at lower =
      let there = set_there begins arc.to (Some begin) within in
      record {
        elsewhere = λ u other. set_elsewhere begins arc.to u (Some begin) other;
        from = λ b has. inr ((alone b).0 (is ∙ same_Some (Some begin) (Some b) (sym there ∙ has)));
        taken = λ b goes. subst (λ (x : Beginning). HasUpTo (set begins arc.to (Some begin)) arc.to x) (same_Some begin b (sym is ∙ (alone b).1 goes)) (itself (set begins arc.to (Some begin)) arc.to begin there);
        lower = λ b has. record { least = begin; there = there; upto = subst (λ (o : Option Beginning). IfSome o (λ h. IsUpTo begin h)) (same_Some held (Some b) (sym at ∙ has)) lower };
      }

-- the arc that was read is that of the number
own_there : (arcs : List Arc) (number at : ℕ) (own : Arc) → number < length arcs → at ≡ number → own ≡ get_or arcs at own → slice_get arcs number ≡ Some own
own_there arcs number at own low same is = slice_get_read arcs (length arcs) number own refl low (subst (λ (i : ℕ). own ≡ get_or arcs i own) same is)

own_arc : (arcs : List Arc) (number at : ℕ) (own arc : Arc) → slice_get arcs number ≡ Some arc → at ≡ number → own ≡ get_or arcs at own → own ≡ arc
own_arc arcs number at own arc there same is = same_Some own arc (sym (own_there arcs number at own (slice_get_within arcs number arc there) same is) ∙ there)

alone_as : (arcs : List Arc) (s number : ℕ) (own arc : Arc) (read begins : List (Option Beginning)) (over : Option Beginning) → own ≡ arc → read ≡ begins → Alone arcs s number own read over
    → Alone arcs s number arc begins over
alone_as arcs s number own arc read begins over same same' alone =
    subst (λ (a : Arc). Alone arcs s number a begins over) same (subst (λ (xs : List (Option Beginning)). Alone arcs s number own xs over) same' alone)

held : (begins : List (Option Beginning)) (at : ℕ) (own arc : Arc) (read : Option Beginning) → own ≡ arc → arc.to < length begins → at ≡ own.to → read ≡ get_or begins at read
    → slice_get begins arc.to ≡ Some read
held begins at own arc read same within here is =
    slice_get_read begins (length begins) arc.to read refl within (subst (λ (i : ℕ). read ≡ get_or begins i read) (here ∙ ap (λ (a : Arc). a.to) same) is)

pub bounds-arcs-get : goal.bounds-arcs-get
bounds-arcs-get c = omega (arith, c.get.ensures.value, c.requires.number)

pub begin_over-requires-clause-tail : goal.begin_over-requires-clause-tail
begin_over-requires-clause-tail c =
    let tail = c.requires.between.tails c.args.number c.index-arcs-get.result
    (own_there c.args.arcs.now c.args.number c.get.result c.index-arcs-get.result c.requires.number c.get.ensures.value c.index-arcs-get.is) in
    omega (arith, tail, ap length c.deref.ensures.value)

pub begin_over-requires-clause-firsts : goal.begin_over-requires-clause-firsts
begin_over-requires-clause-firsts c = λ v begin has. c.requires.firsts v begin (subst (λ (xs : List (Option Beginning)). HasBeginning xs v begin) c.deref.ensures.value has)

pub index-requires : goal.index-requires
index-requires c =
    let to = c.requires.between.tos c.args.number c.index-arcs-get.result
    (own_there c.args.arcs.now c.args.number c.get.result c.index-arcs-get.result c.requires.number c.get.ensures.value c.index-arcs-get.is) in
    omega (arith, to, c.get-at.ensures.value, c.args.begins.now.ok.0)

pub index_mut-requires : goal.index_mut-requires
index_mut-requires c =
    let to = c.requires.between.tos c.args.number c.index-arcs-get.result
    (own_there c.args.arcs.now c.args.number c.get.result c.index-arcs-get.result c.requires.number c.get.ensures.value c.index-arcs-get.is) in
    omega (arith, to, c.get-at.ensures.value, c.args.begins.now.ok.0)

pub returns-then-is_lower-clause-passed : goal.returns-then-is_lower-clause-passed
returns-then-is_lower-clause-passed c = λ arc at.
    let arcs = c.args.arcs.now in
    let begins = c.args.begins.now.items in
    let own = c.index-arcs-get.result in
    let same = own_arc arcs c.args.number c.get.result own arc at c.get.ensures.value c.index-arcs-get.is in
    let within = c.requires.between.tos c.args.number arc at in
    subst (λ (k : ℕ). IsPassedOn arcs c.args.source c.args.number arc begins (set begins k (Some c.in-Some.begin))) (sym (c.get-at.ensures.value ∙ ap (λ (a : Arc). a.to) same))
    (one_put arcs c.args.source c.args.number arc begins c.begin_over.result c.index.result.now c.in-Some.begin
    (alone_as arcs c.args.source c.args.number own arc c.deref.result.now begins c.begin_over.result same c.deref.ensures.value c.begin_over.ensures) c.in-Some.is within
    (held begins c.get-at.result own arc c.index.result.now same within c.get-at.ensures.value c.index.ensures) (c.is_lower.ensures.lower c.if-is_lower.true))

pub returns-else-is_lower-clause-passed : goal.returns-else-is_lower-clause-passed
returns-else-is_lower-clause-passed c = λ arc at.
    let arcs = c.args.arcs.now in
    let begins = c.args.begins.now.items in
    let own = c.index-arcs-get.result in
    let same = own_arc arcs c.args.number c.get.result own arc at c.get.ensures.value c.index-arcs-get.is in
    let within = c.requires.between.tos c.args.number arc at in
    none_lower arcs c.args.source c.args.number arc begins c.begin_over.result c.index.result.now c.in-Some.begin
    (alone_as arcs c.args.source c.args.number own arc c.deref.result.now begins c.begin_over.result same c.deref.ensures.value c.begin_over.ensures) c.in-Some.is
    (held begins c.get-at.result own arc c.index.result.now same within c.get-at.ensures.value c.index.ensures)
    (elim c.is_lower.ensures.other [ inl is ↦ absurd (true≢false (sym is ∙ c.if-is_lower.false)) | inr most ↦ most ])

pub returns-in_default-clause-passed : goal.returns-in_default-clause-passed
returns-in_default-clause-passed c = λ arc at.
    let arcs = c.args.arcs.now in
    let begins = c.args.begins.now.items in
    let own = c.index-arcs-get.result in
    let same = own_arc arcs c.args.number c.get.result own arc at c.get.ensures.value c.index-arcs-get.is in
    none_passed arcs c.args.source c.args.number arc begins c.begin_over.result
    (alone_as arcs c.args.source c.args.number own arc c.deref.result.now begins c.begin_over.result same c.deref.ensures.value c.begin_over.ensures) c.in_default.is
