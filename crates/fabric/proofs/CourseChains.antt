-- The course of a packet in a run is a chain of steps.
use Rattle.std.proofs.Common.{◌≡◌, ◌⊎◌, ◌∙◌, ℕ, List, [], ◌∷◌, Some, None, slice_get, inl, inr, refl, sym, subst, arith}
use Rattle.std.specs.Prelude.{AllPairs, Contains}
use Rattle.fabric.specs.Course.{KeepsMode, course, is_on_color, is_primary, visits}
use Rattle.fabric.specs.FabricParts.{ArePartsKept, AreRowsFor, FabricParts}
use Rattle.fabric.specs.FabricState.{Answer, FabricState, entering, packet_after, start, state_after}
use Rattle.fabric.specs.steps.KeptState.{IsKeptPacket}
use Rattle.fabric.specs.Runs.{IsRun}
use Rattle.fabric.specs.Served.{AreRowsOn}
use Rattle.fabric.specs.declared.event.Event.{Event}
use Rattle.fabric.specs.declared.event.Event.TheVariants.{Inject}
use Rattle.fabric_script.specs.declared.entry.Entry.{Entry}
use Rattle.fabric.specs.declared.packet.Packet.{Packet}
use Rattle.fabric.proofs.Effects.{AfterEnd, Apart, Effect, FailsNow, Handled, Made, effect}
use Rattle.fabric.proofs.LifeSteps.{entering_kept}
use Rattle.fabric.proofs.PacketChains.{Chain, next_of}
use Rattle.fabric.proofs.PacketVisits.{all_different, color_differ, modes_kept, primary_differ}
use Rattle.mrt_graph.specs.Reaches.{AreDifferent}
use Rattle.mrt_graph.proofs.Members.{contains_first, contains_later}

-- a course that begins with a packet that is kept, and that enters by one of the events
record Begun (parts : FabricParts) (events : List Event) (packets : List Packet) : Type 0 where
  q : Packet
  rest : List Packet
  from : ℕ
  entry : Entry
  enters : Contains events (Inject from q.to entry)
  kept : IsKeptPacket parts q
  chain : Chain parts q rest
  same : packets ≡ q ∷ rest

-- by one of more events
begun_later : (parts : FabricParts) (event : Event) (events : List Event) (packets : List Packet)
    → (packets ≡ []) ⊎ Begun parts events packets → (packets ≡ []) ⊎ Begun parts (event ∷ events) packets
begun_later parts event events packets (inl none) = inl none
begun_later parts event events packets (inr b) =
    inr (record { q = b.q; rest = b.rest; from = b.from; entry = b.entry; enters = contains_later event (Inject b.from b.q.to b.entry) events b.enters; kept = b.kept; chain = b.chain; same = b.same })

module _ (parts : FabricParts) (are : ArePartsKept parts) (p : ℕ) where
  next_run : (old new : FabricState) (event : Event) (events : List Event) (answer : Answer) (answers : List Answer) → IsRun parts old (event ∷ events) (answer ∷ answers) new
      → IsRun parts (state_after old event answer) events answers new
  next_run old new event events answer answers run = subst (λ (s : FabricState). IsRun parts s events answers new) run.1.after run.2

  course_chain : (events : List Event) (answers : List Answer) (old new : FabricState) (q : Packet) → IsRun parts old events answers new → slice_get old.packets p ≡ Some q
      → Chain parts q (course p old events answers)
  course_chain [] [] old new q run there = tt
  course_chain [] (answer ∷ answers) old new q run there = absurd run
  course_chain (event ∷ events) [] old new q run there = absurd run
  course_chain (event ∷ events) (answer ∷ answers) old new q run there =
      go (effect parts p old event answer run.1.answers) (λ r now. course_chain events answers (state_after old event answer) new r (next_run old new event events answer answers run) now)
    where
      go : Effect parts p old (state_after old event answer) event answer
          → ((r : Packet) → slice_get (state_after old event answer).packets p ≡ Some r → Chain parts r (course p (state_after old event answer) events answers))
          → Chain parts q (course p old (event ∷ events) (answer ∷ answers))
      go (Apart same failure to) on = rw (to.makes_is, to.handles_is) (on q (same ∙ there))
      go (FailsNow failed same none kept element to) on = rw (to.makes_is, to.handles_is) (on q (same ∙ there))
      go (AfterEnd q' before ended same failure to) on = rw (to.makes_is, to.handles_is) (on q (same ∙ there))
      go (Made at t entry is none now failure may to) on = cc
      go (Handled q' outcome before going handled now failure to) on =
          let same : q' ≡ q = let e : Some q' ≡ Some q = sym before ∙ there in cc in
          subst (λ (x : Packet). Chain parts x (course p old (event ∷ events) (answer ∷ answers))) same
          (rw (to.makes_is, to.handles_is, now) (going, next_of parts old.failure q' outcome handled, on (packet_after outcome q') now))

  course_from : (events : List Event) (answers : List Answer) (old new : FabricState) → IsRun parts old events answers new → slice_get old.packets p ≡ None
      → (course p old events answers ≡ []) ⊎ Begun parts events (course p old events answers)
  course_from [] [] old new run none = inl refl
  course_from [] (answer ∷ answers) old new run none = absurd run
  course_from (event ∷ events) [] old new run none = absurd run
  course_from (event ∷ events) (answer ∷ answers) old new run none =
      go (effect parts p old event answer run.1.answers) (λ now. begun_later parts event events _
      (course_from events answers (state_after old event answer) new (next_run old new event events answer answers run) now))
    where
      go : Effect parts p old (state_after old event answer) event answer
          → (slice_get (state_after old event answer).packets p ≡ None
          → (course p (state_after old event answer) events answers ≡ []) ⊎ Begun parts (event ∷ events) (course p (state_after old event answer) events answers))
          → (course p old (event ∷ events) (answer ∷ answers) ≡ []) ⊎ Begun parts (event ∷ events) (course p old (event ∷ events) (answer ∷ answers))
      go (Apart same failure to) on = rw (to.makes_is, to.handles_is) (on (same ∙ none))
      go (FailsNow failed same nothing kept element to) on = rw (to.makes_is, to.handles_is) (on (same ∙ none))
      go (AfterEnd q before ended same failure to) on = rw (to.makes_is, to.handles_is) (on (same ∙ none))
      go (Handled q outcome before going handled now failure to) on = cc
      go (Made at t entry is nothing now failure may to) on = inr (record {
        q = entering at t entry;
        rest = course p (state_after old event answer) events answers;
        from = at;
        entry = entry;
        enters = subst (λ (e : Event). Contains (event ∷ events) e) is (contains_first event events);
        kept = entering_kept parts are at t entry may;
        chain = course_chain events answers (state_after old event answer) new (entering at t entry) (next_run old new event events answer answers run) now;
        same = rw (to.makes_is, now) refl;
      })

module _ (parts : FabricParts) (are : ArePartsKept parts) (room : ℕ) (events : List Event) (answers : List Answer) (end : FabricState) (run : IsRun parts (start room) events answers end) (p : ℕ) where
  -- the whole course
  pub no_place_twice : AreRowsOn parts events → AreDifferent (visits is_primary (course p (start room) events answers)) × AreDifferent (visits is_on_color (course p (start room) events answers))
  no_place_twice on = elim (course_from parts are p events answers (start room) end run refl) [
    | inl none ↦ rw none (all_different [] tt, all_different [] tt)
    | inr begun ↦
        let rows : AreRowsFor parts begun.q.to = on begun.from begun.q.to begun.entry begun.enters in
        rw begun.same (
          all_different (visits is_primary (begun.q ∷ begun.rest)) (primary_differ parts are begun.q begun.rest begun.chain begun.kept rows),
          all_different (visits is_on_color (begun.q ∷ begun.rest)) (color_differ parts are begun.q begun.rest begun.chain begun.kept rows),
        )
  ]

  pub one_change : AllPairs (λ (earlier later : Packet). KeepsMode earlier.mode later.mode) (course p (start room) events answers)
  one_change = elim (course_from parts are p events answers (start room) end run refl) [
    | inl none ↦ rw none (λ i j d lt within. absurd (omega (arith, within)))
    | inr begun ↦ rw begun.same (modes_kept parts begun.q begun.rest begun.chain)
  ]
