use Rattle.std.proofs.Common.{◌≡◌, ◌∙◌, ◌<◌, ℕ, List, Option, Some, get_or, length, slice_get, inl, inr, refl, sym, subst, arith, true≢false}
use Rattle.std.specs.BinaryHeap.{heap_items}
use Rattle.std.proofs.lemmas.Bool.{cases_lt}
use Rattle.std.proofs.lemmas.Option.{slice_get_read}
use Rattle.primary_alt.specs.steps.BackwardSearch.{room_of}
use Rattle.primary_alt.proofs.OfferMade.{offer_left, offer_taken}
use Rattle.primary_alt.proofs.backward.offer_to.Goals as goal

known_before : (known : List (Option ℕ)) (node at : ℕ) (old : Option ℕ) → node < length known → at ≡ node → old ≡ get_or known at old → slice_get known node ≡ Some old
known_before known node at old within same read =
    slice_get_read known (length known) node old refl within (subst (λ (i : ℕ). old ≡ get_or known i old) same read)

pub returns-in_ok-wait-clause-offered : goal.returns-in_ok-wait-clause-offered
returns-in_ok-wait-clause-offered c =
    rw c.get-at.ensures.value
    (offer_taken c.args.into.now.arcs.items c.args.u c.args.node c.args.distance c.args.known.now.items (heap_items c.args.waiting.now) (heap_items c.wait.new.waiting) c.index.result.now
    (known_before c.args.known.now.items c.args.node c.get-at.result c.index.result.now c.requires.node c.get-at.ensures.value c.index.ensures)
    (c.is_nearer.ensures.0 c.if-is_nearer.true)
    c.in_ok-wait.ensures.added)

pub returns-else-is_nearer-clause-offered : goal.returns-else-is_nearer-clause-offered
returns-else-is_nearer-clause-offered c =
    offer_left c.args.into.now.arcs.items c.args.u c.args.node c.args.distance c.args.known.now.items (heap_items c.args.waiting.now) c.index.result.now
    (known_before c.args.known.now.items c.args.node c.get-at.result c.index.result.now c.requires.node c.get-at.ensures.value c.index.ensures)
    (omega arith)
    (elim (cases_lt c.args.distance (room_of c.index.result.now)) [
      | inl less ↦ absurd (true≢false (sym (c.is_nearer.ensures.1 less) ∙ c.if-is_nearer.false))
      | inr upto ↦ upto
    ])
