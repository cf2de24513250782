-- A graph with its search tree has one ear order.
use Rattle.std.proofs.Common.{◌≡◌, ◌≤◌, ◌+◌, ◌++◌, ◌∙◌, ℕ, List, [], ◌∷◌, Some, length, slice_get, inl, inr, refl, sym, ap, subst, arith, length-append}
use Rattle.std.specs.Prelude.{Contains}
use Rattle.std.proofs.lemmas.Bool.{cases_eq, cases_lt}
use Rattle.std.proofs.lemmas.Option.{same_Some}
use Rattle.mrt_graph.specs.declared.link.End.{End}
use Rattle.mrt_graph.specs.declared.tree.TreeNode.{TreeNode}
use Rattle.mrt_graph.specs.Topology.{Topology}
use Rattle.mrt_graph.specs.FirstEnd.{IsFirstEnd}
use Rattle.lowpoint_dfs.specs.SearchOrder.{IsDone}
use Rattle.gadag_ears.specs.declared.kind.EarKind.{EarKind}
use Rattle.gadag_ears.specs.Ear.{Ear, GoesOn, IsBegun, IsNextEar, LeadsToChild, ToChild, ToNeighbour, new_nodes}
use Rattle.gadag_ears.specs.EarOrder.{AreEars, Begun, Grown, IsEarOrder, Turned}

-- the first end that has what is asked for is one
one_first : (g : Topology) (Asked : End → Type 0) (x : ℕ) (end other : End) → IsFirstEnd g Asked x end → IsFirstEnd g Asked x other → end ≡ other
one_first g Asked x end other one two =
    let lists : two.ends ≡ one.ends = same_Some two.ends one.ends (sym two.list ∙ one.list) in
    let there : slice_get one.ends two.place ≡ Some other = subst (λ (xs : List End). slice_get xs two.place ≡ Some other) lists two.there in
    elim (cases_lt one.place two.place) [
      | inl before ↦ absurd (two.none_before one.place end before (subst (λ (xs : List End). slice_get xs one.place ≡ Some end) (sym lists) one.there) one.asked)
      | inr late ↦ elim (cases_lt two.place one.place) [
        | inl before ↦ absurd (one.none_before two.place other before there two.asked)
        | inr early ↦
            let place : one.place ≡ two.place = omega (arith, late, early) in
            same_Some end other (sym one.there ∙ subst (λ (k : ℕ). slice_get one.ends k ≡ Some other) (sym place) there)
      ]
    ]

-- over which end the next ear begins, and of which kind it is
one_begin : (g : Topology) (tree : List TreeNode) (listed : List ℕ) (x : ℕ) (end other : End) (kind kind' : EarKind) → IsBegun g tree listed x end kind
    → IsBegun g tree listed x other kind' → (kind ≡ kind') × (end ≡ other)
one_begin g tree listed x end other kind kind' (ToChild one) (ToChild two) = (refl, one_first g (LeadsToChild g tree listed x) x end other one two)
one_begin g tree listed x end other kind kind' (ToChild one) (ToNeighbour children two) = absurd (one.asked.0 (children end.to one.asked.1))
one_begin g tree listed x end other kind kind' (ToNeighbour children one) (ToChild two) = absurd (two.asked.0 (children other.to two.asked.1))
one_begin g tree listed x end other kind kind' (ToNeighbour children one) (ToNeighbour children' two) =
    (refl, one_first g (λ end. ¬ Contains listed end.to) x end other one two)

-- an ear's way
one_way : (g : Topology) (tree : List TreeNode) (kind : EarKind) (listed : List ℕ) (v : ℕ) (us us' : List ℕ) (stop stop' : ℕ)
    → GoesOn g tree kind listed v us stop → GoesOn g tree kind listed v us' stop' → (us ≡ us') × (stop ≡ stop')
one_way g tree kind listed v [] [] stop stop' one two = (refl, same_Some stop stop' (sym one.0 ∙ two.0))
one_way g tree kind listed v [] (w ∷ ws) stop stop' one two =
    absurd (two.1 (subst (λ (y : ℕ). Contains listed y) (same_Some stop w (sym one.0 ∙ two.0)) one.1))
one_way g tree kind listed v (u ∷ us) [] stop stop' one two =
    absurd (one.1 (subst (λ (y : ℕ). Contains listed y) (same_Some stop' u (sym two.0 ∙ one.0)) two.1))
one_way g tree kind listed v (u ∷ us) (w ∷ ws) stop stop' one two =
    let same : u ≡ w = same_Some u w (sym one.0 ∙ two.0) in
    let rest = one_way g tree kind listed u us ws stop stop' one.2 (subst (λ (y : ℕ). GoesOn g tree kind listed y ws stop') (sym same) two.2) in
    (ap (λ (y : ℕ). y ∷ us) same ∙ ap (λ (ys : List ℕ). w ∷ ys) rest.0, rest.1)

abbrev ear_of : EarKind → ℕ → ℕ → ℕ → List ℕ → ℕ → Ear
ear_of kind start link first others stop = record { kind = kind; start = start; link = link; first = first; others = others; stop = stop }

same_ear : (e d : Ear) → e.kind ≡ d.kind → e.start ≡ d.start → e.link ≡ d.link → e.first ≡ d.first → e.others ≡ d.others → e.stop ≡ d.stop → e ≡ d
same_ear e d kind start link first others stop =
    ap (λ (k : EarKind). ear_of k e.start e.link e.first e.others e.stop) kind
    ∙ ap (λ (s : ℕ). ear_of d.kind s e.link e.first e.others e.stop) start
    ∙ ap (λ (l : ℕ). ear_of d.kind d.start l e.first e.others e.stop) link
    ∙ ap (λ (f : ℕ). ear_of d.kind d.start d.link f e.others e.stop) first
    ∙ ap (λ (o : List ℕ). ear_of d.kind d.start d.link d.first o e.stop) others
    ∙ ap (λ (s : ℕ). ear_of d.kind d.start d.link d.first d.others s) stop

-- the next ear is one
pub one_next_ear : (g : Topology) (tree : List TreeNode) (listed : List ℕ) (x : ℕ) (ear other : Ear) → IsNextEar g tree listed x ear
    → IsNextEar g tree listed x other → ear ≡ other
one_next_ear g tree listed x ear other one two =
    let begun = one_begin g tree listed x one.end two.end ear.kind other.kind one.begun two.begun in
    let first : ear.first ≡ other.first = one.to ∙ ap (λ (end : End). end.to) begun.1 ∙ sym two.to in
    let onward : GoesOn g tree ear.kind listed ear.first other.others other.stop =
    subst (λ (v : ℕ). GoesOn g tree ear.kind listed v other.others other.stop) (sym first)
    (subst (λ (kind : EarKind). GoesOn g tree kind listed other.first other.others other.stop) (sym begun.0) two.onward) in
    let way = one_way g tree ear.kind listed ear.first ear.others other.others ear.stop other.stop one.onward onward in
    same_ear ear other begun.0 (one.from ∙ sym two.from) (one.over ∙ ap (λ (end : End). end.link) begun.1 ∙ sym two.over) first way.0 way.1

-- where an ear is next the turn is not over
first_outside : (g : Topology) (Asked : End → Type 0) (listed : List ℕ) (x : ℕ) (end : End) → IsFirstEnd g Asked x end → IsDone g listed x → Contains listed end.to
first_outside g Asked listed x end first done =
    done.all_inside first.place end (subst (λ (xs : List End). slice_get xs first.place ≡ Some end) (same_Some first.ends done.ends (sym first.list ∙ done.list)) first.there)

not_done_yet : (g : Topology) (tree : List TreeNode) (listed : List ℕ) (x : ℕ) (end : End) (kind : EarKind) → IsBegun g tree listed x end kind → IsDone g listed x → ⊥
not_done_yet g tree listed x end kind (ToChild first) done = first.asked.0 (first_outside g (LeadsToChild g tree listed x) listed x end first done)
not_done_yet g tree listed x end kind (ToNeighbour children first) done = first.asked (first_outside g (λ end. ¬ Contains listed end.to) listed x end first done)

-- a list cut at the node whose turn it is, with the ears so far
record CutList : Type 0 where
  pub over : List ℕ
  pub here : ℕ
  pub later : List ℕ
  pub ears : List Ear

abbrev cut_at : List ℕ → ℕ → List ℕ → List Ear → CutList
cut_at over here later ears = record { over = over; here = here; later = later; ears = ears }

abbrev head_or : ℕ → List ℕ → ℕ
head_or d [] = d
head_or d (x ∷ xs) = x

abbrev tail_of : List ℕ → List ℕ
tail_of [] = []
tail_of (x ∷ xs) = xs

longer : (over : List ℕ) (x : ℕ) → length (over ++ x ∷ []) ≡ length over + 1
longer over x = length-append over (x ∷ [])

done_at : (g : Topology) (s t : CutList) → s ≡ t → IsDone g (t.over ++ t.here ∷ t.later) t.here → IsDone g (s.over ++ s.here ∷ s.later) s.here
done_at g s t same done = subst (λ (u : CutList). IsDone g (u.over ++ u.here ∷ u.later) u.here) (sym same) done

-- two of as many turns and ears are one
one_state : (g : Topology) (root : ℕ) (tree : List TreeNode) (over : List ℕ) (x : ℕ) (later : List ℕ) (ears : List Ear) (over' : List ℕ) (x' : ℕ) (later' : List ℕ) (ears' : List Ear)
    → IsEarOrder g root tree over x later ears → IsEarOrder g root tree over' x' later' ears' → length over + length ears ≡ length over' + length ears'
    → cut_at over x later ears ≡ cut_at over' x' later' ears'
one_state g root tree over x later ears over' x' later' ears' Begun Begun same = refl
one_state g root tree over x later ears over' x' later' ears' Begun (Grown o y l es ear before next) same = absurd (omega (arith, same))
one_state g root tree over x later ears over' x' later' ears' Begun (Turned o y z l es before done) same = absurd (omega (arith, same, longer o y))
one_state g root tree over x later ears over' x' later' ears' (Grown o y l es ear before next) Begun same = absurd (omega (arith, same))
one_state g root tree over x later ears over' x' later' ears' (Turned o y z l es before done) Begun same = absurd (omega (arith, same, longer o y))
one_state g root tree over x later ears over' x' later' ears' (Grown o y l es ear before next) (Grown o' y' l' es' ear' before' next') same =
    let s = one_state g root tree o y l es o' y' l' es' before before' (omega (arith, same)) in
    let two : IsNextEar g tree (o ++ y ∷ l) y ear' = subst (λ (t : CutList). IsNextEar g tree (t.over ++ t.here ∷ t.later) t.here ear') (sym s) next' in
    ap (λ (t : CutList). cut_at t.over t.here (new_nodes ear ++ t.later) (ear ∷ t.ears)) s
    ∙ ap (λ (d : Ear). cut_at o' y' (new_nodes d ++ l') (d ∷ es')) (one_next_ear g tree (o ++ y ∷ l) y ear ear' next two)
one_state g root tree over x later ears over' x' later' ears' (Turned o y z l es before done) (Turned o' y' z' l' es' before' done') same =
    let s = one_state g root tree o y (z ∷ l) es o' y' (z' ∷ l') es' before before' (omega (arith, same, longer o y, longer o' y')) in
    ap (λ (t : CutList). cut_at (t.over ++ t.here ∷ []) (head_or z t.later) (tail_of t.later) t.ears) s
one_state g root tree over x later ears over' x' later' ears' (Grown o y l es ear before next) (Turned o' y' z' l' es' before' done') same =
    let s = one_state g root tree o y l es o' y' (z' ∷ l') es' before before' (omega (arith, same, longer o' y')) in
    absurd (not_done_yet g tree (o ++ y ∷ l) y next.end ear.kind next.begun (done_at g (cut_at o y l es) (cut_at o' y' (z' ∷ l') es') s done'))
one_state g root tree over x later ears over' x' later' ears' (Turned o y z l es before done) (Grown o' y' l' es' ear' before' next') same =
    let s = one_state g root tree o y (z ∷ l) es o' y' l' es' before before' (omega (arith, same, longer o y)) in
    absurd (not_done_yet g tree (o' ++ y' ∷ l') y' next'.end ear'.kind next'.begun (done_at g (cut_at o' y' l' es') (cut_at o y (z ∷ l) es) (sym s) done))

-- none is beyond the end
no_later : (z : ℕ) (l : List ℕ) → [] ≡ z ∷ l → ⊥
no_later z l same = cc

none_beyond : (g : Topology) (root : ℕ) (tree : List TreeNode) (before : List ℕ) (last : ℕ) (all : List Ear) → IsEarOrder g root tree before last [] all
    → IsDone g (before ++ last ∷ []) last → (over : List ℕ) (x : ℕ) (later : List ℕ) (ears : List Ear) → IsEarOrder g root tree over x later ears
    → length over + length ears ≤ length before + length all
none_beyond g root tree before last all ordered ended over x later ears Begun = omega arith
none_beyond g root tree before last all ordered ended over x later ears (Grown o y l es ear earlier next) =
    let fewer = none_beyond g root tree before last all ordered ended o y l es earlier in
    elim (cases_eq (length before + length all) (length o + length es)) [
      | inr other ↦ omega (arith, fewer, other)
      | inl same ↦
          let s = one_state g root tree before last [] all o y l es ordered earlier same in
          absurd (not_done_yet g tree (o ++ y ∷ l) y next.end ear.kind next.begun (done_at g (cut_at o y l es) (cut_at before last [] all) (sym s) ended))
    ]
none_beyond g root tree before last all ordered ended over x later ears (Turned o y z l es earlier done) =
    let fewer = none_beyond g root tree before last all ordered ended o y (z ∷ l) es earlier in
    elim (cases_eq (length before + length all) (length o + length es)) [
      | inr other ↦ omega (arith, fewer, other, longer o y)
      | inl same ↦
          let s = one_state g root tree before last [] all o y (z ∷ l) es ordered earlier same in
          absurd (no_later z l (ap (λ (t : CutList). t.later) s))
    ]

-- the ear order and the ears are one
pub one_ear_order : (g : Topology) (root : ℕ) (tree : List TreeNode) (order order' : List ℕ) (ears ears' : List Ear) → AreEars g root tree order ears
    → AreEars g root tree order' ears' → (order ≡ order') × (ears ≡ ears')
one_ear_order g root tree order order' ears ears' one two =
    let ended = subst (λ (xs : List ℕ). IsDone g xs one.last) one.whole one.ended in
    let ended' = subst (λ (xs : List ℕ). IsDone g xs two.last) two.whole two.ended in
    let fewer = none_beyond g root tree one.before one.last ears one.ordered ended two.before two.last [] ears' two.ordered in
    let more = none_beyond g root tree two.before two.last ears' two.ordered ended' one.before one.last [] ears one.ordered in
    let s = one_state g root tree one.before one.last [] ears two.before two.last [] ears' one.ordered two.ordered (omega (arith, fewer, more)) in
    (one.whole ∙ ap (λ (t : CutList). t.over ++ t.here ∷ []) s ∙ sym two.whole, ap (λ (t : CutList). t.ears) s)
