-- A GADAG has one order.
use Rattle.std.proofs.Common.{◌≡◌, ◌<◌, ◌≤◌, ◌++◌, ◌∙◌, ℕ, List, [], ◌∷◌, length, slice_get, inl, inr, refl, sym, ap, subst, arith, length-append}
use Rattle.std.proofs.lemmas.Bool.{cases_eq, cases_order}
use Rattle.std.proofs.lemmas.Option.{same_Some}
use Rattle.mrt_graph.specs.declared.gadag.Mark.{Mark}
use Rattle.mrt_graph.specs.declared.link.End.{End}
use Rattle.mrt_graph.specs.Topology.{Topology}
use Rattle.gadag_ears.specs.Counted.{IsCounted}
use Rattle.link_direction.specs.GadagOrder.{Begun, IsGadagOrder, IsNextInOrder, IsReadyAt, IsWholeOrder, Next}
use Rattle.link_direction.proofs.EnteredBy.{one_far_node}

-- two nodes that are ready at one place are one
one_at : (g : Topology) (marks : List Mark) (listed : List ℕ) (v w p q : ℕ) → IsReadyAt g marks listed v p q → IsReadyAt g marks listed w p q → v ≡ w
one_at g marks listed v w p q one two =
    let before : one.before ≡ two.before = same_Some one.before two.before (sym one.last_before.there ∙ two.last_before.there) in
    let lists : one.last_end.ends ≡ two.last_end.ends =
    same_Some one.last_end.ends two.last_end.ends (sym one.last_end.list ∙ ap (λ (u : ℕ). slice_get g.ends u) before ∙ two.last_end.list) in
    let same : one.last_end.end ≡ two.last_end.end =
    same_Some one.last_end.end two.last_end.end (sym one.last_end.there ∙ ap (λ (es : List End). slice_get es q) lists ∙ two.last_end.there) in
    let counted : IsCounted g marks one.last_end.end.link one.before w =
    subst (λ (u : ℕ). IsCounted g marks one.last_end.end.link u w) (sym before) (subst (λ (e : End). IsCounted g marks e.link two.before w) (sym same) two.last_end.counted) in
    one_far_node g marks one.last_end.end.link one.before v w one.last_end.counted counted.to

one_next : (g : Topology) (marks : List Mark) (listed : List ℕ) (v w : ℕ) → IsNextInOrder g marks listed v → IsNextInOrder g marks listed w → v ≡ w
one_next g marks listed v w one two =
    let place : one.place ≡ two.place = elim (one.first w two.place two.end_place two.ready) [
      | inl less ↦ elim (two.first v one.place one.end_place one.ready) [ inl more ↦ absurd (omega (arith, less, more)) | inr same ↦ sym same.0 ]
      | inr same ↦ same.0
    ] in
    let end_place : one.end_place ≡ two.end_place = elim (one.first w two.place two.end_place two.ready) [
      | inl less ↦ absurd (omega (arith, less, place))
      | inr there ↦ elim (two.first v one.place one.end_place one.ready) [ inl more ↦ absurd (omega (arith, more, place)) | inr back ↦ omega (arith, there.1, back.1) ]
    ] in
    one_at g marks listed v w one.place one.end_place one.ready
    (subst (λ (q : ℕ). IsReadyAt g marks listed w one.place q) (sym end_place) (subst (λ (p : ℕ). IsReadyAt g marks listed w p two.end_place) (sym place) two.ready))

some_length : (g : Topology) (root : ℕ) (marks : List Mark) (xs : List ℕ) → IsGadagOrder g root marks xs → 1 ≤ length xs
some_length g root marks xs Begun = omega arith
some_length g root marks xs (Next listed v ordered next) = omega (arith, length-append listed (v ∷ []))

-- of one length there is one list
of_one_length : (g : Topology) (root : ℕ) (marks : List Mark) (xs ys : List ℕ) → IsGadagOrder g root marks xs → IsGadagOrder g root marks ys
    → length xs ≡ length ys → xs ≡ ys
of_one_length g root marks xs ys Begun Begun same = refl
of_one_length g root marks xs ys Begun (Next listed v ordered next) same =
    absurd (omega (arith, same, length-append listed (v ∷ []), some_length g root marks listed ordered))
of_one_length g root marks xs ys (Next listed v ordered next) Begun same =
    absurd (omega (arith, same, length-append listed (v ∷ []), some_length g root marks listed ordered))
of_one_length g root marks xs ys (Next listed v ordered next) (Next listed' v' ordered' next') same =
    let before : listed ≡ listed' =
    of_one_length g root marks listed listed' ordered ordered' (omega (arith, same, length-append listed (v ∷ []), length-append listed' (v' ∷ []))) in
    let last : v ≡ v' = one_next g marks listed' v v' (subst (λ (zs : List ℕ). IsNextInOrder g marks zs v) before next) next' in
    ap (λ (zs : List ℕ). zs ++ v ∷ []) before ∙ ap (λ (w : ℕ). listed' ++ w ∷ []) last

-- a longer list goes on from the shorter one
goes_on : (g : Topology) (root : ℕ) (marks : List Mark) (xs ys : List ℕ) → IsGadagOrder g root marks xs → IsGadagOrder g root marks ys
    → length xs < length ys → (v : ℕ) × IsNextInOrder g marks xs v
goes_on g root marks xs ys ordered Begun less = absurd (omega (arith, less, some_length g root marks xs ordered))
goes_on g root marks xs ys ordered (Next listed v before next) less = elim (cases_eq (length xs) (length listed)) [
  | inl same ↦ (v, subst (λ (zs : List ℕ). IsNextInOrder g marks zs v) (sym (of_one_length g root marks xs listed ordered before same)) next)
  | inr other ↦ goes_on g root marks xs listed ordered before (omega (arith, less, other, length-append listed (v ∷ [])))
]

not_longer : (g : Topology) (root : ℕ) (marks : List Mark) (xs ys : List ℕ) → IsWholeOrder g root marks xs → IsGadagOrder g root marks ys → length xs < length ys → ⊥
not_longer g root marks xs ys whole ordered less =
    let more = goes_on g root marks xs ys whole.ordered ordered less in whole.ended more.0 more.1.ready.ready

pub one_order_list : (g : Topology) (root : ℕ) (marks : List Mark) (xs ys : List ℕ) → IsWholeOrder g root marks xs → IsWholeOrder g root marks ys → xs ≡ ys
one_order_list g root marks xs ys one two = elim (cases_order (length xs) (length ys)) [
  | inl same ↦ of_one_length g root marks xs ys one.ordered two.ordered same
  | inr (inl less) ↦ absurd (not_longer g root marks xs ys one two.ordered less)
  | inr (inr more) ↦ absurd (not_longer g root marks ys xs two one.ordered more)
]
