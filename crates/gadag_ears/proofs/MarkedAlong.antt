-- The links of an ear, one after the other.
use Rattle.std.proofs.Common.{◌≡◌, ◌≢◌, ◌<◌, ◌+◌, ◌-◌, ◌++◌, ◌∙◌, ℕ, zero, suc, Bool, List, [], ◌∷◌, Option, Some, None, get_or, length, set, slice_get, drop, take, inl, inr, refl, sym, ap, subst, arith}
use Rattle.std.specs.Option.{option_and_then}
use Rattle.std.specs.Prelude.{Contains, IsSome, IsTrue}
use Rattle.std.proofs.lemmas.List.{get_or_default, take-append-drop, take_more}
use Rattle.std.proofs.lemmas.Option.{same_Some, slice_get_within}
use Rattle.std.proofs.lemmas.List.Elements.{Contains-append_left}
use Rattle.mrt_graph.specs.declared.cert.Role.TheVariants.{Closing, Plain, Sole}
use Rattle.mrt_graph.specs.declared.gadag.Mark.{Mark}
use Rattle.mrt_graph.specs.declared.link.Link.{Link}
use Rattle.mrt_graph.specs.declared.tree.TreeNode.{TreeNode}
use Rattle.mrt_graph.specs.Leads.{far_node, leads}
use Rattle.mrt_graph.specs.Topology.{Topology}
use Rattle.mrt_graph.proofs.Members.{contains_cases, contains_none}
use Rattle.gadag_ears.specs.declared.kind.EarKind.{EarKind}
use Rattle.gadag_ears.specs.steps.Ear.{ear_of}
use Rattle.gadag_ears.specs.Ear.{last_node, onward_link}
use Rattle.gadag_ears.specs.HeadAndBlock.{BeginsBlock}
use Rattle.gadag_ears.specs.steps.Marking.{AreEarMarked, AreSetAlong, GoesOver, IsMarkable, mark_along}
use Rattle.gadag_ears.proofs.EarMarked.{marked_closed, marked_open, marked_sole, set_more}

-- a link that leads somewhere is there
pub record IsThere (g : Topology) (e : ℕ) : Type 0 where
  pub link : Link
  pub is : slice_get g.links e ≡ Some link
  pub within : e < length g.links

pub link_there : (g : Topology) (e u v : ℕ) → leads g.links e u ≡ Some v → IsThere g e
link_there g e u v to = go (slice_get g.links e) refl to
  where
    go : (o : Option Link) → slice_get g.links e ≡ o → option_and_then (far_node u) o ≡ Some v → IsThere g e
    go None is to = cc
    go (Some link) is to = record { link = link; is = is; within = slice_get_within g.links e link is }

pub over_some : (kind : EarKind) (tree : List TreeNode) (v e : ℕ) → onward_link kind tree v ≡ Some e → IsSome (onward_link kind tree v)
over_some kind tree v e is = rw is refl

-- the link over which the ear goes on from a new node
pub over_there : (g : Topology) (tree : List TreeNode) (kind : EarKind) (v e : ℕ) → GoesOver g tree kind v → onward_link kind tree v ≡ Some e → IsThere g e
over_there g tree kind v e over is =
    link_there g e v over.to (subst (λ (d : ℕ). leads g.links d v ≡ Some over.to) (same_Some over.link e (sym over.over ∙ is)) over.onward)

pub in_at : (xs : List ℕ) (k v : ℕ) → k < length xs → v ≡ get_or xs k v → Contains xs v
in_at xs k v within is = (k, within, sym is)

in_front : (k : ℕ) (xs : List ℕ) (u : ℕ) → Contains (take k xs) u → Contains xs u
in_front k xs u c = subst (λ (ys : List ℕ). Contains ys u) (take-append-drop k xs) (Contains-append_left (take k xs) (drop k xs) u c)

pub along_more : (g : Topology) (tree : List TreeNode) (kind : EarKind) (x link : ℕ) (new : List ℕ) (begins : Bool) (k v w e : ℕ) (marks marks' marks'' : List Mark)
    → IsMarkable g tree kind x link new begins → length marks ≡ length g.links → ((v : ℕ) → Contains new v → onward_link kind tree v ≢ Some link)
    → k < length new → v ≡ get_or new k v → w ≡ get_or new k w → onward_link kind tree v ≡ Some e
    → AreSetAlong g tree kind x link (take k new) marks marks' → ((it : Link) → slice_get g.links e ≡ Some it → marks'' ≡ set marks' e (mark_along w it Plain))
    → AreSetAlong g tree kind x link (take (k + 1) new) marks marks''
along_more g tree kind x link new begins k v w e marks marks' marks'' can one_each other within is also over are put =
    let in_new = in_at new k v within is in
    let it = over_there g tree kind v e (can.each v in_new) over in
    let same : w ≡ v = also ∙ get_or_default new k w v within ∙ sym is in
    subst (λ (xs : List ℕ). AreSetAlong g tree kind x link xs marks marks'') (sym (take_more new k v within ∙ ap (λ (u : ℕ). take k new ++ u ∷ []) (sym is)))
    (set_more g tree kind x link new (take k new) v e marks marks' marks'' it.link begins can one_each it.within (in_front k new) in_new over
    (λ at_link. other v in_new (over ∙ ap (λ (f : ℕ). Some f) at_link)) are it.is
    (put it.link it.is ∙ ap (λ (u : ℕ). set marks' e (mark_along u it.link Plain)) same))

-- the last node
pub last_at : (first : ℕ) (others : List ℕ) (k v : ℕ) → k + 1 ≡ length (first ∷ others) → v ≡ get_or (first ∷ others) k v → v ≡ last_node first others
last_at first [] zero v long is = is
last_at first [] (suc k) v long is = absurd (omega (arith, long))
last_at first (u ∷ us) zero v long is = absurd (omega (arith, long))
last_at first (u ∷ us) (suc k) v long is = last_at u us k v (omega (arith, long)) is

last_of : (first : ℕ) (others new : List ℕ) (v : ℕ) → new ≡ first ∷ others → v ≡ get_or new (length new - 1) v → v ≡ last_node first others
last_of first others new v are is =
    last_at first others (length new - 1) v (omega (arith, ap (λ (xs : List ℕ). length xs) are))
    (subst (λ (xs : List ℕ). v ≡ get_or xs (length new - 1) v) are is)

pub ear_sole : (g : Topology) (tree : List TreeNode) (kind : EarKind) (x link : ℕ) (new : List ℕ) (begins : Bool) (first stop : ℕ) (others : List ℕ) (v last : ℕ) (marks marks' : List Mark)
    → IsMarkable g tree kind x link new begins → length marks ≡ length g.links → v ≡ get_or new (length new - 1) v → onward_link kind tree v ≡ Some last → last ≡ link
    → new ≡ first ∷ others → BeginsBlock (ear_of kind x link first others stop)
    → ((it : Link) → slice_get g.links link ≡ Some it → marks' ≡ set marks link (mark_along x it Sole)) → AreEarMarked g tree (ear_of kind x link first others stop) marks marks'
ear_sole g tree kind x link new begins first stop others v last marks marks' can one_each is over same are block put =
    let it = link_there g link x can.to can.touches in
    let v_is = last_of first others new v are is in
    let v_over : onward_link kind tree v ≡ Some link = over ∙ ap (λ (f : ℕ). Some f) same in
    let one = can.once v (in_at new (length new - 1) v (omega (arith, can.some_node)) is) v_over in
    marked_sole g tree kind x link first others stop marks marks' it.link block (subst (λ (w : ℕ). onward_link kind tree w ≡ Some link) v_is v_over)
    (λ u c. elim (contains_cases v u [] (subst (λ (xs : List ℕ). Contains xs u) (sym are ∙ one.1) c)) [
      | inl u_is ↦ u_is ∙ v_is
      | inr none ↦ absurd (contains_none u none)
    ])
    one_each it.within it.is (put it.link it.is)

pub ear_closed : (g : Topology) (tree : List TreeNode) (kind : EarKind) (x link : ℕ) (new : List ℕ) (begins : Bool) (first stop : ℕ) (others : List ℕ) (v last : ℕ) (marks marks' marks'' : List Mark)
    → IsMarkable g tree kind x link new begins → length marks ≡ length g.links → v ≡ get_or new (length new - 1) v → onward_link kind tree v ≡ Some last → last ≢ link
    → new ≡ first ∷ others → BeginsBlock (ear_of kind x link first others stop) → AreSetAlong g tree kind x link new marks marks'
    → ((it : Link) → slice_get g.links last ≡ Some it → marks'' ≡ set marks' last (mark_along v it Closing)) → AreEarMarked g tree (ear_of kind x link first others stop) marks marks''
ear_closed g tree kind x link new begins first stop others v last marks marks' marks'' can one_each is over other are block along put =
    let in_new = in_at new (length new - 1) v (omega (arith, can.some_node)) is in
    let it = over_there g tree kind v last (can.each v in_new) over in
    let v_is = last_of first others new v are is in
    let back : (u : ℕ) → Contains (first ∷ others) u → Contains new u = λ u c. subst (λ (xs : List ℕ). Contains xs u) (sym are) c in
    marked_closed g tree kind x link first others stop last marks marks' marks'' it.link block (subst (λ (w : ℕ). onward_link kind tree w ≡ Some last) v_is over) other
    (λ u w e u_new w_new u_over w_over. can.differ u w e (back u u_new) (back w w_new) u_over w_over) one_each it.within it.is
    (subst (λ (xs : List ℕ). AreSetAlong g tree kind x link xs marks marks') are along)
    (put it.link it.is ∙ ap (λ (u : ℕ). set marks' last (mark_along u it.link Closing)) v_is)

pub ear_open : (g : Topology) (tree : List TreeNode) (kind : EarKind) (x link : ℕ) (new : List ℕ) (first stop : ℕ) (others : List ℕ) (marks marks' : List Mark)
    → new ≡ first ∷ others → ¬ BeginsBlock (ear_of kind x link first others stop) → AreSetAlong g tree kind x link new marks marks'
    → AreEarMarked g tree (ear_of kind x link first others stop) marks marks'
ear_open g tree kind x link new first stop others marks marks' are joins along =
    marked_open g tree kind x link first others stop marks marks' joins (subst (λ (xs : List ℕ). AreSetAlong g tree kind x link xs marks marks') are along)

pub none_sole : (g : Topology) (tree : List TreeNode) (kind : EarKind) (x link : ℕ) (new : List ℕ) (begins : Bool) (v last : ℕ)
    → IsMarkable g tree kind x link new begins → v ≡ get_or new (length new - 1) v → onward_link kind tree v ≡ Some last → ¬ (IsTrue begins × (last ≡ link))
    → (u : ℕ) → Contains new u → onward_link kind tree u ≢ Some link
none_sole g tree kind x link new begins v last can is over more u c u_over =
    let one = can.once u c u_over in
    let v_is : v ≡ u = last_of u [] new v one.1 is in
    more (one.0, same_Some last link (sym over ∙ ap (λ (w : ℕ). onward_link kind tree w) v_is ∙ u_over))
