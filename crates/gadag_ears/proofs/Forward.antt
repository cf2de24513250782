-- Which node stands before which in the list of ears.
use Rattle.std.proofs.Common.{◌≡◌, ◌≢◌, ◌⊎◌, ◌<◌, ◌++◌, ◌∙◌, ℕ, suc, List, [], ◌∷◌, Some, slice_get, inl, inr, refl, sym, ap, subst, arith}
use Rattle.std.specs.Prelude.{Contains}
use Rattle.std.proofs.lemmas.List.Elements.{Contains-append_cases, Contains-append_left, Contains-append_right}
use Rattle.std.proofs.lemmas.Option.{same_Some}
use Rattle.mrt_graph.specs.declared.tree.TreeNode.{TreeNode}
use Rattle.mrt_graph.specs.Topology.{Topology}
use Rattle.mrt_graph.proofs.FewNumbers.{IsAtOnePlace}
use Rattle.mrt_graph.proofs.ListPlaces.{place_of}
use Rattle.mrt_graph.proofs.Members.{contains_cases, contains_first, contains_later, contains_none}
use Rattle.lowpoint_dfs.specs.Subtree.{parent_of}
use Rattle.gadag_ears.specs.declared.kind.EarKind.{EarKind}
use Rattle.gadag_ears.specs.declared.kind.EarKind.TheVariants.{Child, Neighbour}
use Rattle.gadag_ears.specs.Ear.{Ear, GoesOn, IsNextEar, last_node, new_nodes, next_node}
use Rattle.gadag_ears.specs.EarOrder.{AreEars, Begun, Grown, IsEarOrder, Turned}
use Rattle.gadag_ears.specs.HeadAndBlock.{BeginsBlock}
use Rattle.gadag_ears.proofs.BlockLinks.{last_next}
use Rattle.gadag_ears.proofs.CutLists.{turned}
use Rattle.gadag_ears.proofs.EarLast.{last_in}
use Rattle.gadag_ears.proofs.HeadsByLowpoints.{begins_or_not}
use Rattle.gadag_ears.proofs.NextEar.{FromNew, FromStart, FromStop, Heads, IsBrought, IsHung}
use Rattle.gadag_ears.proofs.SearchFacts.{AreFacts, one_parent}
use Rattle.gadag_ears.proofs.TurnsKept.{AreKept, all_kept, brought_at, ends_ahead}

-- u stands in the list, and v after it
abbrev pub StandsBefore : List ℕ → ℕ → ℕ → Type 0
StandsBefore [] u v = ⊥
StandsBefore (x ∷ xs) u v = ((u ≡ x) × Contains xs v) ⊎ StandsBefore xs u v

before_in : (xs ys : List ℕ) (u v : ℕ) → StandsBefore ys u v → StandsBefore (xs ++ ys) u v
before_in [] ys u v before = before
before_in (x ∷ xs) ys u v before = inr (before_in xs ys u v before)

pub before_contains : (xs : List ℕ) (u v : ℕ) → StandsBefore xs u v → Contains xs v
before_contains [] u v before = absurd before
before_contains (x ∷ xs) u v before = elim before [
  | inl here ↦ contains_later x v xs here.1
  | inr later ↦ contains_later x v xs (before_contains xs u v later)
]

before_left : (xs ys : List ℕ) (u v : ℕ) → StandsBefore xs u v → StandsBefore (xs ++ ys) u v
before_left [] ys u v before = absurd before
before_left (x ∷ xs) ys u v before = elim before [
  | inl here ↦ inl (here.0, Contains-append_left xs ys v here.1)
  | inr later ↦ inr (before_left xs ys u v later)
]

before_across : (xs ys : List ℕ) (u v : ℕ) → Contains xs u → Contains ys v → StandsBefore (xs ++ ys) u v
before_across [] ys u v left right = absurd (contains_none u left)
before_across (x ∷ xs) ys u v left right = elim (contains_cases x u xs left) [
  | inl same ↦ inl (same, Contains-append_right xs ys v right)
  | inr later ↦ inr (before_across xs ys u v later right)
]

-- with nodes put in, those of the list stand as before
put_between : (xs new ys : List ℕ) (v : ℕ) → Contains (xs ++ ys) v → Contains (xs ++ (new ++ ys)) v
put_between xs new ys v c = elim (Contains-append_cases xs ys v c) [
  | inl left ↦ Contains-append_left xs (new ++ ys) v left
  | inr right ↦ Contains-append_right xs (new ++ ys) v (Contains-append_right new ys v right)
]

before_put : (xs new ys : List ℕ) (u v : ℕ) → StandsBefore (xs ++ ys) u v → StandsBefore (xs ++ (new ++ ys)) u v
before_put [] new ys u v before = before_in new ys u v before
before_put (x ∷ xs) new ys u v before = elim before [
  | inl here ↦ inl (here.0, put_between xs new ys v here.1)
  | inr later ↦ inr (before_put xs new ys u v later)
]

before_kept : (over : List ℕ) (x : ℕ) (later new : List ℕ) (u v : ℕ) → StandsBefore (over ++ x ∷ later) u v → StandsBefore (over ++ x ∷ (new ++ later)) u v
before_kept [] x later new u v before = elim before [
  | inl here ↦ inl (here.0, Contains-append_right new later v here.1)
  | inr after ↦ inr (before_in new later u v after)
]
before_kept (y ∷ over) x later new u v before = elim before [
  | inl here ↦ inl (here.0, kept_between over v here.1)
  | inr after ↦ inr (before_kept over x later new u v after)
]
  where
    kept_between : (over : List ℕ) (v : ℕ) → Contains (over ++ x ∷ later) v → Contains (over ++ x ∷ (new ++ later)) v
    kept_between over v c = elim (Contains-append_cases over (x ∷ later) v c) [
      | inl left ↦ Contains-append_left over (x ∷ (new ++ later)) v left
      | inr right ↦ Contains-append_right over (x ∷ (new ++ later)) v (elim (contains_cases x v later right) [
        | inl same ↦ subst (λ (w : ℕ). Contains (x ∷ (new ++ later)) w) (sym same) (contains_first x (new ++ later))
        | inr after ↦ contains_later x v (new ++ later) (Contains-append_right new later v after)
      ])
    ]

-- by places: where no node stands twice
record AreAtPlaces (xs : List ℕ) (u v : ℕ) : Type 0 where
  pub k : ℕ
  pub l : ℕ
  pub u_at : slice_get xs k ≡ Some u
  pub v_at : slice_get xs l ≡ Some v
  pub less : k < l

places_before : (xs : List ℕ) (u v : ℕ) → StandsBefore xs u v → AreAtPlaces xs u v
places_before [] u v before = absurd before
places_before (x ∷ xs) u v before = elim before [
  | inl here ↦
      let at = place_of xs v here.1 in
      record { k = 0; l = suc at.0; u_at = ap (λ (w : ℕ). Some w) (sym here.0); v_at = at.1; less = omega arith }
  | inr later ↦
      let it = places_before xs u v later in
      record { k = suc it.k; l = suc it.l; u_at = it.u_at; v_at = it.v_at; less = omega (arith, it.less) }
]

pub by_places : (xs : List ℕ) (u v k l : ℕ) → IsAtOnePlace xs u → IsAtOnePlace xs v → StandsBefore xs u v → slice_get xs k ≡ Some u → slice_get xs l ≡ Some v → k < l
by_places xs u v k l u_once v_once before u_at v_at =
    let it = places_before xs u v before in omega (arith, it.less, u_once k it.k u_at it.u_at, v_once l it.l v_at it.v_at)

-- an ear goes on to the next one of its new nodes, or to where it stops
pub next_stands : (g : Topology) (tree : List TreeNode) (kind : EarKind) (listed : List ℕ) (v : ℕ) (us : List ℕ) (stop u w : ℕ) → GoesOn g tree kind listed v us stop
    → Contains (v ∷ us) u → next_node g tree kind u ≡ Some w → StandsBefore (v ∷ us) u w ⊎ ((u ≡ last_node v us) × (w ≡ stop))
next_stands g tree kind listed v [] stop u w goes inside is = elim (contains_cases v u [] inside) [
  | inl same ↦ inr (same, same_Some w stop (sym is ∙ ap (λ (y : ℕ). next_node g tree kind y) same ∙ goes.0))
  | inr none ↦ absurd (contains_none u none)
]
next_stands g tree kind listed v (y ∷ ys) stop u w goes inside is = elim (contains_cases v u (y ∷ ys) inside) [
  | inl same ↦ inl (inl (
    same,
    subst (λ (z : ℕ). Contains (y ∷ ys) z)
        (same_Some y w (sym goes.0 ∙ sym (ap (λ (z : ℕ). next_node g tree kind z) same) ∙ is)) (contains_first y ys),
  ))
  | inr later ↦ elim (next_stands g tree kind listed y ys stop u w goes.2 later is) [
    | inl before ↦ inl (inr before)
    | inr at_stop ↦ inr at_stop
  ]
]

-- an ear that begins no block stops elsewhere than it starts
stops_elsewhere : (g : Topology) (tree : List TreeNode) (listed : List ℕ) (ear : Ear) → IsBrought g tree listed ear
    → GoesOn g tree ear.kind listed ear.first ear.others ear.stop → ¬ BeginsBlock ear → ear.stop ≢ ear.start
stops_elsewhere g tree listed ear brings goes joins same =
    go ear.kind refl (last_next g tree ear.kind listed ear.first ear.others ear.stop goes)
  where
    hung_at_stop : parent_of g tree (last_node ear.first ear.others) ≡ Some ear.stop → IsHung g tree ear (last_node ear.first ear.others) → ⊥
    hung_at_stop up (FromNew p is new low) =
        brings.outside p new (subst (λ (w : ℕ). Contains listed w) (one_parent g tree (last_node ear.first ear.others) ear.stop p up is) brings.stop_in)
    hung_at_stop up (FromStop is other low) = other same
    hung_at_stop up (FromStart is other low above) = other same
    hung_at_stop up (Heads first is kind stop high) = joins (kind, stop)

    go : (kind : EarKind) → ear.kind ≡ kind → next_node g tree kind (last_node ear.first ear.others) ≡ Some ear.stop → ⊥
    go Child is next = joins (is, same)
    go Neighbour is next = hung_at_stop next (brings.hung (last_node ear.first ear.others) (last_in ear.first ear.others))

-- an ear leads forward in the list, but for the last link of one that begins a block
pub record IsForward (g : Topology) (tree : List TreeNode) (listed : List ℕ) (ear : Ear) : Type 0 where
  pub out : StandsBefore listed ear.start ear.first
  pub onward : (u w : ℕ) → Contains (new_nodes ear) u → next_node g tree ear.kind u ≡ Some w
      → ¬ (BeginsBlock ear × (u ≡ last_node ear.first ear.others)) → StandsBefore listed u w

new_forward : (g : Topology) (root : ℕ) (tree : List TreeNode) (over : List ℕ) (x : ℕ) (later : List ℕ) (ear : Ear) → AreFacts g root tree
    → AreKept g tree over x later → IsNextEar g tree (over ++ x ∷ later) x ear → IsForward g tree (over ++ x ∷ (new_nodes ear ++ later)) ear
new_forward g root tree over x later ear facts kept next =
    let brings = brought_at g root tree over x later ear facts kept next in
    record {
      out = before_in over (x ∷ (new_nodes ear ++ later)) ear.start ear.first
          (inl (next.from, Contains-append_left (new_nodes ear) later ear.first (contains_first ear.first ear.others)));
      onward = λ u w new is free.
          before_in over (x ∷ (new_nodes ear ++ later)) u w (inr (elim (next_stands g tree ear.kind (over ++ x ∷ later) ear.first ear.others ear.stop u w next.onward new is) [
            | inl before ↦ before_left (new_nodes ear) later u w before
            | inr at_stop ↦ elim (begins_or_not ear) [
              | inl begins ↦ absurd (free (begins, at_stop.0))
              | inr joins ↦ elim (ends_ahead g root tree over x later ear facts kept next) [
                | inl back ↦ absurd (stops_elsewhere g tree (over ++ x ∷ later) ear brings next.onward joins (back ∙ sym next.from))
                | inr to_come ↦ subst (λ (v : ℕ). StandsBefore (new_nodes ear ++ later) u v) (sym at_stop.1) (before_across (new_nodes ear) later u ear.stop new to_come)
              ]
            ]
          ]));
    }

pub all_forward : (g : Topology) (root : ℕ) (tree : List TreeNode) (over : List ℕ) (x : ℕ) (later : List ℕ) (ears : List Ear) → AreFacts g root tree
    → IsEarOrder g root tree over x later ears → (ear : Ear) → Contains ears ear → IsForward g tree (over ++ x ∷ later) ear
all_forward g root tree over x later ears facts Begun ear c = absurd (contains_none ear c)
all_forward g root tree over x later ears facts (Grown over' x' later' ears' ear' before next) ear c = elim (contains_cases ear' ear ears' c) [
  | inl same ↦ subst (λ (d : Ear). IsForward g tree (over' ++ x' ∷ (new_nodes ear' ++ later')) d) (sym same)
      (new_forward g root tree over' x' later' ear' facts (all_kept g root tree over' x' later' ears' facts before) next)
  | inr old ↦
      let it = all_forward g root tree over' x' later' ears' facts before ear old in
      record {
        out = before_kept over' x' later' (new_nodes ear') ear.start ear.first it.out;
        onward = λ u w new is free. before_kept over' x' later' (new_nodes ear') u w (it.onward u w new is free);
      }
]
all_forward g root tree over x later ears facts (Turned over' x' y later' ears' before done) ear c =
    subst (λ (xs : List ℕ). IsForward g tree xs ear) (sym (turned over' x' y later'))
    (all_forward g root tree over' x' (y ∷ later') ears' facts before ear c)

-- the root stands first
root_in_front : (g : Topology) (root : ℕ) (tree : List TreeNode) (over : List ℕ) (x : ℕ) (later : List ℕ) (ears : List Ear)
    → IsEarOrder g root tree over x later ears → slice_get (over ++ x ∷ later) 0 ≡ Some root
root_in_front g root tree over x later ears Begun = refl
root_in_front g root tree over x later ears (Grown over' x' later' ears' ear before next) =
    front over' (root_in_front g root tree over' x' later' ears' before)
  where
    front : (over : List ℕ) → slice_get (over ++ x' ∷ later') 0 ≡ Some root → slice_get (over ++ x' ∷ (new_nodes ear ++ later')) 0 ≡ Some root
    front [] is = is
    front (y ∷ ys) is = is
root_in_front g root tree over x later ears (Turned over' x' y later' ears' before done) =
    ap (λ (xs : List ℕ). slice_get xs 0) (turned over' x' y later') ∙ root_in_front g root tree over' x' (y ∷ later') ears' before

pub root_first : (g : Topology) (root : ℕ) (tree : List TreeNode) (order : List ℕ) (ears : List Ear) → AreEars g root tree order ears → slice_get order 0 ≡ Some root
root_first g root tree order ears are = ap (λ (xs : List ℕ). slice_get xs 0) are.whole ∙ root_in_front g root tree are.before are.last [] ears are.ordered
