-- A link is on one ear at most, and a node but the root is a new node of some ear.
use Rattle.std.proofs.Common.{◌≡◌, ◌≢◌, ◌<◌, ◌++◌, ◌∙◌, ℕ, List, [], ◌∷◌, Some, length, inl, inr, sym, ap, subst}
use Rattle.std.specs.Prelude.{Contains}
use Rattle.mrt_graph.specs.declared.cert.Role.TheVariants.{Closing, Plain, Sole}
use Rattle.mrt_graph.specs.declared.tree.TreeNode.{TreeNode}
use Rattle.mrt_graph.specs.GadagLists.{GadagLists}
use Rattle.mrt_graph.specs.GadagFields.{role_at}
use Rattle.mrt_graph.specs.Topology.{Topology}
use Rattle.mrt_graph.proofs.Members.{contains_cases, contains_first, contains_later, contains_none}
use Rattle.gadag_ears.specs.Ear.{Ear, last_node, new_nodes}
use Rattle.gadag_ears.specs.EarOrder.{Begun, Grown, IsEarOrder, Turned}
use Rattle.gadag_ears.specs.Gadag.{IsGadag}
use Rattle.gadag_ears.specs.LinkMarks.{IsLastOfBlock, IsOnEar}
use Rattle.gadag_ears.proofs.BlockLinks.{last_or_not, way_of}
use Rattle.gadag_ears.proofs.CutLists.{put_cases, turned}
use Rattle.gadag_ears.proofs.DirectedLinks.{ear_known}
use Rattle.gadag_ears.proofs.EarLinks.{apart, link_touches, links_in}
use Rattle.gadag_ears.proofs.Ended.{each_listed}
use Rattle.gadag_ears.proofs.MarkedAlong.{link_there}
use Rattle.gadag_ears.proofs.MarksGrown.{last_on}
use Rattle.gadag_ears.proofs.SearchFacts.{AreFacts}

-- two ears with a link in common are one
pub one_ear : (g : Topology) (root : ℕ) (tree : List TreeNode) (over : List ℕ) (x : ℕ) (later : List ℕ) (ears : List Ear) → AreFacts g root tree
    → IsEarOrder g root tree over x later ears → (d f : Ear) (v w e : ℕ) → Contains ears d → Contains ears f → IsOnEar tree d v e → IsOnEar tree f w e → d ≡ f
one_ear g root tree over x later ears facts Begun d f v w e d_in f_in d_on f_on = absurd (contains_none d d_in)
one_ear g root tree over x later ears facts (Grown over' x' later' ears' ear before next) d f v w e d_in f_in d_on f_on =
    let way = way_of g root tree over' x' later' ears' ear facts before next in
    let others = apart g root tree (over' ++ x' ∷ later') x' ear ears' way (links_in g root tree over' x' later' ears' facts before) in
    elim (contains_cases ear d ears' d_in) [
      | inl d_is ↦ elim (contains_cases ear f ears' f_in) [
        | inl f_is ↦ d_is ∙ sym f_is
        | inr f_old ↦ absurd (others f v w e f_old (subst (λ (c : Ear). IsOnEar tree c v e) d_is d_on) f_on)
      ]
      | inr d_old ↦ elim (contains_cases ear f ears' f_in) [
        | inl f_is ↦ absurd (others d w v e d_old (subst (λ (c : Ear). IsOnEar tree c w e) f_is f_on) d_on)
        | inr f_old ↦ one_ear g root tree over' x' later' ears' facts before d f v w e d_old f_old d_on f_on
      ]
    ]
one_ear g root tree over x later ears facts (Turned over' x' y later' ears' before done) d f v w e d_in f_in d_on f_on =
    one_ear g root tree over' x' (y ∷ later') ears' facts before d f v w e d_in f_in d_on f_on

pub one_ear_of : (g : Topology) (root : ℕ) (tree : List TreeNode) (gadag : GadagLists) → AreFacts g root tree → (it : IsGadag g root tree gadag)
    → (d f : Ear) (v w e : ℕ) → Contains it.ears d → Contains it.ears f → IsOnEar tree d v e → IsOnEar tree f w e → d ≡ f
one_ear_of g root tree gadag facts it = one_ear g root tree it.are_ears.before it.are_ears.last [] it.ears facts it.are_ears.ordered

-- a link of an ear is there
pub link_within : (g : Topology) (root : ℕ) (tree : List TreeNode) (gadag : GadagLists) → AreFacts g root tree → (it : IsGadag g root tree gadag)
    → (ear : Ear) (v e : ℕ) → Contains it.ears ear → IsOnEar tree ear v e → e < length g.links
link_within g root tree gadag facts it ear v e among on =
    let way = ear_known g root tree gadag facts it ear among in
    let to = link_touches g root tree way.listed way.x ear v e way.way on in
    (link_there g e v to.0 to.1).within

-- a link of an ear is not closing, unless it is the last link of one that begins a block and has more links
pub not_closing : (g : Topology) (root : ℕ) (tree : List TreeNode) (gadag : GadagLists) → AreFacts g root tree → (it : IsGadag g root tree gadag)
    → (ear : Ear) (v e : ℕ) → Contains it.ears ear → IsOnEar tree ear v e → (IsLastOfBlock tree ear e → e ≡ ear.link) → ¬ (role_at gadag.marks e ≡ Some Closing)
not_closing g root tree gadag facts it ear v e among on last_is_first closing = elim (last_or_not tree it.ears e) [
  | inr none ↦ plain_or_closing (sym (it.marks.roles.others e (link_within g root tree gadag facts it ear v e among on) none) ∙ closing)
  | inl some ↦
      let same = one_ear_of g root tree gadag facts it some.ear ear (last_node some.ear.first some.ear.others) v e some.among among (last_on tree some.ear e some.last) on in
      let last : IsLastOfBlock tree ear e = subst (λ (d : Ear). IsLastOfBlock tree d e) same some.last in
      let first = last_is_first last in
      sole_or_closing (sym (it.marks.roles.sole ear among (subst (λ (l : ℕ). IsLastOfBlock tree ear l) first last))
      ∙ sym (ap (λ (l : ℕ). role_at gadag.marks l) first) ∙ closing)
]
  where
    plain_or_closing : Some Plain ≡ Some Closing → ⊥
    plain_or_closing same = cc

    sole_or_closing : Some Sole ≡ Some Closing → ⊥
    sole_or_closing same = cc

-- an ear that brings a node
pub record IsBroughtBy (ears : List Ear) (v : ℕ) : Type 0 where
  pub ear : Ear
  pub among : Contains ears ear
  pub new : Contains (new_nodes ear) v

brought_by : (g : Topology) (root : ℕ) (tree : List TreeNode) (over : List ℕ) (x : ℕ) (later : List ℕ) (ears : List Ear)
    → IsEarOrder g root tree over x later ears → (v : ℕ) → Contains (over ++ x ∷ later) v → v ≢ root → IsBroughtBy ears v
brought_by g root tree over x later ears Begun v c other = elim (contains_cases root v [] c) [
  | inl same ↦ absurd (other same)
  | inr none ↦ absurd (contains_none v none)
]
brought_by g root tree over x later ears (Grown over' x' later' ears' ear before next) v c other = elim (put_cases over' x' later' (new_nodes ear) v c) [
  | inl new ↦ record { ear = ear; among = contains_first ear ears'; new = new }
  | inr old ↦
      let it = brought_by g root tree over' x' later' ears' before v old other in
      record { ear = it.ear; among = contains_later ear it.ear ears' it.among; new = it.new }
]
brought_by g root tree over x later ears (Turned over' x' y later' ears' before done) v c other =
    brought_by g root tree over' x' (y ∷ later') ears' before v (subst (λ (xs : List ℕ). Contains xs v) (turned over' x' y later') c) other

pub ear_of_node : (g : Topology) (root : ℕ) (tree : List TreeNode) (gadag : GadagLists) → AreFacts g root tree → (it : IsGadag g root tree gadag)
    → (v : ℕ) → v < length g.ids → v ≢ root → IsBroughtBy it.ears v
ear_of_node g root tree gadag facts it v within other =
    brought_by g root tree it.are_ears.before it.are_ears.last [] it.ears it.are_ears.ordered v
    (subst (λ (xs : List ℕ). Contains xs v) it.are_ears.whole (each_listed g root tree gadag.order it.ears facts it.are_ears v within)) other
