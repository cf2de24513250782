-- The links of an ear get their marks one by one.
use Rattle.std.proofs.Common.{◌≡◌, ◌≢◌, ◌<◌, ◌++◌, ◌∙◌, ℕ, Bool, List, [], ◌∷◌, Some, length, set, slice_get, inl, inr, sym, ap, subst, arith}
use Rattle.std.specs.Option.{option_map}
use Rattle.std.specs.Prelude.{Contains}
use Rattle.std.proofs.lemmas.Bool.{cases_eq}
use Rattle.std.proofs.lemmas.List.{length-set}
use Rattle.std.proofs.lemmas.List.Elements.{Contains-append_left, Contains-push, Contains-push_cases}
use Rattle.std.proofs.lemmas.Option.{same_Some}
use Rattle.mrt_graph.specs.declared.cert.Role.{Role}
use Rattle.mrt_graph.specs.declared.cert.Role.TheVariants.{Plain, Sole, Closing}
use Rattle.mrt_graph.specs.declared.gadag.Mark.{Mark}
use Rattle.mrt_graph.specs.declared.link.Link.{Link}
use Rattle.mrt_graph.specs.declared.tree.TreeNode.{TreeNode}
use Rattle.mrt_graph.specs.GadagFields.{role_at}
use Rattle.mrt_graph.specs.Topology.{Topology}
use Rattle.mrt_graph.proofs.ListPlaces.{set_elsewhere, set_there}
use Rattle.mrt_graph.proofs.Members.{contains_none}
use Rattle.gadag_ears.specs.declared.kind.EarKind.{EarKind}
use Rattle.gadag_ears.specs.steps.Ear.{ear_of}
use Rattle.gadag_ears.specs.Ear.{last_node, onward_link}
use Rattle.gadag_ears.specs.HeadAndBlock.{BeginsBlock}
use Rattle.gadag_ears.specs.LinkMarks.{IsLastOfBlock, IsOnEar, Onward, Out}
use Rattle.gadag_ears.specs.steps.Marking.{AreEarMarked, AreSetAlong, HasMark, IsMarkable, IsSetAway, mark_along}
use Rattle.gadag_ears.proofs.EarLast.{last_in}

directed_by : (g : Topology) (marks : List Mark) (v e : ℕ) (role : Role) → HasMark g marks v e role → IsSetAway g marks v e
directed_by g marks v e role has = (has.0, has.1, ap (λ o. option_map (λ mark. mark.way) o) has.2)

role_by : (g : Topology) (marks : List Mark) (v e : ℕ) (role : Role) → HasMark g marks v e role → role_at marks e ≡ Some role
role_by g marks v e role has = ap (λ o. option_map (λ mark. mark.role) o) has.2

-- the marks after one was set
pub mark_set : (g : Topology) (marks marks' : List Mark) (v e : ℕ) (link : Link) (role : Role) → length marks ≡ length g.links → e < length g.links
    → slice_get g.links e ≡ Some link → marks' ≡ set marks e (mark_along v link role) → HasMark g marks' v e role
mark_set g marks marks' v e link role one_each within is_link is =
    (link, is_link, ap (λ (xs : List Mark). slice_get xs e) is ∙ set_there marks e (mark_along v link role) (omega (arith, within, one_each)))

pub mark_elsewhere : (marks marks' : List Mark) (e d : ℕ) (mark : Mark) → marks' ≡ set marks e mark → d ≢ e → slice_get marks' d ≡ slice_get marks d
mark_elsewhere marks marks' e d mark is other = ap (λ (xs : List Mark). slice_get xs d) is ∙ set_elsewhere marks e d mark other

pub set_out : (g : Topology) (tree : List TreeNode) (kind : EarKind) (x link : ℕ) (marks marks' : List Mark) (it : Link) → length marks ≡ length g.links → link < length g.links
    → slice_get g.links link ≡ Some it → marks' ≡ set marks link (mark_along x it Plain) → AreSetAlong g tree kind x link [] marks marks'
set_out g tree kind x link marks marks' it one_each within is_link is = record {
  one_each = ap (λ (xs : List Mark). length xs) is ∙ length-set marks link (mark_along x it Plain);
  out = mark_set g marks marks' x link it Plain one_each within is_link is;
  along = λ v e none over. absurd (contains_none v none);
  others = λ e other none. mark_elsewhere marks marks' link e (mark_along x it Plain) is other;
}

has_still : (g : Topology) (marks marks' : List Mark) (v e : ℕ) (role : Role) → slice_get marks' e ≡ slice_get marks e → HasMark g marks v e role → HasMark g marks' v e role
has_still g marks marks' v e role same has = (has.0, has.1, same ∙ has.2)

pub set_more : (g : Topology) (tree : List TreeNode) (kind : EarKind) (x link : ℕ) (new some : List ℕ) (v e : ℕ) (marks marks' marks'' : List Mark) (it : Link) (begins : Bool)
    → IsMarkable g tree kind x link new begins → length marks ≡ length g.links → e < length g.links
    → ((u : ℕ) → Contains some u → Contains new u) → Contains new v → onward_link kind tree v ≡ Some e → e ≢ link
    → AreSetAlong g tree kind x link some marks marks' → slice_get g.links e ≡ Some it → marks'' ≡ set marks' e (mark_along v it Plain)
    → AreSetAlong g tree kind x link (some ++ v ∷ []) marks marks''
set_more g tree kind x link new some v e marks marks' marks'' it begins can one_each within in_new v_new over other are is_link is = record {
  one_each = ap (λ (xs : List Mark). length xs) is ∙ length-set marks' e (mark_along v it Plain) ∙ are.one_each;
  out = has_still g marks' marks'' x link Plain (mark_elsewhere marks' marks'' e link (mark_along v it Plain) is (λ same. other (sym same))) are.out;
  along = λ u d c u_over. elim (Contains-push_cases some v u c) [
    | inr same ↦
        let d_is : d ≡ e = same_Some d e (sym u_over ∙ ap (λ (w : ℕ). onward_link kind tree w) (sym same) ∙ over) in
        subst (λ (w : ℕ). HasMark g marks'' w d Plain) same (subst (λ (f : ℕ). HasMark g marks'' v f Plain) (sym d_is) here)
    | inl before ↦ elim (cases_eq d e) [
      | inr differs ↦ has_still g marks' marks'' u d Plain (mark_elsewhere marks' marks'' e d (mark_along v it Plain) is differs) (are.along u d before u_over)
      | inl d_is ↦
          let u_is : v ≡ u = can.differ v u e v_new (in_new u before) over (u_over ∙ ap (λ (f : ℕ). Some f) d_is) in
          subst (λ (w : ℕ). HasMark g marks'' w d Plain) u_is (subst (λ (f : ℕ). HasMark g marks'' v f Plain) (sym d_is) here)
    ]
  ];
  others = λ d not_link none.
      let not_e : d ≢ e = λ same. none v (at_end some v) (over ∙ ap (λ (f : ℕ). Some f) (sym same)) in
      mark_elsewhere marks' marks'' e d (mark_along v it Plain) is not_e ∙ are.others d not_link (λ u c. none u (before_end some v u c));
}
  where
    here : HasMark g marks'' v e Plain
    here = mark_set g marks' marks'' v e it Plain (are.one_each ∙ one_each) within is_link is

    at_end : (xs : List ℕ) (y : ℕ) → Contains (xs ++ y ∷ []) y
    at_end xs y = Contains-push xs y

    before_end : (xs : List ℕ) (y u : ℕ) → Contains xs u → Contains (xs ++ y ∷ []) u
    before_end xs y u c = Contains-append_left xs (y ∷ []) u c

-- an ear that begins no block
pub marked_open : (g : Topology) (tree : List TreeNode) (kind : EarKind) (x link first : ℕ) (others : List ℕ) (stop : ℕ) (marks marks' : List Mark)
    → ¬ BeginsBlock (ear_of kind x link first others stop) → AreSetAlong g tree kind x link (first ∷ others) marks marks'
    → AreEarMarked g tree (ear_of kind x link first others stop) marks marks'
marked_open g tree kind x link first others stop marks marks' joins are = record {
  one_each = are.one_each;
  out = directed_by g marks' x link Plain are.out;
  onward = λ v e more new over. directed_by g marks' v e Plain (are.along v e new over);
  sole = λ one. absurd (joins one.begins);
  closing = λ e last other. absurd (joins last.begins);
  plain = λ v e on other. plain v e on;
  others = λ e none. are.others e (λ same. none x (subst (λ (d : ℕ). IsOnEar tree (ear_of kind x link first others stop) x d) (sym same) Out))
      (λ v c over. none v (Onward v e c over));
}
  where
    plain : (v e : ℕ) → IsOnEar tree (ear_of kind x link first others stop) v e → role_at marks' e ≡ Some Plain
    plain v e Out = role_by g marks' x link Plain are.out
    plain v e (Onward u d new over) = role_by g marks' u d Plain (are.along u d new over)

-- an ear that begins a block of more than one link
pub marked_closed : (g : Topology) (tree : List TreeNode) (kind : EarKind) (x link first : ℕ) (others : List ℕ) (stop last : ℕ) (marks marks' marks'' : List Mark) (it : Link)
    → (begins : BeginsBlock (ear_of kind x link first others stop)) → onward_link kind tree (last_node first others) ≡ Some last → last ≢ link
    → ((v w e : ℕ) → Contains (first ∷ others) v → Contains (first ∷ others) w → onward_link kind tree v ≡ Some e → onward_link kind tree w ≡ Some e → v ≡ w)
    → length marks ≡ length g.links → last < length g.links → slice_get g.links last ≡ Some it
    → AreSetAlong g tree kind x link (first ∷ others) marks marks' → marks'' ≡ set marks' last (mark_along (last_node first others) it Closing)
    → AreEarMarked g tree (ear_of kind x link first others stop) marks marks''
marked_closed g tree kind x link first others stop last marks marks' marks'' it begins over other differ one_each within is_link are is = record {
  one_each = ap (λ (xs : List Mark). length xs) is ∙ length-set marks' last (mark_along (last_node first others) it Closing) ∙ are.one_each;
  out = directed_by g marks'' x link Plain (has_still g marks' marks'' x link Plain (still link (λ same. other (sym same))) are.out);
  onward = λ v e more new v_over. elim (cases_eq e last) [
    | inr differs ↦ directed_by g marks'' v e Plain (has_still g marks' marks'' v e Plain (still e differs) (are.along v e new v_over))
    | inl same ↦
        let v_is : last_node first others ≡ v = differ (last_node first others) v last (last_in first others) new over (v_over ∙ ap (λ (f : ℕ). Some f) same) in
        directed_by g marks'' v e Closing (subst (λ (w : ℕ). HasMark g marks'' w e Closing) v_is (subst (λ (f : ℕ). HasMark g marks'' (last_node first others) f Closing) (sym same) here))
  ];
  sole = λ one. absurd (other (same_Some last link (sym over ∙ one.last)));
  closing = λ e e_last not_link.
      let same : last ≡ e = same_Some last e (sym over ∙ e_last.last) in
      subst (λ (f : ℕ). role_at marks'' f ≡ Some Closing) same (role_by g marks'' (last_node first others) last Closing here);
  plain = λ v e on not_last. plain v e on (λ same. not_last (record { begins = begins; last = over ∙ ap (λ (f : ℕ). Some f) (sym same) }));
  others = λ e none.
      let not_last : e ≢ last = λ same. none (last_node first others) (Onward (last_node first others) e (last_in first others) (over ∙ ap (λ (f : ℕ). Some f) (sym same))) in
      still e not_last ∙ are.others e (λ same. none x (subst (λ (d : ℕ). IsOnEar tree (ear_of kind x link first others stop) x d) (sym same) Out))
      (λ v c v_over. none v (Onward v e c v_over));
}
  where
    still : (e : ℕ) → e ≢ last → slice_get marks'' e ≡ slice_get marks' e
    still e differs = mark_elsewhere marks' marks'' last e (mark_along (last_node first others) it Closing) is differs

    here : HasMark g marks'' (last_node first others) last Closing
    here = mark_set g marks' marks'' (last_node first others) last it Closing (are.one_each ∙ one_each) within is_link is

    plain : (v e : ℕ) → IsOnEar tree (ear_of kind x link first others stop) v e → e ≢ last → role_at marks'' e ≡ Some Plain
    plain v e Out differs = role_by g marks'' x link Plain (has_still g marks' marks'' x link Plain (still link differs) are.out)
    plain v e (Onward u d new u_over) differs = role_by g marks'' u d Plain (has_still g marks' marks'' u d Plain (still d differs) (are.along u d new u_over))

-- the one link of a block
pub marked_sole : (g : Topology) (tree : List TreeNode) (kind : EarKind) (x link first : ℕ) (others : List ℕ) (stop : ℕ) (marks marks' : List Mark) (it : Link)
    → (begins : BeginsBlock (ear_of kind x link first others stop)) → onward_link kind tree (last_node first others) ≡ Some link
    → ((v : ℕ) → Contains (first ∷ others) v → v ≡ last_node first others)
    → length marks ≡ length g.links → link < length g.links → slice_get g.links link ≡ Some it → marks' ≡ set marks link (mark_along x it Sole)
    → AreEarMarked g tree (ear_of kind x link first others stop) marks marks'
marked_sole g tree kind x link first others stop marks marks' it begins over alone one_each within is_link is = record {
  one_each = ap (λ (xs : List Mark). length xs) is ∙ length-set marks link (mark_along x it Sole);
  out = directed_by g marks' x link Sole here;
  onward = λ v e more new v_over. absurd (more (record { begins = begins; last = over }));
  sole = λ one. role_by g marks' x link Sole here;
  closing = λ e last other. absurd (other (same_Some e link (sym last.last ∙ over)));
  plain = λ v e on not_last. absurd (all_last v e on not_last);
  others = λ e none. mark_elsewhere marks marks' link e (mark_along x it Sole) is
      (λ same. none x (subst (λ (d : ℕ). IsOnEar tree (ear_of kind x link first others stop) x d) (sym same) Out));
}
  where
    here : HasMark g marks' x link Sole
    here = mark_set g marks marks' x link it Sole one_each within is_link is

    all_last : (v e : ℕ) → IsOnEar tree (ear_of kind x link first others stop) v e → ¬ IsLastOfBlock tree (ear_of kind x link first others stop) e → ⊥
    all_last v e Out not_last = not_last (record { begins = begins; last = over })
    all_last v e (Onward u d new u_over) not_last =
        not_last (record { begins = begins; last = subst (λ (w : ℕ). onward_link kind tree w ≡ Some d) (alone u new) u_over })
