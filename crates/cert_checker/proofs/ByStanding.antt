-- Where each link and each node fits a table of a link for each block, the fifth and the sixth rule hold.
use Rattle.std.proofs.Common.{◌≡◌, ◌≢◌, ◌⊎◌, ◌∙◌, ◌==◌, ◌&&◌, ◌<◌, ℕ, zero, suc, Bool, true, not, List, [], ◌∷◌, Option, Some, None, filter, length, nat_le, slice_get, inl, inr, refl, sym, ap, subst, arith}
use Rattle.std.specs.List.{list_all}
use Rattle.std.specs.Option.{option_and_then}
use Rattle.std.proofs.lemmas.Bool.{and_from, and_parts, cases_Bool, cases_eq, eq-eqb, eqb-false, eqb-true, false≢true, le-leb, ne_eqb, not-true, or_cases, or_left, or_right}
use Rattle.std.proofs.lemmas.Option.{same_Some, slice_get_within}
use Rattle.cert_checker.specs.steps.Standing.{BlocksHold, FitsRole, HasOpen, IsOver, NodeFits, across, link_fits, standing}
use Rattle.mrt_graph.specs.declared.cert.CertLink.{CertLink}
use Rattle.mrt_graph.specs.declared.cert.CertNode.{CertNode}
use Rattle.mrt_graph.specs.declared.cert.Role.{Role}
use Rattle.mrt_graph.specs.declared.cert.Role.TheVariants.{Plain, Sole, Closing}
use Rattle.mrt_graph.specs.Certificate.{Certificate}
use Rattle.mrt_graph.specs.CertFields.{links_of, members}
use Rattle.mrt_graph.specs.HeadsAndBlocks.{HeadsHold, closed_unless_one_link, closings, is_greatest_of, joins_greatest, lone_if_one_link}
use Rattle.mrt_graph.specs.Roles.{is_closing, is_plain, is_sole}
use Rattle.mrt_graph.proofs.ListTests.{one_passes}
use Rattle.mrt_graph.proofs.TestFacts.{unless}

-- ---- what passes a test

none : {X : Type 0} (test : X → Bool) (xs : List X) → ((i : ℕ) (x : X) → slice_get xs i ≡ Some x → test x ≡ true → ⊥) → filter test xs ≡ []
none test [] never = refl
none test (y ∷ ys) never = elim (cases_Bool (test y)) [
  | inl passes ↦ absurd (never 0 y refl passes)
  | inr fails ↦ rw fails (none test ys (λ i x is passes. never (suc i) x is passes))
]

-- just one
only : {X : Type 0} (test : X → Bool) (xs : List X) (i : ℕ) (x : X) → slice_get xs i ≡ Some x → test x ≡ true
    → ((j : ℕ) (y : X) → slice_get xs j ≡ Some y → test y ≡ true → j ≡ i) → filter test xs ≡ x ∷ []
only test [] i x is passes alone = cc
only test (y ∷ ys) zero x is passes alone =
    let same : y ≡ x = same_Some y x is in
    let rest = none test ys (λ j z at holds. let far : suc j ≡ 0 = alone (suc j) z at holds in omega (arith, far)) in
    rw (ap test same ∙ passes, rest, same) refl
only test (y ∷ ys) (suc i) x is passes alone = elim (cases_Bool (test y)) [
  | inl holds ↦ let far : 0 ≡ suc i = alone 0 y refl holds in absurd (omega (arith, far))
  | inr fails ↦ rw fails (only test ys i x is passes (λ j z at holds. let same : suc j ≡ suc i = alone (suc j) z at holds in omega (arith, same)))
]

-- all that pass the one test pass the other
all_of : {X : Type 0} (test other : X → Bool) (xs : List X) → ((i : ℕ) (x : X) → slice_get xs i ≡ Some x → test x ≡ true → other x ≡ true)
    → list_all other (filter test xs) ≡ true
all_of test other [] each = refl
all_of test other (y ∷ ys) each = elim (cases_Bool (test y)) [
  | inl passes ↦ rw passes (and_from _ _ (each 0 y refl passes) (all_of test other ys (λ i x is holds. each (suc i) x is holds)))
  | inr fails ↦ rw fails (all_of test other ys (λ i x is holds. each (suc i) x is holds))
]

-- ---- the link that stands for a block

number_of : {X : Type 0} (xs : List X) (o : Option ℕ) (x : X) → option_and_then (slice_get xs) o ≡ Some x → (i : ℕ) × (o ≡ Some i) × (slice_get xs i ≡ Some x)
number_of xs None x is = cc
number_of xs (Some i) x is = (i, refl, is)

joins_far : (c : Certificate) (link : CertLink) (head far k : ℕ) → across link head ≡ Some far → is_greatest_of c k far ≡ true → joins_greatest c head k link ≡ true
joins_far c link head far k joins greatest = elim (cases_Bool (link.a == head)) [
  | inl is ↦
      let e : link.b ≡ far = same_Some link.b far (rw is at joins) in
      or_left _ _ (and_from _ _ is (subst (λ (x : ℕ). is_greatest_of c k x ≡ true) (sym e) greatest))
  | inr not_a ↦ elim (cases_Bool (link.b == head)) [
    | inl is ↦
        let e : link.a ≡ far = same_Some link.a far (rw (not_a, is) at joins) in
        or_right _ _ (and_from _ _ is (subst (λ (x : ℕ). is_greatest_of c k x ≡ true) (sym e) greatest))
    | inr not_b ↦ let e : ◌≡◌ {A = Option ℕ} None (Some far) = rw (not_a, not_b) at joins in absurd (cc)
  ]
]

module _ (c : Certificate) (root : ℕ) (table : List ℕ) (root_in : root < length c.nodes) (heads : HeadsHold c root)
    (links : (e : ℕ) → e < length c.links → link_fits c table e ≡ true) (nodes : (a : ℕ) → a < length c.nodes → a ≢ root → NodeFits c table a) where
  module _ (a : ℕ) (other : a ≢ root) (fits : NodeFits c table a) where
    abbrev k : ℕ
    k = fits.node.block

    -- the root does not lie in the block
    k_apart : k ≢ root
    k_apart =
        let is_placed = rw (ne_eqb a root other, fits.at) at (heads a (slice_get_within c.nodes a fits.node fits.at)).alone in
        eqb-false k root (not-true (k == root) (and_parts _ (not (k == root)) is_placed).1)

    not_root : (w : ℕ) (node : CertNode) → slice_get c.nodes w ≡ Some node → (node.block == k) ≡ true → w ≢ root
    not_root w node at lies = λ is.
        let at_root : slice_get c.nodes root ≡ Some node = subst (λ (x : ℕ). slice_get c.nodes x ≡ Some node) is at in
        let is_placed = rw (eq-eqb root root refl, at_root) at (heads root root_in).alone in
        k_apart (sym (eqb-true node.block k lies) ∙ eqb-true node.block root (and_parts (node.head == root) (node.block == root) is_placed).1)

    -- another node of the block has the same head, and the link that stands for the block suits it too
    peer : (role : Role) → fits.link.role ≡ role → (w : ℕ) (node : CertNode) → slice_get c.nodes w ≡ Some node → (node.block == k) ≡ true → FitsRole c w node fits.far role
    peer kind is w node at lies =
        let it = nodes w (slice_get_within c.nodes w node at) (not_root w node at lies) in
        let block : node.block ≡ k = eqb-true node.block k lies in
        let one = rw (fits.at, at) at ((heads a (slice_get_within c.nodes a fits.node fits.at)).beside w (slice_get_within c.nodes w node at)) in
        let head : fits.node.head ≡ node.head = eqb-true fits.node.head node.head (unless (not (k == node.block)) _ one (ap not (eq-eqb k node.block (sym block)))) in
        let same : it.node ≡ node = same_Some it.node node (sym it.at ∙ at) in
        let link : it.link ≡ fits.link = same_Some it.link fits.link (sym it.stands ∙ ap (λ (n : CertNode). standing c table n.block) same ∙ ap (standing c table) block ∙ fits.stands) in
        let far : it.far ≡ fits.far = same_Some it.far fits.far (sym it.joins ∙ ap (λ (l : CertLink). across l it.node.head) link
        ∙ ap (across fits.link) (ap (λ (n : CertNode). n.head) same ∙ sym head) ∙ fits.joins) in
        subst (λ (r : Role). FitsRole c w node fits.far r) (ap (λ (l : CertLink). l.role) link ∙ is) (subst (λ (x : ℕ). FitsRole c w node x it.link.role) far
        (subst (λ (n : CertNode). FitsRole c w n it.far it.link.role) same it.role))

    -- the number of that link
    number : (i : ℕ) × (slice_get table k ≡ Some i) × (slice_get c.links i ≡ Some fits.link)
    number = number_of c.links (slice_get table k) fits.link fits.stands

    -- a link of the block is that one; or it is plain, and that one is closing
    fit : (e : ℕ) (link : CertLink) → slice_get c.links e ≡ Some link → (link.block == k) ≡ true → (e ≡ number.0) ⊎ ((is_plain link.role ≡ true) × (is_closing fits.link.role ≡ true))
    fit e link at lies =
        let holds = rw (at, eqb-true link.block k lies, number.1, number.2) at (links e (slice_get_within c.links e link at)) in
        elim (or_cases (number.0 == e) _ holds) [
          | inl same ↦ inl (sym (eqb-true number.0 e same))
          | inr plain ↦ inr (and_parts (is_plain link.role) (is_closing fits.link.role) plain)
        ]

    own : (fits.link.block == k) ≡ true
    own = eq-eqb fits.link.block k fits.block

    abbrev Holds : Type 0
    Holds = (lone_if_one_link c k ≡ true) × (closed_unless_one_link c fits.node.head k ≡ true)

    sole : fits.link.role ≡ Sole → Holds
    sole role =
        let one : links_of c k ≡ fits.link ∷ [] = only (λ link. link.block == k) c.links number.0 fits.link number.2 own (λ e link at lies. elim (fit e link at lies) [
          | inl same ↦ same
          | inr plain ↦ absurd (false≢true (sym (ap is_closing role) ∙ plain.1))
        ]) in
        let here : fits.far ≡ a = peer Sole role a fits.node fits.at (eq-eqb k k refl) in
        let single : members c k ≡ fits.node ∷ [] = only (λ node. node.block == k) c.nodes a fits.node fits.at (eq-eqb k k refl)
        (λ w node at lies. sym (peer Sole role w node at lies) ∙ here) in
        (rw (one, single) (ap (λ (r : Role). is_sole r && true) role), rw one refl)

    closing : fits.link.role ≡ Closing → Holds
    closing role =
        let over : IsOver c fits.node fits.far = (peer Closing role a fits.node fits.at (eq-eqb k k refl)).0 in
        let top_lies : (over.top.block == k) ≡ true = eq-eqb over.top.block k over.block in
        let loose : HasOpen c over.top.block = (peer Closing role fits.far over.top over.at top_lies).1 refl in
        let closes : is_closing fits.link.role ≡ true = ap is_closing role in
        let two : length (links_of c k) ≢ 1 = λ one.
        let same = one_passes (λ link. link.block == k) c.links number.0 loose.number fits.link loose.link one number.2 own loose.at (eq-eqb loose.link.block k (loose.block ∙ over.block)) in
        let link : fits.link ≡ loose.link = same_Some fits.link loose.link (sym number.2 ∙ ap (slice_get c.links) same ∙ loose.at) in
        false≢true (sym loose.role ∙ ap (λ (l : CertLink). is_closing l.role) (sym link) ∙ closes) in
        let none_sole : list_all (λ link. not (is_sole link.role)) (links_of c k) ≡ true = all_of (λ link. link.block == k) (λ link. not (is_sole link.role)) c.links
        (λ e link at lies. elim (fit e link at lies) [
          | inl same ↦ not_sole link.role (inr (ap (λ (l : CertLink). is_closing l.role) (same_Some link fits.link (sym at ∙ ap (slice_get c.links) same ∙ number.2)) ∙ closes))
          | inr plain ↦ not_sole link.role (inl plain.0)
        ]) in
        let one : closings c k ≡ fits.link ∷ [] = only (λ link. (link.block == k) && is_closing link.role) c.links number.0 fits.link number.2 (and_from _ _ own closes)
        (λ e link at both. let parts = and_parts (link.block == k) (is_closing link.role) both in elim (fit e link at parts.0) [
          | inl same ↦ same
          | inr plain ↦ absurd (not_both link.role plain.0 parts.1)
        ]) in
        let greatest : is_greatest_of c k fits.far ≡ true = rw over.at (and_from _ _ top_lies (all_of (λ node. node.block == k) (λ node. nat_le node.order over.top.order) c.nodes
        (λ w node at lies.
        let up : IsOver c node fits.far = (peer Closing role w node at lies).0 in
        let top : up.top ≡ over.top = same_Some up.top over.top (sym up.at ∙ over.at) in
        le-leb node.order over.top.order (omega (arith, up.order, ap (λ (n : CertNode). n.order) top))))) in
        let joins = joins_far c fits.link fits.node.head fits.far k fits.joins greatest in
        (or_left _ _ (ap not (ne_eqb (length (links_of c k)) 1 two)), or_right _ _ (and_from _ _ none_sole (rw one (and_from _ _ joins refl))))
      where
        not_sole : (role : Role) → (is_plain role ≡ true) ⊎ (is_closing role ≡ true) → not (is_sole role) ≡ true
        not_sole Plain either = refl
        not_sole Closing either = refl
        not_sole Sole (inl plain) = plain
        not_sole Sole (inr closes) = closes

        not_both : (role : Role) → is_plain role ≡ true → is_closing role ≡ true → ⊥
        not_both Plain plain closes = false≢true closes
        not_both Sole plain closes = false≢true closes
        not_both Closing plain closes = false≢true plain

    holds : (role : Role) → fits.link.role ≡ role → Holds
    holds Plain is = absurd (peer Plain is a fits.node fits.at (eq-eqb k k refl))
    holds Sole is = sole is
    holds Closing is = closing is

  pub blocks : BlocksHold c root
  blocks = record {
    lone = λ a within. elim (cases_eq a root) [
      | inl is ↦ or_left (a == root) _ (eq-eqb a root is)
      | inr other ↦ let fits = nodes a within other in or_right (a == root) _ (rw fits.at (holds a other fits fits.link.role refl).0)
    ];
    closed = λ a within. elim (cases_eq a root) [
      | inl is ↦ or_left (a == root) _ (eq-eqb a root is)
      | inr other ↦ let fits = nodes a within other in or_right (a == root) _ (rw fits.at (holds a other fits fits.link.role refl).1)
    ];
  }
