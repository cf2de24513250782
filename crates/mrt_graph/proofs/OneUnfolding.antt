-- The rows that are not Carried, and the nodes, fix all rows of a foldable certificate.
use Rattle.std.proofs.Common.{◌≡◌, ◌≢◌, ◌∙◌, ◌==◌, ◌<◌, ◌*◌, ◌-◌, nat_lt, ℕ, zero, suc, true, false, not, List, [], ◌∷◌, Option, Some, None, filter, length, slice_get, inl, inr, refl, sym, ap, subst, arith}
use Rattle.std.proofs.lemmas.Bool.{and_parts, cases_Bool, cases_eq, eq-eqb, eqb-true, ltb-true, ne_eqb, false≢true, false_from_ne_true}
use Rattle.std.proofs.lemmas.List.{same_lists}
use Rattle.std.proofs.lemmas.Option.{get_or_from_slice_get, same_Some}
use Rattle.std.specs.Option.{option_and_then}
use Rattle.mrt_graph.specs.declared.cert.CertLink.{CertLink}
use Rattle.mrt_graph.specs.declared.cert.CertNode.{CertNode}
use Rattle.mrt_graph.specs.declared.cert.Row.{Row}
use Rattle.mrt_graph.specs.declared.cert.Tag.TheVariants.{Carried}
use Rattle.mrt_graph.specs.BothThere.{are_equal}
use Rattle.mrt_graph.specs.Certificate.{Certificate, are_two, certificate_of, row_of}
use Rattle.mrt_graph.specs.CertFields.{head_of}
use Rattle.mrt_graph.specs.Foldable.{IsFoldable, comes_to, in_chain, is_folded, is_own_head}
use Rattle.mrt_graph.specs.Tags.{is_near, same_tag}
use Rattle.mrt_graph.specs.Related.{are_unrelated, carrier}
use Rattle.mrt_graph.specs.RowPlace.{place_of_row}
use Rattle.mrt_graph.specs.RowRules.{same_links}
use Rattle.mrt_graph.proofs.FirstPlaces.{one_first}
use Rattle.mrt_graph.proofs.ListTests.{some_passes, there}
use Rattle.mrt_graph.proofs.Relations.{not_with_head, unrelated_tells}
use Rattle.mrt_graph.proofs.RowPlaces.{placed, row_at}
use Rattle.mrt_graph.proofs.TestFacts.{row_of_two, tag_is, unless}

-- where two lists are alike in which rows are near, and have the same near rows, the near rows stand at the same places
same_near : (xs ys : List Row) → length xs ≡ length ys
    → ((k : ℕ) (x y : Row) → slice_get xs k ≡ Some x → slice_get ys k ≡ Some y → is_near x ≡ is_near y)
    → filter is_near xs ≡ filter is_near ys
    → (k : ℕ) (x y : Row) → slice_get xs k ≡ Some x → slice_get ys k ≡ Some y → is_near x ≡ true → x ≡ y
same_near [] ys count alike same k x y x_is y_is near = cc
same_near (a ∷ xs) [] count alike same k x y x_is y_is near = cc
same_near (a ∷ xs) (b ∷ ys) count alike same k x y x_is y_is near = elim (cases_Bool (is_near a)) [
  | inl passes ↦
      let other : is_near b ≡ true = sym (alike 0 a b refl refl) ∙ passes in
      let both : a ∷ filter is_near xs ≡ b ∷ filter is_near ys = rw (passes, other) at same in
      let first : a ≡ b = cc in
      let rest : filter is_near xs ≡ filter is_near ys = cc in
      here k x_is y_is first (λ j x_at y_at. same_near xs ys (omega (arith, count)) (λ i p q. alike (suc i) p q) rest j x y x_at y_at near)
  | inr fails ↦
      let other : is_near b ≡ false = sym (alike 0 a b refl refl) ∙ fails in
      let rest : filter is_near xs ≡ filter is_near ys = rw (fails, other) at same in
      later k x_is y_is fails (λ j x_at y_at. same_near xs ys (omega (arith, count)) (λ i p q. alike (suc i) p q) rest j x y x_at y_at near)
]
  where
    here : (k : ℕ) → slice_get (a ∷ xs) k ≡ Some x → slice_get (b ∷ ys) k ≡ Some y → a ≡ b
        → ((j : ℕ) → slice_get xs j ≡ Some x → slice_get ys j ≡ Some y → x ≡ y) → x ≡ y
    here zero x_at y_at first rest = sym (same_Some a x x_at) ∙ first ∙ same_Some b y y_at
    here (suc j) x_at y_at first rest = rest j x_at y_at

    later : (k : ℕ) → slice_get (a ∷ xs) k ≡ Some x → slice_get (b ∷ ys) k ≡ Some y → is_near a ≡ false
        → ((j : ℕ) → slice_get xs j ≡ Some x → slice_get ys j ≡ Some y → x ≡ y) → x ≡ y
    later zero x_at y_at fails rest = absurd (false≢true (sym fails ∙ ap is_near (same_Some a x x_at) ∙ near))
    later (suc j) x_at y_at fails rest = rest j x_at y_at

-- the chain goes on from the head
pub chain_shift : (c : Certificate) (k a : ℕ) → in_chain c (suc k) a ≡ option_and_then (in_chain c k) (head_of c a)
chain_shift c zero a = go (head_of c a)
  where
    go : (o : Option ℕ) → o ≡ option_and_then (in_chain c zero) o
    go None = refl
    go (Some h) = refl
chain_shift c (suc k) a = ap (option_and_then (head_of c)) (chain_shift c k a) ∙ go (head_of c a)
  where
    go : (o : Option ℕ) → option_and_then (head_of c) (option_and_then (in_chain c k) o) ≡ option_and_then (in_chain c (suc k)) o
    go None = refl
    go (Some h) = refl

equal_some : (o : Option ℕ) (k : ℕ) → are_equal o (Some k) ≡ true → o ≡ Some k
equal_some None k e = absurd (false≢true e)
equal_some (Some x) k e = ap (λ (y : ℕ). Some y) (eqb-true x k e)

-- a node that is its own head is its head
pub own_head : (c : Certificate) (a : ℕ) → is_own_head c a ≡ true → head_of c a ≡ Some a
own_head c a own = equal_some (head_of c a) a own

-- a chain that comes to r ends there
pub chain_ends : (c : Certificate) (r a : ℕ) → comes_to c r a ≡ true → in_chain c (length c.nodes) a ≡ Some r
chain_ends c r a comes = equal_some (in_chain c (length c.nodes) a) r comes

-- a row of two nodes, and how it is folded
pub record Folded (c : Certificate) (r s t : ℕ) : Type 0 where
  pub row : Row
  pub is : row_of c s t ≡ Some row
  pub folds : is_folded c r s t row ≡ true

pub folded_at : (c : Certificate) (f : IsFoldable c) (s t : ℕ) → s < length c.nodes → t < length c.nodes → s ≢ t → Folded c f.top s t
folded_at c f s t s_within t_within two =
    let p = some_passes (is_folded c f.top s t) (row_of c s t)
    (unless (s == t) _ (f.rows s t s_within t_within) (ne_eqb s t two)) in
    record { row = p.value; is = p.is; folds = p.passes }

-- a row is near where its nodes are related
pub near_told : (c : Certificate) (r s t : ℕ) (row : Row) → is_folded c r s t row ≡ true → is_near row ≡ not (are_unrelated c s t)
near_told c r s t row folds = elim (cases_Bool (are_unrelated c s t)) [
  | inl far ↦ let tests = rw far at folds in ap not ((and_parts (same_tag row.tag Carried) _ tests).0) ∙ sym (ap not far)
  | inr near ↦ let tests = rw near at folds in tests ∙ sym (ap not near)
]

-- a far row has the links of the row for the carrier
pub record Carries (c : Certificate) (s h : ℕ) (row : Row) : Type 0 where
  pub other : Row
  pub is : row_of c s h ≡ Some other
  pub blue : row.blue ≡ other.blue
  pub red : row.red ≡ other.red

pub carries : (c : Certificate) (r s t h : ℕ) (row : Row) → is_folded c r s t row ≡ true → are_unrelated c s t ≡ true
    → carrier c r s t ≡ Some h → Carries c s h row
carries c r s t h row folds far by =
    let tests = rw far at folds in
    let links = (and_parts (same_tag row.tag Carried) _ tests).1 in
    let p = some_passes (same_links row) (option_and_then (row_of c s) (carrier c r s t)) links in
    let both = and_parts (row.blue == p.value.blue) _ p.passes in
    record {
      other = p.value;
      is = sym (ap (option_and_then (row_of c s)) by) ∙ p.is;
      blue = eqb-true row.blue p.value.blue both.0;
      red = eqb-true row.red p.value.red both.1;
    }

pub carried_tag : (c : Certificate) (r s t : ℕ) (row : Row) → is_folded c r s t row ≡ true → are_unrelated c s t ≡ true → row.tag ≡ Carried
carried_tag c r s t row folds far =
    let tests = rw far at folds in tag_is row.tag Carried (and_parts (same_tag row.tag Carried) _ tests).0

same_row_words : (x y : Row) → x.blue ≡ y.blue → x.red ≡ y.red → x.tag ≡ y.tag → x ≡ y
same_row_words x y blue red tag = λ i. record { blue = blue i; red = red i; tag = tag i }

none_is_none : {X : Type 0} (x : X) → ◌≡◌ {A = Option X} None (Some x) → ⊥
none_is_none x e = cc

-- a row is one of two nodes that are there
pub record Pair (c : Certificate) (s t : ℕ) : Type 0 where
  pub first : s < length c.nodes
  pub second : t < length c.nodes
  pub differ : s ≢ t

pub pair_of_row : (c : Certificate) (s t : ℕ) (row : Row) → row_of c s t ≡ Some row → Pair c s t
pair_of_row c s t row is = elim (cases_Bool (are_two (length c.nodes) s t)) [
  | inl two ↦
      let one = and_parts (nat_lt s (length c.nodes)) _ two in
      let other = and_parts (nat_lt t (length c.nodes)) _ one.1 in
      record { first = ltb-true s (length c.nodes) one.0; second = ltb-true t (length c.nodes) other.0; differ = row_of_two c s t row is }
  | inr fails ↦ let none : ◌≡◌ {A = Option Row} None (Some row) = rw fails at is in absurd (none_is_none row none)
]

-- a carrier is there
pub carrier_there : (c : Certificate) (r s t : ℕ) (row : Row) → is_folded c r s t row ≡ true → are_unrelated c s t ≡ true
    → (h : ℕ) × (carrier c r s t ≡ Some h)
carrier_there c r s t row folds far = go (carrier c r s t) refl
  where
    go : (o : Option ℕ) → carrier c r s t ≡ o → (h : ℕ) × (carrier c r s t ≡ Some h)
    go (Some h) is = (h, is)
    go None is =
        let tests = rw far at folds in
        let links = (and_parts (same_tag row.tag Carried) _ tests).1 in
        let p = some_passes (same_links row) (option_and_then (row_of c s) (carrier c r s t)) links in
        let none : option_and_then (row_of c s) (carrier c r s t) ≡ None = ap (option_and_then (row_of c s)) is in
        absurd (none_is_none p.value (sym none ∙ p.is))

pub carrier_far : (c : Certificate) (r s t : ℕ) → t ≢ r → carrier c r s t ≡ head_of c t
carrier_far c r s t other = rw (ne_eqb t r other) refl

pub carrier_home : (c : Certificate) (r s t : ℕ) → t ≡ r → carrier c r s t ≡ head_of c s
carrier_home c r s t same = rw (eq-eqb t r same) refl

-- a node and its head are related
pub under_head : (c : Certificate) (s h : ℕ) → head_of c s ≡ Some h → are_unrelated c s h ≡ false
under_head c s h is = false_from_ne_true (are_unrelated c s h) (λ far. not_with_head c s h is (unrelated_tells c s h far))

module _ (nodes : List CertNode) (links more : List CertLink) (rows others : List Row)
    (count : length rows ≡ length nodes * (length nodes - 1)) (other_count : length others ≡ length nodes * (length nodes - 1))
    (folds : IsFoldable (certificate_of nodes links rows)) (other_folds : IsFoldable (certificate_of nodes more others))
    (same : filter is_near rows ≡ filter is_near others) where
  abbrev a : Certificate
  a = certificate_of nodes links rows

  abbrev b : Certificate
  b = certificate_of nodes more others

  abbrev n : ℕ
  n = length nodes

  one_top : folds.top ≡ other_folds.top
  one_top = one_first _ n folds.top other_folds.top folds.least other_folds.least

  both_folded : (s t : ℕ) → s < n → t < n → s ≢ t → Folded a folds.top s t × Folded b folds.top s t
  both_folded s t s_within t_within two = (
    folded_at a folds s t s_within t_within two,
    subst (λ (r : ℕ). Folded b r s t) (sym one_top) (folded_at b other_folds s t s_within t_within two),
  )

  alike : (k : ℕ) (x y : Row) → slice_get rows k ≡ Some x → slice_get others k ≡ Some y → is_near x ≡ is_near y
  alike k x y x_is y_is =
      let within : k < n * (n - 1) = subst (λ (m : ℕ). k < m) count (there_within rows k x x_is) in
      let at = placed n k within in
      let both = both_folded at.source at.target at.source_within at.target_within at.two in
      let x_row : row_of a at.source at.target ≡ Some x =
      row_at a n at.source at.target refl at.source_within at.target_within at.two ∙ ap (slice_get rows) at.place ∙ x_is in
      let y_row : row_of b at.source at.target ≡ Some y =
      row_at b n at.source at.target refl at.source_within at.target_within at.two ∙ ap (slice_get others) at.place ∙ y_is in
      let x_same : both.0.row ≡ x = same_Some both.0.row x (sym both.0.is ∙ x_row) in
      let y_same : both.1.row ≡ y = same_Some both.1.row y (sym both.1.is ∙ y_row) in
      sym (ap is_near x_same) ∙ near_told a folds.top at.source at.target both.0.row both.0.folds
      ∙ sym (near_told b folds.top at.source at.target both.1.row both.1.folds) ∙ ap is_near y_same
    where
      there_within : (xs : List Row) (k : ℕ) (x : Row) → slice_get xs k ≡ Some x → k < length xs
      there_within [] k x is = cc
      there_within (x ∷ xs) zero y is = omega arith
      there_within (x ∷ xs) (suc k) y is = omega (arith, there_within xs k y is)

  related_same : (s t : ℕ) → s < n → t < n → s ≢ t → are_unrelated a s t ≡ false → row_of a s t ≡ row_of b s t
  related_same s t s_within t_within two near =
      let both = both_folded s t s_within t_within two in
      let x_at : slice_get rows (place_of_row n s t) ≡ Some both.0.row = sym (row_at a n s t refl s_within t_within two) ∙ both.0.is in
      let y_at : slice_get others (place_of_row n s t) ≡ Some both.1.row = sym (row_at b n s t refl s_within t_within two) ∙ both.1.is in
      let is : is_near both.0.row ≡ true = near_told a folds.top s t both.0.row both.0.folds ∙ ap not near in
      both.0.is ∙ ap (λ (row : Row). Some row)
      (same_near rows others (count ∙ sym other_count) alike same (place_of_row n s t) both.0.row both.1.row x_at y_at is)
      ∙ sym both.1.is

  carried_same : (s t h : ℕ) → s < n → t < n → s ≢ t → are_unrelated a s t ≡ true → carrier a folds.top s t ≡ Some h
      → (s < n → h < n → s ≢ h → row_of a s h ≡ row_of b s h) → row_of a s t ≡ row_of b s t
  carried_same s t h s_within t_within two far by carried =
      let both = both_folded s t s_within t_within two in
      let one = carries a folds.top s t h both.0.row both.0.folds far by in
      let other = carries b folds.top s t h both.1.row both.1.folds far by in
      let pair = pair_of_row a s h one.other one.is in
      let equal : one.other ≡ other.other = same_Some one.other other.other (sym one.is ∙ carried pair.first pair.second pair.differ ∙ other.is) in
      both.0.is ∙ ap (λ (row : Row). Some row)
      (same_row_words both.0.row both.1.row
      (one.blue ∙ ap (λ (row : Row). row.blue) equal ∙ sym other.blue)
      (one.red ∙ ap (λ (row : Row). row.red) equal ∙ sym other.red)
      (carried_tag a folds.top s t both.0.row both.0.folds far ∙ sym (carried_tag b folds.top s t both.1.row both.1.folds far)))
      ∙ sym both.1.is

  home_same : (s : ℕ) → s < n → folds.top < n → s ≢ folds.top → row_of a s folds.top ≡ row_of b s folds.top
  home_same s s_within top_within two = elim (cases_Bool (are_unrelated a s folds.top)) [
    | inr near ↦ related_same s folds.top s_within top_within two near
    | inl far ↦
        let it = folded_at a folds s folds.top s_within top_within two in
        let h = carrier_there a folds.top s folds.top it.row it.folds far in
        carried_same s folds.top h.0 s_within top_within two far h.1
        (λ s_in h_in differ. related_same s h.0 s_in h_in differ
        (under_head a s h.0 (sym (carrier_home a folds.top s folds.top refl) ∙ h.1)))
  ]

  -- where the rows for the carrier are the same, so are these; and where t is the top
  step_same : (t : ℕ) → ((h : ℕ) → head_of a t ≡ Some h → t ≢ folds.top → (s : ℕ) → s < n → h < n → s ≢ h → row_of a s h ≡ row_of b s h)
      → (s : ℕ) → s < n → t < n → s ≢ t → row_of a s t ≡ row_of b s t
  step_same t above s s_within t_within two = elim (cases_eq t folds.top) [
    | inl home ↦ subst (λ (x : ℕ). row_of a s x ≡ row_of b s x) (sym home)
        (home_same s s_within (subst (λ (x : ℕ). x < n) home t_within) (λ e. two (e ∙ sym home)))
    | inr away ↦ elim (cases_Bool (are_unrelated a s t)) [
      | inr near ↦ related_same s t s_within t_within two near
      | inl far ↦
          let it = folded_at a folds s t s_within t_within two in
          let h = carrier_there a folds.top s t it.row it.folds far in
          carried_same s t h.0 s_within t_within two far h.1
          (λ s_in h_in differ. above h.0 (sym (carrier_far a folds.top s t away) ∙ h.1) away s s_in h_in differ)
    ]
  ]

  chain_same : (k t : ℕ) → in_chain a k t ≡ Some folds.top → (s : ℕ) → s < n → t < n → s ≢ t → row_of a s t ≡ row_of b s t
  chain_same zero t comes = step_same t (λ h head away. absurd (away (same_Some t folds.top comes)))
  chain_same (suc k) t comes = step_same t (λ h head away.
      chain_same k h (sym (chain_shift a k t ∙ ap (option_and_then (in_chain a k)) head) ∙ comes))

  pub one_unfolding : rows ≡ others
  one_unfolding = same_lists rows others (count ∙ sym other_count) (λ k d within.
      let at = placed n k (subst (λ (m : ℕ). k < m) count within) in
      let rows_same = chain_same n at.target (chain_ends a folds.top at.target (folds.chains at.target at.target_within)) at.source at.source_within at.target_within at.two in
      let here : slice_get rows k ≡ slice_get others k =
      subst (λ (x : ℕ). slice_get rows x ≡ slice_get others x) at.place
      (sym (row_at a n at.source at.target refl at.source_within at.target_within at.two) ∙ rows_same
      ∙ row_at b n at.source at.target refl at.source_within at.target_within at.two) in
      let x = there rows k within in
      get_or_from_slice_get rows k x.0 d x.1 ∙ sym (get_or_from_slice_get others k x.0 d (sym here ∙ x.1)))
