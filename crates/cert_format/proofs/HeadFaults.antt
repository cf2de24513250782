-- Heads are not at fault exactly where each chain comes to the least node that is its own head.
use Rattle.std.proofs.Common.{◌≡◌, ◌∙◌, ◌==◌, ◌<◌, ◌+◌, ◌/◌, ◌%◌, ℕ, zero, suc, Bool, true, false, not, List, [], Option, Some, None, length, slice_get, get_or, inl, inr, refl, sym, ap, arith}
use Rattle.std.proofs.lemmas.Bool.{cases_eq, ne_eqb, not-true}
use Rattle.std.proofs.lemmas.Option.{same_Some, slice_get_read}
use Rattle.std.specs.List.{AllByRecursion}
use Rattle.std.specs.Prelude.{if◌then◌else◌}
use Rattle.std.specs.Option.{option_and_then, option_map, option_map_or}
use Rattle.mrt_graph.specs.Certificate.{Certificate, IsCertNode, certificate_of}
use Rattle.mrt_graph.specs.CertFields.{head_of}
use Rattle.mrt_graph.specs.Foldable.{IsLeastOwnHead, comes_to, in_chain, is_own_head}
use Rattle.mrt_graph.specs.Places.{Each}
use Rattle.mrt_graph.specs.declared.cert.CertNode.{CertNode}
use Rattle.mrt_graph.proofs.FirstPlaces.{each_first}
use Rattle.mrt_graph.proofs.ListTests.{all_at}
use Rattle.cert_format.specs.Folded.{head_fault, least}

-- ---- the least number that passes a test

pub least_none : (test : ℕ → Bool) (n : ℕ) → ((x : ℕ) → x < n → test x ≡ false) → least test n ≡ None
least_none test zero none = refl
least_none test (suc n) none = rw (least_none test n (λ x below. none x (omega (arith, below))), none n (omega arith)) refl

pub least_is : (test : ℕ → Bool) (n a : ℕ) → a < n → test a ≡ true → ((x : ℕ) → x < a → test x ≡ false) → least test n ≡ Some a
least_is test zero a within passes before = absurd (omega (arith, within))
least_is test (suc n) a within passes before = elim (cases_eq a n) [
  | inl same ↦
      let none = least_none test n (λ x below. before x (omega (arith, below, same))) in
      let here : test n ≡ true = ap test (sym same) ∙ passes in
      rw (none, here) (ap (λ (x : ℕ). Some x) (sym same))
  | inr other ↦ rw (least_is test n a (omega (arith, within, other)) passes before) refl
]

pub least_alike : (p q : ℕ → Bool) (n : ℕ) → ((x : ℕ) → x < n → p x ≡ q x) → least p n ≡ least q n
least_alike p q zero same = refl
least_alike p q (suc n) same = rw (least_alike p q n (λ x below. same x (omega (arith, below))), same n (omega arith)) refl

-- ---- sound heads

-- each chain of heads comes to the least node that is its own head
pub record AreHeadsSound (c : Certificate) : Type 0 where
  pub top : ℕ
  pub least : IsLeastOwnHead c top
  pub chains : Each (comes_to c top) (length c.nodes)

not_false : (b : Bool) → not b ≡ false → b ≡ true
not_false true e = refl
not_false false e = absurd cc

-- the fault, where the top is known
under_top : (c : Certificate) (top : ℕ) → IsLeastOwnHead c top → head_fault c ≡ least (λ a. not (comes_to c top a)) (length c.nodes)
under_top c top own =
    ap (λ (o : Option ℕ). option_map_or (λ r. least (λ a. not (comes_to c r a)) (length c.nodes)) o (Some 0))
    (least_is (is_own_head c) (length c.nodes) top own.within (not_false (is_own_head c top) own.fails) (λ x below. not-true (is_own_head c x) (own.before x below)))

pub heads_sound : (c : Certificate) → head_fault c ≡ None → AreHeadsSound c
heads_sound c none = elim (each_first (λ a. not (is_own_head c a)) (length c.nodes)) [
  | inl each ↦
      let fault : head_fault c ≡ Some 0 = rw (least_none (is_own_head c) (length c.nodes) (λ x below. not-true (is_own_head c x) (each x below))) refl in
      absurd cc
  | inr own ↦ elim (each_first (comes_to c own.0) (length c.nodes)) [
    | inl chains ↦ record { top = own.0; least = own.1; chains = chains }
    | inr stray ↦
        let fault : head_fault c ≡ Some stray.0 = under_top c own.0 own.1
        ∙ least_is (λ a. not (comes_to c own.0 a)) (length c.nodes) stray.0 stray.1.within (ap not stray.1.fails) (λ x below. ap not (stray.1.before x below)) in
        absurd cc
  ]
]

pub no_head_fault : (c : Certificate) → AreHeadsSound c → head_fault c ≡ None
no_head_fault c sound = under_top c sound.top sound.least ∙ least_none (λ a. not (comes_to c sound.top a)) (length c.nodes) (λ x below. ap not (sound.chains x below))

-- ---- chains of heads, step by step

-- a node that was read
pub head_read : (nodes : List CertNode) (v : ℕ) (node : CertNode) → v < length nodes → node ≡ get_or nodes v node → head_of (certificate_of nodes [] []) v ≡ Some node.head
head_read nodes v node within is = ap (option_map (λ it. it.head)) (slice_get_read nodes (length nodes) v node refl within is)

-- a chain stays among the nodes
pub chain_within : (nodes : List CertNode) (k v x : ℕ) → AllByRecursion (IsCertNode (length nodes)) nodes → v < length nodes → in_chain (certificate_of nodes [] []) k v ≡ Some x → x < length nodes
chain_within nodes zero v x kept within is = omega (arith, within, same_Some v x is)
chain_within nodes (suc k) v x kept within is = mid (in_chain (certificate_of nodes [] []) k v) is
  where
    end : (y : ℕ) (o : Option CertNode) → slice_get nodes y ≡ o → option_map (λ node. node.head) o ≡ Some x → x < length nodes
    end y None there head = absurd cc
    end y (Some node) there head = omega (arith, (all_at (IsCertNode (length nodes)) nodes y node kept there).head, same_Some node.head x head)

    mid : (o : Option ℕ) → option_and_then (head_of (certificate_of nodes [] [])) o ≡ Some x → x < length nodes
    mid None head = absurd cc
    mid (Some y) head = end y (slice_get nodes y) refl head

-- more steps
pub chain_on : (c : Certificate) (i j v x : ℕ) → in_chain c j v ≡ Some x → in_chain c (i + j) v ≡ in_chain c i x
chain_on c zero j v x is = let none : 0 + j ≡ j = omega arith in ap (λ (k : ℕ). in_chain c k v) none ∙ is
chain_on c (suc i) j v x is =
    let one : suc i + j ≡ suc (i + j) = omega arith in
    ap (λ (k : ℕ). in_chain c k v) one ∙ ap (option_and_then (head_of c)) (chain_on c i j v x is)

-- twice as many steps, and one more where the number is odd
pub chain_twice : (c : Certificate) (steps v x y r : ℕ) → in_chain c (steps / 2) v ≡ Some x → in_chain c (steps / 2) x ≡ Some y
    → Some r ≡ (if steps % 2 == 0 then Some y else head_of c y) → in_chain c steps v ≡ Some r
chain_twice c steps v x y r one two last =
    let half = steps / 2 in
    let both : in_chain c (half + half) v ≡ Some y = chain_on c half half v x one ∙ two in
    elim (cases_eq (steps % 2) 0) [
      | inl even ↦
          let all : steps ≡ half + half = omega (arith, even) in
          let same : Some r ≡ Some y = rw even at last in
          ap (λ (k : ℕ). in_chain c k v) all ∙ both ∙ sym same
      | inr odd ↦
          let all : steps ≡ suc (half + half) = omega (arith, odd) in
          let same : Some r ≡ head_of c y = rw (ne_eqb (steps % 2) 0 odd) at last in
          ap (λ (k : ℕ). in_chain c k v) all ∙ ap (option_and_then (head_of c)) both ∙ sym same
    ]
