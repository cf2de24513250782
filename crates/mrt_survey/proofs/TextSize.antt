-- How many bytes a database has: each link is an end of two routers.
use Rattle.std.proofs.Common.{◌≡◌, ◌≢◌, ◌≤◌, ◌+◌, ◌*◌, ◌++◌, ◌==◌, ℕ, zero, suc, true, false, List, [], ◌∷◌, length, map, refl, ap, inl, inr, arith}
use Rattle.std.specs.List.{enumerate_from, filter_map, range_with_len}
use Rattle.std.proofs.lemmas.Bool.{ne_eqb}
use Rattle.std.proofs.lemmas.Bool.Decides.{eqb_tells}
use Rattle.std.proofs.lemmas.List.{length-append}
use Rattle.ospf_lsa.specs.LsaText.{lsa_text, lsas_text}
use Rattle.mrt_graph.proofs.Tallies.{one_if}
use Rattle.mrt_survey.specs.declared.made_link.MadeLink.{MadeLink}
use Rattle.mrt_survey.specs.MadeLinks.{made_links}
use Rattle.mrt_survey.specs.MadeLsas.{end_at, lsa_of, made_lsas}
use Rattle.mrt_survey.proofs.EndsMade.{ends_text}
use Rattle.mrt_survey.proofs.LsasMade.{made_text}
use Rattle.mrt_survey.proofs.MadeBounds.{count_made}

-- the sum of what is told of so many numbers
abbrev pub total : (ℕ → ℕ) → ℕ → ℕ → ℕ
total f a zero = 0
total f a (suc n) = f a + total f (a + 1) n

total_least : (f g : ℕ → ℕ) → ((v : ℕ) → f v ≤ g v) → (a n : ℕ) → total f a n ≤ total g a n
total_least f g each a zero = omega arith
total_least f g each a (suc n) = let here = each a in let rest = total_least f g each (a + 1) n in omega (arith, here, rest)

total_sum : (f g : ℕ → ℕ) (a n : ℕ) → total (λ v. f v + g v) a n ≡ total f a n + total g a n
total_sum f g a zero = refl
total_sum f g a (suc n) = let rest = total_sum f g (a + 1) n in omega (arith, rest)

total_none : (f : ℕ → ℕ) (a n : ℕ) → ((v : ℕ) → a ≤ v → f v ≡ 0) → total f a n ≡ 0
total_none f a zero each = refl
total_none f a (suc n) each = let here = each a (omega arith) in let rest = total_none f (a + 1) n (λ v least. each v (omega (arith, least))) in omega (arith, here, rest)

-- a number is one of them at most once
abbrev is_number : ℕ → ℕ → ℕ
is_number x v = one_if (x == v)

total_one : (x a n : ℕ) → total (is_number x) a n ≤ 1
total_one x a zero = omega arith
total_one x a (suc n) = elim (eqb_tells x a) [
  | inl here ↦
      let one : is_number x a ≡ 1 = rw here.0 refl in
      let none = total_none (is_number x) (a + 1) n (λ v least. passed v (λ same. omega (arith, same, here.1, least))) in
      omega (arith, one, none)
  | inr other ↦
      let none : is_number x a ≡ 0 = rw other.0 refl in
      let rest = total_one x (a + 1) n in
      omega (arith, none, rest)
]
  where
    passed : (v : ℕ) → x ≢ v → is_number x v ≡ 0
    passed v other = rw (ne_eqb x v other) refl

-- how many ends a router has of the links from this number on
abbrev pub ends_from : ℕ → List MadeLink → ℕ → ℕ
ends_from k links v = length (filter_map (end_at v) (enumerate_from k links))

is_here : (x v : ℕ) → (x == v) ≡ true → is_number x v ≡ 1
is_here x v at = rw at refl

one_more_end : (k : ℕ) (link : MadeLink) (links : List MadeLink) (v : ℕ)
    → ends_from k (link ∷ links) v ≤ (is_number link.first v + is_number link.second v) + ends_from (k + 1) links v
one_more_end k link links v = elim (eqb_tells link.first v) [
  | inl at ↦ let a = is_here link.first v at.0 in let long = at_first at.0 in omega (arith, a, long)
  | inr not_first ↦ elim (eqb_tells link.second v) [
    | inl at ↦ let a = is_here link.second v at.0 in let long = at_second not_first.0 at.0 in omega (arith, a, long)
    | inr not_second ↦ let long = at_none not_first.0 not_second.0 in omega (arith, long)
  ]
]
  where
    at_first : (link.first == v) ≡ true → ends_from k (link ∷ links) v ≡ suc (ends_from (k + 1) links v)
    at_first at = rw at refl

    at_second : (link.first == v) ≡ false → (link.second == v) ≡ true → ends_from k (link ∷ links) v ≡ suc (ends_from (k + 1) links v)
    at_second not_first at = rw (not_first, at) refl

    at_none : (link.first == v) ≡ false → (link.second == v) ≡ false → ends_from k (link ∷ links) v ≡ ends_from (k + 1) links v
    at_none not_first not_second = rw (not_first, not_second) refl

pub all_ends : (links : List MadeLink) (k a n : ℕ) → total (ends_from k links) a n ≤ 2 * length links
all_ends [] k a n = let none = total_none (ends_from k []) a n (λ v least. refl) in omega (arith, none)
all_ends (link ∷ links) k a n =
    let more = total_least (ends_from k (link ∷ links)) (λ v. (is_number link.first v + is_number link.second v) + ends_from (k + 1) links v) (one_more_end k link links) a n in
    let split = total_sum (λ v. is_number link.first v + is_number link.second v) (ends_from (k + 1) links) a n in
    let both = total_sum (is_number link.first) (is_number link.second) a n in
    let first = total_one link.first a n in
    let second = total_one link.second a n in
    let rest = all_ends links (k + 1) a n in
    omega (arith, more, split, both, first, second, rest)

text_total : (links : List MadeLink) (a n : ℕ) → length (lsas_text (map (lsa_of links) (range_with_len a n))) ≡ 24 * n + 12 * total (ends_from 1 links) a n
text_total links a zero = refl
text_total links a (suc n) =
    let whole : length (lsa_text (lsa_of links a) ++ lsas_text (map (lsa_of links) (range_with_len (a + 1) n)))
    ≡ length (lsa_text (lsa_of links a)) + length (lsas_text (map (lsa_of links) (range_with_len (a + 1) n))) =
    length-append (lsa_text (lsa_of links a)) (lsas_text (map (lsa_of links) (range_with_len (a + 1) n))) in
    let text = ends_text links a in
    let one : length (lsa_text (lsa_of links a)) ≡ 24 + 12 * ends_from 1 links a = omega (arith, text) in
    let rest = text_total links (a + 1) n in
    omega (arith, whole, one, rest)

-- all bytes
pub made_size : (number nodes : ℕ) → nodes ≤ 2048 → length (lsas_text (made_lsas number nodes)) ≤ 8388608
made_size number nodes few =
    let text : length (lsas_text (made_lsas number nodes)) ≡ length (lsas_text (map (lsa_of (made_links number nodes)) (range_with_len 1 nodes))) = ap length (made_text number nodes) in
    let whole = text_total (made_links number nodes) 1 nodes in
    let ends = all_ends (made_links number nodes) 1 1 nodes in
    let count = count_made number nodes in
    omega (arith, few, text, whole, ends, count)
