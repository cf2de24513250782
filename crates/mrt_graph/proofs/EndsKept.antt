-- What holds of the ends that links give a node, in the order of the links.
use Rattle.std.proofs.Common.{◌≡◌, ◌≢◌, ◌∙◌, ◌<◌, ◌≤◌, ◌+◌, ◌++◌, ◌==◌, ℕ, zero, suc, true, false, cond, List, [], ◌∷◌, Some, None, length, map, slice_get, refl, sym, ap, subst, inl, inr, add-zero, length-append, arith}
use Rattle.std.specs.List.{AllByRecursion, count_by}
use Rattle.std.proofs.lemmas.Bool.{eq-eqb, ne_eqb}
use Rattle.std.proofs.lemmas.Bool.Decides.{eqb_tells}
use Rattle.std.proofs.lemmas.List.Sums.{count_by-le-length, sum_by-append}
use Rattle.std.proofs.lemmas.Option.{slice_get_within}
use Rattle.mrt_graph.specs.declared.link.End.{End}
use Rattle.mrt_graph.specs.declared.link.Link.{Link}
use Rattle.mrt_graph.specs.declared.link.LinkIn.{LinkIn}
use Rattle.mrt_graph.specs.steps.EndRows.{IsInRange, IsWithin}
use Rattle.mrt_graph.specs.EndsOfLinks.{end_at, ends_at, pair_of}
use Rattle.mrt_graph.specs.GraphInvariant.{IsEnd}
use Rattle.mrt_graph.specs.Leads.{leads, far_node}
use Rattle.mrt_graph.proofs.Members.{all_append}

-- the link with that number is this one
record IsNumbered (links : List Link) (number : ℕ) (link : LinkIn) : Type 0 where
  here : slice_get links number ≡ Some (pair_of link)

-- the links that are left are those from that number on
pub record AreNumbered (links : List Link) (number : ℕ) (rest : List LinkIn) : Type 0 where
  pub at : (k : ℕ) → slice_get (map pair_of rest) k ≡ slice_get links (number + k)

first_numbered : (links : List Link) (number : ℕ) (link : LinkIn) (rest : List LinkIn) → AreNumbered links number (link ∷ rest) → IsNumbered links number link
first_numbered links number link rest numbered = record { here = sym (rw add-zero at (numbered.at 0)) }

others_numbered : (links : List Link) (number : ℕ) (link : LinkIn) (rest : List LinkIn) → AreNumbered links number (link ∷ rest) → AreNumbered links (number + 1) rest
others_numbered links number link rest numbered = record {
  at = λ k. let same : number + suc k ≡ number + 1 + k = omega arith in subst (λ e. slice_get (map pair_of rest) k ≡ slice_get links e) same (numbered.at (suc k));
}

-- a link's end at a node that it touches is one of that node
end_kept : (count : ℕ) (links : List Link) (n number : ℕ) (link : LinkIn) → IsNumbered links number link → IsInRange link → IsWithin count link → AllByRecursion (IsEnd count links n) (end_at n number link)
end_kept count links n number link numbered range within =
    elim (eqb_tells link.a n) [
      | inl at_a ↦
          rw at_a.0 (
            record {
              leads_on = rw (numbered.here, at_a.0) refl;
              link = slice_get_within links number (pair_of link) numbered.here;
              to = within.upper;
              metric = range.metric_a;
              link_data = range.data_a;
            },
            tt,
          )
      | inr not_a ↦
          elim (eqb_tells link.b n) [
            | inl at_b ↦
                rw (not_a.0, at_b.0) (
                  record {
                    leads_on = rw (numbered.here, not_a.0, at_b.0) refl;
                    link = slice_get_within links number (pair_of link) numbered.here;
                    to = omega (arith, within.ascending, within.upper);
                    metric = range.metric_b;
                    link_data = range.data_b;
                  },
                  tt,
                )
            | inr not_b ↦ rw (not_a.0, not_b.0) tt
          ]
    ]

pub ends_kept : (count : ℕ) (links : List Link) (n number : ℕ) (rest : List LinkIn) → AreNumbered links number rest → AllByRecursion IsInRange rest → AllByRecursion (IsWithin count) rest →
    AllByRecursion (IsEnd count links n) (ends_at n number rest)
ends_kept count links n number [] numbered range within = tt
ends_kept count links n number (link ∷ rest) numbered range within =
    all_append (IsEnd count links n) (end_at n number link) (ends_at n (number + 1) rest)
    (end_kept count links n number link (first_numbered links number link rest numbered) range.0 within.0)
    (ends_kept count links n (number + 1) rest (others_numbered links number link rest numbered) range.1 within.1)

-- all links are those from number 0 on
pub all_numbered : (links : List LinkIn) → AreNumbered (map pair_of links) 0 links
all_numbered links = record { at = λ k. let same : k ≡ 0 + k = omega arith in ap (slice_get (map pair_of links)) same }

-- one end at most for each link
one_at_most : (n number : ℕ) (link : LinkIn) → length (end_at n number link) ≤ 1
one_at_most n number link =
    elim (eqb_tells link.a n) [
      | inl at_a ↦ rw at_a.0 (omega arith)
      | inr not_a ↦
          elim (eqb_tells link.b n) [
            | inl at_b ↦ rw (not_a.0, at_b.0) (omega arith)
            | inr not_b ↦ rw (not_a.0, not_b.0) (omega arith)
          ]
    ]

pub ends_few : (n number : ℕ) (links : List LinkIn) → length (ends_at n number links) ≤ length links
ends_few n number [] = omega arith
ends_few n number (link ∷ links) = rw length-append (omega (arith, one_at_most n number link, ends_few n (number + 1) links))

-- how many of the ends are on link e
abbrev on_link : ℕ → List End → ℕ
on_link e ends = count_by (λ end. end.link == e) ends

on_both : (e : ℕ) (xs ys : List End) → on_link e (xs ++ ys) ≡ on_link e xs + on_link e ys
on_both e xs ys = sum_by-append (λ end. cond (end.link == e) 1 0) xs ys

-- the ends of another link are on another link
none_on_other : (e n number : ℕ) (link : LinkIn) → number ≢ e → on_link e (end_at n number link) ≡ 0
none_on_other e n number link other =
    let no : (number == e) ≡ false = ne_eqb number e other in
    elim (eqb_tells link.a n) [
      | inl at_a ↦ rw (at_a.0, no) refl
      | inr not_a ↦ elim (eqb_tells link.b n) [ inl at_b ↦ rw (not_a.0, at_b.0, no) refl | inr not_b ↦ rw (not_a.0, not_b.0) refl ]
    ]

-- a link that touches n has one end there
one_on_this : (n number v : ℕ) (link : LinkIn) → far_node n (pair_of link) ≡ Some v → on_link number (end_at n number link) ≡ 1
one_on_this n number v link touches =
    let yes : (number == number) ≡ true = eq-eqb number number refl in
    elim (eqb_tells link.a n) [
      | inl at_a ↦ rw (at_a.0, yes) refl
      | inr not_a ↦
          elim (eqb_tells link.b n) [
            | inl at_b ↦ rw (not_a.0, at_b.0, yes) refl
            | inr not_b ↦ let none : None ≡ Some v = rw (not_a.0, not_b.0) at touches in absurd cc
          ]
    ]

none_below : (e n number : ℕ) (links : List LinkIn) → e < number → on_link e (ends_at n number links) ≡ 0
none_below e n number [] below = refl
none_below e n number (link ∷ links) below =
    let first : on_link e (end_at n number link) ≡ 0 = none_on_other e n number link (λ same. omega (arith, same)) in
    let others : on_link e (ends_at n (number + 1) links) ≡ 0 = none_below e n (number + 1) links (omega arith) in
    on_both e (end_at n number link) (ends_at n (number + 1) links) ∙ omega (arith, first, others)

-- each link that touches n has one end among those of n
pub ends_once : (e n number k v : ℕ) (links : List LinkIn) → e ≡ number + k → leads (map pair_of links) k n ≡ Some v → on_link e (ends_at n number links) ≡ 1
ends_once e n number k v [] place touches = absurd cc
ends_once e n number zero v (link ∷ links) place touches =
    let here : number ≡ e = omega arith in
    let first : on_link e (end_at n number link) ≡ 1 = subst (λ m. on_link m (end_at n number link) ≡ 1) here (one_on_this n number v link touches) in
    let others : on_link e (ends_at n (number + 1) links) ≡ 0 = none_below e n (number + 1) links (omega arith) in
    on_both e (end_at n number link) (ends_at n (number + 1) links) ∙ omega (arith, first, others)
ends_once e n number (suc k) v (link ∷ links) place touches =
    let first : on_link e (end_at n number link) ≡ 0 = none_on_other e n number link (λ same. omega (arith, same)) in
    let others : on_link e (ends_at n (number + 1) links) ≡ 1 = ends_once e n (number + 1) k v links (omega arith) touches in
    on_both e (end_at n number link) (ends_at n (number + 1) links) ∙ omega (arith, first, others)

at_most_one : (e n number : ℕ) (link : LinkIn) → on_link e (end_at n number link) ≤ 1
at_most_one e n number link =
    let few : length (end_at n number link) ≤ 1 = one_at_most n number link in
    omega (arith, few, count_by-le-length (λ end. end.link == e) (end_at n number link))

-- no two of the ends are on one link
pub ends_apart : (e n number : ℕ) (links : List LinkIn) → on_link e (ends_at n number links) ≤ 1
ends_apart e n number [] = omega arith
ends_apart e n number (link ∷ links) =
    let both = on_both e (end_at n number link) (ends_at n (number + 1) links) in
    elim (eqb_tells number e) [
      | inl same ↦
          omega (arith, both, at_most_one e n number link, none_below e n (number + 1) links (omega (arith, same.1)))
      | inr other ↦ omega (arith, both, none_on_other e n number link other.1, ends_apart e n (number + 1) links)
    ]
