-- Lines that are put at the end of a text, one after another.
use Rattle.std.proofs.Common.{◌≡◌, ◌≢◌, ◌==◌, ◌++◌, ◌∙◌, ◌+◌, ℕ, zero, suc, Bool, not, List, [], ◌∷◌, refl, sym, ap, subst, arith, append_assoc}
use Rattle.std.specs.List.{AllZip, concat, filter, range_with_len}
use Rattle.std.proofs.lemmas.Bool.{eq-eqb, ne_eqb}
use Rattle.std.proofs.lemmas.List.{append-nil}
use Rattle.std.proofs.lemmas.List.Folds.{concat-append}
use Rattle.std.proofs.lemmas.List.Elements.{filter-append}
use Rattle.text_parts.specs.steps.Adds.{Adds}
use Rattle.mrt_report.specs.steps.AddsLines.{AddsLines}
use Rattle.mrt_report.specs.TableText.{others}

range_more : (a n : ℕ) → range_with_len a (suc n) ≡ range_with_len a n ++ (a + n) ∷ []
range_more a zero = let same : a ≡ a + 0 = omega arith in ap (λ (x : ℕ). x ∷ []) same
range_more a (suc n) =
    let same : a + 1 + n ≡ a + suc n = omega arith in
    ap (λ (xs : List ℕ). a ∷ xs) (range_more (a + 1) n ∙ ap (λ (x : ℕ). range_with_len (a + 1) n ++ x ∷ []) same)

from_zero : (n : ℕ) → range_with_len 0 (suc n) ≡ range_with_len 0 n ++ n ∷ []
from_zero n = let same : 0 + n ≡ n = omega arith in range_more 0 n ∙ ap (λ (x : ℕ). range_with_len 0 n ++ x ∷ []) same

filter_one : (p : ℕ → Bool) (xs : List ℕ) (x : ℕ) → filter p (xs ++ x ∷ []) ≡ filter p xs ++ filter p (x ∷ [])
filter_one p xs x = filter-append p xs (x ∷ [])

-- the router itself is passed over
pub others_same : (n source : ℕ) → n ≡ source → others (suc n) source ≡ others n source
others_same n source same =
    ap (filter (λ k. not (k == source))) (from_zero n) ∙ filter_one (λ k. not (k == source)) (range_with_len 0 n) n
    ∙ rw (eq-eqb n source same) (append-nil (others n source))

-- each other node is one more
pub others_more : (n source : ℕ) → n ≢ source → others (suc n) source ≡ others n source ++ n ∷ []
others_more n source other =
    ap (filter (λ k. not (k == source))) (from_zero n) ∙ filter_one (λ k. not (k == source)) (range_with_len 0 n) n
    ∙ rw (ne_eqb n source other) refl

pub next : (n source : ℕ) → others (suc n) source ≡ others (n + 1) source
next n source = let same : suc n ≡ n + 1 = omega arith in ap (λ (k : ℕ). others k source) same

pub zip_push : {A B : Type 0} (R : A → B → Type 0) (xs : List A) (ys : List B) (x : A) (y : B) → AllZip R xs ys → R x y → AllZip R (xs ++ x ∷ []) (ys ++ y ∷ [])
zip_push R [] [] x y all last = (last, tt)
zip_push R [] (b ∷ bs) x y all last = absurd all
zip_push R (a ∷ more) [] x y all last = absurd all
zip_push R (a ∷ more) (b ∷ bs) x y all last = (all.0, zip_push R more bs x y all.1 last)

-- at first there is none
pub no_lines : (IsLineOn : ℕ → List ℕ → Type 0) (source : ℕ) (text : List ℕ) → AddsLines IsLineOn source 0 text text
no_lines IsLineOn source text = record { lines = []; are = tt; added = sym (append-nil text) }

-- the router has no line
pub line_passed : (IsLineOn : ℕ → List ℕ → Type 0) (source n : ℕ) (before after : List ℕ) → n ≡ source → AddsLines IsLineOn source n before after
    → AddsLines IsLineOn source (n + 1) before after
line_passed IsLineOn source n before after same so_far = record {
  lines = so_far.lines;
  are = subst (λ (nodes : List ℕ). AllZip IsLineOn nodes so_far.lines) (sym (others_same n source same) ∙ next n source) so_far.are;
  added = so_far.added;
}

-- one line more
pub line_added : (IsLineOn : ℕ → List ℕ → Type 0) (source n : ℕ) (before middle after : List ℕ) → n ≢ source → AddsLines IsLineOn source n before middle
    → Adds (IsLineOn n) middle after → AddsLines IsLineOn source (n + 1) before after
line_added IsLineOn source n before middle after other so_far line = record {
  lines = so_far.lines ++ line.part ∷ [];
  are = subst (λ (nodes : List ℕ). AllZip IsLineOn nodes (so_far.lines ++ line.part ∷ [])) (sym (others_more n source other) ∙ next n source)
      (zip_push IsLineOn (others n source) so_far.lines n line.part so_far.are line.is);
  added =
      let last : concat (so_far.lines ++ line.part ∷ []) ≡ concat so_far.lines ++ line.part =
      concat-append so_far.lines (line.part ∷ []) ∙ ap (λ (xs : List ℕ). concat so_far.lines ++ xs) (append-nil line.part) in
      line.added ∙ ap (λ (xs : List ℕ). xs ++ line.part) so_far.added ∙ append_assoc before (concat so_far.lines) line.part
      ∙ ap (λ (xs : List ℕ). before ++ xs) (sym last);
}
