-- Rows that are put into a buffer, one after another.
use Rattle.std.proofs.Common.{◌≡◌, ◌≢◌, ◌<◌, ◌+◌, ◌++◌, ◌∙◌, ℕ, List, [], ◌∷◌, length, map, take, refl, sym, ap, subst, arith}
use Rattle.std.specs.List.{AllZip}
use Rattle.std.proofs.lemmas.Grind.{common_steps}
use Rattle.mrt_report.specs.TableText.{others}
use Rattle.mrt_report.specs.declared.row.TableRow.{TableRow}
use Rattle.mrt_report.proofs.AddingLines.{next, others_more, others_same, zip_push}
use Rattle.mrt_calls.specs.steps.Filling.{IsFilled}
use Rattle.mrt_calls.specs.steps.Putting.{IsHeldIn}
use Rattle.mrt_calls.specs.RowNumbers.{row_in}
use Rattle.mrt_calls.specs.declared.row.MrtRow.{MrtRow}

push_map : (f : TableRow → MrtRow) (xs : List TableRow) (x : TableRow) → map f (xs ++ x ∷ []) ≡ map f xs ++ f x ∷ []
push_map f [] x = refl
push_map f (y ∷ xs) x = ap (λ (ys : List MrtRow). f y ∷ ys) (push_map f xs x)

push_length : {A : Type 0} (xs : List A) (x : A) → length (xs ++ x ∷ []) ≡ length xs + 1
push_length xs x = grind (arith, common_steps)

-- one more of what a buffer holds
pub held_more : {A : Type 0} (before after them : List A) (count : ℕ) (x : A) → length after ≡ length before
    → (count < length before → take (count + 1) after ≡ take count before ++ x ∷ []) → IsHeldIn before count them
    → IsHeldIn after (count + 1) (them ++ x ∷ [])
held_more {A} before after them count x room put held =
    let more : length (them ++ x ∷ []) ≡ count + 1 = push_length them x ∙ ap (λ (n : ℕ). n + 1) (sym held.0) in (
      sym more,
      λ fits.
          let below : count < length before = omega (arith, fits, more, room) in
          let old : take count before ≡ them = ap (λ (n : ℕ). take n before) held.0 ∙ held.1 (omega (arith, below, held.0)) in
          ap (λ (n : ℕ). take n after) more ∙ put below ∙ ap (λ (xs : List A). xs ++ x ∷ []) old,
    )

module _ (IsRowOn : ℕ → TableRow → Type 0) (source : ℕ) where
  -- at first there is none
  pub none_filled : (buffer : List MrtRow) → IsFilled IsRowOn source 0 buffer 0
  none_filled buffer = record { lines = []; are = tt; held = (refl, λ fits. refl) }

  -- the router has no row
  pub row_passed : (n count : ℕ) (buffer : List MrtRow) → n ≡ source → IsFilled IsRowOn source n buffer count
      → IsFilled IsRowOn source (n + 1) buffer count
  row_passed n count buffer same so_far = record {
    lines = so_far.lines;
    are = subst (λ (nodes : List ℕ). AllZip IsRowOn nodes so_far.lines) (sym (others_same n source same) ∙ next n source) so_far.are;
    held = so_far.held;
  }

  -- one row more
  pub row_filled : (n count : ℕ) (before after : List MrtRow) (row : TableRow) → n ≢ source → length after ≡ length before
      → (count < length before → take (count + 1) after ≡ take count before ++ row_in row ∷ []) → IsFilled IsRowOn source n before count
      → IsRowOn n row → IsFilled IsRowOn source (n + 1) after (count + 1)
  row_filled n count before after row other room put so_far is = record {
    lines = so_far.lines ++ row ∷ [];
    are = subst (λ (nodes : List ℕ). AllZip IsRowOn nodes (so_far.lines ++ row ∷ [])) (sym (others_more n source other) ∙ next n source)
        (zip_push IsRowOn (others n source) so_far.lines n row so_far.are is);
    held = subst (λ (them : List MrtRow). IsHeldIn after (count + 1) them) (sym (push_map row_in so_far.lines row))
        (held_more before after (map row_in so_far.lines) count (row_in row) room put so_far.held);
  }
