-- Graphs with the same identifiers, links and interfaces.
use Rattle.std.proofs.Common.{◌≡◌, ◌∙◌, ◌<◌, ◌≤◌, ◌+◌, ℕ, List, length, get_or, slice_get, sym, arith}
use borrow.Author.Count.{below_more}
use Rattle.std.proofs.lemmas.List.{same_lists}
use Rattle.std.proofs.lemmas.Option.{same_Some, slice_get-get_or}

-- two lists have the same elements before this place
abbrev pub AreSameBefore : {X : Type 0} → ℕ → List X → List X → Type 0
AreSameBefore n xs ys = (k : ℕ) → k < n → slice_get xs k ≡ slice_get ys k

pub same_more : {X : Type 0} (n : ℕ) (xs ys : List X) → AreSameBefore n xs ys → slice_get xs n ≡ slice_get ys n
    → AreSameBefore (n + 1) xs ys
same_more n xs ys before here = below_more (λ (k : ℕ). slice_get xs k ≡ slice_get ys k) n before here

-- lists of one length that have the same elements are one
pub same_all : {X : Type 0} (n : ℕ) (xs ys : List X) → length xs ≡ length ys → length xs ≤ n → AreSameBefore n xs ys
    → xs ≡ ys
same_all n xs ys even all same =
    same_lists xs ys even
    (λ k d within.
    same_Some (get_or xs k d) (get_or ys k d)
    (sym (slice_get-get_or xs k d within) ∙ same k (omega (arith, all, within))
    ∙ slice_get-get_or ys k d (omega (arith, even, within))))
