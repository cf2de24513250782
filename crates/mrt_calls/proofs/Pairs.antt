-- The rows of pairs, one after another.
use Rattle.std.proofs.Common.{◌≡◌, ◌<◌, ◌+◌, ◌++◌, ℕ, List, [], ◌∷◌, Result, Ok, Err, Some, length, slice_get, take, get_or, sym, subst, inl, inr, arith}
use Rattle.std.specs.Prelude.{IfOk, OnOk}
use Rattle.std.specs.List.{AllZip}
use Rattle.std.proofs.lemmas.Grind.{common_steps}
use Rattle.std.proofs.lemmas.Option.{get_or_from_slice_get, slice_get_within}
use Rattle.mrt_graph.specs.Topology.{Topology}
use Rattle.mrt_report.proofs.AddingLines.{zip_push}
use Rattle.mrt_rows.specs.CertOf.{IsCertOf}
use Rattle.mrt_rows.specs.declared.rooted.RootedColumns.{RootedColumns}
use Rattle.mrt_exit.specs.Due.{IsDue}
use Rattle.mrt_exit.specs.declared.exit.Exit.{Exit}
use Rattle.mrt_exit.specs.declared.exit.Exit.TheVariants as exits
use Rattle.mrt_answer.specs.Made.{HasComputed}
use Rattle.mrt_calls.specs.Proxies.{IsPairRow, pair_step, refused_row}
use Rattle.mrt_calls.specs.steps.Putting.{IsHeldIn}
use Rattle.mrt_calls.specs.declared.proxy.MrtPair.{MrtPair}
use Rattle.mrt_calls.specs.declared.proxy.MrtProxyRow.{MrtProxyRow}
use Rattle.mrt_calls.proofs.Filling.{held_more}

-- the columns have the same certificate while their root is the same
pub still_computed : (g : Topology) (root : ℕ) (old new : RootedColumns) → new.root ≡ old.root → HasComputed g root old → HasComputed g root new
still_computed g root old new same own = record {
  file = own.file;
  certificate = own.certificate;
  of_columns = subst (λ (r : ℕ). IsCertOf g r own.file) (sym same) own.of_columns;
}

take_more : (xs : List MrtPair) (n : ℕ) (x : MrtPair) → n < length xs → x ≡ get_or xs n x → take (n + 1) xs ≡ take n xs ++ x ∷ []
take_more xs n x within is = grind (arith, common_steps)

-- what stands in a buffer for the first pairs
abbrev pub Rows : Topology → ℕ → ℕ → List MrtPair → ℕ → List MrtProxyRow → Type 0
Rows g root source pairs n buffer =
    (them : List MrtProxyRow) × AllZip (IsPairRow g root source) (take n pairs) them × IsHeldIn buffer n them

pub row_more : (g : Topology) (root source : ℕ) (pairs : List MrtPair) (n : ℕ) (before after : List MrtProxyRow) (pair : MrtPair) (row : MrtProxyRow)
    → slice_get pairs n ≡ Some pair → length after ≡ length before
    → (n < length before → take (n + 1) after ≡ take n before ++ row ∷ []) → Rows g root source pairs n before → IsPairRow g root source pair row
    → Rows g root source pairs (n + 1) after
row_more g root source pairs n before after pair row there room put (them, zipped, held) row_is = (
  them ++ row ∷ [],
  subst (λ (xs : List MrtPair). AllZip (IsPairRow g root source) xs (them ++ row ∷ [])) (sym (take_more pairs n pair (slice_get_within pairs n pair there) (sym (get_or_from_slice_get pairs n pair pair there))))
      (zip_push (IsPairRow g root source) (take n pairs) them pair row zipped row_is),
  held_more before after them n row room put held,
)

pub all_taken : (xs : List MrtPair) (n : ℕ) → n ≡ length xs → take n xs ≡ xs
all_taken xs n is = grind (arith, common_steps)

-- want of memory is what comes of no pair
never_memory : (g : Topology) (root source : ℕ) (pair : MrtPair) → pair_step g root source pair (Err exits.NoMemory) → ⊥
never_memory g root source pair (inl never) = never
never_memory g root source pair (inr (done, on, inl never)) = never
never_memory g root source pair (inr (done, on, inr (a, first, inl never))) = never
never_memory g root source pair (inr (done, on, inr (a, first, inr (b, second, never)))) = never

-- the row of a pair that is refused
pub refused_is : (g : Topology) (root source : ℕ) (pair : MrtPair) (exit : Exit) {E : Type 0} (result : Result MrtProxyRow E)
    → IsDue (λ due. pair_step g root source pair (Err due)) exit
    → ((exit ≡ exits.NoMemory → ⊥) → IfOk result (λ row. row ≡ refused_row exit)) → (exit ≡ exits.NoMemory → OnOk result ⊥)
    → IfOk result (IsPairRow g root source pair)
refused_is g root source pair exit (Ok row) (inl said) row_is none =
    inr (exit, said, row_is (λ memory. never_memory g root source pair (subst (λ (e : Exit). pair_step g root source pair (Err e)) memory said)))
refused_is g root source pair exit (Ok row) (inr memory) row_is none = absurd (none memory)
refused_is g root source pair exit (Err e) due row_is none = tt
