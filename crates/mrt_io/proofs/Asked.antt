-- What devices answer: a shelf in memory that is asked for a file, and errors.
use Rattle.std.proofs.Common.{◌≡◌, ◌==◌, ◌<◌, ◌≤◌, ◌^◌, ◌∙◌, ℕ, Bool, true, false, List, Option, Some, None, Result, Ok, Err, length, drop, refl, sym, ap, arith}
use Rattle.std.specs.Prelude.{◌||◌, IfOk, IsSome, OnErr, OnOk, is_none, is_some, if◌then◌else◌}
use Rattle.std.specs.Result.{is_err}
use Rattle.std.specs.Option.{IsSomeAnd, option_map}
use Rattle.std.proofs.lemmas.Bool.{eq-eqb, false≢true, true≢false}
use Rattle.mrt_io.specs.Memory.{NoneFrom, counted}
use Rattle.mrt_io.specs.declared.device.OpenError.{OpenError}
use Rattle.mrt_io.specs.declared.device.OpenError.TheVariants as open_errors
use Rattle.mrt_io.specs.declared.device.ShelfError.{ShelfError}
use Rattle.mrt_io.specs.declared.device.ShelfError.TheVariants as errors
use Rattle.mrt_io.specs.declared.mem_shelf.Open.{Open}
use Rattle.mrt_io.specs.steps.Opened.{IsOpenIn, bytes_at, left_of}

-- of no file nothing is left
pub none_open : (files : List (List ℕ × List ℕ)) (opened : Option Open) → is_some opened ≡ false → left_of files opened ≡ None
none_open files None none = refl
none_open files (Some at) none = absurd (true≢false none)

-- of a file that is open it is told what is left
pub told_open : (files : List (List ℕ × List ℕ)) (opened : Option Open) → IsOpenIn files opened → is_some opened ≡ true
    → IsSome (left_of files opened)
told_open files None is some = absurd (false≢true some)
told_open files (Some at) is some = mapped (bytes_at files at.place) is
  where
    mapped : (bytes : Option (List ℕ)) → IsSomeAnd bytes (λ all. at.taken ≤ length all) → IsSome (option_map (drop at.taken) bytes)
    mapped None is = absurd is
    mapped (Some all) is = refl

-- none was opened, as there is no such file, or the call is to fail
pub fault_is : (file : Option (List ℕ)) (failing : Bool) → None ≡ (if failing then None else file) → (is_none file || failing) ≡ true
fault_is None failing none = refl
fault_is (Some bytes) true none = refl
fault_is (Some bytes) false none = absurd cc

-- one was opened
pub open_is : (file left : Option (List ℕ)) (failing : Bool) → left ≡ (if failing then None else file) → IsSome left
    → (file ≡ left) × IsSome file × ((is_none file || failing) ≡ false)
open_is file left true is some = absurd (false≢true (ap is_some (sym is) ∙ some))
open_is None left false is some = absurd (false≢true (ap is_some (sym is) ∙ some))
open_is (Some bytes) left false is some = (sym is, refl, refl)

-- there is such a file, and the call is not to fail
pub no_fault : (file : Option (List ℕ)) (failing : Bool) → IsSome file → failing ≡ false → (is_none file || failing) ≡ false
no_fault None failing there ok = absurd (false≢true there)
no_fault (Some bytes) failing there ok = ok

-- answers that differ
abbrev pub read_answer : {T : Type 0} → Result T ShelfError → ℕ
read_answer (Ok file) = 0
read_answer (Err errors.Failed) = 1
read_answer (Err errors.TooLong) = 2
read_answer (Err errors.NoMemory) = 3

abbrev pub open_answer : {T : Type 0} → Result T OpenError → ℕ
open_answer (Ok done) = 0
open_answer (Err open_errors.Failed) = 1
open_answer (Err open_errors.NoMemory) = 2

pub differ : {A : Type 0} (number : A → ℕ) (x y : A) → (number x == number y) ≡ false → x ≡ y → ⊥
differ number x y apart same = false≢true (sym apart ∙ eq-eqb (number x) (number y) (ap number same))

-- counts
pub same_count : (count : ℕ) → count ≤ count
same_count count = omega arith

pub count_rose : (old new : ℕ) → old < 2 ^ 64 → new ≡ counted old → old ≤ new
count_rose old new fits is = omega (arith, fits, is)

-- no call after the next one is to fail
pub none_later : (calls next : ℕ) (fails : List ℕ) → calls < 2 ^ 64 → next ≡ counted calls → NoneFrom calls fails → NoneFrom next fails
none_later calls next fails fits is none = λ k d below. omega (arith, none k d below, fits, is)

-- of an error nothing is said that is said of a value
pub no_value : {T E : Type 0} (r : Result T E) (P : T → Type 0) → is_err r ≡ true → IfOk r P
no_value (Ok t) P err = absurd (false≢true err)
no_value (Err e) P err = tt

pub not_done : {T E : Type 0} (r : Result T E) (P : Type 0) → is_err r ≡ true → OnOk r P
not_done (Ok t) P err = absurd (false≢true err)
not_done (Err e) P err = tt

pub failed : {T E : Type 0} (r : Result T E) (P : Type 0) → P → OnErr r P
failed (Ok t) P so = tt
failed (Err e) P so = so
