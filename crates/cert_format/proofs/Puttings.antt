-- Steps of a writer, one after another.
use Rattle.std.proofs.Common.{◌≡◌, ◌∙◌, ◌==◌, ◌<◌, ◌≤◌, ◌+◌, ◌-◌, ◌^◌, ◌++◌, ℕ, Bool, true, List, [], length, take, drop, Option, Some, None, Result, Ok, Err, refl, sym, ap, subst, arith, append_assoc, length-append, length-drop}
use Rattle.std.specs.Prelude.{IfErr, IsOk, OnOk}
use Rattle.std.proofs.Math.Seq.{take-add}
use Rattle.std.proofs.lemmas.Bool.Decides.{nat_tests}
use Rattle.std.proofs.lemmas.List.{append-nil, nil_from_length, take-append-le, take_at, drop_at}
use Rattle.mrt_io.proofs.Gaining.{Gained-append}
use Rattle.mrt_io.specs.Counts.{Rose, last_count}
use Rattle.mrt_io.specs.Writing.{Gained, GainedPart}
use Rattle.mrt_io.specs.declared.device.PutError.{PutError}
use Rattle.mrt_io.specs.declared.device.PutError.TheVariants.{Failed}
use Rattle.cert_format.specs.steps.Putting.{IsFailedWithin, Wrote, later_error}
use Rattle.cert_format.specs.Putting.{IsGiven, Puts, Writer}

-- more bytes are held, and the sink is left alone
pub puts_held : (told : Option (List ℕ)) (was : ℕ) (healthy : ℕ → Type 0) (more : List ℕ) (old new : Writer) → new.version ≡ old.version → new.gone ≡ old.gone → new.held ≡ old.held ++ more
    → Puts told told was was healthy healthy more old new (Ok tt)
puts_held told was healthy more old new version gone held = record {
  given = λ before bytes is. record {
    first = is.first;
    parts = ap (λ (it : List ℕ). it ++ more) is.parts ∙ append_assoc is.first old.held more ∙ ap (λ (it : List ℕ). is.first ++ it) (sym held);
    gained = is.gained;
    counted = gone ∙ is.counted;
  };
  part = λ before bytes later is. tt;
  cause = tt;
  count = omega arith;
  succeeds = λ n well enough. refl;
  no_fault = λ n well enough. refl;
  stays_healthy = λ n well enough. subst (λ (k : ℕ). healthy (n - k)) (sym gone) well;
  size = omega (arith, gone, ap length held);
  same = version;
}

pub puts_none : (told : Option (List ℕ)) (was : ℕ) (healthy : ℕ → Type 0) (writer : Writer) → Puts told told was was healthy healthy [] writer writer (Ok tt)
puts_none told was healthy writer = puts_held told was healthy [] writer writer refl refl (sym (append-nil writer.held))

-- the same bytes, told otherwise
pub puts_as : (told tells : Option (List ℕ)) (was is : ℕ) (healthy stays : ℕ → Type 0) (a b : List ℕ) (old new : Writer) (result : Result Unit PutError) → a ≡ b
    → Puts told tells was is healthy stays a old new result → Puts told tells was is healthy stays b old new result
puts_as told tells was is healthy stays a b old new result same step = subst (λ (it : List ℕ). Puts told tells was is healthy stays it old new result) same step

-- the second of two steps begins where the first one ended
module _ (t0 t1 t2 : Option (List ℕ)) (f0 f1 f2 : ℕ) (h0 h1 h2 : ℕ → Type 0) (a b : List ℕ) (old mid new : Writer)
    (one : Puts t0 t1 f0 f1 h0 h1 a old mid (Ok tt)) where
  enough_first : (n : ℕ) → old.gone + length (old.held ++ (a ++ b)) ≤ n → old.gone + length (old.held ++ a) ≤ n
  enough_first n enough =
      omega (arith, enough, length-append old.held (a ++ b), length-append a b, length-append old.held a)

  enough_then : (n : ℕ) → old.gone + length (old.held ++ (a ++ b)) ≤ n → mid.gone + length (mid.held ++ b) ≤ n
  enough_then n enough =
      omega (arith, enough, one.size, length-append old.held (a ++ b), length-append a b, length-append old.held a, length-append mid.held b)

  given_then : (result : Result Unit PutError) → Puts t1 t2 f1 f2 h1 h2 b mid new result → (before : Option (List ℕ)) (bytes : List ℕ) → IsGiven before t0 bytes old
      → OnOk result (IsGiven before t2 (bytes ++ (a ++ b)) new)
  given_then (Ok x) two before bytes is = subst (λ (it : List ℕ). IsGiven before t2 it new) (append_assoc bytes a b) (two.given before (bytes ++ a) (one.given before bytes is))
  given_then (Err e) two before bytes is = tt

  part_then : (result : Result Unit PutError) → Puts t1 t2 f1 f2 h1 h2 b mid new result → (before : Option (List ℕ)) (bytes later : List ℕ) → IsGiven before t0 bytes old
      → IfErr result (GainedPart before (bytes ++ ((a ++ b) ++ later)) t2)
  part_then (Ok x) two before bytes later is = tt
  part_then (Err e) two before bytes later is =
      let same : (bytes ++ a) ++ (b ++ later) ≡ bytes ++ ((a ++ b) ++ later) = append_assoc bytes a (b ++ later) ∙ ap (λ (it : List ℕ). bytes ++ it) (sym (append_assoc a b later)) in
      subst (λ (it : List ℕ). GainedPart before it t2 e) same (two.part before (bytes ++ a) later (one.given before bytes is))

  cause_then : (result : Result Unit PutError) → Puts t1 t2 f1 f2 h1 h2 b mid new result → IfErr result (λ _. Rose f0 f2)
  cause_then (Ok x) two = tt
  cause_then (Err e) two = omega (arith, two.cause, one.count)

  size_then : (result : Result Unit PutError) → Puts t1 t2 f1 f2 h1 h2 b mid new result → OnOk result (new.gone + length new.held ≡ old.gone + length (old.held ++ (a ++ b)))
  size_then (Ok x) two =
      omega (arith, two.size, one.size, length-append old.held (a ++ b), length-append a b, length-append old.held a, length-append mid.held b)
  size_then (Err e) two = tt

  pub puts_then : (result : Result Unit PutError) → Puts t1 t2 f1 f2 h1 h2 b mid new result → Puts t0 t2 f0 f2 h0 h2 (a ++ b) old new result
  puts_then result two = record {
    given = given_then result two;
    part = part_then result two;
    cause = cause_then result two;
    count = omega (arith, one.count, two.count);
    succeeds = λ n well enough. two.succeeds n (one.stays_healthy n well (enough_first n enough)) (enough_then n enough);
    no_fault = λ n well enough. two.no_fault n (one.stays_healthy n well (enough_first n enough)) (enough_then n enough) ∙ one.no_fault n well (enough_first n enough);
    stays_healthy = λ n well enough. two.stays_healthy n (one.stays_healthy n well (enough_first n enough)) (enough_then n enough);
    size = size_then result two;
    same = two.same ∙ one.same;
  }

-- a step that failed failed also with what was to follow
pub puts_failed : (told tells : Option (List ℕ)) (was is : ℕ) (healthy stays : ℕ → Type 0) (a b : List ℕ) (old new : Writer) (e : PutError)
    → Puts told tells was is healthy stays a old new (Err e) → Puts told tells was is healthy stays (a ++ b) old new (Err e)
puts_failed told tells was is healthy stays a b old new e step = record {
  given = λ before bytes so. tt;
  part = λ before bytes later so.
      subst (λ (it : List ℕ). GainedPart before (bytes ++ it) tells e) (sym (append_assoc a b later)) (step.part before bytes (b ++ later) so);
  cause = step.cause;
  count = step.count;
  succeeds = λ n well enough. step.succeeds n well (less n enough);
  no_fault = λ n well enough. step.no_fault n well (less n enough);
  stays_healthy = λ n well enough. step.stays_healthy n well (less n enough);
  size = tt;
  same = step.same;
}
  where
    less : (n : ℕ) → old.gone + length (old.held ++ (a ++ b)) ≤ n → old.gone + length (old.held ++ a) ≤ n
    less n enough = omega (arith, enough, length-append old.held (a ++ b), length-append a b, length-append old.held a)

-- the sink gained the first i bytes, and then a part of the next ones
gained_part : (i : ℕ) (error : PutError) (all piece more : List ℕ) (old mid new : Option (List ℕ)) → drop i all ≡ piece ++ more → i ≤ length all
    → Gained old (take i all) mid → GainedPart mid piece new error → GainedPart old all new (later_error i error)
gained_part i (Failed part) all piece more old mid new e within first then_it =
    let front : take part (drop i all) ≡ take part piece = ap (take part) e ∙ take-append-le part piece more (omega (arith, then_it.0)) in
    let left : length all - i ≡ length piece + length more = sym (length-drop i all) ∙ ap length e ∙ length-append piece more in (
      omega (arith, left, then_it.0, within),
      subst (λ (it : List ℕ). Gained old it new) (sym (take-add i part all ∙ ap (λ (it : List ℕ). take i all ++ it) front)) (Gained-append (take i all) (take part piece) old mid new first then_it.1),
    )

-- what is held went out
pub puts_out : (told tells : Option (List ℕ)) (was is : ℕ) (healthy stays : ℕ → Type 0) (old new : Writer) → new.version ≡ old.version
    → new.gone ≡ old.gone + length old.held → new.held ≡ [] → Gained told old.held tells → was ≤ is
    → ((n : ℕ) → healthy n → length old.held ≤ n → is ≡ was) → ((n : ℕ) → healthy n → length old.held ≤ n → stays (n - length old.held))
    → Puts told tells was is healthy stays [] old new (Ok tt)
puts_out told tells was is healthy stays old new version gone none gained count no_fault stays_healthy = record {
  given = λ before bytes so. record {
    first = so.first ++ old.held;
    parts = append-nil bytes ∙ so.parts ∙ sym (append-nil (so.first ++ old.held)) ∙ ap (λ (it : List ℕ). (so.first ++ old.held) ++ it) (sym none);
    gained = Gained-append so.first old.held before told tells so.gained gained;
    counted = omega (arith, gone, so.counted, length-append so.first old.held);
  };
  part = λ before bytes later so. tt;
  cause = tt;
  count = count;
  succeeds = λ n well enough. refl;
  no_fault = λ n well enough. no_fault (n - old.gone) well (omega (arith, enough, length-append old.held []));
  stays_healthy = λ n well enough.
      let less : n - old.gone - length old.held ≡ n - new.gone = omega (arith, gone) in
      subst stays less (stays_healthy (n - old.gone) well (omega (arith, enough, length-append old.held [])));
  size = omega (arith, gone, ap length none, length-append old.held []);
  same = version;
}

-- the sink failed
pub puts_fails : (told tells : Option (List ℕ)) (was is : ℕ) (healthy stays : ℕ → Type 0) (old new : Writer) (error : PutError) → new.version ≡ old.version
    → GainedPart told old.held tells error → Rose was is → was ≤ is → ((n : ℕ) → healthy n → was < last_count)
    → ((n : ℕ) → healthy n → length old.held ≤ n → is ≡ was) → Puts told tells was is healthy stays [] old new (Err (later_error old.gone error))
puts_fails told tells was is healthy stays old new error version gained cause count below no_fault = record {
  given = λ before bytes so. tt;
  part = λ before bytes later so.
      let all : bytes ++ later ≡ so.first ++ (old.held ++ later) = ap (λ (it : List ℕ). it ++ later) so.parts ∙ append_assoc so.first old.held later in
      let left : drop old.gone (bytes ++ later) ≡ old.held ++ later = ap (drop old.gone) all ∙ drop_at so.first (old.held ++ later) old.gone (sym so.counted) in
      let front : take old.gone (bytes ++ later) ≡ so.first = ap (take old.gone) all ∙ take_at so.first (old.held ++ later) old.gone (sym so.counted) in
      gained_part old.gone error (bytes ++ later) old.held later before told tells left
      (omega (arith, so.counted, ap length all, length-append so.first (old.held ++ later)))
      (subst (λ (it : List ℕ). Gained before it told) (sym front) so.gained) gained;
  cause = cause;
  count = count;
  succeeds = λ n well enough. absurd (never n well enough);
  no_fault = λ n well enough. absurd (never n well enough);
  stays_healthy = λ n well enough. absurd (never n well enough);
  size = tt;
  same = version;
}
  where
    never : (n : ℕ) → healthy (n - old.gone) → old.gone + length (old.held ++ []) ≤ n → ⊥
    never n well enough = omega (arith, cause, no_fault (n - old.gone) well (omega (arith, enough, length-append old.held [])), below (n - old.gone) well)

-- the error's number of bytes has 64 bits
pub fails_within : (i : ℕ) (error : PutError) (piece : List ℕ) (old new : Option (List ℕ)) → i + length piece < 2 ^ 64 → GainedPart old piece new error → IsFailedWithin i error
fails_within i (Failed part) piece old new few part_of = omega (arith, few, part_of.0)

-- what is given comes in parts: of some that were given, the next one, and those that are left
pub turn_fits : (done one rest all : List ℕ) (old mid : Writer) → done ++ (one ++ rest) ≡ all → mid.gone + length mid.held ≡ old.gone + length (old.held ++ done)
    → old.gone + length (old.held ++ all) < 2 ^ 64 → mid.gone + length (mid.held ++ one) < 2 ^ 64
turn_fits done one rest all old mid parts size small =
    omega (arith, small, size, ap length parts, length-append old.held all, length-append done (one ++ rest), length-append one rest, length-append old.held done, length-append mid.held one)

module _ (t0 t1 t2 : Option (List ℕ)) (f0 f1 f2 : ℕ) (h0 h1 h2 : ℕ → Type 0) (done one rest all : List ℕ) (old mid new : Writer)
    (parts : done ++ (one ++ rest) ≡ all) (before : Puts t0 t1 f0 f1 h0 h1 done old mid (Ok tt)) where
  pub turn_done : Puts t1 t2 f1 f2 h1 h2 one mid new (Ok tt) → (so_far : List ℕ) × (so_far ++ rest ≡ all) × Puts t0 t2 f0 f2 h0 h2 so_far old new (Ok tt)
  turn_done step = (done ++ one, append_assoc done one rest ∙ parts, puts_then t0 t1 t2 f0 f1 f2 h0 h1 h2 done one old mid new before (Ok tt) step)

  pub turn_failed : (e : PutError) → Puts t1 t2 f1 f2 h1 h2 one mid new (Err e) → Puts t0 t2 f0 f2 h0 h2 all old new (Err e)
  turn_failed e step =
      subst (λ (it : List ℕ). Puts t0 t2 f0 f2 h0 h2 it old new (Err e)) (append_assoc done one rest ∙ parts)
      (puts_failed t0 t2 f0 f2 h0 h2 (done ++ one) rest old new e (puts_then t0 t1 t2 f0 f1 f2 h0 h1 h2 done one old mid new before (Err e) step))

-- a writer whose bytes are all gone
pub all_gone : (before tells : Option (List ℕ)) (bytes : List ℕ) (new : Writer) → new.held ≡ [] → IsGiven before tells bytes new → Gained before bytes tells
all_gone before tells bytes new none is =
    let same : is.first ≡ bytes = sym (is.parts ∙ ap (λ (it : List ℕ). is.first ++ it) none ∙ append-nil is.first) in
    subst (λ (it : List ℕ). Gained before it tells) same is.gained

-- the last bytes went out
pub closed_gained : (told tells : Option (List ℕ)) (was is : ℕ) (healthy stays : ℕ → Type 0) (old new : Writer) (result : Result Unit PutError) → Puts told tells was is healthy stays [] old new result
    → OnOk result (new.held ≡ []) → (before : Option (List ℕ)) (bytes : List ℕ) → IsGiven before told bytes old → OnOk result (Gained before bytes tells)
closed_gained told tells was is healthy stays old new (Ok x) step none before bytes so =
    subst (λ (it : List ℕ). Gained before it tells) (append-nil bytes) (all_gone before tells (bytes ++ []) new none (step.given before bytes so))
closed_gained told tells was is healthy stays old new (Err e) step none before bytes so = tt

pub closed_part : (told tells : Option (List ℕ)) (was is : ℕ) (healthy stays : ℕ → Type 0) (old new : Writer) (result : Result Unit PutError) → Puts told tells was is healthy stays [] old new result
    → (before : Option (List ℕ)) (bytes : List ℕ) → IsGiven before told bytes old → IfErr result (GainedPart before bytes tells)
closed_part told tells was is healthy stays old new (Ok x) step before bytes so = tt
closed_part told tells was is healthy stays old new (Err e) step before bytes so =
    subst (λ (it : List ℕ). GainedPart before it tells e) (append-nil bytes) (step.part before bytes [] so)

pub closed_healthy : (told tells : Option (List ℕ)) (was is : ℕ) (healthy stays : ℕ → Type 0) (old new : Writer) (result : Result Unit PutError) → Puts told tells was is healthy stays [] old new result
    → OnOk result (new.held ≡ []) → (n : ℕ) → healthy (n - old.gone) → old.gone + length old.held ≤ n → stays (n - (old.gone + length old.held))
closed_healthy told tells was is healthy stays old new (Ok x) step none n well enough =
    let same : new.gone ≡ old.gone + length old.held = omega (arith, step.size, ap length none, length-append old.held []) in
    subst (λ (k : ℕ). stays (n - k)) same (step.stays_healthy n well (omega (arith, enough, length-append old.held [])))
closed_healthy told tells was is healthy stays old new (Err e) step none n well enough =
    let ok = step.succeeds n well (omega (arith, enough, length-append old.held [])) in absurd cc

-- a writer at its beginning
pub begun : (told : Option (List ℕ)) (writer : Writer) → writer.gone ≡ 0 → IsGiven told told writer.held writer
begun told writer none = record { first = []; parts = refl; gained = gained_none told; counted = none }
  where
    gained_none : (told : Option (List ℕ)) → Gained told [] told
    gained_none None = refl
    gained_none (Some before) = ap (λ (it : List ℕ). Some it) (sym (append-nil before))

-- all parts of a file, one after another
module _ (t0 t1 t2 t3 : Option (List ℕ)) (f0 f1 f2 f3 : ℕ) (h0 h1 h2 h3 : ℕ → Type 0) (a b c : List ℕ) (w0 w1 w2 w3 : Writer)
    (one : Puts t0 t1 f0 f1 h0 h1 a w0 w1 (Ok tt)) (two : Puts t1 t2 f1 f2 h1 h2 b w1 w2 (Ok tt)) where
  pub both_parts : Puts t0 t2 f0 f2 h0 h2 (a ++ b) w0 w2 (Ok tt)
  both_parts = puts_then t0 t1 t2 f0 f1 f2 h0 h1 h2 a b w0 w1 w2 one (Ok tt) two

  pub all_parts : (result : Result Unit PutError) → Puts t2 t3 f2 f3 h2 h3 c w2 w3 result → Puts t0 t3 f0 f3 h0 h3 (a ++ (b ++ c)) w0 w3 result
  all_parts result three =
      subst (λ (it : List ℕ). Puts t0 t3 f0 f3 h0 h3 it w0 w3 result) (append_assoc a b c)
      (puts_then t0 t2 t3 f0 f2 f3 h0 h2 h3 (a ++ b) c w0 w2 w3 both_parts result three)

-- what is told once a whole file was written
pub wrote_failed : (told tells : Option (List ℕ)) (was is : ℕ) (healthy stays : ℕ → Type 0) (more text : List ℕ) (old new : Writer) (e : PutError) → old.gone ≡ 0 → old.held ++ more ≡ text
    → Puts told tells was is healthy stays more old new (Err e) → Wrote told tells was is healthy stays text (Err e)
wrote_failed told tells was is healthy stays more text old new e none whole step = record {
  gained = tt;
  part =
      let same : old.held ++ (more ++ []) ≡ text = ap (λ (it : List ℕ). old.held ++ it) (append-nil more) ∙ whole in
      subst (λ (it : List ℕ). GainedPart told it tells e) same (step.part told old.held [] (begun told old none));
  cause = step.cause;
  count = step.count;
  succeeds = λ n well enough. absurd (never n well enough);
  no_fault = λ n well enough. absurd (never n well enough);
  stays_healthy = λ n well enough. absurd (never n well enough);
}
  where
    never : (n : ℕ) → healthy n → length text ≤ n → ⊥
    never n well enough =
        let less : n ≡ n - old.gone = omega (arith, none) in
        let ok = step.succeeds n (subst healthy less well) (omega (arith, none, enough, ap length whole)) in
        absurd cc

-- all parts were given, and then what was held went out or failed
module _ (t0 t1 : Option (List ℕ)) (f0 f1 : ℕ) (h0 h1 : ℕ → Type 0) (more text : List ℕ) (old mid : Writer)
    (none : old.gone ≡ 0) (whole : old.held ++ more ≡ text) (step : Puts t0 t1 f0 f1 h0 h1 more old mid (Ok tt)) where
  pub all_size : mid.gone + length mid.held ≡ length text
  all_size = omega (arith, step.size, none, ap length whole)

  given : IsGiven t0 t1 text mid
  given = subst (λ (it : List ℕ). IsGiven t0 t1 it mid) whole (step.given t0 old.held (begun t0 old none))

  first : (n : ℕ) → h0 n → h0 (n - old.gone)
  first n well = let same : n ≡ n - old.gone = omega (arith, none) in subst h0 same well

  enough_for : (n : ℕ) → length text ≤ n → old.gone + length (old.held ++ more) ≤ n
  enough_for n enough = omega (arith, none, enough, ap length whole)

  well_then : (n : ℕ) → h0 n → length text ≤ n → h1 (n - mid.gone)
  well_then n well enough = step.stays_healthy n (first n well) (enough_for n enough)

  cause_later : (f2 : ℕ) (result : Result Unit PutError) → IfErr result (λ _. Rose f1 f2) → IfErr result (λ _. Rose f0 f2)
  cause_later f2 (Ok x) cause = tt
  cause_later f2 (Err e) cause = omega (arith, step.count, cause)

  pub wrote : (t2 : Option (List ℕ)) (f2 : ℕ) (h2 : ℕ → Type 0) (result : Result Unit PutError)
      → ((before : Option (List ℕ)) (bytes : List ℕ) → IsGiven before t1 bytes mid → OnOk result (Gained before bytes t2))
      → ((before : Option (List ℕ)) (bytes : List ℕ) → IsGiven before t1 bytes mid → IfErr result (GainedPart before bytes t2))
      → IfErr result (λ _. Rose f1 f2) → f1 ≤ f2
      → ((n : ℕ) → h1 (n - mid.gone) → mid.gone + length mid.held ≤ n → IsOk result)
      → ((n : ℕ) → h1 (n - mid.gone) → mid.gone + length mid.held ≤ n → f2 ≡ f1)
      → ((n : ℕ) → h1 (n - mid.gone) → mid.gone + length mid.held ≤ n → h2 (n - (mid.gone + length mid.held)))
      → Wrote t0 t2 f0 f2 h0 h2 text result
  wrote t2 f2 h2 result gained part cause count succeeds no_fault stays = record {
    gained = gained t0 text given;
    part = part t0 text given;
    cause = cause_later f2 result cause;
    count = omega (arith, step.count, count);
    succeeds = λ n well enough. succeeds n (well_then n well enough) (omega (arith, all_size, enough));
    no_fault = λ n well enough. no_fault n (well_then n well enough) (omega (arith, all_size, enough)) ∙ step.no_fault n (first n well) (enough_for n enough);
    stays_healthy = λ n well enough. subst (λ (k : ℕ). h2 (n - k)) all_size (stays n (well_then n well enough) (omega (arith, all_size, enough)));
  }

-- the first part of what is given
pub first_fits : (gone : ℕ) (held a b : List ℕ) → gone + length (held ++ (a ++ b)) < 2 ^ 64 → gone + length (held ++ a) < 2 ^ 64
first_fits gone held a b small = omega (arith, small, length-append held (a ++ b), length-append a b, length-append held a)

-- the rest, once the first part was given
pub rest_fits : (old new : Writer) (a b : List ℕ) → new.gone + length new.held ≡ old.gone + length (old.held ++ a) → old.gone + length (old.held ++ (a ++ b)) < 2 ^ 64
    → new.gone + length (new.held ++ b) < 2 ^ 64
rest_fits old new a b size small = omega (arith, size, small, length-append old.held (a ++ b), length-append a b, length-append old.held a, length-append new.held b)

-- all was given, where nothing is left
pub all_given : (P : List ℕ → Type 0) (done rest all : List ℕ) → done ++ rest ≡ all → rest ≡ [] → P done → P all
all_given P done rest all parts none is = subst P (sym (append-nil done) ∙ ap (λ (it : List ℕ). done ++ it) (sym none) ∙ parts) is

pub none_left : {A : Type 0} (xs : List A) (test : Bool) → test ≡ (length xs == 0) → test ≡ true → xs ≡ []
none_left xs test e is =
    let none : length xs ≡ 0 = grind (arith, nat_tests) in
    nil_from_length xs none
