-- Steps one after another.
use Rattle.std.proofs.Common.{◌≡◌, ◌⊎◌, ◌∙◌, Result, Ok, Err, refl, sym, ap, subst, inl, inr}
use Rattle.std.specs.Result.{IsErrAnd}
use Rattle.mrt_exit.specs.AnswerSteps.{IsAnswer, IsOne, Step, such, ◌▸◌}
use Rattle.mrt_exit.specs.declared.exit.Exit.{Exit}

-- a call that hands on an exit answers as the exit says
pub told_on : {A : Type 0} (step : Step A) (answer : Result A Exit) (exit : Exit) → IsErrAnd answer (λ told. told ≡ exit)
    → IsAnswer step (Err exit) → IsAnswer step answer
told_on step (Ok x) exit is said = absurd is
told_on step (Err told) exit is said = subst (λ (e : Exit). IsAnswer step (Err e)) (sym is) said

module _ {A B : Type 0} (first : Step A) (next : A → Step B) where
  -- a call that ends at the first step has answered both
  pub early : (exit : Exit) → IsAnswer first (Err exit) → IsAnswer (first ▸ next) (Err exit)
  early exit (inl said) = inl (inl said)
  early exit (inr memory) = inr memory

  -- so does one that hands on its exit
  pub handed_on : (answer : Result B Exit) (exit : Exit) → IsErrAnd answer (λ told. told ≡ exit) → IsAnswer first (Err exit)
      → IsAnswer (first ▸ next) answer
  handed_on answer exit is said = told_on (first ▸ next) answer exit is (early exit said)

  -- and where a value came of it, the answer to the second step is that to both
  pub late : (x : A) → first (Ok x) → (answer : Result B Exit) → IsAnswer (next x) answer → IsAnswer (first ▸ next) answer
  late x on (Ok y) said = (x, on, said)
  late x on (Err exit) (inl said) = inl (inr (x, on, said))
  late x on (Err exit) (inr memory) = inr memory

  -- how two steps end
  abbrev Ending : Result B Exit → Type 0
  Ending answer = ((exit : Exit) × first (Err exit) × (answer ≡ Err exit)) ⊎ ((x : A) × first (Ok x) × next x answer)

  ending : (answer : Result B Exit) → (first ▸ next) answer → Ending answer
  ending (Ok y) said = inr said
  ending (Err exit) (inl said) = inl (exit, said, refl)
  ending (Err exit) (inr said) = inr said

  same_Ok : (x y : A) → ◌≡◌ {A = Result A Exit} (Ok x) (Ok y) → x ≡ y
  same_Ok x y same = cc

  same_Err : (e d : Exit) → ◌≡◌ {A = Result A Exit} (Err e) (Err d) → e ≡ d
  same_Err e d same = cc

  never_both : (e : Exit) (x : A) → ◌≡◌ {A = Result A Exit} (Err e) (Ok x) → ⊥
  never_both e x same = cc

  -- at most one thing comes of two steps, of each of which at most one comes
  pub one_then_one : IsOne first → ((x : A) → first (Ok x) → IsOne (next x)) → IsOne (first ▸ next)
  one_then_one one then answer other said too = both (ending answer said) (ending other too)
    where
      both : Ending answer → Ending other → answer ≡ other
      both (inl (exit, ends, is)) (inl (exit', ends', is')) =
          is ∙ ap (λ (e : Exit). Err e) (same_Err exit exit' (one (Err exit) (Err exit') ends ends')) ∙ sym is'
      both (inl (exit, ends, is)) (inr (x, on, of)) = absurd (never_both exit x (one (Err exit) (Ok x) ends on))
      both (inr (x, on, of)) (inl (exit, ends, is)) = absurd (never_both exit x (one (Err exit) (Ok x) ends on))
      both (inr (x, on, of)) (inr (x', on', of')) =
          then x' on' answer other (subst (λ (y : A). next y answer) (same_Ok x x' (one (Ok x) (Ok x') on on')) of) of'

-- at most one thing comes of a step of which one value comes, or one exit, and never both
pub one_value_or_exit : {A : Type 0} (step : Step A) → ((x y : A) → step (Ok x) → step (Ok y) → x ≡ y)
    → ((e d : Exit) → step (Err e) → step (Err d) → e ≡ d) → ((x : A) (e : Exit) → step (Ok x) → step (Err e) → ⊥) → IsOne step
one_value_or_exit step values exits never (Ok x) (Ok y) one two = ap (λ (z : _). Ok z) (values x y one two)
one_value_or_exit step values exits never (Ok x) (Err e) one two = absurd (never x e one two)
one_value_or_exit step values exits never (Err e) (Ok x) one two = absurd (never x e two one)
one_value_or_exit step values exits never (Err e) (Err d) one two = ap (λ (z : Exit). Err z) (exits e d one two)

-- so of one that only has values
pub one_such : {A : Type 0} (Holds : A → Type 0) → ((x y : A) → Holds x → Holds y → x ≡ y) → IsOne (such Holds)
one_such Holds values = one_value_or_exit (such Holds) values (λ e d one. absurd one) (λ x e one two. two)

-- of a step of which at most one thing comes the values are one
pub one_value : {A : Type 0} (step : Step A) → IsOne step → (x y : A) → step (Ok x) → step (Ok y) → x ≡ y
one_value {A} step one x y is too = go (one (Ok x) (Ok y) is too)
  where
    go : ◌≡◌ {A = Result A Exit} (Ok x) (Ok y) → x ≡ y
    go same = cc
