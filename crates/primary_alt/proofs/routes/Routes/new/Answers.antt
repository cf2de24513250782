use Rattle.std.proofs.Common.{◌≡◌, ◌<◌, ◌∙◌, ℕ, List, get_or, length, ap, arith}
use Rattle.std.specs.Prelude.{Contains}
use Rattle.std.specs.List.{range_with_len}
use Rattle.std.proofs.lemmas.List.FromFn.{get_or-range_with_len, length-range_with_len}
use Rattle.primary_alt.proofs.routes.Routes.new.Goals as goal

-- the numbers below n are these
below : (n t : ℕ) (numbers : List ℕ) → numbers ≡ range_with_len 0 n → Contains numbers t → t < n
below n t numbers are has =
    let low : has.0 < n = omega (arith, has.1, ap length are, length-range_with_len 0 n) in
    omega (arith, low, has.2, ap (λ (xs : List ℕ). get_or xs has.0 t) are, get_or-range_with_len 0 n has.0 t low)

among : (n t : ℕ) (numbers : List ℕ) → numbers ≡ range_with_len 0 n → t < n → Contains numbers t
among n t numbers are low = (
  t,
  omega (arith, low, ap length are, length-range_with_len 0 n),
  omega (arith, ap (λ (xs : List ℕ). get_or xs t t) are, get_or-range_with_len 0 n t t low),
)

pub to-requires-clause-within : goal.to-requires-clause-within
to-requires-clause-within c = λ t has. below (length c.args.area.now.ids) t c.deref.result.now (c.deref.ensures.value ∙ c.in_ok-nodes.ensures) has

pub returns-clause-made : goal.returns-clause-made
returns-clause-made c = record {
  made = c.in_ok-routes.ensures.made;
  all = λ t low. (c.in_ok-routes.ensures.columns t).1 (among (length c.args.area.now.ids) t c.deref.result.now (c.deref.ensures.value ∙ c.in_ok-nodes.ensures) low);
}
