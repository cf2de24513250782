use Rattle.std.proofs.Common.{◌≡◌, ◌∙◌, ℕ, List, Option, None, Some, get_or, eq-eqb, sym, subst, true≢false}
use Rattle.primary_alt.specs.Distances.{HasDistance}
use Rattle.primary_alt.proofs.Beginning.{equal_by}
use Rattle.primary_alt.proofs.NumbersRead.{number_read, one_number, read_of}
use Rattle.primary_alt.proofs.backward.stands.Goals as goal

none_read : (known : List (Option ℕ)) (at v d : ℕ) → at ≡ v → get_or known at None ≡ None → ¬ HasDistance known v d
none_read known at v d same none has = let clash : None ≡ Some d = sym none ∙ read_of known at v d same has in cc

pub returns-in-Some : goal.returns-in-Some
returns-in-Some c =
    let known = c.args.known.now in
    let node = c.args.offer.now.node in
    let there = number_read known c.get.result node c.in-Some.distance c.get.ensures.value c.requires c.in-Some.is in (
      λ is. subst (λ (d : ℕ). HasDistance known node d) (sym (equal_by c.in-Some.distance c.args.offer.now.distance is)) there,
      λ has. eq-eqb c.in-Some.distance c.args.offer.now.distance (one_number known node c.in-Some.distance c.args.offer.now.distance there has),
    )

pub returns-in-None : goal.returns-in-None
returns-in-None c = (
  λ is. absurd (true≢false (sym is)),
  λ has. absurd (none_read c.args.known.now c.get.result c.args.offer.now.node c.args.offer.now.distance c.get.ensures.value c.in-None.is has),
)
