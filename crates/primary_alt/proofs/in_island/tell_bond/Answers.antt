use Rattle.std.proofs.Common.{◌≡◌, ◌∙◌, ◌<◌, ℕ, Option, Some, length, set, slice_get, inl, inr, sym, ap, subst}
use Rattle.std.specs.Prelude.{IfSome}
use Rattle.std.proofs.lemmas.Bool.{cases_eq}
use Rattle.std.proofs.lemmas.Option.{same_Some}
use Rattle.mrt_graph.proofs.ListPlaces.{set_elsewhere, set_there}
use Rattle.primary_alt.proofs.in_island.tell_bond.Goals as goal

pub returns-in-Some-clause-told : goal.returns-in-Some-clause-told
returns-in-Some-clause-told c = λ e b at.
    let bonds = c.args.bonds.now.items in
    let link = c.in-Some.link in
    let now : slice_get (set bonds link c.args.bond) e ≡ Some b = subst (λ (i : ℕ). slice_get (set bonds i c.args.bond) e ≡ Some b) c.get.ensures.value at in
    let within : link < length bonds = subst (λ (o : Option ℕ). IfSome o (λ k. k < length bonds)) c.in-Some.is c.requires in
    elim (cases_eq e link) [
      | inl same ↦
          let here = subst (λ (k : ℕ). slice_get (set bonds link c.args.bond) k ≡ Some b) same now in
          inl (c.in-Some.is ∙ ap (λ (k : ℕ). Some k) (sym same), same_Some b c.args.bond (sym here ∙ set_there bonds link c.args.bond within))
      | inr other ↦ inr (λ is. other (same_Some e link (sym is ∙ c.in-Some.is)), sym (set_elsewhere bonds link e c.args.bond other) ∙ now)
    ]

pub returns-in_default-clause-told : goal.returns-in_default-clause-told
returns-in_default-clause-told c = λ e b at. inr (c.in_default.not-Some e, at)
