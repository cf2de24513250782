-- The repairs of a second arc, where there is one.
use Rattle.std.proofs.Common.{◌≡◌, ℕ, Option, Some, None, refl, sym, subst}
use Rattle.std.specs.Prelude.{IfSome, IsNone, IsSome}
use Rattle.mrt_graph.specs.declared.link.Element.{Element}
use Rattle.mrt_report.specs.LineParts.{LineParts}
use Rattle.mrt_report.specs.Repairs.{AreArcElements, AreArcRepairs, AreSecondRepairs}
use Rattle.mrt_report.specs.declared.row.ArcRepairs.{ArcRepairs}

pub second_repairs : (parts : LineParts) (to : ℕ) (number : Option ℕ) (link node : Option Element) (repairs : ArcRepairs) (found : Option ArcRepairs)
    → IfSome number (λ n. AreArcElements parts n link node)
    → ((n : ℕ) → AreArcElements parts n link node → AreArcRepairs parts to n repairs)
    → (IsSome number → found ≡ Some repairs) → (IsNone number → found ≡ None) → AreSecondRepairs parts to number found
second_repairs parts to None link node repairs found are made some none = subst (AreSecondRepairs parts to None) (sym (none refl)) tt
second_repairs parts to (Some n) link node repairs found are made some none =
    subst (AreSecondRepairs parts to (Some n)) (sym (some refl)) (made n are)
