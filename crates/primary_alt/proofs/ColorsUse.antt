-- What a color walk uses: what its first step does, and what the rest of it uses.
use Rattle.std.proofs.Common.{◌≡◌, ◌≢◌, ◌<◌, ◌⊎◌, ◌-◌, ◌==◌, ℕ, zero, suc, true, false, not, List, [], ◌∷◌, Option, Some, inl, inr, refl, sym, subst, arith}
use Rattle.std.specs.Prelude.{⊤, Contains}
use Rattle.std.proofs.lemmas.Bool.{cases_eq, eq-eqb, ne_eqb}
use Rattle.mrt_graph.specs.declared.link.Element.{Element}
use Rattle.mrt_graph.specs.declared.link.Element.TheVariants as elements
use Rattle.mrt_graph.specs.declared.link.Link.{Link}
use Rattle.mrt_graph.specs.ColorWalk.{links_followed}
use Rattle.mrt_graph.specs.Hop.{Hop}
use Rattle.mrt_graph.specs.Leads.{leads}
use Rattle.mrt_graph.specs.Separates.{IsNeitherEnd}
use Rattle.mrt_graph.specs.Uses.{Uses, nodes_met}
use Rattle.mrt_graph.proofs.Members.{contains_cases, contains_first, contains_later, contains_none}
use Rattle.mrt_graph.proofs.Trails.{IsOnLinks}
use Rattle.mrt_graph.proofs.Walks.{met_first, met_onward}
use Rattle.primary_alt.specs.Meets.{IsOver}

-- x is not node s
abbrev pub IsNotAt : Element → ℕ → Type 0
IsNotAt (elements.Link e) s = ⊤
IsNotAt (elements.Node x) s = x ≢ s

pub not_at_source : (x : Element) (s t : ℕ) → IsNeitherEnd x s t → IsNotAt x s
not_at_source (elements.Link e) s t between = tt
not_at_source (elements.Node x) s t between = between.0

-- what the step is over, a walk that begins with it uses
used_here : (links : List Link) (x : Element) (s e v : ℕ) (rest : List ℕ) → leads links e s ≡ Some v → IsOver e v x → Uses links s (e ∷ rest) x
used_here links (elements.Link k) s e v rest on over =
    subst (λ (y : ℕ). Contains (e ∷ rest) y) (sym over) (contains_first e rest)
used_here links (elements.Node y) s e v rest on over =
    subst (λ (xs : List ℕ). Contains xs y) (sym (met_onward links s e v rest on)) (contains_later s y (nodes_met links v rest)
    (subst (λ (z : ℕ). Contains (nodes_met links v rest) z) (sym over) (met_first links rest v)))

-- and what the rest uses
used_later : (links : List Link) (x : Element) (s e v : ℕ) (rest : List ℕ) → leads links e s ≡ Some v → Uses links v rest x → Uses links s (e ∷ rest) x
used_later links (elements.Link k) s e v rest on uses = contains_later e k rest uses
used_later links (elements.Node y) s e v rest on uses = subst (λ (xs : List ℕ). Contains xs y) (sym (met_onward links s e v rest on)) (contains_later s y (nodes_met links v rest) uses)

-- and nothing else but the node where it begins
used_either : (links : List Link) (x : Element) (s e v : ℕ) (rest : List ℕ) → leads links e s ≡ Some v → IsNotAt x s → Uses links s (e ∷ rest) x
    → IsOver e v x ⊎ Uses links v rest x
used_either links (elements.Link k) s e v rest on not_at uses = contains_cases e k rest uses
used_either links (elements.Node y) s e v rest on not_at uses = elim (contains_cases s y (nodes_met links v rest) (subst (λ (xs : List ℕ). Contains xs y) (met_onward links s e v rest on) uses)) [
  | inl here ↦ absurd (not_at here)
  | inr later ↦ inr later
]

-- a step that is not over x does not lead to x
not_at_next : (x : Element) (e v : ℕ) → (IsOver e v x → ⊥) → IsNotAt x v
not_at_next (elements.Link k) e v not_over = tt
not_at_next (elements.Node y) e v not_over = not_over

-- nothing more is used by the empty walk
not_used : (links : List Link) (x : Element) (s : ℕ) → IsNotAt x s → Uses links s [] x → ⊥
not_used links (elements.Link k) s not_at uses = contains_none k uses
not_used links (elements.Node y) s not_at uses = elim (contains_cases s y [] uses) [
  | inl here ↦ not_at here
  | inr none ↦ contains_none y none
]

-- the walk goes on by the hop of the node where it is
onward : (next : ℕ → Option Hop) (t most s : ℕ) (hop : Hop) → 0 < most → s ≢ t → next s ≡ Some hop
    → links_followed next t most s ≡ hop.link ∷ links_followed next t (most - 1) hop.to
onward next t zero s hop some other is = absurd (omega (arith, some))
onward next t (suc most) s hop some other is =
    let less : suc most - 1 ≡ most = omega arith in rw (ne_eqb s t other, is, less) refl

-- at t the walk ends
ended : (next : ℕ → Option Hop) (t most s : ℕ) → s ≡ t → links_followed next t most s ≡ []
ended next t zero s same = refl
ended next t (suc most) s same = rw (eq-eqb s t same) refl

-- on the way: x is used by the whole walk exactly where what is left of it uses x
pub record IsOnWay (links : List Link) (next : ℕ → Option Hop) (t : ℕ) (x : Element) (whole : List ℕ) (s : ℕ) (most at : ℕ) : Type 0 where
  pub not_at : IsNotAt x at
  pub to_whole : Uses links at (links_followed next t most at) x → Uses links s whole x
  pub to_rest : Uses links s whole x → Uses links at (links_followed next t most at) x

-- at the beginning
pub way_begins : (links : List Link) (next : ℕ → Option Hop) (t : ℕ) (x : Element) (s most : ℕ) → IsNeitherEnd x s t
    → IsOnWay links next t x (links_followed next t most s) s most s
way_begins links next t x s most between = record { not_at = not_at_source x s t between; to_whole = λ u. u; to_rest = λ u. u }

-- one step more
pub way_goes_on : (links : List Link) (next : ℕ → Option Hop) → IsOnLinks links next → (t : ℕ) (x : Element) (whole : List ℕ) (s most at : ℕ) (e v : ℕ)
    → 0 < most → at ≢ t → next at ≡ Some (record { link = e; to = v }) → (IsOver e v x → ⊥)
    → IsOnWay links next t x whole s most at → IsOnWay links next t x whole s (most - 1) v
way_goes_on links next on t x whole s most at e v some other is not_over way =
    let rest = links_followed next t (most - 1) v in
    let same : links_followed next t most at ≡ e ∷ rest = onward next t most at (record { link = e; to = v }) some other is in
    let leads_on : leads links e at ≡ Some v = on at (record { link = e; to = v }) is in
    record {
      not_at = not_at_next x e v not_over;
      to_whole = λ u. way.to_whole (subst (λ (walk : List ℕ). Uses links at walk x) (sym same) (used_later links x at e v rest leads_on u));
      to_rest = λ u. elim (used_either links x at e v rest leads_on way.not_at (subst (λ (walk : List ℕ). Uses links at walk x) same (way.to_rest u))) [
        | inl over ↦ absurd (not_over over)
        | inr later ↦ later
      ];
    }

-- a step over x: the walk uses x
pub way_meets : (links : List Link) (next : ℕ → Option Hop) → IsOnLinks links next → (t : ℕ) (x : Element) (whole : List ℕ) (s most at : ℕ) (e v : ℕ)
    → 0 < most → at ≢ t → next at ≡ Some (record { link = e; to = v }) → IsOver e v x
    → IsOnWay links next t x whole s most at → Uses links s whole x
way_meets links next on t x whole s most at e v some other is over way =
    let rest = links_followed next t (most - 1) v in
    let same : links_followed next t most at ≡ e ∷ rest = onward next t most at (record { link = e; to = v }) some other is in
    way.to_whole (subst (λ (walk : List ℕ). Uses links at walk x) (sym same)
    (used_here links x at e v rest (on at (record { link = e; to = v }) is) over))

-- at t: it does not
pub way_ends : (links : List Link) (next : ℕ → Option Hop) (t : ℕ) (x : Element) (whole : List ℕ) (s most at : ℕ) → at ≡ t
    → IsOnWay links next t x whole s most at → Uses links s whole x → ⊥
way_ends links next t x whole s most at same way u =
    not_used links x at way.not_at (subst (λ (walk : List ℕ). Uses links at walk x) (ended next t most at same) (way.to_rest u))

-- and with no step left neither
pub way_stops : (links : List Link) (next : ℕ → Option Hop) (t : ℕ) (x : Element) (whole : List ℕ) (s most at : ℕ) → most ≡ 0
    → IsOnWay links next t x whole s most at → Uses links s whole x → ⊥
way_stops links next t x whole s most at none way u =
    not_used links x at way.not_at (subst (λ (n : ℕ). Uses links at (links_followed next t n at) x) none (way.to_rest u))

-- what a comparison of two nodes tells
pub differ : (a b : ℕ) → not (a == b) ≡ true → a ≢ b
differ a b is same = let e = rw (eq-eqb a b same) at is in cc

pub agree : (a b : ℕ) → not (a == b) ≡ false → a ≡ b
agree a b is = elim (cases_eq a b) [
  | inl same ↦ same
  | inr other ↦ let e = rw (ne_eqb a b other) at is in cc
]
