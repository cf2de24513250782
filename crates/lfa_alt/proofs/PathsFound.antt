-- The paths of a router, one arc after another.
use Rattle.std.proofs.Common.{◌≡◌, ◌≢◌, ◌<◌, ◌≤◌, ◌+◌, ◌∙◌, ◌⊎◌, ◌++◌, ℕ, List, [], ◌∷◌, Option, Some, None, length, slice_get, inl, inr, refl, sym, ap, subst, arith}
use Rattle.std.specs.Prelude.{◌↔◌, Contains, IsPermutation}
use Rattle.std.proofs.lemmas.Bool.{cases_lt}
use Rattle.std.proofs.lemmas.List.Elements.{Contains-append_cases, Contains-append_left, Contains-append_right}
use Rattle.std.proofs.lemmas.List.Sorted.{Contains-permutation, IsPermutation-sym}
use Rattle.std.proofs.lemmas.Option.{same_Some, slice_get_within}
use Rattle.area_graph.specs.declared.area_types.Arc.{Arc}
use Rattle.area_graph.specs.AreaInvariant.{IsArea}
use Rattle.area_graph.specs.Parts.{AreaParts}
use Rattle.mrt_graph.specs.GraphInvariant.{IsNetwork}
use Rattle.mrt_graph.proofs.Members.{contains_cases, contains_first, contains_none}
use Rattle.primary_alt.proofs.ArcWalks.{arc_kept}
use Rattle.lfa_alt.specs.declared.neighbour_path.NeighbourPath.{NeighbourPath}
use Rattle.lfa_alt.specs.Candidates.{Leaves}
use Rattle.lfa_alt.specs.steps.NeighbourPaths.{AcrossNetwork, AddsAcross, AddsOver, ArePaths, HasAcross, HasFor, IsAcrossTo, IsAgain, IsPathOver, LeadsOn, NotLater, StandsFor, ToNetwork, ToRouter, path_across, path_over}

-- one path more
pushed_cases : (paths : List NeighbourPath) (made path : NeighbourPath) → Contains (paths ++ made ∷ []) path → Contains paths path ⊎ (path ≡ made)
pushed_cases paths made path has = elim (Contains-append_cases paths (made ∷ []) path has) [
  | inl old ↦ inl old
  | inr new ↦ elim (contains_cases made path [] new) [ inl same ↦ inr same | inr none ↦ absurd (contains_none path none) ]
]

pushed_kept : (paths : List NeighbourPath) (made path : NeighbourPath) → Contains paths path → Contains (paths ++ made ∷ []) path
pushed_kept paths made path has = Contains-append_left paths (made ∷ []) path has

pushed_there : (paths : List NeighbourPath) (made : NeighbourPath) → Contains (paths ++ made ∷ []) made
pushed_there paths made = Contains-append_right paths (made ∷ []) made (contains_first made [])

-- a path stands for itself
not_later : (second : Option ℕ) → NotLater second second
not_later None = tt
not_later (Some second) = omega arith

stands_itself : (path : NeighbourPath) → StandsFor path path
stands_itself path = record { first = refl; second = not_later path.second; next = refl; bond = refl; metric = refl; network = refl }

for_itself : (paths : List NeighbourPath) (made path : NeighbourPath) → path ≡ made → Contains paths made → HasFor paths path
for_itself paths made path same has = subst (λ (w : NeighbourPath). HasFor paths w) (sym same) (record { path = made; there = has; stands = stands_itself made })

for_more : (paths more : List NeighbourPath) (path : NeighbourPath) → ((w : NeighbourPath) → Contains paths w → Contains more w) → HasFor paths path → HasFor more path
for_more paths more path kept has = record { path = has.path; there = kept has.path has.there; stands = has.stands }

module _ (arcs : List Arc) (s number : ℕ) (arc : Arc) (olds : List NeighbourPath) where
  across_later : (j k : ℕ) (one other : Arc) (paths more : List NeighbourPath) → j ≤ k → one.tail ≡ other.tail → one.to ≡ other.to → ((w : NeighbourPath) → Contains paths w → Contains more w)
      → HasAcross arcs number arc j one paths → HasAcross arcs number arc k other more
  across_later j k one other paths more low tail to kept has = record {
    least = has.least;
    other = has.other;
    low = omega (arith, has.low, low);
    there = has.there;
    from = has.from ∙ tail;
    to = has.to ∙ to;
    has = kept _ has.has;
  }

  pub across_none : AddsAcross arcs s number arc 0 olds olds
  across_none = record { only = λ path has. inl has; kept = λ path has. has; all = λ second onward low. absurd (omega (arith, low)) }

  module _ (paths : List NeighbourPath) (count : ℕ) (onward : Arc) (at : slice_get arcs count ≡ Some onward) (are : AddsAcross arcs s number arc count olds paths) where
    earlier : (path : NeighbourPath) → IsAcrossTo arcs s number arc count path → IsAcrossTo arcs s number arc (count + 1) path
    earlier path is = record { second = is.second; onward = is.onward; low = omega (arith, is.low); there = is.there; on = is.on; is = is.is }

    here_is : (k : ℕ) (other : Arc) → k ≡ count → slice_get arcs k ≡ Some other → other ≡ onward
    here_is k other here there = same_Some other onward (sym there ∙ ap (λ (i : ℕ). slice_get arcs i) here ∙ at)

    pub across_more : LeadsOn arc s onward → (made : NeighbourPath) → made ≡ path_across number arc (Some count) onward → AddsAcross arcs s number arc (count + 1) olds (paths ++ made ∷ [])
    across_more on made is = record {
      only = λ path has. elim (pushed_cases paths made path has) [
        | inl before ↦ elim (are.only path before) [ inl old ↦ inl old | inr across ↦ inr (earlier path across) ]
        | inr same ↦ inr (record { second = count; onward = onward; low = omega arith; there = at; on = on; is = same ∙ is })
      ];
      kept = λ path has. pushed_kept paths made path (are.kept path has);
      all = λ k other low there leads. elim (cases_lt k count) [
        | inl early ↦ across_later k k other other paths (paths ++ made ∷ []) (omega arith) refl refl (pushed_kept paths made) (are.all k other early there leads)
        | inr upto ↦
            let here : k ≡ count = omega (arith, low, upto) in
            let same : other ≡ onward = here_is k other here there in
            record {
              least = count;
              other = onward;
              low = omega (arith, here);
              there = at;
              from = ap (λ (a : Arc). a.tail) (sym same);
              to = ap (λ (a : Arc). a.to) (sym same);
              has = subst (λ (w : NeighbourPath). Contains (paths ++ made ∷ []) w) is (pushed_there paths made);
            }
      ];
    }

    pub across_left : (LeadsOn arc s onward → HasAcross arcs number arc count onward paths) → AddsAcross arcs s number arc (count + 1) olds paths
    across_left has_here = record {
      only = λ path has. elim (are.only path has) [ inl old ↦ inl old | inr across ↦ inr (earlier path across) ];
      kept = are.kept;
      all = λ k other low there leads. elim (cases_lt k count) [
        | inl early ↦ are.all k other early there leads
        | inr upto ↦
            let here : k ≡ count = omega (arith, low, upto) in
            let same : other ≡ onward = here_is k other here there in
            across_later count k onward other paths paths (omega (arith, here)) (ap (λ (a : Arc). a.tail) (sym same)) (ap (λ (a : Arc). a.to) (sym same)) (λ w has. has)
            (has_here (subst (λ (a : Arc). LeadsOn arc s a) same leads))
      ];
    }

    -- the one before leads there
    pub across_again : IsAgain arcs count onward → LeadsOn arc s onward → HasAcross arcs number arc count onward paths
    across_again again on =
        across_later again.before count again.arc onward paths paths (omega (arith, again.up)) again.tail again.to (λ w has. has)
        (are.all again.before again.arc (omega (arith, again.up)) again.there (again.tail ∙ on.0, λ back. on.1 (sym again.to ∙ back)))

  pub across_all : (paths : List NeighbourPath) (count : ℕ) → length arcs ≤ count → AddsAcross arcs s number arc count olds paths → AddsAcross arcs s number arc (length arcs) olds paths
  across_all paths count all are = record {
    only = λ path has. elim (are.only path has) [
      | inl old ↦ inl old
      | inr is ↦ inr (record { second = is.second; onward = is.onward; low = slice_get_within arcs is.second is.onward is.there; there = is.there; on = is.on; is = is.is })
    ];
    kept = are.kept;
    all = λ k other low there leads. are.all k other (omega (arith, low, all)) there leads;
  }

-- the paths over one arc
module _ (area : AreaParts) (s number : ℕ) (arc : Arc) (leaves : Leaves area s number arc) where
  one_arc : (other : Arc) → Leaves area s number other → other ≡ arc
  one_arc other is = same_Some other arc (sym is.there ∙ leaves.there)

  pub over_network : IsNetwork area.ids arc.to → (path : NeighbourPath)
      → IsPathOver area s number path ↔ ((path ≡ path_over number arc (Some arc.to)) ⊎ IsAcrossTo area.arcs s number arc (length area.arcs) path)
  over_network network path = (told path, made)
    where
      told : (path : NeighbourPath) → IsPathOver area s number path → (path ≡ path_over number arc (Some arc.to)) ⊎ IsAcrossTo area.arcs s number arc (length area.arcs) path
      told path (ToRouter other is not) = absurd (not (subst (λ (a : Arc). IsNetwork area.ids a.to) (sym (one_arc other is)) network))
      told path (ToNetwork other is net) = inl (ap (λ (a : Arc). path_over number a (Some a.to)) (one_arc other is))
      told path (AcrossNetwork second other onward is net on further) =
          let same = one_arc other is in
          inr (record {
            second = second;
            onward = onward;
            low = slice_get_within area.arcs second onward on.there;
            there = on.there;
            on = (on.from ∙ ap (λ (a : Arc). a.to) same, further);
            is = ap (λ (a : Arc). path_across number a (Some second) onward) same;
          })

      made : (path ≡ path_over number arc (Some arc.to)) ⊎ IsAcrossTo area.arcs s number arc (length area.arcs) path → IsPathOver area s number path
      made is = elim is [
        | inl same ↦ subst (λ (w : NeighbourPath). IsPathOver area s number w) (sym same) (ToNetwork arc leaves network)
        | inr across ↦
            subst (λ (w : NeighbourPath). IsPathOver area s number w) (sym across.is)
            (AcrossNetwork across.second arc across.onward leaves network (record { there = across.there; from = across.on.0 }) across.on.1)
      ]

  pub over_router : ¬ IsNetwork area.ids arc.to → (path : NeighbourPath) → IsPathOver area s number path ↔ (path ≡ path_over number arc None)
  over_router router path = (told path, λ same. subst (λ (w : NeighbourPath). IsPathOver area s number w) (sym same) (ToRouter arc leaves router))
    where
      told : (path : NeighbourPath) → IsPathOver area s number path → path ≡ path_over number arc None
      told path (ToRouter other is not) = ap (λ (a : Arc). path_over number a None) (one_arc other is)
      told path (ToNetwork other is net) = absurd (router (subst (λ (a : Arc). IsNetwork area.ids a.to) (one_arc other is) net))
      told path (AcrossNetwork second other onward is net on further) = absurd (router (subst (λ (a : Arc). IsNetwork area.ids a.to) (one_arc other is) net))

  -- what a network adds to the paths that were there
  across_for : IsArea area → IsNetwork area.ids arc.to → (more : List NeighbourPath) (path : NeighbourPath) → (is : IsAcrossTo area.arcs s number arc (length area.arcs) path)
      → HasAcross area.arcs number arc is.second is.onward more → HasFor more path
  across_for kept network more path is has =
      let free : (k : ℕ) (a : Arc) → slice_get area.arcs k ≡ Some a → a.tail ≡ arc.to → a.metric ≡ 0 =
      λ k a at tail. ((arc_kept area k a kept at).of_network (subst (λ (v : ℕ). IsNetwork area.ids v) (sym tail) network)).0 in
      let one = free has.least has.other has.there (has.from ∙ is.on.0) in
      let two = free is.second is.onward is.there is.on.0 in
      let made = path_across number arc (Some has.least) has.other in
      record {
        path = made;
        there = has.has;
        stands = subst (λ (w : NeighbourPath). StandsFor made w) (sym is.is)
            (record { first = refl; second = has.low; next = has.to; bond = refl; metric = ap (λ (n : ℕ). arc.metric + n) (one ∙ sym two); network = refl });
      }

  pub network_adds : IsArea area → IsNetwork area.ids arc.to → (olds paths more : List NeighbourPath) (made : NeighbourPath) → made ≡ path_over number arc (Some arc.to) → paths ≡ olds ++ made ∷ []
      → AddsAcross area.arcs s number arc (length area.arcs) paths more → AddsOver area s number olds more
  network_adds kept network olds paths more made is grown are = record {
    only = λ path has. elim (are.only path has) [
      | inl before ↦ elim (pushed_cases olds made path (subst (λ (ws : List NeighbourPath). Contains ws path) grown before)) [
        | inl old ↦ inl old
        | inr same ↦ inr ((over_network network path).1 (inl (same ∙ is)))
      ]
      | inr across ↦ inr ((over_network network path).1 (inr across))
    ];
    kept = λ path has. are.kept path (subst (λ (ws : List NeighbourPath). Contains ws path) (sym grown) (pushed_kept olds made path has));
    all = λ path by. elim ((over_network network path).0 by) [
      | inl same ↦ for_itself more made path (same ∙ sym is) (are.kept made (subst (λ (ws : List NeighbourPath). Contains ws made) (sym grown) (pushed_there olds made)))
      | inr across ↦ across_for kept network more path across (are.all across.second across.onward across.low across.there across.on)
    ];
  }

  pub router_adds : ¬ IsNetwork area.ids arc.to → (olds paths : List NeighbourPath) (made : NeighbourPath) → made ≡ path_over number arc None → paths ≡ olds ++ made ∷ [] → AddsOver area s number olds paths
  router_adds router olds paths made is grown = record {
    only = λ path has. elim (pushed_cases olds made path (subst (λ (ws : List NeighbourPath). Contains ws path) grown has)) [
      | inl old ↦ inl old
      | inr same ↦ inr ((over_router router path).1 (same ∙ is))
    ];
    kept = λ path has. subst (λ (ws : List NeighbourPath). Contains ws path) (sym grown) (pushed_kept olds made path has);
    all = λ path by. for_itself paths made path ((over_router router path).0 by ∙ sym is) (subst (λ (ws : List NeighbourPath). Contains ws made) (sym grown) (pushed_there olds made));
  }

-- paths over the first arcs
abbrev pub IsPathTo : AreaParts → ℕ → ℕ → NeighbourPath → Type 0
IsPathTo area s count path = (number : ℕ) × (number < count) × IsPathOver area s number path

pub record ArePathsTo (area : AreaParts) (s count : ℕ) (paths : List NeighbourPath) : Type 0 where
  pub only : (path : NeighbourPath) → Contains paths path → IsPathTo area s count path
  pub all : (number : ℕ) (path : NeighbourPath) → number < count → IsPathOver area s number path → HasFor paths path

pub no_path : (area : AreaParts) (s : ℕ) → ArePathsTo area s 0 []
no_path area s = record { only = λ path has. absurd (contains_none path has); all = λ number path low. absurd (omega (arith, low)) }

pub arc_more : (area : AreaParts) (s count : ℕ) (olds paths : List NeighbourPath) → ArePathsTo area s count olds → AddsOver area s count olds paths → ArePathsTo area s (count + 1) paths
arc_more area s count olds paths before are = record {
  only = λ path has. elim (are.only path has) [
    | inl old ↦ let was = before.only path old in (was.0, omega (arith, was.1), was.2)
    | inr is ↦ (count, omega arith, is)
  ];
  all = λ number path low is. elim (cases_lt number count) [
    | inl early ↦ for_more olds paths path are.kept (before.all number path early is)
    | inr upto ↦
        let here : number ≡ count = omega (arith, low, upto) in
        are.all path (subst (λ (n : ℕ). IsPathOver area s n path) here is)
  ];
}

-- its arc leaves s
own_arc : (area : AreaParts) (s number : ℕ) (path : NeighbourPath) → IsPathOver area s number path → (arc : Arc) × Leaves area s number arc
own_arc area s number path (ToRouter arc is not) = (arc, is)
own_arc area s number path (ToNetwork arc is net) = (arc, is)
own_arc area s number path (AcrossNetwork second arc onward is net on further) = (arc, is)

pub arc_left : (area : AreaParts) (s count : ℕ) (paths : List NeighbourPath) → ((arc : Arc) → slice_get area.arcs count ≡ Some arc → arc.tail ≢ s) → ArePathsTo area s count paths
    → ArePathsTo area s (count + 1) paths
arc_left area s count paths other are = record {
  only = λ path has. let was = are.only path has in (was.0, omega (arith, was.1), was.2);
  all = λ number path low is. elim (cases_lt number count) [
    | inl early ↦ are.all number path early is
    | inr upto ↦
        let here : number ≡ count = omega (arith, low, upto) in
        let own = own_arc area s count path (subst (λ (n : ℕ). IsPathOver area s n path) here is) in
        absurd (other own.0 own.1.there own.1.from)
  ];
}

pub all_paths : (area : AreaParts) (s count : ℕ) (paths moved : List NeighbourPath) → length area.arcs ≤ count → ArePathsTo area s count paths → IsPermutation paths moved → ArePaths area s moved
all_paths area s count paths moved all are same = record {
  only = λ path has. let is = are.only path (Contains-permutation moved paths path (IsPermutation-sym paths moved same) has) in (is.0, is.2);
  all = λ number path is.
      let own = own_arc area s number path is in
      for_more paths moved path (λ w. Contains-permutation paths moved w same)
      (are.all number path (omega (arith, slice_get_within area.arcs number own.0 own.1.there, all)) is);
}
