-- Where routes give a primary, it is that of a router for a node that has a column; and why they give none.
use Rattle.std.proofs.Common.{◌≡◌, ◌≢◌, ◌<◌, ◌≤◌, ◌↔◌, ◌∙◌, ℕ, List, [], Option, Some, None, get_or, length, inl, inr, refl, sym, subst, arith}
use Rattle.std.specs.Prelude.{IsNone, unwrap_or}
use Rattle.std.proofs.lemmas.Bool.{cases_lt}
use Rattle.std.proofs.lemmas.List.{get_or_past}
use Rattle.std.proofs.lemmas.Option.{get_or_from_slice_get}
use Rattle.area_graph.specs.declared.area_types.Arc.{Arc}
use Rattle.area_graph.specs.Parts.{AreaParts}
use Rattle.primary_alt.specs.declared.shortest.Primary.{Primary}
use Rattle.primary_alt.specs.ArcWalk.{ArcWalk}
use Rattle.primary_alt.specs.Primaries.{Direct, IsPrimary, Itself, NoWalk, Over}
use Rattle.primary_alt.specs.RouteLists.{HasColumn, RouteLists, primary_at}
use Rattle.primary_alt.specs.Routers.{IsRouter}
use Rattle.primary_alt.specs.RoutesMade.{AreColumns, AtNetwork, HasNoPrimary, IsThere, NoColumn, NoWay}
use Rattle.primary_alt.proofs.ColumnsRead.{stands}
use Rattle.primary_alt.proofs.PrimariesLead.{entry_exactly}
use Rattle.primary_alt.proofs.RouterFacts.{router_alone, router_or_network}

no_clash : (primary : Primary) → None ≡ Some primary → ⊥
no_clash primary is = cc

-- no column has more
past_column : (column : List (Option Primary)) (s : ℕ) (primary : Primary) → length column ≤ s → get_or column s None ≡ Some primary → ⊥
past_column column s primary past is = no_clash primary (sym (get_or_past column s None past) ∙ is)

module _ (area : AreaParts) (routes : RouteLists) (all : AreColumns area routes) (s t : ℕ) (primary : Primary) (is : primary_at routes s t ≡ Some primary) where
  column_by : (o : Option (List (Option Primary))) → get_or routes.primaries t None ≡ o → get_or (unwrap_or o []) s None ≡ Some primary → HasColumn routes t
  column_by None at given = absurd (past_column [] s primary (omega arith) given)
  column_by (Some column) at given = record { column = column; there = stands routes.primaries t column at }

  pub given_column : HasColumn routes t
  given_column = column_by (get_or routes.primaries t None) refl is

  source_by : (o : Option (List (Option Primary))) → get_or routes.primaries t None ≡ o → get_or (unwrap_or o []) s None ≡ Some primary → s < length area.ids
  source_by None at given = absurd (past_column [] s primary (omega arith) given)
  source_by (Some column) at given = elim (cases_lt s (length column)) [
    | inl low ↦ omega (arith, low, all.an_entry_each t column (stands routes.primaries t column at))
    | inr past ↦ absurd (past_column column s primary past given)
  ]

  pub given_by_router : IsRouter area.ids s
  given_by_router = elim (router_or_network area.ids s (source_by (get_or routes.primaries t None) refl is)) [
    | inl router ↦ router
    | inr network ↦ absurd (no_clash primary (sym (all.networks s t network) ∙ is))
  ]

  pub given_primary : IsPrimary area s t (Some primary)
  given_primary = subst (λ (entry : Option Primary). IsPrimary area s t entry) is (all.routers s t given_by_router given_column)

module _ (area : AreaParts) (routes : RouteLists) (all : AreColumns area routes) (x t : ℕ) where
  walk_given : (primary : Primary) → primary_at routes x t ≡ Some primary → (x ≢ t) × ((walk : List Arc) × ArcWalk area.arcs x walk t)
  walk_given primary is = (entry_exactly area x t (Some primary) (given_primary area routes all x t primary is)).0 refl

  -- where one of these reasons holds there is none
  none_given : (entry : Option Primary) → primary_at routes x t ≡ entry → HasNoPrimary area routes x t → IsNone entry
  none_given None is why = refl
  none_given (Some primary) is (IsThere same) = absurd ((walk_given primary is).0 same)
  none_given (Some primary) is (AtNetwork network) = absurd (router_alone area.ids x (given_by_router area routes all x t primary is) network)
  none_given (Some primary) is (NoWay none) = let walk = (walk_given primary is).1 in absurd (none walk.0 walk.1)
  none_given (Some primary) is (NoColumn none) = absurd (none (given_column area routes all x t primary is))

  -- the reason of a router for a node that has a column
  by_entry : (entry : Option Primary) → IsNone entry → IsPrimary area x t entry → HasNoPrimary area routes x t
  by_entry entry none (Itself same) = IsThere same
  by_entry entry none (NoWalk never) = NoWay never
  by_entry entry none (Direct number arc apart first direct) = cc
  by_entry entry none (Over number second arc onward apart first over next) = cc

  -- the reason of a router
  by_column : IsRouter area.ids x → IsNone (primary_at routes x t) → (o : Option (List (Option Primary))) → get_or routes.primaries t None ≡ o → HasNoPrimary area routes x t
  by_column router none None at = NoColumn (λ has. no_column has.column (sym at ∙ get_or_from_slice_get routes.primaries t (Some has.column) None has.there))
    where
      no_column : (column : List (Option Primary)) → ¬ (◌≡◌ {A = Option (List (Option Primary))} None (Some column))
      no_column column same = cc
  by_column router none (Some column) at =
      by_entry (primary_at routes x t) none (all.routers x t router (record { column = column; there = stands routes.primaries t column at }))

  reason : x < length area.ids → IsNone (primary_at routes x t) → HasNoPrimary area routes x t
  reason within none = elim (router_or_network area.ids x within) [
    | inl router ↦ by_column router none (get_or routes.primaries t None) refl
    | inr network ↦ AtNetwork network
  ]

  pub none_exactly : (entry : Option Primary) → entry ≡ primary_at routes x t → x < length routes.primaries → IsNone entry ↔ HasNoPrimary area routes x t
  none_exactly entry is within =
      (λ none. reason (omega (arith, within, all.a_place_each)) (subst (λ (o : Option Primary). IsNone o) is none), none_given entry (sym is))
