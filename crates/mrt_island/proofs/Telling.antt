-- What a search goes over: arcs one after another, and what the arcs of a node lead to.
use Rattle.std.proofs.Common.{◌≡◌, ◌≢◌, ◌⊎◌, ◌<◌, ◌≤◌, ◌+◌, ◌==◌, ◌∙◌, ℕ, Bool, true, List, length, Some, None, inl, inr, sym, ap, subst, arith}
use Rattle.std.specs.Prelude.{◌&&◌, slice_get}
use Rattle.std.specs.List.{AllByRecursion, filter}
use Rattle.std.proofs.lemmas.Bool.{and_parts, cases_lt, eq-eqb, eqb-true, ne_eqb}
use Rattle.std.proofs.lemmas.Bool.Decides.{eqb_tells}
use Rattle.std.proofs.lemmas.Option.{slice_get_within}
use Rattle.mrt_graph.specs.Leads.{far_node}
use Rattle.mrt_graph.specs.Search.{Enters, IsMarked, SearchState}
use Rattle.mrt_graph.proofs.ListTests.{all_at}
use Rattle.mrt_graph.proofs.Searching.{enters_none, enters_both, enters_same}
use Rattle.mrt_graph.proofs.Tallies.{IsFound, counted_at}
use Rattle.area_graph.specs.AreaInvariant.{IsArc, IsArea, IsBack, IsBond, IsThere, arcs_over}
use Rattle.area_graph.specs.Parts.{AreaParts}
use Rattle.area_graph.specs.declared.area_types.Arc.{Arc}
use Rattle.area_graph.specs.declared.area_types.Bond.{Bond}
use Rattle.mrt_island.specs.Members.{nodes_of}
use Rattle.mrt_graph.proofs.Filters.{kept_at, passes_at}
use Rattle.mrt_island.specs.steps.Searching.{ArePairs, LeadsBy, LeadsOver}

-- one of the first n arcs leads to v over a bond whose flag is set
pub record IsTold (arcs : List Arc) (flags : List Bool) (n v : ℕ) : Type 0 where
  pub place : ℕ
  pub arc : Arc
  pub early : place < n
  pub there : slice_get arcs place ≡ Some arc
  pub leads : LeadsBy flags arc v

pub none_told : (arcs : List Arc) (flags : List Bool) (search : SearchState) → Enters (IsTold arcs flags 0) search search
none_told arcs flags search =
    enters_same (λ (v : ℕ). ⊥) (IsTold arcs flags 0) search search (λ v h. absurd h) (λ v h. absurd (omega (arith, h.early))) (enters_none search)

pub next_told : (arcs : List Arc) (flags : List Bool) (n : ℕ) (arc : Arc) (s0 s1 s2 : SearchState)
    → slice_get arcs n ≡ Some arc → Enters (IsTold arcs flags n) s0 s1 → Enters (LeadsBy flags arc) s1 s2 → Enters (IsTold arcs flags (n + 1)) s0 s2
next_told arcs flags n arc s0 s1 s2 there before here =
    enters_both (IsTold arcs flags n) (LeadsBy flags arc) (IsTold arcs flags (n + 1))
    (λ v h. record { place = h.place; arc = h.arc; early = omega (arith, h.early); there = h.there; leads = h.leads })
    (λ v h. record { place = n; arc = arc; early = omega arith; there = there; leads = h })
    (λ v h. elim (cases_lt h.place n) [
      | inl below ↦ inl (record { place = h.place; arc = h.arc; early = below; there = h.there; leads = h.leads })
      | inr above ↦
          let last : h.place ≡ n = omega (arith, h.early, above) in
          let also : slice_get arcs n ≡ Some h.arc = subst (λ (k : ℕ). slice_get arcs k ≡ Some h.arc) last h.there in
          let same : h.arc ≡ arc = cc
          in inr (subst (λ (a : Arc). LeadsBy flags a v) same h.leads)
    ])
    s0 s1 s2 before here

-- the arcs that leave node u
abbrev pub leaving : ℕ → List Arc → List Arc
leaving u arcs = filter (λ arc. arc.tail == u) arcs

-- where a link leads from u: to b where a is u, to a where b is u
pub far_cases : (u a b v : ℕ) → far_node u (record { a = a; b = b }) ≡ Some v → ((a ≡ u) × (b ≡ v)) ⊎ ((b ≡ u) × (a ≡ v))
far_cases u a b v leads = elim (eqb_tells a u) [
  | inl at_a ↦ let there : Some b ≡ Some v = rw at_a.0 at leads in let to : b ≡ v = cc in inl (at_a.1, to)
  | inr not_a ↦ elim (eqb_tells b u) [
    | inl at_b ↦ let there : Some a ≡ Some v = rw (not_a.0, at_b.0) at leads in let to : a ≡ v = cc in inr (at_b.1, to)
    | inr not_b ↦ let nothing : None ≡ Some v = rw (not_a.0, not_b.0) at leads in absurd cc
  ]
]

pub far_to_b : (u a b v : ℕ) → a ≡ u → b ≡ v → far_node u (record { a = a; b = b }) ≡ Some v
far_to_b u a b v at_a to = rw (eq-eqb a u at_a) (ap Some to)

pub far_to_a : (u a b v : ℕ) → a ≢ b → b ≡ u → a ≡ v → far_node u (record { a = a; b = b }) ≡ Some v
far_to_a u a b v apart at_b to = rw (ne_eqb a u (λ same. apart (same ∙ sym at_b)), eq-eqb b u at_b) (ap Some to)

-- an arc that leaves node u leads over its bond
told_arc : (u v : ℕ) (bond : Bond) (arc : Arc) → arc.tail ≡ u → v ≡ arc.to → bond.a ≢ bond.b → IsThere bond arc ⊎ IsBack bond arc → far_node u (nodes_of bond) ≡ Some v
told_arc u v bond arc tail to apart (inl there) = far_to_b u bond.a bond.b v (sym there.tail ∙ tail) (sym there.to ∙ sym to)
told_arc u v bond arc tail to apart (inr back) = far_to_a u bond.a bond.b v apart (sym back.tail ∙ tail) (sym back.to ∙ sym to)

told_leads : (area : AreaParts) (flags : List Bool) (u n v : ℕ) → IsArea area → AllByRecursion (IsArc area.ids area.bonds) (leaving u area.arcs)
    → IsTold (leaving u area.arcs) flags n v → LeadsOver area.bonds flags u v
told_leads area flags u n v kept arcs told =
    let arc : IsArc area.ids area.bonds told.arc = all_at (IsArc area.ids area.bonds) (leaving u area.arcs) told.place told.arc arcs told.there in
    let bond : IsBond area.ids arc.bond = all_at (IsBond area.ids) area.bonds told.arc.bond arc.bond kept.bonds_kept arc.there in
    let tail : told.arc.tail ≡ u = eqb-true told.arc.tail u (passes_at (λ (a : Arc). a.tail == u) area.arcs told.place told.arc told.there) in
    record {
      number = told.arc.bond;
      bond = arc.bond;
      there = arc.there;
      flag = told.leads.flag;
      leads = told_arc u v arc.bond told.arc tail told.leads.to bond.different arc.leads;
    }

-- an arc of a bond leads to the bond's other node
other_end : (bond : Bond) (arc : Arc) (u v : ℕ) → bond.a ≢ bond.b → arc.tail ≡ u → ((bond.a ≡ u) × (bond.b ≡ v)) ⊎ ((bond.b ≡ u) × (bond.a ≡ v)) → IsThere bond arc ⊎ IsBack bond arc → v ≡ arc.to
other_end bond arc u v apart tail (inl out) (inl there) = sym out.1 ∙ sym there.to
other_end bond arc u v apart tail (inl out) (inr back) = absurd (apart (out.0 ∙ sym tail ∙ back.tail))
other_end bond arc u v apart tail (inr home) (inl there) = absurd (apart (sym there.tail ∙ tail ∙ sym home.0))
other_end bond arc u v apart tail (inr home) (inr back) = sym home.1 ∙ sym back.to

-- an arc of a bond that leaves u
one_over : (arcs : List Arc) (number u : ℕ) → 1 ≤ arcs_over arcs number u → IsFound (λ (arc : Arc). (arc.bond == number) && (arc.tail == u)) arcs
one_over arcs number u some = counted_at (λ (arc : Arc). (arc.bond == number) && (arc.tail == u)) arcs some

some_over : (area : AreaParts) (number u v : ℕ) (bond : Bond) → IsArea area → slice_get area.bonds number ≡ Some bond → bond.paired ≡ true
    → ((bond.a ≡ u) × (bond.b ≡ v)) ⊎ ((bond.b ≡ u) × (bond.a ≡ v)) → 1 ≤ arcs_over area.arcs number u
some_over area number u v bond kept there paired (inl out) =
    subst (λ (tail : ℕ). 1 ≤ arcs_over area.arcs number tail) out.0 (omega (arith, (kept.arcs_of_bonds number bond there).there))
some_over area number u v bond kept there paired (inr home) =
    let back : arcs_over area.arcs number bond.b ≡ 1 = rw paired at (kept.arcs_of_bonds number bond there).back
    in subst (λ (tail : ℕ). 1 ≤ arcs_over area.arcs number tail) home.0 (omega (arith, back))

leads_told : (area : AreaParts) (flags : List Bool) (u v : ℕ) → IsArea area → ArePairs area.bonds flags → LeadsOver area.bonds flags u v
    → IsTold (leaving u area.arcs) flags (length (leaving u area.arcs)) v
leads_told area flags u v kept pairs over =
    let way : ((over.bond.a ≡ u) × (over.bond.b ≡ v)) ⊎ ((over.bond.b ≡ u) × (over.bond.a ≡ v)) = far_cases u over.bond.a over.bond.b v over.leads in
    let found : IsFound (λ (arc : Arc). (arc.bond == over.number) && (arc.tail == u)) area.arcs =
    one_over area.arcs over.number u (some_over area over.number u v over.bond kept over.there (pairs over.number over.bond over.there over.flag) way) in
    let parts = and_parts (found.item.bond == over.number) (found.item.tail == u) found.passes in
    let number : found.item.bond ≡ over.number = eqb-true found.item.bond over.number parts.0 in
    let tail : found.item.tail ≡ u = eqb-true found.item.tail u parts.1 in
    let arc : IsArc area.ids area.bonds found.item = all_at (IsArc area.ids area.bonds) area.arcs found.place found.item kept.arcs_kept found.there in
    let bond : IsBond area.ids over.bond = all_at (IsBond area.ids) area.bonds over.number over.bond kept.bonds_kept over.there in
    let of_arc : slice_get area.bonds over.number ≡ Some arc.bond = subst (λ (k : ℕ). slice_get area.bonds k ≡ Some arc.bond) number arc.there in
    let same : arc.bond ≡ over.bond = let both : Some arc.bond ≡ Some over.bond = sym of_arc ∙ over.there in cc in
    let placed : (j : ℕ) × (slice_get (leaving u area.arcs) j ≡ Some found.item) = kept_at (λ (a : Arc). a.tail == u) area.arcs found.place found.item found.there parts.1 in
    record {
      place = placed.0;
      arc = found.item;
      early = slice_get_within (leaving u area.arcs) placed.0 found.item placed.1;
      there = placed.1;
      leads = record {
        flag = subst (λ (k : ℕ). IsMarked flags k) (sym number) over.flag;
        to = other_end over.bond found.item u v bond.different tail way (subst (λ (b : Bond). IsThere b found.item ⊎ IsBack b found.item) same arc.leads);
      };
    }

-- all arcs that leave node u lead to what bonds lead to from there
all_leaving : (area : AreaParts) (flags : List Bool) (u n : ℕ) (s0 s1 : SearchState) → IsArea area → ArePairs area.bonds flags
    → AllByRecursion (IsArc area.ids area.bonds) (leaving u area.arcs) → n ≡ length (leaving u area.arcs)
    → Enters (IsTold (leaving u area.arcs) flags n) s0 s1 → Enters (LeadsOver area.bonds flags u) s0 s1
all_leaving area flags u n s0 s1 kept pairs arcs all entered =
    enters_same (IsTold (leaving u area.arcs) flags n) (LeadsOver area.bonds flags u) s0 s1
    (λ v h. told_leads area flags u n v kept arcs h)
    (λ v h. subst (λ (k : ℕ). IsTold (leaving u area.arcs) flags k v) (sym all) (leads_told area flags u v kept pairs h))
    entered

pub all_told : (area : AreaParts) (arcs : List Arc) (flags : List Bool) (u n : ℕ) (s0 s1 : SearchState) → IsArea area → ArePairs area.bonds flags
    → arcs ≡ leaving u area.arcs → AllByRecursion (IsArc area.ids area.bonds) arcs → n ≡ length arcs
    → Enters (IsTold arcs flags n) s0 s1 → Enters (LeadsOver area.bonds flags u) s0 s1
all_told area arcs flags u n s0 s1 kept pairs is each all entered =
    all_leaving area flags u n s0 s1 kept pairs
    (subst (λ (l : List Arc). AllByRecursion (IsArc area.ids area.bonds) l) is each)
    (all ∙ ap (λ (l : List Arc). length l) is)
    (subst (λ (l : List Arc). Enters (IsTold l flags n) s0 s1) is entered)
