-- What an area keeps of its arcs and bonds.
use Rattle.std.proofs.Common.{◌≡◌, ◌∙◌, ◌≤◌, ◌&&◌, ◌==◌, ◌⊎◌, ◌≢◌, ℕ, Bool, true, List, Option, Some, None, slice_get, length, inl, inr, refl, sym, ap, subst, arith}
use Rattle.std.specs.List.{AllByRecursion}
use Rattle.std.specs.Option.{option_map, unwrap_or}
use Rattle.std.proofs.lemmas.Bool.{and_parts, and_from, eq-eqb, eqb-true, false_from_ne_true}
use Rattle.std.proofs.lemmas.Option.{same_Some, slice_get-map}
use Rattle.mrt_graph.specs.InOrder.{in_order}
use Rattle.mrt_graph.specs.declared.node_id.NodeId.{NodeId}
use Rattle.mrt_graph.proofs.Members.{Has, all_has, all_from_has, all_map, has_at, same_tests}
use Rattle.mrt_graph.proofs.Tallies.{IsFound, count_is_tally, found_at, position_of_one, tally, tally_alike, tally_map, tally_none}
use Rattle.area_graph.specs.declared.area_types.Bond.{Bond}
use Rattle.area_graph.specs.declared.entry.NumberedEntry.{NumberedEntry as Entry}
use Rattle.area_graph.specs.AreaInvariant.{IsThere, IsBack, IsArc, IsBond, arcs_over, HasArcs}
use Rattle.area_graph.specs.steps.Listed.{IsEntry}
use Rattle.area_graph.specs.steps.NumberedArcs.{arc_cmp}
use Rattle.area_graph.specs.steps.NumberedArea.{numbered, bond_by, bond_from, arcs_of, bonds_of}
use Rattle.area_graph.specs.steps.NumberedBonds.{partner, bonds, same_entry, is_of, bond_of}
use Rattle.area_graph.proofs.Apart.{Once, count_itself, one_member, same_itself}
use Rattle.area_graph.proofs.OneBond.{IsLower, IsTeller, all_tell, not_both, of_either, of_itself, of_one_bond, of_partner}
use Rattle.area_graph.proofs.OrderedMembers.{has_in_order, tally_in_order}
use Rattle.area_graph.proofs.Partners.{partner_is}

-- entries of these nodes
abbrev pub AllEntries : List NodeId → List Entry → Type 0
AllEntries ids arcs = (entry : Entry) → Has arcs entry → IsEntry ids entry

-- the bond of an arc
pub record IsOfBond (arcs : List Entry) (arc : Entry) : Type 0 where
  pub place : ℕ
  pub one : Entry
  pub there : slice_get (bonds arcs) place ≡ Some one
  pub is : is_of arcs arc one ≡ true
  pub number : bond_of arcs arc ≡ place

pub number_is : (arcs : List Entry) (arc : Entry) (place : ℕ) (one : Entry) → Once arcs → Has arcs arc → arc.tail ≢ arc.far
    → slice_get (bonds arcs) place ≡ Some one → is_of arcs arc one ≡ true → bond_of arcs arc ≡ place
number_is arcs arc place one once has different there is =
    let once_there : tally (is_of arcs arc) (bonds arcs) ≤ 1 = omega (arith, of_one_bond arcs arc once has different) in
    ap (λ o. unwrap_or o (length (bonds arcs))) (position_of_one (is_of arcs arc) (bonds arcs) place one once_there there is)

pub of_bond : (arcs : List Entry) (arc : Entry) → Once arcs → Has arcs arc → arc.tail ≢ arc.far → IsOfBond arcs arc
of_bond arcs arc once has different =
    let found : IsFound (is_of arcs arc) (bonds arcs) = found_at (is_of arcs arc) (bonds arcs) (omega (arith, of_one_bond arcs arc once has different)) in
    record {
      place = found.place;
      one = found.item;
      there = found.there;
      is = found.passes;
      number = number_is arcs arc found.place found.item once has different found.there found.passes;
    }

teller_at : (arcs : List Entry) (place : ℕ) (one : Entry) → slice_get (bonds arcs) place ≡ Some one → IsTeller arcs one
teller_at arcs place one there = all_has (IsTeller arcs) (bonds arcs) one (all_tell arcs) (has_at (bonds arcs) place one there)

bond_at : (arcs : List Entry) (place : ℕ) (one : Entry) → slice_get (bonds arcs) place ≡ Some one → slice_get (bonds_of arcs) place ≡ Some (bond_from arcs one)
bond_at arcs place one there = slice_get-map (bond_from arcs) (bonds arcs) place ∙ ap (option_map (bond_from arcs)) there

-- an arc leads over its bond
there_by : (arcs : List Entry) (one : Entry) (o : Option Entry) → IsThere (bond_by one o) (numbered arcs one)
there_by arcs one None = record { tail = refl; to = refl; metric = refl; link_data = refl }
there_by arcs one (Some back) = record { tail = refl; to = refl; metric = refl; link_data = refl }

leads_over : (arcs : List Entry) (arc one : Entry) → (arc ≡ one) ⊎ (partner arcs one ≡ Some arc)
    → IsThere (bond_from arcs one) (numbered arcs arc) ⊎ IsBack (bond_from arcs one) (numbered arcs arc)
leads_over arcs arc one (inl same) = inl (subst (λ e. IsThere (bond_from arcs one) (numbered arcs e)) (sym same) (there_by arcs one (partner arcs one)))
leads_over arcs arc one (inr other) =
    let ends = partner_is arcs one arc other in
    inr (subst (λ o. IsBack (bond_by one o) (numbered arcs arc)) (sym other)
    (record { paired = refl; tail = ends.tail; to = ends.far; metric = refl; link_data = refl }))

arc_kept : (ids : List NodeId) (arcs : List Entry) (arc : Entry) → AllEntries ids arcs → Once arcs → Has arcs arc → IsArc ids (bonds_of arcs) (numbered arcs arc)
arc_kept ids arcs arc entries once has =
    let entry = entries arc has in
    let of = of_bond arcs arc once has entry.different in
    let teller = teller_at arcs of.place of.one of.there in
    record {
      bond = bond_from arcs of.one;
      there = ap (slice_get (bonds_of arcs)) of.number ∙ bond_at arcs of.place of.one of.there;
      leads = leads_over arcs arc of.one (of_either arcs arc of.one once has teller.there of.is);
      of_network = entry.of_network;
      of_router = entry.of_router;
    }

pub arcs_kept : (ids : List NodeId) (arcs : List Entry) → AllEntries ids arcs → Once arcs → AllByRecursion (IsArc ids (bonds_of arcs)) (arcs_of arcs)
arcs_kept ids arcs entries once =
    all_map (IsArc ids (bonds_of arcs)) (numbered arcs) (in_order arc_cmp arcs)
    (all_from_has (λ arc. IsArc ids (bonds_of arcs) (numbered arcs arc)) (in_order arc_cmp arcs) (λ arc has.
    arc_kept ids arcs arc entries once (has_in_order arc_cmp arcs arc has)))

-- bonds
bond_by_kept : (ids : List NodeId) (one : Entry) (o : Option Entry) → IsEntry ids one → IsLower one o → IsBond ids (bond_by one o)
bond_by_kept ids one None entry lower = record {
  a = entry.tail;
  b = entry.far;
  different = entry.different;
  not_both_networks = entry.not_both_networks;
  ascending = λ paired. cc;
  one_sided = λ _. (refl, refl);
}
bond_by_kept ids one (Some back) entry lower = record {
  a = entry.tail;
  b = entry.far;
  different = entry.different;
  not_both_networks = entry.not_both_networks;
  ascending = λ _. lower;
  one_sided = λ alone. cc;
}

pub bonds_kept : (ids : List NodeId) (arcs : List Entry) → AllEntries ids arcs → AllByRecursion (IsBond ids) (bonds_of arcs)
bonds_kept ids arcs entries =
    all_map (IsBond ids) (bond_from arcs) (bonds arcs) (all_from_has (λ one. IsBond ids (bond_from arcs one)) (bonds arcs) (λ one has.
    let teller : IsTeller arcs one = all_has (IsTeller arcs) (bonds arcs) one (all_tell arcs) has in
    bond_by_kept ids one (partner arcs one) (entries one teller.there) teller.lower))

-- how many arcs leave a node over a bond
abbrev leaves_over : List Entry → ℕ → ℕ → Entry → Bool
leaves_over arcs number tail arc = (bond_of arcs arc == number) && (arc.tail == tail)

count_over : (arcs : List Entry) (number tail : ℕ) → arcs_over (arcs_of arcs) number tail ≡ tally (leaves_over arcs number tail) arcs
count_over arcs number tail =
    count_is_tally (λ arc. (arc.bond == number) && (arc.tail == tail)) (arcs_of arcs)
    ∙ tally_map (λ arc. (arc.bond == number) && (arc.tail == tail)) (numbered arcs) (in_order arc_cmp arcs)
    ∙ tally_in_order arc_cmp (leaves_over arcs number tail) arcs

module _ (arcs : List Entry) (once : Once arcs) (number : ℕ) (one : Entry) (there : slice_get (bonds arcs) number ≡ Some one) where
  -- an arc over a bond tells it, or is the partner of the one that does
  over_bond : (arc : Entry) → Has arcs arc → arc.tail ≢ arc.far → bond_of arcs arc ≡ number → (arc ≡ one) ⊎ (partner arcs one ≡ Some arc)
  over_bond arc has different is =
      let of = of_bond arcs arc once has different in
      let same_place : of.place ≡ number = sym of.number ∙ is in
      let same : of.one ≡ one = same_Some of.one one (sym of.there ∙ ap (slice_get (bonds arcs)) same_place ∙ there) in
      of_either arcs arc one once has (teller_at arcs number one there).there (subst (λ e. is_of arcs arc e ≡ true) same of.is)

  -- exactly one arc leaves a node over it, where one of its arcs alone leaves that node
  one_leaves : (leaver : Entry) → Has arcs leaver → leaver.tail ≢ leaver.far → is_of arcs leaver one ≡ true
      → ((arc : Entry) → Has arcs arc → bond_of arcs arc ≡ number → arc.tail ≡ leaver.tail → arc ≡ leaver) → arcs_over (arcs_of arcs) number leaver.tail ≡ 1
  one_leaves leaver has different is alone =
      count_over arcs number leaver.tail
      ∙ tally_alike (leaves_over arcs number leaver.tail) (same_entry leaver) arcs (λ arc has_arc. same_tests (leaves_over arcs number leaver.tail arc) (same_entry leaver arc)
      (λ passes.
      let parts = and_parts (bond_of arcs arc == number) (arc.tail == leaver.tail) passes in
      let same = alone arc has_arc (eqb-true (bond_of arcs arc) number parts.0) (eqb-true arc.tail leaver.tail parts.1) in
      subst (λ e. same_entry leaver e ≡ true) (sym same) (same_itself leaver))
      (λ same.
      let first : leaver ≡ arc = one_member arcs leaver arc once has has_arc same in
      subst (λ e. leaves_over arcs number leaver.tail e ≡ true) first
      (and_from (bond_of arcs leaver == number) (leaver.tail == leaver.tail)
      (eq-eqb (bond_of arcs leaver) number (number_is arcs leaver number one once has different there is))
      (eq-eqb leaver.tail leaver.tail refl))))
      ∙ count_itself arcs leaver once has

  none_leaves : (tail : ℕ) → ((arc : Entry) → Has arcs arc → bond_of arcs arc ≡ number → arc.tail ≡ tail → ⊥) → arcs_over (arcs_of arcs) number tail ≡ 0
  none_leaves tail none =
      count_over arcs number tail ∙ tally_none (leaves_over arcs number tail) arcs (λ arc has. false_from_ne_true (leaves_over arcs number tail arc) (λ passes.
      let parts = and_parts (bond_of arcs arc == number) (arc.tail == tail) passes in
      none arc has (eqb-true (bond_of arcs arc) number parts.0) (eqb-true arc.tail tail parts.1)))

  has_by : (ids : List NodeId) (o : Option Entry) → partner arcs one ≡ o → AllEntries ids arcs → HasArcs (arcs_of arcs) number (bond_by one o)
  has_by ids None is entries =
      let has_one = (teller_at arcs number one there).there in
      let entry = entries one has_one in
      let only : (arc : Entry) → Has arcs arc → bond_of arcs arc ≡ number → arc ≡ one = λ arc has at. elim (over_bond arc has (entries arc has).different at) [
        | inl same ↦ same
        | inr other ↦ absurd (not_both (partner arcs one) arc is other)
      ] in
      record {
        there = one_leaves one has_one entry.different (of_itself arcs one) (λ arc has at tail. only arc has at);
        back = none_leaves one.far (λ arc has at tail. entry.different (sym (ap (λ (e : Entry). e.tail) (only arc has at)) ∙ tail));
      }
  has_by ids (Some back) is entries =
      let has_one = (teller_at arcs number one there).there in
      let entry = entries one has_one in
      let ends = partner_is arcs one back is in
      let either : (arc : Entry) → Has arcs arc → bond_of arcs arc ≡ number → (arc ≡ one) ⊎ (arc ≡ back) = λ arc has at. elim (over_bond arc has (entries arc has).different at) [
        | inl same ↦ inl same
        | inr other ↦ inr (same_Some arc back (sym other ∙ is))
      ] in
      let at_back : arcs_over (arcs_of arcs) number back.tail ≡ 1 =
      one_leaves back ends.there (entries back ends.there).different (of_partner arcs back one is)
      (λ arc has at tail. elim (either arc has at) [
        | inl same ↦ absurd (entry.different (sym (ap (λ (e : Entry). e.tail) same) ∙ tail ∙ ends.tail))
        | inr same ↦ same
      ]) in
      record {
        there = one_leaves one has_one entry.different (of_itself arcs one)
            (λ arc has at tail. elim (either arc has at) [
              | inl same ↦ same
              | inr same ↦ absurd (entry.different (sym tail ∙ ap (λ (e : Entry). e.tail) same ∙ ends.tail))
            ]);
        back = subst (λ tail. arcs_over (arcs_of arcs) number tail ≡ 1) ends.tail at_back;
      }

told_by : (arcs : List Entry) (o : Option Entry) (bond : Bond) → option_map (bond_from arcs) o ≡ Some bond → (one : Entry) × (o ≡ Some one) × (bond_from arcs one ≡ bond)
told_by arcs None bond is = absurd cc
told_by arcs (Some one) bond is = (one, refl, same_Some (bond_from arcs one) bond is)

pub bonds_have_arcs : (ids : List NodeId) (arcs : List Entry) → AllEntries ids arcs → Once arcs
    → (number : ℕ) (bond : Bond) → slice_get (bonds_of arcs) number ≡ Some bond → HasArcs (arcs_of arcs) number bond
bonds_have_arcs ids arcs entries once number bond there =
    let told = told_by arcs (slice_get (bonds arcs) number) bond (sym (slice_get-map (bond_from arcs) (bonds arcs) number) ∙ there) in
    subst (HasArcs (arcs_of arcs) number) told.2 (has_by arcs once number told.0 told.1 ids (partner arcs told.0) refl entries)
