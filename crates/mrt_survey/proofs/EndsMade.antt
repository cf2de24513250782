-- The ends of links at a router, and how long their bytes are.
use Rattle.std.proofs.Common.{◌≡◌, ◌≤◌, ◌<◌, ◌∙◌, ◌+◌, ◌*◌, ◌==◌, ℕ, suc, true, false, List, [], ◌∷◌, Option, Some, None, length, refl, sym, ap, subst, inl, inr, arith}
use Rattle.std.specs.List.{AllByRecursion, enumerate_from, filter_map}
use Rattle.std.proofs.lemmas.Bool.Decides.{eqb_tells}
use Rattle.std.proofs.lemmas.List.Sums.{sum_by-cons}
use Rattle.std.proofs.lemmas.Option.{same_Some}
use Rattle.std.proofs.lemmas.List.FromFn.{length-enumerate_from}
use Rattle.ospf_lsa.specs.declared.lsa.RouterLink.{RouterLink}
use Rattle.ospf_lsa.specs.LsaText.{links_text, lsa_length}
use Rattle.ospf_lsa.specs.Lsas.{AreEntriesOf}
use Rattle.ospf_lsa.proofs.Links.{length_links}
use Rattle.mrt_graph.proofs.Members.{Has, all_filter_map, all_has}
use Rattle.mrt_survey.specs.declared.made_link.MadeLink.{MadeLink}
use Rattle.mrt_survey.specs.MadeLsas.{end_at, ends_of, link_to, plain_lsa}
use Rattle.mrt_survey.proofs.MadeBounds.{IsMadeLink}

-- a function gives at most as many as it is given
pub filter_map_fewer : {X Y : Type 0} (h : X → Option Y) (xs : List X) → length (filter_map h xs) ≤ length xs
filter_map_fewer h [] = omega arith
filter_map_fewer {Y = Y} h (x ∷ xs) = go (h x) refl (filter_map_fewer h xs)
  where
    go : (o : Option Y) → h x ≡ o → length (filter_map h xs) ≤ length xs → length (filter_map h (x ∷ xs)) ≤ suc (length xs)
    go None is rest = rw is (omega (arith, rest))
    go (Some y) is rest = rw is (omega (arith, rest))

pub few_ends : (links : List MadeLink) (router : ℕ) → length (ends_of links router) ≤ length links
few_ends links router =
    let few = filter_map_fewer (end_at router) (enumerate_from 1 links) in
    omega (arith, few, length-enumerate_from 1 links)

-- what an end is: of the link's other router, with the link's number
pub data IsEndAt (router k : ℕ) (link : MadeLink) : RouterLink → Type 0 where
  AtFirst : link.first ≡ router → IsEndAt router k link (link_to link.second k link.first_metric)
  AtSecond : link.second ≡ router → IsEndAt router k link (link_to link.first k link.second_metric)

end_is : (router k : ℕ) (link : MadeLink) (end : RouterLink) → end_at router (k, link) ≡ Some end → IsEndAt router k link end
end_is router k link end is = elim (eqb_tells link.first router) [
  | inl at ↦ subst (IsEndAt router k link) (same_Some _ end (sym (first at.0) ∙ is)) (AtFirst at.1)
  | inr not_first ↦ elim (eqb_tells link.second router) [
    | inl at ↦ subst (IsEndAt router k link) (same_Some _ end (sym (second not_first.0 at.0) ∙ is)) (AtSecond at.1)
    | inr not_second ↦ absurd (nothing (sym (none not_first.0 not_second.0) ∙ is))
  ]
]
  where
    first : (link.first == router) ≡ true → end_at router (k, link) ≡ Some (link_to link.second k link.first_metric)
    first at = rw at refl

    second : (link.first == router) ≡ false → (link.second == router) ≡ true → end_at router (k, link) ≡ Some (link_to link.first k link.second_metric)
    second not_first at = rw (not_first, at) refl

    none : (link.first == router) ≡ false → (link.second == router) ≡ false → end_at router (k, link) ≡ None
    none not_first not_second = rw (not_first, not_second) refl

    nothing : ◌≡◌ {A = Option RouterLink} None (Some end) → ⊥
    nothing e = cc

-- an end of the network's LSAs: its ID is no more than the count of the routers, and it is point-to-point, with a metric
-- from 1 to 64, without TOS entries
pub record IsMadeEnd (nodes most : ℕ) (end : RouterLink) : Type 0 where
  pub id_most : end.id ≤ nodes
  pub data_most : end.link_data ≤ most
  pub kind : end.kind ≡ 1
  pub metric_some : 1 ≤ end.metric
  pub metric_most : end.metric ≤ 64
  pub no_entries : end.entries ≡ 0

end_kept : (nodes most router k : ℕ) (link : MadeLink) (end : RouterLink) → k ≤ most → IsMadeLink nodes link → IsEndAt router k link end → IsMadeEnd nodes most end
end_kept nodes most router k link end few made (AtFirst _) = record {
  id_most = made.second_most;
  data_most = few;
  kind = refl;
  metric_some = made.first_metric_some;
  metric_most = made.first_metric_most;
  no_entries = refl;
}
end_kept nodes most router k link end few made (AtSecond _) = record {
  id_most = made.first_most;
  data_most = few;
  kind = refl;
  metric_some = made.second_metric_some;
  metric_most = made.second_metric_most;
  no_entries = refl;
}

-- a numbered link is one of the links, and its number is that of its place
pub numbered : (from : ℕ) (links : List MadeLink) (k : ℕ) (link : MadeLink) → Has (enumerate_from from links) (k, link)
    → (from ≤ k) × (k < from + length links) × Has links link
numbered from [] k link has = absurd has
numbered from (x ∷ xs) k link has = elim has [
  | inl same ↦
      let at : from ≡ k = ap (λ (p : ℕ × MadeLink). p.0) same in
      (omega (arith, at), omega (arith, at), inl (ap (λ (p : ℕ × MadeLink). p.1) same))
  | inr later ↦
      let rest = numbered (from + 1) xs k link later in
      (omega (arith, rest.0), omega (arith, rest.1), inr rest.2)
]

pub ends_kept : (nodes : ℕ) (links : List MadeLink) (router : ℕ) → AllByRecursion (IsMadeLink nodes) links
    → AllByRecursion (IsMadeEnd nodes (length links)) (ends_of links router)
ends_kept nodes links router all =
    all_filter_map (IsMadeEnd nodes (length links)) (end_at router) (enumerate_from 1 links)
    (λ x end has is.
    let n = numbered 1 links x.0 x.1 has in
    end_kept nodes (length links) router x.0 x.1 end (omega (arith, n.1)) (all_has (IsMadeLink nodes) links x.1 all n.2) (end_is router x.0 x.1 end is))

-- without TOS entries
bare_end : (router k : ℕ) (link : MadeLink) (end : RouterLink) → IsEndAt router k link end → end.entries ≡ 0
bare_end router k link end (AtFirst _) = refl
bare_end router k link end (AtSecond _) = refl

none_of_bare : (ends : List RouterLink) → AllByRecursion (λ (end : RouterLink). end.entries ≡ 0) ends → AreEntriesOf ends []
none_of_bare [] none = refl
none_of_bare (end ∷ ends) none =
    let rest = none_of_bare ends none.1 in
    omega (arith, sum_by-cons (λ (link : RouterLink). link.entries) end ends, none.0, rest)

pub bare_ends : (links : List MadeLink) (router : ℕ) → AreEntriesOf (ends_of links router) []
bare_ends links router =
    none_of_bare (ends_of links router)
    (all_filter_map (λ (end : RouterLink). end.entries ≡ 0) (end_at router) (enumerate_from 1 links)
    (λ x end has is. bare_end router x.0 x.1 end (end_is router x.0 x.1 end is)))

-- twelve bytes each
pub ends_text : (links : List MadeLink) (router : ℕ) → length (links_text (ends_of links router) []) ≡ 12 * length (ends_of links router)
ends_text links router = let text = length_links (ends_of links router) [] (bare_ends links router) in omega (arith, text)

-- the length of a router's LSA
pub plain_length : (links : List MadeLink) (router : ℕ) → lsa_length (plain_lsa links router) ≡ 24 + 12 * length (ends_of links router)
plain_length links router = let text = ends_text links router in omega (arith, text)

pub plain_fits : (links : List MadeLink) (router : ℕ) → length links ≤ 4096 → lsa_length (plain_lsa links router) ≤ 65535
plain_fits links router few =
    let long = plain_length links router in
    let ends = few_ends links router in
    omega (arith, few, long, ends)
