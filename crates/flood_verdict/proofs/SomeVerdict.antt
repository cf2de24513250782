-- Of two databases in which LSAs were installed and a router there is a verdict.
use Rattle.std.proofs.Common.{◌≡◌, ◌⊎◌, ◌<◌, ◌^◌, ℕ, Bool, true, false, List, Option, Some, None, length, inl, inr, refl, sym, ap, subst, arith}
use Rattle.std.specs.Prelude.{Contains}
use Rattle.std.specs.Cmp.Lexicographic.{bytes_decides}
use Rattle.std.specs.List.{AllByRecursion}
use Rattle.std.specs.Str.{bytes_eq}
use Rattle.std.proofs.lemmas.Bool.{cases_Bool, cases_lt}
use Rattle.area_graph.specs.AreaInvariant.{IsArea}
use Rattle.area_graph.specs.AreaOf.{area_of}
use Rattle.area_graph.specs.AreaSize.{IsTooLarge}
use Rattle.area_graph.specs.Fits.{Fits}
use Rattle.area_graph.specs.Parts.{AreaParts}
use Rattle.area_graph.specs.Ranges.{FitsBond}
use Rattle.cert_format.specs.CertText.{cert_text}
use Rattle.cert_format.specs.Limits.{IsCertFile}
use Rattle.cert_stream.specs.OfGraph.{IsOfGraph}
use Rattle.flood.specs.declared.verdict.Verdict.{Verdict}
use Rattle.flood.specs.declared.verdict.Verdict.TheVariants as verdicts
use Rattle.lsdb.specs.Conflicts.{least_conflict}
use Rattle.lsdb.specs.Entries.{Database}
use Rattle.lsdb.specs.Installing.{IsKept}
use Rattle.lsdb.specs.Orders.{newest_in}
use Rattle.lsdb.specs.declared.change.Conflict.{Conflict}
use Rattle.mrt_graph.specs.GraphInvariant.{IsTopology}
use Rattle.mrt_graph.specs.NodeIds.{number_of, router as router_node}
use Rattle.mrt_graph.specs.Topology.{Topology}
use Rattle.mrt_graph.specs.declared.cert.CertFile.{CertFile}
use Rattle.mrt_graph.specs.declared.node_id.NodeId.{NodeId}
use Rattle.mrt_graph.proofs.IdPlaces.{contained_by_number, told}
use Rattle.mrt_graph.proofs.Members.{all_from_has, all_has, contains_from_has, has_from_contains}
use Rattle.mrt_island.specs.IslandOf.{IsIsland}
use Rattle.mrt_island.specs.Policy.{Policy, policy_of}
use Rattle.mrt_island.specs.declared.setting.Setting.{Setting}
use Rattle.mrt_rows.specs.CertOf.{IsCertOf}
use Rattle.ospf_lsa.specs.Lsas.{FitsBody}
use Rattle.ospf_lsa.specs.declared.lsa.Lsa.{Lsa}
use Rattle.flood_verdict.specs.OfLsas.{IsOfLsas}
use Rattle.flood_verdict.specs.Says.{Absent, IsSilent, Says, Tells, TooLarge, Unsettled, Unsupported, area_in}
use Rattle.flood_verdict.proofs.OneVerdict.{root_within}

-- a number of 32 bits
abbrev IsWide : NodeId → Type 0
IsWide id = id.number < 2 ^ 32

-- the laws of the layers below
pub record SomeLaws : Type 0 where
  pub area : (lsas : List Lsa) → AllByRecursion IsKept lsas
      → (IsTooLarge (length (area_of (newest_in lsas)).ids) (length (area_of (newest_in lsas)).arcs) → ⊥)
      → IsArea (area_of (newest_in lsas))
  pub bonds : (lsas : List Lsa) → AllByRecursion (λ (lsa : Lsa). FitsBody lsa.body) lsas → AllByRecursion FitsBond (area_of (newest_in lsas)).bonds
  pub ids : (lsas : List Lsa) → AllByRecursion (λ (lsa : Lsa). lsa.id < 2 ^ 32) lsas
      → AllByRecursion (λ (id : NodeId). id.number < 2 ^ 32) (area_of (newest_in lsas)).ids
  pub island : (policy : Policy) (area : AreaParts) (router : ℕ) → IsArea area → Contains area.ids (router_node router) → policy.supports router ≡ true
      → (g : Topology) × (root : ℕ) × (link_of : List (Option ℕ)) × IsIsland policy area router g root link_of
  pub graph : (policy : Policy) (area : AreaParts) (router : ℕ) (g : Topology) (root : ℕ) (link_of : List (Option ℕ)) → IsArea area
      → AllByRecursion FitsBond area.bonds → IsIsland policy area router g root link_of → IsTopology g
  pub fits : (policy : Policy) (area : AreaParts) (router : ℕ) (g : Topology) (root : ℕ) (link_of : List (Option ℕ)) → IsArea area
      → IsIsland policy area router g root link_of → Fits area g link_of
  pub certificate : (g : Topology) (root : ℕ) → IsTopology g → root < length g.ids → (file : CertFile) × IsCertOf g root file
  pub fits_file : (file : CertFile) → IsOfGraph file → IsCertFile file
  pub spelled : (file second : CertFile) → IsCertFile file → IsCertFile second → cert_text file ≡ cert_text second → file ≡ second

-- two certificates are one, or differ: their bytes tell them apart
one_or_two : SomeLaws → (file second : CertFile) → IsOfGraph file → IsOfGraph second → (file ≡ second) ⊎ (file ≡ second → ⊥)
one_or_two laws file second of of' = elim (cases_Bool (bytes_eq (cert_text file) (cert_text second))) [
  | inl same ↦
      inl (laws.spelled file second (laws.fits_file file of) (laws.fits_file second of')
      ((bytes_decides (cert_text file) (cert_text second)).0 same))
  | inr differ ↦ inr (λ same.
      let one : bytes_eq (cert_text file) (cert_text second) ≡ true =
      (bytes_decides (cert_text file) (cert_text second)).1 (ap (λ (f : CertFile). cert_text f) same) in
      cc)
]

module _ (laws : SomeLaws) (settings : List Setting) where
  -- a database tells of a router, or nothing
  abbrev Telling : Database → ℕ → Type 0
  Telling database router = ((file : CertFile) × Tells settings database router file × IsOfGraph file) ⊎ IsSilent settings database router

  module _ (database : Database) (router : ℕ) (of : IsOfLsas database) where
    same : area_in database ≡ area_of (newest_in of.lsas)
    same = ap (λ (lsas : List Lsa). area_of lsas) of.newest

    area_kept : (IsTooLarge (length (area_in database).ids) (length (area_in database).arcs) → ⊥) → IsArea (area_in database)
    area_kept within =
        subst IsArea (sym same)
        (laws.area of.lsas of.kept (subst (λ (a : AreaParts). IsTooLarge (length a.ids) (length a.arcs) → ⊥) same within))

    its_file : least_conflict database.entries ≡ None → (IsTooLarge (length (area_in database).ids) (length (area_in database).arcs) → ⊥)
        → Contains (area_in database).ids (router_node router) → (policy_of settings).supports router ≡ true → Telling database router
    its_file settled within among supports =
        let kept = area_kept within in
        let fit : AllByRecursion FitsBond (area_in database).bonds =
        subst (λ (a : AreaParts). AllByRecursion FitsBond a.bonds) (sym same) (laws.bonds of.lsas of.bodies) in
        let wide : AllByRecursion IsWide (area_in database).ids =
        subst (λ (a : AreaParts). AllByRecursion IsWide a.ids) (sym same) (laws.ids of.lsas of.ids) in
        let island = laws.island (policy_of settings) (area_in database) router kept among supports in
        let graph = laws.graph (policy_of settings) (area_in database) router island.0 island.1 island.2 kept fit island.3 in
        let inside = root_within (policy_of settings) (area_in database) router island.0 island.1 island.2 island.3 in
        let fits = laws.fits (policy_of settings) (area_in database) router island.0 island.1 island.2 kept island.3 in
        let cert = laws.certificate island.0 island.1 graph inside in
        inl (
          cert.0,
          record {
            settled = settled;
            within = within;
            area_kept = kept;
            told = record {
              graph = island.0;
              root = island.1;
              link_of = island.2;
              island = island.3;
              kept = graph;
              certificate = cert.1;
            };
          },
          record {
            graph = island.0;
            root = island.1;
            kept = graph;
            within = inside;
            wide = all_from_has IsWide island.0.ids (λ id has.
                all_has IsWide (area_in database).ids id wide
                (has_from_contains (area_in database).ids id (fits.nodes id (contains_from_has island.0.ids id has))));
            certificate = cert.1;
          },
        )

    by_support : least_conflict database.entries ≡ None → (IsTooLarge (length (area_in database).ids) (length (area_in database).arcs) → ⊥)
        → Contains (area_in database).ids (router_node router) → (b : Bool) → (policy_of settings).supports router ≡ b → Telling database router
    by_support settled within among true is = its_file settled within among is
    by_support settled within among false is = inr (Unsupported is)

    by_place : least_conflict database.entries ≡ None → (IsTooLarge (length (area_in database).ids) (length (area_in database).arcs) → ⊥)
        → (place : Option ℕ) → number_of (area_in database).ids (router_node router) ≡ place → Telling database router
    by_place settled within None is =
        inr (Absent ((told (area_in database).ids (router_node router) None (area_kept within).ids_ascend (sym is)).none.0 refl))
    by_place settled within (Some place) is =
        by_support settled within (contained_by_number (area_in database).ids (router_node router) place is)
        ((policy_of settings).supports router) refl

    by_size : least_conflict database.entries ≡ None → Telling database router
    by_size settled = elim (cases_lt 4096 (length (area_in database).ids)) [
      | inl many ↦ inr (TooLarge (inl many))
      | inr few ↦ elim (cases_lt 32768 (length (area_in database).arcs)) [
        | inl many ↦ inr (TooLarge (inr many))
        | inr also ↦
            by_place settled (λ large. elim large [ inl nodes ↦ omega (arith, nodes, few) | inr arcs ↦ omega (arith, arcs, also) ])
            (number_of (area_in database).ids (router_node router)) refl
      ]
    ]

    by_conflict : (conflict : Option Conflict) → least_conflict database.entries ≡ conflict → Telling database router
    by_conflict None is = by_size is
    by_conflict (Some conflict) is = inr (Unsettled (λ none. cc))

    telling : Telling database router
    telling = by_conflict (least_conflict database.entries) refl

  pub some_verdict : (its others : Database) (router : ℕ) → IsOfLsas its → IsOfLsas others
      → (verdict : Verdict) × Says settings its others router verdict
  some_verdict its others router of of' = elim (telling its router of) [
    | inr silent ↦ (verdicts.None, inl silent)
    | inl one ↦ elim (telling others router of') [
      | inr silent ↦ (verdicts.None, inr silent)
      | inl two ↦ elim (one_or_two laws one.0 two.0 one.2 two.2) [
        | inl same ↦ (verdicts.Same, (one.0, one.1, subst (λ (f : CertFile). Tells settings others router f) (sym same) two.1))
        | inr differ ↦ (verdicts.Different, (one.0, two.0, one.1, two.1, differ))
      ]
    ]
  ]
