-- Of two databases and a router there is one verdict.
use Rattle.std.proofs.Common.{◌≡◌, ◌∙◌, ◌<◌, ℕ, List, Option, length, refl, sym, subst, inl, inr}
use Rattle.std.specs.Prelude.{Contains, Some, slice_get}
use Rattle.std.proofs.lemmas.List.Elements.{Contains-get_or}
use Rattle.std.proofs.lemmas.Option.{get_or_from_slice_get, slice_get_within}
use Rattle.area_graph.specs.AreaInvariant.{IsArea}
use Rattle.mrt_graph.specs.NodeIds.{router as router_node}
use Rattle.area_graph.specs.Parts.{AreaParts}
use Rattle.flood.specs.declared.verdict.Verdict.{Verdict}
use Rattle.flood.specs.declared.verdict.Verdict.TheVariants as verdicts
use Rattle.lsdb.specs.Entries.{Database}
use Rattle.mrt_graph.specs.declared.cert.CertFile.{CertFile}
use Rattle.mrt_graph.specs.declared.node_id.NodeId.{NodeId}
use Rattle.mrt_graph.specs.GraphInvariant.{IsTopology}
use Rattle.mrt_graph.specs.Topology.{Topology}
use Rattle.mrt_island.specs.IslandOf.{IsIsland}
use Rattle.mrt_island.specs.Policy.{Policy, policy_of}
use Rattle.mrt_island.specs.declared.setting.Setting.{Setting}
use Rattle.mrt_rows.specs.CertOf.{IsCertOf}
use Rattle.flood_verdict.specs.Says.{IsSilent, Unsettled, TooLarge, Absent, Unsupported, IsIslandCert, Says, Tells, area_in}

-- the laws of the layers below on a router's island and on its certificate
pub record CertLaws : Type 0 where
  pub one_island : (policy : Policy) (area : AreaParts) (router : ℕ) (g h : Topology) (root root' : ℕ)
      (link_of link_of' : List (Option ℕ)) → IsArea area → IsIsland policy area router g root link_of
      → IsIsland policy area router h root' link_of' → (g ≡ h) × (root ≡ root') × (link_of ≡ link_of')
  pub one_certificate : (g : Topology) (root : ℕ) (file other : CertFile) → IsTopology g → root < length g.ids
      → IsCertOf g root file → IsCertOf g root other → file ≡ other

-- the root is a node of the island
pub root_within : (policy : Policy) (area : AreaParts) (router : ℕ) (graph : Topology) (root : ℕ)
    (link_of : List (Option ℕ)) → IsIsland policy area router graph root link_of → root < length graph.ids
root_within policy area router graph root link_of island =
    slice_get_within graph.ids root island.rooted.id
    (subst (λ (ids : List NodeId). slice_get ids root ≡ Some island.rooted.id) (sym island.made.same_ids)
    island.rooted.there)

-- a router that has an island is in the area
in_area : (policy : Policy) (area : AreaParts) (router : ℕ) (graph : Topology) (root : ℕ) (link_of : List (Option ℕ))
    → IsIsland policy area router graph root link_of → Contains area.ids (router_node router)
in_area policy area router graph root link_of island =
    let start = island.those.start in
    let there = island.those.there in
    subst (Contains area.ids) (get_or_from_slice_get area.ids start (router_node router) (router_node router) there)
    (Contains-get_or area.ids start (router_node router)
    (slice_get_within area.ids start (router_node router) there))

-- a database that tells of a router is not silent on it
pub never_silent : (settings : List Setting) (database : Database) (router : ℕ) (file : CertFile)
    → Tells settings database router file → IsSilent settings database router → ⊥
never_silent settings database router file tells (Unsettled unsettled) = unsettled tells.settled
never_silent settings database router file tells (TooLarge large) = tells.within large
never_silent settings database router file tells (Absent absent) = absent (in_area _ _ _ _ _ _ tells.told.island)
never_silent settings database router file tells (Unsupported unsupported) =
    let supported = tells.told.island.those.supported in
    absurd cc

module _ (laws : CertLaws) where
  -- in an area a router has one certificate
  pub one_file : (settings : List Setting) (area : AreaParts) (router : ℕ) (file other : CertFile) → IsArea area
      → IsIslandCert settings area router file → IsIslandCert settings area router other → file ≡ other
  one_file settings area router file other kept one two =
      let same = laws.one_island (policy_of settings) area router one.graph two.graph one.root two.root one.link_of
      two.link_of kept one.island two.island in
      let computed : IsCertOf two.graph two.root file =
      subst (λ (g : Topology). IsCertOf g two.root file) same.0
      (subst (λ (n : ℕ). IsCertOf one.graph n file) same.1 one.certificate) in
      laws.one_certificate two.graph two.root file other two.kept
      (root_within _ _ _ _ _ _ two.island) computed two.certificate

  one_told : (settings : List Setting) (database : Database) (router : ℕ) (file other : CertFile)
      → Tells settings database router file → Tells settings database router other → file ≡ other
  one_told settings database router file other one two =
      one_file settings (area_in database) router file other one.area_kept one.told
      two.told

  -- of two databases and a router
  module _ (settings : List Setting) (its others : Database) (router : ℕ) where
    not_none : (file second : CertFile) → Tells settings its router file → Tells settings others router second
        → Says settings its others router verdicts.None → ⊥
    not_none file second one two (inl silent) = never_silent settings its router file one silent
    not_none file second one two (inr silent) = never_silent settings others router second two silent

    not_different : Says settings its others router verdicts.Same → Says settings its others router verdicts.Different
        → ⊥
    not_different (file, one, two) (former, latter, its_tell, others_tell, differ) =
        differ (one_told settings its router former file its_tell one
        ∙ one_told settings others router file latter two others_tell)

    pub one_verdict : (verdict other : Verdict) → Says settings its others router verdict
        → Says settings its others router other → verdict ≡ other
    one_verdict verdicts.None verdicts.None one two = refl
    one_verdict verdicts.Same verdicts.Same one two = refl
    one_verdict verdicts.Different verdicts.Different one two = refl
    one_verdict verdicts.None verdicts.Same one two = absurd (not_none two.0 two.0 two.1 two.2 one)
    one_verdict verdicts.Same verdicts.None one two = absurd (not_none one.0 one.0 one.1 one.2 two)
    one_verdict verdicts.None verdicts.Different one two = absurd (not_none two.0 two.1 two.2 two.3 one)
    one_verdict verdicts.Different verdicts.None one two = absurd (not_none one.0 one.1 one.2 one.3 two)
    one_verdict verdicts.Same verdicts.Different one two = absurd (not_different one two)
    one_verdict verdicts.Different verdicts.Same one two = absurd (not_different two one)
