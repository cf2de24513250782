-- What `certify` gives passes `check` and `upgrade`.
use Rattle.std.proofs.Common.{◌≡◌, ◌≤◌, ◌==◌, ℕ, true, false, List, Option, Some, Ok, length, refl, sym, ap, subst, arith}
use Rattle.std.specs.Prelude.{◌&&◌, Contains, slice_get}
use Rattle.std.specs.Option.{option_map_or}
use Rattle.std.proofs.lemmas.Bool.{and_parts, eqb-true}
use Rattle.area_graph.specs.AreaInvariant.{IsArea}
use Rattle.mrt_graph.specs.NodeIds.{router as router_node}
use Rattle.area_graph.specs.Parts.{AreaParts}
use Rattle.cert_format.specs.CertText.{cert_text}
use Rattle.cert_format.specs.Limits.{IsCertFile}
use Rattle.mrt_graph.specs.declared.cert.CertFile.{CertFile}
use Rattle.mrt_graph.specs.declared.node_id.NodeId.{NodeId}
use Rattle.mrt_graph.specs.BothThere.{are_equal}
use Rattle.mrt_graph.specs.CertFields.{order_of}
use Rattle.mrt_graph.specs.Rules.{OrderRule}
use Rattle.mrt_graph.specs.Topology.{Topology}
use Rattle.mrt_island.specs.IslandOf.{IsIsland}
use Rattle.mrt_island.specs.Policy.{Policy}
use Rattle.mrt_args.specs.FileBytes.{FileBytes, with_last}
use Rattle.mrt_args.specs.Files.{certificate_limit}
use Rattle.mrt_graph.specs.Accepted.{Accepted}
use Rattle.mrt_island.specs.declared.island.Island.{Island}
use Rattle.mrt_answer.specs.Forms.{over}
use Rattle.mrt_args.specs.declared.task.RouterTask.TheVariants.{Certify}
use Rattle.mrt_args.specs.declared.task.Task.TheVariants.{Check, Upgrade, OfRouter}
use Rattle.mrt_answer.specs.Input.{Input, policy}
use Rattle.mrt_answer.specs.Islands.{area_of, island_in}
use Rattle.mrt_args.specs.CertSpelling.{IsSpellingOf}
use Rattle.mrt_answer.specs.Texts.{accepted_line, upgraded}
use Rattle.mrt_answer.proofs.OneAnswer.{AreaLaws, area_kept}
use Rattle.mrt_answer.proofs.Islands.{contained}
use Rattle.mrt_answer.proofs.Upgrades.{upgraded_accepted}

-- the law of the layer below on the islands of the routers of one
abbrev pub EachRouterLaw : Type 0
EachRouterLaw = (policy : Policy) (area : AreaParts) (router other : ℕ) (g : Topology) (root : ℕ)
    (link_of : List (Option ℕ)) → IsArea area → IsIsland policy area router g root link_of
    → Contains g.ids (router_node other) → IsIsland policy area other g root link_of

-- the law of the layer below on the length of a spelling
abbrev pub LongestLaw : Type 0
LongestLaw = (f : CertFile) → IsCertFile f → length (cert_text f) ≤ 84025358

-- the root of an accepted certificate is a router of the island
module _ (areas : AreaLaws) (each : EachRouterLaw) where
  root_number : (graph : Topology) (root : ℕ) (file : CertFile) (id : NodeId) → slice_get graph.ids root ≡ Some id
      → (option_map_or (λ id. id.number == file.root) (slice_get graph.ids root) false && are_equal (order_of file.cert root) (Some 1)) ≡ true
      → id.number ≡ file.root
  root_number graph root file id there stands =
      eqb-true id.number file.root
      (rw there at (and_parts (option_map_or (λ id. id.number == file.root) (slice_get graph.ids root) false)
      (are_equal (order_of file.cert root) (Some 1)) stands).0)

  own_island : (input : Input) → ((of : AreaParts) → area_of input.newest (Ok of) → IsArea of) → (router : ℕ) (island : Island)
      → island_in input router (Ok island) → (file : CertFile) → Accepted island.graph island.root file
      → island_in input file.root (Ok island)
  own_island input kept router island (of, of_is, is) file accepted =
      let there : slice_get island.graph.ids island.root ≡ Some is.rooted.id =
      subst (λ (ids : List NodeId). slice_get ids island.root ≡ Some is.rooted.id) (sym is.made.same_ids) is.rooted.there in
      let number = root_number island.graph island.root file is.rooted.id there (accepted OrderRule).root_first in
      let is_router : is.rooted.id ≡ router_node file.root =
      λ i. record { kind = is.rooted.router i; number = number i } in
      let inside : Contains island.graph.ids (router_node file.root) =
      subst (λ (id : NodeId). Contains island.graph.ids id) is_router (contained island.graph.ids island.root is.rooted.id there) in (
        of,
        of_is,
        each (policy input) of router file.root island.graph island.root island.link_of
            (kept of of_is) is inside,
      )

  -- the check of what was written says yes
  pub accepts : (bytes : FileBytes) (router : ℕ) (certificate text : List ℕ) → over (OfRouter (Certify router)) bytes (Ok text)
      → (line : List ℕ) × over (Check certificate) (with_last bytes text) (Ok line)
  accepts bytes router certificate text (input, given, (island, is, computed)) =
      let file : CertFile = computed.file in (
        accepted_line file.root (length island.graph.ids) (length island.graph.links),
        (
          input,
          given,
          (
            file,
            computed.spelled,
            (
              island,
              own_island input (area_kept areas bytes.first bytes.profile input given) router island is file computed.certificate.accepted,
              (tt, (computed.certificate.accepted, computed.certificate.sound), refl),
            ),
          ),
        ),
      )

  -- the upgrade of what was written gives it as it is: it is of version 2
  pub upgrades : (bytes : FileBytes) (router : ℕ) (certificate text : List ℕ) → over (OfRouter (Certify router)) bytes (Ok text)
      → over (Upgrade certificate) (with_last bytes text) (Ok text)
  upgrades bytes router certificate text (input, given, (island, is, computed)) =
      let file : CertFile = computed.file in
      let same : file ≡ upgraded file =
      λ i. record { version = computed.certificate.computed.tells.version i; root = file.root; cert = file.cert } in (
        input,
        given,
        (
          file,
          computed.spelled,
          (
            island,
            own_island input (area_kept areas bytes.first bytes.profile input given) router island is file computed.certificate.accepted,
            (
              tt,
              (computed.certificate.accepted, computed.certificate.sound),
              (
                upgraded_accepted island.graph island.root file computed.certificate.accepted,
                subst (λ (f : CertFile). IsSpellingOf text f) same computed.spelled,
              ),
            ),
          ),
        ),
      )

-- what was written is within the limit of a certificate's file
pub short : LongestLaw → (bytes : FileBytes) (router : ℕ) (text : List ℕ) → over (OfRouter (Certify router)) bytes (Ok text)
    → length text ≤ certificate_limit
short longest bytes router text (input, given, (island, is, computed)) =
    let at_most = longest computed.file computed.spelled.within in
    let same : length text ≡ length (cert_text computed.file) = ap (λ (it : List ℕ). length it) computed.spelled.spelled in
    omega (arith, at_most, same)
