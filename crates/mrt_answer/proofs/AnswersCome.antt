-- Of each task over files there comes an answer, a text or an exit, whatever their bytes are.
use Rattle.std.proofs.Common.{◌≡◌, ◌≢◌, ◌⊎◌, ◌↔◌, ◌∙◌, ◌+◌, ◌<◌, ◌^◌, ℕ, Bool, true, false, List, [], ◌∷◌, Option, Some, None, Result, Ok, Err, length, map, slice_get, refl, sym, ap, subst, inl, inr, arith}
use Rattle.std.specs.Prelude.{Contains, IsSome}
use Rattle.std.specs.List.{AllByRecursion, range_with_len}
use Rattle.std.specs.List.Sorted.{IsStrictlySortedBy}
use Rattle.std.proofs.lemmas.Bool.{cases_Bool, cases_lt}
use Rattle.std.proofs.lemmas.List.FromFn.{get_or-map-range_with_len, length-map-range_with_len}
use Rattle.std.proofs.lemmas.Option.{get_or_from_slice_get, same_Some, slice_get_within}
use Rattle.area_graph.specs.AreaInvariant.{IsArea}
use Rattle.area_graph.specs.AreaOf.{area_of as area_of_lsas}
use Rattle.area_graph.specs.Fits.{Fits}
use Rattle.area_graph.specs.Parts.{AreaParts}
use Rattle.area_graph.specs.Ranges.{FitsBond}
use Rattle.cert_format.specs.CertText.{cert_text}
use Rattle.cert_format.specs.FirstFault.{first_fault}
use Rattle.cert_format.specs.Limits.{IsCertFile}
use Rattle.cert_format.specs.declared.error.CertKind.{CertKind}
use Rattle.cert_stream.specs.OfGraph.{IsOfGraph}
use Rattle.fabric.specs.FabricParts.{ArePartsKept, AreRowsFor, FabricParts}
use Rattle.fabric.specs.RunTexts.{IsScriptText, IsTraceText}
use Rattle.fabric_script.specs.ScriptFaults.{IsFirstScriptFault, IsScript}
use Rattle.fabric_script.specs.declared.script.Script.{Script}
use Rattle.fabric_script.specs.declared.trace.Trace.{Trace as PacketTrace}
use Rattle.lfa_alt.specs.LfaText.{IsLfaText}
use Rattle.lsdb.specs.Conflicts.{least_conflict}
use Rattle.lsdb.specs.Database.{IsDatabase, entering}
use Rattle.lsdb.specs.Disagreements.{IsFirstConflictOf}
use Rattle.lsdb.specs.Entries.{entries_in}
use Rattle.lsdb.specs.Newest.{IsSettled}
use Rattle.lsdb.specs.Orders.{newest_in}
use Rattle.lsdb.specs.declared.change.Conflict.{Conflict as Clash}
use Rattle.mrt_graph.specs.Accepted.{Accepted}
use Rattle.mrt_graph.specs.AcceptedFor.{IsAcceptedFor}
use Rattle.mrt_graph.specs.Certificate.{Certificate, IsCertificate, row_of}
use Rattle.mrt_graph.specs.FirstFault.{FirstFault}
use Rattle.mrt_graph.specs.Foldable.{IsFoldable}
use Rattle.mrt_graph.specs.GraphInvariant.{IsNetwork, IsTopology}
use Rattle.mrt_graph.specs.Hop.{color_hop}
use Rattle.mrt_graph.specs.NodeIds.{number_of, router as router_node}
use Rattle.mrt_graph.specs.NodeOrder.{node_id_cmp}
use Rattle.mrt_graph.specs.Related.{are_unrelated}
use Rattle.mrt_graph.specs.Rules.{GraphRule}
use Rattle.mrt_graph.specs.SameGraph.{SameGraph}
use Rattle.mrt_graph.specs.Sound.{Sound}
use Rattle.text_parts.specs.TextLines.{text_lines}
use Rattle.mrt_graph.specs.Topology.{Topology}
use Rattle.mrt_graph.specs.declared.cert.CertFile.{CertFile}
use Rattle.mrt_graph.specs.declared.cert.Color.{Color}
use Rattle.mrt_graph.specs.declared.node_id.NodeId.{NodeId}
use Rattle.mrt_graph.proofs.IdPlaces.{contained_by_number, number_found, told}
use Rattle.mrt_graph.proofs.ListPlaces.{place_of as id_place}
use Rattle.mrt_graph.proofs.Members.{all_from_has, all_has, contains_from_has, has_from_contains}
use Rattle.mrt_island.specs.IslandOf.{IsIsland}
use Rattle.mrt_island.specs.Policy.{Policy}
use Rattle.mrt_island.specs.ProfileFaults.{AreSettings, IsFirstProfileFault}
use Rattle.mrt_island.specs.declared.island.Island.{Island}
use Rattle.mrt_island.specs.declared.profile_error.ProfileKind.{ProfileKind}
use Rattle.mrt_island.specs.declared.setting.Setting.{Setting}
use Rattle.mrt_report.specs.TableParts.{AreItsPrimaries, TableParts, table_parts}
use Rattle.mrt_report.specs.TableText.{IsTableText}
use Rattle.mrt_rows.specs.CertOf.{IsCertOf}
use Rattle.order_repair.specs.OrderText.{IsTextFrom}
use Rattle.ospf_lsa.specs.AreaLsas.{is_area_lsa}
use Rattle.ospf_lsa.specs.LsaText.{lsa_length, lsas_text}
use Rattle.ospf_lsa.specs.Lsas.{AreLsas, IsByte}
use Rattle.ospf_lsa.specs.Outcome.{IsFirstLsaFault}
use Rattle.ospf_lsa.specs.declared.error.LsaKind.{LsaKind}
use Rattle.ospf_lsa.specs.declared.lsa.Lsa.{Lsa as Advertisement}
use Rattle.primary_alt.specs.Primaries.{ArePrimaries, IsPrimary}
use Rattle.primary_alt.specs.Routers.{IsRouter}
use Rattle.primary_alt.specs.declared.shortest.Primary.{Primary}
use Rattle.primary_alt.proofs.RouterFacts.{router_from}
use Rattle.proxy_rows.specs.ProxyText.{IsProxyText}
use Rattle.mrt_exit.specs.AnswerSteps.{Step, such, ◌▸◌}
use Rattle.mrt_exit.specs.declared.exit.DbKind.TheVariants.{Lsa, Conflict}
use Rattle.mrt_exit.specs.declared.exit.Exit.{Exit}
use Rattle.mrt_exit.specs.declared.exit.Exit.TheVariants.{BadCertificate, BadDatabase, BadProfile, BadScript, No, NoCommonBlock, NotThere, TooLarge}
use Rattle.mrt_exit.specs.declared.exit.What.TheVariants as whats
use Rattle.mrt_args.specs.CertSpelling.{IsSpellingOf}
use Rattle.mrt_args.specs.FileBytes.{FileBytes}
use Rattle.mrt_args.specs.Form.{IsTaskWithin, Task}
use Rattle.mrt_args.specs.declared.task.RouterTask.TheVariants.{Certify, Table, Trace, Lfa, Order, Proxy}
use Rattle.mrt_args.specs.declared.task.Task.TheVariants.{Check, Fabric, Upgrade, OfRouter}
use Rattle.mrt_answer.specs.Forms.{certified, checked, loop_free, loop_free_in, of_task, ordered, ordered_in, over, proxied_for, proxied_in, said_yes, scripted, table_in, tabled, traced, upgraded_in, upgraded_to}
use Rattle.mrt_answer.specs.Input.{Input, area, policy}
use Rattle.mrt_answer.specs.Islands.{area_of, in_32_bits, island_in, island_of, own_place, place_of}
use Rattle.mrt_answer.specs.Reading.{certificate_of, database_of, input_of, profile_of, script_of}
use Rattle.mrt_answer.specs.Texts.{ArePartsIn, IsComputed, IsComputedFile, IsScriptIn, IsTableOf, IsTraceIn, accepted_line, judged, proxied, upgraded}
use Rattle.mrt_answer.proofs.Islands.{root_within}
use Rattle.mrt_answer.proofs.OneAnswer.{AreaLaws, area_is_kept, area_kept, bonds_kept, rows_there}
use Rattle.mrt_answer.proofs.OneProxy.{accepted_for}
use Rattle.mrt_answer.proofs.Tables.{in_own_island, not_network}
use Rattle.mrt_answer.proofs.Upgrades.{upgraded_accepted}

-- something comes of a step
abbrev pub HasAnswer : {A : Type 0} → Step A → Type 0
HasAnswer {A} step = (answer : Result A Exit) × step answer

onward : {A B : Type 0} (first : Step A) (next : A → Step B) (x : A) → first (Ok x) → (answer : Result B Exit) → next x answer → HasAnswer (first ▸ next)
onward first next x said (Ok y) more = (Ok y, (x, said, more))
onward first next x said (Err exit) more = (Err exit, inr (x, said, more))

-- so of two steps
pub both : {A B : Type 0} (first : Step A) (next : A → Step B) (answer : Result A Exit) → first answer → ((x : A) → first (Ok x) → HasAnswer (next x)) → HasAnswer (first ▸ next)
both first next (Err exit) said more = (Err exit, inl said)
both first next (Ok x) said more = let later = more x said in onward first next x said later.0 later.1

-- the number of a node has 32 bits
abbrev IsWide : NodeId → Type 0
IsWide id = id.number < 2 ^ 32

-- the laws of the layers below
pub record ComingLaws : Type 0 where
  pub areas : AreaLaws
  pub lsas : (bytes : List ℕ) → AllByRecursion IsByte bytes
      → ((lsas : List Advertisement) × AreLsas 0 lsas × (bytes ≡ lsas_text lsas)) ⊎ ((at : ℕ) × (kind : LsaKind) × IsFirstLsaFault bytes at kind)
  pub settled : (lsas : List Advertisement) → least_conflict (entries_in lsas) ≡ None → IsSettled lsas
  pub conflict : (lsas : List Advertisement) (conflict : Clash) → least_conflict (entries_in lsas) ≡ Some conflict → IsFirstConflictOf lsas conflict
  pub settings : (lines : List (List ℕ)) → ((settings : List Setting) × AreSettings lines settings)
      ⊎ ((number : ℕ) × (kind : ProfileKind) × IsFirstProfileFault lines number kind)
  pub file : (bytes : List ℕ) → AllByRecursion (λ byte. byte < 2 ^ 8) bytes → ((f : CertFile) × IsCertFile f × (bytes ≡ cert_text f))
      ⊎ ((at : ℕ) × (kind : CertKind) × (first_fault bytes ≡ Some (at, kind)))
  pub island : (policy : Policy) (area : AreaParts) (router : ℕ) → IsArea area → Contains area.ids (router_node router) → policy.supports router ≡ true
      → (g : Topology) × (root : ℕ) × (link_of : List (Option ℕ)) × IsIsland policy area router g root link_of
  pub verdict : (g : Topology) (root : ℕ) (file : CertFile) → Accepted g root file ⊎ ((rule a b : ℕ) × FirstFault g root file rule a b)
  pub sound : (g : Topology) (root : ℕ) (file : CertFile) → Accepted g root file → Sound g.links (length g.ids) (row_of file.cert)
  pub foldable : (g : Topology) (root : ℕ) (file : CertFile) → IsCertificate file.cert → Accepted g root file → IsFoldable file.cert
  pub ids : (lsas : List Advertisement) → AllByRecursion (λ (lsa : Advertisement). lsa.id < 2 ^ 32) lsas
      → AllByRecursion (λ (id : NodeId). id.number < 2 ^ 32) (area_of_lsas (newest_in lsas)).ids
  pub certificate : (g : Topology) (root : ℕ) → IsTopology g → root < length g.ids → (f : CertFile) × IsCertOf g root f
  pub accepted : (g : Topology) (root : ℕ) (file : CertFile) → IsTopology g → root < length g.ids → IsCertOf g root file → Accepted g root file
  pub fits_file : (file : CertFile) → IsOfGraph file → IsCertFile file
  pub leads_on : (g : Topology) (root : ℕ) (file : CertFile) → Accepted g root file → (color : Color) (s t : ℕ) → s < length g.ids
      → t < length g.ids → s ≢ t → IsSome (color_hop g.links (row_of file.cert) color t s)
  pub primaries : (of : AreaParts) → IsArea of → (entries : ℕ → ℕ → Option Primary)
      × ((s t : ℕ) → IsRouter of.ids s → t < length of.ids → IsPrimary of s t (entries s t))
  pub table : (parts : TableParts) (root : ℕ) → IsArea parts.area → IsTopology parts.island → Fits parts.area parts.island parts.link_of
      → ((color : Color) (s t : ℕ) → s < length parts.island.ids → t < length parts.island.ids → s ≢ t
      → IsSome (color_hop parts.island.links (row_of parts.cert) color t s))
      → AreItsPrimaries parts.area parts.island parts.source parts.primaries → root < length parts.island.ids
      → (text : List ℕ) × IsTableText parts root text
  pub scripts : (lines : List (List ℕ)) → ((script : Script) × IsScript lines script) ⊎ ((number : ℕ) × IsFirstScriptFault lines number)
  pub script_text : (parts : FabricParts) → ArePartsKept parts → ((t : ℕ) → AreRowsFor parts t) → (script : Script)
      → (text : List ℕ) × IsScriptText parts script text
  pub trace_text : (parts : FabricParts) → ArePartsKept parts → ((t : ℕ) → AreRowsFor parts t) → (trace : PacketTrace)
      → (text : List ℕ) × IsTraceText parts trace text
  pub loop_free : (of : AreaParts) (s : ℕ) → IsArea of → s < length of.ids → ¬ IsNetwork of.ids s → (text : List ℕ) × IsLfaText of s text
  pub order : (g : Topology) (root s : ℕ) → IsTopology g → root < length g.ids → s < length g.ids → (text : List ℕ) × IsTextFrom g root s text
  pub proxy : (g : Topology) (root : ℕ) (c : Certificate) (a b : ℕ) → IsTopology g → IsAcceptedFor g c → root < length g.ids
      → a < length g.ids → b < length g.ids → a ≢ b → (are_unrelated c a b ≡ false) ↔ ((text : List ℕ) × IsProxyText g root c a b text)

-- the place of a router among nodes, if it is one of them
place_answer : (ids : List NodeId) → IsStrictlySortedBy node_id_cmp ids → (number : ℕ) → HasAnswer (place_of ids number)
place_answer ids ascend number = go (number_of ids (router_node number)) refl
  where
    go : (place : Option ℕ) → number_of ids (router_node number) ≡ place → HasAnswer (place_of ids number)
    go None is = (Err (NotThere number), (refl, (told ids (router_node number) None ascend (sym is)).none.0 refl))
    go (Some place) is = (Ok place, number_found ids (router_node number) place is)

-- and then what comes of it
at_place : (ids : List NodeId) → IsStrictlySortedBy node_id_cmp ids → (number : ℕ) (next : ℕ → Step (List ℕ))
    → ((place : ℕ) → slice_get ids place ≡ Some (router_node number) → HasAnswer (next place)) → HasAnswer (place_of ids number ▸ next)
at_place ids ascend number next some =
    let place = place_answer ids ascend number in both (place_of ids number) next place.0 place.1 some

-- that of one which is there
at_own_place : (ids : List NodeId) (number : ℕ) → Contains ids (router_node number) → (next : ℕ → Step (List ℕ))
    → ((place : ℕ) → slice_get ids place ≡ Some (router_node number) → HasAnswer (next place)) → HasAnswer (own_place ids number ▸ next)
at_own_place ids number inside next some =
    let place = id_place ids (router_node number) inside in both (own_place ids number) next (Ok place.0) place.1 some

-- the identifiers of LSAs without a fault have 32 bits
all_wide : (at : ℕ) (lsas : List Advertisement) → AreLsas at lsas → AllByRecursion (λ (lsa : Advertisement). lsa.id < 2 ^ 32) (entering lsas)
all_wide at [] are = tt
all_wide at (lsa ∷ rest) are = go (is_area_lsa lsa) refl (all_wide (at + lsa_length lsa) rest are.2)
  where
    go : (b : Bool) → is_area_lsa lsa ≡ b → AllByRecursion (λ (l : Advertisement). l.id < 2 ^ 32) (entering rest)
        → AllByRecursion (λ (l : Advertisement). l.id < 2 ^ 32) (entering (lsa ∷ rest))
    go true e fit = rw e (are.1.header.id, fit)
    go false e fit = rw e fit

-- the island of a router of an area, and what the two keep
pub record InArea (of : AreaParts) (number : ℕ) (island : Island) : Type 0 where
  pub area_kept : IsArea of
  pub graph : IsTopology island.graph
  pub root : island.root < length island.graph.ids
  pub fits : Fits of island.graph island.link_of
  pub inside : Contains island.graph.ids (router_node number)
  pub wide : AllByRecursion (λ (id : NodeId). id.number < 2 ^ 32) island.graph.ids

module _ (laws : ComingLaws) where
  -- ---- what the files hold

  a_database : (bytes : List ℕ) → AllByRecursion IsByte bytes → HasAnswer (database_of bytes)
  a_database bytes are = elim (laws.lsas bytes are) [
    | inr fault ↦ (Err (BadDatabase fault.0 (Lsa fault.1)), fault.2)
    | inl read ↦ by_conflict read.0 read.1 read.2 (least_conflict (entries_in (entering read.0))) refl
  ]
    where
      by_conflict : (lsas : List Advertisement) → AreLsas 0 lsas → bytes ≡ lsas_text lsas → (conflict : Option Clash)
          → least_conflict (entries_in (entering lsas)) ≡ conflict → HasAnswer (database_of bytes)
      by_conflict lsas each spelled None is = (
        Ok (newest_in (entering lsas)),
        record {
          lsas = lsas;
          held = record { each = each; spelled = spelled };
          settled = laws.settled (entering lsas) is;
          newest_ones = refl;
        },
      )
      by_conflict lsas each spelled (Some conflict) is = (
        Err (BadDatabase conflict.second (Conflict conflict.first)),
        (lsas, record { each = each; spelled = spelled }, laws.conflict (entering lsas) conflict is),
      )

  pub a_profile : (bytes : List ℕ) → HasAnswer (profile_of bytes)
  a_profile bytes = elim (laws.settings (text_lines bytes)) [
    | inl said ↦ (Ok said.0, said.1)
    | inr fault ↦ (Err (BadProfile fault.0 fault.1), fault.2)
  ]

  an_input : (database profile : List ℕ) → AllByRecursion IsByte database → HasAnswer (input_of database profile)
  an_input database profile are =
      let held = a_database database are in
      let said = a_profile profile in
      both (database_of database) (λ newest. profile_of profile ▸ λ settings. such (λ input. input ≡ record { newest = newest; settings = settings }))
      held.0 held.1 (λ newest is.
      both (profile_of profile) (λ settings. such (λ input. input ≡ record { newest = newest; settings = settings })) said.0 said.1 (λ settings too.
      (Ok (record { newest = newest; settings = settings }), refl)))

  a_file : (bytes : List ℕ) → AllByRecursion IsByte bytes → HasAnswer (certificate_of bytes)
  a_file bytes are = elim (laws.file bytes are) [
    | inl read ↦ (Ok read.0, record { within = read.1; spelled = read.2 })
    | inr fault ↦ (Err (BadCertificate fault.0 fault.1), fault.2)
  ]

  -- ---- the area and the island

  an_area : (newest : List Advertisement) → HasAnswer (area_of newest)
  an_area newest =
      let of = area_of_lsas newest in
      elim (cases_lt 4096 (length of.ids)) [
        | inl many ↦ (Err (TooLarge whats.AreaNodes (in_32_bits (length of.ids))), (many, refl))
        | inr few ↦ elim (cases_lt 32768 (length of.arcs)) [
          | inl many ↦ (Err (TooLarge whats.AreaArcs (in_32_bits (length of.arcs))), (few, many, refl))
          | inr also ↦ (Ok of, (refl, λ large. elim large [ inl nodes ↦ omega (arith, nodes, few) | inr arcs ↦ omega (arith, arcs, also) ]))
        ]
      ]

  an_island : (policy : Policy) (of : AreaParts) → IsArea of → (number : ℕ) → HasAnswer (island_of policy of number)
  an_island policy of kept number = there (number_of of.ids (router_node number)) refl
    where
      supported : Contains of.ids (router_node number) → (b : Bool) → policy.supports number ≡ b → HasAnswer (island_of policy of number)
      supported among true is =
          let island = laws.island policy of number kept among is in
          (Ok (record { graph = island.0; root = island.1; link_of = island.2 }), island.3)
      supported among false is = (Err (NotThere number), (refl, inr is))

      there : (place : Option ℕ) → number_of of.ids (router_node number) ≡ place → HasAnswer (island_of policy of number)
      there None is = (Err (NotThere number), (refl, inl ((told of.ids (router_node number) None kept.ids_ascend (sym is)).none.0 refl)))
      there (Some place) is =
          supported (contained_by_number of.ids (router_node number) place is) (policy.supports number) refl

  pub island_here : (input : Input) → ((of : AreaParts) → area_of input.newest (Ok of) → IsArea of) → (number : ℕ) → HasAnswer (island_in input number)
  island_here input kept number =
      let found = an_area input.newest in
      both (area_of input.newest) (λ of. island_of (policy input) of number) found.0 found.1 (λ of is. an_island (policy input) of (kept of is) number)

  -- the identifiers of what an input holds have 32 bits
  pub ids_kept : (database profile : List ℕ) (input : Input) → input_of database profile (Ok input) → AllByRecursion IsWide (area input).ids
  ids_kept database profile input (newest, is, (settings, said, same)) =
      let held : IsDatabase database input.newest = subst (λ (i : Input). IsDatabase database i.newest) (sym same) is in
      subst (λ (lsas : List Advertisement). AllByRecursion IsWide (area_of_lsas lsas).ids) (sym held.newest_ones)
      (laws.ids (entering held.lsas) (all_wide 0 held.lsas held.held.each))

  -- the certificate that is computed for a graph
  pub computed_file : (graph : Topology) (root : ℕ) → IsTopology graph → root < length graph.ids → (file : CertFile) × IsComputedFile graph root file
  computed_file graph root kept within =
      let cert = laws.certificate graph root kept within in
      let accepted = laws.accepted graph root cert.0 kept within cert.1 in
      (cert.0, record { computed = cert.1; accepted = accepted; sound = laws.sound graph root cert.0 accepted })

  -- ---- the verdict

  a_verdict : (graph : Topology) (root : ℕ) (file : CertFile) → HasAnswer (judged graph root file)
  a_verdict graph root file = elim (laws.verdict graph root file) [
    | inl accepted ↦ (Ok tt, (accepted, laws.sound graph root file accepted))
    | inr fault ↦ (Err (No fault.0 fault.1 fault.2), fault.3)
  ]

  a_yes : (graph : Topology) (root : ℕ) (file : CertFile) → HasAnswer (said_yes graph root file)
  a_yes graph root file =
      let verdict = a_verdict graph root file in
      both (judged graph root file) (λ done. such (λ text. text ≡ accepted_line file.root (length graph.ids) (length graph.links))) verdict.0 verdict.1
      (λ done accepted. (Ok (accepted_line file.root (length graph.ids) (length graph.links)), refl))

  within_two : (graph : Topology) (root : ℕ) (file : CertFile) → IsTopology graph → IsCertFile file → Accepted graph root file → IsCertFile (upgraded file)
  within_two graph root file kept within accepted =
      let same : SameGraph graph file.cert = accepted GraphRule in
      record {
        certificate = within.certificate;
        root = within.root;
        numbers = within.numbers;
        of_version = inr (record {
          version = refl;
          nodes = omega (arith, same.counts, kept.few_nodes);
          links = omega (arith, same.counts, kept.few_links);
          foldable = laws.foldable graph root file within.certificate accepted;
        });
      }

  an_upgrade : (graph : Topology) (root : ℕ) (file : CertFile) → IsTopology graph → IsCertFile file → HasAnswer (upgraded_in graph root file)
  an_upgrade graph root file kept within =
      let verdict = a_verdict graph root file in
      both (judged graph root file) (λ done. such (λ text. Accepted graph root (upgraded file) × IsSpellingOf text (upgraded file))) verdict.0 verdict.1
      (λ done said. (
        Ok (cert_text (upgraded file)),
        (
          upgraded_accepted graph root file said.0,
          record { within = within_two graph root file kept within said.0; spelled = refl },
        ),
      ))

  -- ---- the tasks over what the files hold

  a_script : (bytes : List ℕ) → HasAnswer (script_of bytes)
  a_script bytes = elim (laws.scripts (text_lines bytes)) [
    | inl said ↦ (Ok said.0, said.1)
    | inr fault ↦ (Err (BadScript fault.0), fault.1)
  ]

  a_proxy : (graph : Topology) (root a b : ℕ) → IsTopology graph → root < length graph.ids → a < length graph.ids → b < length graph.ids
      → a ≢ b → HasAnswer (proxied graph root a b)
  a_proxy graph root a b kept within a_within b_within differ =
      let file = computed_file graph root kept within in
      elim (cases_Bool (are_unrelated file.0.cert a b)) [
        | inl apart ↦ (Err NoCommonBlock, (file.0, file.1, apart))
        | inr near ↦
            let text = (laws.proxy graph root file.0.cert a b kept (accepted_for graph root file.0 file.1) within a_within b_within differ).0 near in
            (Ok text.0, record { file = file.0; certificate = file.1; spelled = text.1 })
      ]

  -- the primaries of a router
  its_primaries : (of : AreaParts) → IsArea of → (spot number : ℕ) → slice_get of.ids spot ≡ Some (router_node number)
      → (primaries : List (Option Primary)) × ArePrimaries of spot primaries
  its_primaries of kept spot number at =
      let entries = laws.primaries of kept in
      let own : ℕ → Option Primary = entries.0 spot in
      let router = router_from of.ids spot (slice_get_within of.ids spot (router_node number) at) (not_network of.ids spot number at) in (
        map own (range_with_len 0 (length of.ids)),
        record {
          one_each = length-map-range_with_len own 0 (length of.ids);
          each = λ t entry is.
              let upper : t < length of.ids = omega (
                arith,
                slice_get_within (map own (range_with_len 0 (length of.ids))) t entry is,
                length-map-range_with_len own 0 (length of.ids),
              ) in
              let same : own t ≡ entry =
              sym (get_or-map-range_with_len own 0 (length of.ids) t t None upper (omega arith))
              ∙ get_or_from_slice_get (map own (range_with_len 0 (length of.ids))) t entry None is in
              subst (λ (e : Option Primary). IsPrimary of spot t e) same (entries.1 spot t router upper);
        },
      )

  module _ (input : Input) (kept : (of : AreaParts) → area_of input.newest (Ok of) → IsArea of) (fit : AllByRecursion FitsBond (area input).bonds)
      (wide : AllByRecursion IsWide (area input).ids) where
    pub held_in : (number : ℕ) (island : Island) → island_in input number (Ok island) → InArea (area input) number island
    held_in number island its =
        let of_kept = area_is_kept input kept number island its in
        let is : island_of (policy input) (area input) number (Ok island) =
        subst (λ (of : AreaParts). island_of (policy input) of number (Ok island)) its.1.0 its.2 in
        let fits = laws.areas.fits (policy input) (area input) number island.graph island.root island.link_of of_kept is in
        record {
          area_kept = of_kept;
          graph = laws.areas.graph (policy input) (area input) number island.graph island.root island.link_of of_kept fit is;
          root = root_within (policy input) (area input) number island.graph island.root island.link_of is;
          fits = fits;
          inside = in_own_island (policy input) (area input) number island.graph island.root island.link_of is;
          wide = all_from_has IsWide island.graph.ids (λ id has.
              all_has IsWide (area input).ids id wide
              (has_from_contains (area input).ids id (fits.nodes id (contains_from_has island.graph.ids id has))));
        }

    -- the island of a router, and then what comes of it
    in_island : (number : ℕ) (next : Island → Step (List ℕ)) → ((island : Island) → InArea (area input) number island → HasAnswer (next island))
        → HasAnswer (island_in input number ▸ next)
    in_island number next some =
        let found = island_here input kept number in
        both (island_in input number) next found.0 found.1 (λ island its. some island (held_in number island its))

    certified_comes : (number : ℕ) → HasAnswer (certified input number)
    certified_comes number = in_island number (λ island. such (IsComputed island.graph island.root)) (λ island held.
        let file = computed_file island.graph island.root held.graph held.root in (
          Ok (cert_text file.0),
          record {
            file = file.0;
            certificate = file.1;
            spelled = record {
              within = laws.fits_file file.0 (record {
                graph = island.graph;
                root = island.root;
                kept = held.graph;
                within = held.root;
                wide = held.wide;
                certificate = file.1.computed;
              });
              spelled = refl;
            };
          },
        ))

    a_table : (number : ℕ) (island : Island) → InArea (area input) number island → (source spot : ℕ)
        → slice_get island.graph.ids source ≡ Some (router_node number) → slice_get (area input).ids spot ≡ Some (router_node number)
        → HasAnswer (such (IsTableOf (area input) island source spot))
    a_table number island held source spot at too =
        let file = computed_file island.graph island.root held.graph held.root in
        let primaries = its_primaries (area input) held.area_kept spot number too in
        let text = laws.table (table_parts (area input) island.graph island.link_of file.0.cert source primaries.0) island.root held.area_kept
        held.graph held.fits (laws.leads_on island.graph island.root file.0 file.1.accepted)
        (record { spot = spot; node = record { id = router_node number; in_area = too; in_island = at }; entries = primaries.1 }) held.root in
        (Ok text.0, record { file = file.0; certificate = file.1; primaries = primaries.0; primaries_are = primaries.1; spelled = text.1 })

    tabled_comes : (number : ℕ) → HasAnswer (tabled input number)
    tabled_comes number = in_island number (λ island. table_in (area input) island number) (λ island held.
        at_own_place island.graph.ids number held.inside
        (λ source. own_place (area input).ids number ▸ λ spot. such (IsTableOf (area input) island source spot)) (λ source at.
        at_own_place (area input).ids number (held.fits.nodes (router_node number) held.inside)
        (λ spot. such (IsTableOf (area input) island source spot)) (λ spot too.
        a_table number island held source spot at too)))

    -- what packets read
    parts_of : Island → CertFile → FabricParts
    parts_of island file = record { area = area input; island = island.graph; rows = row_of file.cert; link_of = island.link_of }

    are_parts : (island : Island) (file : CertFile) → IsComputedFile island.graph island.root file
        → ArePartsIn (area input) island (parts_of island file)
    unfolding parts_of
    are_parts island file certificate = record {
      area_is = refl;
      island_is = refl;
      links_are = refl;
      file = file;
      certificate = certificate;
      rows_are = refl;
    }

    traced_comes : (trace : PacketTrace) → HasAnswer (traced input trace)
    unfolding parts_of
    traced_comes trace = in_island trace.from (λ island. such (IsTraceIn (area input) island trace)) (λ island held.
        let file = computed_file island.graph island.root held.graph held.root in
        let are = are_parts island file.0 file.1 in
        let text = laws.trace_text (parts_of island file.0) (record { area_kept = held.area_kept; island_kept = held.graph; fits = held.fits })
        (rows_there (area input) island (parts_of island file.0) are) trace in
        (Ok text.0, (parts_of island file.0, are, text.1)))

    scripted_comes : (script : Script) → HasAnswer (scripted input script)
    unfolding parts_of
    scripted_comes script = in_island script.router (λ island. such (IsScriptIn (area input) island script)) (λ island held.
        let file = computed_file island.graph island.root held.graph held.root in
        let are = are_parts island file.0 file.1 in
        let text = laws.script_text (parts_of island file.0) (record { area_kept = held.area_kept; island_kept = held.graph; fits = held.fits })
        (rows_there (area input) island (parts_of island file.0) are) script in
        (Ok text.0, (parts_of island file.0, are, text.1)))

    loop_free_comes : (number : ℕ) → HasAnswer (loop_free input number)
    loop_free_comes number =
        let found = an_area input.newest in
        both (area_of input.newest) (λ of. loop_free_in of number) found.0 found.1 (λ of is.
        at_place of.ids (kept of is).ids_ascend number (λ spot. such (IsLfaText of spot)) (λ spot at.
        let text = laws.loop_free of spot (kept of is) (slice_get_within of.ids spot (router_node number) at) (not_network of.ids spot number at) in
        (Ok text.0, text.1)))

    ordered_comes : (number : ℕ) → HasAnswer (ordered input number)
    ordered_comes number = in_island number (λ island. ordered_in island.graph island.root number) (λ island held.
        at_own_place island.graph.ids number held.inside (λ source. such (IsTextFrom island.graph island.root source)) (λ source at.
        let text = laws.order island.graph island.root source held.graph held.root
        (slice_get_within island.graph.ids source (router_node number) at) in
        (Ok text.0, text.1)))

    proxied_comes : (number first second : ℕ) → first ≢ second → HasAnswer (proxied_for input number first second)
    proxied_comes number first second differ = in_island number (λ island. proxied_in island.graph island.root first second) (λ island held.
        at_place island.graph.ids held.graph.ids_ascend first
        (λ a. place_of island.graph.ids second ▸ λ b. proxied island.graph island.root a b) (λ a at_a.
        at_place island.graph.ids held.graph.ids_ascend second (λ b. proxied island.graph island.root a b) (λ b at_b.
        a_proxy island.graph island.root a b held.graph held.root
        (slice_get_within island.graph.ids a (router_node first) at_a) (slice_get_within island.graph.ids b (router_node second) at_b)
        (λ same. differ (ap (λ (id : NodeId). id.number)
        (same_Some (router_node first) (router_node second) (sym at_a ∙ ap (λ (k : ℕ). slice_get island.graph.ids k) same ∙ at_b)))))))

    of_task_comes : (task : Task) (last : List ℕ) → AllByRecursion IsByte last → IsTaskWithin task → HasAnswer (of_task task input last)
    of_task_comes (Check certificate) last are within =
        let file = a_file last are in
        both (certificate_of last) (checked input) file.0 file.1 (λ read too.
        in_island read.root (λ island. said_yes island.graph island.root read) (λ island held. a_yes island.graph island.root read))
    of_task_comes (Upgrade certificate) last are within =
        let file = a_file last are in
        both (certificate_of last) (upgraded_to input) file.0 file.1 (λ read too.
        in_island read.root (λ island. upgraded_in island.graph island.root read)
        (λ island held. an_upgrade island.graph island.root read held.graph too.within))
    of_task_comes (Fabric script) last are within =
        let read = a_script last in
        both (script_of last) (scripted input) read.0 read.1 (λ said is. scripted_comes said)
    of_task_comes (OfRouter (Certify router)) last are within = certified_comes router
    of_task_comes (OfRouter (Table router)) last are within = tabled_comes router
    of_task_comes (OfRouter (Trace trace)) last are within = traced_comes trace
    of_task_comes (OfRouter (Lfa router)) last are within = loop_free_comes router
    of_task_comes (OfRouter (Order router)) last are within = ordered_comes router
    of_task_comes (OfRouter (Proxy router first second)) last are within = proxied_comes router first second within

  -- ---- over the bytes of the files

  pub over_comes : (task : Task) (bytes : FileBytes) → AllByRecursion IsByte bytes.first → AllByRecursion IsByte bytes.last → IsTaskWithin task
      → HasAnswer (over task bytes)
  over_comes task bytes first last within =
      let given = an_input bytes.first bytes.profile first in
      both (input_of bytes.first bytes.profile) (λ input. of_task task input bytes.last) given.0 given.1 (λ input is.
      of_task_comes input (area_kept laws.areas bytes.first bytes.profile input is) (bonds_kept laws.areas bytes.first bytes.profile input is)
      (ids_kept bytes.first bytes.profile input is) task bytes.last last within)
