-- At most one thing comes of each form: a text, or an exit.
use Rattle.std.proofs.Common.{◌≡◌, ◌∙◌, ◌⊎◌, ◌<◌, ◌+◌, ◌==◌, ℕ, Bool, true, false, List, [], ◌∷◌, Option, Ok, Err, length, refl, sym, ap, subst, inl, inr}
use Rattle.std.specs.List.{AllByRecursion}
use Rattle.std.specs.List.Sorted.{IsStrictlySortedBy}
use Rattle.std.proofs.lemmas.Bool.{eqb-true, or_cases}
use Rattle.std.proofs.lemmas.Option.{slice_get_within}
use Rattle.area_graph.specs.AreaInvariant.{IsArea}
use Rattle.area_graph.specs.AreaOf.{area_of as area_of_lsas}
use Rattle.area_graph.specs.AreaSize.{IsTooLarge}
use Rattle.area_graph.specs.Fits.{Fits}
use Rattle.area_graph.specs.Parts.{AreaParts}
use Rattle.area_graph.specs.Ranges.{FitsBond}
use Rattle.cert_format.specs.CertText.{cert_text}
use Rattle.fabric.specs.FabricParts.{ArePartsKept, AreRowsFor, FabricParts}
use Rattle.fabric.specs.Served.{AreRowsOn}
use Rattle.fabric.specs.declared.event.Event.{Event}
use Rattle.fabric.specs.RunTexts.{IsScriptText, IsTraceText}
use Rattle.fabric_script.specs.declared.script.Script.{Script}
use Rattle.fabric_script.specs.declared.trace.Trace.{Trace as PacketTrace}
use Rattle.flood.specs.FloodState.{FloodState, started}
use Rattle.flood.specs.declared.script.FloodLine.{FloodLine}
use Rattle.flood.specs.FloodTexts.{IsFloodText}
use Rattle.flood_verdict.specs.Says.{Says}
use Rattle.lfa_alt.specs.LfaText.{IsLfaText}
use Rattle.lsdb.specs.Database.{IsDatabase, entering}
use Rattle.lsdb.specs.Installing.{IsKept}
use Rattle.lsdb.specs.Orders.{newest_in}
use Rattle.mrt_graph.specs.Accepted.{Accepted}
use Rattle.mrt_graph.specs.AcceptedFor.{IsAcceptedFor}
use Rattle.mrt_graph.specs.Certificate.{Certificate, row_of}
use Rattle.mrt_graph.specs.FirstFault.{FirstFault}
use Rattle.mrt_graph.specs.GraphInvariant.{IsTopology}
use Rattle.mrt_graph.specs.NodeIds.{router as router_node}
use Rattle.mrt_graph.specs.NodeOrder.{node_id_cmp}
use Rattle.mrt_graph.specs.Topology.{Topology}
use Rattle.mrt_graph.specs.declared.cert.CertFile.{CertFile}
use Rattle.mrt_graph.specs.declared.node_id.NodeId.{NodeId}
use Rattle.mrt_graph.proofs.NodeIds.{one_place}
use Rattle.mrt_island.specs.IslandOf.{IsIsland}
use Rattle.mrt_island.specs.Policy.{Policy}
use Rattle.mrt_island.specs.declared.island.Island.{Island}
use Rattle.mrt_island.specs.declared.setting.Setting.{Setting}
use Rattle.mrt_survey.specs.MadeLsas.{made_lsas}
use Rattle.mrt_survey.specs.SurveyText.{IsSurveyText}
use Rattle.order_repair.specs.OrderText.{IsTextFrom}
use Rattle.ospf_lsa.specs.AreaLsas.{is_area_lsa}
use Rattle.ospf_lsa.specs.LsaText.{lsa_length, lsas_text}
use Rattle.ospf_lsa.specs.Lsas.{AreLsas, FitsBody, IsLsa}
use Rattle.ospf_lsa.specs.declared.lsa.Lsa.{Lsa}
use Rattle.mrt_exit.specs.AnswerSteps.{IsOne, Step, such, ◌▸◌}
use Rattle.mrt_exit.specs.declared.exit.Exit.{Exit}
use Rattle.mrt_exit.specs.declared.exit.Exit.TheVariants as exits
use Rattle.mrt_exit.proofs.Stepping.{one_such, one_then_one, one_value, one_value_or_exit}
use Rattle.mrt_args.specs.FileBytes.{FileBytes}
use Rattle.mrt_args.specs.Form.{Task}
use Rattle.mrt_args.specs.declared.task.RouterTask.TheVariants.{Certify, Table, Trace, Lfa, Order, Proxy}
use Rattle.mrt_args.specs.declared.task.Task.TheVariants.{Check, Fabric, Upgrade, OfRouter}
use Rattle.mrt_answer.specs.Texts.{ArePartsIn, IsComputed, IsComputedFile, IsScriptIn, IsTableOf, IsTraceIn, IsUpgrade, accepted_line, judged, proxied}
use Rattle.mrt_answer.specs.Forms.{certified, checked, delivered, flooded, loop_free, loop_free_in, of_task, ordered, ordered_in, over, proxied_for, proxied_in, scripted, table_in, tabled, traced, upgraded_to}
use Rattle.mrt_answer.specs.Input.{Input, area, policy}
use Rattle.mrt_answer.specs.Islands.{area_of, island_in, island_of, own_place, place_of}
use Rattle.mrt_answer.specs.Reading.{certificate_of, deliveries_of, input_of, profile_of, script_of, updates_of}
use Rattle.mrt_answer.specs.Surveyed.{IsSummedUp, IsSurveyed, made_input}
use Rattle.mrt_answer.specs.steps.Surveyed.{summed_up_in}
use Rattle.mrt_answer.proofs.Islands.{contained, inside_is_there, island_ascends, no_large_area, one_large_area, root_within}
use Rattle.mrt_answer.proofs.OneProxy.{ProxyLaws, accepted_for, one_proxied_of}
use Rattle.mrt_answer.proofs.OneReading.{
  CertLaws,
  DatabaseLaws,
  DeliveryLaws,
  ProfileLaws,
  ScriptLaws,
  UpdateLaws,
  one_certificate_of,
  one_deliveries_of,
  one_input_of,
  one_profile_of,
  one_script_of,
  one_updates_of,
}
use Rattle.mrt_answer.proofs.OneTable.{CertificateLaw, IslandLaw, TableLaws, one_table}

-- the laws of the layers below on the fourteen rules
pub record RuleLaws : Type 0 where
  pub never_both : (g : Topology) (root : ℕ) (file : CertFile) (rule a b : ℕ) → Accepted g root file
      → FirstFault g root file rule a b → ⊥
  pub one : (g : Topology) (root : ℕ) (file : CertFile) (rule a b number x y : ℕ) → FirstFault g root file rule a b
      → FirstFault g root file number x y
      → (rule ≡ number) × (a ≡ x) × (b ≡ y)

-- the laws of the layers below on the area
pub record AreaLaws : Type 0 where
  pub stands : (lsa : Lsa) → IsLsa lsa → (lsa.kind ≡ 1) ⊎ (lsa.kind ≡ 2) → IsKept lsa
  pub area : (lsas : List Lsa) → AllByRecursion IsKept lsas
      → (IsTooLarge (length (area_of_lsas (newest_in lsas)).ids) (length (area_of_lsas (newest_in lsas)).arcs) → ⊥)
      → IsArea (area_of_lsas (newest_in lsas))
  pub bonds : (lsas : List Lsa) → AllByRecursion (λ lsa. FitsBody lsa.body) lsas → AllByRecursion FitsBond (area_of_lsas (newest_in lsas)).bonds
  pub graph : (policy : Policy) (area : AreaParts) (router : ℕ) (g : Topology) (root : ℕ) (link_of : List (Option ℕ)) → IsArea area
      → AllByRecursion FitsBond area.bonds → IsIsland policy area router g root link_of → IsTopology g
  pub fits : (policy : Policy) (area : AreaParts) (router : ℕ) (g : Topology) (root : ℕ) (link_of : List (Option ℕ)) → IsArea area
      → IsIsland policy area router g root link_of → Fits area g link_of

-- the laws of the layers below on texts
pub record TextLaws : Type 0 where
  pub script : (parts : FabricParts) → ArePartsKept parts → (script : Script) (text other : List ℕ)
      → IsScriptText parts script text → IsScriptText parts script other → text ≡ other
  pub trace : (parts : FabricParts) → ArePartsKept parts → (trace : PacketTrace) (text other : List ℕ)
      → IsTraceText parts trace text → IsTraceText parts trace other → text ≡ other
  pub loop_free : (area : AreaParts) (s : ℕ) (text other : List ℕ) → IsLfaText area s text → IsLfaText area s other → text ≡ other
  pub order : (g : Topology) (root s : ℕ) (text other : List ℕ) → IsTopology g → root < length g.ids → s < length g.ids
      → IsTextFrom g root s text → IsTextFrom g root s other → text ≡ other
  pub proxies : ProxyLaws
  pub flood : (settings : List Setting) (state : FloodState) (lines : List FloodLine) (text other : List ℕ)
      → IsFloodText (Says settings) state lines text → IsFloodText (Says settings) state lines other → text ≡ other
  pub survey : (number : ℕ) (g : Topology) (root : ℕ) (c : Certificate) (text other : List ℕ)
      → IsSurveyText number g root c text → IsSurveyText number g root c other → text ≡ other

-- all of them
pub record Laws : Type 0 where
  pub databases : DatabaseLaws
  pub profiles : ProfileLaws
  pub certs : CertLaws
  pub scripts : ScriptLaws
  pub updates : UpdateLaws
  pub deliveries : DeliveryLaws
  pub areas : AreaLaws
  pub islands : IslandLaw
  pub certificates : CertificateLaw
  pub tables : TableLaws
  pub rules : RuleLaws
  pub texts : TextLaws

entered : (lsa : Lsa) → is_area_lsa lsa ≡ true → (lsa.kind ≡ 1) ⊎ (lsa.kind ≡ 2)
entered lsa enters = elim (or_cases (lsa.kind == 1) (lsa.kind == 2) enters) [
  | inl one ↦ inl (eqb-true lsa.kind 1 one)
  | inr two ↦ inr (eqb-true lsa.kind 2 two)
]

-- those of a database's LSAs that enter may stand in one
pub all_stand : AreaLaws → (at : ℕ) (lsas : List Lsa) → AreLsas at lsas → AllByRecursion IsKept (entering lsas)
all_stand laws at [] are = tt
all_stand laws at (lsa ∷ rest) are = go (is_area_lsa lsa) refl (all_stand laws (at + lsa_length lsa) rest are.2)
  where
    go : (b : Bool) → is_area_lsa lsa ≡ b → AllByRecursion IsKept (entering rest)
        → AllByRecursion IsKept (entering (lsa ∷ rest))
    go true e stand = rw e (laws.stands lsa are.1 (entered lsa e), stand)
    go false e stand = rw e stand

-- and their numbers fit
all_fit : (at : ℕ) (lsas : List Lsa) → AreLsas at lsas → AllByRecursion (λ lsa. FitsBody lsa.body) (entering lsas)
all_fit at [] are = tt
all_fit at (lsa ∷ rest) are = go (is_area_lsa lsa) refl (all_fit (at + lsa_length lsa) rest are.2)
  where
    go : (b : Bool) → is_area_lsa lsa ≡ b → AllByRecursion (λ l. FitsBody l.body) (entering rest)
        → AllByRecursion (λ l. FitsBody l.body) (entering (lsa ∷ rest))
    go true e fit = rw e (are.1.body, fit)
    go false e fit = rw e fit

-- the newest LSAs of a database give an area
pub is_area : AreaLaws → (bytes : List ℕ) (newest : List Lsa) → IsDatabase bytes newest
    → (IsTooLarge (length (area_of_lsas newest).ids) (length (area_of_lsas newest).arcs) → ⊥) → IsArea (area_of_lsas newest)
is_area laws bytes newest database within =
    subst (λ (lsas : List Lsa). IsArea (area_of_lsas lsas)) (sym database.newest_ones)
    (laws.area (entering database.lsas) (all_stand laws 0 database.lsas database.held.each)
    (subst (λ (lsas : List Lsa). IsTooLarge (length (area_of_lsas lsas).ids) (length (area_of_lsas lsas).arcs)
    → ⊥) database.newest_ones within))

-- so does what an input holds
pub area_kept : AreaLaws → (database profile : List ℕ) (input : Input) → input_of database profile (Ok input)
    → (of : AreaParts) → area_of input.newest (Ok of) → IsArea of
area_kept laws database profile input (newest, is, (settings, said, same)) of is_area_of =
    let held : IsDatabase database input.newest = subst (λ (i : Input). IsDatabase database i.newest) (sym same) is in
    subst IsArea (sym is_area_of.0) (is_area laws database input.newest held
    (subst (λ (a : AreaParts). IsTooLarge (length a.ids) (length a.arcs) → ⊥) is_area_of.0 is_area_of.1))

-- and the numbers of its bonds fit
pub bonds_kept : AreaLaws → (database profile : List ℕ) (input : Input) → input_of database profile (Ok input) → AllByRecursion FitsBond (area input).bonds
bonds_kept laws database profile input (newest, is, (settings, said, same)) =
    let held : IsDatabase database input.newest = subst (λ (i : Input). IsDatabase database i.newest) (sym same) is in
    subst (λ (lsas : List Lsa). AllByRecursion FitsBond (area_of_lsas lsas).bonds) (sym held.newest_ones)
    (laws.bonds (entering held.lsas) (all_fit 0 held.lsas held.held.each))

-- so the area is kept, where a router has an island in it
pub area_is_kept : (input : Input) → ((of : AreaParts) → area_of input.newest (Ok of) → IsArea of) → (router : ℕ) (island : Island)
    → island_in input router (Ok island) → IsArea (area input)
area_is_kept input kept router island (of, is, under) = subst IsArea is.0 (kept of is)

-- what the steps of packets read fits together
pub parts_fit : AreaLaws → (policy : Policy) (area : AreaParts) → IsArea area → AllByRecursion FitsBond area.bonds → (number : ℕ) (island : Island)
    → island_of policy area number (Ok island) → (parts : FabricParts) → ArePartsIn area island parts → ArePartsKept parts
parts_fit laws policy area kept fit number island is parts are =
    let graph = laws.graph policy area number island.graph island.root island.link_of kept fit is in
    let fits = laws.fits policy area number island.graph island.root island.link_of kept is in
    record {
      area_kept = subst IsArea (sym are.area_is) kept;
      island_kept = subst IsTopology (sym are.island_is) graph;
      fits = subst (λ (of : AreaParts). Fits of parts.island parts.link_of) (sym are.area_is)
          (subst (λ (g : Topology). Fits area g parts.link_of) (sym are.island_is)
          (subst (λ (links : List (Option ℕ)). Fits area island.graph links) (sym are.links_are) fits));
    }

-- and there are rows for all destinations
pub rows_there : (area : AreaParts) (island : Island) (parts : FabricParts) → ArePartsIn area island parts → (t : ℕ) → AreRowsFor parts t
rows_there area island parts are t = λ d is. record {
  cert = are.file.cert;
  accepted = subst (λ (g : Topology). IsAcceptedFor g are.file.cert) (sym are.island_is)
      (accepted_for island.graph island.root are.file are.certificate);
  same = λ s i. are.rows_are i s d;
}

pub rows_for_all : (area : AreaParts) (island : Island) (parts : FabricParts) → ArePartsIn area island parts → (events : List Event)
    → AreRowsOn parts events
rows_for_all area island parts are events at to entry among = rows_there area island parts are to

-- ---- the area, the island and routers of them

one_area_of : (newest : List Lsa) → IsOne (area_of newest)
one_area_of newest = one_value_or_exit (area_of newest) (λ of other one two. one.0 ∙ sym two.0) ends no
  where
    ends : (e d : Exit) → area_of newest (Err e) → area_of newest (Err d) → e ≡ d
    ends (exits.TooLarge what size) (exits.TooLarge other count) one two =
        let same = one_large_area (area_of_lsas newest) what other size count one two in
        λ i. exits.TooLarge (same.0 i) (same.1 i)
    ends (exits.TooLarge what size) d one two = absurd two
    ends e d one two = absurd one

    no : (of : AreaParts) (e : Exit) → area_of newest (Ok of) → area_of newest (Err e) → ⊥
    no of (exits.TooLarge what size) one two =
        no_large_area (area_of_lsas newest) what size
        (subst (λ (a : AreaParts). IsTooLarge (length a.ids) (length a.arcs) → ⊥) one.0 one.1) two
    no of e one two = two

pub one_place_of : (ids : List NodeId) → IsStrictlySortedBy node_id_cmp ids → (number : ℕ) → IsOne (place_of ids number)
one_place_of ids ascend number =
    one_value_or_exit (place_of ids number) (λ a b. one_place ids a b (router_node number) ascend) ends no
  where
    ends : (e d : Exit) → place_of ids number (Err e) → place_of ids number (Err d) → e ≡ d
    ends (exits.NotThere missing) (exits.NotThere other) one two = ap exits.NotThere (one.0 ∙ sym two.0)
    ends (exits.NotThere missing) d one two = absurd two
    ends e d one two = absurd one

    no : (place : ℕ) (e : Exit) → place_of ids number (Ok place) → place_of ids number (Err e) → ⊥
    no place (exits.NotThere missing) one two = two.1 (contained ids place (router_node number) one)
    no place e one two = two

-- a router's place, and then what comes of it
at_place : (ids : List NodeId) → IsStrictlySortedBy node_id_cmp ids → (number : ℕ) (next : ℕ → Step (List ℕ))
    → ((place : ℕ) → place_of ids number (Ok place) → IsOne (next place)) → IsOne (place_of ids number ▸ next)
at_place ids ascend number next one = one_then_one (place_of ids number) next (one_place_of ids ascend number) one

-- the place of a router that is there, and then what comes of it
at_own_place : (ids : List NodeId) → IsStrictlySortedBy node_id_cmp ids → (number : ℕ) (next : ℕ → Step (List ℕ))
    → ((place : ℕ) → own_place ids number (Ok place) → IsOne (next place)) → IsOne (own_place ids number ▸ next)
at_own_place ids ascend number next one =
    one_then_one (own_place ids number) next (one_such _ (λ a b. one_place ids a b (router_node number) ascend)) one

pub one_judged : RuleLaws → (graph : Topology) (root : ℕ) (file : CertFile) → IsOne (judged graph root file)
one_judged laws graph root file = one_value_or_exit (judged graph root file) (λ x y one two. refl) ends no
  where
    ends : (e d : Exit) → judged graph root file (Err e) → judged graph root file (Err d) → e ≡ d
    ends (exits.No rule a b) (exits.No number x y) one two =
        let same = laws.one graph root file rule a b number x y one two in
        λ i. exits.No (same.0 i) (same.1 i) (same.2 i)
    ends (exits.No rule a b) d one two = absurd two
    ends e d one two = absurd one

    no : (done : Unit {0}) (e : Exit) → judged graph root file (Ok done) → judged graph root file (Err e) → ⊥
    no done (exits.No rule a b) one two = laws.never_both graph root file rule a b one.0 two
    no done e one two = two

module _ (laws : Laws) where
  one_island_of : (policy : Policy) (area : AreaParts) → IsArea area → (number : ℕ) → IsOne (island_of policy area number)
  one_island_of policy area kept number = one_value_or_exit (island_of policy area number) values ends no
    where
      values : (one other : Island) → island_of policy area number (Ok one) → island_of policy area number (Ok other) → one ≡ other
      values one other is too =
          let same = laws.islands policy area number one.graph other.graph one.root other.root one.link_of other.link_of kept is too in
          λ i. record { graph = same.0 i; root = same.1 i; link_of = same.2 i }

      ends : (e d : Exit) → island_of policy area number (Err e) → island_of policy area number (Err d) → e ≡ d
      ends (exits.NotThere missing) (exits.NotThere other) one two = ap exits.NotThere (one.0 ∙ sym two.0)
      ends (exits.NotThere missing) d one two = absurd two
      ends e d one two = absurd one

      no : (island : Island) (e : Exit) → island_of policy area number (Ok island) → island_of policy area number (Err e) → ⊥
      no island (exits.NotThere missing) one two = inside_is_there policy area number one.inside one.those two.1
      no island e one two = two

  -- the certificate that is computed for an island is one
  one_file : (policy : Policy) (area : AreaParts) (number : ℕ) (island : Island) → IsTopology island.graph → island_of policy area number (Ok island)
      → (file other : CertFile) → IsComputedFile island.graph island.root file → IsComputedFile island.graph island.root other
      → file ≡ other
  one_file policy area number island graph is file other one two =
      laws.certificates island.graph island.root file other graph
      (root_within policy area number island.graph island.root island.link_of is) one.computed two.computed

  -- ---- where no file has a fault

  module _ (input : Input) (kept : (of : AreaParts) → area_of input.newest (Ok of) → IsArea of) (fit : AllByRecursion FitsBond (area input).bonds) where
    one_island_in : (number : ℕ) → IsOne (island_in input number)
    one_island_in number =
        one_then_one (area_of input.newest) _ (one_area_of input.newest)
        (λ of is. one_island_of (policy input) of (kept of is) number)

    -- the island of a router, and then what comes of it
    in_it : (number : ℕ) (next : Island → Step (List ℕ))
        → (IsArea (area input) → (island : Island) → island_of (policy input) (area input) number (Ok island) → IsOne (next island))
        → IsOne (island_in input number ▸ next)
    in_it number next one =
        one_then_one (island_in input number) next (one_island_in number) (λ island both.
        one (area_is_kept input kept number island both) island
        (subst (λ (of : AreaParts). island_of (policy input) of number (Ok island)) both.1.0 both.2))

    -- the graph of an island is one
    its_graph : IsArea (area input) → (number : ℕ) (island : Island) → island_of (policy input) (area input) number (Ok island) → IsTopology island.graph
    its_graph of_kept number island is =
        laws.areas.graph (policy input) (area input) number island.graph island.root island.link_of of_kept fit is

    -- the nodes of an island are in order
    in_order : IsArea (area input) → (router : ℕ) (island : Island) → island_of (policy input) (area input) router (Ok island)
        → IsStrictlySortedBy node_id_cmp island.graph.ids
    in_order of_kept router island is = island_ascends (policy input) (area input) of_kept router island.graph island.root island.link_of is

    one_certified : (router : ℕ) → IsOne (certified input router)
    one_certified router = in_it router (λ island. such (IsComputed island.graph island.root)) (λ of_kept island is. one_such (IsComputed island.graph island.root) (λ text other one two.
        one.spelled.spelled
        ∙ ap (λ (f : CertFile). cert_text f) (one_file (policy input) (area input) router island (its_graph of_kept router island is) is one.file two.file one.certificate two.certificate)
        ∙ sym two.spelled.spelled))

    one_tabled : (router : ℕ) → IsOne (tabled input router)
    one_tabled router = in_it router (λ island. table_in (area input) island router) (λ of_kept island is.
        at_own_place island.graph.ids (in_order of_kept router island is) router
        (λ source. own_place (area input).ids router ▸ λ spot. such (IsTableOf (area input) island source spot)) (λ source at.
        at_own_place (area input).ids of_kept.ids_ascend router (λ spot. such (IsTableOf (area input) island source spot)) (λ spot too.
        one_such (IsTableOf (area input) island source spot)
        (one_table laws.tables (area input) of_kept island (its_graph of_kept router island is) source spot
        (one_file (policy input) (area input) router island (its_graph of_kept router island is) is)))))

    one_ordered : (router : ℕ) → IsOne (ordered input router)
    one_ordered router = in_it router (λ island. ordered_in island.graph island.root router) (λ of_kept island is.
        at_own_place island.graph.ids (in_order of_kept router island is) router (λ source. such (IsTextFrom island.graph island.root source)) (λ source at.
        one_such (IsTextFrom island.graph island.root source) (λ text other one two.
        laws.texts.order island.graph island.root source text other (its_graph of_kept router island is)
        (root_within (policy input) (area input) router island.graph island.root island.link_of is)
        (slice_get_within island.graph.ids source (router_node router) at) one two)))

    one_loop_free : (router : ℕ) → IsOne (loop_free input router)
    one_loop_free router =
        one_then_one (area_of input.newest) (λ of. loop_free_in of router) (one_area_of input.newest) (λ of is.
        at_place of.ids (kept of is).ids_ascend router (λ spot. such (IsLfaText of spot)) (λ spot at.
        one_such (IsLfaText of spot) (laws.texts.loop_free of spot)))

    one_proxied : (router first second : ℕ) → IsOne (proxied_for input router first second)
    one_proxied router first second = in_it router (λ island. proxied_in island.graph island.root first second) (λ of_kept island is.
        at_place island.graph.ids (in_order of_kept router island is) first
        (λ a. place_of island.graph.ids second ▸ λ b. proxied island.graph island.root a b) (λ a at_a.
        at_place island.graph.ids (in_order of_kept router island is) second (λ b. proxied island.graph island.root a b) (λ b at_b.
        one_proxied_of laws.texts.proxies island.graph island.root a b (its_graph of_kept router island is)
        (one_file (policy input) (area input) router island (its_graph of_kept router island is) is))))

    -- the parts that packets read are one, and so is a text over them
    one_over_parts : IsArea (area input) → (number : ℕ) (island : Island) → island_of (policy input) (area input) number (Ok island)
        → (IsText : FabricParts → List ℕ → Type 0)
        → ((parts : FabricParts) → ArePartsKept parts → (text other : List ℕ) → IsText parts text → IsText parts other → text ≡ other)
        → IsOne (such (λ text. (parts : FabricParts) × ArePartsIn (area input) island parts × IsText parts text))
    one_over_parts of_kept number island is IsText one = one_such _ (λ text other first second.
        let files = one_file (policy input) (area input) number island (its_graph of_kept number island is) is first.1.file second.1.file first.1.certificate second.1.certificate in
        let parts : first.0 ≡ second.0 = λ i. record {
          area = (first.1.area_is ∙ sym second.1.area_is) i;
          island = (first.1.island_is ∙ sym second.1.island_is) i;
          rows = (first.1.rows_are ∙ ap (λ (f : CertFile). row_of f.cert) files ∙ sym second.1.rows_are) i;
          link_of = (first.1.links_are ∙ sym second.1.links_are) i;
        } in
        one second.0 (parts_fit laws.areas (policy input) (area input) of_kept fit number island is second.0 second.1) text other
        (subst (λ (p : FabricParts). IsText p text) parts first.2) second.2)

    one_traced : (trace : PacketTrace) → IsOne (traced input trace)
    one_traced trace = in_it trace.from (λ island. such (IsTraceIn (area input) island trace)) (λ of_kept island is.
        one_over_parts of_kept trace.from island is (λ parts. IsTraceText parts trace) (λ parts fit. laws.texts.trace parts fit trace))

    one_scripted : (script : Script) → IsOne (scripted input script)
    one_scripted script = in_it script.router (λ island. such (IsScriptIn (area input) island script)) (λ of_kept island is.
        one_over_parts of_kept script.router island is (λ parts. IsScriptText parts script) (λ parts fit. laws.texts.script parts fit script))

    -- the island of a certificate's root, and the verdict
    judged_then : (file : CertFile) (next : Island → Step (List ℕ)) → ((island : Island) → IsOne (next island))
        → IsOne (island_in input file.root ▸ λ island. judged island.graph island.root file ▸ λ done. next island)
    judged_then file next one = in_it file.root (λ island. judged island.graph island.root file ▸ λ done. next island) (λ of_kept island is.
        one_then_one (judged island.graph island.root file) (λ done. next island) (one_judged laws.rules island.graph island.root file)
        (λ done accepted. one island))

    one_checked : (file : CertFile) → IsOne (checked input file)
    one_checked file =
        let says = λ (island : Island) (text : List ℕ). text ≡ accepted_line file.root (length island.graph.ids) (length island.graph.links) in
        judged_then file (λ island. such (says island)) (λ island. one_such (says island) (λ text other one two. one ∙ sym two))

    one_upgraded : (file : CertFile) → IsOne (upgraded_to input file)
    one_upgraded file = judged_then file (λ island. such (IsUpgrade island.graph island.root file)) (λ island. one_such (IsUpgrade island.graph island.root file)
        (λ text other one two. one.1.spelled ∙ sym two.1.spelled))

    one_summed_up : (number : ℕ) → IsOne (summed_up_in number input)
    one_summed_up number = in_it 1 (λ island. such (IsSummedUp number island.graph island.root)) (λ of_kept island is. one_such (IsSummedUp number island.graph island.root) (λ text other one two.
        laws.texts.survey number island.graph island.root two.file.cert text other
        (subst (λ (f : CertFile). IsSurveyText number island.graph island.root f.cert text)
        (one_file (policy input) (area input) 1 island (its_graph of_kept 1 island is) is one.file two.file one.certificate two.certificate) one.spelled) two.spelled))

    one_task : (task : Task) (last : List ℕ) → IsOne (of_task task input last)
    one_task (Check certificate) last =
        one_then_one (certificate_of last) (checked input) (one_certificate_of laws.certs last) (λ file read. one_checked file)
    one_task (Upgrade certificate) last =
        one_then_one (certificate_of last) (upgraded_to input) (one_certificate_of laws.certs last) (λ file read. one_upgraded file)
    one_task (Fabric script) last =
        one_then_one (script_of last) (scripted input) (one_script_of laws.scripts last) (λ read is. one_scripted read)
    one_task (OfRouter (Certify router)) last = one_certified router
    one_task (OfRouter (Table router)) last = one_tabled router
    one_task (OfRouter (Trace trace)) last = one_traced trace
    one_task (OfRouter (Lfa router)) last = one_loop_free router
    one_task (OfRouter (Order router)) last = one_ordered router
    one_task (OfRouter (Proxy router first second)) last = one_proxied router first second

  -- ---- what is read of an area, whatever is made of it

  module _ (database profile : List ℕ) (input : Input) (given : input_of database profile (Ok input)) where
    pub one_island : (router : ℕ) → IsOne (island_in input router)
    one_island = one_island_in input (area_kept laws.areas database profile input given) (bonds_kept laws.areas database profile input given)

    pub read_area : (router : ℕ) (island : Island) → island_in input router (Ok island) → IsArea (area input)
    read_area = area_is_kept input (area_kept laws.areas database profile input given)

    pub read_nodes : (router : ℕ) (island : Island) → island_in input router (Ok island) → IsStrictlySortedBy node_id_cmp island.graph.ids
    read_nodes router island (of, is, under) =
        island_ascends (policy input) of (area_kept laws.areas database profile input given of is) router island.graph island.root island.link_of under

    pub read_graph : (router : ℕ) (island : Island) → island_in input router (Ok island) → IsTopology island.graph
    read_graph router island (of, is, under) =
        its_graph input (area_kept laws.areas database profile input given) (bonds_kept laws.areas database profile input given)
        (read_area router island (of, is, under)) router island (subst (λ (a : AreaParts). island_of (policy input) a router (Ok island)) is.0 under)

    pub read_file : (router : ℕ) (island : Island) → island_in input router (Ok island) → (file other : CertFile)
        → IsComputedFile island.graph island.root file → IsComputedFile island.graph island.root other → file ≡ other
    read_file router island (of, is, under) = one_file (policy input) of router island (read_graph router island (of, is, under)) under

  -- ---- over the bytes of the files

  pub one_over : (task : Task) (bytes : FileBytes) → IsOne (over task bytes)
  one_over task bytes =
      one_then_one (input_of bytes.first bytes.profile) (λ input. of_task task input bytes.last) (one_input_of laws.databases laws.profiles bytes.first bytes.profile)
      (λ input given. one_task input (area_kept laws.areas bytes.first bytes.profile input given) (bonds_kept laws.areas bytes.first bytes.profile input given)
      task bytes.last)

  pub one_flooded : (bytes : FileBytes) → IsOne (flooded bytes)
  one_flooded bytes =
      one_then_one (updates_of bytes.first) (λ updates. profile_of bytes.profile ▸ λ settings. deliveries_of bytes.last ▸ delivered updates settings)
      (one_updates_of laws.updates bytes.first) (λ updates are.
      one_then_one (profile_of bytes.profile) (λ settings. deliveries_of bytes.last ▸ delivered updates settings)
      (one_profile_of laws.databases laws.profiles bytes.profile) (λ settings said.
      one_then_one (deliveries_of bytes.last) (delivered updates settings) (one_deliveries_of laws.deliveries bytes.last) (λ script is.
      one_such (λ text. delivered updates settings script (Ok text))
      (λ text other one two. laws.texts.flood settings (started updates script.routers) script.lines text other one.1 two.1))))

  -- ---- of a survey

  pub one_survey : {number nodes : ℕ} → input_of (lsas_text (made_lsas number nodes)) [] (Ok (made_input number nodes))
      → (text other : List ℕ) → IsSurveyed number nodes text → IsSurveyed number nodes other → text ≡ other
  one_survey {number} {nodes} given text other one two =
      one_value (summed_up_in number (made_input number nodes))
      (one_summed_up (made_input number nodes) (area_kept laws.areas (lsas_text (made_lsas number nodes)) [] (made_input number nodes) given)
      (bonds_kept laws.areas (lsas_text (made_lsas number nodes)) [] (made_input number nodes) given) number)
      text other (one.island, one.island_is, one.survey) (two.island, two.island_is, two.survey)
