-- At most one thing comes of each call.
use Rattle.std.proofs.Common.{◌≡◌, ◌∙◌, ℕ, true, List, Some, Result, Ok, Err, length, map, slice_get, refl, sym, ap, subst, inl, inr, arith}
use Rattle.std.specs.List.{AllZip}
use Rattle.std.specs.List.Sorted.{IsStrictlySortedBy}
use Rattle.std.proofs.lemmas.Option.{same_Some}
use Rattle.area_graph.specs.AreaInvariant.{IsArea}
use Rattle.cert_format.specs.CertText.{cert_text}
use Rattle.mrt_graph.specs.AcceptedFor.{IsAcceptedFor}
use Rattle.mrt_graph.specs.Certificate.{Certificate}
use Rattle.mrt_graph.specs.GraphInvariant.{IsTopology}
use Rattle.mrt_graph.specs.NodeIds.{router as router_node}
use Rattle.mrt_graph.specs.NodeOrder.{node_id_cmp}
use Rattle.mrt_graph.specs.Related.{are_unrelated}
use Rattle.mrt_graph.specs.Topology.{Topology}
use Rattle.mrt_graph.specs.declared.cert.CertFile.{CertFile}
use Rattle.mrt_graph.specs.declared.node_id.NodeId.{NodeId}
use Rattle.mrt_graph.proofs.NodeIds.{one_place}
use Rattle.mrt_island.specs.declared.island.Island.{Island}
use Rattle.primary_alt.specs.Primaries.{ArePrimaries}
use Rattle.mrt_report.specs.Rows.{IsLinkHop}
use Rattle.mrt_report.specs.TableParts.{TableParts, table_parts}
use Rattle.mrt_report.specs.TableText.{IsTableRow, others}
use Rattle.mrt_report.specs.declared.row.HopTo.{HopTo}
use Rattle.mrt_report.specs.declared.row.TableRow.{TableRow}
use Rattle.mrt_report.proofs.OneTable.{one_zip}
use Rattle.proxy_rows.specs.ProxyRows.{AreProxyRows}
use Rattle.proxy_rows.specs.declared.proxy_row.Out.{Out}
use Rattle.proxy_rows.specs.declared.proxy_row.Out.TheVariants.{Attached, Link}
use Rattle.proxy_rows.specs.declared.proxy_row.ProxyRow.{ProxyRow}
use Rattle.mrt_exit.specs.AnswerSteps.{IsOne, Step, such, ◌▸◌}
use Rattle.mrt_exit.specs.declared.exit.Exit.{Exit}
use Rattle.mrt_exit.specs.declared.exit.Exit.TheVariants as exits
use Rattle.mrt_exit.specs.declared.exit.What.{What}
use Rattle.mrt_exit.specs.declared.exit.What.TheVariants.{CertificateFile, DatabaseFile, ProfileFile}
use Rattle.mrt_exit.proofs.Stepping.{one_such, one_then_one, one_value, one_value_or_exit}
use Rattle.mrt_args.specs.Files.{certificate_limit, database_limit, profile_limit}
use Rattle.mrt_answer.specs.Forms.{certified}
use Rattle.mrt_answer.specs.Input.{Input, area as area_of}
use Rattle.mrt_answer.specs.Islands.{island_in, place_of}
use Rattle.mrt_answer.specs.Reading.{certificate_of, input_of}
use Rattle.mrt_answer.specs.Texts.{IsComputed, IsComputedFile, judged}
use Rattle.mrt_answer.proofs.OneAnswer.{RuleLaws, one_judged, one_place_of}
use Rattle.mrt_answer.proofs.OneProxy.{accepted_for}
use Rattle.mrt_answer.proofs.OneReading.{CertLaws, one_certificate_of}
use Rattle.mrt_answer.proofs.OneTable.{TableLaws, one_list}
use Rattle.mrt_calls.specs.Areas.{area_within, files_within, input_in, unreserved, within}
use Rattle.mrt_calls.specs.Proxies.{ArePairRows, IsOutHop, IsPairRow, between, differing, from_first, hops_at, pair_step, proxied_pairs, proxies_in, refused_row}
use Rattle.mrt_calls.specs.RowNumbers.{hop_in, row_in}
use Rattle.mrt_calls.specs.Shapes.{IsShape, certified_in, shape_in}
use Rattle.mrt_calls.specs.TableRows.{AreTableRows, IsTheRow, TableFooting, other_place, parts_on, row_for_in, row_of, rowed, table_in, tabled}
use Rattle.mrt_calls.specs.Verdicts.{checked_in, verdict_in, verdict_of_within, verdict_on, verdict_on_bytes, verdict_on_spelling}
use Rattle.mrt_calls.specs.declared.area.MrtArea.{MrtArea}
use Rattle.mrt_calls.specs.declared.check.MrtVerdict.{MrtVerdict}
use Rattle.mrt_calls.specs.declared.proxy.MrtPair.{MrtPair}
use Rattle.mrt_calls.specs.declared.proxy.MrtProxyRow.{MrtProxyRow}
use Rattle.mrt_calls.specs.declared.row.MrtHop.{MrtHop}
use Rattle.mrt_calls.specs.declared.row.MrtRow.{MrtRow}
use Rattle.mrt_calls.specs.declared.shape.MrtIsland.{MrtIsland}
use Rattle.mrt_calls.proofs.Names.{one_name}

-- the laws of the layers below on what an area holds
pub record ReadLaws : Type 0 where
  pub input : (database profile : List ℕ) → IsOne (input_of database profile)
  pub island : (database profile : List ℕ) (input : Input) → input_of database profile (Ok input) → (router : ℕ) → IsOne (island_in input router)
  pub area : (database profile : List ℕ) (input : Input) → input_of database profile (Ok input) → (router : ℕ) (island : Island)
      → island_in input router (Ok island) → IsArea (area_of input)
  pub nodes : (database profile : List ℕ) (input : Input) → input_of database profile (Ok input) → (router : ℕ) (island : Island)
      → island_in input router (Ok island) → IsStrictlySortedBy node_id_cmp island.graph.ids
  pub graph : (database profile : List ℕ) (input : Input) → input_of database profile (Ok input) → (router : ℕ) (island : Island)
      → island_in input router (Ok island) → IsTopology island.graph
  pub file : (database profile : List ℕ) (input : Input) → input_of database profile (Ok input) → (router : ℕ) (island : Island)
      → island_in input router (Ok island) → (file other : CertFile) → IsComputedFile island.graph island.root file
      → IsComputedFile island.graph island.root other → file ≡ other

-- and on rows
pub record RowLaws : Type 0 where
  pub row : (parts : TableParts) (to : ℕ) (row other : TableRow) → IsArea parts.area → IsTopology parts.island → IsTableRow parts to row
      → IsTableRow parts to other → row ≡ other
  pub hop : (g : Topology) (s link : ℕ) (hop other : HopTo) → IsLinkHop g s link hop → IsLinkHop g s link other → hop ≡ other
  pub tables : TableLaws
  pub proxies : (g : Topology) (c : Certificate) (a b : ℕ) (entries others : List ProxyRow) → IsTopology g → IsAcceptedFor g c
      → AreProxyRows g c a b entries → AreProxyRows g c a b others → entries ≡ others
  pub related : (g : Topology) (c : Certificate) (a b : ℕ) (entries : List ProxyRow) → IsTopology g → IsAcceptedFor g c
      → AreProxyRows g c a b entries → are_unrelated c a b ≡ true → ⊥

pub record Laws : Type 0 where
  pub read : ReadLaws
  pub rows : RowLaws
  pub rules : RuleLaws
  pub certs : CertLaws

-- ---- the area

one_limit : (what : What) (limit : ℕ) (bytes : List ℕ) → IsOne (within what limit bytes)
one_limit what limit bytes = one_value_or_exit (within what limit bytes) (λ x y one two. refl) same never
  where
    same : (e d : Exit) → within what limit bytes (Err e) → within what limit bytes (Err d) → e ≡ d
    same (exits.TooLarge kind size) (exits.TooLarge kind' size') one two =
        let kinds : kind ≡ kind' = one.1 ∙ sym two.1 in
        let sizes : size ≡ size' = one.2 ∙ sym two.2 in
        λ i. exits.TooLarge (kinds i) (sizes i)
    same (exits.TooLarge kind size) d one two = absurd two
    same e d one two = absurd one

    never : (x : _) (e : Exit) → within what limit bytes (Ok x) → within what limit bytes (Err e) → ⊥
    never x (exits.TooLarge kind size) one two = omega (arith, one, two.0)
    never x e one two = two

one_unreserved : (area : MrtArea) → IsOne (unreserved area)
one_unreserved area = one_value_or_exit (unreserved area) (λ x y one two. refl) same never
  where
    same : (e d : Exit) → unreserved area (Err e) → unreserved area (Err d) → e ≡ d
    same exits.Usage exits.Usage one two = refl
    same exits.Usage d one two = absurd two
    same e d one two = absurd one

    never : (x : _) (e : Exit) → unreserved area (Ok x) → unreserved area (Err e) → ⊥
    never x exits.Usage one two = two one
    never x e one two = two

one_within : (area : MrtArea) → IsOne (area_within area)
one_within area =
    one_then_one (unreserved area) (λ done. files_within area) (one_unreserved area) (λ done on.
    one_then_one (within DatabaseFile database_limit area.lsas.data.now) (λ done. within ProfileFile profile_limit area.profile.data.now)
    (one_limit DatabaseFile database_limit area.lsas.data.now) (λ done on. one_limit ProfileFile profile_limit area.profile.data.now))

-- the input of an area, and then what comes of it
in_area : ReadLaws → {A : Type 0} (area : MrtArea) (next : Input → Step A)
    → ((input : Input) → input_of area.lsas.data.now area.profile.data.now (Ok input) → IsOne (next input)) → IsOne (input_in area ▸ next)
in_area laws area next one =
    one_then_one (input_in area) next
    (one_then_one (area_within area) (λ done. input_of area.lsas.data.now area.profile.data.now) (one_within area)
    (λ done on. laws.input area.lsas.data.now area.profile.data.now))
    (λ input on. one input on.2)

-- ---- places

one_other : (ids : List NodeId) → IsStrictlySortedBy node_id_cmp ids → (router kind number : ℕ) → IsOne (other_place ids router kind number)
one_other ids ascend router kind number = one_value_or_exit (other_place ids router kind number) values same never
  where
    values : (a b : ℕ) → other_place ids router kind number (Ok a) → other_place ids router kind number (Ok b) → a ≡ b
    values a b one two =
        let ids_same : one.0 ≡ two.0 = one_name one.0 two.0 kind number one.2 two.2 in
        one_place ids a b two.0 ascend (subst (λ (id : NodeId). slice_get ids a ≡ Some id) ids_same one.1) two.1

    same : (e d : Exit) → other_place ids router kind number (Err e) → other_place ids router kind number (Err d) → e ≡ d
    same (exits.NotThere missing) (exits.NotThere other) one two = ap exits.NotThere (one.0 ∙ sym two.0)
    same (exits.NotThere missing) d one two = absurd two
    same e d one two = absurd one

    never : (a : ℕ) (e : Exit) → other_place ids router kind number (Ok a) → other_place ids router kind number (Err e) → ⊥
    never a (exits.NotThere missing) one two = one.3 (two.1 a one.0 one.1 one.2)
    never a e one two = two

-- ---- rows for prefixes

never_both : (row : MrtProxyRow) (e : Exit) → ◌≡◌ {A = Result MrtProxyRow Exit} (Ok row) (Err e) → ⊥
never_both row e same = cc

same_exit : (e d : Exit) → ◌≡◌ {A = Result MrtProxyRow Exit} (Err e) (Err d) → e ≡ d
same_exit e d same = cc

one_differing : (pair : MrtPair) → IsOne (differing pair)
one_differing pair = one_value_or_exit (differing pair) (λ x y one two. refl) same never
  where
    same : (e d : Exit) → differing pair (Err e) → differing pair (Err d) → e ≡ d
    same exits.Usage exits.Usage one two = refl
    same exits.Usage d one two = absurd two
    same e d one two = absurd one

    never : (x : _) (e : Exit) → differing pair (Ok x) → differing pair (Err e) → ⊥
    never x exits.Usage one two = one two
    never x e one two = two

one_out : RowLaws → (g : Topology) (s : ℕ) (out : Out) (one other : MrtHop) → IsOutHop g s out one → IsOutHop g s out other → one ≡ other
one_out laws g s (Link e) one other (over, is, same) (over', is', same') = same ∙ ap hop_in (laws.hop g s e over over' is is') ∙ sym same'
one_out laws g s Attached one other same same' = same ∙ sym same'

module _ (laws : RowLaws) (g : Topology) (root : ℕ) (graph : IsTopology g)
    (one_file : (file other : CertFile) → IsComputedFile g root file → IsComputedFile g root other → file ≡ other) where
  one_hops : (source a b : ℕ) → IsOne (hops_at g root source a b)
  one_hops source a b = one_value_or_exit (hops_at g root source a b) values same never
    where
      values : (row other : MrtProxyRow) → hops_at g root source a b (Ok row) → hops_at g root source a b (Ok other) → row ≡ other
      values row other one two =
          let file : one.file ≡ two.file = one_file one.file two.file one.certificate two.certificate in
          let entries : one.entries ≡ two.entries =
          laws.proxies g two.file.cert a b one.entries two.entries graph (accepted_for g root two.file two.certificate)
          (subst (λ (f : CertFile). AreProxyRows g f.cert a b one.entries) file one.entries_are) two.entries_are in
          let entry : one.entry ≡ two.entry =
          same_Some one.entry two.entry (sym one.entry_is ∙ ap (λ (xs : List ProxyRow). slice_get xs source) entries ∙ two.entry_is) in
          let blue : row.blue ≡ other.blue =
          one_out laws g source two.entry.blue row.blue other.blue (subst (λ (x : ProxyRow). IsOutHop g source x.blue row.blue) entry one.blue_is) two.blue_is in
          let red : row.red ≡ other.red =
          one_out laws g source two.entry.red row.red other.red (subst (λ (x : ProxyRow). IsOutHop g source x.red row.red) entry one.red_is) two.red_is in
          let status : row.status ≡ other.status = one.done.0 ∙ sym two.done.0 in
          let at : row.at ≡ other.at = one.done.1 ∙ sym two.done.1 in
          let reserved_1 : row.reserved_1 ≡ other.reserved_1 = one.done.2 ∙ sym two.done.2 in
          let reserved_2 : row.reserved_2 ≡ other.reserved_2 = one.done.3 ∙ sym two.done.3 in
          λ i. record { status = status i; at = at i; blue = blue i; red = red i; reserved_1 = reserved_1 i; reserved_2 = reserved_2 i }

      same : (e d : Exit) → hops_at g root source a b (Err e) → hops_at g root source a b (Err d) → e ≡ d
      same exits.NoCommonBlock exits.NoCommonBlock one two = refl
      same exits.NoCommonBlock d one two = absurd two
      same e d one two = absurd one

      never : (row : MrtProxyRow) (e : Exit) → hops_at g root source a b (Ok row) → hops_at g root source a b (Err e) → ⊥
      never row exits.NoCommonBlock one two =
          laws.related g two.0.cert a b one.entries graph (accepted_for g root two.0 two.1)
          (subst (λ (f : CertFile). AreProxyRows g f.cert a b one.entries) (one_file one.file two.0 one.certificate two.1) one.entries_are) two.2
      never row e one two = two

  module _ (ascend : IsStrictlySortedBy node_id_cmp g.ids) (source : ℕ) where
    one_step : (pair : MrtPair) → IsOne (pair_step g root source pair)
    one_step pair =
        one_then_one (differing pair) (λ done. between g root source pair) (one_differing pair) (λ done on.
        one_then_one (place_of g.ids pair.first) (from_first g root source pair) (one_place_of g.ids ascend pair.first) (λ a at.
        one_then_one (place_of g.ids pair.second) (hops_at g root source a) (one_place_of g.ids ascend pair.second) (λ b at'. one_hops source a b)))

    one_pair_row : (pair : MrtPair) (row other : MrtProxyRow) → IsPairRow g root source pair row → IsPairRow g root source pair other → row ≡ other
    one_pair_row pair row other (inl one) (inl two) = one_value (pair_step g root source pair) (one_step pair) row other one two
    one_pair_row pair row other (inl one) (inr (e, two, is)) = absurd (never_both row e (one_step pair (Ok row) (Err e) one two))
    one_pair_row pair row other (inr (e, one, is)) (inl two) = absurd (never_both other e (one_step pair (Ok other) (Err e) two one))
    one_pair_row pair row other (inr (e, one, is)) (inr (d, two, is')) = is ∙ ap refused_row (same_exit e d (one_step pair (Err e) (Err d) one two)) ∙ sym is'

-- ---- the calls

module _ (laws : Laws) (database profile : List ℕ) (input : Input) (given : input_of database profile (Ok input)) where
  -- a router's island, and then what comes of it
  in_island : {A : Type 0} (router : ℕ) (next : Island → Step A) → ((island : Island) → island_in input router (Ok island) → IsOne (next island))
      → IsOne (island_in input router ▸ next)
  in_island router next one = one_then_one (island_in input router) next (laws.read.island database profile input given router) one

  module _ (router : ℕ) (island : Island) (is : island_in input router (Ok island)) where
    one_text : (text other : List ℕ) → IsComputed island.graph island.root text → IsComputed island.graph island.root other → text ≡ other
    one_text text other one two =
        one.spelled.spelled
        ∙ ap (λ (f : CertFile). cert_text f) (laws.read.file database profile input given router island is one.file two.file one.certificate two.certificate)
        ∙ sym two.spelled.spelled

    one_shape : (shape other : MrtIsland) → IsShape island shape → IsShape island other → shape ≡ other
    one_shape shape other one two =
        let ids : one.root_id ≡ two.root_id = same_Some one.root_id two.root_id (sym one.root_is ∙ two.root_is) in
        let root : shape.root ≡ other.root = one.root ∙ ap (λ (id : NodeId). id.number) ids ∙ sym two.root in
        let nodes : shape.nodes ≡ other.nodes = one.nodes ∙ sym two.nodes in
        let links : shape.links ≡ other.links = one.links ∙ sym two.links in
        let certificate : shape.certificate ≡ other.certificate =
        one.certificate ∙ ap (λ (xs : List ℕ). length xs) (one_text one.text two.text one.computed two.computed) ∙ sym two.certificate in
        let reserved_1 : shape.reserved_1 ≡ other.reserved_1 = one.reserved_1 ∙ sym two.reserved_1 in
        let reserved_2 : shape.reserved_2 ≡ other.reserved_2 = one.reserved_2 ∙ sym two.reserved_2 in
        λ i. record { root = root i; nodes = nodes i; links = links i; reserved_1 = reserved_1 i; certificate = certificate i; reserved_2 = reserved_2 i }

    one_source : (one two : TableFooting (area_of input) island router) → one.source ≡ two.source
    one_source one two =
        one_place island.graph.ids one.source two.source (router_node router) (laws.read.nodes database profile input given router island is) one.source_is two.source_is

    one_parts : (one two : TableFooting (area_of input) island router) → parts_on (area_of input) island router one ≡ parts_on (area_of input) island router two
    one_parts one two =
        let spot : one.spot ≡ two.spot =
        one_place (area_of input).ids one.spot two.spot (router_node router) (laws.read.area database profile input given router island is).ids_ascend one.spot_is two.spot_is in
        let file : one.file ≡ two.file = laws.read.file database profile input given router island is one.file two.file one.certificate two.certificate in
        let primaries : one.primaries ≡ two.primaries =
        one_list laws.rows.tables (area_of input) two.spot one.primaries two.primaries
        (subst (λ (n : ℕ). ArePrimaries (area_of input) n one.primaries) spot one.primaries_are) two.primaries_are in
        λ i. table_parts (area_of input) island.graph island.link_of ((file i).cert) (one_source one two i) (primaries i)

    same_row : (footing : TableFooting (area_of input) island router) (to : ℕ) (row other : TableRow)
        → IsTableRow (parts_on (area_of input) island router footing) to row → IsTableRow (parts_on (area_of input) island router footing) to other → row ≡ other
    same_row footing to row other =
        laws.rows.row (parts_on (area_of input) island router footing) to row other (laws.read.area database profile input given router island is)
        (laws.read.graph database profile input given router island is)

    one_table : (rows others' : List MrtRow) → AreTableRows (area_of input) island router rows → AreTableRows (area_of input) island router others' → rows ≡ others'
    one_table rows others' one two =
        let n = length island.graph.ids in
        let there : AllZip (IsTableRow (parts_on (area_of input) island router two.footing)) (others n two.footing.source) one.lines =
        subst (λ (p : TableParts). AllZip (IsTableRow p) (others n p.source) one.lines) (one_parts one.footing two.footing) one.lines_are in
        let lines : one.lines ≡ two.lines =
        one_zip (IsTableRow (parts_on (area_of input) island router two.footing)) (same_row two.footing) (others n two.footing.source) one.lines two.lines there two.lines_are in
        one.in_numbers ∙ ap (λ (xs : List TableRow). map row_in xs) lines ∙ sym two.in_numbers

    one_row : (to : ℕ) (row other : MrtRow) → IsTheRow (area_of input) island router to row → IsTheRow (area_of input) island router to other → row ≡ other
    one_row to row other one two =
        let there : IsTableRow (parts_on (area_of input) island router two.footing) to one.line =
        subst (λ (p : TableParts). IsTableRow p to one.line) (one_parts one.footing two.footing) one.line_is in
        one.in_numbers ∙ ap row_in (same_row two.footing to one.line two.line there two.line_is) ∙ sym two.in_numbers

    one_pairs : (pairs : List MrtPair) (rows others' : List MrtProxyRow) → ArePairRows island router pairs rows → ArePairRows island router pairs others'
        → rows ≡ others'
    one_pairs pairs rows others' one two =
        let ascend = laws.read.nodes database profile input given router island is in
        let source : one.source ≡ two.source =
        one_place island.graph.ids one.source two.source (router_node router) ascend one.source_is two.source_is in
        one_zip (IsPairRow island.graph island.root two.source)
        (one_pair_row laws.rows island.graph island.root (laws.read.graph database profile input given router island is)
        (laws.read.file database profile input given router island is) ascend two.source) pairs rows others'
        (subst (λ (n : ℕ). AllZip (IsPairRow island.graph island.root n) pairs rows) source one.rows_are) two.rows_are

module _ (laws : Laws) (area : MrtArea) where
  pub one_shape_in : (router : ℕ) → IsOne (shape_in area router)
  one_shape_in router = in_area laws.read area (λ input. island_in input router ▸ λ island. such (IsShape island)) (λ input given.
      in_island laws area.lsas.data.now area.profile.data.now input given router (λ island. such (IsShape island)) (λ island is.
      one_such (IsShape island) (one_shape laws area.lsas.data.now area.profile.data.now input given router island is)))

  pub one_certified_in : (router : ℕ) → IsOne (certified_in area router)
  one_certified_in router = in_area laws.read area (λ input. certified input router) (λ input given.
      in_island laws area.lsas.data.now area.profile.data.now input given router (λ island. such (IsComputed island.graph island.root)) (λ island is.
      one_such (IsComputed island.graph island.root) (one_text laws area.lsas.data.now area.profile.data.now input given router island is)))

  pub one_verdict_in : (bytes : List ℕ) → IsOne (verdict_in area bytes)
  one_verdict_in bytes =
      one_then_one (area_within area) (λ done. verdict_of_within area bytes) (one_within area) (λ done on.
      one_then_one (within CertificateFile certificate_limit bytes) (λ done. verdict_on_bytes area bytes) (one_limit CertificateFile certificate_limit bytes) (λ done on.
      one_then_one (input_of area.lsas.data.now area.profile.data.now) (λ input. verdict_on_spelling input bytes)
      (laws.read.input area.lsas.data.now area.profile.data.now) (λ input given.
      one_then_one (certificate_of bytes) (checked_in input) (one_certificate_of laws.certs bytes) (λ file read.
      in_island laws area.lsas.data.now area.profile.data.now input given file.root (λ island. verdict_on island file) (λ island is.
      let says = λ (verdict : MrtVerdict). verdict ≡ record { root = file.root; nodes = length island.graph.ids; links = length island.graph.links; reserved = 0 } in
      one_then_one (judged island.graph island.root file) (λ done. such says) (one_judged laws.rules island.graph island.root file)
      (λ done on. one_such says (λ verdict other one two. one ∙ sym two)))))))

  pub one_table_in : (router : ℕ) → IsOne (table_in area router)
  one_table_in router = in_area laws.read area (λ input. tabled input router) (λ input given.
      in_island laws area.lsas.data.now area.profile.data.now input given router (λ island. such (AreTableRows (area_of input) island router)) (λ island is.
      one_such (AreTableRows (area_of input) island router) (one_table laws area.lsas.data.now area.profile.data.now input given router island is)))

  pub one_row_for_in : (router kind number : ℕ) → IsOne (row_for_in area router kind number)
  one_row_for_in router kind number = in_area laws.read area (λ input. rowed input router kind number) (λ input given.
      in_island laws area.lsas.data.now area.profile.data.now input given router (λ island. row_of (area_of input) island router kind number) (λ island is.
      one_then_one (other_place island.graph.ids router kind number) (λ to. such (IsTheRow (area_of input) island router to))
      (one_other island.graph.ids (laws.read.nodes area.lsas.data.now area.profile.data.now input given router island is) router kind number)
      (λ to at. one_such (IsTheRow (area_of input) island router to) (one_row laws area.lsas.data.now area.profile.data.now input given router island is to))))

  pub one_proxies_in : (router : ℕ) (pairs : List MrtPair) → IsOne (proxies_in area router pairs)
  one_proxies_in router pairs = in_area laws.read area (λ input. proxied_pairs input router pairs) (λ input given.
      in_island laws area.lsas.data.now area.profile.data.now input given router (λ island. such (ArePairRows island router pairs)) (λ island is.
      one_such (ArePairRows island router pairs) (one_pairs laws area.lsas.data.now area.profile.data.now input given router island is pairs)))
