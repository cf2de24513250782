-- The routers of a network have one certificate.
use Rattle.std.proofs.Common.{◌≡◌, ◌∙◌, ◌⊎◌, ℕ, List, Ok, inl, inr, sym, ap, subst}
use Rattle.std.specs.Prelude.{Contains}
use Rattle.std.specs.List.{AllByRecursion}
use Rattle.area_graph.specs.AreaInvariant.{IsArea}
use Rattle.area_graph.specs.AreaOf.{area_of as area_of_lsas}
use Rattle.area_graph.specs.LiveLsas.{HoldTheSameLive}
use Rattle.area_graph.specs.Parts.{AreaParts}
use Rattle.area_graph.specs.Ranges.{FitsBond}
use Rattle.cert_format.specs.CertText.{cert_text}
use Rattle.lsdb.specs.Database.{IsDatabase, entering}
use Rattle.lsdb.specs.Installing.{IsKept}
use Rattle.lsdb.specs.Instances.{DifferInMaxAge, HoldTheSameButAge, HoldTheSameInstances}
use Rattle.lsdb.specs.Orders.{newest_in}
use Rattle.mrt_graph.specs.NodeIds.{router as router_node}
use Rattle.text_parts.specs.TextLines.{text_lines}
use Rattle.mrt_graph.specs.declared.cert.CertFile.{CertFile}
use Rattle.mrt_island.specs.Policy.{policy_of}
use Rattle.mrt_island.specs.declared.island.Island.{Island}
use Rattle.mrt_island.specs.declared.setting.Setting.{Setting}
use Rattle.ospf_lsa.specs.declared.lsa.Lsa.{Lsa}
use Rattle.mrt_exit.proofs.Stepping.{one_value}
use Rattle.mrt_args.specs.CertSpelling.{IsSpellingOf}
use Rattle.mrt_args.specs.FileBytes.{FileBytes}
use Rattle.mrt_args.specs.declared.task.RouterTask.TheVariants.{Certify, Table}
use Rattle.mrt_args.specs.declared.task.Task.TheVariants.{OfRouter}
use Rattle.mrt_answer.specs.Forms.{over, table_in}
use Rattle.mrt_answer.specs.Input.{Input, IsProfile, area, policy}
use Rattle.mrt_answer.specs.Islands.{area_of, island_in, island_of}
use Rattle.mrt_answer.specs.Network.{AreInOneIsland, AreOfOneNetwork, AreOfOneNetworkButMaxAge, IsTableBy}
use Rattle.mrt_answer.specs.Reading.{input_of}
use Rattle.mrt_answer.specs.Texts.{IsComputed, IsComputedFile}
use Rattle.mrt_answer.proofs.CertifiedPasses.{EachRouterLaw}
use Rattle.mrt_answer.proofs.Islands.{root_within}
use Rattle.mrt_answer.proofs.OneAnswer.{AreaLaws, all_stand, area_kept, bonds_kept}
use Rattle.mrt_answer.proofs.OneReading.{DatabaseLaws, ProfileLaws, one_input_of}
use Rattle.mrt_answer.proofs.OneTable.{CertificateLaw, IslandLaw}

-- the laws of the layers below
pub record NetworkLaws : Type 0 where
  pub databases : DatabaseLaws
  pub profiles : ProfileLaws
  pub areas : AreaLaws
  pub same : (lsas others : List Lsa) → AllByRecursion IsKept lsas → HoldTheSameLive (newest_in lsas) (newest_in others)
      → area_of_lsas (newest_in lsas) ≡ area_of_lsas (newest_in others)
  pub live : (lsas others : List Lsa) → HoldTheSameInstances lsas others → HoldTheSameLive lsas others
  pub differ : (lsas others : List Lsa) → HoldTheSameButAge lsas others → HoldTheSameInstances lsas others ⊎ DifferInMaxAge lsas others
  pub islands : IslandLaw
  pub each : EachRouterLaw
  pub certificates : CertificateLaw

-- what an input is of
held_database : (database profile : List ℕ) (input : Input) → input_of database profile (Ok input) → IsDatabase database input.newest
held_database database profile input (newest, is, (settings, said, same)) = subst (λ (i : Input). IsDatabase database i.newest) (sym same) is

held_profile : (database profile : List ℕ) (input : Input) → input_of database profile (Ok input) → IsProfile profile input.settings
held_profile database profile input (newest, is, (settings, said, same)) = subst (λ (i : Input). IsProfile profile i.settings) (sym same) said

-- inputs with one area and one profile have the same islands
moved_island : (input other : Input) → area input ≡ area other → input.settings ≡ other.settings → (router : ℕ) (island : Island)
    → island_in input router (Ok island) → island_in other router (Ok island)
moved_island input other same settings router island (of, is, its) = (
  of,
  (is.0 ∙ same, is.1),
  subst (λ (said : List Setting). island_of (policy_of said) of router (Ok island)) settings its,
)

-- what holds of the area of an input
abbrev KeepsArea : Input → Type 0
KeepsArea input = (of : AreaParts) → area_of input.newest (Ok of) → IsArea of

module _ (laws : NetworkLaws) where
  -- ---- over one input

  -- an island is that of each router in it
  own_island : (input : Input) → KeepsArea input → (router second : ℕ) (island : Island) → island_in input router (Ok island)
      → Contains island.graph.ids (router_node second) → island_in input second (Ok island)
  own_island input kept router second island (of, is, its) inside =
      (of, is, laws.each (policy input) of router second island.graph island.root island.link_of (kept of is) its inside)

  -- a router has one
  same_island : (input : Input) → KeepsArea input → (router : ℕ) (one two : Island) → island_in input router (Ok one)
      → island_in input router (Ok two) → one ≡ two
  same_island input kept router one two (of, is, its) (of', is', its') =
      let moved : island_of (policy input) of router (Ok two) =
      subst (λ (a : AreaParts). island_of (policy input) a router (Ok two)) (is'.0 ∙ sym is.0) its' in
      let same = laws.islands (policy input) of router one.graph two.graph one.root two.root one.link_of two.link_of (kept of is) its moved in
      λ i. record { graph = same.0 i; root = same.1 i; link_of = same.2 i }

  -- and that one certificate
  same_file : (input : Input) → KeepsArea input → AllByRecursion FitsBond (area input).bonds → (router : ℕ) (island : Island)
      → island_in input router (Ok island) → (file second : CertFile)
      → IsComputedFile island.graph island.root file → IsComputedFile island.graph island.root second → file ≡ second
  same_file input kept fit router island (of, is, its) file second one two =
      laws.certificates island.graph island.root file second
      (laws.areas.graph (policy input) of router island.graph island.root island.link_of (kept of is)
      (subst (λ (a : AreaParts). AllByRecursion FitsBond a.bonds) (sym is.0) fit) its)
      (root_within (policy input) of router island.graph island.root island.link_of its) one.computed two.computed

  kept_of : (bytes : FileBytes) (input : Input) → input_of bytes.first bytes.profile (Ok input) → KeepsArea input
  kept_of bytes input held = area_kept laws.areas bytes.first bytes.profile input held

  fit_of : (bytes : FileBytes) (input : Input) → input_of bytes.first bytes.profile (Ok input) → AllByRecursion FitsBond (area input).bonds
  fit_of bytes input held = bonds_kept laws.areas bytes.first bytes.profile input held

  same_input : (bytes : FileBytes) (input read : Input) → input_of bytes.first bytes.profile (Ok input) → input_of bytes.first bytes.profile (Ok read)
      → read ≡ input
  same_input bytes input read held given =
      one_value (input_of bytes.first bytes.profile) (one_input_of laws.databases laws.profiles bytes.first bytes.profile) read input given held

  -- what is certified for a router is the certificate of its island
  certified_by : (bytes : FileBytes) (input : Input) → input_of bytes.first bytes.profile (Ok input) → (router : ℕ) (island : Island)
      → island_in input router (Ok island) → (text : List ℕ) → over (OfRouter (Certify router)) bytes (Ok text)
      → IsComputed island.graph island.root text
  certified_by bytes input held router island its text (read, given, (found, found_its, computed)) =
      let there : island_in input router (Ok found) =
      subst (λ (i : Input). island_in i router (Ok found)) (same_input bytes input read held given) found_its in
      subst (λ (i : Island). IsComputed i.graph i.root text)
      (same_island input (kept_of bytes input held) router found island there its) computed

  -- and its table is that in its island
  tabled_by : (bytes : FileBytes) (input : Input) → input_of bytes.first bytes.profile (Ok input) → (router : ℕ) (island : Island)
      → island_in input router (Ok island) → (table : List ℕ) → over (OfRouter (Table router)) bytes (Ok table)
      → table_in (area input) island router (Ok table)
  tabled_by bytes input held router island its table (read, given, (found, found_its, said)) =
      let same = same_input bytes input read held given in
      let there : island_in input router (Ok found) = subst (λ (i : Input). island_in i router (Ok found)) same found_its in
      let moved : table_in (area input) found router (Ok table) = subst (λ (i : Input). table_in (area i) found router (Ok table)) same said in
      subst (λ (i : Island). table_in (area input) i router (Ok table))
      (same_island input (kept_of bytes input held) router found island there its) moved

  -- ---- over two

  pub one_area : (one other : FileBytes) (network : AreOfOneNetwork one other) → area network.input ≡ area network.other_input
  one_area one other network =
      let mine = held_database one.first one.profile network.input network.held in
      let theirs = held_database other.first other.profile network.other_input network.other_held in
      let same : HoldTheSameLive (newest_in (entering mine.lsas)) (newest_in (entering theirs.lsas)) =
      subst (λ (lsas : List Lsa). HoldTheSameLive lsas (newest_in (entering theirs.lsas))) mine.newest_ones
      (subst (λ (lsas : List Lsa). HoldTheSameLive network.input.newest lsas) theirs.newest_ones network.databases) in
      ap area_of_lsas mine.newest_ones
      ∙ laws.same (entering mine.lsas) (entering theirs.lsas) (all_stand laws.areas 0 mine.lsas mine.held.each) same
      ∙ sym (ap area_of_lsas theirs.newest_ones)

  one_profile : (one other : FileBytes) (network : AreOfOneNetwork one other) → network.input.settings ≡ network.other_input.settings
  one_profile one other network =
      laws.profiles.one_list (text_lines other.profile) network.input.settings network.other_input.settings
      (subst (λ (bytes : List ℕ). IsProfile bytes network.input.settings) network.profiles
      (held_profile one.first one.profile network.input network.held))
      (held_profile other.first other.profile network.other_input network.other_held)

  pub one_island : (one other : FileBytes) (network : AreOfOneNetwork one other) (router second : ℕ)
      (both : AreInOneIsland network.input router second) → island_in network.other_input second (Ok both.island)
  one_island one other network router second both =
      moved_island network.input network.other_input (one_area one other network) (one_profile one other network) second both.island
      (own_island network.input (kept_of one network.input network.held) router second both.island both.its both.inside)

  pub no_other_island : (one other : FileBytes) (network : AreOfOneNetwork one other) (router second : ℕ)
      (both : AreInOneIsland network.input router second) (island : Island) → island_in network.other_input second (Ok island)
      → both.island ≡ island
  no_other_island one other network router second both island its =
      same_island network.other_input (kept_of other network.other_input network.other_held) second both.island island
      (one_island one other network router second both) its

  pub certificate_comes : (one other : FileBytes) (network : AreOfOneNetwork one other) (router second : ℕ)
      → AreInOneIsland network.input router second → (text : List ℕ) → over (OfRouter (Certify router)) one (Ok text)
      → over (OfRouter (Certify second)) other (Ok text)
  certificate_comes one other network router second both text said = (
    network.other_input,
    network.other_held,
    (
      both.island,
      one_island one other network router second both,
      certified_by one network.input network.held router both.island both.its text said,
    ),
  )

  pub same_certificate : (one other : FileBytes) (network : AreOfOneNetwork one other) (router second : ℕ)
      → AreInOneIsland network.input router second → (text others : List ℕ) → over (OfRouter (Certify router)) one (Ok text)
      → over (OfRouter (Certify second)) other (Ok others) → text ≡ others
  same_certificate one other network router second both text others said too =
      let mine = certified_by one network.input network.held router both.island both.its text said in
      let theirs = certified_by other network.other_input network.other_held second both.island (one_island one other network router second both) others too in
      mine.spelled.spelled
      ∙ ap (λ (f : CertFile). cert_text f)
      (same_file network.input (kept_of one network.input network.held) (fit_of one network.input network.held) router both.island both.its mine.file theirs.file mine.certificate theirs.certificate)
      ∙ sym theirs.spelled.spelled

  pub table_by : (one other : FileBytes) (network : AreOfOneNetwork one other) (router second : ℕ)
      (both : AreInOneIsland network.input router second) (text table : List ℕ) → over (OfRouter (Certify router)) one (Ok text)
      → over (OfRouter (Table second)) other (Ok table) → IsTableBy text (area network.other_input) both.island second table
  table_by one other network router second both text table said too =
      let mine = certified_by one network.input network.held router both.island both.its text said in
      let theirs = tabled_by other network.other_input network.other_held second both.island (one_island one other network router second both) table too in
      record {
        source = theirs.0;
        source_is = theirs.1;
        spot = theirs.2.0;
        spot_is = theirs.2.1;
        table = theirs.2.2;
        by = subst (λ (f : CertFile). IsSpellingOf text f)
            (same_file network.input (kept_of one network.input network.held) (fit_of one network.input network.held) router both.island both.its mine.file theirs.2.2.file mine.certificate theirs.2.2.certificate)
            mine.spelled;
      }

  pub or_max_age : (one other : FileBytes) (network : AreOfOneNetworkButMaxAge one other) (router second : ℕ)
      → AreInOneIsland network.input router second → (text others : List ℕ) → over (OfRouter (Certify router)) one (Ok text)
      → over (OfRouter (Certify second)) other (Ok others) → (text ≡ others) ⊎ DifferInMaxAge network.input.newest network.other_input.newest
  or_max_age one other network router second both text others said too = elim (laws.differ network.input.newest network.other_input.newest network.databases) [
    | inr differ ↦ inr differ
    | inl same ↦
        let agreeing : AreOfOneNetwork one other = record {
          input = network.input;
          held = network.held;
          other_input = network.other_input;
          other_held = network.other_held;
          databases = laws.live network.input.newest network.other_input.newest same;
          profiles = network.profiles;
        } in
        inl (same_certificate one other agreeing router second both text others said too)
  ]
