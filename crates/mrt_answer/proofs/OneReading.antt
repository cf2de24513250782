-- What the bytes of each file hold, they hold in one way, or they have one first fault, and never both.
use Rattle.std.proofs.Common.{◌≡◌, ◌∙◌, ◌≤◌, ◌+◌, ℕ, Bool, true, false, List, [], ◌∷◌, Option, Some, None, Ok, Err, refl, sym, ap, subst, arith}
use Rattle.std.specs.Option.{option_map_or}
use Rattle.cert_format.specs.CertText.{cert_text}
use Rattle.cert_format.specs.FirstFault.{first_fault}
use Rattle.cert_format.specs.Limits.{IsCertFile}
use Rattle.cert_format.specs.declared.error.CertKind.{CertKind}
use Rattle.lsdb.specs.Conflicts.{least_conflict}
use Rattle.lsdb.specs.Disagreements.{IsFirstConflictOf}
use Rattle.lsdb.specs.Entries.{entries_in}
use Rattle.lsdb.specs.Installing.{IsBehind}
use Rattle.lsdb.specs.Installs.{AreBehind}
use Rattle.lsdb.specs.Newest.{IsSettled}
use Rattle.lsdb.specs.Orders.{newest_in}
use Rattle.lsdb.specs.declared.change.Conflict.{Conflict as Clash}
use Rattle.mrt_graph.specs.declared.cert.CertFile.{CertFile}
use Rattle.mrt_island.specs.ProfileFaults.{AreSettings, IsFirstProfileFault}
use Rattle.mrt_island.specs.declared.profile_error.ProfileKind.{ProfileKind}
use Rattle.mrt_island.specs.declared.setting.Setting.{Setting}
use Rattle.ospf_lsa.specs.LsaText.{lsa_length, lsas_text}
use Rattle.ospf_lsa.specs.Lsas.{AreLsas}
use Rattle.ospf_lsa.specs.Outcome.{IsFirstLsaFault}
use Rattle.ospf_lsa.specs.declared.error.LsaKind.{LsaKind}
use Rattle.ospf_lsa.specs.declared.lsa.Lsa.{Lsa as Advertisement}
use Rattle.ospf_lsa.specs.AreaLsas.{is_area_lsa}
use Rattle.lsdb.specs.Database.{HoldsLsas, IsDatabase, entering}
use Rattle.mrt_answer.specs.Database.{IsBadDatabase}
use Rattle.mrt_args.specs.CertSpelling.{IsSpellingOf}
use Rattle.mrt_exit.specs.declared.exit.DbKind.{DbKind}
use Rattle.mrt_exit.specs.declared.exit.DbKind.TheVariants.{Lsa, Conflict}
use Rattle.mrt_exit.specs.declared.exit.Exit.{Exit}
use Rattle.mrt_exit.specs.declared.exit.Exit.TheVariants.{BadDatabase, BadProfile, BadCertificate, BadScript, BadUpdate}
use Rattle.mrt_exit.specs.AnswerSteps.{IsOne, such, ◌▸◌}
use Rattle.mrt_exit.proofs.Stepping.{one_such, one_then_one, one_value_or_exit}
use Rattle.text_parts.specs.TextLines.{text_lines}
use Rattle.mrt_answer.specs.Input.{Input}
use Rattle.mrt_answer.specs.Reading.{certificate_of, database_of, deliveries_of, input_of, profile_of, script_of, updates_of}
use Rattle.fabric_script.specs.declared.script.Script.{Script}
use Rattle.fabric_script.specs.ScriptFaults.{IsFirstScriptFault, IsScript}
use Rattle.flood.specs.declared.error.UpdateKind.{UpdateKind}
use Rattle.flood.specs.declared.update.Update.{Update}
use Rattle.flood.specs.UpdateOutcome.{IsFirstUpdateFault}
use Rattle.flood.specs.Updates.{AreUpdates}
use Rattle.flood.specs.declared.script.FloodScript.{FloodScript}
use Rattle.flood.specs.FloodScripts.{IsFirstFloodFault, IsScript as IsFloodScript}

-- what an option holds is one
pub held_once : {X : Type 0} (x y : X) (option : Option X) → option ≡ Some x → option ≡ Some y → x ≡ y
held_once x y option one two = ap (λ o. option_map_or (λ z. z) o x) (sym one ∙ two)

-- ---- databases

-- the laws of the layers below on bytes, on LSAs and on conflicts
pub record DatabaseLaws : Type 0 where
  pub never_both : (bytes : List ℕ) (lsas : List Advertisement) (at : ℕ) (kind : LsaKind) → AreLsas 0 lsas
      → bytes ≡ lsas_text lsas → IsFirstLsaFault bytes at kind → ⊥
  pub one_list : (bytes : List ℕ) (lsas others : List Advertisement) → AreLsas 0 lsas → bytes ≡ lsas_text lsas
      → AreLsas 0 others → bytes ≡ lsas_text others
      → lsas ≡ others
  pub one_fault : (bytes : List ℕ) (at place : ℕ) (kind other : LsaKind) → IsFirstLsaFault bytes at kind
      → IsFirstLsaFault bytes place other
      → (at ≡ place) × (kind ≡ other)
  pub settled : (lsas : List Advertisement) → IsSettled lsas → least_conflict (entries_in lsas) ≡ None
  pub only : (lsas : List Advertisement) (conflict : Clash) → AreBehind None lsas → IsFirstConflictOf lsas conflict
      → least_conflict (entries_in lsas) ≡ Some conflict

-- the places of LSAs that stand one after another rise, also without some of them
rising : (greatest : Option ℕ) (at : ℕ) (lsas : List Advertisement) → ((place : ℕ) → at ≤ place
    → IsBehind greatest place) → AreLsas at lsas
    → AreBehind greatest (entering lsas)
rising greatest at [] behind are = tt
rising greatest at (lsa ∷ rest) behind are =
    go (is_area_lsa lsa) refl (rising (Some lsa.at) (at + lsa_length lsa) rest (λ place le. omega (arith, are.0, le)) are.2)
    (rising greatest (at + lsa_length lsa) rest (λ place le. behind place (omega (arith, le))) are.2)
  where
    go : (b : Bool) → is_area_lsa lsa ≡ b → AreBehind (Some lsa.at) (entering rest) → AreBehind greatest (entering rest)
        → AreBehind greatest (entering (lsa ∷ rest))
    go true e after around = rw e (behind lsa.at (omega (arith, are.0)), after)
    go false e after around = rw e around

module _ (laws : DatabaseLaws) where
  one_list_held : (bytes : List ℕ) (lsas others : List Advertisement) → HoldsLsas bytes lsas
      → HoldsLsas bytes others → lsas ≡ others
  one_list_held bytes lsas others one other = laws.one_list bytes lsas others one.each one.spelled other.each
      other.spelled

  pub one_database : (bytes : List ℕ) (newest others : List Advertisement) → IsDatabase bytes newest
      → IsDatabase bytes others → newest ≡ others
  one_database bytes newest others one other =
      one.newest_ones ∙ ap (λ (lsas : List Advertisement). newest_in (entering lsas))
      (one_list_held bytes one.lsas other.lsas one.held other.held)
      ∙ sym other.newest_ones

  told_of : (bytes : List ℕ) (lsas : List Advertisement) (conflict : Clash) → HoldsLsas bytes lsas
      → IsFirstConflictOf (entering lsas) conflict
      → least_conflict (entries_in (entering lsas)) ≡ Some conflict
  told_of bytes lsas conflict held first = laws.only (entering lsas) conflict
      (rising None 0 lsas (λ place le. tt) held.each) first

  pub no_bad_database : (bytes : List ℕ) (newest : List Advertisement) (at : ℕ) (kind : DbKind)
      → IsDatabase bytes newest → IsBadDatabase bytes at kind → ⊥
  no_bad_database bytes newest at (Lsa kind) one bad = laws.never_both bytes one.lsas at kind one.held.each
      one.held.spelled bad
  no_bad_database bytes newest at (Conflict first) one bad =
      let same : one.lsas ≡ bad.0 = one_list_held bytes one.lsas bad.0 one.held bad.1 in
      let none : least_conflict (entries_in (entering bad.0)) ≡ None = laws.settled (entering bad.0)
      (subst (λ (lsas : List Advertisement). IsSettled (entering lsas)) same one.settled) in
      let some = told_of bytes bad.0 (record { first = first; second = at }) bad.1 bad.2 in
      absurd cc

  pub one_bad_database : (bytes : List ℕ) (at place : ℕ) (kind other : DbKind) → IsBadDatabase bytes at kind
      → IsBadDatabase bytes place other
      → (at ≡ place) × (kind ≡ other)
  one_bad_database bytes at place (Lsa kind) (Lsa other) one two =
      let same = laws.one_fault bytes at place kind other one two in
      (same.0, ap Lsa same.1)
  one_bad_database bytes at place (Lsa kind) (Conflict first) one two = absurd
      (laws.never_both bytes two.0 at kind two.1.each two.1.spelled one)
  one_bad_database bytes at place (Conflict first) (Lsa kind) one two = absurd
      (laws.never_both bytes one.0 place kind one.1.each one.1.spelled two)
  one_bad_database bytes at place (Conflict first) (Conflict former) one two =
      let same : one.0 ≡ two.0 = one_list_held bytes one.0 two.0 one.1 two.1 in
      let told : least_conflict (entries_in (entering two.0)) ≡ Some (record { first = first; second = at }) =
      subst (λ (lsas : List Advertisement). least_conflict (entries_in (entering lsas)) ≡ Some
      (record { first = first; second = at })) same
      (told_of bytes one.0 (record { first = first; second = at }) one.1 one.2) in
      let told_too = told_of bytes two.0 (record { first = former; second = place }) two.1 two.2 in
      let equal = held_once _ _ _ told told_too in
      (ap (λ (c : Clash). c.second) equal, ap (λ (c : Clash). Conflict c.first) equal)

-- ---- profiles

-- the laws of the layer below on the lines of a profile
pub record ProfileLaws : Type 0 where
  pub never_both : (lines : List (List ℕ)) (settings : List Setting) (line : ℕ) (kind : ProfileKind)
      → AreSettings lines settings → IsFirstProfileFault lines line kind → ⊥
  pub one_list : (lines : List (List ℕ)) (settings others : List Setting) → AreSettings lines settings
      → AreSettings lines others → settings ≡ others
  pub one_fault : (lines : List (List ℕ)) (line number : ℕ) (kind other : ProfileKind) → IsFirstProfileFault lines line kind
      → IsFirstProfileFault lines number other → (line ≡ number) × (kind ≡ other)

-- ---- certificates

pub record CertLaws : Type 0 where
  pub one : (f g : CertFile) → IsCertFile f → IsCertFile g → cert_text f ≡ cert_text g → f ≡ g
  pub faultless : (f : CertFile) → IsCertFile f → first_fault (cert_text f) ≡ None

pub no_bad_cert : CertLaws → (bytes : List ℕ) (file : CertFile) (fault : ℕ × CertKind) → IsSpellingOf bytes file
    → first_fault bytes ≡ Some fault → ⊥
no_bad_cert laws bytes file fault one some =
    let none : first_fault bytes ≡ None = ap first_fault one.spelled ∙ laws.faultless file one.within in
    absurd cc

pub one_cert : CertLaws → (bytes : List ℕ) (file other : CertFile) → IsSpellingOf bytes file → IsSpellingOf bytes other
    → file ≡ other
one_cert laws bytes file other one two = laws.one file other one.within two.within (sym one.spelled ∙ two.spelled)

-- ---- each file

module _ (databases : DatabaseLaws) (profiles : ProfileLaws) where
  pub one_database_of : (bytes : List ℕ) → IsOne (database_of bytes)
  one_database_of bytes = one_value_or_exit (database_of bytes) (one_database databases bytes) exits no
    where
      exits : (e d : Exit) → database_of bytes (Err e) → database_of bytes (Err d) → e ≡ d
      exits (BadDatabase at kind) (BadDatabase place other) one two =
          let same = one_bad_database databases bytes at place kind other one two in
          λ i. BadDatabase (same.0 i) (same.1 i)
      exits (BadDatabase at kind) d one two = absurd two
      exits e d one two = absurd one

      no : (newest : List Advertisement) (e : Exit) → database_of bytes (Ok newest) → database_of bytes (Err e) → ⊥
      no newest (BadDatabase at kind) one two = no_bad_database databases bytes newest at kind one two
      no newest e one two = two

  pub one_profile_of : (bytes : List ℕ) → IsOne (profile_of bytes)
  one_profile_of bytes = one_value_or_exit (profile_of bytes) (profiles.one_list (text_lines bytes)) exits no
    where
      exits : (e d : Exit) → profile_of bytes (Err e) → profile_of bytes (Err d) → e ≡ d
      exits (BadProfile line kind) (BadProfile number other) one two =
          let same = profiles.one_fault (text_lines bytes) line number kind other one two in
          λ i. BadProfile (same.0 i) (same.1 i)
      exits (BadProfile line kind) d one two = absurd two
      exits e d one two = absurd one

      no : (settings : List Setting) (e : Exit) → profile_of bytes (Ok settings) → profile_of bytes (Err e) → ⊥
      no settings (BadProfile line kind) one two = profiles.never_both (text_lines bytes) settings line kind one two
      no settings e one two = two

  -- the two
  pub one_input_of : (database profile : List ℕ) → IsOne (input_of database profile)
  one_input_of database profile =
      one_then_one (database_of database)
      (λ newest. profile_of profile ▸ λ settings. such (λ input. input ≡ record { newest = newest; settings = settings })) (one_database_of database) (λ newest is.
      one_then_one (profile_of profile) (λ settings. such (λ input. input ≡ record { newest = newest; settings = settings })) (one_profile_of profile)
      (λ settings too. one_such (λ (input : Input). input ≡ record { newest = newest; settings = settings }) (λ one other a b. a ∙ sym b)))

pub one_certificate_of : CertLaws → (bytes : List ℕ) → IsOne (certificate_of bytes)
one_certificate_of laws bytes = one_value_or_exit (certificate_of bytes) (one_cert laws bytes) exits no
  where
    exits : (e d : Exit) → certificate_of bytes (Err e) → certificate_of bytes (Err d) → e ≡ d
    exits (BadCertificate at kind) (BadCertificate place other) one two =
        let same = held_once (at, kind) (place, other) (first_fault bytes) one two in
        λ i. BadCertificate (same i).0 (same i).1
    exits (BadCertificate at kind) d one two = absurd two
    exits e d one two = absurd one

    no : (file : CertFile) (e : Exit) → certificate_of bytes (Ok file) → certificate_of bytes (Err e) → ⊥
    no file (BadCertificate at kind) one two = no_bad_cert laws bytes file (at, kind) one two
    no file e one two = two

-- ---- scripts and packets

-- the laws of the layers below: a script of events, packets, or a script of deliveries
pub record ScriptLaws : Type 0 where
  pub never_both : (lines : List (List ℕ)) (script : Script) (number : ℕ) → IsScript lines script
      → IsFirstScriptFault lines number → ⊥
  pub one_script : (lines : List (List ℕ)) (script other : Script) → IsScript lines script → IsScript lines other
      → script ≡ other
  pub one_fault : (lines : List (List ℕ)) (number other : ℕ) → IsFirstScriptFault lines number
      → IsFirstScriptFault lines other → number ≡ other

pub record UpdateLaws : Type 0 where
  pub never_both : (bytes : List ℕ) (updates : List Update) (at : ℕ) (kind : UpdateKind) → AreUpdates 0 bytes updates []
      → IsFirstUpdateFault bytes at kind → ⊥
  pub one_list : (bytes : List ℕ) (updates others : List Update) → AreUpdates 0 bytes updates []
      → AreUpdates 0 bytes others [] → updates ≡ others
  pub one_fault : (bytes : List ℕ) (at place : ℕ) (kind other : UpdateKind) → IsFirstUpdateFault bytes at kind
      → IsFirstUpdateFault bytes place other → (at ≡ place) × (kind ≡ other)

pub record DeliveryLaws : Type 0 where
  pub never_both : (lines : List (List ℕ)) (script : FloodScript) (number : ℕ) → IsFloodScript lines script
      → IsFirstFloodFault lines number → ⊥
  pub one_script : (lines : List (List ℕ)) (script other : FloodScript) → IsFloodScript lines script
      → IsFloodScript lines other → script ≡ other
  pub one_fault : (lines : List (List ℕ)) (number other : ℕ) → IsFirstFloodFault lines number
      → IsFirstFloodFault lines other → number ≡ other

pub one_script_of : ScriptLaws → (bytes : List ℕ) → IsOne (script_of bytes)
one_script_of laws bytes = one_value_or_exit (script_of bytes) (laws.one_script (text_lines bytes)) exits no
  where
    exits : (e d : Exit) → script_of bytes (Err e) → script_of bytes (Err d) → e ≡ d
    exits (BadScript line) (BadScript number) one two = ap BadScript (laws.one_fault (text_lines bytes) line number one two)
    exits (BadScript line) d one two = absurd two
    exits e d one two = absurd one

    no : (script : Script) (e : Exit) → script_of bytes (Ok script) → script_of bytes (Err e) → ⊥
    no script (BadScript line) one two = laws.never_both (text_lines bytes) script line one two
    no script e one two = two

pub one_updates_of : UpdateLaws → (bytes : List ℕ) → IsOne (updates_of bytes)
one_updates_of laws bytes = one_value_or_exit (updates_of bytes) (laws.one_list bytes) exits no
  where
    exits : (e d : Exit) → updates_of bytes (Err e) → updates_of bytes (Err d) → e ≡ d
    exits (BadUpdate at kind) (BadUpdate place other) one two =
        let same = laws.one_fault bytes at place kind other one two in
        λ i. BadUpdate (same.0 i) (same.1 i)
    exits (BadUpdate at kind) d one two = absurd two
    exits e d one two = absurd one

    no : (updates : List Update) (e : Exit) → updates_of bytes (Ok updates) → updates_of bytes (Err e) → ⊥
    no updates (BadUpdate at kind) one two = laws.never_both bytes updates at kind one two
    no updates e one two = two

pub one_deliveries_of : DeliveryLaws → (bytes : List ℕ) → IsOne (deliveries_of bytes)
one_deliveries_of laws bytes = one_value_or_exit (deliveries_of bytes) (laws.one_script (text_lines bytes)) exits no
  where
    exits : (e d : Exit) → deliveries_of bytes (Err e) → deliveries_of bytes (Err d) → e ≡ d
    exits (BadScript line) (BadScript number) one two = ap BadScript (laws.one_fault (text_lines bytes) line number one two)
    exits (BadScript line) d one two = absurd two
    exits e d one two = absurd one

    no : (script : FloodScript) (e : Exit) → deliveries_of bytes (Ok script) → deliveries_of bytes (Err e) → ⊥
    no script (BadScript line) one two = laws.never_both (text_lines bytes) script line one two
    no script e one two = two
