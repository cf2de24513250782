-- What a network that is made from a number comes to.
use Rattle.std.proofs.Common.{◌≡◌, ◌∙◌, ◌≤◌, ℕ, true, List, [], ◌∷◌, None, Result, Ok, Err, length, map, refl, sym, ap, subst, inl, inr}
use Rattle.std.specs.Prelude.{Contains, IfErr}
use Rattle.std.specs.List.{AllByRecursion}
use Rattle.area_graph.specs.AreaOf.{area_of as area_of_lsas}
use Rattle.area_graph.specs.AreaSize.{IsTooLarge}
use Rattle.mrt_graph.specs.NodeIds.{router as router_node}
use Rattle.lsdb.specs.Conflicts.{least_conflict}
use Rattle.lsdb.specs.Entries.{Entry, entries_in}
use Rattle.lsdb.specs.Installing.{IsKept}
use Rattle.lsdb.specs.Installs.{all_installed}
use Rattle.lsdb.specs.Newest.{IsSettled}
use Rattle.lsdb.specs.Orders.{newest_in}
use Rattle.mrt_island.specs.declared.setting.Setting.{Setting}
use Rattle.ospf_lsa.specs.LsaText.{lsas_text}
use Rattle.ospf_lsa.specs.Lsas.{AreLsas}
use Rattle.ospf_lsa.specs.declared.lsa.Lsa.{Lsa}
use Rattle.mrt_survey.specs.MadeLsas.{made_lsas}
use Rattle.mrt_exit.specs.declared.exit.DbKind.{DbKind}
use Rattle.mrt_exit.specs.declared.exit.Exit.{Exit}
use Rattle.mrt_exit.specs.declared.exit.Exit.TheVariants as exits
use Rattle.ospf_lsa.specs.AreaLsas.{is_area_lsa}
use Rattle.lsdb.specs.Database.{IsDatabase, entering}
use Rattle.mrt_answer.specs.Database.{IsBadDatabase}
use Rattle.mrt_args.specs.Form.{IsNetworkSize}
use Rattle.mrt_answer.specs.Input.{Input, area, policy}
use Rattle.mrt_answer.specs.steps.Input.{input_with}
use Rattle.mrt_answer.specs.Islands.{area_of, island_in, island_of}
use Rattle.mrt_answer.specs.Reading.{database_of, input_of}
use Rattle.mrt_answer.specs.Surveyed.{made_input}
use Rattle.mrt_answer.specs.steps.Surveyed.{summed_up_in}
use Rattle.mrt_answer.specs.TextBytes.{IsTextAnswer}
use Rattle.mrt_answer.specs.declared.text.Text.{Text}
use Rattle.mrt_args.proofs.Readings.{if_err}
use Rattle.mrt_answer.proofs.Islands.{no_large_area}
use Rattle.mrt_exit.specs.Due.{IsDue}

-- the laws of the layers below on the LSAs, on the area and on the islands of a network
pub record NetworkLaws : Type 0 where
  pub faultless : (number nodes : ℕ) → 4 ≤ nodes → nodes ≤ 2048 → AreLsas 0 (made_lsas number nodes)
  pub kept : (number nodes : ℕ) → 4 ≤ nodes → nodes ≤ 2048 → AllByRecursion IsKept (made_lsas number nodes)
  pub settled : (number nodes : ℕ) → least_conflict (all_installed [] (made_lsas number nodes)) ≡ None
  pub newest : (number nodes : ℕ)
      → map (λ (entry : Entry). entry.lsa) (all_installed [] (made_lsas number nodes)) ≡ made_lsas number nodes
  pub entries : (lsas : List Lsa) → all_installed [] lsas ≡ entries_in lsas
  pub agree : (lsas : List Lsa) → least_conflict (entries_in lsas) ≡ None → IsSettled lsas
  pub within : (number nodes : ℕ) → nodes ≤ 2048
      → IsTooLarge (length (area_of_lsas (made_lsas number nodes)).ids) (length (area_of_lsas (made_lsas number nodes)).arcs) → ⊥
  pub there : (number nodes router : ℕ) → 1 ≤ router → router ≤ nodes
      → Contains (area_of_lsas (made_lsas number nodes)).ids (router_node router)

-- what may stand in a database enters it
kept_enters : (lsa : Lsa) → IsKept lsa → is_area_lsa lsa ≡ true
kept_enters lsa kept = elim kept.type [
  | inl router ↦ rw router refl
  | inr network ↦ rw network refl
]

all_enter : (lsas : List Lsa) → AllByRecursion IsKept lsas → entering lsas ≡ lsas
all_enter [] kept = refl
all_enter (lsa ∷ rest) kept =
    rw (kept_enters lsa kept.0) (ap (λ (xs : List Lsa). lsa ∷ xs) (all_enter rest kept.1))

module _ (laws : NetworkLaws) (number nodes : ℕ) (size : IsNetworkSize nodes) where
  all_entered : entering (made_lsas number nodes) ≡ made_lsas number nodes
  all_entered = all_enter (made_lsas number nodes) (laws.kept number nodes size.0 size.1)

  settled_lsas : IsSettled (made_lsas number nodes)
  settled_lsas = laws.agree (made_lsas number nodes)
      (subst (λ (es : List Entry). least_conflict es ≡ None) (laws.entries (made_lsas number nodes))
      (laws.settled number nodes))

  newest_lsas : made_lsas number nodes ≡ newest_in (made_lsas number nodes)
  newest_lsas =
      sym (laws.newest number nodes)
      ∙ ap (map (λ (entry : Entry). entry.lsa)) (laws.entries (made_lsas number nodes))

  pub made_database : IsDatabase (lsas_text (made_lsas number nodes)) (made_lsas number nodes)
  made_database = record {
    lsas = made_lsas number nodes;
    held = record { each = laws.faultless number nodes size.0 size.1; spelled = refl };
    settled = subst IsSettled (sym all_entered) settled_lsas;
    newest_ones = subst (λ (lsas : List Lsa). made_lsas number nodes ≡ newest_in lsas) (sym all_entered) newest_lsas;
  }

  pub made_is_input : input_of (lsas_text (made_lsas number nodes)) [] (Ok (made_input number nodes))
  made_is_input = (made_lsas number nodes, made_database, ([], record { faultless = λ place. refl; said = refl }, refl))

  pub made_has_island : (router : ℕ) → 1 ≤ router → router ≤ nodes → (exit : Exit)
      → island_in (made_input number nodes) router (Err exit) → ⊥
  made_has_island router first last exit (inl large) = not_large exit large
    where
      not_large : (exit : Exit) → area_of (made_lsas number nodes) (Err exit) → ⊥
      not_large (exits.TooLarge what count) large =
          no_large_area (area (made_input number nodes)) what count (laws.within number nodes size.1) large
      not_large exit large = large
  made_has_island router first last exit (inr (of, is, none)) = not_missing exit none
    where
      not_missing : (exit : Exit) → island_of (policy (made_input number nodes)) of router (Err exit) → ⊥
      not_missing (exits.NotThere other) missing = elim missing.1 [
        | inl absent ↦ absent (rw is.0 (laws.there number nodes router first last))
        | inr unsupported ↦ cc
      ]
      not_missing exit none = none

-- what is said of a network's bytes, or of its router's island, is want of memory
pub memory_of_database : {T : Type 0} (answer : Result T Exit) (bytes : List ℕ) → ((at : ℕ) (kind : DbKind) → IsBadDatabase bytes at kind → ⊥)
    → IfErr answer (IsDue (λ due. database_of bytes (Err due))) → IfErr answer (λ exit. exit ≡ exits.NoMemory)
memory_of_database answer bytes faultless said = if_err answer (IsDue (λ due. database_of bytes (Err due))) _ memory said
  where
    memory : (exit : Exit) → IsDue (λ due. database_of bytes (Err due)) exit → exit ≡ exits.NoMemory
    memory (exits.BadDatabase at kind) (inl said) = absurd (faultless at kind said)
    memory exit (inl said) = absurd said
    memory exit (inr of_memory) = of_memory

pub memory_of_survey : (answer : Result Text Exit) (number : ℕ) (input : Input) → ((exit : Exit) → island_in input 1 (Err exit) → ⊥)
    → IsTextAnswer (summed_up_in number input) answer → IfErr answer (λ exit. exit ≡ exits.NoMemory)
memory_of_survey (Ok text) number input has said = tt
memory_of_survey (Err exit) number input has (inl (inl none)) = absurd (has exit none)
memory_of_survey (Err exit) number input has (inl (inr (island, is, none))) = absurd none
memory_of_survey (Err exit) number input has (inr memory) = memory

-- where a database holds the LSAs of a network, and a profile nothing, they hold what is surveyed
pub made_input_is : (entries : List Entry) (settings : List Setting) (number nodes : ℕ)
    → map (λ entry. entry.lsa) entries ≡ made_lsas number nodes → settings ≡ []
    → input_with entries settings ≡ made_input number nodes
made_input_is entries settings number nodes newest none = λ i. record { newest = newest i; settings = none i }
