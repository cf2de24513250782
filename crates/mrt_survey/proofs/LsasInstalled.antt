-- The LSAs of a network that is made, installed one after another: each is of a key of its own.
use Rattle.std.proofs.Common.{◌≡◌, ◌≢◌, ◌≤◌, ◌<◌, ◌∙◌, ◌+◌, ◌++◌, ◌==◌, ◌&&◌, ◌⊎◌, ℕ, zero, suc, Bool, true, false, List, [], ◌∷◌, Some, None, map, refl, sym, ap, inl, inr, append_assoc, arith}
use Rattle.std.specs.List.{AllByRecursion, range_with_len}
use Rattle.std.proofs.lemmas.Bool.{ne_eqb}
use Rattle.std.proofs.lemmas.List.{append-nil}
use Rattle.ospf_lsa.specs.declared.lsa.Lsa.{Lsa}
use Rattle.ospf_lsa.specs.LsaText.{lsa_length}
use Rattle.ospf_lsa.specs.Lsas.{AreLsas}
use Rattle.lsdb.specs.Conflicts.{least_conflict}
use Rattle.lsdb.specs.Entries.{Entry}
use Rattle.lsdb.specs.Installing.{installed, IsKept}
use Rattle.lsdb.specs.Installs.{all_installed, AreBehind}
use Rattle.lsdb.specs.Keys.{key_of, same_key}
use Rattle.mrt_graph.proofs.Members.{Has}
use Rattle.mrt_survey.specs.declared.made_link.MadeLink.{MadeLink}
use Rattle.mrt_survey.specs.MadeLinks.{made_links}
use Rattle.mrt_survey.specs.MadeLsas.{lsa_of, made_lsas, placed}
use Rattle.mrt_survey.proofs.LsasMade.{lsas_kept}

-- an LSA that came first of its key, from which no other differs
abbrev pub alone : Lsa → Entry
alone lsa = record { lsa = lsa; differing = None }

and_false : (a : Bool) → (a && false) ≡ false
and_false true = refl
and_false false = refl

-- LSAs of two IDs have two keys
other_key : (one other : Lsa) → one.id ≢ other.id → same_key (key_of one) (key_of other) ≡ false
other_key one other differ = rw (ne_eqb one.id other.id differ) (and_false (one.kind == other.kind))

installed_new : (entries : List Entry) (lsa : Lsa) → ((entry : Entry) → Has entries entry → lsa.id ≢ entry.lsa.id)
    → (installed entries lsa).0 ≡ entries ++ alone lsa ∷ []
installed_new [] lsa new = refl
installed_new (entry ∷ entries) lsa new =
    rw (other_key lsa entry.lsa (new entry (inl refl)))
    (ap (λ (xs : List Entry). entry ∷ xs) (installed_new entries lsa (λ other has. new other (inr has))))

has_last : (entries : List Entry) (last entry : Entry) → Has (entries ++ last ∷ []) entry → Has entries entry ⊎ (last ≡ entry)
has_last [] last entry has = elim has [ inl same ↦ inr same | inr none ↦ absurd none ]
has_last (x ∷ xs) last entry has = elim has [
  | inl same ↦ inl (inl same)
  | inr later ↦ elim (has_last xs last entry later) [ inl before ↦ inl (inr before) | inr same ↦ inr same ]
]

-- the LSAs of so many routers from one on
abbrev pub lsas_from : List MadeLink → ℕ → ℕ → ℕ → List Lsa
lsas_from links at from n = placed at (map (lsa_of links) (range_with_len from n))

all_new : (links : List MadeLink) (at from n : ℕ) (entries : List Entry) → ((entry : Entry) → Has entries entry → entry.lsa.id < from)
    → all_installed entries (lsas_from links at from n) ≡ entries ++ map alone (lsas_from links at from n)
all_new links at from zero entries before = sym (append-nil entries)
all_new links at from (suc n) entries before =
    let lsa : Lsa = record (lsa_of links from) { at = at } in
    let next = at + lsa_length (lsa_of links from) in
    let one : (installed entries lsa).0 ≡ entries ++ alone lsa ∷ [] =
    installed_new entries lsa (λ entry has same. let low = before entry has in omega (arith, low, same)) in
    ap (λ (xs : List Entry). all_installed xs (lsas_from links next (from + 1) n)) one
    ∙ all_new links next (from + 1) n (entries ++ alone lsa ∷ [])
    (λ entry has. elim (has_last entries (alone lsa) entry has) [
      | inl old ↦ let low = before entry old in omega (arith, low)
      | inr last ↦ let is : from ≡ entry.lsa.id = ap (λ (e : Entry). e.lsa.id) last in omega (arith, is)
    ])
    ∙ append_assoc entries (alone lsa ∷ []) (map alone (lsas_from links next (from + 1) n))

-- an entry for each
pub made_entries : (number nodes : ℕ) → all_installed [] (made_lsas number nodes) ≡ map alone (made_lsas number nodes)
made_entries number nodes = all_new (made_links number nodes) 0 1 nodes [] (λ entry has. absurd has)

-- of which none has a conflict
least_none : (lsas : List Lsa) → least_conflict (map alone lsas) ≡ None
least_none [] = refl
least_none (lsa ∷ lsas) = least_none lsas

pub made_settled : (number nodes : ℕ) → least_conflict (all_installed [] (made_lsas number nodes)) ≡ None
made_settled number nodes = ap least_conflict (made_entries number nodes) ∙ least_none (made_lsas number nodes)

-- and they are the LSAs
lsas_of_entries : (lsas : List Lsa) → map (λ (entry : Entry). entry.lsa) (map alone lsas) ≡ lsas
lsas_of_entries [] = refl
lsas_of_entries (lsa ∷ lsas) = ap (λ (xs : List Lsa). lsa ∷ xs) (lsas_of_entries lsas)

pub made_newest : (number nodes : ℕ) → map (λ (entry : Entry). entry.lsa) (all_installed [] (made_lsas number nodes)) ≡ made_lsas number nodes
made_newest number nodes = ap (map (λ (entry : Entry). entry.lsa)) (made_entries number nodes) ∙ lsas_of_entries (made_lsas number nodes)

-- their places rise
places_rise : (links : List MadeLink) (greatest at from n : ℕ) → greatest < at → AreBehind (Some greatest) (lsas_from links at from n)
places_rise links greatest at from zero less = tt
places_rise links greatest at from (suc n) less = (
  less,
  places_rise links at (at + lsa_length (lsa_of links from)) (from + 1) n (omega arith),
)

pub made_behind : (number nodes : ℕ) → AreBehind None (made_lsas number nodes)
made_behind number nodes = go nodes
  where
    go : (n : ℕ) → AreBehind None (lsas_from (made_links number nodes) 0 1 n)
    go zero = tt
    go (suc n) = (tt, places_rise (made_links number nodes) 0 (0 + lsa_length (lsa_of (made_links number nodes) 1)) 2 n (omega arith))

-- each may be installed
all_may : (links : List MadeLink) (at from n : ℕ) → AreLsas at (lsas_from links at from n) → AllByRecursion IsKept (lsas_from links at from n)
all_may links at from zero are = tt
all_may links at from (suc n) are = (
  record { type = inl refl; body = are.1.of_type; own_id = are.1.own_id; metrics = are.1.metrics },
  all_may links (at + lsa_length (lsa_of links from)) (from + 1) n are.2,
)

pub made_may : (number nodes : ℕ) → 4 ≤ nodes → nodes ≤ 2048 → AllByRecursion IsKept (made_lsas number nodes)
made_may number nodes some few = all_may (made_links number nodes) 0 1 nodes (lsas_kept number nodes some few)
