-- Entries, one LSA after another.
use Rattle.std.proofs.Common.{◌≡◌, ◌∙◌, ◌<◌, ◌≤◌, ◌+◌, ◌++◌, ℕ, List, ◌∷◌, Option, Some, None, refl, length, get_or, drop, slice_get, sym, ap, arith}
use Rattle.std.specs.List.{AllZip, cons_option}
use Rattle.std.specs.Option.{option_and_then, option_to_list}
use Rattle.std.proofs.lemmas.List.{append-nil, append_assoc, drop_more, drop_all}
use Rattle.std.proofs.lemmas.Option.{slice_get-get_or, slice_get_within, get_or_from_slice_get}
use Rattle.mrt_graph.specs.declared.node_id.NodeId.{NodeId}
use Rattle.ospf_lsa.specs.declared.lsa.Lsa.{Lsa}
use Rattle.ospf_lsa.specs.declared.lsa.RouterLink.{RouterLink}
use Rattle.area_graph.specs.Entries.{Entry, entries_of, entries_of_links, entries_of_listed, entry_of_link, entry_of_listed}
use Rattle.area_graph.specs.steps.NumberedEntries.{by_number, entries_from, numbered_entry}
use Rattle.area_graph.specs.Nodes.{node_of, speakers}
use Rattle.area_graph.specs.steps.Speaking.{IsSpeakerOf}
use Rattle.area_graph.specs.declared.entry.NumberedEntry.{NumberedEntry}
use Rattle.area_graph.specs.declared.speaker.Speaker.{Speaker}
use Rattle.area_graph.proofs.Alongside.{Beside, zip_at, length_zip}

beside : (lsas : List Lsa) (list : List Speaker) (tail : ℕ) (d : Speaker) → AllZip (IsSpeakerOf lsas) list (speakers lsas) → tail < length list
    → Beside (IsSpeakerOf lsas) (get_or list tail d) (speakers lsas) tail
beside lsas list tail d zip within = zip_at (IsSpeakerOf lsas) list (speakers lsas) tail (get_or list tail d) zip (slice_get-get_or list tail d within)

-- the place that a speaker tells is one of an LSA
pub place_within : (lsas : List Lsa) (list : List Speaker) (tail : ℕ) (d : Speaker) → AllZip (IsSpeakerOf lsas) list (speakers lsas) → tail < length list
    → (get_or list tail d).at < length lsas
place_within lsas list tail d zip within =
    let one = beside lsas list tail d zip within in slice_get_within lsas (get_or list tail d).at one.other one.related.there

pub joined : {X : Type 0} (old new more rest whole : List X) → new ≡ old ++ more → old ++ (more ++ rest) ≡ whole → new ++ rest ≡ whole
joined {X} old new more rest whole added is = ap (λ (xs : List X). xs ++ rest) added ∙ append_assoc old more rest ∙ is

pub entries_more : (lsas : List Lsa) (list : List Speaker) (ids : List NodeId) (tail : ℕ) (d : Speaker) (lsa : Lsa) (old new whole : List NumberedEntry)
    → AllZip (IsSpeakerOf lsas) list (speakers lsas) → tail < length list → lsa ≡ get_or lsas (get_or list tail d).at lsa
    → new ≡ old ++ by_number ids tail (entries_of (get_or list tail d).id (get_or lsas (get_or list tail d).at lsa).body) → old ++ entries_from ids tail (drop tail (speakers lsas)) ≡ whole
    → new ++ entries_from ids (tail + 1) (drop (tail + 1) (speakers lsas)) ≡ whole
entries_more lsas list ids tail d lsa old new whole zip within is added all =
    let one = beside lsas list tail d zip within in
    let same : lsa ≡ one.other = is ∙ get_or_from_slice_get lsas (get_or list tail d).at one.other lsa one.related.there in
    let own : (get_or list tail d).id ≡ node_of lsa = one.related.id ∙ ap node_of (sym same) in
    let there : slice_get (speakers lsas) tail ≡ Some lsa = one.there ∙ ap (λ (l : Lsa). Some l) (sym same) in
    let rest : drop tail (speakers lsas) ≡ lsa ∷ drop (tail + 1) (speakers lsas) =
    drop_more (speakers lsas) tail lsa (slice_get_within (speakers lsas) tail lsa there)
    ∙ ap (λ (l : Lsa). l ∷ drop (tail + 1) (speakers lsas)) (get_or_from_slice_get (speakers lsas) tail lsa lsa there) in
    joined old new (by_number ids tail (entries_of (node_of lsa) lsa.body)) (entries_from ids (tail + 1) (drop (tail + 1) (speakers lsas))) whole
    (added ∙ ap (λ (l : Lsa). old ++ by_number ids tail (entries_of (get_or list tail d).id l.body)) (sym is)
    ∙ ap (λ (id : NodeId). old ++ by_number ids tail (entries_of id lsa.body)) own)
    (ap (λ (ls : List Lsa). old ++ entries_from ids tail ls) (sym rest) ∙ all)

pub entries_all : (lsas : List Lsa) (list : List Speaker) (ids : List NodeId) (tail : ℕ) (found whole : List NumberedEntry)
    → AllZip (IsSpeakerOf lsas) list (speakers lsas) → length list ≤ tail → found ++ entries_from ids tail (drop tail (speakers lsas)) ≡ whole → found ≡ whole
entries_all lsas list ids tail found whole zip past all =
    sym (append-nil found)
    ∙ ap (λ (ls : List Lsa). found ++ entries_from ids tail ls) (sym (drop_all tail (speakers lsas) (omega (arith, length_zip (IsSpeakerOf lsas) list (speakers lsas) zip, past))))
    ∙ all

-- entries by number, one entry at a time
first_is : {X : Type 0} (o : Option X) (xs : List X) → cons_option o xs ≡ option_to_list o ++ xs
first_is None xs = refl
first_is (Some x) xs = refl

first_by_number : (ids : List NodeId) (tail : ℕ) (o : Option Entry) (rest : List Entry)
    → by_number ids tail (option_to_list o ++ rest) ≡ option_to_list (option_and_then (numbered_entry ids tail) o) ++ by_number ids tail rest
first_by_number ids tail None rest = refl
first_by_number ids tail (Some entry) rest = first_is (numbered_entry ids tail entry) (by_number ids tail rest)

pub links_more : (ids : List NodeId) (tail : ℕ) (own : NodeId) (place : ℕ) (links : List RouterLink) (d : RouterLink) (old new whole : List NumberedEntry) → place < length links
    → new ≡ old ++ option_to_list (option_and_then (numbered_entry ids tail) (entry_of_link own place (get_or links place d)))
    → old ++ by_number ids tail (entries_of_links own place (drop place links)) ≡ whole
    → new ++ by_number ids tail (entries_of_links own (place + 1) (drop (place + 1) links)) ≡ whole
links_more ids tail own place links d old new whole within added all =
    let one = entry_of_link own place (get_or links place d) in
    let rest = entries_of_links own (place + 1) (drop (place + 1) links) in
    joined old new (option_to_list (option_and_then (numbered_entry ids tail) one)) (by_number ids tail rest) whole added
    (ap (λ (xs : List NumberedEntry). old ++ xs) (sym (first_by_number ids tail one rest))
    ∙ ap (λ (ls : List RouterLink). old ++ by_number ids tail (entries_of_links own place ls)) (sym (drop_more links place d within)) ∙ all)

pub listed_more : (ids : List NodeId) (tail : ℕ) (own : NodeId) (place : ℕ) (routers : List ℕ) (old new whole : List NumberedEntry) → place < length routers
    → new ≡ old ++ option_to_list (numbered_entry ids tail (entry_of_listed own place (get_or routers place 0)))
    → old ++ by_number ids tail (entries_of_listed own place (drop place routers)) ≡ whole
    → new ++ by_number ids tail (entries_of_listed own (place + 1) (drop (place + 1) routers)) ≡ whole
listed_more ids tail own place routers old new whole within added all =
    let one = entry_of_listed own place (get_or routers place 0) in
    let rest = entries_of_listed own (place + 1) (drop (place + 1) routers) in
    joined old new (option_to_list (numbered_entry ids tail one)) (by_number ids tail rest) whole added
    (ap (λ (xs : List NumberedEntry). old ++ xs) (sym (first_by_number ids tail (Some one) rest))
    ∙ ap (λ (rs : List ℕ). old ++ by_number ids tail (entries_of_listed own place rs)) (sym (drop_more routers place 0 within)) ∙ all)
