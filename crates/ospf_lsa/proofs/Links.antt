-- The links of a router-LSA are read as they are written, and written as they are read.
use Rattle.std.proofs.Common.{◌≡◌, ℕ, zero, suc, ◌+◌, ◌-◌, ◌*◌, ◌<◌, ◌≤◌, List, [], ◌∷◌, ◌++◌, length, take, drop, Option, Some, None, inl, inr, refl, sym, ap, subst, ◌∙◌, append_assoc, arith}
use Rattle.std.specs.Int.{w8, w16, w32, to_be_bytes}
use Rattle.std.specs.List.{flat_map, AllByRecursion}
use Rattle.std.specs.Option.{option_map, option_and_then}
use Rattle.std.proofs.lemmas.Bool.{cases_lt, le-ltb, lt-ltb}
use Rattle.std.proofs.lemmas.Bool.Decides.{nat_tests}
use Rattle.std.proofs.lemmas.List.{drop-drop, drop_at, take_at, take-append-drop, length-append, length-drop, length-take-le}
use Rattle.std.proofs.lemmas.List.Sums.{sum_by-cons}
use Rattle.byteorder.specs.Numbers.{big_number-reads_back}
use Rattle.ospf_lsa.specs.declared.lsa.RouterLink.{RouterLink}
use Rattle.ospf_lsa.specs.LsaText.{link_text, links_text}
use Rattle.ospf_lsa.specs.Header.{number_at}
use Rattle.ospf_lsa.specs.steps.Reading.{numbers_in, link_in, link_length, first_link, with_link, links_in, Links}
use Rattle.ospf_lsa.specs.Lsas.{AreEntriesOf, FitsLink, Is32Bits}
use Rattle.mrt_graph.proofs.Bytes.{IsBytes, bytes_after}
use Rattle.mrt_graph.proofs.Members.{all_append}
use Rattle.ospf_lsa.proofs.Numbers.{spelled8, spelled16, spelled32, spelled_at, number_fits, numbers_spelled, numbers_many, numbers_fit, numbers_read, length_numbers}

-- a link that is whole
pub record IsWhole (bytes : List ℕ) (link : RouterLink) : Type 0 where
  pub header : 12 ≤ length bytes
  pub entries : link_length (link_in bytes) ≤ length bytes
  pub is : link_in bytes ≡ link

pub link_whole : (bytes : List ℕ) (link : RouterLink) → first_link bytes ≡ Some link → IsWhole bytes link
link_whole bytes link e = elim (cases_lt (length bytes) 12) [
  | inl short ↦ let none : first_link bytes ≡ None = rw (lt-ltb _ _ short) refl in absurd cc
  | inr long ↦ elim (cases_lt (length bytes) (link_length (link_in bytes))) [
    | inl short ↦ let none : first_link bytes ≡ None = rw (le-ltb _ _ long, lt-ltb _ _ short) refl in absurd cc
    | inr enough ↦
        let some : first_link bytes ≡ Some (link_in bytes) = rw (le-ltb _ _ long, le-ltb _ _ enough) refl in
        record { header = long; entries = enough; is = cc }
  ]
]

-- the bytes of the link that is read
link_spelled : (bytes : List ℕ) → 12 ≤ length bytes → IsBytes bytes
    → bytes ≡ link_text (link_in bytes) ++ drop 12 bytes
link_spelled bytes long are =
    spelled_at w32 0 4 bytes spelled32 refl (omega arith) are
    ∙ ap (λ (t : List ℕ). to_be_bytes w32 (number_at 0 4 bytes) ++ t)
    (spelled_at w32 4 8 bytes spelled32 refl (omega arith) are
    ∙ ap (λ (t : List ℕ). to_be_bytes w32 (number_at 4 4 bytes) ++ t)
    (spelled_at w8 8 9 bytes spelled8 refl (omega arith) are
    ∙ ap (λ (t : List ℕ). to_be_bytes w8 (number_at 8 1 bytes) ++ t)
    (spelled_at w8 9 10 bytes spelled8 refl (omega arith) are
    ∙ ap (λ (t : List ℕ). to_be_bytes w8 (number_at 9 1 bytes) ++ t)
    (spelled_at w16 10 12 bytes spelled16 refl long are))))

-- each number of a link that is read fits its field
link_fits : (bytes : List ℕ) → IsBytes bytes → FitsLink (link_in bytes)
link_fits bytes are = record {
  id = number_fits 4 0 bytes are;
  link_data = number_fits 4 4 bytes are;
  kind = number_fits 1 8 bytes are;
  entries = number_fits 1 9 bytes are;
  metric = number_fits 2 10 bytes are;
}

link_is : (x y : RouterLink) → x.id ≡ y.id → x.link_data ≡ y.link_data → x.kind ≡ y.kind → x.entries ≡ y.entries
    → x.metric ≡ y.metric → x ≡ y
link_is x y i d k e m =
    let made : ℕ → ℕ → ℕ → ℕ → ℕ
    → RouterLink =
    λ id word kind entries metric. record
    { id = id; link_data = word; kind = kind; entries = entries; metric = metric } in
    ap (λ (v : ℕ). made v x.link_data x.kind x.entries x.metric) i
    ∙ ap (λ (v : ℕ). made y.id v x.kind x.entries x.metric) d
    ∙ ap (λ (v : ℕ). made y.id y.link_data v x.entries x.metric) k
    ∙ ap (λ (v : ℕ). made y.id y.link_data y.kind v x.metric) e
    ∙ ap (λ (v : ℕ). made y.id y.link_data y.kind y.entries v) m

-- a link that is written with its TOS entries is read
link_read : (link : RouterLink) (tos rest : List ℕ) → FitsLink link → length tos ≡ link.entries
    → first_link (link_text link ++ (flat_map (to_be_bytes w32) tos ++ rest)) ≡ Some link
link_read link tos rest fits many =
    let tail : List ℕ = flat_map (to_be_bytes w32) tos ++ rest in
    let bytes : List ℕ = link_text link ++ (flat_map (to_be_bytes w32) tos ++ rest) in
    let same : link_in (link_text link ++ (flat_map (to_be_bytes w32) tos ++ rest)) ≡ link =
    link_is (link_in bytes) link
    (big_number-reads_back 4 link.id (drop 4 bytes) fits.id)
    (big_number-reads_back 4 link.link_data (drop 8 bytes) fits.link_data)
    (big_number-reads_back 1 link.kind (drop 9 bytes) fits.kind)
    (big_number-reads_back 1 link.entries (drop 10 bytes) fits.entries)
    (big_number-reads_back 2 link.metric tail fits.metric) in
    let size : length (link_text link ++ (flat_map (to_be_bytes w32) tos ++ rest)) ≡ 12 + 4 * link.entries + length rest =
    omega (arith, length-append (flat_map (to_be_bytes w32) tos) rest, length_numbers tos, many) in
    let long : 12 ≤ length (link_text link ++ (flat_map (to_be_bytes w32) tos ++ rest)) = omega (arith, size) in
    let enough : link_length (link_in (link_text link ++ (flat_map (to_be_bytes w32) tos ++ rest)))
    ≤ length (link_text link ++ (flat_map (to_be_bytes w32) tos ++ rest)) =
    omega (arith, size, ap (λ (l : RouterLink). l.entries) same) in
    let some : first_link (link_text link ++ (flat_map (to_be_bytes w32) tos ++ rest))
    ≡ Some (link_in (link_text link ++ (flat_map (to_be_bytes w32) tos ++ rest))) =
    rw (le-ltb _ _ long, le-ltb _ _ enough) refl in
    some ∙ ap Some same

-- how many bytes links have with their TOS entries
pub length_links : (links : List RouterLink) (tos : List ℕ) → AreEntriesOf links tos
    → length (links_text links tos) ≡ 12 * length links + 4 * length tos
length_links [] tos all = omega (arith, all)
length_links (link ∷ links) tos all =
    let more = sum_by-cons (λ (l : RouterLink). l.entries) link links in
    let enough : link.entries ≤ length tos = omega (arith, all, more) in
    let left : length (drop link.entries tos) + link.entries ≡ length tos = simp length-drop (omega arith) in
    let later = length_links links (drop link.entries tos) (omega (arith, all, more, left)) in
    omega (
      arith,
      length-append (flat_map (to_be_bytes w32) (take link.entries tos)) (links_text links (drop link.entries tos)),
      length_numbers (take link.entries tos),
      length-take-le link.entries tos enough,
      left,
      later,
    )

-- the links that are read are spelled by the bytes
pub record AreSpelled (count : ℕ) (bytes : List ℕ) (links : Links) : Type 0 where
  pub spelled : bytes ≡ links_text links.0 links.1
  pub many : length links.0 ≡ count
  pub fit : AllByRecursion FitsLink links.0
  pub entries_fit : AllByRecursion Is32Bits links.1
  pub entries : AreEntriesOf links.0 links.1

none_left : (bytes : List ℕ) (links : Links) → links_in 0 bytes ≡ Some links → AreSpelled 0 bytes links
none_left [] links e = let none : ([], []) ≡ links = cc in
    subst (λ (ls : Links). AreSpelled 0 [] ls) none
    (record { spelled = refl; many = refl; fit = tt; entries_fit = tt; entries = refl })
none_left (b ∷ bs) links e = let none : links_in 0 (b ∷ bs) ≡ None = grind (arith, nat_tests) in absurd cc

-- the texts of a link's TOS entries and of the links after it
own_and_later : (n : ℕ) (links : List RouterLink) (own tos : List ℕ) → length own ≡ n
    → flat_map (to_be_bytes w32) own ++ links_text links tos
    ≡ flat_map (to_be_bytes w32) (take n (own ++ tos)) ++ links_text links (drop n (own ++ tos))
own_and_later n links own tos many = sym
    (ap (λ (t : List ℕ). flat_map (to_be_bytes w32) t ++ links_text links (drop n (own ++ tos))) (take_at own tos n many)
    ∙ ap (λ (t : List ℕ). flat_map (to_be_bytes w32) own ++ links_text links t) (drop_at own tos n many))

-- a link, and those after it
one_more : (count : ℕ) (bytes : List ℕ) (link : RouterLink) (later : Links) → IsBytes bytes → IsWhole bytes link
    → AreSpelled count (drop (link_length link) bytes) later
    → AreSpelled (suc count) bytes (with_link link (numbers_in link.entries (drop 12 bytes)) later)
one_more count bytes link later are whole spells =
    subst
    (λ (l : RouterLink). AreSpelled count (drop (link_length l) bytes) later
    → AreSpelled (suc count) bytes (with_link l (numbers_in l.entries (drop 12 bytes)) later)) whole.is in_bytes spells
  where
    in_bytes : AreSpelled count (drop (link_length (link_in bytes)) bytes) later
        → AreSpelled (suc count) bytes (with_link (link_in bytes) (numbers_in (number_at 9 1 bytes) (drop 12 bytes)) later)
    in_bytes spells =
        let n : ℕ = number_at 9 1 bytes in
        let own : List ℕ = numbers_in (number_at 9 1 bytes) (drop 12 bytes) in
        let many : length (numbers_in (number_at 9 1 bytes) (drop 12 bytes)) ≡ number_at 9 1 bytes =
        numbers_many (number_at 9 1 bytes) (drop 12 bytes) in
        let tail = bytes_after 12 bytes are in
        let behind : drop (4 * number_at 9 1 bytes) (drop 12 bytes) ≡ drop (12 + 4 * number_at 9 1 bytes) bytes =
        drop-drop (4 * number_at 9 1 bytes) 12 bytes in
        record {
          spelled = link_spelled bytes whole.header are
              ∙ ap (λ (t : List ℕ). link_text (link_in bytes) ++ t)
              (numbers_spelled n (drop 12 bytes) (simp length-drop (omega (arith, whole.entries))) tail
              ∙ ap (λ (t : List ℕ). flat_map (to_be_bytes w32) own ++ t) (behind ∙ spells.spelled)
              ∙ own_and_later n later.0 own later.1 many);
          many = ap suc spells.many;
          fit = (link_fits bytes are, spells.fit);
          entries_fit = all_append Is32Bits own later.1 (numbers_fit n (drop 12 bytes) tail) spells.entries_fit;
          entries = omega (
            arith,
            length-append own later.1,
            many,
            sum_by-cons (λ (l : RouterLink). l.entries) (link_in bytes) later.0,
            spells.entries,
          );
        }

pub links_spelled : (count : ℕ) (bytes : List ℕ) (links : Links) → links_in count bytes ≡ Some links
    → IsBytes bytes → AreSpelled count bytes links
links_spelled zero bytes links e are = none_left bytes links e
links_spelled (suc count) bytes links e are =
    by_first count (λ rest ls found so. links_spelled count rest ls found so) bytes links are (first_link bytes) refl e
  where
    by_rest : (count : ℕ) (bytes : List ℕ) (links : Links) (link : RouterLink) → IsBytes bytes → IsWhole bytes link
        → ((ls : Links) → links_in count (drop (link_length link) bytes) ≡ Some ls
        → AreSpelled count (drop (link_length link) bytes) ls)
        → (o : Option Links) → links_in count (drop (link_length link) bytes) ≡ o
        → option_map (with_link link (numbers_in link.entries (drop 12 bytes))) o ≡ Some links
        → AreSpelled (suc count) bytes links
    by_rest count bytes links link are whole later None found e = absurd cc
    by_rest count bytes links link are whole later (Some ls) found e =
        let same : with_link link (numbers_in link.entries (drop 12 bytes)) ls ≡ links = cc in
        subst (λ (l : Links). AreSpelled (suc count) bytes l) same
        (one_more count bytes link ls are whole (later ls found))

    by_first : (count : ℕ)
        → ((rest : List ℕ) (ls : Links) → links_in count rest ≡ Some ls → IsBytes rest → AreSpelled count rest ls)
        → (bytes : List ℕ) (links : Links) → IsBytes bytes → (o : Option RouterLink) → first_link bytes ≡ o
        → option_and_then (λ link. option_map (with_link link (numbers_in link.entries (drop 12 bytes)))
        (links_in count (drop (link_length link) bytes))) o
        ≡ Some links → AreSpelled (suc count) bytes links
    by_first count ih bytes links are None found e = absurd cc
    by_first count ih bytes links are (Some link) found e =
        by_rest count bytes links link are (link_whole bytes link found)
        (λ ls so. ih (drop (link_length link) bytes) ls so (bytes_after (link_length link) bytes are))
        (links_in count (drop (link_length link) bytes)) refl e

-- numbers that fit, in two parts
parts_fit : (n : ℕ) (tos : List ℕ) → AllByRecursion Is32Bits tos
    → AllByRecursion Is32Bits (take n tos) × AllByRecursion Is32Bits (drop n tos)
parts_fit zero tos fit = (tt, fit)
parts_fit (suc n) [] fit = (tt, tt)
parts_fit (suc n) (number ∷ tos) fit =
    let later = parts_fit n tos fit.1 in
    ((fit.0, later.0), later.1)

-- a link is read before others
one_read : (count : ℕ) (bytes : List ℕ) (link : RouterLink) (tos : List ℕ) (later : Links) → first_link bytes ≡ Some link
    → numbers_in link.entries (drop 12 bytes) ≡ tos → links_in count (drop (link_length link) bytes) ≡ Some later
    → links_in (suc count) bytes ≡ Some (with_link link tos later)
one_read count bytes link tos later here numbers behind = rw (here, behind, numbers) refl

-- links that are written are read
pub links_read : (links : List RouterLink) (tos : List ℕ) → AllByRecursion FitsLink links → AllByRecursion Is32Bits tos
    → AreEntriesOf links tos → links_in (length links) (links_text links tos) ≡ Some (links, tos)
links_read [] [] fit entries_fit entries = refl
links_read [] (number ∷ tos) fit entries_fit entries = absurd (omega (arith, entries))
links_read (link ∷ links) tos fit entries_fit entries =
    let n : ℕ = link.entries in
    let own : List ℕ = take link.entries tos in
    let rest : List ℕ = links_text links (drop link.entries tos) in
    let bytes : List ℕ = links_text (link ∷ links) tos in
    let more = sum_by-cons (λ (l : RouterLink). l.entries) link links in
    let parts = parts_fit link.entries tos entries_fit in
    let many : length (take link.entries tos) ≡ link.entries =
    length-take-le link.entries tos (omega (arith, entries, more)) in
    let left : AreEntriesOf links (drop link.entries tos) = simp length-drop (omega (arith, entries, more)) in
    let here = link_read link own rest fit.0 many in
    let numbers : numbers_in link.entries (drop 12 (links_text (link ∷ links) tos)) ≡ take link.entries tos =
    ap (λ (k : ℕ). numbers_in k (flat_map (to_be_bytes w32) own ++ rest)) (sym many) ∙ numbers_read own rest parts.0 in
    let behind : drop (link_length link) (links_text (link ∷ links) tos) ≡ links_text links (drop link.entries tos) =
    sym (drop-drop (4 * n) 12 bytes)
    ∙ drop_at (flat_map (to_be_bytes w32) own) rest (4 * n) (omega (arith, length_numbers own, many)) in
    let later = links_read links (drop link.entries tos) fit.1 parts.1 left in
    one_read (length links) bytes link own (links, drop n tos) here numbers (ap (links_in (length links)) behind ∙ later)
    ∙ ap (λ (t : List ℕ). Some (link ∷ links, t)) (take-append-drop n tos)

-- links after those that a loop has read
abbrev pub after : Links → Links → Links
after made later = (made.0 ++ later.0, made.1 ++ later.1)

-- all links, before a loop reads one
pub links_first : (made : Links) (all : Option Links) → made.0 ≡ [] → made.1 ≡ [] → option_map (after made) all ≡ all
links_first made None links tos = refl
links_first made (Some later) links tos = rw (links, tos) refl

-- no link of those that are left, as a loop finds it
pub links_cut : (count i : ℕ) (rest : List ℕ) (made : Links) (all : Option Links) → i < count
    → first_link rest ≡ None → option_map (after made) (links_in (count - i) rest) ≡ all → None ≡ all
links_cut count i rest made all lt cut so_far =
    let left : count - i ≡ suc (count - (i + 1)) = omega arith in
    let none : links_in (count - i) rest ≡ None = rw (left, cut) refl in
    ap (option_map (after made)) (sym none) ∙ so_far

regroup : (made : Links) (link : RouterLink) (tos : List ℕ) (o : Option Links)
    → option_map (after (made.0 ++ link ∷ [], made.1 ++ tos)) o
    ≡ option_map (after made) (option_map (with_link link tos) o)
regroup made link tos None = refl
regroup made link tos (Some later) =
    ap (λ (t : List RouterLink). Some (t, (made.1 ++ tos) ++ later.1)) (append_assoc made.0 (link ∷ []) later.0)
    ∙ ap (λ (t : List ℕ). Some (made.0 ++ link ∷ later.0, t)) (append_assoc made.1 tos later.1)

-- one more link, as a loop reads it
pub links_next : (count i : ℕ) (link : RouterLink) (rest : List ℕ) (made made' : Links) (all : Option Links) → i < count
    → first_link rest ≡ Some link → made'.0 ≡ made.0 ++ link ∷ []
    → made'.1 ≡ made.1 ++ numbers_in link.entries (drop 12 rest)
    → option_map (after made) (links_in (count - i) rest) ≡ all
    → option_map (after made') (links_in (count - (i + 1)) (drop (link_length link) rest)) ≡ all
links_next count i link rest made made' all lt found grown entries so_far =
    let left : count - i ≡ suc (count - (i + 1)) = omega arith in
    let later : Option Links = links_in (count - (i + 1)) (drop (link_length link) rest) in
    let own : List ℕ = numbers_in link.entries (drop 12 rest) in
    let opened : links_in (count - i) rest
    ≡ option_map (with_link link (numbers_in link.entries (drop 12 rest)))
    (links_in (count - (i + 1)) (drop (link_length link) rest)) = rw (left, found) refl in
    ap (λ (ls : List RouterLink). option_map (after (ls, made'.1)) later) grown
    ∙ ap (λ (t : List ℕ). option_map (after (made.0 ++ link ∷ [], t)) later) entries
    ∙ regroup made link own later
    ∙ ap (option_map (after made)) (sym opened) ∙ so_far
