-- What a loop that writes links leaves.
use Rattle.std.proofs.Common.{◌≡◌, ◌<◌, ◌≤◌, ℕ, suc, ◌+◌, ◌^◌, List, [], ◌∷◌, ◌++◌, length, get_or, take, drop, sym, ap, subst, ◌∙◌, append_assoc, add-one, arith}
use Rattle.std.specs.Int.{w32, to_be_bytes}
use Rattle.std.specs.List.{flat_map, AllByRecursion}
use Rattle.std.proofs.Math.Seq.{drop-cons}
use Rattle.std.proofs.lemmas.List.{length-append, length-drop}
use Rattle.std.proofs.lemmas.List.Sums.{sum_by-cons}
use Rattle.ospf_lsa.specs.declared.lsa.RouterLink.{RouterLink}
use Rattle.ospf_lsa.specs.LsaText.{link_text, links_text}
use Rattle.ospf_lsa.specs.Lsas.{AreEntriesOf, FitsLink, Is32Bits}

-- numbers of 32 bits are that, all of them
pub all_numbers : (numbers : List ℕ) → ((k : ℕ) → get_or numbers k 0 < 2 ^ 32) → AllByRecursion Is32Bits numbers
all_numbers [] are = tt
all_numbers (number ∷ numbers) are = (are 0, all_numbers numbers (λ k. are (suc k)))

-- what is read past the end of links
abbrev pub no_link : RouterLink
no_link = record { id = 0; link_data = 0; kind = 0; entries = 0; metric = 0 }

-- what is left to write before a link and after it
pub record IsNext (links : List RouterLink) (i : ℕ) (link : RouterLink) (tos : List ℕ) : Type 0 where
  pub text : links_text (drop i links) tos
      ≡ link_text link ++ (flat_map (to_be_bytes w32) (take link.entries tos)
      ++ links_text (drop (i + 1) links) (drop link.entries tos))
  pub enough : link.entries ≤ length tos
  pub entries : AreEntriesOf (drop (i + 1) links) (drop link.entries tos)
  pub fits : FitsLink link → AllByRecursion FitsLink (drop (i + 1) links) → AllByRecursion FitsLink (drop i links)

-- that is so of the link that a loop is at
pub next_link : (links : List RouterLink) (i : ℕ) (tos : List ℕ) → i < length links → AreEntriesOf (drop i links) tos
    → IsNext links i (get_or links i no_link) tos
next_link links i tos lt entries = so (get_or links i no_link)
    (drop-cons links i no_link lt ∙ ap (λ (k : ℕ). get_or links i no_link ∷ drop k links) (sym (add-one i)))
  where
    so : (link : RouterLink) → drop i links ≡ link ∷ drop (i + 1) links → IsNext links i link tos
    so link next =
        let all : AreEntriesOf (link ∷ drop (i + 1) links) tos =
        subst (λ (ls : List RouterLink). AreEntriesOf ls tos) next entries in
        let more = sum_by-cons (λ (l : RouterLink). l.entries) link (drop (i + 1) links) in
        record {
          text = ap (λ (ls : List RouterLink). links_text ls tos) next;
          enough = omega (arith, all, more);
          entries = simp length-drop (omega (arith, all, more));
          fits = λ here later. subst (λ (ls : List RouterLink). AllByRecursion FitsLink ls) (sym next) (here, later);
        }

-- the room that is left before that link and after it
pub next_room : (links : List RouterLink) (i : ℕ) (link : RouterLink) (tos own later : List ℕ) → IsNext links i link tos
    → own ≡ take link.entries tos → later ≡ drop link.entries tos
    → length (links_text (drop i links) tos)
    ≡ 12 + length (flat_map (to_be_bytes w32) own) + length (links_text (drop (i + 1) links) later)
next_room links i link tos own later next is is' =
    ap length next.text
    ∙ omega (
      arith,
      length-append (flat_map (to_be_bytes w32) (take link.entries tos))
          (links_text (drop (i + 1) links) (drop link.entries tos)),
      ap (λ (t : List ℕ). length (flat_map (to_be_bytes w32) t)) is,
      ap (λ (t : List ℕ). length (links_text (drop (i + 1) links) t)) is',
    )

-- one more link is written
pub one_more_link : (links : List RouterLink) (i : ℕ) (link : RouterLink) (tos own later out out' all : List ℕ)
    → IsNext links i link tos → own ≡ take link.entries tos → later ≡ drop link.entries tos
    → out' ≡ out ++ (link_text link ++ flat_map (to_be_bytes w32) own)
    → out ++ links_text (drop i links) tos ≡ all → out' ++ links_text (drop (i + 1) links) later ≡ all
one_more_link links i link tos own later out out' all next is is' grown so_far =
    let rest : List ℕ = links_text (drop (i + 1) links) later in
    ap (λ (t : List ℕ). t ++ rest) grown
    ∙ append_assoc out (link_text link ++ flat_map (to_be_bytes w32) own) rest
    ∙ ap (λ (t : List ℕ). out ++ t)
    (append_assoc (link_text link) (flat_map (to_be_bytes w32) own) rest
    ∙ ap (λ (t : List ℕ). link_text link ++ (flat_map (to_be_bytes w32) t ++ rest)) is
    ∙ ap (λ (t : List ℕ). link_text link
    ++ (flat_map (to_be_bytes w32) (take link.entries tos) ++ links_text (drop (i + 1) links) t)) is'
    ∙ sym next.text) ∙ so_far
