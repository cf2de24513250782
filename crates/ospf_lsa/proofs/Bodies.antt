-- A body is read as it is written, and written as it is read.
use Rattle.std.proofs.Common.{◌≡◌, ℕ, ◌+◌, ◌-◌, ◌*◌, ◌/◌, ◌%◌, ◌^◌, ◌<◌, ◌≤◌, Bool, true, false, List, [], ◌++◌, length, drop, Option, Some, None, Ok, Err, inl, inr, refl, sym, ap, subst, ◌∙◌, arith}
use Rattle.std.specs.Int.{w8, w16, w32, to_be_bytes}
use Rattle.std.specs.List.{flat_map, list_any}
use Rattle.std.specs.Option.{option_map_or}
use Rattle.std.proofs.lemmas.Bool.{cases_lt, le-ltb, lt-ltb, eq-eqb, ne_eqb}
use Rattle.std.proofs.lemmas.Bool.Decides.{eqb_tells}
use Rattle.std.proofs.lemmas.List.{append-nil, drop_all, length-drop}
use Rattle.byteorder.specs.Numbers.{big_number-reads_back}
use Rattle.ospf_lsa.specs.declared.error.LsaKind.TheVariants as kinds
use Rattle.ospf_lsa.specs.declared.lsa.RouterLink.{RouterLink}
use Rattle.ospf_lsa.specs.declared.lsa.Body.{Body}
use Rattle.ospf_lsa.specs.declared.lsa.Body.TheVariants.{Router, Network, Other}
use Rattle.ospf_lsa.specs.LsaText.{links_text, body_text}
use Rattle.ospf_lsa.specs.Header.{number_at}
use Rattle.ospf_lsa.specs.steps.Reading.{numbers_in, links_in, Links, body_links, body_in, with_links, router_body, network_body, typed_body}
use Rattle.ospf_lsa.specs.Faults.{SpellsLinks}
use Rattle.ospf_lsa.specs.Lsas.{has_zero_metric, AreEntriesOf, FitsBody, IsOfType, KeepsMetrics}
use Rattle.mrt_graph.proofs.Bytes.{IsBytes, bytes_after}
use Rattle.ospf_lsa.proofs.Numbers.{all_bytes, spelled8, spelled16, spelled32, spelled_at, number_fits, numbers_spelled, numbers_fit, numbers_read, length_numbers}
use Rattle.ospf_lsa.proofs.Links.{links_spelled, links_read, length_links}

-- a body of this type that is read is spelled by its bytes
pub record IsSpelledBody (kind : ℕ) (bytes : List ℕ) (body : Body) : Type 0 where
  pub text : bytes ≡ body_text body
  pub of_type : IsOfType kind body
  pub fits : FitsBody body
  pub metrics : KeepsMetrics body

-- the links of a body that are read are spelled by its bytes
record IsSpelledRouter (bytes : List ℕ) (links : Links) : Type 0 where
  text : bytes ≡ body_text (body_in bytes links)
  fit : FitsBody (body_in bytes links)

links_of_spelled : (bytes : List ℕ) (links : Links) → body_links bytes ≡ Some links → IsBytes bytes
    → IsSpelledRouter bytes links
links_of_spelled bytes links e are = elim (cases_lt (length bytes) 4) [
  | inl short ↦ let none : body_links bytes ≡ None = rw (lt-ltb _ _ short) refl in absurd cc
  | inr long ↦
      let opened : body_links bytes ≡ links_in (number_at 2 2 bytes) (drop 4 bytes) = rw (le-ltb _ _ long) refl in
      let so = links_spelled (number_at 2 2 bytes) (drop 4 bytes) links (sym opened ∙ e) (bytes_after 4 bytes are) in
      record {
        text = spelled_at w8 0 1 bytes spelled8 refl (omega arith) are
            ∙ ap (λ (t : List ℕ). to_be_bytes w8 (number_at 0 1 bytes) ++ t)
            (spelled_at w8 1 2 bytes spelled8 refl (omega arith) are
            ∙ ap (λ (t : List ℕ). to_be_bytes w8 (number_at 1 1 bytes) ++ t)
            (spelled_at w16 2 4 bytes spelled16 refl long are
            ∙ ap (λ (n : ℕ). to_be_bytes w16 n ++ drop 4 bytes) (sym so.many)
            ∙ ap (λ (t : List ℕ). to_be_bytes w16 (length links.0) ++ t) so.spelled));
        fit = (number_fits 1 0 bytes are, number_fits 1 1 bytes are, so.fit, so.entries_fit, so.entries);
      }
]

-- links that are read are those of the body
pub links_found : (bytes : List ℕ) (links : Links) → body_links bytes ≡ Some links → IsBytes bytes
    → SpellsLinks bytes links.0
links_found bytes links e are =
    let read = links_of_spelled bytes links e are in
    record
    { flags = number_at 0 1 bytes; spare = number_at 1 1 bytes; tos = links.1; fits = read.fit; spelled = read.text }

router_made : (kind : ℕ) (bytes : List ℕ) (links : Links) → kind ≡ 1 → body_links bytes ≡ Some links
    → list_any has_zero_metric links.0 ≡ false → IsBytes bytes
    → IsSpelledBody kind bytes (body_in bytes links)
router_made kind bytes links is found metrics are =
    let read = links_of_spelled bytes links found are in
    record { text = read.text; of_type = is; fits = read.fit; metrics = metrics }

router_spelled : (kind : ℕ) (bytes : List ℕ) (body : Body) → kind ≡ 1 → router_body bytes ≡ Ok body → IsBytes bytes
    → IsSpelledBody kind bytes body
router_spelled kind bytes body is e are = by_links (body_links bytes) refl e
  where
    by_metrics : (links : Links) (b : Bool) → body_links bytes ≡ Some links
        → list_any has_zero_metric links.0 ≡ b → with_links bytes links ≡ Ok body → IsSpelledBody kind bytes body
    by_metrics links true found zero_metric e = let refused : with_links bytes links ≡ Err kinds.ZeroMetric =
        rw zero_metric refl in absurd cc
    by_metrics links false found zero_metric e =
        let made : with_links bytes links ≡ Ok (body_in bytes links) = rw zero_metric refl in
        let same : body_in bytes links ≡ body = cc in
        subst (λ (b : Body). IsSpelledBody kind bytes b) same (router_made kind bytes links is found zero_metric are)

    by_links : (o : Option Links) → body_links bytes ≡ o
        → option_map_or (with_links bytes) o (Err kinds.Body) ≡ Ok body → IsSpelledBody kind bytes body
    by_links None found e = absurd cc
    by_links (Some links) found e = by_metrics links (list_any has_zero_metric links.0) found refl e

network_made : (kind : ℕ) (bytes : List ℕ) → kind ≡ 2 → 4 ≤ length bytes → length bytes % 4 ≡ 0 → IsBytes bytes
    → IsSpelledBody kind bytes (Network (number_at 0 4 bytes) (numbers_in ((length bytes - 4) / 4) (drop 4 bytes)))
network_made kind bytes is long whole are =
    let count : ℕ = (length bytes - 4) / 4 in
    let all : 4 * ((length bytes - 4) / 4) ≡ length (drop 4 bytes) = simp length-drop (omega (arith, long, whole)) in
    let routers : List ℕ = numbers_in ((length bytes - 4) / 4) (drop 4 bytes) in
    let spelled = numbers_spelled ((length bytes - 4) / 4) (drop 4 bytes) (omega (arith, all))
    (bytes_after 4 bytes are) in
    let none : drop (4 * ((length bytes - 4) / 4)) (drop 4 bytes) ≡ [] =
    drop_all (4 * ((length bytes - 4) / 4)) (drop 4 bytes) (omega (arith, all)) in
    record {
      text = spelled_at w32 0 4 bytes spelled32 refl long are
          ∙ ap (λ (t : List ℕ). to_be_bytes w32 (number_at 0 4 bytes) ++ t) (spelled
          ∙ ap (λ (t : List ℕ). flat_map (to_be_bytes w32) (numbers_in ((length bytes - 4) / 4) (drop 4 bytes)) ++ t)
          none
          ∙ append-nil (flat_map (to_be_bytes w32) (numbers_in ((length bytes - 4) / 4) (drop 4 bytes))));
      of_type = is;
      fits = (number_fits 4 0 bytes are, numbers_fit ((length bytes - 4) / 4) (drop 4 bytes) (bytes_after 4 bytes are));
      metrics = tt;
    }

network_spelled : (kind : ℕ) (bytes : List ℕ) (body : Body) → kind ≡ 2 → network_body bytes ≡ Ok body → IsBytes bytes
    → IsSpelledBody kind bytes body
network_spelled kind bytes body is e are = elim (cases_lt (length bytes) 4) [
  | inl short ↦ let refused : network_body bytes ≡ Err kinds.Body = rw (lt-ltb _ _ short) refl in absurd cc
  | inr long ↦ elim (eqb_tells (length bytes % 4) 0) [
    | inl whole ↦
        let made : network_body bytes
        ≡ Ok (Network (number_at 0 4 bytes) (numbers_in ((length bytes - 4) / 4) (drop 4 bytes))) =
        rw (le-ltb _ _ long, whole.0) refl in
        let same : Network (number_at 0 4 bytes) (numbers_in ((length bytes - 4) / 4) (drop 4 bytes)) ≡ body = cc in
        subst (λ (b : Body). IsSpelledBody kind bytes b) same (network_made kind bytes is long whole.1 are)
    | inr cut ↦ let refused : network_body bytes ≡ Err kinds.Body = rw (le-ltb _ _ long, cut.0) refl in absurd cc
  ]
]

pub body_spelled : (kind : ℕ) (bytes : List ℕ) (body : Body) → typed_body kind bytes ≡ Ok body → IsBytes bytes
    → IsSpelledBody kind bytes body
body_spelled kind bytes body e are = elim (eqb_tells kind 1) [
  | inl router ↦ let opened : typed_body kind bytes ≡ router_body bytes = rw (router.0) refl in
      router_spelled kind bytes body router.1 (sym opened ∙ e) are
  | inr no_router ↦ elim (eqb_tells kind 2) [
    | inl network ↦ let opened : typed_body kind bytes ≡ network_body bytes = rw (no_router.0, network.0) refl in
        network_spelled kind bytes body network.1 (sym opened ∙ e) are
    | inr no_network ↦
        let opened : typed_body kind bytes ≡ Ok (Other bytes) = rw (no_router.0, no_network.0) refl in
        let same : Other bytes ≡ body = cc in
        subst (λ (b : Body). IsSpelledBody kind bytes b) same
        (record { text = refl; of_type = (no_router.1, no_network.1); fits = all_bytes bytes are; metrics = tt })
  ]
]

-- the links of a body that is written are read
links_of_read : (flags spare : ℕ) (links : List RouterLink) (tos : List ℕ) → FitsBody (Router flags spare links tos)
    → length (body_text (Router flags spare links tos)) < 2 ^ 16
    → (body_links (body_text (Router flags spare links tos)) ≡ Some (links, tos))
    × (body_in (body_text (Router flags spare links tos)) (links, tos) ≡ Router flags spare links tos)
links_of_read flags spare links tos fit fits =
    let text : List ℕ = body_text (Router flags spare links tos) in
    let entries : AreEntriesOf links tos = fit.4 in
    let long : 4 ≤ length (body_text (Router flags spare links tos)) = omega arith in
    let few : length links < 2 ^ 16 = omega (arith, fits, length_links links tos entries) in
    let count : number_at 2 2 (body_text (Router flags spare links tos)) ≡ length links =
    big_number-reads_back 2 (length links) (links_text links tos) few in
    let first : number_at 0 1 (body_text (Router flags spare links tos)) ≡ flags =
    big_number-reads_back 1 flags (drop 1 (body_text (Router flags spare links tos))) fit.0 in
    let second : number_at 1 1 (body_text (Router flags spare links tos)) ≡ spare =
    big_number-reads_back 1 spare (drop 2 (body_text (Router flags spare links tos))) fit.1 in
    let opened : body_links (body_text (Router flags spare links tos))
    ≡ links_in (number_at 2 2 (body_text (Router flags spare links tos))) (links_text links tos) =
    rw (le-ltb _ _ long) refl in (
      opened ∙ ap (λ (n : ℕ). links_in n (links_text links tos)) count ∙ links_read links tos fit.2 fit.3 entries,
      ap (λ (f : ℕ). Router f (number_at 1 1 (body_text (Router flags spare links tos))) links tos) first
          ∙ ap (λ (s : ℕ). Router flags s links tos) second,
    )

-- the links that bytes spell are read from them
pub spelled_found : (bytes : List ℕ) (links : List RouterLink) → length bytes < 2 ^ 16
    → (spells : SpellsLinks bytes links) → body_links bytes ≡ Some (links, spells.tos)
spelled_found bytes links short spells =
    let fits : length (body_text (Router spells.flags spells.spare links spells.tos)) < 2 ^ 16 =
    subst (λ (t : List ℕ). length t < 2 ^ 16) spells.spelled short in
    ap body_links spells.spelled ∙ (links_of_read spells.flags spells.spare links spells.tos spells.fits fits).0

router_read : (kind flags spare : ℕ) (links : List RouterLink) (tos : List ℕ) → kind ≡ 1
    → FitsBody (Router flags spare links tos) → list_any has_zero_metric links ≡ false
    → length (body_text (Router flags spare links tos)) < 2 ^ 16
    → typed_body kind (body_text (Router flags spare links tos)) ≡ Ok (Router flags spare links tos)
router_read kind flags spare links tos is fit metrics fits =
    let read = links_of_read flags spare links tos fit fits in
    let opened : typed_body kind (body_text (Router flags spare links tos))
    ≡ router_body (body_text (Router flags spare links tos)) = rw (eq-eqb kind 1 is) refl in
    let made : with_links (body_text (Router flags spare links tos)) (links, tos)
    ≡ Ok (body_in (body_text (Router flags spare links tos)) (links, tos)) = rw metrics refl in
    opened ∙ ap (λ (o : Option Links). option_map_or
    (with_links (body_text (Router flags spare links tos))) o (Err kinds.Body)) read.0
    ∙ made ∙ ap Ok read.1

network_read : (kind mask : ℕ) (routers : List ℕ) → kind ≡ 2 → FitsBody (Network mask routers)
    → typed_body kind (body_text (Network mask routers)) ≡ Ok (Network mask routers)
network_read kind mask routers is fit =
    let len : length (body_text (Network mask routers)) ≡ 4 + 4 * length routers =
    omega (arith, length_numbers routers) in
    let opened : typed_body kind (body_text (Network mask routers))
    ≡ network_body (body_text (Network mask routers)) =
    rw (ne_eqb kind 1 (omega (arith, is)), eq-eqb kind 2 is) refl in
    let long : 4 ≤ length (body_text (Network mask routers)) = omega (arith, len) in
    let whole : length (body_text (Network mask routers)) % 4 ≡ 0 = omega (arith, len) in
    let count : (length (body_text (Network mask routers)) - 4) / 4 ≡ length routers = omega (arith, len) in
    let made : network_body (body_text (Network mask routers))
    ≡ Ok (Network (number_at 0 4 (body_text (Network mask routers)))
    (numbers_in ((length (body_text (Network mask routers)) - 4) / 4) (flat_map (to_be_bytes w32) routers))) =
    rw (le-ltb _ _ long, eq-eqb _ _ whole) refl in
    let first : number_at 0 4 (body_text (Network mask routers)) ≡ mask =
    big_number-reads_back 4 mask (flat_map (to_be_bytes w32) routers) fit.0 in
    let read : numbers_in (length routers) (flat_map (to_be_bytes w32) routers) ≡ routers =
    ap (numbers_in (length routers)) (sym (append-nil (flat_map (to_be_bytes w32) routers)))
    ∙ numbers_read routers [] fit.1 in
    opened ∙ made
    ∙ ap (λ (n : ℕ). Ok
    (Network (number_at 0 4 (body_text (Network mask routers))) (numbers_in n (flat_map (to_be_bytes w32) routers))))
    count
    ∙ ap (λ (m : ℕ). Ok (Network m (numbers_in (length routers) (flat_map (to_be_bytes w32) routers)))) first
    ∙ ap (λ (r : List ℕ). Ok (Network mask r)) read

pub body_read : (kind : ℕ) (body : Body) → IsOfType kind body → FitsBody body → KeepsMetrics body
    → length (body_text body) < 2 ^ 16 → typed_body kind (body_text body) ≡ Ok body
body_read kind (Router flags spare links tos) is fit metrics fits =
    router_read kind flags spare links tos is fit metrics fits
body_read kind (Network mask routers) is fit metrics fits = network_read kind mask routers is fit
body_read kind (Other bytes) is fit metrics fits = rw (ne_eqb kind 1 is.0, ne_eqb kind 2 is.1) refl
