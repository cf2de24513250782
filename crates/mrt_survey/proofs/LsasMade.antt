-- The LSAs of a network that is made have no fault.
use Rattle.std.proofs.Common.{◌≡◌, ◌≤◌, ◌<◌, ◌∙◌, ◌+◌, ◌^◌, ◌++◌, ◌==◌, ℕ, false, List, [], ◌∷◌, length, map, refl, sym, ap, arith, rules}
use Rattle.std.specs.Prelude.{unsigned_abs}
use Rattle.std.specs.List.{AllByRecursion, range_with_len}
use Rattle.std.proofs.lemmas.Bool.{ne_eqb}
use Rattle.std.proofs.lemmas.Grind.{flat_map-append}
use Rattle.std.proofs.lemmas.List.{append-nil}
use Rattle.std.proofs.lemmas.List.FromFn.{map-range_with_len_more}
use Rattle.ospf_lsa.specs.declared.lsa.Lsa.{Lsa}
use Rattle.ospf_lsa.specs.declared.lsa.RouterLink.{RouterLink}
use Rattle.ospf_lsa.specs.LsaText.{lsa_length, lsa_text, lsas_text}
use Rattle.ospf_lsa.specs.Lsas.{AreLsas, FitsHeader, FitsLink, IsLsa, has_zero_metric}
use Rattle.ospf_lsa.specs.Written.{IsReadable}
use Rattle.ospf_lsa.proofs.Renewals.{renewed_kept}
use Rattle.mrt_graph.proofs.Members.{all_has, all_map, all_weaker, pass_none}
use Rattle.mrt_survey.specs.declared.made_link.MadeLink.{MadeLink}
use Rattle.mrt_survey.specs.MadeLinks.{made_links}
use Rattle.mrt_survey.specs.MadeLsas.{ends_of, lsa_of, made_lsas, placed, plain_lsa}
use Rattle.mrt_survey.proofs.EndsMade.{IsMadeEnd, bare_ends, ends_kept, plain_fits}
use Rattle.mrt_survey.proofs.MadeBounds.{IsMadeLink, all_range, count_made, links_kept}

end_fits : (nodes most : ℕ) → nodes < 2 ^ 32 → most < 2 ^ 32 → (end : RouterLink) → IsMadeEnd nodes most end → FitsLink end
end_fits nodes most few_nodes few end kept = record {
  id = omega (arith, kept.id_most, few_nodes);
  link_data = omega (arith, kept.data_most, few);
  kind = omega (arith, kept.kind);
  entries = omega (arith, kept.no_entries);
  metric = omega (arith, kept.metric_most);
}

header_fits : (links : List MadeLink) (router : ℕ) → router < 2 ^ 32 → FitsHeader (plain_lsa links router)
header_fits links router within = record {
  age = omega arith;
  options = omega arith;
  kind = omega arith;
  id = within;
  router = within;
  sequence = search (rules);
}

not_zero : (nodes most : ℕ) (end : RouterLink) → IsMadeEnd nodes most end → has_zero_metric end ≡ false
not_zero nodes most end kept = let none : (end.metric == 0) ≡ false = ne_eqb end.metric 0 (λ zero. omega (arith, zero, kept.metric_some)) in rw none refl

readable : (nodes : ℕ) (links : List MadeLink) (router : ℕ) → AllByRecursion (IsMadeLink nodes) links → IsReadable (plain_lsa links router)
readable nodes links router all = record {
  not_reserved = λ e. let apart : 2147483647 ≡ 2147483648 = ap unsigned_abs e in omega (arith, apart);
  own_id = λ _. refl;
  metrics = pass_none has_zero_metric (ends_of links router)
      (λ end has. not_zero nodes (length links) end (all_has (IsMadeEnd nodes (length links)) (ends_of links router) end (ends_kept nodes links router all) has));
}

-- a router's LSA
pub lsa_kept : (nodes : ℕ) (links : List MadeLink) (router : ℕ) → nodes ≤ 2048 → length links ≤ 4096 → AllByRecursion (IsMadeLink nodes) links → router < 2 ^ 32
    → IsLsa (lsa_of links router)
lsa_kept nodes links router few_nodes few all within =
    let body : AllByRecursion FitsLink (ends_of links router) =
    all_weaker (IsMadeEnd nodes (length links)) FitsLink (end_fits nodes (length links) (omega (arith, few_nodes)) (omega (arith, few))) (ends_of links router)
    (ends_kept nodes links router all) in
    (renewed_kept (plain_lsa links router) (header_fits links router within) refl
    (omega arith, omega arith, body, tt, bare_ends links router) (plain_fits links router few)
    (readable nodes links router all)).1

-- an LSA at another place
elsewhere : (lsa : Lsa) (at : ℕ) → IsLsa lsa → IsLsa (record lsa { at = at })
elsewhere lsa at kept = record {
  header = record {
    age = kept.header.age;
    options = kept.header.options;
    kind = kept.header.kind;
    id = kept.header.id;
    router = kept.header.router;
    sequence = kept.header.sequence;
  };
  checksum = kept.checksum;
  good = kept.good;
  not_reserved = kept.not_reserved;
  own_id = kept.own_id;
  of_type = kept.of_type;
  body = kept.body;
  metrics = kept.metrics;
  length_fits = kept.length_fits;
}

placed_kept : (at : ℕ) (lsas : List Lsa) → AllByRecursion IsLsa lsas → AreLsas at (placed at lsas)
placed_kept at [] all = tt
placed_kept at (lsa ∷ lsas) all = (refl, elsewhere lsa at all.0, placed_kept (at + lsa_length lsa) lsas all.1)

placed_text : (at : ℕ) (lsas : List Lsa) → lsas_text (placed at lsas) ≡ lsas_text lsas
placed_text at [] = refl
placed_text at (lsa ∷ lsas) = ap (λ (bytes : List ℕ). lsa_text lsa ++ bytes) (placed_text (at + lsa_length lsa) lsas)

pub few_links : (number nodes : ℕ) → nodes ≤ 2048 → length (made_links number nodes) ≤ 4096
few_links number nodes few = let count = count_made number nodes in omega (arith, few, count)

-- all of them
pub lsas_kept : (number nodes : ℕ) → 4 ≤ nodes → nodes ≤ 2048 → AreLsas 0 (made_lsas number nodes)
lsas_kept number nodes some few =
    placed_kept 0 (map (lsa_of (made_links number nodes)) (range_with_len 1 nodes))
    (all_map IsLsa (lsa_of (made_links number nodes)) (range_with_len 1 nodes)
    (all_range (λ v. IsLsa (lsa_of (made_links number nodes) v)) 1 nodes
    (λ v _ most. lsa_kept nodes (made_links number nodes) v few (few_links number nodes few) (links_kept nodes some number) (omega (arith, most, few)))))

-- their bytes, one router's after another
pub made_text : (number nodes : ℕ) → lsas_text (made_lsas number nodes) ≡ lsas_text (map (lsa_of (made_links number nodes)) (range_with_len 1 nodes))
made_text number nodes = placed_text 0 (map (lsa_of (made_links number nodes)) (range_with_len 1 nodes))

-- one router's more
pub text_more : (links : List MadeLink) (router count : ℕ) (before after : List ℕ) → before ≡ lsas_text (map (lsa_of links) (range_with_len 1 count))
    → router ≡ count + 1 → after ≡ before ++ lsa_text (lsa_of links router) → after ≡ lsas_text (map (lsa_of links) (range_with_len 1 (count + 1)))
text_more links router count before after so_far is put =
    put ∙ (λ i. so_far i ++ lsa_text (lsa_of links (is i)))
    ∙ sym (ap lsas_text (map-range_with_len_more (lsa_of links) 1 count (count + 1) (omega arith))
    ∙ flat_map-append lsa_text (map (lsa_of links) (range_with_len 1 count)) (lsa_of links (count + 1) ∷ [])
    ∙ ap (λ (xs : List ℕ). lsas_text (map (lsa_of links) (range_with_len 1 count)) ++ xs) (append-nil (lsa_text (lsa_of links (count + 1)))))
