-- What a comparison tells of, and areas of newest instances.
use Rattle.std.proofs.Common.{◌≡◌, ◌∙◌, ◌∷◌, ◌++◌, [], ℕ, List, refl, sym, ap, subst, append_assoc}
use Rattle.ospf_lsa.specs.declared.lsa.Lsa.{Lsa}
use Rattle.lsdb.specs.Entries.{Database}
use Rattle.area_graph.specs.AreaOf.{area_of}
use Rattle.area_graph.proofs.EveryOrder.{same_records}
use Rattle.flood.specs.FloodState.{FloodState}
use Rattle.flood.specs.Runs.{AreNewestOfTheSame, after_deliveries}
use Rattle.flood.specs.declared.script.FloodLine.{FloodLine}
use Rattle.flood.specs.declared.script.FloodLine.TheVariants.{Deliver, Same}
use Rattle.flood.specs.declared.verdict.Verdict.{Verdict}
use Rattle.flood.specs.FloodTexts.{IsCompared, IsFloodText, after_line, deliveries_of, verdict_line}

-- the state after a line leads on by the deliveries that are left
leads_on : (first : FloodState) (line : FloodLine) (before : List FloodLine)
    → after_deliveries (after_line first line) (deliveries_of before) ≡ after_deliveries first (deliveries_of (line ∷ before))
leads_on first (Deliver packet to) before = refl
leads_on first (Same its others of) before = refl

pub compared_in_state : (says : Database → Database → ℕ → Verdict → Type 0) (first : FloodState)
    (before after : List FloodLine) (one other router : ℕ) (text : List ℕ)
    → IsFloodText says first (before ++ Same one other router ∷ after) text
    → (front : List ℕ) × (rest : List ℕ) × (verdict : Verdict) × IsFloodText says first before front
    × IsCompared says (after_deliveries first (deliveries_of before)) one other router verdict
    × (text ≡ front ++ (verdict_line verdict ++ rest))
compared_in_state says first [] after one other router text is =
    ([], is.1, is.3.0, refl, is.3.1, is.2 ∙ ap (λ (t : List ℕ). t ++ is.1) is.3.2)
compared_in_state says first (line ∷ before) after one other router text is =
    let later = compared_in_state says (after_line first line) before after one other router is.1 is.4 in (
      is.0 ++ later.0,
      later.1,
      later.2,
      (is.0, later.0, refl, is.3, later.3),
      subst (λ (state : FloodState). IsCompared says state one other router later.2) (leads_on first line before) later.4,
      is.2 ∙ ap (λ (t : List ℕ). is.0 ++ t) later.5
          ∙ sym (append_assoc is.0 later.0 (verdict_line later.2 ++ later.1)),
    )

pub one_area : (its others : List Lsa) → AreNewestOfTheSame its others → area_of its ≡ area_of others
one_area its others are =
    ap area_of are.one_is ∙ same_records are.lsas are.others are.kept are.settled are.same
    ∙ sym (ap area_of are.other_is)
