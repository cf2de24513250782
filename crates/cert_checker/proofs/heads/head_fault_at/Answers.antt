use Rattle.std.proofs.Common.{◌≡◌, ◌∙◌, ℕ, true, sym, length, Option, Some, None}
use Rattle.std.specs.Option.{MatchOption}
use Rattle.cert_checker.specs.steps.Found.{FoundFirst}
use Rattle.mrt_graph.specs.Certificate.{Certificate}
use Rattle.mrt_graph.specs.HeadsAndBlocks.{Alone, Beside, HeadFails, HeadHoldsAt, one_head, placed}
use Rattle.cert_checker.proofs.heads.head_fault_at.Goals as goal

-- what a search for another head has found at a node that is placed
found_beside : (c : Certificate) (root a : ℕ) → placed c root a ≡ true → (found : Option ℕ)
    → FoundFirst (one_head c a) (length c.nodes) found
    → MatchOption found (HeadHoldsAt c root a) (HeadFails c root a)
found_beside c root a alone None beside = record { alone = alone; beside = beside }
found_beside c root a alone (Some b) first = Beside b alone first

pub returns-then-not-is_placed : goal.returns-then-not-is_placed
returns-then-not-is_placed c = Alone (sym c.is_placed.ensures ∙ c.if-not-is_placed.true)

pub returns : goal.returns
returns c = found_beside _ _ _ (sym c.is_placed.ensures ∙ c.if-not-is_placed.false) _ c.first_other_head.ensures

pub returns-then-agree : goal.returns-then-agree
returns-then-agree c = record {
  alone = sym c.is_placed.ensures ∙ c.if-not-is_placed.false;
  beside = λ b within. c.requires.agree c.if-agree.true c.args.a b c.requires.within within;
}
