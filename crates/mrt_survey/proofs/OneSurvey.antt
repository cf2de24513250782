-- A graph and its certificate have one survey.
use Rattle.std.proofs.Common.{◌≡◌, ◌∙◌, ◌<◌, ◌++◌, ℕ, List, length, sym, ap, arith}
use Rattle.std.specs.List.{filter, range_with_len, sum_by}
use Rattle.std.proofs.lemmas.Option.{same_Some}
use Rattle.mrt_graph.specs.Certificate.{Certificate}
use Rattle.mrt_graph.specs.Roles.{is_sole}
use Rattle.mrt_graph.specs.Topology.{Topology}
use Rattle.mrt_graph.proofs.Filters.{filter_agree_in}
use Rattle.mrt_graph.proofs.Members.{same_tests}
use Rattle.mrt_survey.specs.Counting.{AreSoMany}
use Rattle.mrt_survey.specs.Separating.{SeparatesTwo}
use Rattle.mrt_graph.specs.Tags.{is_near}
use Rattle.mrt_survey.specs.SurveyText.{HasLink, IsSurveyText, block_line, is_carried, island_line, row_line, sum_line}
use Rattle.mrt_survey.proofs.MadeBounds.{all_range}

-- so many have a property in one way only
one_count : (HasIt : ℕ → Type 0) (n one other : ℕ) → AreSoMany HasIt n one → AreSoMany HasIt n other → one ≡ other
one_count HasIt n one other a b =
    a.passing
    ∙ ap length
    (filter_agree_in a.test b.test (range_with_len 0 n)
    (all_range (λ x. a.test x ≡ b.test x) 0 n
    (λ x _ most.
    let within : x < n = omega (arith, most) in
    same_tests (a.test x) (b.test x) (λ holds. (b.tells x within).1 ((a.tells x within).0 holds)) (λ holds. (a.tells x within).1 ((b.tells x within).0 holds)))))
    ∙ sym b.passing

pub one_survey : (number : ℕ) (g : Topology) (root : ℕ) (c : Certificate) (text other : List ℕ)
    → IsSurveyText number g root c text → IsSurveyText number g root c other → text ≡ other
one_survey number g root c text other a b =
    let id : a.root_id ≡ b.root_id = same_Some a.root_id b.root_id (sym a.root_is ∙ b.root_is) in
    let blocks : a.blocks ≡ b.blocks = one_count (HasLink c.links) (length c.nodes) a.blocks b.blocks a.blocks_are b.blocks_are in
    let separating : a.separating ≡ b.separating =
    one_count (SeparatesTwo g.links (length g.ids)) (length g.ids) a.separating b.separating a.separating_are b.separating_are in
    a.spelled
    ∙ (λ i. island_line number (length g.ids) (length g.links) (id i)
    ++ (block_line (blocks i) (length (filter (λ link. is_sole link.role) c.links)) (separating i)
    ++ (row_line (length (filter is_near c.rows)) (length (filter is_carried c.rows))
    ++ sum_line (sum_by (λ row. row.blue) c.rows) (sum_by (λ row. row.red) c.rows))))
    ∙ sym b.spelled
