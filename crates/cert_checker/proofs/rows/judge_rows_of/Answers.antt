use Rattle.std.proofs.Common.{◌≡◌, ◌+◌, ◌∙◌, [], ℕ, Some, inl, length, ap, arith}
use Rattle.std.specs.List.{range_with_len}
use Rattle.std.specs.Prelude.{Contains}
use Rattle.cert_checker.specs.steps.RowFaults.{row_test}
use Rattle.mrt_graph.proofs.ListPlaces.{contains_at}
use Rattle.mrt_graph.proofs.Pairs.{range_at}
use Rattle.cert_checker.proofs.RelatedRows.{ends, none_listed, starts}
use Rattle.cert_checker.proofs.rows.judge_rows_of.Goals as goal

pub returns-in-None : goal.returns-in-None
returns-in-None c =
    let cert = c.args.c.now in
    let s = c.args.s.now.number in
    let n = length cert.nodes in
    let test = row_test c.args.g.now c.args.root cert in
    let start = starts test cert s c.requires.source.within (Contains []) none_listed c.args.before c.requires.before in
    ends test cert s c.requires.source.within (Contains (range_with_len 0 n))
    (λ y within.
    let here : 0 + y ≡ y = omega arith in
    inl (contains_at (range_with_len 0 n) y y (range_at 0 n y within ∙ ap (λ (x : ℕ). Some x) here)))
    c.judge_some.result (c.judge_some.ensures [] start)
