use Rattle.std.proofs.Common.{◌≡◌, ◌<◌, ◌∙◌, ◌++◌, [], ℕ, List, get_or, length, sym, ap, subst, arith}
use Rattle.std.specs.Option.{option_to_list}
use Rattle.std.specs.Prelude.{Contains}
use Rattle.cert_checker.specs.steps.RowFaults.{AndSome, KeptRows, row_test}
use Rattle.mrt_graph.specs.Groups.{has_key, with_key}
use Rattle.mrt_graph.specs.Kin.{Kin}
use Rattle.mrt_graph.proofs.Grouping.{passing_low}
use Rattle.mrt_graph.proofs.KinOf.{blocks_count, heads_count}
use Rattle.cert_checker.proofs.RelatedRows.{ends, none_listed, rest, starts}
use Rattle.cert_checker.proofs.rows.judge_related_of.Goals as goal

pub judge_some-kept-requires-clause-targets : goal.judge_some-kept-requires-clause-targets
judge_some-kept-requires-clause-targets c k d =
    let kin : Kin = c.args.relatives.now in
    subst (λ (xs : List ℕ). k < length xs → get_or xs k d < length c.args.c.now.nodes) (sym c.members.ensures) (λ within.
    let low = passing_low (has_key kin.blocks (get_or kin.blocks c.args.s.now.number 0)) (length kin.blocks) k d within in
    omega (arith, low, ap (λ (x : Kin). length x.blocks) c.requires.index, blocks_count c.args.c.now.nodes))

pub judge_some-requires-clause-targets : goal.judge_some-requires-clause-targets
judge_some-requires-clause-targets c k d =
    let kin : Kin = c.args.relatives.now in
    subst (λ (xs : List ℕ). k < length xs → get_or xs k d < length c.args.c.now.nodes) (sym c.children.ensures) (λ within.
    let low = passing_low (has_key kin.heads c.args.s.now.number) (length kin.heads) k d within in
    omega (arith, low, ap (λ (x : Kin). length x.heads) c.requires.index, heads_count c.args.c.now.nodes))

pub returns : goal.returns
returns c =
    let cert = c.args.c.now in
    let s = c.args.s.now.number in
    let test = row_test c.args.g.now c.args.root cert in
    let kin : Kin = c.args.relatives.now in
    let start = starts test cert s c.requires.source.within (Contains []) none_listed c.args.before c.requires.before in
    let kept = c.judge_some.ensures _ (c.judge_upper-kept.ensures _ (c.judge_some-kept.ensures [] start)) in
    let members : c.members.result.now ≡ with_key kin.blocks (get_or kin.blocks s 0) = c.members.ensures in
    let children : c.children.result.now ≡ with_key kin.heads s = c.children.ensures in
    let all = ap (λ (xs : List ℕ). (xs ++ option_to_list c.upper.result) ++ c.children.result.now) members
    ∙ ap (λ (xs : List ℕ). (with_key kin.blocks (get_or kin.blocks s 0) ++ option_to_list c.upper.result) ++ xs) children in
    ends test cert s c.requires.source.within (Contains ((with_key kin.blocks (get_or kin.blocks s 0) ++ option_to_list c.upper.result) ++ with_key kin.heads s))
    (rest c.args.g.now c.args.root cert c.requires.foldable c.requires.root c.requires.top kin (sym c.requires.index) s c.requires.source.within c.upper.result c.upper.ensures)
    c.judge_some.result (subst (λ (xs : List ℕ). KeptRows c.args.g.now c.args.root cert (AndSome cert s (Contains xs)) c.judge_some.result) all kept)
