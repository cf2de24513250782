use Rattle.std.proofs.Common.{◌≡◌, ◌∙◌, ◌*◌, ◌-◌, ℕ, List, filter, length, subst, sym, ap, arith}
use Rattle.mrt_graph.specs.declared.cert.Row.{Row}
use Rattle.mrt_graph.specs.Certificate.{certificate_of}
use Rattle.mrt_graph.specs.Foldable.{IsFoldable}
use Rattle.mrt_graph.specs.Tags.{is_near}
use Rattle.mrt_graph.proofs.Unfolding.{all_near, folded_certificate, folds, same_near, whole_certificate}
use Rattle.mrt_graph.proofs.cert.Cert.folded.Goals.{Then-len-count}
use Rattle.mrt_graph.proofs.cert.Cert.folded.Goals as goal

-- there are as many rows as pairs
all : (c : Then-len-count) → length c.args.near.items ≡ length c.args.nodes.items * (length c.args.nodes.items - 1)
all c =
    let rows : c.len.result ≡ length c.args.near.items = omega arith in
    let nodes : c.len-count.result ≡ length c.args.nodes.items = omega arith in
    sym rows ∙ c.if-len-count.true ∙ ap (λ (n : ℕ). n * (n - 1)) nodes

pub invariant_of-result : goal.invariant_of-result
invariant_of-result c =
    (whole_certificate c.args.nodes.items c.args.links.items c.args.near.items c.requires.rows (all (goal.at.invariant_of-result c).Then-len-count), tt)

pub returns-then-len-count-clause-near : goal.returns-then-len-count-clause-near
returns-then-len-count-clause-near c =
    subst (λ (rows : List Row). filter is_near rows ≡ c.args.near.items)
    (all_near c.args.nodes.items c.args.near.items c.requires.rows.unfolds (all (goal.at.returns-then-len-count-clause-near c).Then-len-count))
    (same_near c.args.nodes.items c.args.near.items c.requires.rows.unfolds)

pub returns-then-len-count-clause-foldable : goal.returns-then-len-count-clause-foldable
returns-then-len-count-clause-foldable c =
    subst (λ (rows : List Row). IsFoldable (certificate_of c.args.nodes.items c.args.links.items rows))
    (all_near c.args.nodes.items c.args.near.items c.requires.rows.unfolds (all (goal.at.returns-then-len-count-clause-foldable c).Then-len-count))
    (folds c.args.nodes.items c.args.near.items c.requires.rows.unfolds c.args.links.items)

pub returns-then-len-count-clause-kept : goal.returns-then-len-count-clause-kept
returns-then-len-count-clause-kept c =
    whole_certificate c.args.nodes.items c.args.links.items c.args.near.items c.requires.rows (all (goal.at.returns-then-len-count-clause-kept c).Then-len-count)

pub invariant_of-result-2 : goal.invariant_of-result-2
invariant_of-result-2 c =
    (folded_certificate c.args.nodes.items c.args.links.items c.args.near.items c.requires.rows, record { index = c.requires.index; folded = c.requires.rows })

pub returns-clause-near : goal.returns-clause-near
returns-clause-near c = same_near c.args.nodes.items c.args.near.items c.requires.rows.unfolds

pub returns-clause-foldable : goal.returns-clause-foldable
returns-clause-foldable c = folds c.args.nodes.items c.args.near.items c.requires.rows.unfolds c.args.links.items

pub returns-clause-kept : goal.returns-clause-kept
returns-clause-kept c = folded_certificate c.args.nodes.items c.args.links.items c.args.near.items c.requires.rows
