use Rattle.std.proofs.Common.{◌∙◌, ℕ, Some, length, sym, ap, refl, true≢false}
use Rattle.std.proofs.lemmas.Option.{slice_get_read}
use Rattle.lfa_alt.specs.steps.NeighbourPaths.{path_across}
use Rattle.lfa_alt.proofs.PathsFound.{across_again, across_all, across_left, across_more, across_none}
use Rattle.lfa_alt.proofs.neighbour_paths.push_across.Goals.{then-leads_on+then-not-is_again+in_ok-push, else-leads_on, else-leads_on-via-then-leads_on+else-not-is_again, else-leads_on-via-else-leads_on}
use Rattle.lfa_alt.proofs.neighbour_paths.push_across.Goals as goal

pub loop-second-init : goal.loop-second-init
loop-second-init c = across_none c.args.arcs.now c.args.source c.args.number c.args.arc.now c.args.paths.now.items

pub loop-second-preserved : goal.loop-second-preserved
loop-second-preserved c =
    let arcs = c.args.arcs.now in
    let s = c.args.source in
    let number = c.args.number in
    let arc = c.args.arc.now in
    let olds = c.args.paths.now.items in
    let paths = c.loop-second.paths.items in
    let second = c.loop-second.second in
    let onward = c.index-arcs-second.result in
    let at = slice_get_read arcs (length arcs) second onward refl c.loop-second-test.true c.index-arcs-second.is in
    let are = c.loop-second.invariant in
    elim c.if-leads_on.branch [
      | then-leads_on+then-not-is_again+in_ok-push w ↦
          rw (w.paths-is, w.in_ok-push.ensures.items) (across_more arcs s number arc olds paths second onward at are (c.leads_on.ensures.0 w.if-leads_on.true) w.path_across.result
          (w.path_across.ensures ∙ ap (λ (n : ℕ). path_across number arc (Some n) onward) w.new.ensures))
      | else-leads_on w ↦
          rw w.paths-is (across_left arcs s number arc olds paths second onward at are
          (elim w.else-leads_on.branch [
            | else-leads_on-via-then-leads_on+else-not-is_again v ↦ across_again arcs s number arc olds paths second onward at are (v.is_again.ensures.0 v.if-not-is_again.false)
            | else-leads_on-via-else-leads_on v ↦ λ on. absurd (true≢false (sym (c.leads_on.ensures.1 on) ∙ v.if-leads_on.false))
          ]))
    ]

pub returns : goal.returns
returns c =
    across_all c.args.arcs.now c.args.source c.args.number c.args.arc.now c.args.paths.now.items c.loop-second.paths.items c.loop-second.second c.loop-second-test.false c.loop-second.invariant
