use Rattle.std.proofs.Common.{◌∙◌, ◌<◌, ℕ, get_or, length, sym, ap, subst, arith}
use Rattle.mrt_graph.specs.Kin.{Kin}
use Rattle.mrt_graph.proofs.KinOf.{begin_at, few_below, itself_below, place_tells}
use Rattle.mrt_graph.proofs.relatives.Relatives.place.Goals as goal

pub overflow_add-result : goal.overflow_add-result
overflow_add-result c =
    let kin : Kin = record { blocks = c.self.inside.members; heads = c.self.inside.children } in
    omega (arith, c.count_before-rank.ensures, few_below kin c.args.s c.args.t, c.requires.target, ap (λ (k : Kin). length k.blocks) c.self.view_is, c.self.invariant.few, c.index.type_inv)

pub overflow_sub-result : goal.overflow_sub-result
overflow_sub-result c =
    let kin : Kin = record { blocks = c.self.inside.members; heads = c.self.inside.children } in
    let t_in : c.args.t < length kin.blocks = subst (λ (k : Kin). c.args.t < length k.blocks) (sym c.self.view_is) c.requires.target in
    omega (arith, itself_below kin c.args.s c.args.t c.count_before-rank.result t_in c.count_before-rank.ensures, c.one_if_below-itself.ensures)

pub returns : goal.returns
returns c w same =
    let kin : Kin = record { blocks = c.self.inside.members; heads = c.self.inside.children } in
    let s_in : c.args.s < length kin.blocks = subst (λ (k : Kin). c.args.s < length k.blocks) (sym c.self.view_is) c.requires.source in
    let t_in : c.args.t < length kin.blocks = subst (λ (k : Kin). c.args.t < length k.blocks) (sym c.self.view_is) c.requires.target in
    place_tells w kin c.index.result.now c.count_before-rank.result c.one_if_below-itself.result c.args.s c.args.t (same ∙ sym c.self.view_is) s_in t_in c.requires.different
    (begin_at kin c.self.inside.begins.items c.args.s c.index.result.now c.self.invariant.starts (omega (arith, s_in))
    (c.index.ensures ∙ ap (λ (k : ℕ). get_or c.self.inside.begins.items k c.index.result.now) c.get.ensures.value)) c.count_before-rank.ensures c.one_if_below-itself.ensures
