use Rattle.std.proofs.Common.{◌∙◌, ◌==◌, ◌<◌, ℕ, length, sym, ap, subst}
use Rattle.mrt_graph.specs.Kin.{Kin}
use Rattle.mrt_graph.proofs.KinOf.{told}
use Rattle.mrt_graph.proofs.relatives.Relatives.are_related.Goals as goal

pub returns : goal.returns
returns c w same =
    let kin : Kin = record { blocks = c.self.inside.members; heads = c.self.inside.children } in
    let s_in : c.args.s < length kin.blocks = subst (λ (k : Kin). c.args.s < length k.blocks) (sym c.self.view_is) c.requires.source in
    let t_in : c.args.t < length kin.blocks = subst (λ (k : Kin). c.args.t < length k.blocks) (sym c.self.view_is) c.requires.target in
    ap (λ (k : ℕ). c.key-4.result == k) c.get-2.ensures.value
    ∙ (told w kin c.args.s c.args.t c.key.result c.key-2.result c.key-3.result c.key-4.result (same ∙ sym c.self.view_is) s_in t_in
    c.key.ensures.value c.key-2.ensures.value c.key-3.ensures.value c.key-4.ensures.value).from_head c.if-key.false
    (λ e. c.if-key-get.false (e ∙ sym c.get.ensures.value))
