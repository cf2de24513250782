use Rattle.std.proofs.Common.{◌≡◌, ◌∙◌, ◌-◌, ℕ, get_or, length, sym, ap, arith}
use Rattle.mrt_graph.specs.Kin.{Kin}
use Rattle.mrt_graph.proofs.KinOf.{begin_at, count_tells}
use Rattle.mrt_graph.proofs.relatives.Relatives.count.Goals as goal

pub returns : goal.returns
returns c w same =
    let kin : Kin = record { blocks = c.self.inside.members; heads = c.self.inside.children } in
    let begins = c.self.inside.begins.items in
    let last : c.len.result - 1 ≡ length kin.blocks = omega (arith, c.len.ensures, c.self.invariant.starts.some) in
    let is : c.index.result.now ≡ get_or begins (length kin.blocks) c.index.result.now =
    c.index.ensures ∙ ap (λ (k : ℕ). get_or begins k c.index.result.now) last in
    count_tells w kin c.index.result.now (same ∙ sym c.self.view_is) (begin_at kin begins (length kin.blocks) c.index.result.now c.self.invariant.starts (omega arith) is)
