use Rattle.std.proofs.Common.{◌≡◌, ◌<◌, ◌∙◌, ℕ, Some, get_or, length, slice_get, sym, ap, subst, arith}
use Rattle.mrt_graph.specs.Groups.{with_key}
use Rattle.mrt_graph.specs.Kin.{Kin}
use Rattle.mrt_graph.specs.steps.Kin.{IsUpperNumber, kin_before}
use Rattle.mrt_graph.proofs.KinOf.{begin_at}
use Rattle.mrt_graph.proofs.relatives.Relatives.block_places.Goals as goal

pub returns-clause-places : goal.returns-clause-places
returns-clause-places c =
    let i = c.self.inside in
    let s = c.args.s in
    let kin : Kin = record { blocks = i.members; heads = i.children } in
    let is : kin ≡ c.args.self.now = c.self.view_is in
    let s_in : s < length kin.blocks = subst (λ (k : Kin). s < length k.blocks) (sym is) c.requires in
    record {
      within = c.requires;
      both = sym (ap (λ (k : Kin). length k.heads) is) ∙ c.self.invariant.both ∙ ap (λ (k : Kin). length k.blocks) is;
      few = omega (arith, c.self.invariant.few, ap (λ (k : Kin). length k.blocks) is);
      block = subst (λ (k : Kin). slice_get k.blocks s ≡ Some c.key.result) is c.key.ensures.value;
      upper = subst (λ (k : Kin). IsUpperNumber k.heads s c.upper_number.result) is c.upper_number.ensures;
      children = c.of.ensures ∙ ap (with_key i.children) c.get.ensures.value ∙ ap (λ (k : Kin). with_key k.heads s) is;
      begin = begin_at kin i.begins.items s c.index.result.now c.self.invariant.starts (omega (arith, s_in))
          (c.index.ensures ∙ ap (λ (k : ℕ). get_or i.begins.items k c.index.result.now) c.get-2.ensures.value)
          ∙ ap (λ (k : Kin). kin_before k s) is;
      small = omega (arith, c.index.type_inv);
    }
