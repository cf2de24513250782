use Rattle.std.proofs.Common.{◌≡◌, ◌∙◌, ◌<◌, ℕ, length, refl, sym, subst}
use Rattle.mrt_graph.specs.GraphInvariant.{IsTopology}
use Rattle.mrt_rows.specs.CertOf.{IsCertOf}
use Rattle.cert_stream.specs.steps.Stream.{HaveSameParts}
use Rattle.cert_stream.specs.Stream.{Stream}
use Rattle.cert_stream.proofs.OneFile.{other_is_none, same_count, same_is_one}
use Rattle.cert_stream.proofs.StillStream.{still_stream}
use Rattle.cert_stream.proofs.cert_stream.CertStream.tells_the_same.Goals as goal

pub are_rows_same-requires-clause-count : goal.are_rows_same-requires-clause-count
are_rows_same-requires-clause-count c =
    let file = c.self.invariant.0.some.0 in
    let second = c.other.invariant.0.some.0 in
    let is : IsCertOf c.args.self.now.graph c.args.self.now.root file = subst (λ (it : Stream). IsCertOf it.graph it.root file) c.self.view_is c.self.invariant.0.some.1 in
    let second_is : IsCertOf c.args.other.now.graph c.args.other.now.root second = subst (λ (it : Stream). IsCertOf it.graph it.root second) c.other.view_is c.other.invariant.0.some.1 in
    let parts : HaveSameParts file second = (c.has_same_parts.ensures file second is second_is).0 c.if-has_same_parts.true in
    same_count c.self.inside.graph c.other.inside.graph _ _ file second c.self.invariant.0.some.1 c.other.invariant.0.some.1 parts

pub returns-then-has_same_parts : goal.returns-then-has_same_parts
returns-then-has_same_parts c = λ file second is second_is.
    let now : IsCertOf c.self.inside.graph c.self.inside.rows.root file = subst (λ (it : Stream). IsCertOf it.graph it.root file) (sym c.self.view_is) is in
    let second_now : IsCertOf c.other.inside.graph c.other.inside.rows.root second = subst (λ (it : Stream). IsCertOf it.graph it.root second) (sym c.other.view_is) second_is in
    let one = c.one_spelling.ensures.one file second (c.self.invariant.0.within file now) (c.other.invariant.0.within second second_now) in
    same_is_one c.self.inside.graph c.other.inside.graph _ _ file second now second_now c.has_same_parts.result c.are_rows_same.result c.are_rows_same.result
    c.if-has_same_parts.true refl (c.has_same_parts.ensures file second is second_is) (c.are_rows_same.ensures.same file second now second_now) one

pub returns-else-has_same_parts : goal.returns-else-has_same_parts
returns-else-has_same_parts c = λ file second is second_is.
    let now : IsCertOf c.self.inside.graph c.self.inside.rows.root file = subst (λ (it : Stream). IsCertOf it.graph it.root file) (sym c.self.view_is) is in
    let second_now : IsCertOf c.other.inside.graph c.other.inside.rows.root second = subst (λ (it : Stream). IsCertOf it.graph it.root second) (sym c.other.view_is) second_is in
    other_is_none c.self.inside.graph c.other.inside.graph _ _ file second now second_now c.has_same_parts.result c.has_same_parts.result
    c.if-has_same_parts.false refl (c.has_same_parts.ensures file second is second_is)

pub returns-then-is_of_the_same : goal.returns-then-is_of_the_same
returns-then-is_of_the_same c = λ file second is second_is.
    let one : c.args.self.now ≡ c.args.other.now = c.is_of_the_same.ensures c.if-is_of_the_same.true in
    let here : IsCertOf c.args.other.now.graph c.args.other.now.root file = subst (λ (it : Stream). IsCertOf it.graph it.root file) one is in
    let root = c.other.invariant.1 in
    let kept : IsTopology c.args.other.now.graph = subst (λ (it : Stream). IsTopology it.graph) c.other.view_is root.kept in
    let within : c.args.other.now.root < length c.args.other.now.graph.ids =
    subst (λ (it : Stream). it.root < length it.graph.ids) c.other.view_is (subst (λ (n : ℕ). n < length c.other.inside.graph.ids) root.same root.within) in
    (λ _. c.one_certificate.ensures.one c.args.other.now.graph c.args.other.now.root file second kept within here second_is, λ _. refl)

pub invariant_of-self : goal.invariant_of-self
invariant_of-self c = (
  still_stream c.self.inside.graph c.self.inside.number c.self.inside.nodes.items c.self.inside.links.items c.self.inside.rows _ c.self.inside.writer
      c.self.invariant.0 c.are_rows_same.ensures.made c.are_rows_same.ensures.root,
  record {
    same = c.self.invariant.1.same ∙ sym c.are_rows_same.ensures.root;
    within = c.self.invariant.1.within;
    kept = c.self.invariant.1.kept;
  },
)

pub invariant_of-other : goal.invariant_of-other
invariant_of-other c = (
  still_stream c.other.inside.graph c.other.inside.number c.other.inside.nodes.items c.other.inside.links.items c.other.inside.rows _ c.other.inside.writer
      c.other.invariant.0 c.are_rows_same.ensures.others_made c.are_rows_same.ensures.others_root,
  record {
    same = c.other.invariant.1.same ∙ sym c.are_rows_same.ensures.others_root;
    within = c.other.invariant.1.within;
    kept = c.other.invariant.1.kept;
  },
)
