use Rattle.std.proofs.Common.{◌≡◌, ◌∙◌, ℕ, ◌+◌, List, [], ◌∷◌, ◌++◌, take, Some, length, sym, ap, subst, arith}
use Rattle.std.specs.Prelude.{slice_get}
use Rattle.std.specs.List.{AllByRecursion}
use Rattle.std.proofs.lemmas.List.{take_all, take_more}
use Rattle.std.proofs.lemmas.Option.{slice_get_within, get_or_from_slice_get}
use Rattle.mrt_graph.specs.declared.link.Link.{Link}
use Rattle.mrt_graph.specs.declared.node_id.NodeId.{NodeId}
use Rattle.mrt_graph.specs.GraphInvariant.{IsLink}
use Rattle.mrt_plain.specs.Within.{AreWithin}
use Rattle.mrt_plain.proofs.graph_links.links_of.Goals as goal

taken_more : (links : List Link) (e f : ℕ) (link : Link) → f ≡ e → slice_get links f ≡ Some link → take e links ++ link ∷ [] ≡ take (e + 1) links
taken_more links e f link same here =
    let at : slice_get links e ≡ Some link = subst (λ (k : ℕ). slice_get links k ≡ Some link) same here in
    ap (λ (l : Link). take e links ++ l ∷ []) (sym (get_or_from_slice_get links e link link at)) ∙ sym (take_more links e link (slice_get_within links e link at))

links_within : (ids : List NodeId) (links : List Link) → AllByRecursion (IsLink ids) links → AreWithin (length ids) links
links_within ids [] kept = tt
links_within ids (l ∷ ls) kept = (record { a = omega (arith, kept.0.ascending, kept.0.upper); b = kept.0.upper }, links_within ids ls kept.1)

pub loop-e-preserved : goal.loop-e-preserved
loop-e-preserved c =
    c.in_ok-push.ensures.items
    ∙ ap (λ (so_far : List Link). so_far ++ c.link.result ∷ []) c.loop-e.invariant
    ∙ taken_more c.args.graph.now.links c.loop-e.e c.new.result c.link.result c.new.ensures c.link.ensures.value

pub returns-clause-within : goal.returns-clause-within
returns-clause-within c = links_within c.args.graph.now.ids c.args.graph.now.links c.link_count.ensures.kept.links_kept

pub returns-clause-links : goal.returns-clause-links
returns-clause-links c =
    c.loop-e.invariant ∙ take_all c.loop-e.e c.args.graph.now.links (omega (arith, c.loop-e-test.false, c.link_count-e-end.ensures.count))
