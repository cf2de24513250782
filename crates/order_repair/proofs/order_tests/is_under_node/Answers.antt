use Rattle.std.proofs.Common.{◌≡◌, ◌==◌, ◌∙◌, ℕ, Bool, ap, inl}
use Rattle.std.specs.Bool.{Decides}
use Rattle.std.proofs.lemmas.Bool.Decides.{Decides-at, Decides-eqb}
use Rattle.block_spf.specs.declared.reach.Dir.TheVariants.{Down}
use Rattle.link_direction.proofs.TwoNodes.{place_says}
use Rattle.order_repair.proofs.HopsTell.{or_else}
use Rattle.order_repair.proofs.order_tests.is_under_node.Goals as goal

is_head : (at head other : ℕ) (test : Bool) → test ≡ (at == head) → head ≡ other → Decides test (at ≡ other)
is_head at head other test is same = Decides-at test (at == other) (is ∙ ap (λ (h : ℕ). at == h) same) (Decides-eqb at other)

pub returns-then-eq : goal.returns-then-eq
returns-then-eq c = λ root w hops.
    let head = (place_says c.args.view.now.graph.now c.args.view.now.directed.now w c.args.pair.now.source c.place.result hops.are.says c.requires.source.within c.place.ensures).0 in
    (λ yes. inl ((is_head c.args.at c.place.result.head (w.head c.args.pair.now.source) c.eq.result c.eq.ensures head).0 yes), λ low. c.if-eq.true)

pub returns-else-eq : goal.returns-else-eq
returns-else-eq c = λ root w hops.
    let head = (place_says c.args.view.now.graph.now c.args.view.now.directed.now w c.args.pair.now.source c.place.result hops.are.says c.requires.source.within c.place.ensures).0 in
    or_else _ _ c.eq.result c.is_reached.result (is_head c.args.at c.place.result.head (w.head c.args.pair.now.source) c.eq.result c.eq.ensures head) c.if-eq.false
    (c.is_reached.ensures w Down c.args.pair.now.source hops.goes_down)
