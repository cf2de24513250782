use Rattle.std.proofs.Common.{◌∙◌, ◌↔◌, Bool, List, ℕ, ap, length}
use Rattle.std.specs.Prelude.{IsTrue}
use Rattle.mrt_graph.specs.Apart.{Apart}
use Rattle.mrt_graph.specs.Certificate.{row_of}
use Rattle.mrt_graph.specs.Uses.{nodes_met}
use Rattle.mrt_plain.proofs.Answering.{NodesApart, apart_refused, apart_told, links_at, nodes_at, ok_like}
use Rattle.mrt_plain.proofs.sharing.apart.Goals as goal

pub returns-then-not-branch : goal.returns-then-not-branch
returns-then-not-branch c =
    apart_refused c.args.links.now c.args.s c.args.t _ _ c.in_ok-shared_links_separate.field-0
    (links_at c.args.links.now c.args.s c.args.t c.deref.result.now c.deref-2.result.now _ _ c.in_ok-shared_links_separate.field-0
    (c.deref.ensures.value ∙ c.in_ok-blue.ensures.links) (c.deref-2.ensures.value ∙ c.in_ok-red.ensures.links)
    c.in_ok-shared_links_separate.ensures)
    c.if-not-branch.true

pub returns : goal.returns
returns c =
    ok_like
    (λ (b : Bool). IsTrue b ↔ NodesApart c.args.links.now c.args.s c.args.t c.deref-3.result.now c.deref-4.result.now)
    (λ (b : Bool). IsTrue b ↔ Apart c.args.links.now (length c.args.c.now.nodes) (row_of c.args.c.now) c.args.s c.args.t)
    (λ told nodes_apart. apart_told c.args.links.now c.args.s c.args.t _ _ c.in_ok-shared_links_separate.field-0
    (links_at c.args.links.now c.args.s c.args.t c.deref.result.now c.deref-2.result.now _ _ c.in_ok-shared_links_separate.field-0
    (c.deref.ensures.value ∙ c.in_ok-blue.ensures.links) (c.deref-2.ensures.value ∙ c.in_ok-red.ensures.links)
    c.in_ok-shared_links_separate.ensures)
    c.if-not-branch.false told
    (nodes_at c.args.links.now c.args.s c.args.t c.deref-3.result.now c.deref-4.result.now _ _ told
    (c.deref-3.ensures.value ∙ c.in_ok-blue.ensures.nodes ∙ ap (λ (w : List ℕ). nodes_met c.args.links.now c.args.s w) c.in_ok-blue.ensures.links)
    (c.deref-4.ensures.value ∙ c.in_ok-red.ensures.nodes ∙ ap (λ (w : List ℕ). nodes_met c.args.links.now c.args.s w) c.in_ok-red.ensures.links)
    nodes_apart))
    c.shared_nodes_separate.result c.shared_nodes_separate.ensures
