use Rattle.std.proofs.Common.{◌≡◌, ◌∙◌, ℕ, List, length, inl, refl, sym, arith}
use Rattle.mrt_graph.specs.declared.cert.CertNode.{CertNode}
use Rattle.mrt_graph.specs.Topology.{Topology}
use Rattle.mrt_rows.specs.declared.rooted.RootedColumns.{RootedColumns}
use Rattle.proxy_rows.specs.declared.attachment.Attachment.{Attachment}
use Rattle.proxy_rows.specs.Attachment.{IsAttachment}
use Rattle.mrt_answer.specs.Made.{HasComputed}
use Rattle.mrt_answer.specs.steps.Made.{IsAttachedBy}
use Rattle.mrt_answer.proofs.ComputedColumns.{as_many}
use Rattle.mrt_answer.proofs.OneProxy.{accepted_for}
use Rattle.mrt_answer.proofs.proxy.proxy_rows_by.Goals.{After-deref}
use Rattle.mrt_answer.proofs.proxy.proxy_rows_by.Goals as goal

-- the certificate of which the columns are made says so of as many nodes as the graph has
nodes_say : (c : After-deref) → c.deref.result.now ≡ c.requires.computed.file.cert.nodes
nodes_say c = c.deref.ensures.value ∙ c.in_ok-nodes.ensures c.requires.computed.file c.requires.computed.of_columns

all_said : (c : After-deref) → length c.deref.result.now ≡ length c.args.graph.now.ids
all_said c = as_many c.args.graph.now c.args.root c.args.columns.now c.requires.computed c.deref.result.now (nodes_say c)

pub attach-requires-clause-first : goal.attach-requires-clause-first
attach-requires-clause-first c = omega (arith, c.requires.first, all_said (goal.at.attach-requires-clause-first c).After-deref)

pub attach-requires-clause-second : goal.attach-requires-clause-second
attach-requires-clause-second c = omega (arith, c.requires.second, all_said (goal.at.attach-requires-clause-second c).After-deref)

pub returns-in_default-clause-none : goal.returns-in_default-clause-none
returns-in_default-clause-none c =
    let own = c.requires.computed in
    inl (own.file, own.certificate, (c.in_default.ensures.none own.file.cert (sym (nodes_say (goal.at.returns-in_default-clause-none c).After-deref))).0 refl)

pub rows_at-requires-clause-made : goal.rows_at-requires-clause-made
rows_at-requires-clause-made c = c.requires.made

pub rows_at-requires-clause-head : goal.rows_at-requires-clause-head
rows_at-requires-clause-head c =
    let own = c.requires.computed in
    let at = (goal.at.rows_at-requires-clause-head c).After-deref in
    let accepted = accepted_for c.args.graph.now c.args.root own.file own.certificate in
    omega (arith, c.in-Some.ensures.head c.args.graph.now own.file.cert (sym (nodes_say at)) accepted, all_said at)

-- by this certificate it is the attachment of the two nodes
abbrev attached : (graph : Topology) (root : ℕ) (columns : RootedColumns) (own : HasComputed graph root columns) (nodes : List CertNode) (at : Attachment) (a b : ℕ)
    → nodes ≡ own.file.cert.nodes → IsAttachment own.file.cert a b at → IsAttachedBy graph columns nodes at
attached graph root columns own nodes at a b says is = record { root = root; own = own; says = says; a = a; b = b; attached = is }

pub rows_at-requires-clause-attached : goal.rows_at-requires-clause-attached
rows_at-requires-clause-attached c =
    let own = c.requires.computed in
    attached c.args.graph.now c.args.root c.args.columns.now own c.deref-2.result.now c.in-Some.at c.args.a c.args.b
    (c.deref-2.ensures.value ∙ c.in_ok-nodes.ensures own.file own.of_columns)
    (c.in-Some.ensures.found c.args.graph.now own.file.cert (sym (nodes_say (goal.at.rows_at-requires-clause-attached c).After-deref))
    (accepted_for c.args.graph.now c.args.root own.file own.certificate))

pub returns-clause-rows : goal.returns-clause-rows
returns-clause-rows c =
    let g = c.args.graph.now in
    let own = c.requires.computed in
    let by = attached g c.args.root c.args.columns.now own c.deref-2.result.now c.in-Some.at c.args.a c.args.b
    (c.deref-2.ensures.value ∙ c.in_ok-nodes.ensures own.file own.of_columns)
    (c.in-Some.ensures.found g own.file.cert (sym (nodes_say (goal.at.returns-clause-rows c).After-deref)) (accepted_for g c.args.root own.file own.certificate)) in
    (own.file, own.certificate, c.in_ok-rows.ensures.rows by)

pub nodes-requires : goal.nodes-requires
nodes-requires c = c.requires.made
