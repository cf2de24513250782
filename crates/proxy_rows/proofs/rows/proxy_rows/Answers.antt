use Rattle.std.proofs.Common.{◌≡◌, length, sym, ap, subst, arith}
use Rattle.mrt_graph.specs.Certificate.{row_of}
use Rattle.mrt_graph.specs.Rules.{GraphRule}
use Rattle.proxy_rows.specs.declared.attachment.Attachment.{Attachment}
use Rattle.proxy_rows.specs.ProxyRows.{AreRowsOf}
use Rattle.proxy_rows.specs.LabelledGraph.{ReadFrom}
use Rattle.proxy_rows.proofs.AnyRows.{read_of}
use Rattle.proxy_rows.proofs.OneAnswer.{one_attachment}
use Rattle.proxy_rows.proofs.ProxySound.{sound}
use Rattle.proxy_rows.proofs.rows.proxy_rows.Goals as goal

pub attach-requires : goal.attach-requires
attach-requires c =
    let same = (c.requires.accepted.accepted GraphRule).counts.nodes in
    let nodes = ap length c.nodes-nodes.ensures.value in
    record {
      first = omega (arith, c.requires.first, same, nodes);
      second = omega (arith, c.requires.second, same, nodes);
      different = c.requires.different;
    }

pub proxy_rows_at-requires : goal.proxy_rows_at-requires
proxy_rows_at-requires c =
    let found = c.in-Some.ensures.found c.args.g.now c.args.c.now (sym c.nodes-nodes.ensures.value) c.requires.accepted in
    record {
      read = read_of c.args.g.now c.args.c.now c.nodes-nodes.result.now c.links-links.result.now c.args.a c.args.b c.in-Some.at
          c.nodes-nodes.ensures.value c.links-links.ensures c.requires.accepted found;
    }

pub returns-clause-rows : goal.returns-clause-rows
returns-clause-rows c =
    let found = c.in-Some.ensures.found c.args.g.now c.args.c.now (sym c.nodes-nodes.ensures.value) c.requires.accepted in
    c.in_ok-rows.ensures.rows
    (read_of c.args.g.now c.args.c.now c.nodes-nodes.result.now c.links-links.result.now c.args.a c.args.b c.in-Some.at
    c.nodes-nodes.ensures.value c.links-links.ensures c.requires.accepted found)

pub returns-clause-sound : goal.returns-clause-sound
returns-clause-sound c at rows is with =
    let g = c.args.g.now in
    let cert = c.args.c.now in
    let kept = c.proxy_rows_at.ensures.kept in
    let accepted = c.requires.accepted in
    let found = c.in-Some.ensures.found g cert (sym c.nodes-nodes.ensures.value) accepted in
    let read : ReadFrom g c.nodes-nodes.result.now c.links-links.result.now c.in-Some.at (row_of cert) =
    read_of g cert c.nodes-nodes.result.now c.links-links.result.now c.args.a c.args.b c.in-Some.at c.nodes-nodes.ensures.value c.links-links.ensures accepted found in
    let are = c.in_ok-rows.ensures.rows read in
    let same : are.at ≡ at = one_attachment g cert c.args.a c.args.b are.at at kept accepted are.attached is in
    let entries : AreRowsOf g cert at c.in_ok-rows.rows.items = subst (λ (x : Attachment). AreRowsOf g cert x c.in_ok-rows.rows.items) same are.rows in
    sound g cert at (record { kept = kept; accepted = accepted; a = c.args.a; b = c.args.b; attached = is }) c.in_ok-rows.rows.items entries.one_each entries.each rows with
