use Rattle.std.proofs.Common.{length, ap, arith}
use Rattle.graph_tests.proofs.PutSteps.{links_put, nodes_put, rows_put}
use Rattle.graph_tests.proofs.steps.put_parts.Goals as goal

pub put_nodes-requires : goal.put_nodes-requires
put_nodes-requires c =
    omega (arith, nodes_put c.args.writer c.nodes.result.now c.requires.header (omega (arith, ap length c.nodes.ensures.value, c.node_count-count.ensures.kept.few_nodes)))

pub put_links-requires : goal.put_links-requires
put_links-requires c =
    let nodes = nodes_put c.args.writer c.nodes.result.now c.requires.header (omega (arith, ap length c.nodes.ensures.value, c.node_count-count.ensures.kept.few_nodes)) in
    omega (arith, links_put c.put_nodes.new.self c.links.result.now (omega (arith, nodes, c.in_ok-put_nodes.ensures.size)) (omega (arith, ap length c.links.ensures, c.node_count-count.ensures.kept.few_links)))

pub put_rows-requires : goal.put_rows-requires
put_rows-requires c =
    let nodes = nodes_put c.args.writer c.nodes.result.now c.requires.header (omega (arith, ap length c.nodes.ensures.value, c.node_count-count.ensures.kept.few_nodes)) in
    let links = links_put c.put_nodes.new.self c.links.result.now (omega (arith, nodes, c.in_ok-put_nodes.ensures.size)) (omega (arith, ap length c.links.ensures, c.node_count-count.ensures.kept.few_links)) in
    omega (arith, rows_put c.put_links.new.self c.args.first.now 1179644 (omega (arith, links, c.in_ok-put_links.ensures.size)) c.requires.first)

pub put_rows-requires-2 : goal.put_rows-requires-2
put_rows-requires-2 c =
    let nodes = nodes_put c.args.writer c.nodes.result.now c.requires.header (omega (arith, ap length c.nodes.ensures.value, c.node_count-count.ensures.kept.few_nodes)) in
    let links = links_put c.put_nodes.new.self c.links.result.now (omega (arith, nodes, c.in_ok-put_nodes.ensures.size)) (omega (arith, ap length c.links.ensures, c.node_count-count.ensures.kept.few_links)) in
    let first = rows_put c.put_links.new.self c.args.first.now 1179644 (omega (arith, links, c.in_ok-put_links.ensures.size)) c.requires.first in
    omega (arith, rows_put c.put_rows.new.self c.args.rest.now 1180144 (omega (arith, first, c.in_ok-put_rows.ensures.size)) c.requires.rest)

pub finish-requires : goal.finish-requires
finish-requires c =
    let nodes = nodes_put c.args.writer c.nodes.result.now c.requires.header (omega (arith, ap length c.nodes.ensures.value, c.node_count-count.ensures.kept.few_nodes)) in
    let links = links_put c.put_nodes.new.self c.links.result.now (omega (arith, nodes, c.in_ok-put_nodes.ensures.size)) (omega (arith, ap length c.links.ensures, c.node_count-count.ensures.kept.few_links)) in
    let first = rows_put c.put_links.new.self c.args.first.now 1179644 (omega (arith, links, c.in_ok-put_links.ensures.size)) c.requires.first in
    let rest = rows_put c.put_rows.new.self c.args.rest.now 1180144 (omega (arith, first, c.in_ok-put_rows.ensures.size)) c.requires.rest in
    omega (arith, rest, c.in_ok-put_rows-2.ensures.size)
