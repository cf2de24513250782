use Rattle.std.proofs.Common.{◌∙◌, Bool, List, sym, subst, arith}
use Rattle.mrt_graph.specs.Search.{IsMarked}
use Rattle.fabric.specs.FabricParts.{ArePartsKept, FabricParts}
use Rattle.fabric.specs.Viewed.{parts_with}
use Rattle.mrt_rows.specs.RowsTo.{rows_in}
use Rattle.mrt_answer.proofs.PacketsServed.{node_below, node_of_routes}
use Rattle.mrt_answer.proofs.packets.tables_to.Goals as goal

pub wanted_nodes-requires-clause-within : goal.wanted_nodes-requires-clause-within
wanted_nodes-requires-clause-within c = λ t among. omega (arith, c.requires.within t among, c.in_ok-routes.ensures.made.nodes.one_each)

pub wanted_nodes-requires-clause-nodes : goal.wanted_nodes-requires-clause-nodes
wanted_nodes-requires-clause-nodes c = λ t d at.
    omega (
      arith,
      node_below c.args.net.now.area c.args.net.now.island.graph c.in_ok-routes.routes c.in_ok-routes.ensures.made t d at,
      c.node_count.ensures.count,
    )

pub returns : goal.returns
returns c =
    let net = c.args.net.now in
    let routes = c.in_ok-routes.routes in
    let own = c.in_ok-columns.ensures.computed in
    let parts : FabricParts = parts_with net.area net.island.graph (rows_in c.in_ok-rows.rows) routes in
    let kept : ArePartsKept parts = record {
      area_kept = c.count-count.ensures.kept;
      island_kept = c.node_count.ensures.kept;
      fits = c.in_ok-routes.ensures.made.fits;
    } in
    record {
      routed = c.in_ok-routes.ensures.made;
      links = c.in_ok-routes.ensures.links ∙ c.as_slice.ensures;
      columns = c.in_ok-routes.ensures.columns;
      file = own.file;
      certificate = own.certificate;
      agree = λ t among d at s.
          sym (c.in_ok-rows.ensures.rows own.file own.of_columns d
          (subst (λ (marks : List Bool). IsMarked marks d) (sym c.deref.ensures.value)
          ((c.in_ok-wanted.ensures.marked d).1 (record { t = t; among = among; is = node_of_routes parts kept routes c.in_ok-routes.ensures.made t d at }))) s);
    }
