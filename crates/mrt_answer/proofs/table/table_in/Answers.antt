use Rattle.std.proofs.Common.{ℕ, List, Option, sym, subst}
use Rattle.std.proofs.lemmas.Option.{slice_get_within}
use Rattle.area_graph.specs.Fits.{Fits}
use Rattle.mrt_graph.specs.NodeIds.{router as router_node}
use Rattle.primary_alt.specs.declared.shortest.Primary.{Primary}
use Rattle.primary_alt.specs.Primaries.{ArePrimaries}
use Rattle.mrt_island.specs.declared.island.Island.{Island}
use Rattle.mrt_args.proofs.HandedOn.{if_ok}
use Rattle.mrt_exit.specs.AnswerSteps.{such, ◌▸◌}
use Rattle.mrt_report.specs.TableParts.{table_parts}
use Rattle.mrt_report.specs.TableText.{IsTableText}
use Rattle.mrt_answer.specs.Islands.{own_place}
use Rattle.area_graph.specs.Parts.{AreaParts}
use Rattle.mrt_answer.specs.Texts.{IsTableOf}
use Rattle.mrt_answer.proofs.Tables.{not_network}
use Rattle.mrt_answer.proofs.TextSteps.{ends_second, of_bytes}
use Rattle.mrt_answer.proofs.table.table_in.Goals as goal

pub primaries-requires-clause-within : goal.primaries-requires-clause-within
primaries-requires-clause-within c =
    slice_get_within c.args.net.now.area.ids c.in_ok-spot.spot (router_node c.args.router) c.in_ok-spot.ensures

pub primaries-requires-clause-router : goal.primaries-requires-clause-router
primaries-requires-clause-router c = not_network c.args.net.now.area.ids c.in_ok-spot.spot c.args.router c.in_ok-spot.ensures

pub table_of-requires-clause-kept : goal.table_of-requires-clause-kept
table_of-requires-clause-kept c =
    let net = c.args.net.now in
    record {
      fits = subst (λ (links : List (Option ℕ)). Fits net.area net.island.graph links) (sym c.as_slice.ensures) c.requires.fits;
      within = slice_get_within net.island.graph.ids c.in_ok-source.source (router_node c.args.router) c.in_ok-source.ensures;
      router = not_network net.island.graph.ids c.in_ok-source.source c.args.router c.in_ok-source.ensures;
      primaries = record {
        spot = c.in_ok-spot.spot;
        node = record { id = router_node c.args.router; in_area = c.in_ok-spot.ensures; in_island = c.in_ok-source.ensures };
        entries = subst (λ (entries : List (Option Primary)). ArePrimaries net.area c.in_ok-spot.spot entries)
            (sym c.deref.ensures.value) c.in_ok-primaries.ensures;
      };
    }

pub returns : goal.returns
returns c =
    let area : AreaParts = c.args.net.now.area in
    let island : Island = c.args.net.now.island in
    let source = c.in_ok-source.source in
    let spot = c.in_ok-spot.spot in
    ends_second (own_place island.graph.ids c.args.router) (λ source. own_place area.ids c.args.router ▸ λ spot. such (IsTableOf area island source spot))
    source c.in_ok-source.ensures c.bytes_answer.result
    (ends_second (own_place area.ids c.args.router) (λ spot. such (IsTableOf area island source spot)) spot c.in_ok-spot.ensures c.bytes_answer.result
    (of_bytes (such (IsTableOf area island source spot)) c.table_of.result c.bytes_answer.result
    (if_ok c.table_of.result _ _ c.table_of.ensures (λ text made. record {
      file = made.0;
      certificate = made.1;
      primaries = c.deref.result.now;
      primaries_are = subst (λ (entries : List (Option Primary)). ArePrimaries area spot entries) (sym c.deref.ensures.value)
          c.in_ok-primaries.ensures;
      spelled = subst (λ (links : List (Option ℕ)). IsTableText (table_parts area island.graph links made.0.cert source c.deref.result.now) island.root text.items)
          c.as_slice.ensures made.2;
    })) c.bytes_answer.ensures.text c.bytes_answer.ensures.none))
