use Rattle.std.proofs.Common.{◌≡◌, ◌==◌, ◌∙◌, Some, refl, length, sym}
use Rattle.std.specs.List.{find}
use Rattle.std.proofs.lemmas.Iterator.Adapters.{option_map_id}
use Rattle.std.proofs.lemmas.Option.{none-some}
use Rattle.std.proofs.lemmas.Result.{on_ok_weaker}
use Rattle.mrt_graph.specs.GraphInvariant.{IsEnd}
use Rattle.mrt_graph.specs.Leads.{leads}
use Rattle.mrt_graph.proofs.EndsAt.{leads_end}
use Rattle.mrt_graph.proofs.Members.{all_has, find_has}
use Rattle.proxy_rows.proofs.TextExists.{end_found, led}
use Rattle.proxy_rows.proofs.text.push_over.Goals as goal

pub unreachable-requires : goal.unreachable-requires
unreachable-requires c =
    let to = led (leads c.args.g.now.links c.args.e c.args.s) c.requires.touches in
    let end = leads_end c.args.g.now c.args.s c.args.e to.0 c.ends.result.now c.requires.kept c.ends.ensures.value to.1 in
    let found = end_found c.ends.result.now c.args.e end.place end.end end.at end.over in
    none-some found.0 (sym c.in_default.is ∙ c.end_on.ensures ∙ option_map_id _ ∙ found.1)

pub id-requires : goal.id-requires
id-requires c =
    let is : find (λ end. end.link == c.args.e) c.ends.result.now ≡ Some c.in-Some.end = sym (option_map_id _) ∙ sym c.end_on.ensures ∙ c.in-Some.is in
    (all_has (IsEnd (length c.args.g.now.ids) c.args.g.now.links c.args.s) c.ends.result.now c.in-Some.end c.ends.ensures.kept.kept (find_has _ c.ends.result.now c.in-Some.end is).0).to

pub returns : goal.returns
returns c =
    let is : find (λ end. end.link == c.args.e) c.ends.result.now ≡ Some c.in-Some.end = sym (option_map_id _) ∙ sym c.end_on.ensures ∙ c.in-Some.is in
    on_ok_weaker c.push_hop.result (λ added. record {
      part = _;
      is = record {
        end = c.in-Some.end;
        end_is = record { ends = c.ends.result.now; list = c.ends.ensures.value; is = is };
        far = c.id.result;
        far_is = c.id.ensures;
        spelled = refl;
      };
      added = added;
    }) c.push_hop.ensures.added
