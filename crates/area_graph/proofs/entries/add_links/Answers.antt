use Rattle.std.proofs.Common.{◌∙◌, ◌++◌, List, Option, ap, append-nil, arith, sym}
use Rattle.std.specs.Option.{option_to_list}
use Rattle.std.proofs.lemmas.List.{drop_all}
use Rattle.ospf_lsa.specs.declared.lsa.RouterLink.{RouterLink}
use Rattle.area_graph.specs.Entries.{entries_of_links}
use Rattle.area_graph.specs.steps.NumberedEntries.{by_number}
use Rattle.area_graph.specs.declared.entry.NumberedEntry.{NumberedEntry}
use Rattle.area_graph.proofs.Adding.{links_more}
use Rattle.area_graph.proofs.entries.add_links.Goals as goal

-- what is read past the end of a list
abbrev nothing : RouterLink
nothing = record { id = 0; link_data = 0; kind = 0; entries = 0; metric = 0 }

pub loop-place-preserved : goal.loop-place-preserved
loop-place-preserved c = record {
  whole = links_more c.args.ids.now c.args.tail c.args.own c.loop-place.place c.args.links.now nothing c.loop-place.found.items c.put.new.found.items _ c.loop-place-test.true
      (c.put.ensures.items ∙ ap (λ (e : Option NumberedEntry). c.loop-place.found.items ++ option_to_list e) c.of_link.ensures) c.loop-place.invariant.whole;
  room = omega (arith, c.put.ensures.len, c.put.ensures.capacity, c.loop-place.invariant.room);
}

pub returns-clause-entries : goal.returns-clause-entries
returns-clause-entries c =
    sym (append-nil c.loop-place.found.items)
    ∙ ap (λ (rest : List RouterLink). c.loop-place.found.items
    ++ by_number c.args.ids.now c.args.tail (entries_of_links c.args.own c.loop-place.place rest))
    (sym (drop_all c.loop-place.place c.args.links.now c.loop-place-test.false))
    ∙ c.loop-place.invariant.whole
