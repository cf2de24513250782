use Rattle.std.proofs.Common.{◌∙◌, ◌++◌, ℕ, List, Option, ap, append-nil, arith, sym}
use Rattle.std.specs.Option.{option_to_list}
use Rattle.std.proofs.lemmas.List.{drop_all}
use Rattle.area_graph.specs.Entries.{entries_of_listed}
use Rattle.area_graph.specs.steps.NumberedEntries.{by_number}
use Rattle.area_graph.specs.declared.entry.NumberedEntry.{NumberedEntry}
use Rattle.area_graph.proofs.Adding.{listed_more}
use Rattle.area_graph.proofs.entries.add_listed.Goals as goal

pub loop-place-preserved : goal.loop-place-preserved
loop-place-preserved c = record {
  whole = λ own. listed_more c.args.ids.now c.args.tail own c.loop-place.place c.args.routers.now c.loop-place.found.items c.put.new.found.items _ c.loop-place-test.true
      (c.put.ensures.items ∙ ap (λ (e : Option NumberedEntry). c.loop-place.found.items ++ option_to_list e) (c.of_listed.ensures own)) (c.loop-place.invariant.whole own);
  room = omega (arith, c.put.ensures.len, c.put.ensures.capacity, c.loop-place.invariant.room);
}

pub returns-clause-entries : goal.returns-clause-entries
returns-clause-entries c = λ own.
    sym (append-nil c.loop-place.found.items)
    ∙ ap (λ (rest : List ℕ). c.loop-place.found.items
    ++ by_number c.args.ids.now c.args.tail (entries_of_listed own c.loop-place.place rest))
    (sym (drop_all c.loop-place.place c.args.routers.now c.loop-place-test.false))
    ∙ c.loop-place.invariant.whole own
