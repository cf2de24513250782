use Rattle.std.proofs.Common.{rules, ◌<◌, length, get_or}
use Rattle.mrt_graph.specs.declared.node_id.Kind.TheVariants.{Router}
use Rattle.area_graph.specs.declared.speaker.Speaker.{Speaker}
use Rattle.area_graph.proofs.Adding.{place_within, entries_more, entries_all}
use Rattle.area_graph.proofs.entries.entries.Goals as goal

abbrev nobody : Speaker
nobody = record { id = record { kind = Router; number = 0 }; router = 0; at = 0 }

pub offset_bounds-lsas-speaker : goal.offset_bounds-lsas-speaker
offset_bounds-lsas-speaker c =
    let within : (get_or c.args.speakers.now c.loop-tail.tail nobody).at < length c.args.lsas.now =
    place_within c.args.lsas.now c.args.speakers.now c.loop-tail.tail nobody c.requires.speak c.loop-tail-test.true in
    search rules

pub bounds-lsas-speaker : goal.bounds-lsas-speaker
bounds-lsas-speaker c = place_within c.args.lsas.now c.args.speakers.now c.loop-tail.tail _ c.requires.speak c.loop-tail-test.true

pub loop-tail-preserved : goal.loop-tail-preserved
loop-tail-preserved c =
    entries_more c.args.lsas.now c.args.speakers.now c.args.ids.now c.loop-tail.tail _ c.index-lsas-speaker.result c.loop-tail.found.items c.add_entries.new.found.items _
    c.requires.speak c.loop-tail-test.true c.index-lsas-speaker.is c.in_ok-add_entries.ensures.entries c.loop-tail.invariant

pub returns-clause-entries : goal.returns-clause-entries
returns-clause-entries c =
    entries_all c.args.lsas.now c.args.speakers.now c.args.ids.now c.loop-tail.tail c.loop-tail.found.items _ c.requires.speak c.loop-tail-test.false c.loop-tail.invariant
