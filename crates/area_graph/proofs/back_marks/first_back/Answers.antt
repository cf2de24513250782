use Rattle.std.proofs.Common.{◌≡◌, ◌<◌, ◌∙◌, length, get_or, arith}
use Rattle.std.proofs.lemmas.List.{get_or_default}
use Rattle.area_graph.proofs.MarksMove.{marks_move, marks_stay, none_before}
use Rattle.area_graph.proofs.back_marks.first_back.Goals as goal

pub first_from-requires-clause-before : goal.first_from-requires-clause-before
first_from-requires-clause-before c = none_before c.args.entry.far c.args.entry.tail c.args.entries.now

pub returns-then-node-len-clause-marks : goal.returns-then-node-len-clause-marks
returns-then-node-len-clause-marks c = marks_stay c.args.entries.now c.args.place c.args.marks.now.items c.requires.marks

pub first_from-first-requires-clause-before : goal.first_from-first-requires-clause-before
first_from-first-requires-clause-before c =
    let marks = c.args.marks.now.items in
    let within : c.args.entry.far < length marks = omega (arith, c.if-node-len.false, c.len.ensures, c.args.marks.now.ok.0) in
    let read : c.index.result.now ≡ get_or marks c.args.entry.far 0 = c.index.ensures ∙ get_or_default marks c.args.entry.far c.index.result.now 0 within in
    rw read (rw c.requires.there at (c.requires.marks.upto c.args.entry.far c.args.place c.args.entry (omega arith) c.requires.within))

pub returns-clause-marks : goal.returns-clause-marks
returns-clause-marks c =
    let within : c.args.entry.far < length c.args.marks.now.items = omega (arith, c.if-node-len.false, c.len.ensures, c.args.marks.now.ok.0) in
    marks_move c.args.entries.now c.args.place c.args.entry c.args.marks.now.items c.first_from-first.result c.requires.sorted c.requires.there within c.first_from-first.ensures
    c.requires.marks
