use Rattle.std.proofs.Common.{◌<◌, length, drop, arith}
use Rattle.std.proofs.lemmas.List.{drop_all}
use Rattle.flood.proofs.TextsTold.{drop_next, told_all, told_more, told_none}
use Rattle.flood.proofs.telling.tell_all.Goals as goal

pub loop-line-preserved : goal.loop-line-preserved
loop-line-preserved g c =
    let told = c.in_ok-flood.ensures.told in
    let inside : c.loop-line.line-index < length c.args.lines.now = omega arith in
    told_more (g.C.Compare.says c.args.comparing.now) c.args.flood c.args.lines.now c.loop-line.flood
    c.in_ok-flood.flood c.loop-line.text.items c.tell.new.text.items told.0 _
    (drop c.loop-line.line-index c.args.lines.now) _
    (drop_next c.args.lines.now c.loop-line.line-index _ inside) c.loop-line.invariant
    c.in_ok-flood.ensures.after told.1 told.2

pub returns : goal.returns
returns g c =
    told_all (g.C.Compare.says c.args.comparing.now) c.args.flood c.loop-line.flood c.args.lines.now
    (drop c.loop-line.line-index c.args.lines.now) c.loop-line.text.items c.loop-line.invariant
    (drop_all c.loop-line.line-index c.args.lines.now (omega arith))

pub loop-line-init : goal.loop-line-init
loop-line-init g c =
    told_none (g.C.Compare.says c.args.comparing.now) c.args.flood c.args.lines.now c.new-text.result.items
    c.new-text.ensures.items c.requires.room c.requires.among
