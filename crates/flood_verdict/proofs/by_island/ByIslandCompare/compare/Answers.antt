use Rattle.std.proofs.Common.{inr, subst}
use Rattle.flood_verdict.specs.steps.Found.{IsFound}
use Rattle.flood_verdict.proofs.Comparing.{same_told, told}
use Rattle.flood_verdict.proofs.by_island.ByIslandCompare.compare.Goals as goal

pub returns-then-have_one_area : goal.returns-then-have_one_area
returns-then-have_one_area c =
    let settings = c.self.inside.profile.now in
    rw (← c.self.view_is)
    (same_told settings c.args.one.now c.args.other.now c.args.router c.in-Some.its
    (subst (IsFound settings c.args.one.now c.args.router) c.in-Some.is c.in_ok-its.ensures)
    (c.have_one_area.ensures.settled c.if-have_one_area.true) (c.have_one_area.ensures.area c.if-have_one_area.true))

pub returns-in_default-2 : goal.returns-in_default-2
returns-in_default-2 c =
    let settings = c.self.inside.profile.now in
    rw (← c.self.view_is)
    (inr (subst (IsFound settings c.args.other.now c.args.router) c.in_default-2.is c.in_ok-others.ensures))

pub returns : goal.returns
returns c =
    let settings = c.self.inside.profile.now in
    rw (← c.self.view_is)
    (told settings c.args.one.now c.args.other.now c.args.router c.in-Some.its c.in-Some-2.others c.is_same.result
    (subst (IsFound settings c.args.one.now c.args.router) c.in-Some.is c.in_ok-its.ensures)
    (subst (IsFound settings c.args.other.now c.args.router) c.in-Some-2.is c.in_ok-others.ensures)
    c.is_same.ensures c.verdict_on.result c.verdict_on.ensures)
