use Rattle.std.proofs.Common.{◌≡◌, ◌∙◌, ℕ, List, map, replicate, sym, ap, subst, arith}
use Rattle.std.specs.List.{AllByRecursion}
use Rattle.flood.specs.declared.receiver.Receiver.{Receiver}
use Rattle.flood.specs.steps.Numbers.{router_in, IsStored}
use Rattle.flood.specs.Receiving.{new_router}
use Rattle.flood.proofs.NumberedDelivery.{one_more_router, one_more_stored}
use Rattle.flood.proofs.flood.new_routers.Goals as goal

pub loop-number-init : goal.loop-number-init
loop-number-init c = record {
  told = λ lsas. ap (map (router_in lsas)) c.in_ok-routers.ensures.items;
  stored = λ lsas. subst (λ (rs : List Receiver). AllByRecursion (λ (r : Receiver). IsStored lsas r.store) rs) (sym c.in_ok-routers.ensures.items) tt;
}

pub loop-number-preserved : goal.loop-number-preserved
loop-number-preserved c = record {
  told = λ lsas. one_more_router lsas c.loop-number.routers.items c.push.new.self.items c.new.result c.loop-number._number
      c.in_ok-push.ensures.items (c.new.ensures.router lsas) (c.loop-number.invariant.told lsas);
  stored = λ lsas. one_more_stored lsas c.loop-number.routers.items c.push.new.self.items c.new.result
      c.in_ok-push.ensures.items (c.new.ensures.stored lsas) (c.loop-number.invariant.stored lsas);
}

pub returns-clause-routers : goal.returns-clause-routers
returns-clause-routers c = λ lsas.
    let all : c.loop-number._number ≡ c.args.count = omega (arith, c.loop-number-test.false, c.loop-number.auto._number-end) in
    c.loop-number.invariant.told lsas ∙ ap (λ (n : ℕ). replicate n new_router) all

pub returns-clause-stored : goal.returns-clause-stored
returns-clause-stored c = λ lsas. c.loop-number.invariant.stored lsas
