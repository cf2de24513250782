use Rattle.std.proofs.Common.{refl}
use Rattle.mrt_calls.specs.Proxies.{proxies_in}
use Rattle.mrt_calls.proofs.Puts.{gives, gives_none}
use Rattle.mrt_calls.proofs.proxy.put_proxies.Goals as goal

pub returns-in-Ok : goal.returns-in-Ok
returns-in-Ok c =
    gives (proxies_in c.args.area.now c.args.router c.args.pairs.now) _ _ c.in-Ok.wanted _ c.exit_of.result c.put_pairs.ensures.room c.in-Ok.ensures.held refl
    c.exit_of.ensures

pub returns-in-Err : goal.returns-in-Err
returns-in-Err c =
    gives_none (proxies_in c.args.area.now c.args.router c.args.pairs.now) _ _ c.in-Err.exit c.put_pairs.ensures.room c.in-Err.ensures.none
