use Rattle.std.proofs.Common.{refl, subst, sym}
use Rattle.proxy_rows.specs.declared.proxy_row.Out.{Out}
use Rattle.mrt_calls.specs.Proxies.{IsOutHop}
use Rattle.mrt_calls.proofs.proxy.out_hop.Goals as goal

pub returns-in-Link : goal.returns-in-Link
returns-in-Link c =
    subst (λ (out : Out). IsOutHop c.args.g.now c.args.s out c.hop_in.result) (sym c.in-Link.is) (c.link_hop.result, c.link_hop.ensures, c.hop_in.ensures)

pub returns-in-Attached : goal.returns-in-Attached
returns-in-Attached c = rw c.in-Attached.is refl
