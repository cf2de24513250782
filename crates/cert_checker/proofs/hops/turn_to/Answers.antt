use Rattle.std.proofs.Common.{◌≡◌, ◌∙◌, ◌==◌, ℕ, true, false, Option, Some, None, sym, ap}
use Rattle.std.specs.Option.{IfSome, option_map, option_map_or}
use Rattle.std.proofs.lemmas.Bool.{eqb-true, false≢true}
use Rattle.cert_checker.specs.declared.hops.Hop.{Hop}
use Rattle.cert_checker.specs.steps.KnownNode.{IsHop}
use Rattle.mrt_graph.specs.Certificate.{Certificate}
use Rattle.mrt_graph.specs.Leads.{leads}
use Rattle.mrt_graph.specs.Topology.{Topology}
use Rattle.cert_checker.proofs.hops.turn_to.Goals as goal

-- a hop by the link leads where the link does
leads_there : (g : Topology) (c : Certificate) (s e : ℕ) (hop : Option Hop) → option_map_or (λ h. h.link == e) hop false ≡ true
    → IfSome hop (λ h. IsHop g c s h) → option_map (λ h. h.to.number) hop ≡ leads g.links e s
leads_there g c s e None by are = absurd (false≢true by)
leads_there g c s e (Some hop) by are = sym (ap (λ (k : ℕ). leads g.links k s) (sym (eqb-true hop.link e by)) ∙ are.link_leads)

pub returns-then-is_by-clause-leads : goal.returns-then-is_by-clause-leads
returns-then-is_by-clause-leads c =
    leads_there c.args.g.now c.args.c.now c.args.s c.args.e c.args.hop.now (sym c.is_by.ensures ∙ c.if-is_by.true) c.requires.last
