use Rattle.std.proofs.Common.{◌∙◌, ◌<◌, ◌-◌, ◌*◌, ℕ, List, Option, None, Some, length, ap, sym, subst, arith}
use Rattle.std.specs.Option.{IfSome, option_map}
use Rattle.mrt_graph.specs.declared.cert.CertNode.{CertNode}
use Rattle.mrt_graph.specs.declared.cert.Row.{Row}
use Rattle.mrt_graph.specs.Certificate.{Certificate}
use Rattle.mrt_graph.specs.Kin.{Kin}
use Rattle.mrt_graph.specs.steps.NodeRows.{AreHeldRows}
use Rattle.mrt_graph.proofs.HeldRows.{index_is}
use Rattle.mrt_graph.proofs.KinOf.{blocks_count}
use Rattle.mrt_graph.proofs.node_rows.NodeRows.new.Goals as goal

-- an index is that of the nodes
in_index : {X : Type 0} (kin : X → Kin) (index : Option X) (c : Certificate) (rows : List Row) (s : ℕ) → AreHeldRows c rows (option_map kin index) → s < length c.nodes
    → IfSome index (λ x. s < length (kin x).blocks)
in_index kin None c rows s held within = tt
in_index kin (Some x) c rows s held within =
    omega (arith, within, ap (λ (k : Kin). length k.blocks) (index_is c rows (kin x) held), blocks_count c.nodes)

pub places_in-requires : goal.places_in-requires
places_in-requires c = in_index (λ r. r.now) c.args.relatives c.args.cert.now c.args.rows.now c.args.node c.requires.held c.requires.node

pub invariant_of-result : goal.invariant_of-result
invariant_of-result c = record {
  within = c.requires.node;
  first = c.first_row.ensures ∙ ap (λ (xs : List CertNode). c.args.node * (length xs - 1)) c.nodes.ensures.value;
  held = subst (λ (o : Option Kin). AreHeldRows c.args.cert.now c.args.rows.now o) (sym c.places_in.ensures.index) c.requires.held;
  places = c.places_in.ensures.places;
}
