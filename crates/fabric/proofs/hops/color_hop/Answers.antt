use Rattle.std.proofs.Common.{◌∙◌, ℕ, Some, sym, ap}
use Rattle.std.proofs.lemmas.Bool.{both_ways}
use Rattle.fabric.specs.FabricParts.{FabricParts}
use Rattle.fabric.specs.PacketHop.{OverNetwork, Straight}
use Rattle.fabric.specs.steps.Viewed.{viewed}
use Rattle.fabric.proofs.Islands.{node_within, one_spot, spot_within}
use Rattle.fabric.proofs.AcceptedRows.{hop_for}
use Rattle.fabric.proofs.hops.color_hop.Goals as goal

pub next_hop-hop-requires : goal.next_hop-hop-requires
next_hop-hop-requires g c =
    let parts : FabricParts = viewed g.R.RowsOf.rows c.args.parts.now in
    let at = sym c.node_of.ensures ∙ c.unwrap-n.ensures in
    let to = sym c.node_of-2.ensures ∙ c.unwrap-d.ensures in
    hop_for parts c.args.color c.unwrap-n.result c.unwrap-d.result (c.requires.served.rows c.unwrap-d.result to)
    (node_within parts c.requires.kept c.args.x c.unwrap-n.result at) (node_within parts c.requires.kept c.args.t c.unwrap-d.result to)
    (λ same. c.requires.different (one_spot parts c.requires.kept c.args.x c.args.t c.unwrap-d.result (at ∙ ap (λ (n : ℕ). Some n) same) to))

pub is_on_the_way-requires : goal.is_on_the_way-requires
is_on_the_way-requires g c = spot_within (viewed g.R.RowsOf.rows c.args.parts.now) c.requires.kept c.crossing_of-first.result.node c.next_hop-hop.result.to c.crossing_of-first.ensures.node

pub returns-then-not-is_on_the_way : goal.returns-then-not-is_on_the_way
returns-then-not-is_on_the_way g c =
    Straight c.unwrap-n.result c.unwrap-d.result c.crossing_of-first.result (sym c.node_of.ensures ∙ c.unwrap-n.ensures) (sym c.node_of-2.ensures ∙ c.unwrap-d.ensures)
    (record { hop = record { link = c.next_hop-hop.result.link; to = c.next_hop-hop.result.to }; row = c.next_hop-hop.ensures.hop; link = c.crossing_of-first.ensures.link; node = c.crossing_of-first.ensures.node })
    (λ both. both_ways c.is_on_the_way.result c.if-not-is_on_the_way.true (c.is_on_the_way.ensures.1 both))

pub next_hop-onward-requires : goal.next_hop-onward-requires
next_hop-onward-requires g c =
    let parts : FabricParts = viewed g.R.RowsOf.rows c.args.parts.now in
    let at = c.crossing_of-first.ensures.node in
    let to = sym c.node_of-2.ensures ∙ c.unwrap-d.ensures in
    hop_for parts c.args.color c.next_hop-hop.result.to c.unwrap-d.result (c.requires.served.rows c.unwrap-d.result to)
    c.next_hop-hop.ensures.to (node_within parts c.requires.kept c.args.t c.unwrap-d.result to)
    (λ same. (c.is_on_the_way.ensures.0 c.if-not-is_on_the_way.false).1
    (one_spot parts c.requires.kept c.crossing_of-first.result.node c.args.t c.unwrap-d.result (at ∙ ap (λ (n : ℕ). Some n) same) to))

pub returns : goal.returns
returns g c =
    let way = c.is_on_the_way.ensures.0 c.if-not-is_on_the_way.false in
    OverNetwork c.unwrap-n.result c.unwrap-d.result c.next_hop-hop.result.to c.crossing_of-first.result c.crossing_of-second.result
    (sym c.node_of.ensures ∙ c.unwrap-n.ensures) (sym c.node_of-2.ensures ∙ c.unwrap-d.ensures)
    (record { hop = record { link = c.next_hop-hop.result.link; to = c.next_hop-hop.result.to }; row = c.next_hop-hop.ensures.hop; link = c.crossing_of-first.ensures.link; node = c.crossing_of-first.ensures.node })
    way.0 way.1 c.crossing_of-first.ensures.node
    (record { hop = record { link = c.next_hop-onward.result.link; to = c.next_hop-onward.result.to }; row = c.next_hop-onward.ensures.hop; link = c.crossing_of-second.ensures.link; node = c.crossing_of-second.ensures.node })
