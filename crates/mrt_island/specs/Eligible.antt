-- Eligible pairs (RFC 7811, section 5; RFC 7812, section 7).
use Rattle.std.specs.Prelude.{◌&&◌, ◌==◌, ℕ, Bool, true, false, not, List, slice_get}
use Rattle.std.specs.Option.{option_map_or}
use Rattle.mrt_graph.specs.declared.node_id.Kind.{Kind}
use Rattle.mrt_graph.specs.declared.node_id.Kind.TheVariants.{Router, Network}
use Rattle.mrt_graph.specs.declared.node_id.NodeId.{NodeId}
use Rattle.area_graph.specs.declared.area_types.Bond.{Bond}
use Rattle.mrt_island.specs.Policy.{Policy}

-- whether a node of that kind and number supports the profile: a network always does
abbrev pub node_supports : Policy → Kind → ℕ → Bool
node_supports policy Router number = policy.supports number
node_supports policy Network number = true

-- whether an end of a link at such a node may be used: a router's not where its link data is marked ineligible
abbrev pub end_eligible : Policy → Kind → ℕ → ℕ → Bool
end_eligible policy Router number link_data = policy.eligible number link_data
end_eligible policy Network number link_data = true

-- whether node s may have an end with that link data in an island: it supports the profile, and the end may be used
abbrev pub may_end : Policy → List NodeId → ℕ → ℕ → Bool
may_end policy ids s link_data =
    option_map_or (λ id. node_supports policy id.kind id.number && end_eligible policy id.kind id.number link_data) (slice_get ids s) false

-- MaxLinkMetric, the metric of a link that is not for transit traffic (RFC 6987, sections 2 and 3)
abbrev pub max_link_metric : ℕ
max_link_metric = 65535

-- whether a link may be for transit traffic where one of its ends has this metric; a network's end has metric 0
abbrev pub is_for_transit : ℕ → Bool
is_for_transit metric = not (metric == max_link_metric)

-- whether a bond is an eligible pair: a pair no router end of which is marked ineligible with its link data, no end of which has
-- metric 65,535, and both nodes of which support the profile
abbrev pub is_eligible : Policy → List NodeId → Bond → Bool
is_eligible policy ids bond =
    bond.paired
    && ((may_end policy ids bond.a bond.data_a && may_end policy ids bond.b bond.data_b)
    && (is_for_transit bond.metric_a && is_for_transit bond.metric_b))
