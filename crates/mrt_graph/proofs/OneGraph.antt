-- There is a graph of given identifiers and links, and just one.
use Rattle.std.proofs.Common.{◌≡◌, ◌∙◌, ◌==◌, ◌<◌, ℕ, Bool, List, [], length, map, get_or, refl, sym, subst, arith}
use Rattle.std.specs.List.{range_with_len}
use Rattle.std.specs.Cmp.{IsTotalOrder}
use Rattle.std.specs.Ordering.{nat_cmp, ordering_then}
use Rattle.std.proofs.lemmas.Bool.{eq-eqb}
use Rattle.std.proofs.lemmas.Cmp.{nat_cmp_total, on_total, then_total}
use Rattle.std.proofs.lemmas.List.{same_lists}
use Rattle.std.proofs.lemmas.List.FromFn.{get_or-map-range_with_len, length-map-range_with_len}
use Rattle.std.proofs.lemmas.Option.{get_or_from_slice_get, slice_get-get_or, slice_get_within}
use Rattle.mrt_graph.specs.declared.link.End.{End}
use Rattle.mrt_graph.specs.declared.link.LinkIn.{LinkIn}
use Rattle.mrt_graph.specs.declared.node_id.NodeId.{NodeId}
use Rattle.mrt_graph.specs.EndsOfLinks.{ends_at, pair_of}
use Rattle.mrt_graph.specs.InOrder.{in_order}
use Rattle.mrt_graph.specs.InterfaceOrder.{interface_cmp}
use Rattle.mrt_graph.specs.NewGraph.{AreEndLists, AreInOrder, IsGraphOf}
use Rattle.mrt_graph.specs.Topology.{Topology}
use Rattle.mrt_graph.proofs.EndsKept.{ends_apart}
use Rattle.mrt_graph.proofs.InOrder.{OnlyEqualsTie, in_order_is, in_order_moves, in_order_sorted}
use Rattle.mrt_graph.proofs.Members.{has_from_contains}
use Rattle.mrt_graph.proofs.Tallies.{count_is_tally, tally_same}
use Rattle.mrt_graph.proofs.Ties.{nat_tie, then_tie}

interface_total : IsTotalOrder interface_cmp
interface_total =
    then_total (then_total (on_total (λ end. end.metric) nat_cmp_total) (on_total (λ end. end.to) nat_cmp_total)) (on_total (λ end. end.link) nat_cmp_total)

-- ends of a node that tie are on one link, so they are one
ends_tie : (n : ℕ) (links : List LinkIn) → OnlyEqualsTie interface_cmp (ends_at n 0 links) (ends_at n 0 links)
ends_tie n links = record {
  same = λ x y in_x in_y tie.
      let ends = ends_at n 0 links in
      let link : x.link ≡ y.link = nat_tie x.link y.link (then_tie (ordering_then (nat_cmp x.metric y.metric) (nat_cmp x.to y.to)) (nat_cmp x.link y.link) tie).1 in
      let on_link : End → Bool = λ end. end.link == x.link in
      tally_same on_link ends x y (omega (arith, count_is_tally on_link ends, ends_apart x.link n 0 links))
      (has_from_contains ends x in_x) (eq-eqb x.link x.link refl) (has_from_contains ends y in_y) (eq-eqb y.link x.link (sym link));
}

one_list : (n : ℕ) (links : List LinkIn) (xs ys : List End) → AreInOrder (ends_at n 0 links) xs → AreInOrder (ends_at n 0 links) ys → xs ≡ ys
one_list n links xs ys first second =
    in_order_is interface_cmp interface_total (ends_at n 0 links) xs first.same first.ascending (ends_tie n links)
    ∙ sym (in_order_is interface_cmp interface_total (ends_at n 0 links) ys second.same second.ascending (ends_tie n links))

one_of_each : (count : ℕ) (links : List LinkIn) (xs ys : List (List End)) → AreEndLists count links xs → AreEndLists count links ys → xs ≡ ys
one_of_each count links xs ys first second =
    same_lists xs ys (first.a_list_each ∙ sym second.a_list_each)
    (λ n d within.
    one_list n links (get_or xs n d) (get_or ys n d) (first.ends n (get_or xs n d) (slice_get-get_or xs n d within))
    (second.ends n (get_or ys n d) (slice_get-get_or ys n d (omega (arith, first.a_list_each, second.a_list_each)))))

same_graph : (g h : Topology) → g.ids ≡ h.ids → g.links ≡ h.links → g.ends ≡ h.ends → g ≡ h
same_graph g h ids links ends = λ i. record { ids = ids i; links = links i; ends = ends i }

pub one_graph : (ids : List NodeId) (links : List LinkIn) (g h : Topology) → IsGraphOf ids links g → IsGraphOf ids links h → g ≡ h
one_graph ids links g h first second =
    same_graph g h (first.same_ids ∙ sym second.same_ids) (first.same_links ∙ sym second.same_links)
    (one_of_each (length ids) links g.ends h.ends first.end_lists second.end_lists)

-- the ends of a node, in interface order
abbrev ends_in_order : List LinkIn → ℕ → List End
ends_in_order links n = in_order interface_cmp (ends_at n 0 links)

pub graph_exists : (ids : List NodeId) (links : List LinkIn) → (graph : Topology) × IsGraphOf ids links graph
graph_exists ids links = (
  record { ids = ids; links = map pair_of links; ends = map (ends_in_order links) (range_with_len 0 (length ids)) },
  record {
    same_ids = refl;
    same_links = refl;
    end_lists = record {
      a_list_each = length-map-range_with_len (ends_in_order links) 0 (length ids);
      ends = λ n ends at.
          let upper : n < length ids = omega (
            arith,
            slice_get_within (map (ends_in_order links) (range_with_len 0 (length ids))) n ends at,
            length-map-range_with_len (ends_in_order links) 0 (length ids),
          ) in
          let same : ends_in_order links n ≡ ends =
          sym (get_or-map-range_with_len (ends_in_order links) 0 (length ids) n n [] upper (omega arith))
          ∙ get_or_from_slice_get (map (ends_in_order links) (range_with_len 0 (length ids))) n ends [] at in
          subst (AreInOrder (ends_at n 0 links)) same (record {
            same = in_order_moves interface_cmp (ends_at n 0 links);
            ascending = in_order_sorted interface_cmp interface_total (ends_at n 0 links);
          });
    };
  },
)
