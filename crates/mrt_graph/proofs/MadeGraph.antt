-- A graph that is made of its parts keeps what each graph keeps.
use Rattle.std.proofs.Common.{◌≡◌, ◌∙◌, ◌≤◌, ◌==◌, ℕ, cond, List, ◌∷◌, [], length, map, arith}
use Rattle.std.specs.List.{All, AllByRecursion}
use Rattle.std.proofs.lemmas.List.{length-map}
use Rattle.std.proofs.lemmas.List.Elements.{All-from_recursion, recursion_from_All}
use Rattle.std.proofs.lemmas.List.Sorted.{All-permutation, length_permutation, sum_by-IsPermutation}
use Rattle.mrt_graph.specs.declared.link.End.{End}
use Rattle.mrt_graph.specs.declared.link.LinkIn.{LinkIn}
use Rattle.mrt_graph.specs.declared.node_id.NodeId.{NodeId}
use Rattle.mrt_graph.specs.steps.EndRows.{IsInRange, IsWithin}
use Rattle.mrt_graph.specs.EndsOfLinks.{ends_at, pair_of}
use Rattle.mrt_graph.specs.GraphInvariant.{AreEnds, IsEnd, IsLink, IsTopology}
use Rattle.mrt_graph.specs.NewGraph.{AreEndLists, AreGraphParts, AreInOrder}
use Rattle.mrt_graph.proofs.EndsKept.{all_numbered, ends_few, ends_kept, ends_once}

-- the two nodes of each link, without the rest of what it keeps
pub within_of : (ids : List NodeId) (links : List LinkIn) → AllByRecursion (IsLink ids) (map pair_of links) → AllByRecursion (IsWithin (length ids)) links
within_of ids [] kept = tt
within_of ids (link ∷ links) kept = (record { ascending = kept.0.ascending; upper = kept.0.upper }, within_of ids links kept.1)

-- the ends that links give a node are its ends, once they are in order
are_ends : (count n : ℕ) (links : List LinkIn) (ends : List End) → AllByRecursion (IsWithin count) links → All IsInRange links → AreInOrder (ends_at n 0 links) ends → AreEnds count (map pair_of links) n ends
are_ends count n links ends within range ordered =
    let by_link : AllByRecursion (IsEnd count (map pair_of links) n) (ends_at n 0 links) =
    ends_kept count (map pair_of links) n 0 links (all_numbered links) (recursion_from_All IsInRange links range) within in
    record {
      kept =
          recursion_from_All (IsEnd count (map pair_of links) n) ends
          (All-permutation (IsEnd count (map pair_of links) n) (ends_at n 0 links) ends ordered.same (All-from_recursion (IsEnd count (map pair_of links) n) (ends_at n 0 links) by_link));
      one_each = λ e v touches.
          sum_by-IsPermutation (λ end. cond (end.link == e) 1 0) (ends_at n 0 links) ends ordered.same ∙ ends_once e n 0 e v links (omega arith) touches;
      ordered = ordered.ascending;
      few =
          let same : length ends ≡ length (ends_at n 0 links) = length_permutation (ends_at n 0 links) ends ordered.same in
          let fewer : length (ends_at n 0 links) ≤ length links = ends_few n 0 links in
          let pairs : length (map pair_of links) ≡ length links = length-map links pair_of in
          omega arith;
    }

pub made_keeps : (ids : List NodeId) (links : List LinkIn) (lists : List (List End)) → AreGraphParts ids links → length ids ≤ 4096 → length links ≤ 16384 → All IsInRange links → AreEndLists (length ids) links lists →
    IsTopology (record { ids = ids; links = map pair_of links; ends = lists })
made_keeps ids links lists parts few_nodes few_links range made =
    record {
      some_node = parts.some_node;
      few_nodes = few_nodes;
      few_links = rw length-map few_links;
      ids_ascend = parts.ids_ascend;
      links_kept = parts.links_between;
      a_list_each = made.a_list_each;
      ends_kept = λ n ends there. are_ends (length ids) n links ends (within_of ids links parts.links_between) range (made.ends n ends there);
      connected = parts.connected;
    }
