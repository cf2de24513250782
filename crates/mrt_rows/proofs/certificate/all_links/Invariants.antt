use Rattle.std.proofs.Common.{◌≡◌, ◌≤◌, ◌<◌, ℕ, Some, length, slice_get, vec_capacity}
use Rattle.mrt_graph.specs.declared.link.Link.{Link}
use Rattle.mrt_rows.specs.CertOf.{link_words}
use Rattle.mrt_rows.specs.ListedDirections.{directions_of}
use Rattle.mrt_rows.proofs.certificate.all_links.Given as goal

abbrev pub invariant-loop-e : goal.invariant-loop-e
invariant-loop-e l = record {
  count : l.count ≡ length l.g.links;
  many : length l.links.items ≡ l.e;
  room : l.count ≤ vec_capacity l.links;
  so_far : (e : ℕ) (link : Link) → e < l.e → slice_get l.g.links e ≡ Some link → slice_get l.links.items e ≡ Some (link_words (directions_of l.g l.d) e link);
}
