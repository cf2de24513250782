use Rattle.std.proofs.Common.{◌≡◌, ◌≤◌, ◌+◌, ◌-◌, ◌*◌, length, vec_len}
use Rattle.std.specs.Prelude.{◌/◌, min, vec_capacity}
use Rattle.std.specs.Option.{option_map}
use Rattle.ospf_lsa.specs.steps.Reading.{links_in}
use Rattle.ospf_lsa.proofs.Links.{after}
use Rattle.ospf_lsa.proofs.link.links.Given as goal

abbrev pub invariant-loop : goal.invariant-loop
invariant-loop l = record {
  whole : option_map (after (l.links.items, l.tos.items)) (links_in (l.count - l.counter) l.rest) ≡ links_in l.count l.bytes;
  many : vec_len l.links ≡ l.counter;
  taken : 12 * l.counter + length l.rest ≤ length l.bytes;
  room : vec_capacity l.links ≡ min l.count (length l.bytes / 12);
}
