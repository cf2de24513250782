use Rattle.std.proofs.Common.{◌≡◌, ◌≤◌, ◌+◌, ◌++◌, length, drop, vec_len, vec_capacity}
use Rattle.std.specs.List.{AllByRecursion}
use Rattle.ospf_lsa.specs.LsaText.{links_text}
use Rattle.ospf_lsa.specs.Lsas.{AreEntriesOf, FitsLink}
use Rattle.ospf_lsa.proofs.writing.put_links.Given as goal

-- What is left to add, after what was added, is all.
abbrev pub invariant-loop-link : goal.invariant-loop-link
invariant-loop-link l = record {
  text : l.out.items ++ links_text (drop l.link-index l.links) l.rest ≡ l.fn.out.items ++ links_text l.links l.tos;
  room : vec_len l.out + length (links_text (drop l.link-index l.links) l.rest) ≤ vec_capacity l.out;
  entries : AreEntriesOf (drop l.link-index l.links) l.rest;
  fits : AllByRecursion FitsLink (drop l.link-index l.links) → AllByRecursion FitsLink l.links;
}
