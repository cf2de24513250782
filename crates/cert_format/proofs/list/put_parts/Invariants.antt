use Rattle.std.proofs.Common.{◌≡◌, ◌≤◌, ◌++◌, take, vec_capacity}
use Rattle.std.specs.List.{flat_map}
use Rattle.cert_format.proofs.list.put_parts.Given as goal

abbrev pub invariant-loop-part : goal.invariant-loop-part
invariant-loop-part g l = record {
  text : l.out.items ≡ l.fn.out.items ++ flat_map (g.P.Part.text_in l.version) (take l.part-index l.parts);
  capacity : vec_capacity l.fn.out ≤ vec_capacity l.out;
}
