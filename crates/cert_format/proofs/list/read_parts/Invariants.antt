use Rattle.std.specs.Prelude.{◌≡◌, ◌≤◌, ◌+◌, ◌-◌, ◌*◌, ◌/◌, length, min, vec_len, vec_capacity}
use Rattle.cert_format.specs.steps.Reading.{TookMore}
use Rattle.cert_format.proofs.list.read_parts.Given as goal

abbrev pub invariant-loop : goal.invariant-loop
invariant-loop g l = record {
  took : TookMore g.P.Part.text (g.P.Part.keeps l.header) l.fn.parts.items l.parts.items l.fn.rest l.rest;
  count : vec_len l.parts ≡ vec_len l.fn.parts + l.counter;
  place : l.rest.at ≡ l.fn.rest.at + g.P.Part.size * l.counter;
  left : length l.rest.bytes + g.P.Part.size * l.counter ≡ length l.fn.rest.bytes;
  room : vec_len l.fn.parts + min (l.count - vec_len l.fn.parts) (length l.fn.rest.bytes / 5) ≤ vec_capacity l.parts;
}
