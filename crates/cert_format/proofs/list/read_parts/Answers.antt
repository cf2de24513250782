use Rattle.std.proofs.Common.{◌≡◌, ◌∙◌, ◌+◌, ◌-◌, ◌*◌, ◌<◌, ◌≤◌, ◌^◌, ◌/◌, ℕ, ap, arith, length, length-append}
use Rattle.std.proofs.Math.Nat.{mul-le-mul_left, mul-le-mul_right}
use Rattle.std.proofs.lemmas.Result.{err_from_is_err_and}
use Rattle.cert_format.proofs.Lists.{took_more, took_nothing}
use Rattle.cert_format.proofs.list.read_parts.Goals as goal

place_below : (at start size k n bound : ℕ) → at ≡ start + size * k → k ≤ n → start + size * n < bound → at < bound
place_below at start size k n bound is within small = let fewer : size * k ≤ size * n = mul-le-mul_left size within in omega (arith, is, fewer, small)

place_next : (at start after size k : ℕ) → at ≡ start + size * k → after ≡ at + size → after ≡ start + size * (k + 1)
place_next at start after size k is next = grind (arith, is, next)

-- the bytes of one part more, and how many parts so many bytes have at most
left_next : (left after all size k : ℕ) → left + size * k ≡ all → left ≡ size + after → after + size * (k + 1) ≡ all
left_next left after all size k is next = grind (arith, is, next)

few_parts : (left all size k : ℕ) → left + size * (k + 1) ≡ all → 5 ≤ size → k < all / 5
few_parts left all size k is long = let fewer : 5 * (k + 1) ≤ size * (k + 1) = mul-le-mul_right (k + 1) long in omega (arith, is, fewer)

pub read-requires : goal.read-requires
read-requires g c =
    rw c.again.ensures (place_below c.loop.rest.at c.args.rest.at g.P.Part.size c.loop.counter c.args.count (2 ^ 32 - 16) c.loop.invariant.place (omega arith) c.requires.place)

pub returns-in_err-reserve : goal.returns-in_err-reserve
returns-in_err-reserve g c =
    let q = err_from_is_err_and c.from_residual.result c.from_residual.ensures.1 in
    rw (q.1, q.2) c.reserve.ensures.items

pub returns-in_err-part : goal.returns-in_err-part
returns-in_err-part g c =
    let q = err_from_is_err_and c.from_residual-in_err-part.result c.from_residual-in_err-part.ensures.1 in
    rw (q.1, q.2) (c.loop.rest, c.loop.invariant.took, omega arith, rw c.again.ensures at c.in_err-part.ensures)

pub loop-init : goal.loop-init
loop-init g c = record {
  took = rw c.reserve.ensures.items (took_nothing g.P.Part.text (g.P.Part.keeps c.args.header) c.args.parts.now.items c.args.rest);
  count = omega arith;
  place = omega arith;
  left = omega arith;
  room = omega (arith, c.in_ok-reserve.ensures.ok, c.min.ensures, c.len-2.ensures);
}

pub push_reserved-requires : goal.push_reserved-requires
push_reserved-requires g c =
    let before = c.loop.invariant in
    let read = rw c.again.ensures at c.in_ok-part.ensures in
    let bytes = ap length read.0.parts ∙ length-append (g.P.Part.text c.in_ok-part.part) c.in_ok-part.after.bytes in
    let left = left_next (length c.loop.rest.bytes) (length c.in_ok-part.after.bytes) (length c.args.rest.bytes) g.P.Part.size c.loop.counter before.left (omega (arith, bytes, c.requires.sized c.in_ok-part.part)) in
    omega (arith, before.count, before.room, few_parts (length c.in_ok-part.after.bytes) (length c.args.rest.bytes) g.P.Part.size c.loop.counter left c.requires.long)

pub loop-preserved : goal.loop-preserved
loop-preserved g c =
    let before = c.loop.invariant in
    let part = c.in_ok-part.part in
    let read = rw c.again.ensures at c.in_ok-part.ensures in
    record {
      took = took_more g.P.Part.text (g.P.Part.keeps c.args.header) c.args.parts.now.items c.loop.parts.items c.push_reserved.new.self.items part c.args.rest c.loop.rest c.in_ok-part.after before.took read.0 read.1 c.push_reserved.ensures.items;
      count = omega (arith, before.count, c.push_reserved.ensures.len);
      place = place_next c.loop.rest.at c.args.rest.at c.in_ok-part.after.at g.P.Part.size c.loop.counter before.place (omega (arith, read.0.place, c.requires.sized part));
      left =
          let bytes = ap length read.0.parts ∙ length-append (g.P.Part.text part) c.in_ok-part.after.bytes in
          left_next (length c.loop.rest.bytes) (length c.in_ok-part.after.bytes) (length c.args.rest.bytes) g.P.Part.size c.loop.counter before.left (omega (arith, bytes, c.requires.sized part));
      room = omega (arith, before.room, c.push_reserved.ensures.capacity);
    }

pub returns : goal.returns
returns g c = (c.loop.invariant.took, omega arith)
