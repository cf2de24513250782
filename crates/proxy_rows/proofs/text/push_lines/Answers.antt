use Rattle.std.proofs.Common.{◌≡◌, ℕ, length, refl, subst, arith}
use Rattle.text_parts.specs.steps.Adds.{Adds}
use Rattle.text_parts.specs.Parts.{AreParts}
use Rattle.text_parts.proofs.Adding.{nothing, one_part_more}
use Rattle.proxy_rows.specs.ProxyText.{IsLine}
use Rattle.proxy_rows.proofs.text.push_lines.Goals as goal

pub loop-s-init : goal.loop-s-init
loop-s-init c = nothing (AreParts (IsLine c.args.g.now c.args.rows.now) 0) c.args.text.now.items refl

pub push_line-requires : goal.push_line-requires
push_line-requires c = record {
  kept = c.requires.kept;
  within = omega (arith, c.loop-s-test.true, c.new.ensures, c.requires.count);
  one_each = c.requires.rows.one_each;
  blue = λ row at. c.requires.rows.blue c.new.result row at;
  red = λ row at. c.requires.rows.red c.new.result row at;
}

pub loop-s-preserved : goal.loop-s-preserved
loop-s-preserved c =
    one_part_more (IsLine c.args.g.now c.args.rows.now) c.loop-s.s c.args.text.now.items c.loop-s.text.items c.push_line.new.text.items c.loop-s.invariant
    (subst (λ (n : ℕ). Adds (IsLine c.args.g.now c.args.rows.now n) c.loop-s.text.items c.push_line.new.text.items) c.new.ensures c.in_ok-push_line.ensures)

pub returns : goal.returns
returns c =
    let all : c.loop-s.s ≡ length c.args.g.now.ids = omega (arith, c.loop-s-test.false, c.loop-s.auto.s-end, c.requires.count) in
    subst (λ (n : ℕ). Adds (AreParts (IsLine c.args.g.now c.args.rows.now) n) c.args.text.now.items c.loop-s.text.items) all c.loop-s.invariant
