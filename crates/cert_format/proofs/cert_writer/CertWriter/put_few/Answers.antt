use Rattle.std.proofs.Common.{◌≡◌, ◌∙◌, [], length, ap, arith, length-append}
use Rattle.std.proofs.lemmas.Result.{err_from_is_err_and}
use Rattle.std.specs.List.{flat_map}
use Rattle.cert_format.specs.Putting.{Writer}
use Rattle.cert_format.proofs.Lists.{texts_few}
use Rattle.cert_format.proofs.Puttings.{puts_failed}
use Rattle.cert_format.proofs.cert_writer.CertWriter.put_few.Goals as goal

pub make_room-requires : goal.make_room-requires
make_room-requires g c = omega (arith, c.requires.small, length-append c.args.self.now.held (flat_map (g.P.Part.text_in c.args.self.now.version) c.args.parts.now))

pub returns-in_err-make_room : goal.returns-in_err-make_room
returns-in_err-make_room g c =
    let q = err_from_is_err_and c.from_residual.result c.from_residual.ensures.1 in
    rw (q.1, q.2) (puts_failed _ _ _ _ _ _ [] (flat_map (g.P.Part.text_in c.args.self.now.version) c.args.parts.now) c.args.self.now c.make_room.new.self c.in_err-make_room.field-0.0 c.in_err-make_room.ensures.puts)

pub put_parts-requires : goal.put_parts-requires
put_parts-requires g c =
    let few = texts_few (g.P.Part.text_in c.args.self.now.version) 14 c.args.parts.now c.requires.short in
    let version : c.self.inside.version ≡ c.args.self.now.version = ap (λ (it : Writer). it.version) c.self.view_is ∙ c.in_ok-make_room.ensures.puts.same in
    rw version (omega (arith, few, c.in_ok-make_room.ensures.room, ap (λ (it : Writer). length it.held) c.self.view_is, c.self.invariant, c.requires.few))
