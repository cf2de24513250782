use Rattle.std.proofs.Common.{ℕ, List, [], Ok, refl, ap}
use Rattle.std.proofs.lemmas.Result.{err_from_is_err_and}
use Rattle.std.specs.List.{flat_map}
use Rattle.cert_format.specs.Putting.{Puts}
use Rattle.cert_format.proofs.Lists.{texts_next}
use Rattle.cert_format.proofs.Puttings.{all_given, none_left, puts_as, puts_none, turn_done, turn_failed, turn_fits}
use Rattle.cert_format.proofs.cert_writer.CertWriter.put_list.Goals as goal

pub put_few-requires-clause-short : goal.put_few-requires-clause-short
put_few-requires-clause-short g c = λ part. rw c.loop-parts.invariant.2.same (c.requires.short part)

pub put_few-requires-clause-small : goal.put_few-requires-clause-small
put_few-requires-clause-small g c =
    let so_far = c.loop-parts.invariant in
    let text = g.P.Part.text_in c.args.self.now.version in
    let parts = texts_next text c.loop-parts.parts.now c.split_at.result.0.now c.split_at.result.1.now so_far.0 (flat_map text c.args.parts.now) c.split_at.ensures.by_index.0 so_far.1 in
    rw so_far.2.same (turn_fits so_far.0 _ _ _ c.args.self.now c.loop-parts.self parts so_far.2.size c.requires.small)

pub returns-in_err-put_few : goal.returns-in_err-put_few
returns-in_err-put_few g c =
    let q = err_from_is_err_and c.from_residual.result c.from_residual.ensures.1 in
    let so_far = c.loop-parts.invariant in
    let text = g.P.Part.text_in c.args.self.now.version in
    let parts = texts_next text c.loop-parts.parts.now c.split_at.result.0.now c.split_at.result.1.now so_far.0 (flat_map text c.args.parts.now) c.split_at.ensures.by_index.0 so_far.1 in
    rw (q.1, q.2) (turn_failed _ _ _ _ _ _ _ _ _ so_far.0 _ _ _ c.args.self.now c.loop-parts.self c.put_few.new.self parts so_far.2 c.in_err-put_few.field-0.0
    (puts_as _ _ _ _ _ _ _ _ _ _ _ (ap (λ (k : ℕ). flat_map (g.P.Part.text_in k) c.split_at.result.0.now) so_far.2.same) c.in_err-put_few.ensures))

pub loop-parts-preserved : goal.loop-parts-preserved
loop-parts-preserved g c =
    let so_far = c.loop-parts.invariant in
    let text = g.P.Part.text_in c.args.self.now.version in
    let parts = texts_next text c.loop-parts.parts.now c.split_at.result.0.now c.split_at.result.1.now so_far.0 (flat_map text c.args.parts.now) c.split_at.ensures.by_index.0 so_far.1 in
    turn_done _ _ _ _ _ _ _ _ _ so_far.0 _ _ _ c.args.self.now c.loop-parts.self c.put_few.new.self parts so_far.2
    (puts_as _ _ _ _ _ _ _ _ _ _ _ (ap (λ (k : ℕ). flat_map (g.P.Part.text_in k) c.split_at.result.0.now) so_far.2.same) c.in_ok-put_few.ensures)

pub loop-parts-init : goal.loop-parts-init
loop-parts-init g c = ([], refl, puts_none (g.K.Sink.written c.args.sink.now) (g.K.Sink.faults c.args.sink.now) (g.K.Sink.healthy_for c.args.sink.now) c.args.self.now)

pub returns : goal.returns
returns g c =
    let so_far = c.loop-parts.invariant in
    let text = g.P.Part.text_in c.args.self.now.version in
    let none = none_left c.loop-parts.parts.now c.is_empty.result c.is_empty.ensures c.loop-parts-test.false in
    all_given (λ (it : List ℕ). Puts (g.K.Sink.written c.args.sink.now) (g.K.Sink.written c.loop-parts.sink) (g.K.Sink.faults c.args.sink.now) (g.K.Sink.faults c.loop-parts.sink) (g.K.Sink.healthy_for c.args.sink.now) (g.K.Sink.healthy_for c.loop-parts.sink) it c.args.self.now c.loop-parts.self (Ok tt))
    so_far.0 (flat_map text c.loop-parts.parts.now) (flat_map text c.args.parts.now) so_far.1 (ap (flat_map text) none) so_far.2
