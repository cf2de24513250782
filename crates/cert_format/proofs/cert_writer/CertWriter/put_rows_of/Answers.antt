use Rattle.std.proofs.Common.{◌≡◌, ◌∙◌, ◌<◌, ◌+◌, ◌^◌, ◌++◌, ◌∷◌, [], ℕ, List, Ok, drop, length, refl, sym, ap, subst, arith}
use Rattle.std.specs.List.{flat_map}
use Rattle.std.proofs.lemmas.List.{drop_all, drop_more}
use Rattle.std.proofs.lemmas.Option.{get_or_from_slice_get, slice_get_within}
use Rattle.std.proofs.lemmas.Result.{err_from_is_err_and}
use Rattle.std.specs.Prelude.{Some, slice_get}
use Rattle.mrt_graph.specs.declared.cert.Row.{Row}
use Rattle.cert_format.specs.CertText.{row_text}
use Rattle.cert_format.specs.steps.Putting.{row_text_in}
use Rattle.cert_format.specs.Putting.{Puts, Writer}
use Rattle.cert_format.proofs.FileRows.{near_same, rows_put, short_row}
use Rattle.cert_format.proofs.Lists.{texts_next}
use Rattle.cert_format.proofs.Puttings.{all_given, puts_as, puts_none, turn_done, turn_failed, turn_fits}
use Rattle.cert_format.proofs.cert_writer.CertWriter.put_rows_of.Goals as goal

pub put_rows-requires : goal.put_rows-requires
put_rows-requires g c =
    let version : c.self.inside.version ≡ c.args.self.now.version = ap (λ (it : Writer). it.version) c.self.view_is in
    let same = ap (flat_map row_text) (near_same c.args.self.now.version c.held_rows.result.now c.args.cert.now.rows (λ one. c.if-self-ne1.true (version ∙ one)) c.held_rows.ensures.near) in
    subst (λ (it : List ℕ). c.args.self.now.gone + length (c.args.self.now.held ++ it) < 2 ^ 64) (sym same) c.requires

pub returns-then-self-ne1 : goal.returns-then-self-ne1
returns-then-self-ne1 g c =
    let version : c.self.inside.version ≡ c.args.self.now.version = ap (λ (it : Writer). it.version) c.self.view_is in
    let same = ap (flat_map row_text) (near_same c.args.self.now.version c.held_rows.result.now c.args.cert.now.rows (λ one. c.if-self-ne1.true (version ∙ one)) c.held_rows.ensures.near) in
    rw same at c.put_rows.ensures

-- the next row, and those after it
row_next : (text : Row → List ℕ) (rows : List Row) (i : ℕ) (row : Row) (done : List ℕ) → slice_get rows i ≡ Some row → done ++ flat_map text (drop i rows) ≡ flat_map text rows
    → done ++ (flat_map text (row ∷ []) ++ flat_map text (drop (i + 1) rows)) ≡ flat_map text rows
row_next text rows i row done is parts =
    texts_next text (drop i rows) (row ∷ []) (drop (i + 1) rows) done (flat_map text rows)
    (drop_more rows i row (slice_get_within rows i row is) ∙ ap (λ (it : Row). it ∷ drop (i + 1) rows) (get_or_from_slice_get rows i row row is)) parts

pub put_few-requires-clause-short : goal.put_few-requires-clause-short
put_few-requires-clause-short g c = λ row. omega (arith, short_row c.loop-place.self.version row)

pub put_few-requires-clause-small : goal.put_few-requires-clause-small
put_few-requires-clause-small g c =
    let so_far = c.loop-place.invariant in
    let rows = c.args.cert.now.rows in
    let parts = row_next (row_text_in c.args.self.now.version) rows c.loop-place.place c.row_at.result so_far.0 c.row_at.ensures so_far.1 in
    rw so_far.2.same (turn_fits so_far.0 _ _ _ c.args.self.now c.loop-place.self parts so_far.2.size (rw (rows_put c.args.self.now.version rows) c.requires))

pub returns-in_err-put_few : goal.returns-in_err-put_few
returns-in_err-put_few g c =
    let q = err_from_is_err_and c.from_residual.result c.from_residual.ensures.1 in
    let so_far = c.loop-place.invariant in
    let rows = c.args.cert.now.rows in
    let parts = row_next (row_text_in c.args.self.now.version) rows c.loop-place.place c.row_at.result so_far.0 c.row_at.ensures so_far.1 in
    rw (q.1, q.2, ← rows_put c.args.self.now.version rows) (turn_failed _ _ _ _ _ _ _ _ _ so_far.0 _ _ _ c.args.self.now c.loop-place.self c.put_few.new.self parts so_far.2 c.in_err-put_few.field-0.0
    (puts_as _ _ _ _ _ _ _ _ _ _ _ (ap (λ (k : ℕ). flat_map (row_text_in k) (c.row_at.result ∷ [])) so_far.2.same) c.in_err-put_few.ensures))

pub loop-place-preserved : goal.loop-place-preserved
loop-place-preserved g c =
    let so_far = c.loop-place.invariant in
    let parts = row_next (row_text_in c.args.self.now.version) c.args.cert.now.rows c.loop-place.place c.row_at.result so_far.0 c.row_at.ensures so_far.1 in
    turn_done _ _ _ _ _ _ _ _ _ so_far.0 _ _ _ c.args.self.now c.loop-place.self c.put_few.new.self parts so_far.2
    (puts_as _ _ _ _ _ _ _ _ _ _ _ (ap (λ (k : ℕ). flat_map (row_text_in k) (c.row_at.result ∷ [])) so_far.2.same) c.in_ok-put_few.ensures)

pub loop-place-init : goal.loop-place-init
loop-place-init g c = ([], refl, puts_none (g.K.Sink.written c.args.sink.now) (g.K.Sink.faults c.args.sink.now) (g.K.Sink.healthy_for c.args.sink.now) c.args.self.now)

pub returns : goal.returns
returns g c =
    let so_far = c.loop-place.invariant in
    let rows = c.args.cert.now.rows in
    let text = row_text_in c.args.self.now.version in
    let none = drop_all c.loop-place.place rows (omega (arith, c.loop-place-test.false, c.row_count-place-end.ensures)) in
    rw (← rows_put c.args.self.now.version rows)
    (all_given (λ (it : List ℕ). Puts (g.K.Sink.written c.args.sink.now) (g.K.Sink.written c.loop-place.sink) (g.K.Sink.faults c.args.sink.now) (g.K.Sink.faults c.loop-place.sink) (g.K.Sink.healthy_for c.args.sink.now) (g.K.Sink.healthy_for c.loop-place.sink) it c.args.self.now c.loop-place.self (Ok tt))
    so_far.0 (flat_map text (drop c.loop-place.place rows)) (flat_map text rows) so_far.1 (ap (flat_map text) none) so_far.2)
