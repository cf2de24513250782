use Rattle.std.proofs.Common.{◌≡◌, ◌∙◌, ◌-◌, ◌*◌, ℕ, length, refl, sym, ap, subst, arith}
use Rattle.std.proofs.lemmas.Result.{err_from_is_err_and}
use Rattle.mrt_rows.specs.CertOf.{IsCertOf}
use Rattle.mrt_rows.specs.NearOf.{near_rows_of}
use Rattle.cert_stream.proofs.Nears.{all_text, rows_failed, rows_fit, rows_more, rows_none}
use Rattle.cert_stream.proofs.rows.put_rows.Goals as goal

pub loop-s-init : goal.loop-s-init
loop-s-init g c = record {
  made = c.requires.made;
  root = refl;
  given = λ file is. rows_none _ _ _ file.cert c.args.writer.now;
}

pub put_rows-requires : goal.put_rows-requires
put_rows-requires g c =
    let file = c.requires.cert.0 in
    let is = c.requires.cert.1 in
    let now : IsCertOf c.args.g.now c.loop-s.rows.root file = subst (λ (r : ℕ). IsCertOf c.args.g.now r file) (sym c.loop-s.invariant.root) is in
    let found : c.rows.result.now ≡ near_rows_of file.cert c.loop-s.s = c.rows.ensures ∙ c.find.ensures.rows file now ∙ ap (near_rows_of file.cert) c.new.ensures in
    rows_fit _ _ _ _ _ _ file.cert c.loop-s.s c.rows.result.now c.args.writer.now c.loop-s.writer (c.loop-s.invariant.given file is) c.requires.version found c.requires.cert.2

pub returns-in_err-put_rows : goal.returns-in_err-put_rows
returns-in_err-put_rows g c = λ file is.
    let q = err_from_is_err_and c.from_residual.result c.from_residual.ensures.1 in
    let now : IsCertOf c.args.g.now c.loop-s.rows.root file = subst (λ (r : ℕ). IsCertOf c.args.g.now r file) (sym c.loop-s.invariant.root) is in
    let found : c.rows.result.now ≡ near_rows_of file.cert c.loop-s.s = c.rows.ensures ∙ c.find.ensures.rows file now ∙ ap (near_rows_of file.cert) c.new.ensures in
    rw (q.1, q.2) (rows_failed _ _ _ _ _ _ _ _ _ file.cert c.loop-s.s c.rows.result.now c.args.writer.now c.loop-s.writer c.put_rows.new.self (c.loop-s.invariant.given file is) c.requires.version found c.in_err-put_rows.field-0.0 c.in_err-put_rows.ensures)

pub loop-s-preserved : goal.loop-s-preserved
loop-s-preserved g c = record {
  made = c.find.ensures.made;
  root = c.find.ensures.root ∙ c.loop-s.invariant.root;
  given = λ file is.
      let now : IsCertOf c.args.g.now c.loop-s.rows.root file = subst (λ (r : ℕ). IsCertOf c.args.g.now r file) (sym c.loop-s.invariant.root) is in
      let found : c.rows.result.now ≡ near_rows_of file.cert c.loop-s.s = c.rows.ensures ∙ c.find.ensures.rows file now ∙ ap (near_rows_of file.cert) c.new.ensures in
      rows_more _ _ _ _ _ _ _ _ _ file.cert c.loop-s.s c.rows.result.now c.args.writer.now c.loop-s.writer c.put_rows.new.self (c.loop-s.invariant.given file is) c.requires.version found c.in_ok-put_rows.ensures;
}

pub returns : goal.returns
returns g c = λ file is.
    let n = length file.cert.nodes in
    let nodes : c.loop-s.s ≡ length file.cert.nodes = omega (arith, c.loop-s-test.false, c.loop-s.auto.s-end, c.node_count-s-end.ensures.count, is.tells.nodes.one_each) in
    let ids : length c.args.g.now.ids ≡ c.loop-s.s = omega (arith, nodes, is.tells.nodes.one_each) in
    let many : length file.cert.rows ≡ c.loop-s.s * (c.loop-s.s - 1) = is.tells.row_count ∙ ap (λ (k : ℕ). k * (k - 1)) ids in
    rw (← all_text file.cert c.loop-s.s nodes many) (c.loop-s.invariant.given file is)
