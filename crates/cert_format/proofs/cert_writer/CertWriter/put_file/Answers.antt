use Rattle.std.proofs.Common.{◌≡◌, ◌∙◌, ◌++◌, List, length, ap, refl, arith}
use Rattle.std.proofs.lemmas.Result.{err_from_is_err_and}
use Rattle.mrt_graph.specs.declared.cert.CertNode.{CertNode}
use Rattle.mrt_graph.specs.declared.cert.CertLink.{CertLink}
use Rattle.mrt_graph.specs.declared.cert.Row.{Row}
use Rattle.mrt_graph.specs.declared.cert.CertFile.{CertFile}
use Rattle.cert_format.specs.CertText.{cert_text}
use Rattle.cert_format.specs.Putting.{Writer}
use Rattle.cert_format.specs.steps.Putting.{begun, parts_text}
use Rattle.cert_format.proofs.Puttings.{all_size, wrote, wrote_failed}
use Rattle.cert_format.proofs.SpellingLength.{longest_spelling}
use Rattle.cert_format.proofs.cert_writer.CertWriter.put_file.Goals as goal

-- what a writer that was given the header holds, and the parts after it
whole : (f : CertFile) (writer : Writer) (nodes : List CertNode) (links : List CertLink) (rows : List Row) → writer ≡ begun f
    → nodes ≡ f.cert.nodes → links ≡ f.cert.links → rows ≡ f.cert.rows → writer.held ++ parts_text writer.version nodes links rows ≡ cert_text f
whole f writer nodes links rows w n l r =
    ap (λ (it : Writer). it.held ++ parts_text it.version nodes links rows) w
    ∙ ap (λ (it : List CertNode). (begun f).held ++ parts_text f.version it links rows) n
    ∙ ap (λ (it : List CertLink). (begun f).held ++ parts_text f.version f.cert.nodes it rows) l
    ∙ ap (λ (it : List Row). (begun f).held ++ parts_text f.version f.cert.nodes f.cert.links it) r

pub put_parts-requires : goal.put_parts-requires
put_parts-requires g c =
    let f = c.args.file.now in
    let all = whole f c.args.self c.nodes.result.now c.links.result.now f.cert.rows c.requires.header c.nodes.ensures.value c.links.ensures refl in
    omega (arith, ap (λ (it : Writer). it.gone) c.requires.header, ap length all, longest_spelling f c.requires.within)

pub returns-in_err-put_parts : goal.returns-in_err-put_parts
returns-in_err-put_parts g c =
    let f = c.args.file.now in
    let q = err_from_is_err_and c.from_residual.result c.from_residual.ensures.1 in
    let all = whole f c.args.self c.nodes.result.now c.links.result.now f.cert.rows c.requires.header c.nodes.ensures.value c.links.ensures refl in
    rw (q.1, q.2) (wrote_failed _ _ _ _ _ _ _ (cert_text f) c.args.self c.put_parts.new.self c.in_err-put_parts.field-0.0 (ap (λ (it : Writer). it.gone) c.requires.header) all c.in_err-put_parts.ensures)

pub finish-requires : goal.finish-requires
finish-requires g c =
    let f = c.args.file.now in
    let all = whole f c.args.self c.nodes.result.now c.links.result.now f.cert.rows c.requires.header c.nodes.ensures.value c.links.ensures refl in
    omega (arith, longest_spelling f c.requires.within, all_size _ _ _ _ _ _ _ (cert_text f) c.args.self c.put_parts.new.self (ap (λ (it : Writer). it.gone) c.requires.header) all c.in_ok-put_parts.ensures)

pub returns : goal.returns
returns g c =
    let f = c.args.file.now in
    let all = whole f c.args.self c.nodes.result.now c.links.result.now f.cert.rows c.requires.header c.nodes.ensures.value c.links.ensures refl in
    let end = c.finish.ensures in
    wrote _ _ _ _ _ _ _ (cert_text f) c.args.self c.put_parts.new.self (ap (λ (it : Writer). it.gone) c.requires.header) all c.in_ok-put_parts.ensures _ _ (g.K.Sink.healthy_for c.finish.new.sink) c.finish.result
    end.gained end.part end.cause end.count end.succeeds end.no_fault end.stays_healthy
