use Rattle.std.proofs.Common.{length, sym, ap, subst, arith}
use Rattle.std.proofs.lemmas.Result.{err_from_is_err_and}
use Rattle.mrt_graph.specs.declared.cert.CertFile.{CertFile}
use Rattle.mrt_rows.specs.CertOf.{IsCertOf}
use Rattle.cert_format.specs.CertText.{cert_text}
use Rattle.cert_format.specs.Putting.{Writer}
use Rattle.cert_format.proofs.Puttings.{all_size, wrote, wrote_failed}
use Rattle.cert_stream.specs.Stream.{Stream}
use Rattle.cert_stream.proofs.Whole.{few_bytes, stream_text}
use Rattle.cert_stream.proofs.cert_stream.CertStream.put.Goals as goal

pub put_parts-requires-clause-version : goal.put_parts-requires-clause-version
put_parts-requires-clause-version g c = ap (λ (writer : Writer). writer.version) c.self.invariant.0.header

pub put_parts-requires-clause-cert : goal.put_parts-requires-clause-cert
put_parts-requires-clause-cert g c =
    let file = c.self.invariant.0.some.0 in
    let is = c.self.invariant.0.some.1 in
    let text = stream_text c.self.inside.graph c.self.inside.number c.self.inside.nodes.items c.deref.result.now c.self.inside.links.items c.deref-2.result.now c.self.inside.rows c.self.inside.writer c.self.invariant.0 c.deref.ensures.value c.deref-2.ensures.value in
    (file, is, omega (arith, ap (λ (it : Writer). it.gone) c.self.invariant.0.header, ap length (text file is), few_bytes c.self.inside.graph c.self.inside.rows.root file c.node_count-count.ensures.kept is))

pub returns-in_err-put_parts : goal.returns-in_err-put_parts
returns-in_err-put_parts g c =
    let q = err_from_is_err_and c.from_residual.result c.from_residual.ensures.1 in
    let text = stream_text c.self.inside.graph c.self.inside.number c.self.inside.nodes.items c.deref.result.now c.self.inside.links.items c.deref-2.result.now c.self.inside.rows c.self.inside.writer c.self.invariant.0 c.deref.ensures.value c.deref-2.ensures.value in
    let now = λ (file : CertFile) (is : IsCertOf c.args.self.graph c.args.self.root file). subst (λ (it : Stream). IsCertOf it.graph it.root file) (sym c.self.view_is) is in
    let so = λ (file : CertFile) (is : IsCertOf c.args.self.graph c.args.self.root file). wrote_failed _ _ _ _ _ _ _ (cert_text file) c.self.inside.writer c.put_parts.new.writer c.in_err-put_parts.field-0.0
    (ap (λ (it : Writer). it.gone) c.self.invariant.0.header) (text file (now file is)) (c.in_err-put_parts.ensures file (now file is)) in
    let some : (file : CertFile) × IsCertOf c.args.self.graph c.args.self.root file = subst (λ (it : Stream). (file : CertFile) × IsCertOf it.graph it.root file) c.self.view_is c.self.invariant.0.some in
    let one = so some.0 some.1 in
    rw (q.1, q.2) (record {
      cert = some;
      within = λ file is. c.self.invariant.0.within file (now file is);
      gained = λ file is. (so file is).gained;
      part = λ file is. (so file is).part;
      cause = one.cause;
      count = one.count;
      succeeds = λ file is well. (so file is).succeeds (length (cert_text file)) well (omega arith);
      no_fault = λ file is. (so file is).no_fault;
      stays_healthy = λ file is. (so file is).stays_healthy;
    })

pub finish-requires : goal.finish-requires
finish-requires g c =
    let file = c.self.invariant.0.some.0 in
    let is = c.self.invariant.0.some.1 in
    let text = stream_text c.self.inside.graph c.self.inside.number c.self.inside.nodes.items c.deref.result.now c.self.inside.links.items c.deref-2.result.now c.self.inside.rows c.self.inside.writer c.self.invariant.0 c.deref.ensures.value c.deref-2.ensures.value in
    let size = all_size _ _ _ _ _ _ _ (cert_text file) c.self.inside.writer c.put_parts.new.writer (ap (λ (it : Writer). it.gone) c.self.invariant.0.header) (text file is) (c.in_ok-put_parts.ensures file is) in
    omega (arith, size, few_bytes c.self.inside.graph c.self.inside.rows.root file c.node_count-count.ensures.kept is)

pub returns : goal.returns
returns g c =
    let text = stream_text c.self.inside.graph c.self.inside.number c.self.inside.nodes.items c.deref.result.now c.self.inside.links.items c.deref-2.result.now c.self.inside.rows c.self.inside.writer c.self.invariant.0 c.deref.ensures.value c.deref-2.ensures.value in
    let now = λ (file : CertFile) (is : IsCertOf c.args.self.graph c.args.self.root file). subst (λ (it : Stream). IsCertOf it.graph it.root file) (sym c.self.view_is) is in
    let end = c.finish.ensures in
    let so = λ (file : CertFile) (is : IsCertOf c.args.self.graph c.args.self.root file). wrote _ _ _ _ _ _ _ (cert_text file) c.self.inside.writer c.put_parts.new.writer
    (ap (λ (it : Writer). it.gone) c.self.invariant.0.header) (text file (now file is)) (c.in_ok-put_parts.ensures file (now file is)) _ _ (g.K.Sink.healthy_for c.finish.new.sink) c.finish.result
    end.gained end.part end.cause end.count end.succeeds end.no_fault end.stays_healthy in
    let some : (file : CertFile) × IsCertOf c.args.self.graph c.args.self.root file = subst (λ (it : Stream). (file : CertFile) × IsCertOf it.graph it.root file) c.self.view_is c.self.invariant.0.some in
    let one = so some.0 some.1 in
    record {
      cert = some;
      within = λ file is. c.self.invariant.0.within file (now file is);
      gained = λ file is. (so file is).gained;
      part = λ file is. (so file is).part;
      cause = one.cause;
      count = one.count;
      succeeds = λ file is well. (so file is).succeeds (length (cert_text file)) well (omega arith);
      no_fault = λ file is. (so file is).no_fault;
      stays_healthy = λ file is. (so file is).stays_healthy;
    }
