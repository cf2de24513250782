use Rattle.std.proofs.Common.{length, subst, arith}
use Rattle.mrt_graph.specs.declared.cert.CertFile.{CertFile}
use Rattle.cert_format.specs.CertText.{cert_text}
use Rattle.cert_format.specs.Limits.{IsCertFile}
use Rattle.cert_format.specs.steps.Putting.{Wrote}
use Rattle.cert_format.proofs.putting.WritableCert.put.Goals as goal

pub returns : goal.returns
returns g c =
    let sink = c.args.sink.now in
    let now = c.put_file.new.sink in
    let put = subst (λ (f : CertFile). Wrote (g.K.Sink.written sink) (g.K.Sink.written now) (g.K.Sink.faults sink) (g.K.Sink.faults now) (g.K.Sink.healthy_for sink) (g.K.Sink.healthy_for now) (cert_text f) c.put_file.result) c.self.view_is c.put_file.ensures in
    record {
      gained = put.gained;
      within = subst IsCertFile c.self.view_is c.self.invariant.within;
      part = put.part;
      cause = put.cause;
      count = put.count;
      succeeds = λ well. put.succeeds (length (cert_text c.args.self)) well (omega arith);
      no_fault = put.no_fault;
      stays_healthy = put.stays_healthy;
    }
