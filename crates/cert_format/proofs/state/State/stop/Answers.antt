use Rattle.std.proofs.Common.{◌≡◌, ◌∙◌, ◌-◌, ◌++◌, ℕ, List, drop, length, take, sym, ap}
use Rattle.std.proofs.lemmas.List.{take_rest}
use Rattle.std.proofs.lemmas.Bool.{both_ways}
use Rattle.cert_format.specs.steps.Reading.{rest_of}
use Rattle.cert_format.specs.steps.Steps.{parts_of}
use Rattle.cert_format.specs.Stream.{is_cut}
use Rattle.cert_format.proofs.Streams.{cut_seen, failed_told, left_is}
use Rattle.cert_format.proofs.state.State.stop.Goals as goal

pub returns-then-has_failed-clause-stopped : goal.returns-then-has_failed-clause-stopped
returns-then-has_failed-clause-stopped c = λ old place stops.
    let certain = failed_told c.args.fault (sym c.has_failed.ensures ∙ c.if-has_failed.true) in
    cut_seen old (parts_of c.args.self.now.kept) (rest_of c.args.place c.args.bytes.now) c.args.fault stops c.new-self.result (λ cut. absurd (both_ways (is_cut c.args.fault.kind) certain cut))

pub returns-clause-stopped : goal.returns-clause-stopped
returns-clause-stopped c = λ old place stops.
    let left = left_is old (parts_of c.args.self.now.kept) (rest_of c.args.place c.args.bytes.now) c.args.fault stops c.size.result c.args.place c.size.ensures.value place in
    let held : c.push.new.self ≡ drop (c.size.result - c.args.place) c.args.bytes.now =
    let k = c.size.result - c.args.place in
    c.push.ensures ∙ ap (λ (it : List ℕ). it ++ take (length c.args.bytes.now - k) (drop k c.args.bytes.now)) c.new-self.ensures ∙ take_rest c.args.bytes.now k in
    cut_seen old (parts_of c.args.self.now.kept) (rest_of c.args.place c.args.bytes.now) c.args.fault stops c.push.new.self (λ cut. held ∙ left)
