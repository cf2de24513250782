use Rattle.std.proofs.Common.{◌∙◌, ◌++◌, List, ℕ, Ok, ap}
use Rattle.cert_format.specs.steps.Steps.{parts_of, text_of}
use Rattle.cert_format.proofs.Streams.{whole_seen}
use Rattle.cert_format.proofs.state.State.read.Goals as goal

pub returns-in-Ok-clause-ok : goal.returns-in-Ok-clause-ok
returns-in-Ok-clause-ok c =
    let reads = rw c.new.ensures at c.in-Ok.ensures in
    ap (λ (it : List ℕ). Ok (text_of (parts_of c.read_on.new.self) ++ it)) c.new-self.ensures ∙ whole_seen (parts_of c.args.self.now.kept) (parts_of c.read_on.new.self) _ reads
