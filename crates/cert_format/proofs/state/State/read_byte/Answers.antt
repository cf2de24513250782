use Rattle.std.proofs.Common.{◌∙◌, ◌++◌, ◌∷◌, [], List, ℕ, ap}
use Rattle.cert_format.specs.steps.Steps.{parts_of, progress_of, text_of}
use Rattle.cert_format.specs.Stream.{seen}
use Rattle.cert_format.proofs.Streams.{if_ok, more_parts, more_progress, read_at_once}
use Rattle.cert_format.proofs.state.State.read_byte.Goals as goal

pub read-requires : goal.read-requires
read-requires c = (more_parts c.args.self.now.fault (parts_of c.args.self.now.kept) c.args.self.now.held c.requires.reading c.requires.certain).0

pub returns-clause-ok : goal.returns-clause-ok
returns-clause-ok c =
    let old = c.args.self.now in
    let text = text_of (parts_of old.kept) in
    if_ok c.read.result (λ is. read_at_once (progress_of old) (progress_of c.read.new.self) text old.held (c.args.byte ∷ []) (more_progress old.fault (parts_of old.kept) old.held c.requires.certain)
    (is ∙ ap (λ (it : List ℕ). seen (text ++ it)) (c.bytes.ensures ∙ c.push.ensures ∙ ap (λ (it : List ℕ). it ++ c.args.byte ∷ []) c.again-held.ensures))) c.read.ensures.ok
