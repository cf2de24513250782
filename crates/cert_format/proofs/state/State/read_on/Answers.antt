use Rattle.std.proofs.Common.{◌∙◌, refl, ap, sym}
use Rattle.std.proofs.lemmas.List.{nil_from_length}
use Rattle.cert_format.specs.steps.Steps.{parts_of, progress_of, text_of}
use Rattle.cert_format.specs.Stream.{fed}
use Rattle.cert_format.proofs.Streams.{byte_then, failed_stays, if_ok, more_parts, more_progress, read_empty, stays}
use Rattle.cert_format.proofs.Taking.{grew_none, grew_then}
use Rattle.cert_format.proofs.state.State.read_on.Goals as goal

pub loop-piece-init : goal.loop-piece-init
loop-piece-init c = record { reading = c.requires; fed = refl; grew = grew_none (parts_of c.args.self.now.kept) }

pub returns-then-has_failed : goal.returns-then-has_failed
returns-then-has_failed c =
    let now = c.loop-piece.self in
    record {
      reading = c.loop-piece.invariant.reading;
      ok = failed_stays now.fault (parts_of now.kept) now.held (sym c.has_failed.ensures ∙ c.if-has_failed.true) c.loop-piece.piece.now ∙ c.loop-piece.invariant.fed;
      grew = c.loop-piece.invariant.grew;
    }

pub read-requires : goal.read-requires
read-requires c = (more_parts c.loop-piece.self.fault (parts_of c.loop-piece.self.kept) c.loop-piece.self.held c.loop-piece.invariant.reading (sym c.has_failed.ensures ∙ c.if-has_failed.false)).0

pub returns-then-is_empty : goal.returns-then-is_empty
returns-then-is_empty c =
    let now = c.loop-piece.self in
    let goes_on = sym c.has_failed.ensures ∙ c.if-has_failed.false in
    record {
      reading = c.read.ensures.reading;
      ok = if_ok c.read.result (λ is. read_empty (progress_of now) (progress_of c.read.new.self) (text_of (parts_of now.kept)) now.held c.loop-piece.piece.now (more_progress now.fault (parts_of now.kept) now.held goes_on) (c.is_empty.ensures.0 c.if-is_empty.true) is ∙ c.loop-piece.invariant.fed) c.read.ensures.ok;
      grew = grew_then (parts_of c.args.self.now.kept) (parts_of now.kept) (parts_of c.read.new.self.kept) c.loop-piece.invariant.grew c.read.ensures.grew;
    }

pub returns-in_default : goal.returns-in_default
returns-in_default c =
    let now = c.loop-piece.self in
    record {
      reading = c.loop-piece.invariant.reading;
      ok = stays now.fault (parts_of now.kept) now.held c.loop-piece.invariant.reading ∙ ap (fed (progress_of now)) (sym (nil_from_length c.loop-piece.piece.now c.in_default.ensures.cases)) ∙ c.loop-piece.invariant.fed;
      grew = c.loop-piece.invariant.grew;
    }

pub read_byte-requires-clause-certain : goal.read_byte-requires-clause-certain
read_byte-requires-clause-certain c = sym c.has_failed.ensures ∙ c.if-has_failed.false

pub returns-in_err-read_byte-clause-grew : goal.returns-in_err-read_byte-clause-grew
returns-in_err-read_byte-clause-grew c =
    grew_then (parts_of c.args.self.now.kept) (parts_of c.loop-piece.self.kept) (parts_of c.read_byte.new.self.kept) c.loop-piece.invariant.grew c.read_byte.ensures.grew

pub loop-piece-preserved : goal.loop-piece-preserved
loop-piece-preserved c = record {
  reading = c.in_ok-read_byte.ensures.reading;
  fed = byte_then (progress_of c.loop-piece.self) (progress_of c.args.self.now) (progress_of c.read_byte.new.self) c.in-Some.byte.now c.loop-piece.piece.now c.in-Some.rest.now c.args.piece.now c.in-Some.ensures.cases.0 c.in_ok-read_byte.ensures.ok c.loop-piece.invariant.fed;
  grew = grew_then (parts_of c.args.self.now.kept) (parts_of c.loop-piece.self.kept) (parts_of c.read_byte.new.self.kept) c.loop-piece.invariant.grew c.read_byte.ensures.grew;
}
