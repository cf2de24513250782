use Rattle.std.proofs.Common.{◌≡◌, ◌∙◌, ◌+◌, refl, sym, ap, length}
use Rattle.flood.specs.declared.error.UpdateError.TheVariants.{Fault}
use Rattle.flood.specs.declared.error.UpdateKind.TheVariants as kinds
use Rattle.std.proofs.lemmas.List.{length-map}
use Rattle.flood.specs.Updates.{placed_from}
use Rattle.flood.proofs.OnePacket.{count_refused}
use Rattle.flood.proofs.Refusals.{told_here}
use Rattle.flood.proofs.packet.packet.Goals as goal

pub returns-in-Some-clause-fault : goal.returns-in-Some-clause-fault
returns-in-Some-clause-fault c = λ place kind told.
    told_here c.args.at place c.in-Some.kind kind c.args.bytes.now c.in-Some.ensures.fault
    (let same : Fault c.args.at c.in-Some.kind ≡ Fault place kind = cc in same)

pub returns-then-number_32-as_slice-clause-fault : goal.returns-then-number_32-as_slice-clause-fault
returns-then-number_32-as_slice-clause-fault c = λ place kind told.
    told_here c.args.at place kinds.Count kind c.args.bytes.now
    (count_refused c.args.bytes.now c.in_ok-lsas.ensures.found.read c.in_default.ensures.sound
    c.in_ok-lsas.ensures.found.faultless c.in_ok-lsas.ensures.found.spelled
    (λ same. c.if-number_32-as_slice.true (c.number_32.ensures ∙ same ∙ sym (ap length c.as_slice.ensures.value
    ∙ ap length c.in_ok-lsas.ensures.found.placed
    ∙ length-map c.in_ok-lsas.ensures.found.read (placed_from (c.args.at + 28))))))
    (let same : Fault c.args.at kinds.Count ≡ Fault place kind = cc in same)

pub returns-clause-found : goal.returns-clause-found
returns-clause-found c =
    let header = c.in_default.ensures.sound in
    let lsas = c.in_ok-lsas.ensures.found in
    record {
      header_there = header.header_there;
      whole = header.whole;
      version = header.version;
      type = header.type;
      long_enough = header.long_enough;
      read = lsas.read;
      faultless = lsas.faultless;
      spelled = lsas.spelled;
      count = sym c.number_32.ensures ∙ c.if-number_32-as_slice.false ∙ ap length c.as_slice.ensures.value
          ∙ ap length lsas.placed ∙ length-map lsas.read (placed_from (c.args.at + 28));
      place = refl;
      router = c.number_32-2.ensures;
      area = c.number_32-3.ensures;
      lsas = c.from_vec.ensures ∙ lsas.placed;
    }
