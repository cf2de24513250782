use Rattle.std.proofs.Common.{◌≡◌, ◌∙◌, ◌+◌, ◌<◌, ◌^◌, Err, List, Contains, ap, length, map, subst, sym, arith}
use Rattle.std.proofs.lemmas.List.{length-map, take_at}
use Rattle.ospf_lsa.specs.declared.lsa.Lsa.{Lsa}
use Rattle.flood.specs.declared.error.UpdateError.TheVariants.{Fault}
use Rattle.flood.specs.declared.error.UpdateKind.TheVariants as kinds
use Rattle.flood.specs.Updates.{placed_from}
use Rattle.flood.proofs.Refusals.{places_fit, told_of_lsa, record_within}
use Rattle.flood.proofs.packet.lsas.Goals as goal

pub place-requires : goal.place-requires
place-requires c = λ lsa among.
    places_fit c.args.at c.args.bytes.now c.lsa_bytes.result.now c.in-Ok.lsas.items c.requires.room c.requires.sound
    c.lsa_bytes.ensures c.in-Ok.ensures.found.0 c.in-Ok.ensures.found.1 lsa
    (subst (λ (ls : List Lsa). Contains ls lsa) c.deref_mut.ensures.value among)

pub overflow_add-result-in-Err-Fault : goal.overflow_add-result-in-Err-Fault
overflow_add-result-in-Err-Fault c =
    let fits : c.args.at + 28 + c.in-Err-Fault.record < 2 ^ 32 =
    record_within c.args.at c.in-Err-Fault.record c.in-Err-Fault.kind c.args.bytes.now c.lsa_bytes.result.now
    c.requires.room c.requires.sound c.lsa_bytes.ensures
    (c.in-Err-Fault.ensures.fault c.in-Err-Fault.record c.in-Err-Fault.kind (ap Err c.in-Err-Fault.field-0-is)) in
    omega (arith, fits)

pub returns-in-Ok-clause-found : goal.returns-in-Ok-clause-found
returns-in-Ok-clause-found c =
    let read : List Lsa = c.in-Ok.lsas.items in
    let placed : c.place.new.lsas ≡ map (placed_from (c.args.at + 28)) read =
    c.place.ensures ∙ ap (map (placed_from (c.args.at + 28))) c.deref_mut.ensures.value in
    record {
      read = read;
      faultless = c.in-Ok.ensures.found.0;
      spelled = sym c.lsa_bytes.ensures ∙ c.in-Ok.ensures.found.1;
      placed = take_at c.place.new.lsas _ c.in-Ok.lsas.len (omega
          (arith, c.in-Ok.lsas.ok.0, ap length placed, length-map read (placed_from (c.args.at + 28)))) ∙ placed;
    }

pub returns-in-Err-Fault-clause-fault : goal.returns-in-Err-Fault-clause-fault
returns-in-Err-Fault-clause-fault c = λ place kind told.
    told_of_lsa c.args.at c.in-Err-Fault.record place c.in-Err-Fault.kind kind c.args.bytes.now c.lsa_bytes.result.now
    c.requires.sound c.lsa_bytes.ensures
    (c.in-Err-Fault.ensures.fault c.in-Err-Fault.record c.in-Err-Fault.kind (ap Err c.in-Err-Fault.field-0-is)) (let same : Fault (c.args.at + 28 + c.in-Err-Fault.record)
    (kinds.Lsa c.in-Err-Fault.kind) ≡ Fault place kind = cc in same)
