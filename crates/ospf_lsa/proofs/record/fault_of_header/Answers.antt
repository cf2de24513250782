use Rattle.std.proofs.Common.{sym, ◌∙◌, arith}
use Rattle.ospf_lsa.proofs.HeaderFaults.{IsWhole, short_told, cut_told, length_told, checksum_told, sequence_told, router_told}
use Rattle.ospf_lsa.proofs.Records.{IsHeader, header_passes}
use Rattle.ospf_lsa.proofs.record.fault_of_header.Goals as goal
use Rattle.ospf_lsa.proofs.record.fault_of_header.Goals.{else-number_8-eq-ROUTER_LSA-via-then-number_8-eq-ROUTER_LSA+else-number_32, else-number_8-eq-ROUTER_LSA-via-else-number_8-eq-ROUTER_LSA}

pub returns-then-bytes-lt-HEADER-clause-fault : goal.returns-then-bytes-lt-HEADER-clause-fault
returns-then-bytes-lt-HEADER-clause-fault c = short_told c.args.bytes.now c.if-bytes-lt-HEADER.true

pub returns-then-bytes-length-clause-fault : goal.returns-then-bytes-length-clause-fault
returns-then-bytes-length-clause-fault c = cut_told c.args.bytes.now c.if-bytes-lt-HEADER.false
    (omega (arith, c.if-bytes-length.true, c.from-length.ensures, c.number_16.ensures))

pub returns-then-length-lt-HEADER-clause-fault : goal.returns-then-length-lt-HEADER-clause-fault
returns-then-length-lt-HEADER-clause-fault c =
    length_told c.args.bytes.now c.if-bytes-lt-HEADER.false
    (omega (arith, c.if-bytes-length.false, c.from-length.ensures, c.number_16.ensures))
    (omega (arith, c.if-length-lt-HEADER.true, c.from-length.ensures, c.number_16.ensures))

pub returns-then-not-has_good_checksum-clause-fault : goal.returns-then-not-has_good_checksum-clause-fault
returns-then-not-has_good_checksum-clause-fault c =
    let whole : IsWhole c.args.bytes.now = record {
      long = c.if-bytes-lt-HEADER.false;
      within = omega (arith, c.if-bytes-length.false, c.from-length.ensures, c.number_16.ensures);
      least = omega (arith, c.if-length-lt-HEADER.false, c.from-length.ensures, c.number_16.ensures);
    } in
    checksum_told c.args.bytes.now whole (sym c.has_good_checksum.ensures ∙ c.if-not-has_good_checksum.true)

pub returns-then-number_32-eq-RESERVED_SEQUENCE-clause-fault :
    goal.returns-then-number_32-eq-RESERVED_SEQUENCE-clause-fault
returns-then-number_32-eq-RESERVED_SEQUENCE-clause-fault c =
    let whole : IsWhole c.args.bytes.now = record {
      long = c.if-bytes-lt-HEADER.false;
      within = omega (arith, c.if-bytes-length.false, c.from-length.ensures, c.number_16.ensures);
      least = omega (arith, c.if-length-lt-HEADER.false, c.from-length.ensures, c.number_16.ensures);
    } in
    sequence_told c.args.bytes.now whole (sym c.has_good_checksum.ensures ∙ c.if-not-has_good_checksum.false)
    (sym c.number_32.ensures ∙ c.if-number_32-eq-RESERVED_SEQUENCE.true)

pub returns-then-number_32-clause-fault : goal.returns-then-number_32-clause-fault
returns-then-number_32-clause-fault c =
    let whole : IsWhole c.args.bytes.now = record {
      long = c.if-bytes-lt-HEADER.false;
      within = omega (arith, c.if-bytes-length.false, c.from-length.ensures, c.number_16.ensures);
      least = omega (arith, c.if-length-lt-HEADER.false, c.from-length.ensures, c.number_16.ensures);
    } in
    router_told c.args.bytes.now whole (sym c.has_good_checksum.ensures ∙ c.if-not-has_good_checksum.false)
    (λ reserved. c.if-number_32-eq-RESERVED_SEQUENCE.false (c.number_32.ensures ∙ reserved))
    (sym c.number_8.ensures ∙ c.if-number_8-eq-ROUTER_LSA.true)
    (λ same. c.if-number_32.true (c.number_32-then-number_8-eq-ROUTER_LSA.ensures ∙ same
    ∙ sym c.number_32-then-number_8-eq-ROUTER_LSA-2.ensures))

pub returns-clause-fault : goal.returns-clause-fault
returns-clause-fault c =
    let header : IsHeader c.args.bytes.now = record {
      long = c.if-bytes-lt-HEADER.false;
      within = omega (arith, c.if-bytes-length.false, c.from-length.ensures, c.number_16.ensures);
      least = omega (arith, c.if-length-lt-HEADER.false, c.from-length.ensures, c.number_16.ensures);
      good = sym c.has_good_checksum.ensures ∙ c.if-not-has_good_checksum.false;
      not_reserved = λ reserved. c.if-number_32-eq-RESERVED_SEQUENCE.false (c.number_32.ensures ∙ reserved);
      own_id = λ router. elim c.else-number_8-eq-ROUTER_LSA.branch [
        | else-number_8-eq-ROUTER_LSA-via-then-number_8-eq-ROUTER_LSA+else-number_32 w ↦
            sym w.number_32-then-number_8-eq-ROUTER_LSA.ensures ∙ w.if-number_32.false
            ∙ w.number_32-then-number_8-eq-ROUTER_LSA-2.ensures
        | else-number_8-eq-ROUTER_LSA-via-else-number_8-eq-ROUTER_LSA w ↦
            absurd (w.if-number_8-eq-ROUTER_LSA.false (c.number_8.ensures ∙ router))
      ];
    } in
    sym (header_passes c.args.bytes.now header)

pub returns-clause-header : goal.returns-clause-header
returns-clause-header c = omega (arith, c.if-length-lt-HEADER.false, c.from-length.ensures, c.number_16.ensures)

pub returns-clause-within : goal.returns-clause-within
returns-clause-within c = omega (arith, c.if-bytes-length.false, c.from-length.ensures, c.number_16.ensures)
