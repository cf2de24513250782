use Rattle.std.proofs.Common.{ℕ, get_or, sym, ap, arith}
use Rattle.std.proofs.lemmas.List.{get_or_read}
use Rattle.link_direction.specs.steps.Counting.{entered_by, enters}
use Rattle.link_direction.proofs.Counts.{at_most}
use Rattle.link_direction.proofs.EnteredBy.{enters_within}
use Rattle.link_direction.proofs.counting.count.Goals as goal

pub index_mut-requires : goal.index_mut-requires
index_mut-requires c =
    omega (
      arith,
      enters_within c.args.g.now c.args.marks.now c.args.e c.in-Some.v c.requires.kept (sym c.in-Some.ensures),
      c.get.ensures.value,
      c.requires.counts.one_each,
    )

pub overflow_add-index_mut : goal.overflow_add-index_mut
overflow_add-index_mut c =
    let v = c.in-Some.v in
    let within = enters_within c.args.g.now c.args.marks.now c.args.e v c.requires.kept (sym c.in-Some.ensures) in
    let count = c.requires.counts.each v within in
    let read = sym (get_or_read c.args.counts.now.items c.get.result c.index_mut.result.now (omega (arith, within, c.get.ensures.value, c.requires.counts.one_each)) c.index_mut.ensures.value 0) in
    omega (
      arith,
      count,
      read,
      c.get.ensures.value,
      ap (λ (k : ℕ). get_or c.args.counts.now.items k 0) c.get.ensures.value,
      at_most (enters (entered_by c.args.g.now c.args.marks.now) v) c.args.e,
      c.requires.link,
      c.requires.kept.few_links,
    )
