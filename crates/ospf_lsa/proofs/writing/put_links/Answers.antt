use Rattle.std.proofs.Common.{◌∙◌, ◌+◌, ◌++◌, ℕ, List, length, take, drop, get_or, sym, subst, ap, arith}
use Rattle.std.specs.Int.{w32, to_be_bytes}
use Rattle.std.specs.List.{flat_map}
use Rattle.std.proofs.Math.Facts.{Fits-lt-pow}
use Rattle.std.proofs.lemmas.List.{length-append}
use Rattle.ospf_lsa.specs.declared.lsa.RouterLink.{RouterLink}
use Rattle.ospf_lsa.specs.LsaText.{link_text}
use Rattle.ospf_lsa.specs.Lsas.{AreEntriesOf}
use Rattle.ospf_lsa.proofs.Texts.{all_numbers, next_link, next_room, no_link, one_more_link}
use Rattle.ospf_lsa.proofs.writing.put_links.Goals as goal

pub split_at-requires : goal.split_at-requires
split_at-requires c =
    let next = next_link c.args.links.now c.loop-link.link-index c.loop-link.rest.now c.loop-link-test.true
    c.loop-link.invariant.entries in
    omega (arith, next.enough, c.from.ensures)

pub put_link-requires : goal.put_link-requires
put_link-requires c =
    let link : RouterLink = get_or c.args.links.now c.loop-link.link-index no_link in
    let next = next_link c.args.links.now c.loop-link.link-index c.loop-link.rest.now c.loop-link-test.true
    c.loop-link.invariant.entries in
    omega (
      arith,
      c.loop-link.invariant.room,
      next_room c.args.links.now c.loop-link.link-index link c.loop-link.rest.now c.split_at.result.0.now
          c.split_at.result.1.now next
          (c.split_at.ensures.front ∙ ap (λ (n : ℕ). take n c.loop-link.rest.now) c.from.ensures)
          (c.split_at.ensures.back ∙ ap (λ (n : ℕ). drop n c.loop-link.rest.now) c.from.ensures),
    )

pub loop-link-preserved : goal.loop-link-preserved
loop-link-preserved c =
    let link : RouterLink = get_or c.args.links.now c.loop-link.link-index no_link in
    let next = next_link c.args.links.now c.loop-link.link-index c.loop-link.rest.now c.loop-link-test.true
    c.loop-link.invariant.entries in
    let own = c.split_at.ensures.front ∙ ap (λ (n : ℕ). take n c.loop-link.rest.now) c.from.ensures in
    let later = c.split_at.ensures.back ∙ ap (λ (n : ℕ). drop n c.loop-link.rest.now) c.from.ensures in
    record {
      text = one_more_link c.args.links.now c.loop-link.link-index link c.loop-link.rest.now c.split_at.result.0.now
          c.split_at.result.1.now c.loop-link.out.items c.put_link.new.out.items _ next own later
          c.put_link.ensures.text c.loop-link.invariant.text;
      room = omega (
        arith,
        c.loop-link.invariant.room,
        next_room c.args.links.now c.loop-link.link-index link c.loop-link.rest.now c.split_at.result.0.now
            c.split_at.result.1.now next own later,
        ap length c.put_link.ensures.text,
        length-append c.loop-link.out.items
            (link_text link ++ flat_map (to_be_bytes w32) c.split_at.result.0.now),
        c.put_link.ensures.capacity,
      );
      entries = subst (λ (t : List ℕ). AreEntriesOf (drop (c.loop-link.link-index + 1) c.args.links.now) t) (sym later)
          next.entries;
      fits = λ all. c.loop-link.invariant.fits (next.fits c.put_link.ensures.fits all);
    }

pub returns-clause-entries_fit : goal.returns-clause-entries_fit
returns-clause-entries_fit c = all_numbers c.args.tos.now (λ k. Fits-lt-pow {w = w32} (c.type_inv.tos k))
