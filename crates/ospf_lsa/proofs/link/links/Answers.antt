use Rattle.std.proofs.Common.{◌≡◌, ◌∙◌, ◌≤◌, ◌+◌, ◌*◌, ◌++◌, ◌-◌, ℕ, List, length, drop, Option, Some, None, refl, sym, subst, ap, arith}
use Rattle.std.specs.Prelude.{IfSome}
use Rattle.std.specs.Option.{option_map}
use Rattle.std.proofs.lemmas.List.{length-drop}
use Rattle.ospf_lsa.specs.declared.lsa.RouterLink.{RouterLink}
use Rattle.ospf_lsa.specs.steps.Reading.{Links, numbers_in, first_link, link_length, links_in}
use Rattle.ospf_lsa.proofs.Links.{after, links_first, links_cut, links_next}
use Rattle.ospf_lsa.proofs.link.links.Goals as goal

pub loop-init : goal.loop-init
loop-init c =
    let made : Links = (c.in_ok-links.links.items, c.in_ok-tos.tos.items) in
    let all : c.args.count - 0 ≡ c.args.count = omega arith in
    record {
      whole = ap (λ (n : ℕ). option_map (after made) (links_in n c.args.bytes.now)) all
          ∙ links_first made _ c.in_ok-links.ensures.items c.in_ok-tos.ensures.items;
      many = c.in_ok-links.ensures.len;
      taken = omega arith;
      room = cc (c.in_ok-links.ensures.exact, c.min-most.ensures, c.from.ensures);
    }

pub returns-in_default : goal.returns-in_default
returns-in_default c =
    links_cut c.args.count c.loop.counter c.loop.rest.now (c.loop.links.items, c.loop.tos.items) _ c.loop-test.true
    (sym c.first_link.ensures.value ∙ c.in_default.is) c.loop.invariant.whole

pub loop-preserved : goal.loop-preserved
loop-preserved c =
    let link : RouterLink = c.in-Some.link in
    let rest : List ℕ = c.loop.rest.now in
    let found : first_link c.loop.rest.now ≡ Some c.in-Some.link = sym c.first_link.ensures.value ∙ c.in-Some.is in
    let within : link_length c.in-Some.link ≤ length c.loop.rest.now =
    subst (λ (o : Option RouterLink). IfSome o (λ link. link_length link ≤ length c.loop.rest.now)) c.in-Some.is
    c.first_link.ensures.within in
    let behind : c.after-rest.result.now ≡ drop (link_length c.in-Some.link) c.loop.rest.now =
    c.after-rest.ensures ∙ ap (λ (n : ℕ). drop (12 + 4 * n) rest) c.from-entries.ensures in
    let entries : c.add_numbers.new.numbers.items
    ≡ c.loop.tos.items ++ numbers_in c.in-Some.link.entries (drop 12 c.loop.rest.now) =
    c.in_ok-add_numbers.ensures
    ∙ ap (λ (n : ℕ). c.loop.tos.items ++ numbers_in n c.after.result.now) c.from-entries.ensures
    ∙ ap (λ (t : List ℕ). c.loop.tos.items ++ numbers_in link.entries t) c.after.ensures in
    let next = links_next c.args.count c.loop.counter link rest (c.loop.links.items, c.loop.tos.items)
    (c.push_reserved.new.self.items, c.add_numbers.new.numbers.items) _ c.loop-test.true found
    c.push_reserved.ensures.items entries c.loop.invariant.whole in
    record {
      whole = rw behind next;
      many = omega arith;
      taken = omega
          (arith, ap length behind, length-drop (link_length link) rest, within, c.loop.invariant.taken);
      room = omega arith;
    }

pub returns-else-is_empty : goal.returns-else-is_empty
returns-else-is_empty c =
    let none_left : c.args.count - c.loop.counter ≡ 0 = omega arith in
    let cut : links_in (c.args.count - c.loop.counter) c.loop.rest.now ≡ None =
    rw (none_left, sym c.if-is_empty.ensures) refl in
    ap (option_map (after (c.loop.links.items, c.loop.tos.items))) (sym cut) ∙ c.loop.invariant.whole
