use Rattle.std.proofs.Common.{◌≡◌, ◌<◌, ◌+◌, ◌∙◌, ℕ, List, Option, Some, length, set, slice_get, inl, inr, refl, sym, ap, subst, arith}
use Rattle.std.specs.Option.{option_map}
use Rattle.std.proofs.lemmas.Bool.{cases_eq}
use Rattle.std.proofs.lemmas.List.{length-set}
use Rattle.std.proofs.lemmas.Option.{same_Some, slice_get_read, slice_get_within}
use Rattle.mrt_graph.specs.declared.gadag.Mark.{Mark}
use Rattle.mrt_graph.specs.declared.gadag.Way.{Way}
use Rattle.mrt_graph.specs.declared.link.Link.{Link}
use Rattle.mrt_graph.specs.Topology.{Topology}
use Rattle.mrt_graph.proofs.ListPlaces.{set_elsewhere, set_there}
use Rattle.link_direction.specs.steps.LinksOfNoEar.{AreLinksDirected, mark_by}
use Rattle.link_direction.proofs.links_of_no_ear.direct_links.Goals as goal

-- one link more
way_more : (g : Topology) (numbers : List ℕ) (k : ℕ) (before marks : List Mark) (link : Link) (mark : Mark) → slice_get g.links k ≡ Some link → slice_get marks k ≡ Some mark
    → AreLinksDirected g numbers k before marks → AreLinksDirected g numbers (k + 1) before (set marks k (mark_by numbers link mark))
way_more g numbers k before marks link mark at there are = record {
  one_each = length-set marks k (mark_by numbers link mark) ∙ are.one_each;
  given = λ e other early is. elim (cases_eq e k) [
    | inl same ↦
        let one : link ≡ other = same_Some link other (sym at ∙ ap (λ (i : ℕ). slice_get g.links i) (sym same) ∙ is) in
        subst (λ (i : ℕ). slice_get (set marks k (mark_by numbers link mark)) i ≡ option_map (mark_by numbers other) (slice_get before i)) (sym same)
        (set_there marks k (mark_by numbers link mark) (slice_get_within marks k mark there) ∙ ap (λ (l : Link). Some (mark_by numbers l mark)) one
        ∙ ap (λ (o : Option Mark). option_map (mark_by numbers other) o) (sym there ∙ are.others k (omega arith)))
    | inr another ↦ set_elsewhere marks k e (mark_by numbers link mark) another ∙ are.given e other (omega (arith, early, another)) is
  ];
  others = λ e late. set_elsewhere marks k e (mark_by numbers link mark) (λ same. omega (arith, same, late)) ∙ are.others e (omega (arith, late));
}

pub loop-e-init : goal.loop-e-init
loop-e-init c = record {
  one_each = refl;
  given = λ e link early. absurd (omega (arith, early));
  others = λ e late. refl;
}

pub link-link-requires : goal.link-link-requires
link-link-requires c = omega (arith, c.new.ensures, c.loop-e-test.true, c.link_count-e-end.ensures.count)

pub direction_of-requires : goal.direction_of-requires
direction_of-requires c = record {
  a = omega (arith, c.link-link.ensures.within.ascending, c.link-link.ensures.within.upper, c.requires.numbers);
  b = omega (arith, c.link-link.ensures.within.upper, c.requires.numbers);
}

pub loop-e-preserved : goal.loop-e-preserved
loop-e-preserved c =
    let g = c.args.g.now in
    let numbers = c.args.numbers.now in
    let before = c.args.marks.now.items in
    let marks = c.loop-e.marks.items in
    let e = c.loop-e.e in
    let link = c.link-link.result in
    let mark = c.index-mark.result.now in
    let at = ap (λ (i : ℕ). slice_get g.links i) (sym c.new.ensures) ∙ c.link-link.ensures.value in
    let within : e < length marks = omega (arith, c.loop-e-test.true, c.link_count-e-end.ensures.count, c.loop-e.invariant.one_each, c.requires.marks) in
    let there = slice_get_read marks (length marks) e mark refl within c.index-mark.ensures in
    subst (λ (way : Way). AreLinksDirected g numbers (e + 1) before (set marks e (record { way = way; role = mark.role; block = mark.block }))) (sym c.direction_of.ensures)
    (way_more g numbers e before marks link mark at there c.loop-e.invariant)

pub returns : goal.returns
returns c =
    subst (λ (count : ℕ). AreLinksDirected c.args.g.now c.args.numbers.now count c.args.marks.now.items c.loop-e.marks.items)
    (omega (arith, c.loop-e-test.false, c.loop-e.auto.e-end, c.link_count-e-end.ensures.count)) c.loop-e.invariant
