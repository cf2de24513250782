use Rattle.std.proofs.Common.{arith}
use Rattle.std.proofs.lemmas.Option.{slice_get_within}
use Rattle.primary_alt.proofs.ArcsOffered.{far_within}
use Rattle.mrt_report.proofs.elements.elements_of.Goals as goal

pub element_of_bond-requires : goal.element_of_bond-requires
element_of_bond-requires g c =
    let kept = c.arc-arc.ensures.kept in
    omega (arith, slice_get_within c.args.parts.now.area.now.bonds c.arc-arc.result.bond kept.bond kept.there, c.requires.fits.an_entry_each)

pub id-requires : goal.id-requires
id-requires g c = far_within c.args.parts.now.area.now c.arc-arc.result c.requires.kept c.arc-arc.ensures.kept

pub returns : goal.returns
returns g c = record {
  arc = c.arc-arc.result;
  there = c.arc-arc.ensures.value;
  link_is = c.element_of_bond.ensures;
  far = c.id.result;
  far_is = c.id.ensures;
  node_is = c.element_of_node.ensures;
}
