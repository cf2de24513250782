use Rattle.std.proofs.Common.{◌≡◌, ◌∙◌, ◌<◌, ℕ, List, Option, None, Some, get_or, length, slice_get, refl, sym, subst, arith}
use Rattle.std.specs.Prelude.{IfSome}
use Rattle.std.proofs.lemmas.Option.{slice_get_read}
use Rattle.area_graph.specs.declared.area_types.Arc.{Arc}
use Rattle.primary_alt.proofs.IslandNumbers.{AreTold, bond_within, told_all, told_more}
use Rattle.primary_alt.proofs.in_island.bonds_of_links.Goals as goal

-- what is read at a bond's number
entry_read : (link_of : List (Option ℕ)) (bond at : ℕ) (link : Option ℕ) → bond < length link_of → at ≡ bond → link ≡ get_or link_of at link → slice_get link_of bond ≡ Some link
entry_read link_of bond at link within same read =
    slice_get_read link_of (length link_of) bond link refl within (subst (λ (i : ℕ). link ≡ get_or link_of i link) same read)

-- the link of a bond is one of the graph
link_within : (link_of : List (Option ℕ)) (bond many : ℕ) (link : Option ℕ) → ((k e : ℕ) → slice_get link_of k ≡ Some (Some e) → e < many) → slice_get link_of bond ≡ Some link
    → IfSome link (λ e. e < many)
link_within link_of bond many None alone at = tt
link_within link_of bond many (Some e) alone at = alone bond e at

pub loop-arc-init : goal.loop-arc-init
loop-arc-init c = record {
  many = sym c.in_ok-bonds.bonds.ok.0 ∙ c.in_ok-bonds.ensures.len ∙ c.link_count.ensures.count;
  told = λ j e b arc low. absurd (omega (arith, low));
}

pub bounds-link_of-get : goal.bounds-link_of-get
bounds-link_of-get c =
    let arcs = c.args.arcs.now in
    let own = c.arc-item.result in
    let at = slice_get_read arcs (length arcs) c.loop-arc.arc-index own refl c.loop-arc-test.true c.arc-item.is in
    subst (λ (n : ℕ). n < length c.args.link_of.now) (sym c.get.ensures.value)
    (bond_within c.args.area.now c.args.g.now c.args.link_of.now arcs c.loop-arc.arc-index own c.requires.kept c.requires.fits c.requires.arcs at)

pub tell_bond-requires : goal.tell_bond-requires
tell_bond-requires c =
    let arcs = c.args.arcs.now in
    let link_of = c.args.link_of.now in
    let own = c.arc-item.result in
    let at = slice_get_read arcs (length arcs) c.loop-arc.arc-index own refl c.loop-arc-test.true c.arc-item.is in
    let within = bond_within c.args.area.now c.args.g.now link_of arcs c.loop-arc.arc-index own c.requires.kept c.requires.fits c.requires.arcs at in
    subst (λ (n : ℕ). IfSome c.index-link_of-get.result (λ e. e < n)) (sym c.loop-arc.invariant.many)
    (link_within link_of own.bond (length c.args.g.now.links) c.index-link_of-get.result c.requires.fits.links_alone
    (entry_read link_of own.bond c.get.result c.index-link_of-get.result within c.get.ensures.value c.index-link_of-get.is))

pub loop-arc-preserved : goal.loop-arc-preserved
loop-arc-preserved c =
    let arcs = c.args.arcs.now in
    let link_of = c.args.link_of.now in
    let own = c.arc-item.result in
    let at = slice_get_read arcs (length arcs) c.loop-arc.arc-index own refl c.loop-arc-test.true c.arc-item.is in
    let within = bond_within c.args.area.now c.args.g.now link_of arcs c.loop-arc.arc-index own c.requires.kept c.requires.fits c.requires.arcs at in
    record {
      many = c.tell_bond.ensures.one_each ∙ c.loop-arc.invariant.many;
      told = told_more arcs link_of c.loop-arc.bonds.items c.tell_bond.new.bonds.items c.loop-arc.arc-index own c.index-link_of-get.result at
          (entry_read link_of own.bond c.get.result c.index-link_of-get.result within c.get.ensures.value c.index-link_of-get.is) c.loop-arc.invariant.told c.tell_bond.ensures.told;
    }

pub returns : goal.returns
returns c =
    let area = c.args.area.now in
    let link_of = c.args.link_of.now in
    told_all area c.args.g.now link_of c.loop-arc.bonds.items c.requires.kept c.requires.fits c.loop-arc.invariant.many
    (subst (λ (xs : List Arc). AreTold xs link_of c.loop-arc.bonds.items (length xs)) c.requires.arcs
    (λ j e b arc low. c.loop-arc.invariant.told j e b arc (omega (arith, low, c.loop-arc-test.false))))
