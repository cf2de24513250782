use Rattle.std.proofs.Common.{◌∙◌, ℕ, List, None, ap, arith, inl, inr, map, set, subst, sym, take}
use Rattle.std.specs.List.{AllByRecursion}
use Rattle.std.proofs.lemmas.Option.{get_or_from_slice_get}
use Rattle.ospf_lsa.specs.declared.lsa.Lsa.{Lsa}
use Rattle.lsdb.specs.Installing.{noted, IsKept}
use Rattle.lsdb.specs.Keys.{key_of}
use Rattle.lsdb.specs.steps.Store.{entries_of, front}
use Rattle.lsdb.proofs.Fronts.{all_written, front_noted, front_set}
use Rattle.lsdb.proofs.Stores.{entries_set, keys_set, noted_at, set_there}
use Rattle.lsdb.proofs.meet.turn.Goals as goal

pub returns-in-Replaced-clause-entries : goal.returns-in-Replaced-clause-entries
returns-in-Replaced-clause-entries c = λ lsa entry there at.
    rw c.in-Replaced.is
    (ap (λ (ls : List Lsa). entries_of ls (set c.args.differing.now.items c.args.number None))
    (front_set c.args.lsas.now.items c.swap.new.self.items c.args.differing.now.items None c.args.number c.args.place
    lsa there c.requires.front c.requires.behind c.requires.inside c.swap.ensures.items)
    ∙ entries_set (front c.args.lsas.now.items c.args.differing.now.items) c.args.differing.now.items c.args.number
    lsa None
    (front_noted c.args.lsas.now.items c.args.differing.now.items
    (omega (arith, c.requires.behind, c.requires.inside))))

pub returns-in-Replaced-clause-keys : goal.returns-in-Replaced-clause-keys
returns-in-Replaced-clause-keys c = λ lsa there at.
    ap (map key_of)
    (front_set c.args.lsas.now.items c.swap.new.self.items c.args.differing.now.items None c.args.number c.args.place
    lsa there c.requires.front c.requires.behind c.requires.inside c.swap.ensures.items)
    ∙ keys_set (front c.args.lsas.now.items c.args.differing.now.items) c.args.number lsa at

pub returns-in-Replaced-clause-kept : goal.returns-in-Replaced-clause-kept
returns-in-Replaced-clause-kept c = λ lsa there kept all.
    subst (AllByRecursion IsKept)
    (sym (front_set c.args.lsas.now.items c.swap.new.self.items c.args.differing.now.items None c.args.number
    c.args.place lsa there c.requires.front c.requires.behind c.requires.inside c.swap.ensures.items))
    (all_written IsKept (front c.args.lsas.now.items c.args.differing.now.items) c.args.number lsa all kept)

pub returns-in-Clash-clause-entries : goal.returns-in-Clash-clause-entries
returns-in-Clash-clause-entries c = λ lsa entry there at.
    rw c.in-Clash.is
    (ap (λ (n : ℕ). entries_of (take n c.args.lsas.now.items) c.note.new.differing.items) c.note.ensures.count
    ∙ noted_at (front c.args.lsas.now.items c.args.differing.now.items) c.args.differing.now.items
    c.note.new.differing.items c.args.number c.index.result.now.at entry
    (front_noted c.args.lsas.now.items c.args.differing.now.items
    (omega (arith, c.requires.behind, c.requires.inside)))
    c.note.ensures.places at
    ∙ ap (λ (l : Lsa). set (entries_of (front c.args.lsas.now.items c.args.differing.now.items)
    c.args.differing.now.items) c.args.number (noted entry l.at))
    (c.index.ensures
    ∙ get_or_from_slice_get c.args.lsas.now.items c.args.place lsa c.index.result.now there))

pub returns-in-Added-clause-entries : goal.returns-in-Added-clause-entries
returns-in-Added-clause-entries c = λ lsa entry there at.
    let same = sym (set_there _ c.args.number entry at) in
    elim c.in-Added.is [
      | inl added ↦ rw added same
      | inr more ↦ elim more [ inl older ↦ rw older same | inr alike ↦ rw alike same ]
    ]
