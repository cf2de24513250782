use Rattle.std.proofs.Common.{List, ◌∙◌, ap, sym, subst, arith, take, vec_len, Vec, Global}
use Rattle.std.specs.Prelude.{vec_capacity}
use Rattle.std.specs.List.{AllZip}
use Rattle.std.proofs.lemmas.List.{take_all}
use Rattle.ospf_lsa.specs.declared.lsa.Lsa.{Lsa}
use Rattle.area_graph.specs.Nodes.{live}
use Rattle.area_graph.specs.steps.Speaking.{IsSpeakerOf}
use Rattle.area_graph.specs.declared.speaker.Speaker.{Speaker}
use Rattle.area_graph.proofs.LiveOnes.{live_more, live_same}
use Rattle.area_graph.proofs.speakers.live_ones.Goals.{then-is_live, else-is_live}
use Rattle.area_graph.proofs.speakers.live_ones.Goals as goal

abbrev Speakers : Type 0
Speakers = Vec Speaker Global

pub loop-at-preserved : goal.loop-at-preserved
loop-at-preserved c =
    elim c.if-is_live.branch [
      | then-is_live w ↦ record {
        speak = live_more c.args.lsas.now c.loop-at.at c.index-lsas-at.result w.node.result c.loop-at.found.items c.if-is_live.found.items c.loop-at-test.true
            c.index-lsas-at.is (sym c.is_live.ensures ∙ w.if-is_live.true) w.node.ensures
            (ap (λ (v : Speakers). v.items) w.found-is ∙ w.push_reserved.ensures.items) c.loop-at.invariant.speak;
        many = omega (arith, ap (λ (v : Speakers). vec_len v) w.found-is, w.push_reserved.ensures.len, c.loop-at.invariant.many);
        room = ap (λ (v : Speakers). vec_capacity v) w.found-is ∙ w.push_reserved.ensures.capacity ∙ c.loop-at.invariant.room;
      }
      | else-is_live w ↦ record {
        speak = live_same c.args.lsas.now c.loop-at.at c.index-lsas-at.result c.if-is_live.found.items c.loop-at-test.true c.index-lsas-at.is
            (sym c.is_live.ensures ∙ w.if-is_live.false)
            (subst (λ (v : Speakers). AllZip (IsSpeakerOf c.args.lsas.now) v.items (live (take c.loop-at.at c.args.lsas.now))) (sym w.found-is) c.loop-at.invariant.speak);
        many = omega (arith, ap (λ (v : Speakers). vec_len v) w.found-is, c.loop-at.invariant.many);
        room = ap (λ (v : Speakers). vec_capacity v) w.found-is ∙ c.loop-at.invariant.room;
      }
    ]

pub push_reserved-requires : goal.push_reserved-requires
push_reserved-requires c = omega (arith, c.loop-at.invariant.many, c.loop-at.invariant.room, c.loop-at-test.true)

pub returns-clause-speak : goal.returns-clause-speak
returns-clause-speak c =
    subst (λ (lsas : List Lsa). AllZip (IsSpeakerOf c.args.lsas.now) c.loop-at.found.items (live lsas)) (take_all c.loop-at.at c.args.lsas.now c.loop-at-test.false) c.loop-at.invariant.speak
