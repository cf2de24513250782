use Rattle.std.proofs.Common.{◌≡◌, ◌≢◌, ◌∙◌, ℕ, length, inl, inr, sym, subst, arith}
use Rattle.std.proofs.lemmas.Bool.{cases_lt}
use Rattle.mrt_graph.specs.Certificate.{row_of}
use Rattle.mrt_graph.specs.Sound.{SoundFor}
use Rattle.mrt_plain.proofs.soundness.sound.Goals as goal

pub loop-s-preserved : goal.loop-s-preserved
loop-s-preserved c k t below within other = elim (cases_lt k c.loop-s.s) [
  | inl past ↦ c.loop-s.invariant k t past within other
  | inr now ↦
      let last : k ≡ c.loop-s.s = omega arith in
      subst (λ (v : ℕ). v ≢ t → SoundFor c.args.links.now (length c.args.c.now.nodes) (row_of c.args.c.now) v t) (c.new.ensures ∙ sym last)
      (c.in_ok-sound_from.ensures.0 c.if-not-branch.false t within) other
]
