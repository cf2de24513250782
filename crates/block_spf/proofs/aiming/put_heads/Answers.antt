use Rattle.std.proofs.Common.{◌≡◌, ◌⊎◌, ◌∙◌, ◌<◌, ◌≤◌, ◌+◌, ◌*◌, ℕ, length, inl, inr, refl, sym, ap, subst, arith}
use Rattle.std.proofs.lemmas.Bool.{cases_eq}
use Rattle.block_spf.specs.BlockAims.{aim_at}
use Rattle.block_spf.proofs.SideBySide.{places_apart, row_within}
use Rattle.link_direction.proofs.TwoNodes.{place_says}
use Rattle.block_spf.proofs.aiming.put_heads.Goals as goal

pub put_all-requires : goal.put_all-requires
put_all-requires c =
    let g = c.args.g.now in
    let are = c.requires.directed.are in
    let s = c.new.result in
    let within : s < length g.ids = omega (arith, c.new.ensures, c.loop-n-test.true, c.node_count-n-end.ensures.count) in
    let place = place_says g c.args.d.now c.requires.directed.directions s c.place-place.result are.says within c.place-place.ensures in
    row_within c.get.result (length g.ids) c.args.width (length c.loop-n.aims) (c.loop-n.invariant.room ∙ c.requires.room)
    (subst (λ (b : ℕ). b < length g.ids) (sym (c.get.ensures.value ∙ place.1)) (are.ordered.heads.block_within s within))

pub loop-n-init : goal.loop-n-init
loop-n-init c = record { room = refl; heads = λ root w are j y j_below below. absurd (omega (arith, below)) }

pub returns-clause-heads : goal.returns-clause-heads
returns-clause-heads c = λ root w are. record {
  each = λ j y j_below within. c.loop-n.invariant.heads root w are j y j_below (omega (arith, within, c.loop-n-test.false, c.node_count-n-end.ensures.count)) within;
}

pub place-place-requires : goal.place-place-requires
place-place-requires c = omega (arith, c.new.ensures, c.loop-n-test.true, c.node_count-n-end.ensures.count, c.requires.directed.are.says.one_place_each)

pub loop-n-preserved : goal.loop-n-preserved
loop-n-preserved c =
    let g = c.args.g.now in
    let n = c.loop-n.n in
    let width = c.args.width in
    let after = c.put_all.new.aims in
    let n_within : n < length g.ids = omega (arith, c.loop-n-test.true, c.node_count-n-end.ensures.count) in
    let within : c.new.result < length g.ids = omega (arith, c.new.ensures, n_within) in
    record {
      room = c.put_all.auto.aims ∙ c.loop-n.invariant.room;
      heads = λ root w are j y j_below below y_within.
          let place = place_says g c.args.d.now w c.new.result c.place-place.result are.says within c.place-place.ensures in
          let block_is : c.get.result ≡ w.block n = c.get.ensures.value ∙ place.1 ∙ ap w.block c.new.ensures in
          let head_is : c.place-place.result.head ≡ w.head n = place.0 ∙ ap w.head c.new.ensures in
          let there : aim_at after width j (w.block n) ≡ w.head n =
          subst (λ (b : ℕ). aim_at after width j b ≡ w.head n) block_is (c.put_all.ensures.there j j_below ∙ head_is) in
          elim (cases_eq (w.block y) (w.block n)) [
            | inl same ↦ ap (aim_at after width j) same ∙ there ∙ sym (are.ordered.heads.one_head y n y_within n_within same)
            | inr apart ↦
                let before : y < n = earlier y n below (λ same. apart (ap w.block same)) in
                c.put_all.ensures.elsewhere (w.block y * width + j)
                (subst (λ (b : ℕ). (w.block y * width + j < b * width) ⊎ (b * width + width ≤ w.block y * width + j)) (sym block_is)
                (places_apart (w.block y) (w.block n) width j apart j_below))
                ∙ c.loop-n.invariant.heads root w are j y j_below before y_within
          ];
    }
  where
    earlier : (y n : ℕ) → y < n + 1 → (y ≡ n → ⊥) → y < n
    earlier y n below other = omega (arith, below, other)
