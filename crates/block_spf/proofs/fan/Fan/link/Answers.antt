use Rattle.std.proofs.Common.{◌≡◌, ◌<◌, ◌+◌, ◌-◌, ◌*◌, ◌∙◌, ℕ, Some, get_or, length, slice_get, sym, ap, subst, arith}
use Rattle.block_spf.specs.Fan.{IsOpen, link_at}
use Rattle.block_spf.specs.FanEntries.{FanEntries}
use Rattle.block_spf.specs.FirstLink.{IsFirstLink}
use Rattle.block_spf.proofs.SideBySide.{entry_read}
use Rattle.block_spf.proofs.fan.Fan.link.Goals as goal

pub returns : goal.returns
returns c = λ w dir opened two.
    let fan = c.self.inside in
    let g = c.args.g.now in
    let width = length fan.from_costs.items in
    let places = fan.places.items in
    let ends = c.ends.result.now in
    let j = c.get-2.result - c.get-3.result in
    let t = c.args.t in
    let now = subst (λ (e : FanEntries). IsOpen g w dir c.args.first e) (sym c.self.view_is) opened in
    let n_is = ap (λ (e : FanEntries). e.nodes * width) c.self.view_is ∙ ap (λ (n : ℕ). n * width) c.requires.nodes in
    let is_s : c.args.first + j ≡ c.args.s = omega (arith, c.get-2.ensures.value, c.get-3.ensures.value, c.requires.from) in
    let below : j < width = omega (arith, is_s, ap (λ (e : FanEntries). e.width) c.self.view_is, c.requires.among) in
    let width_is : c.len.result ≡ width = omega (arith, c.len.ensures, fan.from_costs.ok.0) in
    let at : c.get.result * c.len.result + j ≡ t * width + j =
    ap (λ (v : ℕ). v * c.len.result + j) c.get.ensures.value ∙ ap (λ (m : ℕ). t * m + j) width_is in
    let place = entry_read places (length g.ids) width j t c.index.result.now (c.self.invariant.one_place_each ∙ n_is) c.requires.target below
    (c.index.ensures ∙ ap (λ (i : ℕ). get_or places i c.index.result.now) at) in
    let it = now.each j t ends below (omega (arith, is_s, c.requires.source)) c.requires.target
    (subst (λ (v : ℕ). slice_get g.ends v ≡ Some ends) (sym is_s) c.ends.ensures.value) in
    rw (c.link_at.ensures, place)
    (subst (λ (v : ℕ). IsFirstLink g w dir v t (link_at ends (get_or places (t * width + j) 0))) is_s (it.begins (λ same. two (sym is_s ∙ same))))
