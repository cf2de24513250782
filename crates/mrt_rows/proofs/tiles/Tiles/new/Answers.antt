use Rattle.std.proofs.Common.{rules, ◌≡◌, ◌∙◌, ◌*◌, ℕ, length, ap}
use Rattle.mrt_rows.proofs.tiles.Tiles.new.Goals as goal

pub returns : goal.returns
returns c =
    let count = c.node_count-count.ensures.count in
    let all : length c.in_ok-aims.aims.items ≡ c.node_count-count.result * c.args.width = search rules in
    let many : length c.in_ok-wanted.wanted.items ≡ c.node_count-count.result = search rules in
    record {
      aims = all ∙ ap (λ (k : ℕ). k * c.args.width) count;
      a_mark_each = many ∙ count;
      up = c.in_ok-up.ensures;
      down = c.in_ok-down.ensures;
    }
