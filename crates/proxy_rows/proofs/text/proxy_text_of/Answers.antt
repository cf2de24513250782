use Rattle.std.proofs.Common.{rules}
use Rattle.proxy_rows.proofs.Touching.{all_touch}
use Rattle.proxy_rows.proofs.text.proxy_text_of.Goals as goal

pub push_lines-requires : goal.push_lines-requires
push_lines-requires c =
    let given = c.requires.rows in
    record {
      kept = c.node_count.ensures.kept;
      rows = all_touch c.args.g.now given.0 c.args.a c.args.b c.args.rows.now c.node_count.ensures.kept given.1 given.2;
      count = c.node_count.ensures.count;
    }

pub returns : goal.returns
returns c cert are =
    let head = c.in_ok-push_head.ensures in
    let lines = c.in_ok-push_lines.ensures in
    record {
      entries = c.args.rows.now;
      entries_are = are;
      headed = record { head = head.part; head_is = head.is; lines = lines.part; lines_are = lines.is; spelled = search rules };
    }
