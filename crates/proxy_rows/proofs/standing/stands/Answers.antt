use Rattle.std.proofs.Common.{◌==◌}
use Rattle.std.proofs.lemmas.Bool.Decides.{Decides-at, Decides-eqb, Decides-like}
use Rattle.proxy_rows.proofs.standing.stands.Goals as goal

pub returns : goal.returns
returns c rest =
    let words = c.args.words.now in
    let at = c.args.at.now in
    let s = c.args.s in
    record {
      head = c.eq.result;
      low = c.is_marked.result;
      high = c.is_marked-2.result;
      member = c.is_member.result;
      is_head = Decides-at c.eq.result (s == at.head) c.eq.ensures (Decides-eqb s at.head);
      is_low = Decides-like c.is_marked.result (λ marked. (c.requires.low rest s).0 marked) (λ on. (c.requires.low rest s).1 on) c.is_marked.ensures;
      is_high = Decides-like c.is_marked-2.result (λ marked. (c.requires.high rest s).0 marked) (λ on. (c.requires.high rest s).1 on) c.is_marked-2.ensures;
      is_member = c.is_member.ensures;
      standing_is = c.standing_by.ensures;
    }
