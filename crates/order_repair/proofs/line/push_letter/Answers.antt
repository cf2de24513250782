use Rattle.std.proofs.Common.{◌≡◌, ◌++◌, ◌∙◌, ℕ, Bool, true, false, List, codes, sym, ap}
use Rattle.std.proofs.lemmas.Result.{on_ok_weaker}
use Rattle.order_repair.specs.OrderText.{AtEnd, Colored, letter_of}
use Rattle.order_repair.proofs.line.push_letter.Goals as goal

pub returns-then-is_neither_end : goal.returns-then-is_neither_end
returns-then-is_neither_end c = λ root w place hops pair lies.
    let color = c.color_for-color.result in
    let choice = c.color_for-color.ensures root w place.block place.head hops pair (record {
      source = c.requires.source.within;
      target = c.requires.to;
      block = place.block;
      head = place.head;
      share = pair.share;
      lies = lies;
      neither = c.is_neither_end.ensures.0 c.if-is_neither_end.true;
    }) in
    on_ok_weaker c.push.result
    (λ added. record {
      part = letter_of color;
      is = Colored color lies choice;
      added = added ∙ ap (λ (xs : List ℕ). c.args.text.now.items ++ xs) c.letter.ensures;
    })
    c.push.ensures.added

pub returns : goal.returns
returns c = λ root w place hops pair lies.
    on_ok_weaker c.push-2.result
    (λ added. record {
      part = codes "-";
      is = AtEnd lies (λ neither. let no : ◌≡◌ {A = Bool} true false = sym (c.is_neither_end.ensures.1 neither) ∙ c.if-is_neither_end.false in cc);
      added = added;
    })
    c.push-2.ensures.added
