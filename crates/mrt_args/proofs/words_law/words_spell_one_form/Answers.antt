use Rattle.std.proofs.Common.{Option, subst}
use Rattle.std.specs.Prelude.{IfSome}
use Rattle.mrt_args.specs.declared.form.Form.{Form}
use Rattle.mrt_args.specs.Spellings.{AreWordsOf}
use Rattle.mrt_args.proofs.Spelled.{form_spelled}
use Rattle.mrt_args.proofs.Spelling.{form_is}
use Rattle.mrt_args.proofs.words_law.words_spell_one_form.Goals as goal

pub returns : goal.returns
returns c = λ words form. (
  λ is. subst (λ (found : Option Form). IfSome found (λ form. AreWordsOf form words)) is (form_spelled words),
  form_is form words,
)
