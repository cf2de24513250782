-- Words spell a form just where they are read as it.
use Rattle.std.proofs.Common.{◌≡◌, ◌∙◌, ℕ, List, Option, Some, subst, sym}
use Rattle.std.specs.Prelude.{IfSome, IsNone}
use Rattle.std.proofs.lemmas.Option.{same_Some}
use Rattle.mrt_args.specs.declared.form.Form.{Form}
use Rattle.mrt_args.specs.Form.{form_of}
use Rattle.mrt_args.specs.Spellings.{AreWordsOf}
use Rattle.mrt_args.proofs.Spelled.{form_spelled}
use Rattle.mrt_args.proofs.Spelling.{form_is}
use Rattle.mrt_cmd.specs.Comes.{AreOfNoForm}

pub words_are : (words : List (List ℕ)) (form : Form) → form_of words ≡ Some form → AreWordsOf form words
words_are words form is = subst (λ (found : Option Form). IfSome found (λ f. AreWordsOf f words)) is (form_spelled words)

pub read_as : (words : List (List ℕ)) (form : Form) → AreWordsOf form words → form_of words ≡ Some form
read_as words form are = form_is form words are

-- they spell no other
pub spelled_once : (words : List (List ℕ)) (form other : Form) → AreWordsOf form words → AreWordsOf other words → form ≡ other
spelled_once words form other are also = same_Some form other (sym (read_as words form are) ∙ read_as words other also)

-- words that are read as no form spell none
pub none_spelled : (words : List (List ℕ)) → IsNone (form_of words) → AreOfNoForm words
none_spelled words none form are = let is = read_as words form are in cc
