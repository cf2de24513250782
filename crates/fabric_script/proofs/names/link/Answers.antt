use Rattle.std.proofs.Common.{◌∷◌, ◌++◌, ◌∙◌, ◌+◌, [], List, append_assoc, ℕ, ap, drop, sym}
use Rattle.text_parts.specs.Spelling.{address_text}
use Rattle.fabric_script.proofs.NamesRead.{cut_at_slash}
use Rattle.fabric_script.proofs.names.link.Goals as goal

pub returns-clause-found : goal.returns-clause-found
returns-clause-found c =
    let cut = cut_at_slash c.args.text.now c.in_ok-slash.slash (sym c.first_slash.ensures ∙ c.in_ok-slash.was) in
    ap (λ (text : List ℕ). 108 ∷ 105 ∷ 110 ∷ 107 ∷ 58 ∷ text)
    (cut ∙ ap (λ (router : List ℕ). router ++ 47 ∷ drop (c.in_ok-slash.slash + 1) c.args.text.now) c.in_ok-router.ensures.found
    ∙ ap (λ (rest : List ℕ). address_text c.in_ok-router.router ++ 47 ∷ rest) (sym c.split_at.ensures.back ∙ c.in_ok-link_data.ensures.found)
    ∙ sym (append_assoc (address_text c.in_ok-router.router) (47 ∷ []) (address_text c.in_ok-link_data.link_data)))
