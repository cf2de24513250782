use Rattle.std.proofs.Common.{◌∙◌, ◌++◌, List, ℕ, ap, append_assoc}
use Rattle.std.specs.Int.{w32, to_be_bytes}
use Rattle.std.specs.List.{flat_map}
use Rattle.ospf_lsa.specs.LsaText.{link_text}
use Rattle.ospf_lsa.proofs.writing.put_link.Goals as goal

pub returns-clause-text : goal.returns-clause-text
returns-clause-text c =
    let entries : List ℕ = flat_map (to_be_bytes w32) c.args.entries.now in
    c.put_numbers.ensures.text
    ∙ ap (λ (t : List ℕ). t ++ entries)
    ((rw c.unwrap.ensures at c.extend_from_slice.ensures.items)
    ∙ ap (λ (t : List ℕ). c.args.out.now.items ++ t) c.link_bytes.ensures.text)
    ∙ append_assoc c.args.out.now.items (link_text c.args.link.now) entries
