use Rattle.std.proofs.Common.{◌∙◌, ℕ, ap, drop}
use Rattle.ospf_lsa.specs.LsaText.{lsa_text}
use Rattle.ospf_lsa.specs.Written.{with_checksum}
use Rattle.ospf_lsa.proofs.Renewals.{field_set, checksum_of, renewed_kept, text_alone}
use Rattle.ospf_lsa.proofs.writing.write_lsa.Goals as goal

-- The bytes with the checksum in its field are those of the LSA with this checksum.
pub returns-clause-text : goal.returns-clause-text
returns-clause-text c =
    field_set c.args.lsa.now c.fresh-checksum.result c.in_ok-bytes.bytes.items c.to_be_bytes.result
    c.in_ok-bytes.ensures.text c.to_be_bytes.ensures
    ∙ ap (λ (n : ℕ). lsa_text (with_checksum c.args.lsa.now n))
    (checksum_of c.args.lsa.now c.in_ok-bytes.bytes.items c.after.result.now c.fresh-checksum.result
    c.in_ok-bytes.ensures.text (c.after.ensures ∙ ap (drop 2) c.deref.ensures.value) c.fresh-checksum.ensures)

pub returns-clause-read : goal.returns-clause-read
returns-clause-read c = λ kept. (
  renewed_kept c.args.lsa.now c.in_ok-bytes.ensures.header c.requires.kind c.in_ok-bytes.ensures.body c.requires.fits
      kept,
  text_alone c.args.lsa.now _ (returns-clause-text c),
)
