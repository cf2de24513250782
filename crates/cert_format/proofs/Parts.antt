-- What is spelled in the text is what the form allows.
use Rattle.std.proofs.Common.{◌≡◌, ℕ, zero, suc, ◌+◌, ◌<◌, ◌≤◌, refl, ap, ◌∙◌, arith, Ok, sym, subst}
use Rattle.std.specs.Int.{w8, w16, w32, Width, to_be_bytes}
use Rattle.mrt_graph.specs.Certificate.{IsCertLink}
use Rattle.mrt_graph.specs.declared.node_id.Kind.{Kind}
use Rattle.mrt_graph.specs.declared.node_id.Kind.TheVariants as kinds
use Rattle.mrt_graph.specs.declared.cert.Role.{Role}
use Rattle.mrt_graph.specs.declared.cert.Role.TheVariants as roles
use Rattle.mrt_graph.specs.declared.cert.Tag.{Tag}
use Rattle.mrt_graph.specs.declared.cert.Tag.TheVariants as tags
use Rattle.mrt_graph.specs.Tags.{tag_number}
use Rattle.cert_format.specs.CertText.{kind_number, role_number, node_text, link_text, row_text}
use Rattle.cert_format.specs.Layout.{any, kind_named, link_named, node_named, role_named, row_named, tag_named, within, tag, node_form, link_form, row_form}
use Rattle.cert_format.specs.FirstFault.{fault_in}
use Rattle.cert_format.specs.steps.Reading.{IsFileRow, IsNode, ReadsPart, Rest, Took, TookField}
use Rattle.cert_format.proofs.Fields.{wide8, wide16, wide32, field_passes, few_tags, kind_fits, role_fits}
use Rattle.cert_format.proofs.Lists.{IsPart, Took-then}

-- numbers that spell something
pub kind_again : (kind : Kind) → kind_named (kind_number kind) ≡ kind
kind_again kinds.Router = refl
kind_again kinds.Network = refl

pub role_again : (role : Role) → role_named (role_number role) ≡ role
role_again roles.Plain = refl
role_again roles.Sole = refl
role_again roles.Closing = refl

pub tag_again : (row_tag : Tag) → tag_named (tag_number row_tag) ≡ row_tag
tag_again tags.Sole = refl
tag_again tags.Head = refl
tag_again tags.Top = refl
tag_again tags.Below = refl
tag_again tags.Above = refl
tag_again tags.Unordered = refl
tag_again tags.Carried = refl

-- and what is spelled
pub kind_told : (number : ℕ) → 1 ≤ number → number < 3 → kind_number (kind_named number) ≡ number
kind_told zero least below = absurd (omega (arith, least))
kind_told (suc zero) least below = refl
kind_told (suc (suc zero)) least below = refl
kind_told (suc (suc (suc number))) least below = absurd (omega (arith, below))

pub role_told : (number : ℕ) → number < 3 → role_number (role_named number) ≡ number
role_told zero below = refl
role_told (suc zero) below = refl
role_told (suc (suc zero)) below = refl
role_told (suc (suc (suc number))) below = absurd (omega (arith, below))

pub tag_told : (number : ℕ) → number < 7 → tag_number (tag_named number) ≡ number
tag_told zero below = refl
tag_told (suc zero) below = refl
tag_told (suc (suc zero)) below = refl
tag_told (suc (suc (suc zero))) below = refl
tag_told (suc (suc (suc (suc zero)))) below = refl
tag_told (suc (suc (suc (suc (suc zero))))) below = refl
tag_told (suc (suc (suc (suc (suc (suc zero)))))) below = refl
tag_told (suc (suc (suc (suc (suc (suc (suc number))))))) below = absurd (omega (arith, below))

pub node_part : (nodes : ℕ) → nodes ≤ 65535 → IsPart (node_form nodes) node_text (IsNode nodes) 11
node_part nodes few = record {
  sized = λ x. refl;
  passes = λ x keeps next at rest.
      field_passes (within w8 1 3) _ _ (kind_number x.id.kind) _ wide8 (omega (arith, (kind_fits x.id.kind).1)) (kind_fits x.id.kind).0 (kind_fits x.id.kind).1
      ∙ field_passes (any w32) _ _ x.id.number _ wide32 keeps.number (omega arith) keeps.number
      ∙ field_passes (within w16 1 (nodes + 1)) _ _ x.order _ wide16 (omega arith) keeps.kept.order_from_one (omega arith)
      ∙ field_passes (within w16 0 nodes) _ _ x.head _ wide16 (omega arith) (omega arith) keeps.kept.head
      ∙ field_passes (within w16 0 nodes) _ _ x.block _ wide16 (omega arith) (omega arith) keeps.kept.block
      ∙ ap (λ (a : ℕ). fault_in (next (node_named (kind_number x.id.kind) x.id.number x.order x.head x.block)) a rest) (omega arith)
      ∙ ap (λ (kind : Kind). fault_in (next (record { id = record { kind = kind; number = x.id.number }; order = x.order; head = x.head; block = x.block })) (at + 11) rest) (kind_again x.id.kind);
  spans = (omega arith, refl, λ kind. (omega arith, refl, λ number. (omega arith, refl, λ order. (omega arith, refl, λ head. (omega arith, refl, λ block. refl)))));
  short = omega arith;
}

pub link_part : (nodes : ℕ) → nodes ≤ 65535 → IsPart (link_form nodes) link_text (IsCertLink nodes) 7
link_part nodes few = record {
  sized = λ x. refl;
  passes = λ x keeps next at rest.
      field_passes (any w16) _ _ x.a _ wide16 (omega arith) (omega arith) (omega arith)
      ∙ field_passes (within w16 (x.a + 1) nodes) _ _ x.b _ wide16 (omega arith) (omega arith) keeps.upper
      ∙ field_passes (within w16 0 nodes) _ _ x.block _ wide16 (omega arith) (omega arith) keeps.block
      ∙ field_passes (within w8 0 3) _ _ (role_number x.role) _ wide8 (omega (arith, role_fits x.role)) (omega arith) (role_fits x.role)
      ∙ ap (λ (a : ℕ). fault_in (next (link_named x.a x.b x.block (role_number x.role))) a rest) (omega arith)
      ∙ ap (λ (role : Role). fault_in (next (record { a = x.a; b = x.b; block = x.block; role = role })) (at + 7) rest) (role_again x.role);
  spans = (omega arith, refl, λ a. (omega arith, refl, λ b. (omega arith, refl, λ block. (omega arith, refl, λ role. refl))));
  short = omega arith;
}

pub row_part : (tags links : ℕ) → links ≤ 65535 → IsPart (row_form tags links) row_text (IsFileRow tags links) 5
row_part tags links few = record {
  sized = λ x. refl;
  passes = λ x keeps next at rest.
      field_passes (within w16 0 links) _ _ x.blue _ wide16 (omega (arith, keeps.kept.blue)) (omega arith) keeps.kept.blue
      ∙ field_passes (within w16 0 links) _ _ x.red _ wide16 (omega (arith, keeps.kept.red)) (omega arith) keeps.kept.red
      ∙ field_passes (tag tags) _ _ (tag_number x.tag) _ wide8 (omega (arith, few_tags x.tag)) (omega arith) keeps.tagged
      ∙ ap (λ (a : ℕ). fault_in (next (row_named x.blue x.red (tag_number x.tag))) a rest) (omega arith)
      ∙ ap (λ (it : Tag). fault_in (next (record { blue = x.blue; red = x.red; tag = it })) (at + 5) rest) (tag_again x.tag);
  spans = (omega arith, refl, λ blue. (omega arith, refl, λ red. (omega arith, refl, λ it. refl)));
  short = omega arith;
}

-- ---- parts that were read field by field

-- a number in place of another one
pub took_as : (w : Width) (x y : ℕ) (before after : Rest) → x ≡ y → Took (to_be_bytes w x) before after → Took (to_be_bytes w y) before after
took_as w x y before after same took = subst (λ (n : ℕ). Took (to_be_bytes w n) before after) same took

pub node_read : (nodes kind id order head block : ℕ) (start one two three four rest : Rest)
    → TookField (within w8 1 3) kind start one → TookField (any w32) id one two
    → TookField (within w16 1 (nodes + 1)) order two three → TookField (within w16 0 nodes) head three four
    → TookField (within w16 0 nodes) block four rest
    → ReadsPart (node_form nodes) node_text (IsNode nodes) start (Ok (node_named kind id order head block, rest))
node_read nodes kind id order head block start one two three four rest a b c d e = (
  Took-then _ _ _ _ _ (took_as w8 kind (kind_number (kind_named kind)) start one (sym (kind_told kind a.least a.below)) a.took)
      (Took-then _ _ _ _ _ b.took (Took-then _ _ _ _ _ c.took (Took-then _ _ _ _ _ d.took e.took))),
  record {
    kept = record { order_from_one = c.least; order_to_n = omega (arith, c.below); head = d.below; block = e.below };
    number = b.fits;
  },
)

pub link_read : (nodes a b block role : ℕ) (start one two three rest : Rest)
    → TookField (any w16) a start one → TookField (within w16 (a + 1) nodes) b one two
    → TookField (within w16 0 nodes) block two three → TookField (within w8 0 3) role three rest
    → ReadsPart (link_form nodes) link_text (IsCertLink nodes) start (Ok (link_named a b block role, rest))
link_read nodes a b block role start one two three rest f g h i = (
  Took-then _ _ _ _ _ f.took (Took-then _ _ _ _ _ g.took (Took-then _ _ _ _ _ h.took
      (took_as w8 role (role_number (role_named role)) three rest (sym (role_told role i.below)) i.took))),
  record { ascending = omega (arith, g.least); upper = g.below; block = h.below },
)

pub row_read : (tags links blue red number : ℕ) (start one two rest : Rest) → tags ≤ 7
    → TookField (within w16 0 links) blue start one → TookField (within w16 0 links) red one two → TookField (tag tags) number two rest
    → ReadsPart (row_form tags links) row_text (IsFileRow tags links) start (Ok (row_named blue red number, rest))
row_read tags links blue red number start one two rest few f g h =
    let told = tag_told number (omega (arith, h.below, few)) in (
      Took-then _ _ _ _ _ f.took (Took-then _ _ _ _ _ g.took (took_as w8 number (tag_number (tag_named number)) two rest (sym told) h.took)),
      record { kept = record { blue = f.below; red = g.below }; tagged = omega (arith, h.below, told) },
    )
