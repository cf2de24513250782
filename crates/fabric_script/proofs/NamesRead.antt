-- Names that are spelled are read.
use Rattle.std.proofs.Common.{◌≡◌, ◌≢◌, ◌<◌, ◌^◌, ◌+◌, ◌/◌, ◌%◌, ◌∙◌, ◌∷◌, ◌++◌, ◌==◌, ℕ, [], List, codes, decimal, drop, get_or, get_or-take, take, Some, None, cond, false, length, refl, ap, sym, subst, arith}
use Rattle.std.specs.Int.{IsInRange}
use Rattle.std.specs.List.{AllByRecursion, position, position_or_len}
use Rattle.std.specs.Prelude.{nat_lt}
use Rattle.std.specs.Str.Parse.{AllDigits, digits_value}
use Rattle.std.proofs.lemmas.Bool.{lt-ltb, ne_eqb}
use Rattle.std.proofs.lemmas.Fmt.{decimal_nonempty, digits_decimal}
use Rattle.std.proofs.lemmas.List.{get_or_default, length-append}
use Rattle.std.proofs.lemmas.List.Elements.{recursion_from_All}
use Rattle.std.proofs.lemmas.Str.Parse.{IsNumeralModel, digit_at, numerals_by_value, tells_digits}
use Rattle.std.proofs.Math.ListN.{get_or-append}
use Rattle.std.proofs.Math.Nat.{mod-lt}
use Rattle.text_parts.proofs.Pieces.{cut_is}
use Rattle.mrt_graph.specs.declared.node_id.Kind.{Kind}
use Rattle.mrt_graph.specs.declared.node_id.Kind.TheVariants as kinds
use Rattle.mrt_graph.specs.declared.node_id.NodeId.{NodeId}
use Rattle.text_parts.specs.Spelling.{address_text, node_text}

numerals : IsNumeralModel (AllDigits 10) (digits_value 10)
numerals = numerals_by_value (AllDigits 10) tells_digits

-- what stands at the front of a number is a digit
digit_first : (number : ℕ) (rest : List ℕ) → number < 2 ^ 64 → IsInRange 48 57 (get_or (decimal number ++ rest) 0 0)
digit_first number rest small =
    let some = decimal_nonempty number small in
    subst (IsInRange 48 57) (sym (get_or-append (decimal number) rest 0 0 some))
    (digit_at (decimal number) 0 (digits_decimal numerals number small) some)

-- and of an address
pub address_first : (number : ℕ) → number < 2 ^ 32 → IsInRange 48 57 (get_or (address_text number) 0 0)
address_first number small =
    digit_first (number / 16777216 % 256)
    (46 ∷ (decimal (number / 65536 % 256) ++ 46 ∷ (decimal (number / 256 % 256) ++ 46 ∷ decimal (number % 256))))
    (omega (arith, mod-lt (number / 16777216) {m = 256} (omega arith)))

-- no address begins with `net:`
pub no_prefix : (number : ℕ) → number < 2 ^ 32 → take 4 (address_text number) ≢ codes "net:"
no_prefix number small same =
    let first : get_or (take 4 (address_text number)) 0 0 ≡ 110 = ap (λ (text : List ℕ). get_or text 0 0) same in
    let whole = get_or-take 4 (address_text number) 0 0 (omega arith) in
    let digit = address_first number small in
    omega (arith, digit.0, digit.1, first, whole)

-- after `net:` stands the address of a network that is named
named : (text address : List ℕ) (kind : Kind) (number : ℕ) → number < 2 ^ 32
    → text ≡ node_text (record { kind = kind; number = number }) → take 4 text ≡ codes "net:" → address ≡ drop 4 text
    → (kind ≡ kinds.Network) × (address ≡ address_text number)
named text address kinds.Router number small spelled prefix is =
    absurd (no_prefix number small (ap (take 4) (sym spelled) ∙ prefix))
named text address kinds.Network number small spelled prefix is = (refl, is ∙ ap (drop 4) spelled)

pub named_by_prefix : (text address : List ℕ) (id : NodeId) → id.number < 2 ^ 32 → text ≡ node_text id
    → take 4 text ≡ codes "net:" → address ≡ drop 4 text → (id.kind ≡ kinds.Network) × (address ≡ address_text id.number)
named_by_prefix text address id small spelled prefix is = named text address id.kind id.number small spelled prefix is

-- a text is cut at its first slash
pub cut_at_slash : (text : List ℕ) (slash : ℕ) → position (λ byte. byte == 47) text ≡ Some slash
    → text ≡ take slash text ++ 47 ∷ drop (slash + 1) text
cut_at_slash text slash found = (cut_is text 47 slash found).0

-- no byte of it is a slash
abbrev pub IsPlain : List ℕ → Type 0
IsPlain text = AllByRecursion (λ byte. (byte == 47) ≡ false) text

digit_plain : (byte : ℕ) → IsInRange 48 57 byte → (byte == 47) ≡ false
digit_plain byte digit = ne_eqb byte 47 (λ same. absurd (omega (arith, digit.0, same)))

decimal_plain : (number : ℕ) → number < 2 ^ 64 → IsPlain (decimal number)
decimal_plain number small = recursion_from_All (λ byte. (byte == 47) ≡ false) (decimal number) (λ k d within.
    subst (λ (byte : ℕ). (byte == 47) ≡ false) (get_or_default (decimal number) k 0 d within)
    (digit_plain (get_or (decimal number) k 0) (digit_at (decimal number) k (digits_decimal numerals number small) within)))

plain_on : (text rest : List ℕ) → IsPlain text → IsPlain rest → IsPlain (text ++ rest)
plain_on [] rest none plain = plain
plain_on (byte ∷ text) rest none plain = (none.0, plain_on text rest none.1 plain)

pub address_plain : (number : ℕ) → number < 2 ^ 32 → IsPlain (address_text number)
address_plain number small =
    plain_on (decimal (number / 16777216 % 256)) _ (decimal_plain (number / 16777216 % 256) (omega (arith, mod-lt (number / 16777216) {m = 256} (omega arith)))) (
      refl,
      plain_on (decimal (number / 65536 % 256)) _ (decimal_plain (number / 65536 % 256) (omega (arith, mod-lt (number / 65536) {m = 256} (omega arith)))) (
        refl,
        plain_on (decimal (number / 256 % 256)) _ (decimal_plain (number / 256 % 256) (omega (arith, mod-lt (number / 256) {m = 256} (omega arith))))
            (refl, decimal_plain (number % 256) (omega (arith, mod-lt number {m = 256} (omega arith)))),
      ),
    )

-- the first slash after a plain text
slash_len : (text rest : List ℕ) → IsPlain text → position_or_len (λ byte. byte == 47) (text ++ 47 ∷ rest) ≡ length text
slash_len [] rest plain = refl
slash_len (byte ∷ text) rest plain = let later = slash_len text rest plain.1 in rw plain.0 (omega (arith, later))

pub slash_at : (text rest : List ℕ) → IsPlain text → position (λ byte. byte == 47) (text ++ 47 ∷ rest) ≡ Some (length text)
slash_at text rest plain =
    let within = lt-ltb (length text) (length (text ++ 47 ∷ rest)) (omega (arith, length-append text (47 ∷ rest))) in
    subst (λ (n : ℕ). cond (nat_lt n (length (text ++ 47 ∷ rest))) (Some n) None ≡ Some (length text))
    (sym (slash_len text rest plain)) (rw within refl)
