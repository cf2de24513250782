-- How many routers a script that is read has.
use Rattle.std.proofs.Common.{◌≡◌, ◌≤◌, [], ◌∷◌, ℕ, Bool, true, false, cond, List, Option, Some, None, refl, arith}
use Rattle.std.specs.Prelude.{codes, nat_le, nat_lt}
use Rattle.std.specs.Option.{option_and_then}
use Rattle.std.specs.Str.{bytes_eq}
use Rattle.std.proofs.lemmas.Bool.{leb-true, ltb-true}
use Rattle.std.proofs.lemmas.Option.{none-some}
use Rattle.text_parts.specs.TextLines.{words_of}
use Rattle.flood.specs.declared.script.FloodScript.{FloodScript}
use Rattle.flood.specs.FloodLines.{count_in, number_of_router, routers_in_words}
use Rattle.flood.specs.FloodScripts.{IsScript}

count_by_value : (n : Option ℕ) (count : ℕ)
    → option_and_then (λ (c : ℕ). cond (nat_lt 0 c) (cond (nat_le c 64) (Some c) None) None) n ≡ Some count
    → (1 ≤ count) × (count ≤ 64)
count_by_value None count is = absurd (none-some _ is)
count_by_value (Some c) count is = by (nat_lt 0 c) (nat_le c 64) refl refl is
  where
    by : (a b : Bool) → nat_lt 0 c ≡ a → nat_le c 64 ≡ b → cond a (cond b (Some c) None) None ≡ Some count
        → (1 ≤ count) × (count ≤ 64)
    by true true low high h =
        let same : c ≡ count = cc in
        (omega (arith, same, ltb-true _ _ low), omega (arith, same, leb-true _ _ high))
    by true false low high h = absurd (none-some _ h)
    by false b low high h = absurd (none-some _ h)

counted_words : (words : List (List ℕ)) (count : ℕ) → routers_in_words words ≡ Some count
    → (1 ≤ count) × (count ≤ 64)
counted_words [] count is = absurd (none-some _ is)
counted_words (command ∷ []) count is = absurd (none-some _ is)
counted_words (command ∷ word ∷ []) count is = by (bytes_eq command (codes "routers")) is
  where
    by : (b : Bool) → cond b (count_in word) None ≡ Some count → (1 ≤ count) × (count ≤ 64)
    by true h = count_by_value (number_of_router word) count h
    by false h = absurd (none-some _ h)
counted_words (command ∷ word ∷ more ∷ words) count is = absurd (none-some _ is)

pub counted : (lines : List (List ℕ)) (script : FloodScript) → IsScript lines script
    → (1 ≤ script.routers) × (script.routers ≤ 64)
counted lines script is = counted_words (words_of is.first) script.routers is.start
