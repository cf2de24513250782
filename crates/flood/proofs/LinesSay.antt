-- What the lines of a script of deliveries say one after another is the script that the whole list of them is.
use Rattle.std.proofs.Common.{◌≡◌, ◌<◌, ◌≤◌, ◌+◌, ◌∙◌, ◌∷◌, ◌++◌, [], ℕ, Bool, true, false, cond, List, length, map, Option, Some, None, Ok, refl, ap, sym, subst, arith, append_assoc, inl, inr}
use Rattle.std.specs.List.{AllByRecursion, filter, fold}
use Rattle.std.specs.Option.{ok_or, option_and_then, option_map}
use Rattle.std.proofs.lemmas.Bool.{and_from, and_parts, lt-ltb, ltb-true}
use Rattle.std.proofs.lemmas.List.{append-nil, length-append}
use Rattle.std.proofs.lemmas.List.Elements.{filter-append}
use Rattle.text_parts.specs.LinesRead.{IsBeginning, lines_read}
use Rattle.text_parts.specs.TextRule.{IsText, said_by}
use Rattle.text_parts.proofs.WholeLists.{Means, all_passed, means, said_by_told, told_stays, with_told}
use Rattle.flood.specs.declared.script.FloodLine.{FloodLine}
use Rattle.flood.specs.declared.script.FloodLine.TheVariants.{Deliver, Same}
use Rattle.flood.specs.declared.script.FloodScript.{FloodScript}
use Rattle.flood.specs.Deliveries.{deliveries_in, is_delivery}
use Rattle.flood.specs.FloodLines.{line_in, routers_in}
use Rattle.flood.specs.FloodScripts.{IsAmong, IsFirstFloodFault, IsScript}
use Rattle.flood.specs.steps.Taking.{TakenLines, after_more, flood_rule, may_follow, no_lines_taken, taken_lines, script_of, wrong}

-- a script of these parts
abbrev script_with : ℕ → List FloodLine → FloodScript
script_with routers lines = record { routers = routers; lines = lines }

-- what lines say: none is told, or they are a script
abbrev Say : List (List ℕ) → Option ℕ → List FloodLine → Type 0
Say lines None said_lines = lines_read lines ≡ []
Say lines (Some routers) said_lines = IsScript lines (script_with routers said_lines)

-- ---- lines that may follow

deliveries_append : (lines more : List FloodLine) → deliveries_in (lines ++ more) ≡ deliveries_in lines + deliveries_in more
deliveries_append lines more =
    ap length (filter-append is_delivery lines more)
    ∙ length-append (filter is_delivery lines) (filter is_delivery more)

-- a line that may follow is among so many routers, and the deliveries stay few
allowed : (count : ℕ) (lines : List FloodLine) (line : FloodLine) → deliveries_in lines ≤ 65535
    → may_follow count lines line ≡ true → (deliveries_in (lines ++ line ∷ []) ≤ 65535) × IsAmong count line
allowed count lines (Deliver packet router) few may =
    let fewer : deliveries_in lines < 65535 = ltb-true _ _ may in
    (omega (arith, deliveries_append lines (Deliver packet router ∷ []), fewer), tt)
allowed count lines (Same one other router) few may =
    let both = and_parts _ _ may in
    (omega (arith, deliveries_append lines (Same one other router ∷ []), few), (ltb-true _ _ both.0, ltb-true _ _ both.1))

-- and so is one of a script's lines allowed after those before it
may : (count : ℕ) (lines more : List FloodLine) (line : FloodLine) → deliveries_in (lines ++ line ∷ more) ≤ 65535
    → IsAmong count line → may_follow count lines line ≡ true
may count lines more (Deliver packet router) few among =
    lt-ltb _ _ (omega (arith, few, deliveries_append lines (Deliver packet router ∷ more)))
may count lines more (Same one other router) few among = and_from _ _ (lt-ltb _ _ among.0) (lt-ltb _ _ among.1)

-- ---- later lines

-- later lines say more lines
record AreMore (count : ℕ) (lines : List FloodLine) (others : List (List ℕ)) (after : TakenLines) : Type 0 where
  more : List FloodLine
  lines_are : map line_in others ≡ map (λ line. Some line) more
  few : deliveries_in (lines ++ more) ≤ 65535
  among : AllByRecursion (IsAmong count) more
  says : after ≡ taken_lines (Some count) (lines ++ more)

after_lines : (count : ℕ) (lines : List FloodLine) (others : List (List ℕ)) (after : TakenLines) → deliveries_in lines ≤ 65535
    → fold (with_told flood_rule) (Ok (taken_lines (Some count) lines)) others ≡ Ok after → AreMore count lines others after
after_lines count lines [] after few is =
    let same : taken_lines (Some count) lines ≡ after = cc in
    record {
      more = [];
      lines_are = refl;
      few = subst (λ (ls : List FloodLine). deliveries_in ls ≤ 65535) (sym (append-nil lines)) few;
      among = tt;
      says = sym same ∙ ap (taken_lines (Some count)) (sym (append-nil lines));
    }
after_lines count lines (line ∷ others) after few is =
    next (line_in line) refl is
    (λ one fewer rest. after_lines count (lines ++ one ∷ []) others after fewer rest)
  where
    follow : (one : FloodLine) (b : Bool) → line_in line ≡ Some one → may_follow count lines one ≡ b
        → fold (with_told flood_rule) (ok_or (cond b (Some (taken_lines (Some count) (lines ++ one ∷ []))) None) wrong) others
        ≡ Ok after
        → (deliveries_in (lines ++ one ∷ []) ≤ 65535
        → fold (with_told flood_rule) (Ok (taken_lines (Some count) (lines ++ one ∷ []))) others ≡ Ok after
        → AreMore count (lines ++ one ∷ []) others after)
        → AreMore count lines (line ∷ others) after
    follow one false there may is onward = let none = sym (told_stays flood_rule wrong others) ∙ is in absurd cc
    follow one true there may is onward =
        let so = allowed count lines one few may in
        let rest = onward so.0 is in
        let whole = append_assoc lines (one ∷ []) rest.more in record {
          more = one ∷ rest.more;
          lines_are = ap (λ (o : Option FloodLine). o ∷ map line_in others) there
              ∙ ap (λ (os : List (Option FloodLine)). Some one ∷ os) rest.lines_are;
          few = subst (λ (ls : List FloodLine). deliveries_in ls ≤ 65535) whole rest.few;
          among = (so.1, rest.among);
          says = rest.says ∙ ap (taken_lines (Some count)) whole;
        }

    next : (here : Option FloodLine) → line_in line ≡ here
        → fold (with_told flood_rule) (ok_or (option_and_then (after_more count lines) here) wrong) others ≡ Ok after
        → ((one : FloodLine) → deliveries_in (lines ++ one ∷ []) ≤ 65535
        → fold (with_told flood_rule) (Ok (taken_lines (Some count) (lines ++ one ∷ []))) others ≡ Ok after
        → AreMore count (lines ++ one ∷ []) others after)
        → AreMore count lines (line ∷ others) after
    next None there is onward = let none = sym (told_stays flood_rule wrong others) ∙ is in absurd cc
    next (Some one) there is onward = follow one (may_follow count lines one) there refl is (onward one)

lines_taken : (count : ℕ) (lines more : List FloodLine) (others : List (List ℕ))
    → map line_in others ≡ map (λ (line : FloodLine). Some line) more → deliveries_in (lines ++ more) ≤ 65535
    → AllByRecursion (IsAmong count) more
    → fold (with_told flood_rule) (Ok (taken_lines (Some count) lines)) others ≡ Ok (taken_lines (Some count) (lines ++ more))
lines_taken count lines [] [] are few among =
    ap (λ (ls : List FloodLine). Ok (taken_lines (Some count) ls)) (sym (append-nil lines))
lines_taken count lines [] (line ∷ others) are few among = absurd cc
lines_taken count lines (one ∷ more) [] are few among = absurd cc
lines_taken count lines (one ∷ more) (line ∷ others) are few among =
    let first : line_in line ≡ Some one = cc in
    let whole = append_assoc lines (one ∷ []) more in
    ap (λ (o : Option FloodLine). fold (with_told flood_rule)
    (ok_or (option_and_then (after_more count lines) o) wrong) others) first
    ∙ ap (λ (b : Bool). fold (with_told flood_rule)
    (ok_or (cond b (Some (taken_lines (Some count) (lines ++ one ∷ []))) None) wrong) others)
    (may count lines more one few among.0)
    ∙ lines_taken count (lines ++ one ∷ []) more others (cc)
    (subst (λ (ls : List FloodLine). deliveries_in ls ≤ 65535) (sym whole) few) among.1
    ∙ ap (λ (ls : List FloodLine). Ok (taken_lines (Some count) ls)) whole

-- ---- whole lists

says : (lines : List (List ℕ)) (so_far : TakenLines) → said_by flood_rule lines ≡ Ok so_far
    → Say lines so_far.routers so_far.lines
says lines so_far say = by (lines_read lines) refl (sym (said_by_told flood_rule lines) ∙ say)
  where
    begun : (first : List ℕ) (others : List (List ℕ)) (here : Option ℕ) → lines_read lines ≡ first ∷ others
        → routers_in first ≡ here
        → fold (with_told flood_rule) (ok_or (option_map (λ (count : ℕ). taken_lines (Some count) []) here) wrong) others
        ≡ Ok so_far
        → Say lines so_far.routers so_far.lines
    begun first others None are is say = let none = sym (told_stays flood_rule wrong others) ∙ say in absurd cc
    begun first others (Some count) are is say =
        let after = after_lines count [] others so_far (omega arith) say in
        subst (λ (s : TakenLines). Say lines s.routers s.lines) (sym after.says) (record {
          first = first;
          others = others;
          told_are = are;
          start = is;
          lines_are = after.lines_are;
          few = after.few;
          among = after.among;
        })

    by : (lines_told : List (List ℕ)) → lines_read lines ≡ lines_told
        → fold (with_told flood_rule) (Ok no_lines_taken) lines_told ≡ Ok so_far → Say lines so_far.routers so_far.lines
    by [] none say =
        let same : no_lines_taken ≡ so_far = cc in subst (λ (s : TakenLines). Say lines s.routers s.lines) same none
    by (first ∷ others) are say = begun first others (routers_in first) are refl say

-- so the script that the lines are is what they say, and they begin one as long as they say something
is_script : (lines : List (List ℕ)) (script : FloodScript) → IsText flood_rule lines script → IsScript lines script
is_script lines script is = ended is.said.routers is.said.lines (says lines is.said is.say) is.whole
  where
    ended : (routers : Option ℕ) (said_lines : List FloodLine) → Say lines routers said_lines
        → ok_or (script_of routers said_lines) wrong ≡ Ok script → IsScript lines script
    ended None said_lines say whole = absurd cc
    ended (Some routers) said_lines say whole =
        let same : script_with routers said_lines ≡ script = cc in subst (IsScript lines) same say

is_text : (lines : List (List ℕ)) (script : FloodScript) → IsScript lines script → IsText flood_rule lines script
is_text lines script is = record {
  said = taken_lines (Some script.routers) script.lines;
  say = said_by_told flood_rule lines
      ∙ ap (fold (with_told flood_rule) (Ok no_lines_taken)) is.told_are
      ∙ ap (λ (o : Option ℕ). fold (with_told flood_rule)
      (ok_or (option_map (λ (count : ℕ). taken_lines (Some count) []) o) wrong) is.others) is.start
      ∙ lines_taken script.routers [] script.lines is.others is.lines_are is.few is.among;
  whole = refl;
}

begins : (lines : List (List ℕ)) (so_far : TakenLines) → said_by flood_rule lines ≡ Ok so_far → IsBeginning IsScript lines
begins lines so_far say = by so_far.routers so_far.lines (says lines so_far say)
  where
    by : (routers : Option ℕ) (said_lines : List FloodLine) → Say lines routers said_lines → IsBeginning IsScript lines
    by None said_lines none = inl (all_passed lines none)
    by (Some routers) said_lines is = inr (script_with routers said_lines, is)

pub script_means : Means flood_rule IsScript (λ lines number fault. IsFirstFloodFault lines number)
script_means = means flood_rule IsScript (record {
  texts = λ lines script. (is_script lines script, is_text lines script);
  begins = begins;
  none = refl;
})
