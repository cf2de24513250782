-- The lines of a script, told one after another.
use Rattle.std.proofs.Common.{◌≡◌, ◌≤◌, ◌+◌, ◌∷◌, ◌++◌, ◌∙◌, ◌<◌, [], ℕ, List, Option, Some, None, length, slice_get, refl, sym, ap, subst, append_assoc, arith, add-one, drop, drop-cons, get_or}
use Rattle.std.specs.List.{AllByRecursion}
use Rattle.std.specs.Option.{option_map_or}
use Rattle.std.proofs.lemmas.List.{append-nil}
use Rattle.std.proofs.Math.ListN.{length-set}
use Rattle.lsdb.specs.Entries.{Database}
use Rattle.flood.specs.declared.answer.Answer.TheVariants as answers
use Rattle.flood.specs.Routers.{Router}
use Rattle.flood.specs.declared.update.Update.{Update}
use Rattle.flood.specs.FloodState.{FloodState}
use Rattle.flood.specs.FloodStep.{reached}
use Rattle.flood.specs.Receiving.{after_all, topology}
use Rattle.flood.specs.declared.script.FloodLine.{FloodLine}
use Rattle.flood.specs.declared.script.FloodLine.TheVariants.{Deliver, Same}
use Rattle.flood.specs.declared.verdict.Verdict.{Verdict}
use Rattle.flood.specs.Deliveries.{deliveries_in}
use Rattle.flood.specs.FloodScripts.{IsAmong}
use Rattle.flood.specs.FloodTexts.{IsFloodText, IsLineText, after_line}

pub drop_next : {X : Type 0} (xs : List X) (i : ℕ) (d : X) → i < length xs
    → drop i xs ≡ get_or xs i d ∷ drop (i + 1) xs
drop_next {X = X} xs i d inside =
    drop-cons xs i d inside ∙ ap (λ (n : ℕ). get_or xs i d ∷ drop n xs) (sym (add-one i))

-- ---- what a delivery keeps

record Keeps (old new : FloodState) : Type 0 where
  changed : new.changed ≤ old.changed + 1
  routers : length new.routers ≡ length old.routers

kept_at : (state : FloodState) (router : ℕ) (update : Update) (o : Option Router)
    → Keeps state (option_map_or (reached state router update) o (answers.NoSuchRouter, state)).1
kept_at state router update None = record { changed = omega arith; routers = refl }
kept_at state router update (Some there) = record {
  changed = omega arith;
  routers = length-set state.routers router (after_all there (topology update.lsas));
}

kept : (state : FloodState) (router : ℕ) (o : Option Update)
    → Keeps state (option_map_or
    (λ (update : Update).
    option_map_or (reached state router update) (slice_get state.routers router) (answers.NoSuchRouter, state))
    o (answers.NoSuchPacket, state)).1
kept state router None = record { changed = omega arith; routers = refl }
kept state router (Some update) = kept_at state router update (slice_get state.routers router)

-- ---- lines in turn

-- the text so far, and the lines that are left: with a text of these it is one of all
pub record AreTold (says : Database → Database → ℕ → Verdict → Type 0) (first : FloodState) (lines : List FloodLine)
    (flood : FloodState) (text : List ℕ) (left : List FloodLine) : Type 0 where
  pub on : (rest : List ℕ) → IsFloodText says flood left rest → IsFloodText says first lines (text ++ rest)
  pub room : flood.changed + deliveries_in left ≤ 65535
  pub among : AllByRecursion (IsAmong (length flood.routers)) left

pub told_none : (says : Database → Database → ℕ → Verdict → Type 0) (first : FloodState) (lines : List FloodLine)
    (text : List ℕ) → text ≡ [] → first.changed + deliveries_in lines ≤ 65535
    → AllByRecursion (IsAmong (length first.routers)) lines → AreTold says first lines first text lines
told_none says first lines text empty room among = record {
  on = λ rest is. subst (λ (t : List ℕ). IsFloodText says first lines (t ++ rest)) (sym empty) is;
  room = room;
  among = among;
}

room_after : (state : FloodState) (line : FloodLine) (left : List FloodLine)
    → state.changed + deliveries_in (line ∷ left) ≤ 65535
    → (after_line state line).changed + deliveries_in left ≤ 65535
room_after state (Deliver packet router) left room =
    omega (arith, room, (kept state router (slice_get state.packets packet)).changed)
room_after state (Same one other router) left room = room

pub room_here : (state : FloodState) (line : FloodLine) (left : List FloodLine)
    → state.changed + deliveries_in (line ∷ left) ≤ 65535 → state.changed + deliveries_in (line ∷ []) ≤ 65535
room_here state (Deliver packet router) left room = omega (arith, room)
room_here state (Same one other router) left room = omega (arith, room)

routers_after : (state : FloodState) (line : FloodLine) → length (after_line state line).routers ≡ length state.routers
routers_after state (Deliver packet router) = (kept state router (slice_get state.packets packet)).routers
routers_after state (Same one other router) = refl

pub told_more : (says : Database → Database → ℕ → Verdict → Type 0) (first : FloodState) (lines : List FloodLine)
    (flood flood' : FloodState) (text text' front : List ℕ) (line : FloodLine) (left left' : List FloodLine)
    → left ≡ line ∷ left' → AreTold says first lines flood text left → flood' ≡ after_line flood line
    → text' ≡ text ++ front → IsLineText says flood line front → AreTold says first lines flood' text' left'
told_more says first lines flood flood' text text' front line left left' is told after grown said =
    let here : AreTold says first lines flood text (line ∷ left') =
    subst (AreTold says first lines flood text) is told in
    subst (λ (s : FloodState). AreTold says first lines s text' left') (sym after)
    (subst (λ (t : List ℕ). AreTold says first lines (after_line flood line) t left') (sym grown) (record {
      on = λ rest later.
          subst (IsFloodText says first lines) (sym (append_assoc text front rest))
          (here.on (front ++ rest) (front, rest, refl, said, later));
      room = room_after flood line left' here.room;
      among = subst (λ (n : ℕ). AllByRecursion (IsAmong n) left') (sym (routers_after flood line)) here.among.1;
    }))

pub told_all : (says : Database → Database → ℕ → Verdict → Type 0) (first flood : FloodState) (lines left : List FloodLine)
    (text : List ℕ) → AreTold says first lines flood text left → left ≡ [] → IsFloodText says first lines text
told_all says first flood lines left text told none =
    let here : AreTold says first lines flood text [] = subst (AreTold says first lines flood text) none told in
    subst (IsFloodText says first lines) (append-nil text) (here.on [] refl)
