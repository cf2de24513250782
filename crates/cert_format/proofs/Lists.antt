-- Parts one after another.
use Rattle.std.proofs.Common.{◌≡◌, ℕ, suc, ◌+◌, ◌-◌, ◌*◌, ◌<◌, ◌≤◌, List, [], ◌∷◌, ◌++◌, length, get_or, take, drop, Some, refl, sym, ap, subst, ◌∙◌, append_assoc, arith}
use Rattle.std.specs.List.{flat_map, AllByRecursion}
use Rattle.std.proofs.lemmas.List.{append-nil, length-append, take-append-drop, take_more, drop_more, flat_map_more}
use Rattle.std.proofs.lemmas.List.Concat.{flat_map-append}
use Rattle.mrt_graph.proofs.Members.{all_append}
use Rattle.cert_format.specs.declared.error.CertKind.{CertKind}
use Rattle.cert_format.specs.Layout.{End, Form, collected}
use Rattle.cert_format.specs.FirstFault.{fault_in}
use Rattle.cert_format.specs.steps.Reading.{Rest, Took, TookMore}
use Rattle.cert_format.specs.steps.Steps.{AreFirst}
use Rattle.cert_format.proofs.Forms.{Spans}

-- what keeps this is spelled in so many bytes, at most 14, and the form of the part allows its spelling
pub record IsPart {A : Type 0} (part : (A → Form) → Form) (text : A → List ℕ) (Keeps : A → Type 0) (size : ℕ) : Type 0 where
  pub sized : (x : A) → length (text x) ≡ size
  pub passes : (x : A) → Keeps x → (next : A → Form) (at : ℕ) (rest : List ℕ) → fault_in (part next) at (text x ++ rest) ≡ fault_in (next x) (at + size) rest
  pub spans : Spans (part (λ x. End)) size
  pub short : size ≤ 14

pub Took-then : (x : List ℕ) (y : List ℕ) (a b c : Rest) → Took x a b → Took y b c → Took (x ++ y) a c
Took-then x y a b c p q = record {
  parts = p.parts ∙ ap (λ (t : List ℕ). x ++ t) q.parts ∙ sym (append_assoc x y c.bytes);
  place = omega (arith, p.place, q.place, length-append x y);
}

-- parts that were read are collected
pub collected_passes : {A : Type 0} (part : (A → Form) → Form) (text : A → List ℕ) (Keeps : A → Type 0) (size : ℕ) → IsPart part text Keeps size
    → (xs : List A) (k : ℕ) (next : List A → Form) (at : ℕ) (rest : List ℕ) → AllByRecursion Keeps xs
    → fault_in (collected (length xs + k) part next) at (flat_map text xs ++ rest) ≡ fault_in (collected k part (λ more. next (xs ++ more))) (at + size * length xs) rest
collected_passes part text Keeps size is [] k next at rest all =
    let zeros : 0 + k ≡ k = omega arith in
    let place : at ≡ at + size * 0 = omega arith in
    ap (λ (n : ℕ). fault_in (collected n part next) at rest) zeros ∙ ap (λ (a : ℕ). fault_in (collected k part next) a rest) place
collected_passes {A} part text Keeps size is (x ∷ xs) k next at rest all =
    let count : suc (length xs) + k ≡ suc (length xs + k) = omega arith in
    let place : at + size + size * length xs ≡ at + size * suc (length xs) = grind arith in
    ap (λ (n : ℕ). fault_in (collected n part next) at (flat_map text (x ∷ xs) ++ rest)) count
    ∙ ap (λ (t : List ℕ). fault_in (part (λ y. collected (length xs + k) part (λ ys. next (y ∷ ys)))) at t) (append_assoc (text x) (flat_map text xs) rest)
    ∙ is.passes x all.0 (λ y. collected (length xs + k) part (λ ys. next (y ∷ ys))) at (flat_map text xs ++ rest)
    ∙ collected_passes part text Keeps size is xs k (λ ys. next (x ∷ ys)) (at + size) rest all.1
    ∙ ap (λ (a : ℕ). fault_in (collected k part (λ more. next ((x ∷ xs) ++ more))) a rest) place

-- so many of all that are to come are passed
pub some_pass : {A : Type 0} (part : (A → Form) → Form) (text : A → List ℕ) (Keeps : A → Type 0) (size : ℕ) → IsPart part text Keeps size
    → (total : ℕ) (xs : List A) (next : List A → Form) (at : ℕ) (rest : List ℕ) → AreFirst total Keeps xs
    → fault_in (collected total part next) at (flat_map text xs ++ rest) ≡ fault_in (collected (total - length xs) part (λ more. next (xs ++ more))) (at + size * length xs) rest
some_pass part text Keeps size is total xs next at rest first =
    let count : total ≡ length xs + (total - length xs) = omega (arith, first.few) in
    ap (λ (n : ℕ). fault_in (collected n part next) at (flat_map text xs ++ rest)) count ∙ collected_passes part text Keeps size is xs (total - length xs) next at rest first.each

-- none is left
pub none_left : {A : Type 0} (part : (A → Form) → Form) (next : List A → Form) (k at : ℕ) (bytes : List ℕ) → k ≡ 0 → fault_in (collected k part next) at bytes ≡ fault_in (next []) at bytes
none_left part next k at bytes none = ap (λ (n : ℕ). fault_in (collected n part next) at bytes) none

-- a fault of the next part is the fault of all that are left
pub next_fails : {A : Type 0} (part : (A → Form) → Form) (next : List A → Form) (k at : ℕ) (bytes : List ℕ) (fault : ℕ × CertKind) → 0 < k
    → ((after : A → Form) → fault_in (part after) at bytes ≡ Some fault) → fault_in (collected k part next) at bytes ≡ Some fault
next_fails part next k at bytes fault some fails =
    let one : k ≡ suc (k - 1) = omega (arith, some) in
    ap (λ (n : ℕ). fault_in (collected n part next) at bytes) one ∙ fails (λ x. collected (k - 1) part (λ xs. next (x ∷ xs)))

-- none so far
pub took_nothing : {A : Type 0} (text : A → List ℕ) (Keeps : A → Type 0) (old : List A) (rest : Rest) → TookMore text Keeps old old rest rest
took_nothing text Keeps old rest = record { more = []; adds = sym (append-nil old); took = record { parts = refl; place = omega arith }; each = tt }

-- one part more
pub took_more : {A : Type 0} (text : A → List ℕ) (Keeps : A → Type 0) (old mid new : List A) (x : A) (start rest after : Rest) → TookMore text Keeps old mid start rest
    → Took (text x) rest after → Keeps x → new ≡ mid ++ x ∷ [] → TookMore text Keeps old new start after
took_more {A = A} text Keeps old mid new x start rest after so_far took here e = record {
  more = so_far.more ++ x ∷ [];
  adds = e ∙ ap (λ (it : List A). it ++ x ∷ []) so_far.adds ∙ append_assoc old so_far.more (x ∷ []);
  took =
      let texts : flat_map text (so_far.more ++ x ∷ []) ≡ flat_map text so_far.more ++ text x =
      flat_map-append text so_far.more (x ∷ []) ∙ ap (λ (t : List ℕ). flat_map text so_far.more ++ t) (append-nil (text x)) in
      subst (λ (t : List ℕ). Took t start after) (sym texts) (Took-then (flat_map text so_far.more) (text x) start rest after so_far.took took);
  each = all_append Keeps so_far.more (x ∷ []) so_far.each (here, tt);
}

pub length_texts : {A : Type 0} (text : A → List ℕ) (size : ℕ) (xs : List A) → ((x : A) → length (text x) ≡ size) → length (flat_map text xs) ≡ size * length xs
length_texts text size [] sized = omega arith
length_texts text size (x ∷ xs) sized = grind (arith, length-append (text x) (flat_map text xs), sized x, length_texts text size xs sized)

-- the texts before an element, its own, and those after it
pub texts_split : {A : Type 0} (text : A → List ℕ) (xs : List A) (i : ℕ) (x : A) → i < length xs → x ≡ get_or xs i x
    → flat_map text (take i xs) ++ (text x ++ flat_map text (drop (i + 1) xs)) ≡ flat_map text xs
texts_split {A = A} text xs i x lt is =
    let left : drop i xs ≡ x ∷ drop (i + 1) xs = rw is (drop_more xs i x lt) in
    sym (ap (flat_map text) (sym (take-append-drop i xs)) ∙ flat_map-append text (take i xs) (drop i xs) ∙ ap (λ (ys : List A). flat_map text (take i xs) ++ flat_map text ys) left)

-- some texts that are next, and those after them
pub texts_next : {A : Type 0} (text : A → List ℕ) (xs few rest : List A) (done all : List ℕ) → xs ≡ few ++ rest → done ++ flat_map text xs ≡ all
    → done ++ (flat_map text few ++ flat_map text rest) ≡ all
texts_next text xs few rest done all e parts = ap (λ (it : List ℕ). done ++ it) (sym (ap (flat_map text) e ∙ flat_map-append text few rest)) ∙ parts

-- the text of the next one has room, where all have
pub texts_room : {A : Type 0} (text : A → List ℕ) (xs : List A) (i : ℕ) (x : A) (before now : List ℕ) (room : ℕ) → i < length xs → x ≡ get_or xs i x
    → now ≡ before ++ flat_map text (take i xs) → length before + length (flat_map text xs) ≤ room → length now + length (text x) ≤ room
texts_room text xs i x before now room lt is so_far fits =
    omega (
      arith,
      fits,
      ap length (texts_split text xs i x lt is),
      ap length so_far,
      length-append before (flat_map text (take i xs)),
      length-append (flat_map text (take i xs)) (text x ++ flat_map text (drop (i + 1) xs)),
      length-append (text x) (flat_map text (drop (i + 1) xs)),
    )

-- texts of at most so many bytes each
pub texts_few : {A : Type 0} (text : A → List ℕ) (most : ℕ) (xs : List A) → ((x : A) → length (text x) ≤ most) → length (flat_map text xs) ≤ most * length xs
texts_few text most [] few = omega arith
texts_few text most (x ∷ xs) few = grind (arith, length-append (text x) (flat_map text xs), few x, texts_few text most xs few)

-- one more text after those of the first i
pub texts_more : {A : Type 0} (text : A → List ℕ) (xs : List A) (i : ℕ) (x : A) (before now piece after : List ℕ) → i < length xs → x ≡ get_or xs i x
    → now ≡ before ++ flat_map text (take i xs) → piece ≡ text x → after ≡ now ++ piece → after ≡ before ++ flat_map text (take (i + 1) xs)
texts_more text xs i x before now piece after lt is so_far here e =
    let front : take (i + 1) xs ≡ take i xs ++ x ∷ [] = rw is (take_more xs i x lt) in
    rw (e, so_far, here, front) (flat_map_more text before (take i xs) x)

-- what holds of each of the first elements, and of the next one
pub all_more : {A : Type 0} (Keeps : A → Type 0) (xs : List A) (i : ℕ) (x : A) → i < length xs → x ≡ get_or xs i x
    → AllByRecursion Keeps (take i xs) → Keeps x → AllByRecursion Keeps (take (i + 1) xs)
all_more Keeps xs i x lt is so_far here =
    let front : take (i + 1) xs ≡ take i xs ++ x ∷ [] = rw is (take_more xs i x lt) in
    subst (AllByRecursion Keeps) (sym front) (all_append Keeps (take i xs) (x ∷ []) so_far (here, tt))
