-- Parts that are put at the end of a text, one after another.
use Rattle.std.proofs.Common.{◌≡◌, ◌<◌, ◌+◌, ◌++◌, ◌∙◌, ℕ, zero, suc, List, [], Some, slice_get, refl, sym, ap, subst, arith, append-nil, append_assoc}
use Rattle.std.proofs.lemmas.Option.{same_Some}
use Rattle.mrt_graph.specs.declared.node_id.NodeId.{NodeId}
use Rattle.text_parts.specs.steps.Adds.{Adds}
use Rattle.text_parts.specs.Parts.{AreParts, IsHeaded}

-- no part
pub nothing : (IsPart : List ℕ → Type 0) (text : List ℕ) → IsPart [] → Adds IsPart text text
nothing IsPart text is = record { part = []; is = is; added = sym (append-nil text) }

-- a part and another one after it
pub joined : (before part other middle after : List ℕ) → middle ≡ before ++ part → after ≡ middle ++ other → after ≡ before ++ (part ++ other)
joined before part other middle after first then = then ∙ ap (λ (xs : List ℕ). xs ++ other) first ∙ append_assoc before part other

-- one part more
pub one_part_more : (IsPart : ℕ → List ℕ → Type 0) (n : ℕ) (before middle after : List ℕ) → Adds (AreParts IsPart n) before middle
    → Adds (IsPart n) middle after → Adds (AreParts IsPart (n + 1)) before after
one_part_more IsPart n before middle after parts part =
    let up : suc n ≡ n + 1 = omega arith in
    record {
      part = parts.part ++ part.part;
      is = subst (λ (k : ℕ). AreParts IsPart k (parts.part ++ part.part)) up (parts.part, part.part, parts.is, part.is, refl);
      added = joined before parts.part part.part middle after parts.added part.added;
    }

-- where there is one part for each number, there is one text of them
pub one_text_of_parts : (IsPart : ℕ → List ℕ → Type 0) → ((n : ℕ) (part other : List ℕ) → IsPart n part → IsPart n other → part ≡ other) → (n : ℕ) (text other : List ℕ)
    → AreParts IsPart n text → AreParts IsPart n other → text ≡ other
one_text_of_parts IsPart one zero text other is is' = is ∙ sym is'
one_text_of_parts IsPart one (suc n) text other is is' =
    is.4
    ∙ ap (λ (xs : List ℕ). xs ++ is.1) (one_text_of_parts IsPart one n is.0 is'.0 is.2 is'.2)
    ∙ ap (λ (xs : List ℕ). is'.0 ++ xs) (one n is.1 is'.1 is.3 is'.3)
    ∙ sym is'.4

-- where there is some part for each number, there is some text of them
pub some_text_of_parts : (IsPart : ℕ → List ℕ → Type 0) (n : ℕ) → ((k : ℕ) → k < n → (part : List ℕ) × IsPart k part)
    → (text : List ℕ) × AreParts IsPart n text
some_text_of_parts IsPart zero some = ([], refl)
some_text_of_parts IsPart (suc n) some =
    let parts = some_text_of_parts IsPart n (λ k below. some k (omega (arith, below))) in
    let part = some n (omega arith) in
    (parts.0 ++ part.0, (parts.0, part.0, parts.1, part.1, refl))

-- so for a first line and parts
pub one_headed_text : (IsHead : List ℕ → Type 0) (IsPart : ℕ → List ℕ → Type 0) → ((text other : List ℕ) → IsHead text → IsHead other → text ≡ other)
    → ((n : ℕ) (part other : List ℕ) → IsPart n part → IsPart n other → part ≡ other) → (n : ℕ) (text other : List ℕ)
    → IsHeaded IsHead IsPart n text → IsHeaded IsHead IsPart n other → text ≡ other
one_headed_text IsHead IsPart one_head one n text other is is' =
    is.spelled
    ∙ ap (λ (xs : List ℕ). xs ++ is.lines) (one_head is.head is'.head is.head_is is'.head_is)
    ∙ ap (λ (xs : List ℕ). is'.head ++ xs) (one_text_of_parts IsPart one n is.lines is'.lines is.lines_are is'.lines_are)
    ∙ sym is'.spelled

pub some_headed_text : (IsHead : List ℕ → Type 0) (IsPart : ℕ → List ℕ → Type 0) (n : ℕ) → (head : List ℕ) × IsHead head
    → ((k : ℕ) → k < n → (part : List ℕ) × IsPart k part) → (text : List ℕ) × IsHeaded IsHead IsPart n text
some_headed_text IsHead IsPart n head some =
    let lines = some_text_of_parts IsPart n some in
    (head.0 ++ lines.0, record { head = head.0; head_is = head.1; lines = lines.0; lines_are = lines.1; spelled = refl })

-- a number is that of one node
pub one_id : (ids : List NodeId) (n : ℕ) (one other : NodeId) → slice_get ids n ≡ Some one → slice_get ids n ≡ Some other → one ≡ other
one_id ids n one other is is' = same_Some one other (sym is ∙ is')
