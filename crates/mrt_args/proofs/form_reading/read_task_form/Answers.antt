use Rattle.std.proofs.Common.{◌≡◌, ◌∙◌, ◌≤◌, ◌-◌, ◌==◌, ℕ, Bool, true, false, List, [], ◌∷◌, length, get_or, take, drop, refl, sym, ap, arith}
use Rattle.std.specs.Prelude.{nat_lt}
use Rattle.std.specs.Option.{option_map}
use Rattle.std.proofs.lemmas.Bool.{eqb-false, lt-ltb}
use Rattle.std.proofs.lemmas.List.{take_all}
use Rattle.mrt_args.specs.declared.form.FileForm.{FileForm}
use Rattle.mrt_args.specs.Form.{Task, profile_name, task_form_of, task_in}
use Rattle.mrt_args.proofs.form_reading.read_task_form.Goals as goal

-- a name that is not empty
some_bytes : (word bytes : List ℕ) (empty : Bool) → bytes ≡ word → empty ≡ (length bytes == 0) → empty ≡ false → nat_lt 0 (length word) ≡ true
some_bytes word bytes empty is tested not_so =
    let some = eqb-false (length bytes) 0 (sym tested ∙ not_so) in
    lt-ltb 0 (length word) (omega (arith, some, ap length is))

abbrev with_task : List ℕ → List ℕ → Task → FileForm
with_task database profile task = record { database = database; profile = profile_name profile; task = task }

-- the form of words of which the second and the third are not empty
form_is : (words : List (List ℕ)) (a b c : List ℕ) → 3 ≤ length words → a ≡ get_or words 0 a → b ≡ get_or words 1 b → c ≡ get_or words 2 c
    → nat_lt 0 (length b) ≡ true → nat_lt 0 (length c) ≡ true
    → task_form_of words ≡ option_map (with_task b c) (task_in a (take (length words - 3) (drop 3 words)))
form_is [] a b c least ia ib ic named profiled = absurd (omega (arith, least))
form_is (x ∷ []) a b c least ia ib ic named profiled = absurd (omega (arith, least))
form_is (x ∷ y ∷ []) a b c least ia ib ic named profiled = absurd (omega (arith, least))
form_is (x ∷ y ∷ z ∷ words) a b c least ia ib ic named profiled =
    let all = take_all (length (x ∷ y ∷ z ∷ words) - 3) words (omega arith) in
    let second : nat_lt 0 (length y) ≡ true = rw ib at named in
    let third : nat_lt 0 (length z) ≡ true = rw ic at profiled in
    rw (ia, ib, ic, all, second, third) refl

pub returns-in_ok-task-in-len3-up : goal.returns-in_ok-task-in-len3-up
returns-in_ok-task-in-len3-up c =
    let named = some_bytes c.database-item.result _ _ c.bytes.ensures c.is_empty.ensures c.if-not-is_empty.true in
    let profiled = some_bytes c.profile-item.result _ _ c.bytes-then-not-is_empty.ensures c.is_empty-then-not-is_empty.ensures c.if-not-is_empty-2.true in
    rw (c.new.ensures, c.read_profile_name.ensures)
    (ap (option_map (with_task c.database-item.result c.profile-item.result)) (rw c.bytes-in-len3-up.ensures at c.in_ok-task-in-len3-up.ensures)
    ∙ sym (form_is c.args.words.now _ _ _ c.in-len3-up.len_at_least c.command-item.is c.database-item.is c.profile-item.is named profiled))

pub returns-in_err-task-in-len3-up : goal.returns-in_err-task-in-len3-up
returns-in_err-task-in-len3-up c =
    let named = some_bytes c.database-item.result _ _ c.bytes.ensures c.is_empty.ensures c.if-not-is_empty.true in
    let profiled = some_bytes c.profile-item.result _ _ c.bytes-then-not-is_empty.ensures c.is_empty-then-not-is_empty.ensures c.if-not-is_empty-2.true in
    c.from_residual.ensures
    ∙ ap (option_map (with_task c.database-item.result c.profile-item.result)) (rw c.bytes-in-len3-up.ensures at c.in_err-task-in-len3-up.ensures)
    ∙ sym (form_is c.args.words.now _ _ _ c.in-len3-up.len_at_least c.command-item.is c.database-item.is c.profile-item.is named profiled)
