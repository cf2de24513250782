-- The near rows of a certificate, written node after node.
use Rattle.std.proofs.Common.{◌≡◌, ◌∙◌, ◌++◌, ◌*◌, ◌-◌, ◌+◌, ◌<◌, ◌^◌, ℕ, Bool, List, [], ◌∷◌, Option, Ok, Err, drop, filter, length, take, inl, inr, refl, sym, ap, subst, arith, length-append}
use Rattle.std.proofs.Math.Seq.{take-add}
use Rattle.std.proofs.lemmas.Bool.{cases_Bool}
use Rattle.std.proofs.lemmas.Grind.{flat_map-append}
use Rattle.std.proofs.lemmas.List.{take-append-drop, take_all}
use Rattle.std.proofs.lemmas.List.Elements.{filter-append}
use Rattle.std.specs.List.{flat_map}
use Rattle.mrt_graph.specs.declared.cert.Row.{Row}
use Rattle.mrt_graph.specs.Certificate.{Certificate}
use Rattle.mrt_graph.specs.Tags.{is_near}
use Rattle.mrt_rows.specs.NearOf.{near_rows_before, near_rows_of}
use Rattle.cert_format.specs.CertText.{row_text}
use Rattle.cert_format.specs.Putting.{Puts, Writer}
use Rattle.cert_format.specs.Versions.{rows_in}
use Rattle.cert_format.proofs.Puttings.{puts_failed, puts_none, puts_then}
use Rattle.mrt_io.specs.declared.device.PutError.{PutError}

filter_twice : (p : Row → Bool) (rows : List Row) → filter p (filter p rows) ≡ filter p rows
filter_twice p [] = refl
filter_twice p (row ∷ rows) = elim (cases_Bool (p row)) [
  | inl near ↦ rw (near, near) (ap (λ (it : List Row). row ∷ it) (filter_twice p rows))
  | inr far ↦ rw far (filter_twice p rows)
]

-- all rows of a node that are near stand in a file of version 2
pub near_stand : (c : Certificate) (s : ℕ) → rows_in 2 (near_rows_of c s) ≡ near_rows_of c s
near_stand c s = filter_twice is_near (take (length c.nodes - 1) (drop (s * (length c.nodes - 1)) c.rows))

pub near_more : (c : Certificate) (s : ℕ) → near_rows_before c s ++ near_rows_of c s ≡ near_rows_before c (s + 1)
near_more c s =
    let m = length c.nodes - 1 in
    let next : s * m + m ≡ (s + 1) * m = omega arith in
    sym (filter-append is_near (take (s * m) c.rows) (take m (drop (s * m) c.rows)))
    ∙ ap (λ (rows : List Row). filter is_near rows) (sym (take-add (s * m) m c.rows))
    ∙ ap (λ (k : ℕ). filter is_near (take k c.rows)) next

-- the bytes of the rows of the nodes before s, and of all rows that stand in a file of version 2
abbrev pub text_before : Certificate → ℕ → List ℕ
text_before c s = flat_map row_text (near_rows_before c s)

abbrev pub rows_text : Certificate → List ℕ
rows_text c = flat_map row_text (rows_in 2 c.rows)

-- those of the rows after s
abbrev pub text_after : Certificate → ℕ → List ℕ
text_after c s = flat_map row_text (filter is_near (drop ((s + 1) * (length c.nodes - 1)) c.rows))

-- what was found is what is written of s
found_text : (c : Certificate) (s version : ℕ) (found : List Row) → version ≡ 2 → found ≡ near_rows_of c s
    → flat_map row_text (rows_in version found) ≡ flat_map row_text (near_rows_of c s)
found_text c s version found two is =
    ap (λ (k : ℕ). flat_map row_text (rows_in k found)) two ∙ ap (λ (it : List Row). flat_map row_text (rows_in 2 it)) is
    ∙ ap (λ (it : List Row). flat_map row_text it) (near_stand c s)

pub more_text : (c : Certificate) (s version : ℕ) (found : List Row) → version ≡ 2 → found ≡ near_rows_of c s
    → text_before c s ++ flat_map row_text (rows_in version found) ≡ text_before c (s + 1)
more_text c s version found two is =
    ap (λ (it : List ℕ). text_before c s ++ it) (found_text c s version found two is)
    ∙ sym (flat_map-append row_text (near_rows_before c s) (near_rows_of c s))
    ∙ ap (λ (it : List Row). flat_map row_text it) (near_more c s)

pub whole_text : (c : Certificate) (s : ℕ) → text_before c (s + 1) ++ text_after c s ≡ rows_text c
whole_text c s =
    let k = (s + 1) * (length c.nodes - 1) in
    sym (flat_map-append row_text (filter is_near (take k c.rows)) (filter is_near (drop k c.rows)))
    ∙ ap (λ (it : List Row). flat_map row_text it) (sym (filter-append is_near (take k c.rows) (drop k c.rows)))
    ∙ ap (λ (it : List Row). flat_map row_text (filter is_near it)) (take-append-drop k c.rows)

pub all_text : (c : Certificate) (n : ℕ) → n ≡ length c.nodes → length c.rows ≡ n * (n - 1) → text_before c n ≡ rows_text c
all_text c n nodes many =
    ap (λ (k : ℕ). flat_map row_text (filter is_near (take (n * (k - 1)) c.rows))) (sym nodes)
    ∙ ap (λ (k : ℕ). flat_map row_text (filter is_near (take k c.rows))) (sym many)
    ∙ ap (λ (it : List Row). flat_map row_text (filter is_near it)) (take_all (length c.rows) c.rows (omega arith))

-- the writer was given the rows of the nodes before s, and is given those of s
module _ (t0 t1 t2 : Option (List ℕ)) (f0 f1 f2 : ℕ) (h0 h1 h2 : ℕ → Type 0) (c : Certificate) (s : ℕ) (found : List Row) (old mid new : Writer)
    (one : Puts t0 t1 f0 f1 h0 h1 (text_before c s) old mid (Ok tt)) (two : old.version ≡ 2) (is : found ≡ near_rows_of c s) where
  pub rows_more : Puts t1 t2 f1 f2 h1 h2 (flat_map row_text (rows_in mid.version found)) mid new (Ok tt) → Puts t0 t2 f0 f2 h0 h2 (text_before c (s + 1)) old new (Ok tt)
  rows_more more =
      subst (λ (it : List ℕ). Puts t0 t2 f0 f2 h0 h2 it old new (Ok tt)) (more_text c s mid.version found (one.same ∙ two) is)
      (puts_then t0 t1 t2 f0 f1 f2 h0 h1 h2 (text_before c s) (flat_map row_text (rows_in mid.version found)) old mid new one (Ok tt) more)

  pub rows_failed : (e : PutError) → Puts t1 t2 f1 f2 h1 h2 (flat_map row_text (rows_in mid.version found)) mid new (Err e) → Puts t0 t2 f0 f2 h0 h2 (rows_text c) old new (Err e)
  rows_failed e more =
      let text = flat_map row_text (rows_in mid.version found) in
      let both = puts_then t0 t1 t2 f0 f1 f2 h0 h1 h2 (text_before c s) text old mid new one (Err e) more in
      let same : (text_before c s ++ text) ++ text_after c s ≡ rows_text c =
      ap (λ (it : List ℕ). it ++ text_after c s) (more_text c s mid.version found (one.same ∙ two) is) ∙ whole_text c s in
      subst (λ (it : List ℕ). Puts t0 t2 f0 f2 h0 h2 it old new (Err e)) same
      (puts_failed t0 t2 f0 f2 h0 h2 (text_before c s ++ text) (text_after c s) old new e both)

-- and there is room for those of s
pub rows_fit : (t0 t1 : Option (List ℕ)) (f0 f1 : ℕ) (h0 h1 : ℕ → Type 0) (c : Certificate) (s : ℕ) (found : List Row) (old mid : Writer) → Puts t0 t1 f0 f1 h0 h1 (text_before c s) old mid (Ok tt)
    → old.version ≡ 2 → found ≡ near_rows_of c s → old.gone + length (old.held ++ rows_text c) < 2 ^ 64 → mid.gone + length (mid.held ++ flat_map row_text (rows_in mid.version found)) < 2 ^ 64
rows_fit t0 t1 f0 f1 h0 h1 c s found old mid one two is small =
    let text = flat_map row_text (rows_in mid.version found) in
    let same : (text_before c s ++ text) ++ text_after c s ≡ rows_text c =
    ap (λ (it : List ℕ). it ++ text_after c s) (more_text c s mid.version found (one.same ∙ two) is) ∙ whole_text c s in
    omega (
      arith,
      small,
      one.size,
      ap length same,
      length-append (text_before c s ++ text) (text_after c s),
      length-append (text_before c s) text,
      length-append old.held (rows_text c),
      length-append old.held (text_before c s),
      length-append mid.held text,
    )

-- a writer that was given nothing
pub rows_none : (told : Option (List ℕ)) (was : ℕ) (healthy : ℕ → Type 0) (c : Certificate) (writer : Writer) → Puts told told was was healthy healthy (text_before c 0) writer writer (Ok tt)
rows_none told was healthy c writer =
    let none : 0 ≡ 0 * (length c.nodes - 1) = omega arith in
    subst (λ (k : ℕ). Puts told told was was healthy healthy (flat_map row_text (filter is_near (take k c.rows))) writer writer (Ok tt)) none
    (puts_none told was healthy writer)
