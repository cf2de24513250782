-- An LSA is read as it is written, and written as it is read.
use Rattle.std.proofs.Common.{◌≡◌, ◌≢◌, ℕ, ℤ, ◌+◌, ◌-◌, ◌^◌, ◌<◌, ◌≤◌, true, List, ◌++◌, length, take, drop, Option, Some, None, Result, Ok, Err, inl, inr, refl, sym, ap, subst, ◌∙◌, arith}
use Rattle.std.specs.Int.{w8, w16, w32, to_be_bytes, cast_unsigned, cast_signed}
use Rattle.std.specs.Option.{option_map_or}
use Rattle.std.proofs.lemmas.Bool.Decides.{eqb_tells, nat_tests}
use Rattle.std.proofs.lemmas.Int.{of_z-to_z, to_z-of_z}
use Rattle.std.proofs.lemmas.List.{drop-drop, take_at, take-append-drop, length-append, length-drop, length-take}
use Rattle.std.proofs.Math.Facts.{sfits_to_z, Fits-lt-pow, Fits-of_lt, Fits-of_z}
use Rattle.byteorder.specs.Numbers.{big_number-reads_back}
use Rattle.ospf_lsa.specs.declared.error.LsaKind.{LsaKind}
use Rattle.ospf_lsa.specs.declared.lsa.Body.{Body}
use Rattle.ospf_lsa.specs.declared.lsa.Lsa.{Lsa}
use Rattle.ospf_lsa.specs.LsaText.{body_text, lsa_length, header_text, lsa_text, covered_text}
use Rattle.ospf_lsa.specs.Checksum.{is_good}
use Rattle.ospf_lsa.specs.Header.{number_at, length_field, covered_bytes, body_bytes}
use Rattle.ospf_lsa.specs.steps.Reading.{lsa_in, header_fault, typed_body, with_body, record_in}
use Rattle.ospf_lsa.specs.Lsas.{IsLsa}
use Rattle.mrt_graph.proofs.Bytes.{IsBytes, bytes_after}
use Rattle.ospf_lsa.proofs.Numbers.{bytes_taken, spelled8, spelled16, spelled32, spelled_at, number_fits}
use Rattle.ospf_lsa.proofs.Bodies.{body_spelled, body_read}

-- a header without a fault
pub record IsHeader (bytes : List ℕ) : Type 0 where
  pub long : 20 ≤ length bytes
  pub within : length_field bytes ≤ length bytes
  pub least : 20 ≤ length_field bytes
  pub good : is_good (covered_bytes bytes) (number_at 16 2 bytes) ≡ true
  pub not_reserved : number_at 12 4 bytes ≢ 2 ^ 31
  pub own_id : number_at 3 1 bytes ≡ 1 → number_at 4 4 bytes ≡ number_at 8 4 bytes

pub header_whole : (bytes : List ℕ) → header_fault bytes ≡ None → IsHeader bytes
header_whole bytes e = record {
  long = grind (arith, nat_tests);
  within = grind (arith, nat_tests);
  least = grind (arith, nat_tests);
  good = grind (arith, nat_tests);
  not_reserved = grind (arith, nat_tests);
  own_id = λ router. grind (arith, nat_tests);
}

pub header_passes : (bytes : List ℕ) → IsHeader bytes → header_fault bytes ≡ None
header_passes bytes is = elim (eqb_tells (number_at 3 1 bytes) 1) [
  | inl router ↦ let own : number_at 4 4 bytes ≡ number_at 8 4 bytes = is.own_id router.1 in grind (arith, nat_tests)
  | inr other ↦ grind (arith, nat_tests)
]

-- what is read where an LSA is read
pub record IsRead (at : ℕ) (bytes : List ℕ) (x : Lsa × ℕ) : Type 0 where
  pub header : IsHeader bytes
  pub body : Body
  pub in_bytes : typed_body (number_at 3 1 bytes) (body_bytes bytes) ≡ Ok body
  pub is : x ≡ (lsa_in at bytes body, length_field bytes)

pub record_parts : (at : ℕ) (bytes : List ℕ) (x : Lsa × ℕ) → record_in at bytes ≡ Ok x → IsRead at bytes x
record_parts at bytes x e = by_header (header_fault bytes) refl e
  where
    by_body : (r : Result Body LsaKind) → IsHeader bytes → typed_body (number_at 3 1 bytes) (body_bytes bytes) ≡ r
        → with_body at bytes r ≡ Ok x → IsRead at bytes x
    by_body (Err kind) header found e = absurd cc
    by_body (Ok body) header found e = record { header = header; body = body; in_bytes = found; is = cc }

    by_header : (o : Option LsaKind) → header_fault bytes ≡ o
        → option_map_or Err o (with_body at bytes (typed_body (number_at 3 1 bytes) (body_bytes bytes))) ≡ Ok x
        → IsRead at bytes x
    by_header None found e = by_body (typed_body (number_at 3 1 bytes) (body_bytes bytes))
        (header_whole bytes found) refl e
    by_header (Some kind) found e = absurd cc

-- a header that is read is spelled by its bytes
header_spelled : (at : ℕ) (bytes : List ℕ) (body : Body) → 20 ≤ length bytes → IsBytes bytes
    → bytes ≡ header_text (lsa_in at bytes body) (length_field bytes) ++ drop 20 bytes
header_spelled at bytes body long are =
    let unsigned : to_be_bytes w32 (number_at 12 4 bytes)
    ≡ to_be_bytes w32 (cast_unsigned w32 (cast_signed w32 (number_at 12 4 bytes))) =
    ap (to_be_bytes w32) (sym (of_z-to_z w32 (number_at 12 4 bytes) (number_fits 4 12 bytes are))) in
    spelled_at w16 0 2 bytes spelled16 refl (omega arith) are
    ∙ ap (λ (t : List ℕ). to_be_bytes w16 (number_at 0 2 bytes) ++ t)
    (spelled_at w8 2 3 bytes spelled8 refl (omega arith) are
    ∙ ap (λ (t : List ℕ). to_be_bytes w8 (number_at 2 1 bytes) ++ t)
    (spelled_at w8 3 4 bytes spelled8 refl (omega arith) are
    ∙ ap (λ (t : List ℕ). to_be_bytes w8 (number_at 3 1 bytes) ++ t)
    (spelled_at w32 4 8 bytes spelled32 refl (omega arith) are
    ∙ ap (λ (t : List ℕ). to_be_bytes w32 (number_at 4 4 bytes) ++ t)
    (spelled_at w32 8 12 bytes spelled32 refl (omega arith) are
    ∙ ap (λ (t : List ℕ). to_be_bytes w32 (number_at 8 4 bytes) ++ t)
    (spelled_at w32 12 16 bytes spelled32 refl (omega arith) are
    ∙ ap (λ (t : List ℕ). t ++ drop 16 bytes) unsigned
    ∙ ap (λ (t : List ℕ). to_be_bytes w32 (cast_unsigned w32 (cast_signed w32 (number_at 12 4 bytes))) ++ t)
    (spelled_at w16 16 18 bytes spelled16 refl (omega arith) are
    ∙ ap (λ (t : List ℕ). to_be_bytes w16 (number_at 16 2 bytes) ++ t)
    (spelled_at w16 18 20 bytes spelled16 refl long are)))))))

-- what an LSA that is read keeps, and its bytes
pub record IsSpelledLsa (at : ℕ) (bytes : List ℕ) (x : Lsa × ℕ) : Type 0 where
  pub placed : x.0.at ≡ at
  pub kept : IsLsa x.0
  pub text : bytes ≡ lsa_text x.0 ++ drop x.1 bytes
  pub len : x.1 ≡ lsa_length x.0

-- the bytes that the checksum of an LSA at the front covers
covered_so : (lsa : Lsa) (rest : List ℕ) (n : ℕ) → n ≡ lsa_length lsa
    → take (n - 2) (drop 2 (lsa_text lsa ++ rest)) ≡ covered_text lsa
covered_so lsa rest n is = take_at (covered_text lsa) rest (n - 2) (omega (arith, is))

pub record_spelled : (at : ℕ) (bytes : List ℕ) (x : Lsa × ℕ) → record_in at bytes ≡ Ok x → IsBytes bytes
    → IsSpelledLsa at bytes x
record_spelled at bytes x e are =
    let read = record_parts at bytes x e in
    subst (λ (y : Lsa × ℕ). IsSpelledLsa at bytes y) (sym read.is) (spells read.body read.header read.in_bytes)
  where
    spells : (body : Body) → IsHeader bytes → typed_body (number_at 3 1 bytes) (body_bytes bytes) ≡ Ok body
        → IsSpelledLsa at bytes (lsa_in at bytes body, length_field bytes)
    spells body header found =
        let n = length_field bytes in
        let read = body_spelled (number_at 3 1 bytes) (body_bytes bytes) body found
        (bytes_taken (n - 20) (drop 20 bytes) (bytes_after 20 bytes are)) in
        let len : length (body_bytes bytes) ≡ n - 20 = simp (length-take, length-drop) (omega (arith, header.within)) in
        let whole : n ≡ 20 + length (body_text body) = omega (arith, header.least, len, ap length read.text) in
        let parts : drop 20 bytes ≡ body_text body ++ drop n bytes =
        sym (take-append-drop (n - 20) (drop 20 bytes))
        ∙ ap (λ (t : List ℕ). t ++ drop (n - 20) (drop 20 bytes)) read.text
        ∙ ap (λ (t : List ℕ). body_text body ++ t)
        (drop-drop (n - 20) 20 bytes ∙ ap (λ (k : ℕ). drop k bytes) (omega (arith, header.least))) in
        let text : bytes ≡ lsa_text (lsa_in at bytes body) ++ drop n bytes =
        header_spelled at bytes body header.long are
        ∙ ap (λ (t : List ℕ). header_text (lsa_in at bytes body) n ++ t) parts
        ∙ ap (λ (k : ℕ). header_text (lsa_in at bytes body) k ++ (body_text body ++ drop n bytes)) whole in
        let covered : covered_bytes bytes ≡ covered_text (lsa_in at bytes body) =
        ap (λ (t : List ℕ). take (n - 2) (drop 2 t)) text ∙ covered_so (lsa_in at bytes body) (drop n bytes) n whole in
        record {
          placed = refl;
          kept = record {
            header = record {
              age = number_fits 2 0 bytes are;
              options = number_fits 1 2 bytes are;
              kind = number_fits 1 3 bytes are;
              id = number_fits 4 4 bytes are;
              router = number_fits 4 8 bytes are;
              sequence = sfits_to_z {w = w32} (Fits-of_lt {w = w32} (number_fits 4 12 bytes are));
            };
            checksum = number_fits 2 16 bytes are;
            good = ap (λ (t : List ℕ). is_good t (number_at 16 2 bytes)) (sym covered) ∙ header.good;
            not_reserved =
                λ e. header.not_reserved (sym (of_z-to_z w32 (number_at 12 4 bytes) (number_fits 4 12 bytes are))
                ∙ ap (cast_unsigned w32) e ∙ of_z-to_z w32 (2 ^ 31) (omega arith));
            own_id = header.own_id;
            of_type = read.of_type;
            body = read.fits;
            metrics = read.metrics;
            length_fits = subst (λ (k : ℕ). k < 2 ^ 16) whole (number_fits 2 18 bytes are);
          };
          text = text;
          len = whole;
        }

lsa_of : ℕ → ℕ → ℕ → ℕ → ℕ → ℕ → ℤ → ℕ → Body → Lsa
lsa_of at age options kind id router sequence checksum body =
    record {
      at = at;
      age = age;
      options = options;
      kind = kind;
      id = id;
      router = router;
      sequence =
          sequence;
      checksum = checksum;
      body = body;
    }

lsa_is : (x y : Lsa) → x.at ≡ y.at → x.age ≡ y.age → x.options ≡ y.options → x.kind ≡ y.kind → x.id ≡ y.id
    → x.router ≡ y.router → x.sequence ≡ y.sequence → x.checksum ≡ y.checksum → x.body ≡ y.body → x ≡ y
unfolding lsa_of
lsa_is x y at age options kind id router sequence checksum body =
    ap (λ (v : ℕ). lsa_of v x.age x.options x.kind x.id x.router x.sequence x.checksum x.body) at
    ∙ ap (λ (v : ℕ). lsa_of y.at v x.options x.kind x.id x.router x.sequence x.checksum x.body) age
    ∙ ap (λ (v : ℕ). lsa_of y.at y.age v x.kind x.id x.router x.sequence x.checksum x.body) options
    ∙ ap (λ (v : ℕ). lsa_of y.at y.age y.options v x.id x.router x.sequence x.checksum x.body) kind
    ∙ ap (λ (v : ℕ). lsa_of y.at y.age y.options y.kind v x.router x.sequence x.checksum x.body) id
    ∙ ap (λ (v : ℕ). lsa_of y.at y.age y.options y.kind y.id v x.sequence x.checksum x.body) router
    ∙ ap (λ (v : ℤ). lsa_of y.at y.age y.options y.kind y.id y.router v x.checksum x.body) sequence
    ∙ ap (λ (v : ℕ). lsa_of y.at y.age y.options y.kind y.id y.router y.sequence v x.body) checksum
    ∙ ap (λ (v : Body). lsa_of y.at y.age y.options y.kind y.id y.router y.sequence y.checksum v) body

-- what an LSA whose parts stand so is read as
read_so : (at : ℕ) (bytes : List ℕ) (body : Body) → IsHeader bytes
    → typed_body (number_at 3 1 bytes) (body_bytes bytes) ≡ Ok body
    → record_in at bytes ≡ Ok (lsa_in at bytes body, length_field bytes)
read_so at bytes body header found =
    ap (λ (o : Option LsaKind). option_map_or Err o
    (with_body at bytes (typed_body (number_at 3 1 bytes) (body_bytes bytes)))) (header_passes bytes header)
    ∙ ap (with_body at bytes) found

-- where an LSA without a fault stands at the front, the fields are its own
pub record IsAtFront (lsa : Lsa) (rest : List ℕ) : Type 0 where
  pub header : IsHeader (lsa_text lsa ++ rest)
  pub kind : number_at 3 1 (lsa_text lsa ++ rest) ≡ lsa.kind
  pub len : length_field (lsa_text lsa ++ rest) ≡ lsa_length lsa
  pub body : body_bytes (lsa_text lsa ++ rest) ≡ body_text lsa.body
  pub same : lsa_in lsa.at (lsa_text lsa ++ rest) lsa.body ≡ lsa

pub at_front : (lsa : Lsa) (rest : List ℕ) → IsLsa lsa → IsAtFront lsa rest
at_front lsa rest kept =
    let len : length_field (lsa_text lsa ++ rest) ≡ lsa_length lsa =
    big_number-reads_back 2 (lsa_length lsa) (drop 20 (lsa_text lsa ++ rest)) kept.length_fits in
    let age : number_at 0 2 (lsa_text lsa ++ rest) ≡ lsa.age =
    big_number-reads_back 2 lsa.age (drop 2 (lsa_text lsa ++ rest)) kept.header.age in
    let options : number_at 2 1 (lsa_text lsa ++ rest) ≡ lsa.options =
    big_number-reads_back 1 lsa.options (drop 3 (lsa_text lsa ++ rest)) kept.header.options in
    let kind : number_at 3 1 (lsa_text lsa ++ rest) ≡ lsa.kind =
    big_number-reads_back 1 lsa.kind (drop 4 (lsa_text lsa ++ rest)) kept.header.kind in
    let id : number_at 4 4 (lsa_text lsa ++ rest) ≡ lsa.id =
    big_number-reads_back 4 lsa.id (drop 8 (lsa_text lsa ++ rest)) kept.header.id in
    let router : number_at 8 4 (lsa_text lsa ++ rest) ≡ lsa.router =
    big_number-reads_back 4 lsa.router (drop 12 (lsa_text lsa ++ rest)) kept.header.router in
    let sequence : number_at 12 4 (lsa_text lsa ++ rest) ≡ cast_unsigned w32 lsa.sequence =
    big_number-reads_back 4 (cast_unsigned w32 lsa.sequence) (drop 16 (lsa_text lsa ++ rest))
    (Fits-lt-pow {w = w32} (Fits-of_z {w = w32} kept.header.sequence)) in
    let checksum : number_at 16 2 (lsa_text lsa ++ rest) ≡ lsa.checksum =
    big_number-reads_back 2 lsa.checksum (drop 18 (lsa_text lsa ++ rest)) kept.checksum in
    let signed : cast_signed w32 (number_at 12 4 (lsa_text lsa ++ rest)) ≡ lsa.sequence =
    ap (cast_signed w32) sequence ∙ to_z-of_z w32 lsa.sequence kept.header.sequence in
    let covered : covered_bytes (lsa_text lsa ++ rest) ≡ covered_text lsa =
    covered_so lsa rest (length_field (lsa_text lsa ++ rest)) len in
    record {
      header = record {
        long = omega arith;
        within = omega (arith, len, length-append (body_text lsa.body) rest);
        least = omega (arith, len);
        good = ap (λ (t : List ℕ). is_good t (number_at 16 2 (lsa_text lsa ++ rest))) covered
            ∙ ap (is_good (covered_text lsa)) checksum ∙ kept.good;
        not_reserved = λ e. kept.not_reserved (sym signed ∙ ap (cast_signed w32) e);
        own_id = λ is. id ∙ kept.own_id (sym kind ∙ is) ∙ sym router;
      };
      kind = kind;
      len = len;
      body = ap (λ (n : ℕ). take (n - 20) (body_text lsa.body ++ rest)) len
          ∙ take_at (body_text lsa.body) rest (lsa_length lsa - 20) (omega arith);
      same = lsa_is (lsa_in lsa.at (lsa_text lsa ++ rest) lsa.body) lsa refl age options kind id router signed
          checksum refl;
    }

pub record_read : (lsa : Lsa) (rest : List ℕ) → IsLsa lsa
    → record_in lsa.at (lsa_text lsa ++ rest) ≡ Ok (lsa, lsa_length lsa)
record_read lsa rest kept =
    let front = at_front lsa rest kept in
    let short : length (body_text lsa.body) < 2 ^ 16 = omega (arith, kept.length_fits) in
    let found : typed_body (number_at 3 1 (lsa_text lsa ++ rest)) (body_bytes (lsa_text lsa ++ rest)) ≡ Ok lsa.body =
    ap (λ (t : List ℕ). typed_body (number_at 3 1 (lsa_text lsa ++ rest)) t) front.body
    ∙ ap (λ (k : ℕ). typed_body k (body_text lsa.body)) front.kind
    ∙ body_read lsa.kind lsa.body kept.of_type kept.body kept.metrics short in
    read_so lsa.at (lsa_text lsa ++ rest) lsa.body front.header found
    ∙ ap (λ (l : Lsa). Ok (l, length_field (lsa_text lsa ++ rest))) front.same
    ∙ ap (λ (n : ℕ). Ok (lsa, n)) front.len
