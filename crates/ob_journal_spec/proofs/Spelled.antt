-- How long the spellings of headers and records are, and that each spells one thing.
use Rattle.std.proofs.Common.{◌≡◌, ℕ, ℤ, ◌+◌, List, ◌++◌, length, drop, sym, ◌∙◌, ap, arith, append_assoc, length-append}
use Rattle.ob_base.specs.Bytes.{u32_bytes, i64_bytes, text_bytes}
use Rattle.ob_base.proofs.FieldsLemmas.{one_i64, one_text}
use Rattle.ob_journal_spec.specs.Spellings.{sized, header}

pub length-sized : (b : List ℕ) → length (sized.bytes b) ≡ 4 + length b
length-sized b = omega (arith, length-append (u32_bytes (length b)) b)

pub length-header : (serial : ℤ) (image : List ℕ) → length (header.bytes (serial, image)) ≡ 16 + length image
length-header serial image = omega (arith, length-append (i64_bytes serial) (text_bytes image), length-append (u32_bytes (length image)) image)

pub one_sized : (p q x y : List ℕ) → sized.fits p → sized.fits q → sized.bytes p ++ x ≡ sized.bytes q ++ y → (p ≡ q) × (x ≡ y)
one_sized p q x y s t is = one_text p q x y s.0 t.0 is

pub one_header : (s t : ℤ) (i j x y : List ℕ) → header.fits (s, i) → header.fits (t, j) → header.bytes (s, i) ++ x ≡ header.bytes (t, j) ++ y → (s ≡ t) × (i ≡ j) × (x ≡ y)
one_header s t i j x y p q is =
    let rest : (i64_bytes s ++ text_bytes i) ++ x ≡ (i64_bytes t ++ text_bytes j) ++ y = ap (λ (l : List ℕ). drop 4 l) is in
    let serials = one_i64 s t (text_bytes i ++ x) (text_bytes j ++ y) p.1.0 q.1.0 (sym (append_assoc (i64_bytes s) (text_bytes i) x) ∙ rest ∙ append_assoc (i64_bytes t) (text_bytes j) y) in
    let images = one_text i j x y p.1.1.0 q.1.1.0 serials.1 in (serials.0, images.0, images.1)
