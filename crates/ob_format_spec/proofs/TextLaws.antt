-- The format of texts is lawful: the bytes that are read one after another are those of UTF-8.
use Rattle.std.proofs.Common.{ℕ, zero, suc, ◌≡◌, ◌+◌, ◌<◌, ◌≤◌, ◌-◌, ◌*◌, ◌/◌, nat_le, ◌&&◌, Bool, true, false, Option, Some, None, List, [], ◌∷◌, ◌++◌, length, refl, sym, ap, subst, ◌∙◌, inl, inr, ◌⊎◌, MatchOption, unwrap_or, arith}
use Rattle.std.proofs.lemmas.Bool.{leb-true, le-leb, and_parts, cases_lt}
use Rattle.std.proofs.lemmas.Bool.Decides.{nat_tests}
use Rattle.std.specs.Str.{IsUtf8}
use Rattle.std.proofs.lemmas.Str.{IsUtf8-append, IsUtf8-nil}
use Rattle.std.proofs.str.Laws.{Scalar, one, two, three, four}
use lib.Utf8.{scalar, scalars, next, encode, encodes, scalar_cases}
use Rattle.std.proofs.str.Valid.{of_one, of_two, of_three, of_four}
use Rattle.ob_format_spec.specs.declared.text.Due.{Due}
use Rattle.ob_format_spec.specs.Formats.{Parsed, done, stop, ◌>>=◌}
use Rattle.ob_format_spec.specs.Combinators.{number, and_then, each, each_fit, each_spelled}
use Rattle.ob_format_spec.specs.Texts.{due, no_due, due_after_first, due_after_due, due_after, has_room, text_byte, next_due, read_utf8, utf8, text}
use Rattle.ob_format_spec.specs.Lawful.{AreBytes, Lawful}
use Rattle.ob_format_spec.proofs.CombinatorLaws.{byte_lawful, each_lawful, and_then_lawful, SameSpelling, same_lawful, of_parts_lawful}
use Rattle.ob_format_spec.proofs.NumberLaws.{number_lawful}

-- what is due has room in what is left, and a byte of it can come
pub record Fine (left : ℕ) (d : Due) : Type 0 where
  pub room : d.count ≤ left
  pub range : d.low ≤ d.high

first_range : (b : ℕ) → MatchOption (due_after_first b) (Unit {0}) (λ d. d.low ≤ d.high)
first_range b = grind (arith, nat_tests)

due_range : (k : ℕ) (d : Due) (b : ℕ) → MatchOption (due_after_due k d b) (Unit {0}) (λ d. d.low ≤ d.high)
due_range zero d b = first_range b
due_range (suc k) d b = grind (arith, nat_tests)

fine_from : (left : ℕ) (o : Option Due) → has_room left o ≡ true → MatchOption o (Unit {0}) (λ d. d.low ≤ d.high) → Fine left (unwrap_or o no_due)
fine_from left None e range = absurd cc
fine_from left (Some d) e range = record { room = leb-true d.count left e; range = range }

low_passes : (left k : ℕ) (d : Due) → k ≤ suc left → d.low ≤ d.high → (b : ℕ) × (has_room left (due_after_due k d b) ≡ true)
low_passes left zero d room range = (0, le-leb 0 left (omega arith))
low_passes left (suc k) d room range = (d.low, rw (le-leb d.low d.low (omega arith), le-leb d.low d.high range) (le-leb k left (omega (arith, room))))

bytes_lawful : (left : ℕ) (d : Due) → Fine (suc left) d → Lawful (text_byte left d)
bytes_lawful left d fine = let b = low_passes left d.count d fine.room fine.range in byte_lawful (λ b. has_room left (due_after d b)) b.0 b.1

passing_lawful : (n : ℕ) (d : Due) → Fine n d → Lawful (each text_byte next_due n d)
passing_lawful = each_lawful text_byte next_due Fine bytes_lawful (λ n d b fine fits. fine_from n (due_after d b) fits (due_range d.count d b))

-- ---- what passes

abbrev Passes : ℕ → Due → List ℕ → Type 0
Passes = each_fit text_byte next_due

spelled_same : (n : ℕ) (d : Due) (t : List ℕ) → Passes n d t → t ≡ each_spelled text_byte next_due n d t
spelled_same zero d t p = p
spelled_same (suc n) d [] p = absurd p
spelled_same (suc n) d (b ∷ t) p = ap (λ l. b ∷ l) (spelled_same n (next_due n d b) t p.1)

length_is : (n : ℕ) (d : Due) (t : List ℕ) → Passes n d t → length t ≡ n
length_is zero d t p = ap length p
length_is (suc n) d [] p = absurd p
length_is (suc n) d (b ∷ t) p = ap (λ k. suc k) (length_is n (next_due n d b) t p.1)

step : (n : ℕ) (d e : Due) (b : ℕ) (t : List ℕ) → due_after d b ≡ Some e → e.count ≤ n → Passes n e t → Passes (suc n) d (b ∷ t)
step n d e b t is room p =
    (ap (has_room n) is ∙ le-leb e.count n room, subst (λ o. Passes n (unwrap_or o no_due) t) (sym is) p)

step_due : (n k low high b : ℕ) (t : List ℕ) → low ≤ b → b ≤ high → k ≤ n → Passes n (due k 0x80 0xBF) t → Passes (suc n) (due (suc k) low high) (b ∷ t)
step_due n k low high b t lo hi room p = step n (due (suc k) low high) (due k 0x80 0xBF) b t (rw (le-leb low b lo, le-leb b high hi) refl) room p

-- A first byte with so many after it, of which the first is at least `least` after the byte e and below `most` after f.
record Wide (b count e least f most : ℕ) : Type 0 where
  pub low : ℕ
  pub high : ℕ
  pub is : due_after_first b ≡ Some (due count low high)
  pub to : (c : ℕ) → (low ≤ c) × (c ≤ high) → (0x80 ≤ c) × (c < 0xC0) × (b ≡ e → least ≤ c) × (b ≡ f → c < most)
  pub from : (c : ℕ) → 0x80 ≤ c → c < 0xC0 → (b ≡ e → least ≤ c) → (b ≡ f → c < most) → (low ≤ c) × (c ≤ high)

abbrev WithTwo : ℕ → Type 0
WithTwo b = Wide b 2 0xE0 0xA0 0xED 0xA0

abbrev WithThree : ℕ → Type 0
WithThree b = Wide b 3 0xF0 0x90 0xF4 0x90

-- a first byte, by how many follow it
data Kind (b : ℕ) : Type 0 where
  alone : b < 0x80 → due_after_first b ≡ Some no_due → Kind b
  with_one : 0xC2 ≤ b → b < 0xE0 → due_after_first b ≡ Some (due 1 0x80 0xBF) → Kind b
  with_two : 0xE0 ≤ b → b < 0xF0 → WithTwo b → Kind b
  with_three : 0xF0 ≤ b → b < 0xF5 → WithThree b → Kind b
  of_none : due_after_first b ≡ None → Kind b

first_alone : (b : ℕ) → b < 0x80 → due_after_first b ≡ Some no_due
first_alone b h = grind (arith, nat_tests)

first_one : (b : ℕ) → 0xC2 ≤ b → b < 0xE0 → due_after_first b ≡ Some (due 1 0x80 0xBF)
first_one b l h = grind (arith, nat_tests)

first_none_low : (b : ℕ) → 0x80 ≤ b → b < 0xC2 → due_after_first b ≡ None
first_none_low b l h = grind (arith, nat_tests)

first_none_high : (b : ℕ) → 0xF5 ≤ b → due_after_first b ≡ None
first_none_high b l = grind (arith, nat_tests)

two_E0 : (b : ℕ) → b ≡ 0xE0 → due_after_first b ≡ Some (due 2 0xA0 0xBF)
two_E0 b e = rw e refl

two_ED : (b : ℕ) → b ≡ 0xED → due_after_first b ≡ Some (due 2 0x80 0x9F)
two_ED b e = rw e refl

two_low : (b : ℕ) → 0xE1 ≤ b → b < 0xED → due_after_first b ≡ Some (due 2 0x80 0xBF)
two_low b l h = grind (arith, nat_tests)

two_high : (b : ℕ) → 0xEE ≤ b → b < 0xF0 → due_after_first b ≡ Some (due 2 0x80 0xBF)
two_high b l h = grind (arith, nat_tests)

three_F0 : (b : ℕ) → b ≡ 0xF0 → due_after_first b ≡ Some (due 3 0x90 0xBF)
three_F0 b e = rw e refl

three_F4 : (b : ℕ) → b ≡ 0xF4 → due_after_first b ≡ Some (due 3 0x80 0x8F)
three_F4 b e = rw e refl

three_mid : (b : ℕ) → 0xF1 ≤ b → b < 0xF4 → due_after_first b ≡ Some (due 3 0x80 0xBF)
three_mid b l h = grind (arith, nat_tests)

kind_two : (b : ℕ) → 0xE0 ≤ b → b < 0xF0 → WithTwo b
kind_two b l h = elim (cases_lt b 0xE1) [
  | inl is ↦ record { low = 0xA0; high = 0xBF; is = two_E0 b (omega (arith, l, is)); to = λ c r. (omega (arith, r), omega (arith, r), λ e. omega (arith, r), λ e. absurd (omega (arith, e, is))); from = λ c p q u v. (u (omega (arith, l, is)), omega (arith, q)) }
  | inr past ↦ elim (cases_lt b 0xED) [
    | inl is ↦ record { low = 0x80; high = 0xBF; is = two_low b past is; to = λ c r. (omega (arith, r), omega (arith, r), λ e. absurd (omega (arith, e, past)), λ e. absurd (omega (arith, e, is))); from = λ c p q u v. (p, omega (arith, q)) }
    | inr more ↦ elim (cases_lt b 0xEE) [
      | inl is ↦ record { low = 0x80; high = 0x9F; is = two_ED b (omega (arith, more, is)); to = λ c r. (omega (arith, r), omega (arith, r), λ e. absurd (omega (arith, e, past)), λ e. omega (arith, r)); from = λ c p q u v. let w = v (omega (arith, more, is)) in (p, omega (arith, w)) }
      | inr most ↦ record { low = 0x80; high = 0xBF; is = two_high b most h; to = λ c r. (omega (arith, r), omega (arith, r), λ e. absurd (omega (arith, e, past)), λ e. absurd (omega (arith, e, most))); from = λ c p q u v. (p, omega (arith, q)) }
    ]
  ]
]

kind_three : (b : ℕ) → 0xF0 ≤ b → b < 0xF5 → WithThree b
kind_three b l h = elim (cases_lt b 0xF1) [
  | inl is ↦ record { low = 0x90; high = 0xBF; is = three_F0 b (omega (arith, l, is)); to = λ c r. (omega (arith, r), omega (arith, r), λ e. omega (arith, r), λ e. absurd (omega (arith, e, is))); from = λ c p q u v. (u (omega (arith, l, is)), omega (arith, q)) }
  | inr past ↦ elim (cases_lt b 0xF4) [
    | inl is ↦ record { low = 0x80; high = 0xBF; is = three_mid b past is; to = λ c r. (omega (arith, r), omega (arith, r), λ e. absurd (omega (arith, e, past)), λ e. absurd (omega (arith, e, is))); from = λ c p q u v. (p, omega (arith, q)) }
    | inr more ↦ record { low = 0x80; high = 0x8F; is = three_F4 b (omega (arith, more, h)); to = λ c r. (omega (arith, r), omega (arith, r), λ e. absurd (omega (arith, e, past)), λ e. omega (arith, r)); from = λ c p q u v. let w = v (omega (arith, more, h)) in (p, omega (arith, w)) }
  ]
]

kind_of : (b : ℕ) → Kind b
kind_of b = elim (cases_lt b 0x80) [
  | inl is ↦ alone is (first_alone b is)
  | inr p0 ↦ elim (cases_lt b 0xC2) [
    | inl is ↦ of_none (first_none_low b p0 is)
    | inr p1 ↦ elim (cases_lt b 0xE0) [
      | inl is ↦ with_one p1 is (first_one b p1 is)
      | inr p2 ↦ elim (cases_lt b 0xF0) [
        | inl is ↦ with_two p2 is (kind_two b p2 is)
        | inr p3 ↦ elim (cases_lt b 0xF5) [
          | inl is ↦ with_three p3 is (kind_three b p3 is)
          | inr p4 ↦ of_none (first_none_high b p4)
        ]
      ]
    ]
  ]
]

-- ---- what passes is UTF-8

-- one more byte of a character
record Next (n k low high : ℕ) (t : List ℕ) : Type 0 where
  pub left : ℕ
  pub byte : ℕ
  pub others : List ℕ
  pub count : n ≡ suc left
  pub parts : t ≡ byte ∷ others
  pub range : (low ≤ byte) × (byte ≤ high)
  pub room : k ≤ left
  pub passes : Passes left (due k 0x80 0xBF) others

in_range : (left k low high b : ℕ) (t : List ℕ) (is : Bool) → (nat_le low b && nat_le b high) ≡ is → Passes (suc left) (due (suc k) low high) (b ∷ t) → Next (suc left) k low high (b ∷ t)
in_range left k low high b t true e p =
    let is : due_after (due (suc k) low high) b ≡ Some (due k 0x80 0xBF) = rw e refl in
    let both = and_parts (nat_le low b) (nat_le b high) e in
    record {
      left = left;
      byte = b;
      others = t;
      count = refl;
      parts = refl;
      range = (leb-true low b both.0, leb-true b high both.1);
      room = leb-true k left (sym (ap (has_room left) is) ∙ p.0);
      passes = subst (λ o. Passes left (unwrap_or o no_due) t) is p.1;
    }
in_range left k low high b t false e p =
    let is : due_after (due (suc k) low high) b ≡ None = rw e refl in
    let no : false ≡ true = sym (ap (has_room left) is) ∙ p.0 in
    absurd cc

next_of : (n k low high : ℕ) (t : List ℕ) → suc k ≤ n → Passes n (due (suc k) low high) t → Next n k low high t
next_of zero k low high t room p = absurd (omega (arith, room))
next_of (suc n) k low high [] room p = absurd p
next_of (suc n) k low high (b ∷ t) room p = in_range n k low high b t (nat_le low b && nat_le b high) refl p

utf8_one : (a : ℕ) → a < 128 → IsUtf8 (a ∷ [])
utf8_one a h = of_one (a ∷ []) 0 (omega arith) h

utf8_two : (a b : ℕ) → 0xC2 ≤ a → a < 0xE0 → (0x80 ≤ b) × (b ≤ 0xBF) → IsUtf8 (a ∷ b ∷ [])
utf8_two a b l h r = of_two (a ∷ b ∷ []) 0 (omega arith) (l, h) (r.0, omega (arith, r.1))

least_three : (a b c : ℕ) → 0xE0 ≤ a → (a ≡ 0xE0 → 0xA0 ≤ b) → (a < 0xE1) ⊎ (0xE1 ≤ a) → 2048 ≤ (a - 224) * 4096 + (b - 128) * 64 + (c - 128)
least_three a b c l r (inl is) = let w = r (omega (arith, l, is)) in omega (arith, w, l)
least_three a b c l r (inr is) = omega (arith, is)

sides_three : (a b c : ℕ) → a < 0xF0 → (0x80 ≤ b) × (b < 0xC0) → (a ≡ 0xED → b < 0xA0) → (0x80 ≤ c) × (c ≤ 0xBF) → (a < 0xED) ⊎ (0xED ≤ a) → (a < 0xEE) ⊎ (0xEE ≤ a) →
    ((a - 224) * 4096 + (b - 128) * 64 + (c - 128) < 55296) ⊎ (57344 ≤ (a - 224) * 4096 + (b - 128) * 64 + (c - 128))
sides_three a b c h r v q (inl is) s = inl (omega (arith, is, r, q))
sides_three a b c h r v q (inr is) (inl t) = let w = v (omega (arith, is, t)) in inl (omega (arith, is, t, w, r, q))
sides_three a b c h r v q (inr is) (inr t) = inr (omega (arith, t))

utf8_three : (a b c : ℕ) → 0xE0 ≤ a → a < 0xF0 → (0x80 ≤ b) × (b < 0xC0) × (a ≡ 0xE0 → 0xA0 ≤ b) × (a ≡ 0xED → b < 0xA0) → (0x80 ≤ c) × (c ≤ 0xBF) → IsUtf8 (a ∷ b ∷ c ∷ [])
utf8_three a b c l h r q =
    of_three (a ∷ b ∷ c ∷ []) 0 (omega arith) (l, h) (r.0, r.1) (q.0, omega (arith, q.1)) (least_three a b c l r.2 (cases_lt a 0xE1))
    (sides_three a b c h (r.0, r.1) r.3 q (cases_lt a 0xED) (cases_lt a 0xEE))

least_four : (a b : ℕ) → 0xF0 ≤ a → (a ≡ 0xF0 → 0x90 ≤ b) → (a < 0xF1) ⊎ (0xF1 ≤ a) → 16 ≤ (a - 240) * 64 + (b - 128)
least_four a b l r (inl is) = let w = r (omega (arith, l, is)) in omega (arith, w, l)
least_four a b l r (inr is) = omega (arith, is)

most_four : (a b : ℕ) → a < 0xF5 → b < 0xC0 → (a ≡ 0xF4 → b < 0x90) → (a < 0xF4) ⊎ (0xF4 ≤ a) → (a - 240) * 64 + (b - 128) < 272
most_four a b h u r (inl is) = omega (arith, is, u)
most_four a b h u r (inr is) = let w = r (omega (arith, is, h)) in omega (arith, h, w)

utf8_four : (a b c d : ℕ) → 0xF0 ≤ a → a < 0xF5 → (0x80 ≤ b) × (b < 0xC0) × (a ≡ 0xF0 → 0x90 ≤ b) × (a ≡ 0xF4 → b < 0x90) → (0x80 ≤ c) × (c ≤ 0xBF) → (0x80 ≤ d) × (d ≤ 0xBF) → IsUtf8 (a ∷ b ∷ c ∷ d ∷ [])
utf8_four a b c d l h r q p =
    of_four (a ∷ b ∷ c ∷ d ∷ []) 0 (omega arith) l (r.0, r.1) (q.0, omega (arith, q.1)) (p.0, omega (arith, p.1))
    (least_four a b l r.2 (cases_lt a 0xF1), most_four a b h r.1 r.3 (cases_lt a 0xF4))

-- what passes within so many bytes is UTF-8
abbrev Within : ℕ → Type 0
Within most = (n : ℕ) (t : List ℕ) → n ≤ most → Passes n no_due t → IsUtf8 t

after_byte : (n b : ℕ) (t : List ℕ) (d : Due) → due_after_first b ≡ Some d → Passes (suc n) no_due (b ∷ t) → (d.count ≤ n) × Passes n d t
after_byte n b t d is p = (leb-true d.count n (sym (ap (has_room n) is) ∙ p.0), subst (λ o. Passes n (unwrap_or o no_due) t) is p.1)

join : (front rest t : List ℕ) → t ≡ front ++ rest → IsUtf8 front → IsUtf8 rest → IsUtf8 t
join front rest t parts a b = subst IsUtf8 (sym parts) (IsUtf8-append front rest a b)

utf8_kind : (most n b : ℕ) (t : List ℕ) → Within most → n ≤ most → Kind b → Passes (suc n) no_due (b ∷ t) → IsUtf8 (b ∷ t)
utf8_kind most n b t again le (alone h is) p =
    let q = after_byte n b t no_due is p in
    join (b ∷ []) t (b ∷ t) refl (utf8_one b h) (again n t le q.1)
utf8_kind most n b t again le (with_one l h is) p =
    let q = after_byte n b t (due 1 0x80 0xBF) is p in
    let x = next_of n 0 0x80 0xBF t q.0 q.1 in
    let c = x.count in
    join (b ∷ x.byte ∷ []) x.others (b ∷ t) (ap (λ l. b ∷ l) x.parts) (utf8_two b x.byte l h x.range) (again x.left x.others (omega (arith, c, le)) x.passes)
utf8_kind most n b t again le (with_two l h w) p =
    let q = after_byte n b t (due 2 w.low w.high) w.is p in
    let x = next_of n 1 w.low w.high t q.0 q.1 in
    let y = next_of x.left 0 0x80 0xBF x.others x.room x.passes in
    let c = x.count in
    let d = y.count in
    join (b ∷ x.byte ∷ y.byte ∷ []) y.others (b ∷ t) (ap (λ l. b ∷ l) x.parts ∙ ap (λ l. b ∷ x.byte ∷ l) y.parts) (utf8_three b x.byte y.byte l h (w.to x.byte x.range) y.range)
    (again y.left y.others (omega (arith, c, d, le)) y.passes)
utf8_kind most n b t again le (with_three l h w) p =
    let q = after_byte n b t (due 3 w.low w.high) w.is p in
    let x = next_of n 2 w.low w.high t q.0 q.1 in
    let y = next_of x.left 1 0x80 0xBF x.others x.room x.passes in
    let z = next_of y.left 0 0x80 0xBF y.others y.room y.passes in
    let c = x.count in
    let d = y.count in
    let e = z.count in
    join (b ∷ x.byte ∷ y.byte ∷ z.byte ∷ []) z.others (b ∷ t) (ap (λ l. b ∷ l) x.parts ∙ ap (λ l. b ∷ x.byte ∷ l) y.parts ∙ ap (λ l. b ∷ x.byte ∷ y.byte ∷ l) z.parts)
    (utf8_four b x.byte y.byte z.byte l h (w.to x.byte x.range) y.range z.range) (again z.left z.others (omega (arith, c, d, e, le)) z.passes)
utf8_kind most n b t again le (of_none is) p =
    let no : false ≡ true = sym (ap (has_room n) is) ∙ p.0 in
    absurd cc

utf8_from : (most : ℕ) → Within most
utf8_from most zero t le p = subst IsUtf8 (sym p) IsUtf8-nil
utf8_from zero (suc n) t le p = absurd (omega (arith, le))
utf8_from (suc most) (suc n) [] le p = absurd p
utf8_from (suc most) (suc n) (b ∷ t) le p = utf8_kind most n b t (utf8_from most) (omega (arith, le)) (kind_of b) p

-- ---- UTF-8 passes

pass_two : (n a b : ℕ) (t : List ℕ) → 0xC2 ≤ a → a < 0xE0 → (0x80 ≤ b) × (b ≤ 0xBF) → Passes n no_due t → Passes (suc (suc n)) no_due (a ∷ b ∷ t)
pass_two n a b t l h r p =
    step (suc n) no_due (due 1 0x80 0xBF) a (b ∷ t) (first_one a l h) (omega arith) (step_due n 0 0x80 0xBF b t r.0 r.1 (omega arith) p)

pass_three : (n a b c : ℕ) (t : List ℕ) → 0xE0 ≤ a → a < 0xF0 → (0x80 ≤ b) × (b < 0xC0) → (a ≡ 0xE0 → 0xA0 ≤ b) → (a ≡ 0xED → b < 0xA0) → (0x80 ≤ c) × (c < 0xC0) → Passes n no_due t →
    Passes (suc (suc (suc n))) no_due (a ∷ b ∷ c ∷ t)
pass_three n a b c t l h r e0 ed q p =
    let k = kind_two a l h in
    let w = k.from b r.0 r.1 e0 ed in
    step (suc (suc n)) no_due (due 2 k.low k.high) a (b ∷ c ∷ t) k.is (omega arith)
    (step_due (suc n) 1 k.low k.high b (c ∷ t) w.0 w.1 (omega arith) (step_due n 0 0x80 0xBF c t q.0 (omega (arith, q.1)) (omega arith) p))

pass_four : (n a b c d : ℕ) (t : List ℕ) → 0xF0 ≤ a → a < 0xF5 → (0x80 ≤ b) × (b < 0xC0) → (a ≡ 0xF0 → 0x90 ≤ b) → (a ≡ 0xF4 → b < 0x90) → (0x80 ≤ c) × (c < 0xC0) → (0x80 ≤ d) × (d < 0xC0) → Passes n no_due t →
    Passes (suc (suc (suc (suc n)))) no_due (a ∷ b ∷ c ∷ d ∷ t)
pass_four n a b c d t l h r f0 f4 q v p =
    let k = kind_three a l h in
    let w = k.from b r.0 r.1 f0 f4 in
    step (suc (suc (suc n))) no_due (due 3 k.low k.high) a (b ∷ c ∷ d ∷ t) k.is (omega arith)
    (step_due (suc (suc n)) 2 k.low k.high b (c ∷ d ∷ t) w.0 w.1 (omega arith)
    (step_due (suc n) 1 0x80 0xBF c (d ∷ t) q.0 (omega (arith, q.1)) (omega arith) (step_due n 0 0x80 0xBF d t v.0 (omega (arith, v.1)) (omega arith) p)))

highest : (c : ℕ) → Scalar c → c < 1114112
highest c (inl h) = omega (arith, h)
highest c (inr h) = h.1

below_surrogates : (c : ℕ) → Scalar c → 224 + c / 4096 ≡ 0xED → next (c / 64) < 0xA0
below_surrogates c (inl h) e = omega (arith, h, e)
below_surrogates c (inr h) e = absurd (omega (arith, h.0, e))

-- all of these pass
abbrev AllPass : List ℕ → Type 0
AllPass t = Passes (length t) no_due t

char_passes : (c : ℕ) (t : List ℕ) → Scalar c → (c < 128) ⊎ (128 ≤ c) → (c < 2048) ⊎ (2048 ≤ c) → (c < 65536) ⊎ (65536 ≤ c) → AllPass t → AllPass (encode c ++ t)
char_passes c t s (inl h) q r p = subst (λ l. AllPass (l ++ t)) (sym (one c h)) (step (length t) no_due no_due c t (first_alone c h) (omega arith) p)
char_passes c t s (inr l) (inl h) r p =
    subst (λ l. AllPass (l ++ t)) (sym (two c l h)) (pass_two (length t) (192 + c / 64) (next c) t (omega (arith, l)) (omega (arith, h)) (omega arith, omega arith) p)
char_passes c t s (inr k) (inr l) (inl h) p =
    subst (λ l. AllPass (l ++ t)) (sym (three c l h))
    (pass_three (length t) (224 + c / 4096) (next (c / 64)) (next c) t (omega (arith, l)) (omega (arith, h)) (omega arith, omega arith) (λ e. omega (arith, e, l)) (λ e. below_surrogates c s e) (omega arith, omega arith) p)
char_passes c t s (inr k) (inr m) (inr l) p =
    let top : c < 1114112 = highest c s in
    subst (λ l. AllPass (l ++ t)) (sym (four c l))
    (pass_four (length t) (240 + c / 262144) (next (c / 4096)) (next (c / 64)) (next c) t (omega (arith, l)) (omega (arith, top)) (omega arith, omega arith) (λ e. omega (arith, e, l)) (λ e. omega (arith, e, top)) (omega arith, omega arith)
    (omega arith, omega arith) p)

chars_pass : (cs : List ℕ) → scalars cs ≡ true → AllPass (encodes cs)
chars_pass [] e = refl
chars_pass (c ∷ cs) e =
    let both = and_parts (scalar c) (scalars cs) e in
    char_passes c (encodes cs) (scalar_cases c both.0) (cases_lt c 128) (cases_lt c 2048) (cases_lt c 65536) (chars_pass cs both.1)

utf8_passes : (n : ℕ) (t : List ℕ) → length t ≡ n → IsUtf8 t → Passes n no_due t
utf8_passes n t len is = subst (λ k. Passes k no_due t) len (subst AllPass is.1.1 (chars_pass is.0 is.1.0))

-- ---- the formats

same_read : {A : Type 0} (r : Parsed A) → r ≡ (r >>= (λ t rest. done t rest))
same_read (done t rest) = refl
same_read (stop left) = refl

utf8_same : (n : ℕ) → SameSpelling (utf8 n) (each text_byte next_due n no_due) (λ t. t) (λ t. t)
utf8_same n = record {
  reads = λ bytes. same_read (read_utf8 n no_due bytes);
  bytes = λ t fits. spelled_same n no_due t (utf8_passes n t fits.0 fits.1);
  to = λ t fits. utf8_passes n t fits.0 fits.1;
  from = λ t fits. (length_is n no_due t fits, utf8_from n n t (omega arith) fits);
  again = λ t fits. refl;
  back = λ t fits. refl;
}

utf8_lawful : (n : ℕ) → Lawful (utf8 n)
utf8_lawful n = same_lawful (utf8 n) (each text_byte next_due n no_due) (λ t. t) (λ t. t) (utf8_same n) (passing_lawful n no_due record { room = omega arith; range = omega arith })

pub text_lawful : Lawful text
unfolding text
text_lawful =
    of_parts_lawful (λ pair. pair.1) (λ t. (length t, t)) (and_then number utf8) (λ t. refl) (λ pair fits. (λ i. (fits.1.0 i, pair.1)))
    (and_then_lawful number utf8 number_lawful (λ n fits. utf8_lawful n))

text_utf8 : (t : List ℕ) → text.fits t → IsUtf8 t
unfolding text
text_utf8 t fits = fits.1.1

-- a text that was read is UTF-8
pub text_form : (bytes : List ℕ) → AreBytes bytes → (t rest : List ℕ) → text.read bytes ≡ done t rest → IsUtf8 t
text_form bytes all t rest e = text_utf8 t (text_lawful.sound bytes all t rest e).0
