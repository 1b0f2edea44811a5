-- An area has one meaning, or one cause to have none.
use Rattle.std.proofs.Common.{◌≡◌, ◌⊎◌, inl, inr, ℕ, ℤ, ◌<◌, List, [], ◌∷◌, ◌++◌, length, refl, sym, ◌∙◌, ap, arith, append_assoc, length-append}
use Rattle.ob_journal_spec.specs.Spellings.{sized, header}
use Rattle.ob_journal_spec.specs.Areas.{Journaled, Records, Front, AreaRepresents, IsBlank, IsOpen, HasHeader, IsNoStore, HasRecord, IsDamaged}
use Rattle.ob_journal_spec.proofs.Spelled.{one_sized, one_header, length-header}

pub head : {a b : ℕ} {x y : List ℕ} → a ∷ x ≡ b ∷ y → a ≡ b
head e = cc

pub tail : {a b : ℕ} {x y : List ℕ} → a ∷ x ≡ b ∷ y → x ≡ y
tail e = cc

-- the records end at a gate: it is closed, or no record is behind it
Ends : ℕ → List ℕ → Type 0
Ends gate behind = (gate ≡ 0) ⊎ (¬ (HasRecord behind))

-- there is a gate behind
pub next_of : (records : List ℕ) (gate : ℕ) (behind : List ℕ) → (next : ℕ) × (more : List ℕ) × (records ++ gate ∷ behind ≡ next ∷ more)
next_of [] gate behind = (gate, behind, refl)
next_of (r ∷ records) gate behind = (r, records ++ gate ∷ behind, refl)

record_there : (p rest behind x : List ℕ) (gate : ℕ) → sized.fits p → x ≡ (sized.bytes p ++ rest) ++ gate ∷ behind → HasRecord x
record_there p rest behind x gate fits is =
    let next = next_of rest gate behind in
    record { payload = p; next = next.0; more = next.1; fits = fits; is = is ∙ append_assoc (sized.bytes p) rest (gate ∷ behind) ∙ ap (λ (l : List ℕ). sized.bytes p ++ l) next.2 }

-- records don't end where another stands
not_ended : (g : ℕ) (x p rest y : List ℕ) (gate h : ℕ) → Ends g x → 0 < gate → sized.fits p → g ∷ x ≡ gate ∷ ((sized.bytes p ++ rest) ++ h ∷ y) → ⊥
unfolding Ends
not_ended g x p rest y gate h (inl closed) is_open fits is = let same = head is in omega (arith, same, closed, is_open)
not_ended g x p rest y gate h (inr none) is_open fits is = none (record_there p rest y x h fits (tail is))

one_end : (ps qs : List (List ℕ)) (a b : List ℕ) (g h : ℕ) (x y : List ℕ) → Records ps a → Records qs b → Ends g x → Ends h y → a ++ g ∷ x ≡ b ++ h ∷ y → (ps ≡ qs) × (length a ≡ length b) × (g ∷ x ≡ h ∷ y)
one_end [] [] a b g h x y s t e f is =
    (refl, ap length (s ∙ sym t), ap (λ (l : List ℕ). l ++ g ∷ x) (sym s) ∙ is ∙ ap (λ (l : List ℕ). l ++ h ∷ y) t)
one_end [] (q ∷ qs) a b g h x y s t e f is =
    absurd (not_ended g x q t.1 y t.0 h e t.2 t.3 (ap (λ (l : List ℕ). l ++ g ∷ x) (sym s) ∙ is ∙ ap (λ (l : List ℕ). l ++ h ∷ y) t.4))
one_end (p ∷ ps) [] a b g h x y s t e f is =
    absurd (not_ended h y p s.1 x s.0 g f s.2 s.3 (ap (λ (l : List ℕ). l ++ h ∷ y) (sym t) ∙ sym is ∙ ap (λ (l : List ℕ). l ++ g ∷ x) s.4))
one_end (p ∷ ps) (q ∷ qs) a b g h x y s t e f is =
    let both : s.0 ∷ ((sized.bytes p ++ s.1) ++ g ∷ x) ≡ t.0 ∷ ((sized.bytes q ++ t.1) ++ h ∷ y) = ap (λ (l : List ℕ). l ++ g ∷ x) (sym s.4) ∙ is ∙ ap (λ (l : List ℕ). l ++ h ∷ y) t.4 in
    let parts = one_sized p q (s.1 ++ g ∷ x) (t.1 ++ h ∷ y) s.3 t.3 (sym (append_assoc (sized.bytes p) s.1 (g ∷ x)) ∙ tail both ∙ append_assoc (sized.bytes q) t.1 (h ∷ y)) in
    let rest = one_end ps qs s.1 t.1 g h x y s.5 t.5 e f parts.1 in
    let long : length (sized.bytes p) ≡ length (sized.bytes q) = ap (λ (l : List ℕ). length (sized.bytes l)) parts.0 in (
      ap (λ (l : List ℕ). l ∷ ps) parts.0 ∙ ap (λ (l : List (List ℕ)). q ∷ l) rest.0,
      omega (arith, ap length s.4, ap length t.4, length-append (sized.bytes p) s.1, length-append (sized.bytes q) t.1, long, rest.1),
      rest.2,
    )

same_journaled : (j k : Journaled) → j.serial ≡ k.serial → j.image ≡ k.image → j.payloads ≡ k.payloads → j ≡ k
same_journaled j k s i p =
    ap (λ (x : ℤ). record { serial = x; image = j.image; payloads = j.payloads }) s ∙ ap (λ (x : List ℕ). record { serial = k.serial; image = x; payloads = j.payloads }) i
    ∙ ap (λ (x : List (List ℕ)). record { serial = k.serial; image = k.image; payloads = x }) p

-- two fronts of an area, each up to where the records end, are one
same_fronts : (j k : Journaled) (a b : List ℕ) (g h : ℕ) (x y : List ℕ) → Front j a → Front k b → Ends g x → Ends h y → a ++ g ∷ x ≡ b ++ h ∷ y → (j ≡ k) × (length a ≡ length b) × (g ∷ x ≡ h ∷ y)
same_fronts j k a b g h x y s t e f is =
    let both : s.gate ∷ ((header.bytes (j.serial, j.image) ++ s.records) ++ g ∷ x) ≡ t.gate ∷ ((header.bytes (k.serial, k.image) ++ t.records) ++ h ∷ y) =
    ap (λ (l : List ℕ). l ++ g ∷ x) (sym s.is) ∙ is ∙ ap (λ (l : List ℕ). l ++ h ∷ y) t.is in
    let heads = one_header j.serial k.serial j.image k.image (s.records ++ g ∷ x) (t.records ++ h ∷ y) s.fits t.fits
    (sym (append_assoc (header.bytes (j.serial, j.image)) s.records (g ∷ x)) ∙ tail both ∙ append_assoc (header.bytes (k.serial, k.image)) t.records (h ∷ y)) in
    let ends = one_end j.payloads k.payloads s.records t.records g h x y s.payloads t.payloads e f heads.2 in
    let long : length j.image ≡ length k.image = ap length heads.1 in (
      same_journaled j k heads.0 heads.1 ends.0,
      omega (
        arith,
        ap length s.is,
        ap length t.is,
        length-append (header.bytes (j.serial, j.image)) s.records,
        length-append (header.bytes (k.serial, k.image)) t.records,
        length-header j.serial j.image,
        length-header k.serial k.image,
        long,
        ends.1,
      ),
      ends.2,
    )

-- ---- one meaning

pub one_stands : (area : List ℕ) (j k : Journaled) → AreaRepresents j area → AreaRepresents k area → j ≡ k
unfolding Ends
one_stands area j k s t = (same_fronts j k s.front t.front 0 0 s.behind t.behind s.open_front t.open_front (inl refl) (inl refl) (sym s.is ∙ t.is)).0

pub one_damage : (area : List ℕ) (m n : ℕ) → IsDamaged m area → IsDamaged n area → m ≡ n
unfolding Ends
one_damage area m n s t =
    s.at ∙ (same_fronts s.before t.before s.front t.front s.gate t.gate s.behind t.behind s.open_front t.open_front (inr s.no_record) (inr t.no_record) (sym s.is ∙ t.is)).1 ∙ sym t.at

-- ---- never two

pub whole_or_damaged : (area : List ℕ) (j : Journaled) (n : ℕ) → AreaRepresents j area → IsDamaged n area → ⊥
unfolding Ends
whole_or_damaged area j n s t =
    let same = same_fronts j t.before s.front t.front 0 t.gate s.behind t.behind s.open_front t.open_front (inl refl) (inr t.no_record) (sym s.is ∙ t.is) in
    let gates = head same.2 in omega (arith, gates, t.is_open)

-- behind a front is a header
pub front_header : (j : Journaled) (area front behind : List ℕ) (gate : ℕ) → Front j front → area ≡ front ++ gate ∷ behind → HasHeader j.serial j.image area
front_header j area front behind gate s is =
    let next = next_of s.records gate behind in
    record {
      gate = s.gate;
      next = next.0;
      behind = next.1;
      is = is ∙ ap (λ (l : List ℕ). l ++ gate ∷ behind) s.is ∙ ap (λ (l : List ℕ). s.gate ∷ l) (append_assoc (header.bytes (j.serial, j.image)) s.records (gate ∷ behind) ∙ ap (λ (l : List ℕ). header.bytes (j.serial, j.image) ++ l) next.2);
      fits = s.fits;
      from_one = s.from_one;
    }

pub front_open : (j : Journaled) (area front behind : List ℕ) (gate : ℕ) → Front j front → area ≡ front ++ gate ∷ behind → IsOpen area
front_open j area front behind gate s is =
    let rest = (header.bytes (j.serial, j.image) ++ s.records) ++ gate ∷ behind in
    record {
      gate = s.gate;
      rest = rest;
      is_open = s.is_open;
      some = omega (arith, length-append (header.bytes (j.serial, j.image) ++ s.records) (gate ∷ behind));
      is = is ∙ ap (λ (l : List ℕ). l ++ gate ∷ behind) s.is;
    }

pub blank_or_open : (area : List ℕ) → IsBlank area → IsOpen area → ⊥
blank_or_open area (inl short) s = omega (arith, short, ap length s.is, s.some)
blank_or_open area (inr closed) s = let gates = head (sym s.is ∙ closed.1) in omega (arith, gates, s.is_open)

pub blank_or_stands : (area : List ℕ) (j : Journaled) → IsBlank area → AreaRepresents j area → ⊥
blank_or_stands area j blank s = blank_or_open area blank (front_open j area s.front s.behind 0 s.open_front s.is)

pub blank_or_damaged : (area : List ℕ) (n : ℕ) → IsBlank area → IsDamaged n area → ⊥
blank_or_damaged area n blank s = blank_or_open area blank (front_open s.before area s.front s.behind s.gate s.open_front s.is)

pub blank_or_no_store : (area : List ℕ) → IsBlank area → IsNoStore area → ⊥
blank_or_no_store area blank s = blank_or_open area blank s.open_area

pub no_store_or_stands : (area : List ℕ) (j : Journaled) → IsNoStore area → AreaRepresents j area → ⊥
no_store_or_stands area j none s = none.no_header j.serial j.image (front_header j area s.front s.behind 0 s.open_front s.is)

pub no_store_or_damaged : (area : List ℕ) (n : ℕ) → IsNoStore area → IsDamaged n area → ⊥
no_store_or_damaged area n none s = none.no_header s.before.serial s.before.image (front_header s.before area s.front s.behind s.gate s.open_front s.is)
