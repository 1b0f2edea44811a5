-- An append: what each of its two writes makes of an area.
use Rattle.std.proofs.Common.{◌≡◌, ◌⊎◌, inl, inr, ℕ, zero, suc, ◌+◌, ◌≤◌, List, [], ◌∷◌, ◌++◌, length, drop, sym, ◌∙◌, ap, subst, arith, append_assoc, length-append}
use Rattle.ob_disk_spec.specs.Disk.{Torn, overwritten}
use Rattle.ob_journal_spec.specs.Spellings.{sized}
use Rattle.ob_journal_spec.specs.Areas.{Journaled, Front, AreaRepresents, next_gate, with_payload}
use Rattle.ob_journal_spec.proofs.Bytes.{length-front, front-append, drop_front, torn_behind, torn_byte, put_inside}

-- the area represents the records with this one or without it
abbrev pub StandsWithOrWithout : Journaled → List ℕ → List ℕ → Type 0
StandsWithOrWithout j payload area = AreaRepresents j area ⊎ AreaRepresents (with_payload j payload) area

-- the record stands whole behind the closed gate
pub record Staged (j : Journaled) (payload area : List ℕ) : Type 0 where
  pub front : List ℕ
  pub behind : List ℕ
  pub is : area ≡ front ++ 0 ∷ (sized.bytes payload ++ 0 ∷ behind)
  pub fits : sized.fits payload
  pub open_front : Front j front

module _ (j : Journaled) (payload : List ℕ) where
  -- as the byte of the gate is
  gate_byte : (front behind area : List ℕ) (gate : ℕ) → sized.fits payload → Front j front → area ≡ front ++ gate ∷ (sized.bytes payload ++ 0 ∷ behind) → StandsWithOrWithout j payload area
  gate_byte front behind area zero fits open_front is = inl (record { front = front; behind = sized.bytes payload ++ 0 ∷ behind; is = is; open_front = open_front })
  gate_byte front behind area (suc g) fits open_front is =
      let whole : AreaRepresents (with_payload j payload) area = record {
        front = front ++ suc g ∷ sized.bytes payload;
        behind = behind;
        is = is ∙ sym (append_assoc front (suc g ∷ sized.bytes payload) (0 ∷ behind));
        open_front = front-append j front payload (suc g) (omega arith) fits open_front;
      } in
      inr whole

  module _ (p : ℕ) (place : p ≡ next_gate j) where
    pub kept_behind : (n : ℕ) (d c : List ℕ) → AreaRepresents j d → Torn (p + 1) n d c → AreaRepresents j c
    kept_behind n d c was torn =
        let at : length was.front ≡ p = length-front j was.front was.open_front ∙ sym place in
        let now = torn_behind was.front was.behind c 0 p n at (subst (λ (l : List ℕ). Torn (p + 1) n l c) was.is torn) in
        record { front = was.front; behind = now.0; is = now.1; open_front = was.open_front }

    pub stages : (built d c : List ℕ) → sized.fits payload → built ≡ sized.bytes payload ++ 0 ∷ [] → AreaRepresents j d → c ≡ overwritten (p + 1) built d → Staged j payload c
    stages built d c fits is_built was is =
        let at : length was.front ≡ p = length-front j was.front was.open_front ∙ sym place in
        let more = drop (p + 1 + length built) (was.front ++ 0 ∷ was.behind) in
        let split : was.front ++ 0 ∷ was.behind ≡ (was.front ++ 0 ∷ []) ++ was.behind = sym (append_assoc was.front (0 ∷ []) was.behind) in
        let long : length (was.front ++ 0 ∷ []) ≡ p + 1 = omega (arith, at, length-append was.front (0 ∷ [])) in
        let same : c ≡ (was.front ++ 0 ∷ []) ++ (built ++ more) =
        is ∙ ap (overwritten (p + 1) built) (was.is ∙ split) ∙ put_inside (was.front ++ 0 ∷ []) was.behind built (p + 1) long
        ∙ ap (λ (l : List ℕ). (was.front ++ 0 ∷ []) ++ (built ++ drop (p + 1 + length built) l)) (sym split) in
        record {
          front = was.front;
          behind = more;
          fits = fits;
          is = same ∙ append_assoc was.front (0 ∷ []) (built ++ more) ∙ ap (λ (l : List ℕ). was.front ++ 0 ∷ (l ++ more)) is_built ∙ ap (λ (l : List ℕ). was.front ++ 0 ∷ l) (append_assoc (sized.bytes payload) (0 ∷ []) more);
          open_front = was.open_front;
        }

    pub opens_torn : (d c : List ℕ) → Staged j payload d → Torn p 1 d c → StandsWithOrWithout j payload c
    opens_torn d c was torn =
        let at : length was.front ≡ p = length-front j was.front was.open_front ∙ sym place in
        let now = torn_byte was.front (sized.bytes payload ++ 0 ∷ was.behind) c 0 p at (subst (λ (l : List ℕ). Torn p 1 l c) was.is torn) in
        gate_byte was.front was.behind c now.0 was.fits was.open_front now.1

    pub opens : (d c : List ℕ) → Staged j payload d → c ≡ overwritten p (1 ∷ []) d → AreaRepresents (with_payload j payload) c
    opens d c was is =
        let at : length was.front ≡ p = length-front j was.front was.open_front ∙ sym place in
        let behind = sized.bytes payload ++ 0 ∷ was.behind in
        let same : c ≡ was.front ++ 1 ∷ behind =
        is ∙ ap (overwritten p (1 ∷ [])) was.is ∙ put_inside was.front (0 ∷ behind) (1 ∷ []) p at ∙ ap (λ (l : List ℕ). was.front ++ 1 ∷ l) (drop_front was.front behind 0 p at) in
        record {
          front = was.front ++ 1 ∷ sized.bytes payload;
          behind = was.behind;
          is = same ∙ sym (append_assoc was.front (1 ∷ sized.bytes payload) (0 ∷ was.behind));
          open_front = front-append j was.front payload 1 (omega arith) was.fits was.open_front;
        }

    -- the gate is within the bytes
    pub gate_within : (area : List ℕ) → AreaRepresents j area → p + 1 ≤ length area
    gate_within area was = omega (arith, ap length was.is, length-append was.front (0 ∷ was.behind), length-front j was.front was.open_front, place)

    pub staged_within : (area : List ℕ) → Staged j payload area → p ≤ length area
    staged_within area was = omega (arith, ap length was.is, length-append was.front (0 ∷ (sized.bytes payload ++ 0 ∷ was.behind)), length-front j was.front was.open_front, place)
