-- What lowering comes to: where the needs fit, something of which a fact holds; else the place of the first one past the most.
use Rattle.std.proofs.Common.{◌≡◌, ℕ, ◌+◌, ◌≤◌, Bool, true, false, List, [], ◌∷◌, ◌++◌, Option, Some, None, Result, Ok, Err, refl, ap, ◌∙◌, subst, append-nil}
use Rattle.std.specs.Prelude.{if◌then◌else◌, ⊤, nat_le}
use Rattle.std.proofs.lemmas.Bool.{leb-true}
use Rattle.ob_base.specs.Limits.{most_slots}
use Rattle.ob_base.specs.declared.fault.Span.{Span}
use Rattle.ob_lower_spec.specs.SlotNeeds.{SlotNeed, one_more, first_past}
use Rattle.ob_lower_functions.specs.Progress.{Stop, full, not_well_formed, ◌>>=◌, found, Slots, next_slot}

-- the first of these, or that of the others
abbrev or_then : Option Span → Option Span → Option Span
or_then None other = other
or_then (Some at) other = Some at

past_step : (need : SlotNeed) (rest b : List SlotNeed) (c : Bool) → first_past (rest ++ b) ≡ or_then (first_past rest) (first_past b)
    → (if c then first_past (rest ++ b) else Some need.span) ≡ or_then (if c then first_past rest else Some need.span) (first_past b)
past_step need rest b true e = e
past_step need rest b false e = refl

past_append : (a b : List SlotNeed) → first_past (a ++ b) ≡ or_then (first_past a) (first_past b)
past_append [] b = refl
past_append (need ∷ rest) b = past_step need rest b (nat_le need.slots most_slots) (past_append rest b)

-- by these needs, lowering comes to what it answers
abbrev pub Comes : {A : Type 0} → List SlotNeed → (A → Type 0) → Result A Stop → Type 0
Comes ns Q (Ok x) = (first_past ns ≡ None) × Q x
Comes ns Q (Err (full at)) = first_past ns ≡ Some at
Comes ns Q (Err not_well_formed) = ⊤

module _ {A B : Type 0} where
  pub comes_bind : (ns ms : List SlotNeed) (Q : A → Type 0) (R : B → Type 0) (r : Result A Stop) (f : A → Result B Stop)
      → Comes ns Q r → ((x : A) → Q x → Comes ms R (f x)) → Comes (ns ++ ms) R (r >>= f)
  comes_bind ns ms Q R (Ok x) f c next = go (f x) (next x c.1)
    where
      first : first_past (ns ++ ms) ≡ first_past ms
      first = past_append ns ms ∙ ap (λ o. or_then o (first_past ms)) c.0

      go : (r : Result B Stop) → Comes ms R r → Comes (ns ++ ms) R r
      go (Ok y) d = (first ∙ d.0, d.1)
      go (Err (full at)) d = first ∙ d
      go (Err not_well_formed) d = tt
  comes_bind ns ms Q R (Err (full at)) f c next = past_append ns ms ∙ ap (λ o. or_then o (first_past ms)) c
  comes_bind ns ms Q R (Err not_well_formed) f c next = tt

  -- what follows needs no slot
  pub comes_then : (ns : List SlotNeed) (Q : A → Type 0) (R : B → Type 0) (r : Result A Stop) (f : A → Result B Stop)
      → Comes ns Q r → ((x : A) → Q x → Comes [] R (f x)) → Comes ns R (r >>= f)
  comes_then ns Q R r f c next = subst (λ l. Comes l R (r >>= f)) (append-nil ns) (comes_bind ns [] Q R r f c next)

module _ {A : Type 0} where
  -- what must be there
  pub comes_found : (Q : A → Type 0) (o : Option A) → ((x : A) → o ≡ Some x → Q x) → Comes [] Q (found o)
  comes_found Q None f = tt
  comes_found Q (Some x) f = (refl, f x refl)

  pub comes_same : (ns ms : List SlotNeed) (Q : A → Type 0) (r : Result A Stop) → ns ≡ ms → Comes ns Q r → Comes ms Q r
  comes_same ns ms Q r e c = subst (λ l. Comes l Q r) e c

-- the next slot is the one that was needed
pub record Next (s : Slots) (x : Slots × ℕ) : Type 0 where
  pub is : x ≡ (record { top = s.top + 1; references = s.references }, s.top)
  pub few : s.top + 1 ≤ most_slots

abbrev taken : Span → Slots → Bool → Result (Slots × ℕ) Stop
taken place s b = if b then Ok (record { top = s.top + 1; references = s.references }, s.top) else Err (full place)

next_by : (place : Span) (s : Slots) (b : Bool) → nat_le (s.top + 1) most_slots ≡ b → Comes (one_more s.top place) (Next s) (taken place s b)
next_by place s true e = (ap (λ b. if b then None else Some place) e, record { is = refl; few = leb-true (s.top + 1) most_slots e })
next_by place s false e = ap (λ b. if b then None else Some place) e

pub comes_next : (place : Span) (s : Slots) → Comes (one_more s.top place) (Next s) (next_slot place s)
comes_next place s = next_by place s (nat_le (s.top + 1) most_slots) refl

pub comes_also : {A : Type 0} (ns : List SlotNeed) (Q R : A → Type 0) (r : Result A Stop) → Comes ns Q r → ((x : A) → Q x → R x) → Comes ns R r
comes_also ns Q R (Ok x) c f = (c.0, f x c.1)
comes_also ns Q R (Err (full at)) c f = c
comes_also ns Q R (Err not_well_formed) c f = tt
