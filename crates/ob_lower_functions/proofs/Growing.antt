-- Terms and temporaries that are added.
use Rattle.std.proofs.Common.{◌≡◌, ℕ, ◌+◌, ◌≤◌, Bool, true, false, List, [], ◌∷◌, ◌++◌, Ok, refl, sym, ap, ◌∙◌, subst, arith, append_assoc, append-nil}
use Rattle.ob_base.specs.Limits.{most_slots}
use Rattle.ob_base.specs.declared.fault.Span.{Span}
use Rattle.ob_silica.specs.Terms.{SilicaForm, SilicaTerms, no_terms, one_term, then_terms}
use Rattle.ob_silica.specs.Slots.{slots_of_terms, slots_of_form}
use Rattle.ob_silica.specs.declared.place.Operand.{Operand}
use Rattle.ob_lower_spec.specs.Forms.{AroundExpression, slot_operand}
use Rattle.ob_lower_spec.specs.Points.{Temporary, in_use, references, IsFree}
use Rattle.ob_lower_spec.specs.ExpressionTerms.{temporary}
use Rattle.ob_lower_spec.specs.SlotNeeds.{one_more}
use Rattle.ob_lower_functions.specs.Progress.{Slots, next_slot, kept, Progress, with_term, into_slot}
use Rattle.ob_lower_functions.proofs.Places.{Above, above_free, above_taken, above_append}
use Rattle.ob_lower_functions.proofs.Terms.{then_none, then_on, slots_then, slots_one, EachBelow, each_append, references_append}
use Rattle.ob_lower_functions.proofs.Outcomes.{Comes, comes_then, Next, comes_next}

-- from the one progress to the other these terms and temporaries, so many, are added
pub record Grown (p : Progress) (ts : SilicaTerms) (made : List Temporary) (n : ℕ) (used : List ℕ) (q : Progress) : Type 0 where
  pub terms : q.terms ≡ then_terms p.terms ts
  pub listed : q.slots.references ≡ p.slots.references ++ references made
  pub count : q.slots.top ≡ p.slots.top + n
  pub above : Above q.slots.top (in_use made used)
  pub top : q.slots.top ≤ most_slots
  pub few : slots_of_terms ts ≤ most_slots
  pub dropped : EachBelow most_slots (references made)

-- a progress with these slots in use
pub record Ready (used : List ℕ) (p : Progress) : Type 0 where
  pub above : Above p.slots.top used
  pub top : p.slots.top ≤ most_slots

pub grown_none : (used : List ℕ) (p : Progress) → Ready used p → Grown p no_terms [] 0 used p
grown_none used p r = record {
  terms = sym (then_none p.terms);
  listed = sym (append-nil p.slots.references);
  count = omega arith;
  above = r.above;
  top = r.top;
  few = omega arith;
  dropped = tt;
}

pub grown_ready : (p : Progress) (ts : SilicaTerms) (made : List Temporary) (n : ℕ) (used : List ℕ) (q : Progress)
    → Grown p ts made n used q → Ready (in_use made used) q
grown_ready p ts made n used q g = record { above = g.above; top = g.top }

-- one part after another
pub grown_on : (p q r : Progress) (ts us : SilicaTerms) (xs ys : List Temporary) (n m : ℕ) (used : List ℕ)
    → Grown p ts xs n used q → Grown q us ys m (in_use xs used) r → Grown p (then_terms ts us) (xs ++ ys) (n + m) used r
grown_on p q r ts us xs ys n m used g h = record {
  terms = h.terms ∙ ap (λ t. then_terms t us) g.terms ∙ then_on p.terms ts us;
  listed = h.listed ∙ ap (λ l. l ++ references ys) g.listed
      ∙ append_assoc p.slots.references (references xs) (references ys)
      ∙ ap (λ l. p.slots.references ++ l) (sym (references_append xs ys));
  count = h.count ∙ ap (λ k. k + m) g.count ∙ sum p.slots.top n m;
  above = above_append r.slots.top xs ys used h.above;
  top = h.top;
  few = slots_then ts us most_slots g.few h.few;
  dropped = subst (EachBelow most_slots) (sym (references_append xs ys))
      (each_append most_slots (references xs) (references ys) g.dropped h.dropped);
}
  where
    sum : (a b c : ℕ) → (a + b) + c ≡ a + (b + c)
    sum a b c = omega arith

-- where the terms go to is of no account
pub grown_same : (p : Progress) (ts us : SilicaTerms) (xs : List Temporary) (n m : ℕ) (used : List ℕ) (q : Progress)
    → ts ≡ us → n ≡ m → Grown p ts xs n used q → Grown p us xs m used q
grown_same p ts us xs n m used q e f g = subst (λ t. Grown p t xs m used q) e (subst (λ k. Grown p ts xs k used q) f g)

-- a form that sets the next slot, which represents an expression
pub record Placed (a : AroundExpression) (used : List ℕ) (is_ref : Bool) (span : Span) (form : ℕ → SilicaForm) (p : Progress)
    (x : Progress × Operand) : Type 0 where
  pub free : IsFree p.slots.top used
  pub operand : x.1 ≡ slot_operand p.slots.top span
  pub few : p.slots.top + 1 ≤ most_slots
  pub grown : Grown p (one_term (form p.slots.top) a.span) (temporary p.slots.top is_ref ∷ []) 1 used x.0

kept_top : (b : Bool) (k : ℕ) (s : Slots) → (kept b k s).top ≡ s.top
kept_top true k s = refl
kept_top false k s = refl

kept_references : (b : Bool) (k : ℕ) (s : Slots) → (kept b k s).references ≡ s.references ++ references (temporary k b ∷ [])
kept_references true k s = refl
kept_references false k s = sym (append-nil s.references)

kept_below : (b : Bool) (k : ℕ) → k + 1 ≤ most_slots → EachBelow most_slots (references (temporary k b ∷ []))
kept_below true k le = (le, tt)
kept_below false k le = tt

-- the progress and the operand once this slot was taken
abbrev placed : AroundExpression → Bool → Span → (ℕ → SilicaForm) → Progress → Slots × ℕ → Progress × Operand
placed a is_ref span form p s =
    (record { terms = with_term p.terms (form s.1) a.span; slots = kept is_ref s.1 s.0 }, slot_operand s.1 span)

-- the slots after the next one
abbrev after : Slots → Slots
after s = record { top = s.top + 1; references = s.references }

placed_holds : (a : AroundExpression) (used : List ℕ) (is_ref : Bool) (span : Span) (form : ℕ → SilicaForm) (p : Progress) → Ready used p
    → slots_of_form (form p.slots.top) ≤ most_slots → p.slots.top + 1 ≤ most_slots
    → Placed a used is_ref span form p (placed a is_ref span form p (after p.slots, p.slots.top))
placed_holds a used is_ref span form p r small le = record {
  free = above_free p.slots.top used r.above;
  operand = refl;
  few = le;
  grown = record {
    terms = refl;
    listed = kept_references is_ref p.slots.top (after p.slots);
    count = kept_top is_ref p.slots.top (after p.slots);
    above = subst (λ t. Above t (p.slots.top ∷ used)) (sym (kept_top is_ref p.slots.top (after p.slots))) (above_taken p.slots.top used r.above);
    top = subst (λ t. t ≤ most_slots) (sym (kept_top is_ref p.slots.top (after p.slots))) le;
    few = slots_one (form p.slots.top) a.span most_slots small;
    dropped = kept_below is_ref p.slots.top le;
  };
}

pub comes_into : (a : AroundExpression) (used : List ℕ) (is_ref : Bool) (span : Span) (form : ℕ → SilicaForm) (p : Progress)
    → Ready used p → (p.slots.top + 1 ≤ most_slots → slots_of_form (form p.slots.top) ≤ most_slots)
    → Comes (one_more p.slots.top span) (Placed a used is_ref span form p) (into_slot a is_ref span form p)
comes_into a used is_ref span form p r small =
    comes_then (one_more p.slots.top span) (Next p.slots) (Placed a used is_ref span form p) (next_slot span p.slots)
    (λ s. Ok (placed a is_ref span form p s)) (comes_next span p.slots)
    (λ s next. (
      refl,
      subst (λ y. Placed a used is_ref span form p (placed a is_ref span form p y)) (sym next.is)
          (placed_holds a used is_ref span form p r (small next.few) next.few),
    ))
