-- What an expression comes to: its terms, as the lowering relation allows them, and the operand of its value.
use Rattle.std.proofs.Common.{◌≡◌, ℕ, ◌+◌, ◌≤◌, max, Bool, true, false, List, [], ◌∷◌, ◌++◌, Option, Some, None, Result, refl, sym, ap, subst, arith}
use Rattle.std.specs.Prelude.{if◌then◌else◌}
use Rattle.std.specs.Option.{option_map_or}
use Rattle.ob_base.specs.Limits.{most_slots}
use Rattle.ob_base.specs.declared.fault.Span.{Span}
use Rattle.ob_table.specs.Expressions.{Expression, resolved_seen, Arguments}
use Rattle.ob_table.specs.declared.seen.Kind.{Kind}
use Rattle.ob_table.specs.declared.seen.SeenAt.{SeenAt}
use Rattle.ob_table_spec.specs.WellFormed.{kind_of_seen, is_reference}
use Rattle.ob_silica.specs.Terms.{SilicaForm, copy_form, SilicaTerms, no_terms, one_term, then_terms}
use Rattle.ob_silica.specs.Slots.{slots_of_form, slots_of_operand, slots_of_operands, slots_of_place}
use Rattle.ob_silica.specs.declared.place.Operand.{Operand}
use Rattle.ob_silica.specs.declared.place.Place.{Place}
use Rattle.ob_silica.specs.declared.place.Place.TheVariants.{Slot}
use Rattle.ob_lower_spec.specs.Forms.{AroundExpression, locals_of, place_seen, operand}
use Rattle.ob_lower_spec.specs.Points.{IsFree, Temporary, in_use}
use Rattle.ob_lower_spec.specs.ExpressionTerms.{Lowered, LoweredArguments, LoweredCall, kind_around, temporary, into, LowersName, LowersExpression, LowersArguments, LowersPlainCall}
use Rattle.ob_lower_spec.specs.SlotNeeds.{SlotNeed, one_more, temporaries, temporaries_of_all, names_reference, needs}
use Rattle.ob_lower_functions.specs.Progress.{Stop, ◌>>=◌, found, Progress, into_slot}
use Rattle.ob_lower_functions.specs.ExpressionCode.{valued, value, name_code, seen_code}
use Rattle.ob_lower_functions.proofs.Places.{AllBelow, place_below}
use Rattle.ob_lower_functions.proofs.Outcomes.{Comes, comes_bind, comes_then, comes_found, comes_same, comes_also}
use Rattle.ob_lower_functions.proofs.Growing.{Grown, Ready, grown_none, grown_ready, grown_on, Placed, comes_into}

-- there is a slot
pub one_slot : 1 ≤ most_slots
unfolding most_slots
one_slot = omega arith

module _ (a : AroundExpression) where
  -- an expression and the operand of its value
  pub record Valued (used : List ℕ) (e : Expression) (p : Progress) (x : Progress × Operand) : Type 0 where
    pub l : Lowered
    pub lowers : LowersExpression a used e l
    pub is : x.1 ≡ l.operand
    pub small : slots_of_operand x.1 ≤ most_slots
    pub grown : Grown p l.terms l.made (temporaries a.frame (locals_of a.variables) e) used x.0

  -- a call without a value
  pub record Plain (used : List ℕ) (e : Expression) (p q : Progress) : Type 0 where
    pub l : LoweredCall
    pub kind : kind_around a e ≡ None
    pub lowers : LowersPlainCall a used e l
    pub grown : Grown p l.terms l.made (temporaries a.frame (locals_of a.variables) e) used q

  -- an expression that has a value, or has none
  abbrev pub Reached : List ℕ → Expression → Progress → Progress × Option Operand → Type 0
  Reached used e p (q, Some o) = Valued used e p (q, o) × ((kind : Kind) × (kind_around a e ≡ Some kind))
  Reached used e p (q, None) = Plain used e p q

  -- arguments after these operands
  pub record Passed (used : List ℕ) (es : Arguments) (before : List Operand) (p : Progress) (x : Progress × List Operand) : Type 0 where
    pub l : LoweredArguments
    pub lowers : LowersArguments a used es l
    pub is : x.1 ≡ before ++ l.operands
    pub small : slots_of_operands l.operands ≤ most_slots
    pub grown : Grown p l.terms l.made (temporaries_of_all a.frame (locals_of a.variables) es) used x.0

  value_of : (used : List ℕ) (e : Expression) (p : Progress) (x : Progress × Option Operand) → Reached used e p x → Comes [] (Valued used e p) (valued x)
  value_of used e p (q, Some o) r = (refl, r.0)
  value_of used e p (q, None) r = tt

  pub comes_valued : (ns : List SlotNeed) (used : List ℕ) (e : Expression) (p : Progress) (r : Result (Progress × Option Operand) Stop)
      → Comes ns (Reached used e p) r → Comes ns (Valued used e p) (r >>= valued)
  comes_valued ns used e p r c = comes_then ns (Reached used e p) (Valued used e p) r valued c (value_of used e p)

  pub comes_reached : (ns : List SlotNeed) (used : List ℕ) (e : Expression) (p : Progress) (kind : Kind) (r : Result (Progress × Operand) Stop)
      → kind_around a e ≡ Some kind → Comes ns (Valued used e p) r → Comes ns (Reached used e p) (r >>= value)
  comes_reached ns used e p kind r ek c =
      comes_then ns (Valued used e p) (Reached used e p) r value c (λ x v. (refl, (v, (kind, ek))))

  -- terms, and then a form that sets the next slot
  pub comes_slot : (used : List ℕ) (e : Expression) (p q : Progress) (ts : SilicaTerms) (made : List Temporary) (n top : ℕ) (b : Bool) (span : Span) (form : ℕ → SilicaForm)
      → Grown p ts made n used q → q.slots.top ≡ top
      → (q.slots.top + 1 ≤ most_slots → slots_of_form (form q.slots.top) ≤ most_slots)
      → ((k : ℕ) → IsFree k (in_use made used) → LowersExpression a used e (into a ts made (form k) k b span))
      → n + 1 ≡ temporaries a.frame (locals_of a.variables) e
      → Comes (one_more top span) (Valued used e p) (into_slot a b span form q)
  comes_slot used e p q ts made n top b span form g et small low count =
      comes_same (one_more q.slots.top span) (one_more top span) (Valued used e p) (into_slot a b span form q) (ap (λ t. one_more t span) et)
      (comes_also (one_more q.slots.top span) (Placed a (in_use made used) b span form q) (Valued used e p) (into_slot a b span form q)
      (comes_into a (in_use made used) b span form q (grown_ready p ts made n used q g) small)
      (λ x d. record {
        l = into a ts made (form q.slots.top) q.slots.top b span;
        lowers = low q.slots.top d.free;
        is = d.operand;
        small = subst (λ o. slots_of_operand o ≤ most_slots) (sym d.operand) d.few;
        grown = subst (λ m. Grown p (then_terms ts (one_term (form q.slots.top) a.span)) (made ++ temporary q.slots.top b ∷ []) m used x.0) count
            (grown_on p q x.0 ts (one_term (form q.slots.top) a.span) made (temporary q.slots.top b ∷ []) n 1 used g d.grown);
      }))

  -- a form that sets the next slot alone
  pub comes_leaf : (used : List ℕ) (e : Expression) (p : Progress) (span : Span) (form : ℕ → SilicaForm) → Ready used p
      → (p.slots.top + 1 ≤ most_slots → slots_of_form (form p.slots.top) ≤ most_slots)
      → ((k : ℕ) → IsFree k used → LowersExpression a used e (into a no_terms [] (form k) k false span))
      → 1 ≡ temporaries a.frame (locals_of a.variables) e
      → Comes (one_more p.slots.top span) (Valued used e p) (into_slot a false span form p)
  comes_leaf used e p span form r small low count =
      comes_slot used e p p no_terms [] 0 p.slots.top false span form (grown_none used p r) refl small low count

  -- Names.

  name_comes : (used : List ℕ) (p : Progress) (seen : SeenAt) (span : Span) (kind : Kind) (place : Place) (b : Bool)
      → Ready used p → AllBelow most_slots a.variables → kind_of_seen a.frame (locals_of a.variables) seen.of ≡ Some kind
      → place_seen a.variables seen.of ≡ Some place → is_reference kind ≡ b → names_reference a.frame (locals_of a.variables) seen.of ≡ b
      → Comes (if b then [] else one_more p.slots.top span) (Valued used (resolved_seen seen span) p) (name_code a b (operand place span) p)
  name_comes used p seen span kind place true r all ek ep eb en = (
    refl,
    record {
      l = record { terms = no_terms; operand = operand place span; made = [] };
      lowers = (kind, ek, place, ep, subst (λ c. LowersName a used c (operand place span) (record { terms = no_terms; operand = operand place span; made = [] })) (sym eb) refl);
      is = refl;
      small = place_below most_slots a.variables seen.of place one_slot all ep;
      grown = subst (λ n. Grown p no_terms [] n used p) (ap (λ c. if c then 0 else 1) (sym en)) (grown_none used p r);
    },
  )
  name_comes used p seen span kind place false r all ek ep eb en =
      comes_leaf used (resolved_seen seen span) p span (λ k. copy_form (Slot k) (operand place span)) r
      (λ le. both p.slots.top (slots_of_place place) most_slots le (place_below most_slots a.variables seen.of place one_slot all ep))
      (λ k free. (kind, ek, place, ep, subst (λ c. LowersName a used c (operand place span) (into a no_terms [] (copy_form (Slot k) (operand place span)) k false span)) (sym eb) (k, free, refl)))
      (ap (λ c. if c then 0 else 1) (sym en))
    where
      both : (k n m : ℕ) → k + 1 ≤ m → n ≤ m → max (k + 1) n ≤ m
      both k n m x y = omega (arith, x, y)

  -- a name with its kind
  abbrev Named : List ℕ → SeenAt → Span → Progress → Progress × Operand → Type 0
  Named used seen span p x =
      Valued used (resolved_seen seen span) p x × ((kind : Kind) × (kind_of_seen a.frame (locals_of a.variables) seen.of ≡ Some kind))

  named_comes : (used : List ℕ) (p : Progress) (seen : SeenAt) (span : Span) (kind : Kind) (place : Place)
      → Ready used p → AllBelow most_slots a.variables → kind_of_seen a.frame (locals_of a.variables) seen.of ≡ Some kind
      → place_seen a.variables seen.of ≡ Some place
      → Comes (needs a.frame (locals_of a.variables) p.slots.top (resolved_seen seen span)) (Named used seen span p)
      (name_code a (is_reference kind) (operand place span) p)
  named_comes used p seen span kind place r all ek ep =
      let en = ap (λ o. option_map_or is_reference o false) ek in
      comes_same (if is_reference kind then [] else one_more p.slots.top span)
      (needs a.frame (locals_of a.variables) p.slots.top (resolved_seen seen span)) (Named used seen span p)
      (name_code a (is_reference kind) (operand place span) p) (ap (λ c. if c then [] else one_more p.slots.top span) (sym en))
      (comes_also (if is_reference kind then [] else one_more p.slots.top span) (Valued used (resolved_seen seen span) p) (Named used seen span p)
      (name_code a (is_reference kind) (operand place span) p)
      (name_comes used p seen span kind place (is_reference kind) r all ek ep refl en) (λ x v. (v, (kind, ek))))

  pub seen_comes : (used : List ℕ) (p : Progress) (seen : SeenAt) (span : Span) → Ready used p → AllBelow most_slots a.variables
      → Comes (needs a.frame (locals_of a.variables) p.slots.top (resolved_seen seen span)) (Reached used (resolved_seen seen span) p)
      (seen_code a seen.of span p >>= value)
  seen_comes used p seen span r all =
      comes_then (needs a.frame (locals_of a.variables) p.slots.top (resolved_seen seen span)) (Named used seen span p) (Reached used (resolved_seen seen span) p)
      (seen_code a seen.of span p) value
      (comes_bind [] (needs a.frame (locals_of a.variables) p.slots.top (resolved_seen seen span))
      (λ kind. kind_of_seen a.frame (locals_of a.variables) seen.of ≡ Some kind) (Named used seen span p)
      (found (kind_of_seen a.frame (locals_of a.variables) seen.of))
      (λ kind. found (place_seen a.variables seen.of) >>= (λ place. name_code a (is_reference kind) (operand place span) p))
      (comes_found (λ kind. kind_of_seen a.frame (locals_of a.variables) seen.of ≡ Some kind) (kind_of_seen a.frame (locals_of a.variables) seen.of) (λ kind e. e))
      (λ kind ek. comes_bind [] (needs a.frame (locals_of a.variables) p.slots.top (resolved_seen seen span))
      (λ place. place_seen a.variables seen.of ≡ Some place) (Named used seen span p) (found (place_seen a.variables seen.of))
      (λ place. name_code a (is_reference kind) (operand place span) p)
      (comes_found (λ place. place_seen a.variables seen.of ≡ Some place) (place_seen a.variables seen.of) (λ place e. e))
      (λ place ep. named_comes used p seen span kind place r all ek ep)))
      (λ x v. (refl, v))
