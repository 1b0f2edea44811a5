-- What stands in the slots of a body where an expression begins, and where its value stands after it.
use Rattle.std.proofs.Common.{◌≡◌, ℕ, ◌<◌, ◌≤◌, Bool, true, false, ◌||◌, nat_lt, ltb-true, ltb-false, List, [], ◌∷◌, ◌++◌, Option, Some, None, option_map, IfSome, IsSomeAnd, IsSome, refl, sym, ap, ◌∙◌, subst, ◌⊎◌, inl, inr, true≢false, is_some}
use Rattle.std.specs.Prelude.{⊤, IsTrue}
use Rattle.ob_base.specs.declared.fault.Span.{Span}
use Rattle.ob_table.specs.Tables.{field_at}
use Rattle.ob_table.specs.declared.contract.Field.{Field as TableField}
use Rattle.ob_table.specs.declared.contract.Param.{Param}
use Rattle.ob_table.specs.declared.seen.Kind.{Kind}
use Rattle.ob_table_spec.specs.WellFormed.{StaticFrame, local_kind, kind_of_resolved, is_reference, serves_as, IsLocalKind}
use Rattle.ob_silica.specs.Terms.{SilicaForm, copy_form, SilicaTerms, one_term, then_terms}
use Rattle.ob_silica.specs.declared.place.Given.{Given}
use Rattle.ob_silica.specs.declared.place.Operand.{Operand}
use Rattle.ob_silica.specs.declared.place.Place.{Place}
use Rattle.ob_silica.specs.declared.place.Place.TheVariants.{This, Slot, Field}
use Rattle.ob_silica_formed.specs.Holdings.{SlotContent, held, Holdings, kind_of_place, slot_written, kind_written, after_terms}
use Rattle.ob_silica_formed.specs.Points.{IsPlace, ArePlaces, AreFields, HasKind, ArePassed, AreServed}
use Rattle.ob_lower_spec.specs.Forms.{SlotVariable, locals_of, slot_of}
use Rattle.ob_lower_spec.specs.Points.{Temporary, in_use, references}
use Rattle.ob_lower_spec.specs.ExpressionTerms.{Lowered, temporary, into}
use Rattle.ob_lower_formed.proofs.Sets.{among, by_bool, nat_same, among_left, among_right, apart_parts, apart_both, slots_made, made_append, references_append, Within, within_on, within_left, within_right, apart_within, references_within}
use Rattle.ob_lower_formed.proofs.Ways.{after_then}
use Rattle.ob_lower_formed.proofs.Effects.{Kept, Quiet, After, differs, set_at, if_refers, Leaves, then_leaves, Plain, set_leaves, set_after}

-- Values that there are.

pub some_so : {A : Type 0} (o : Option A) (P : A → Type 0) → IsSomeAnd o P → (x : A) × (o ≡ Some x) × P x
some_so None P h = absurd h
some_so (Some x) P h = (x, refl, h)

pub and_so : {A : Type 0} (o : Option A) (P : A → Type 0) (x : A) → o ≡ Some x → P x → IsSomeAnd o P
and_so o P x e p = subst (λ q. IsSomeAnd q P) (sym e) p

pub if_so : {A : Type 0} (o : Option A) (P : A → Type 0) (x : A) → o ≡ Some x → P x → IfSome o P
if_so o P x e p = subst (λ q. IfSome q P) (sym e) p

pub none_some : {A : Type 0} {x : A} → None ≡ Some x → ⊥
none_some e = true≢false (sym (ap is_some e))

value_or : {A : Type 0} → A → Option A → A
value_or d None = d
value_or d (Some x) = x

pub some_same : {A : Type 0} {x y : A} → Some x ≡ Some y → x ≡ y
unfolding value_or
some_same {A} {x} e = ap (value_or x) e

-- What stands.

-- a variable: its slot holds a value of its kind
pub record Visible (f : StaticFrame) (vs : List SlotVariable) (used : List ℕ) (h : Holdings) (n k : ℕ) : Type 0 where
  pub kind : Kind
  pub is : local_kind (locals_of vs) n ≡ Some kind
  pub inside : among k used ≡ true
  pub holds : h k ≡ held (Some kind)
  pub own : f.params < n → f.params < k
  pub real : f.params < n → IsLocalKind f.table kind

-- variables stand in their slots, `this` and the parameters have slots in use, and no free slot refers
pub record Stands (f : StaticFrame) (vs : List SlotVariable) (used : List ℕ) (h : Holdings) : Type 0 where
  pub sees : (n k : ℕ) → slot_of vs n ≡ Some k → Visible f vs used h n k
  pub fixed : (j : ℕ) → j ≤ f.params → among j used ≡ true
  pub quiet : Quiet used [] h

-- where the first slots are in use, a free one is above them
pub above : (n : ℕ) (used : List ℕ) → ((j : ℕ) → j ≤ n → among j used ≡ true) → (k : ℕ) → among k used ≡ false → n < k
above n used fixed k e = go (by_bool (nat_lt n k))
  where
    go : (nat_lt n k ≡ true) ⊎ (nat_lt n k ≡ false) → n < k
    go (inl t) = ltb-true n k t
    go (inr d) = absurd (true≢false (sym (fixed k (ltb-false n k d)) ∙ e))

pub own_slot : {f : StaticFrame} {vs : List SlotVariable} {used : List ℕ} {h : Holdings} → Stands f vs used h → (k : ℕ) → among k used ≡ false → f.params < k
own_slot {f} {vs} {used} s k e = above f.params used s.fixed k e

pub stands_on : {f : StaticFrame} {vs : List SlotVariable} {used mid left : List ℕ} {h g : Holdings} → Stands f vs used h → After used left h g
    → Within used mid → Within left mid → Stands f vs mid g
stands_on s a w v = record {
  sees = λ n k e. let x = s.sees n k e in record { kind = x.kind; is = x.is; inside = w.by k x.inside; holds = a.kept.by k x.inside ∙ x.holds; own = x.own; real = x.real };
  fixed = λ j e. w.by j (s.fixed j e);
  quiet = record { by = λ j u l. a.quiet.by j (apart_within j w u) (apart_within j v u) };
}

-- a place in use
abbrev pub InUse : List ℕ → Place → Type 0
InUse used This = ⊤
InUse used (Slot k) = among k used ≡ true
InUse used (Field id) = ⊤

-- a place in use holds a value of this kind
pub record Holds (f : StaticFrame) (used : List ℕ) (h : Holdings) (place : Place) (kind : Kind) : Type 0 where
  pub is : kind_of_place f h place ≡ Some kind
  pub inside : InUse used place

pub holds_on : {f : StaticFrame} {used all : List ℕ} {h g : Holdings} (place : Place) (kind : Kind) → Holds f used h place kind → Kept used h g
    → Within used all → Holds f all g place kind
holds_on This kind x k w = record { is = x.is; inside = tt }
holds_on (Slot j) kind x k w = record { is = ap (λ (o : SlotContent). o.kind) (k.by j x.inside) ∙ x.is; inside = w.by j x.inside }
holds_on (Field id) kind x k w = record { is = x.is; inside = tt }

field_there : (f : StaticFrame) (o : Option TableField) (kind : Kind) → option_map (λ field. kind_of_resolved field.of) o ≡ Some kind → IsSome o
field_there f None kind e = absurd (none_some e)
field_there f (Some x) kind e = refl

-- a place that holds something is one
pub place_there : (f : StaticFrame) (h : Holdings) (place : Place) (kind : Kind) → kind_of_place f h place ≡ Some kind → IsPlace f place
place_there f h This kind e = tt
place_there f h (Slot k) kind e = tt
place_there f h (Field id) kind e = field_there f (field_at f.own id) kind e

-- a value that serves
pub record Serving (f : StaticFrame) (used : List ℕ) (h : Holdings) (wanted : Kind) (place : Place) : Type 0 where
  pub kind : Kind
  pub holds : Holds f used h place kind
  pub serves : serves_as f.table wanted kind ≡ true

pub serving_on : {f : StaticFrame} {used all : List ℕ} {h g : Holdings} {wanted : Kind} (place : Place) → Serving f used h wanted place → Kept used h g
    → Within used all → Serving f all g wanted place
serving_on place x k w = record { kind = x.kind; holds = holds_on place x.kind x.holds k w; serves = x.serves }

pub has_kind : {f : StaticFrame} {used : List ℕ} {h : Holdings} {wanted : Kind} (o : Operand) → Serving f used h wanted o.place → HasKind f h wanted o
has_kind {f} {used} {h} {wanted} o x = and_so (kind_of_place f h o.place) (λ kind. IsTrue (serves_as f.table wanted kind)) x.kind x.holds.is x.serves

-- arguments serve at parameters
abbrev pub Passed : StaticFrame → List ℕ → Holdings → List Param → List Operand → Type 0
Passed f used h [] [] = ⊤
Passed f used h (p ∷ ps) (o ∷ os) = Serving f used h (kind_of_resolved p.of) o.place × Passed f used h ps os
Passed f used h ps os = ⊥

passed_on : (f : StaticFrame) (used all : List ℕ) (h g : Holdings) (ps : List Param) (os : List Operand) → Passed f used h ps os → Kept used h g
    → Within used all → Passed f all g ps os
passed_on f used all h g [] [] x k w = tt
passed_on f used all h g [] (o ∷ os) x k w = absurd x
passed_on f used all h g (p ∷ ps) [] x k w = absurd x
passed_on f used all h g (p ∷ ps) (o ∷ os) x k w = (serving_on o.place x.0 k w, passed_on f used all h g ps os x.1 k w)

are_passed : (f : StaticFrame) (used : List ℕ) (h : Holdings) (ps : List Param) (os : List Operand) → Passed f used h ps os → ArePassed f h ps os
are_passed f used h [] [] x = tt
are_passed f used h [] (o ∷ os) x = absurd x
are_passed f used h (p ∷ ps) [] x = absurd x
are_passed f used h (p ∷ ps) (o ∷ os) x = (has_kind o x.0, are_passed f used h ps os x.1)

are_places : (f : StaticFrame) (used : List ℕ) (h : Holdings) (ps : List Param) (os : List Operand) → Passed f used h ps os → ArePlaces f os
are_places f used h [] [] x = tt
are_places f used h [] (o ∷ os) x = absurd x
are_places f used h (p ∷ ps) [] x = absurd x
are_places f used h (p ∷ ps) (o ∷ os) x = (place_there f h o.place x.0.kind x.0.holds.is, are_places f used h ps os x.1)

-- the same as a record
pub record Arguments (f : StaticFrame) (used : List ℕ) (h : Holdings) (ps : List Param) (os : List Operand) : Type 0 where
  pub by : Passed f used h ps os

pub arguments_on : {f : StaticFrame} {used all : List ℕ} {h g : Holdings} {ps : List Param} {os : List Operand} → Arguments f used h ps os → Kept used h g
    → Within used all → Arguments f all g ps os
arguments_on {f} {used} {all} {h} {g} {ps} {os} x k w = record { by = passed_on f used all h g ps os x.by k w }

pub arguments_pass : {f : StaticFrame} {used : List ℕ} {h : Holdings} {ps : List Param} {os : List Operand} → Arguments f used h ps os → ArePassed f h ps os
arguments_pass {f} {used} {h} {ps} {os} x = are_passed f used h ps os x.by

pub arguments_there : {f : StaticFrame} {used : List ℕ} {h : Holdings} {ps : List Param} {os : List Operand} → Arguments f used h ps os → ArePlaces f os
arguments_there {f} {used} {h} {ps} {os} x = are_places f used h ps os x.by

-- fields are given values that serve
pub record GivenOne (f : StaticFrame) (used : List ℕ) (h : Holdings) (g : Given) : Type 0 where
  pub field : TableField
  pub there : field_at f.own g.field ≡ Some field
  pub served : Serving f used h (kind_of_resolved field.of) g.from.place

abbrev pub AllGiven : StaticFrame → List ℕ → Holdings → List Given → Type 0
AllGiven f used h [] = ⊤
AllGiven f used h (g ∷ gs) = GivenOne f used h g × AllGiven f used h gs

given_on : (f : StaticFrame) (used all : List ℕ) (h g : Holdings) (gs : List Given) → AllGiven f used h gs → Kept used h g → Within used all → AllGiven f all g gs
given_on f used all h g [] x k w = tt
given_on f used all h g (y ∷ gs) x k w = (record { field = x.0.field; there = x.0.there; served = serving_on y.from.place x.0.served k w }, given_on f used all h g gs x.1 k w)

given_append : (f : StaticFrame) (used : List ℕ) (h : Holdings) (a b : List Given) → AllGiven f used h a → AllGiven f used h b → AllGiven f used h (a ++ b)
given_append f used h [] b x y = y
given_append f used h (g ∷ a) b x y = (x.0, given_append f used h a b x.1 y)

are_served : (f : StaticFrame) (used : List ℕ) (h : Holdings) (gs : List Given) → AllGiven f used h gs → AreServed f h gs
are_served f used h [] x = tt
are_served f used h (g ∷ gs) x = (if_so (field_at f.own g.field) (λ field. HasKind f h (kind_of_resolved field.of) g.from) x.0.field x.0.there (has_kind g.from x.0.served), are_served f used h gs x.1)

are_fields : (f : StaticFrame) (used : List ℕ) (h : Holdings) (gs : List Given) → AllGiven f used h gs → AreFields f gs
are_fields f used h [] x = tt
are_fields f used h (g ∷ gs) x = (ap is_some x.0.there, place_there f h g.from.place x.0.served.kind x.0.served.holds.is, are_fields f used h gs x.1)

-- the same as a record
pub record Fields (f : StaticFrame) (used : List ℕ) (h : Holdings) (gs : List Given) : Type 0 where
  pub by : AllGiven f used h gs

pub fields_on : {f : StaticFrame} {used all : List ℕ} {h g : Holdings} {gs : List Given} → Fields f used h gs → Kept used h g → Within used all → Fields f all g gs
fields_on {f} {used} {all} {h} {g} {gs} x k w = record { by = given_on f used all h g gs x.by k w }

pub fields_append : {f : StaticFrame} {used : List ℕ} {h : Holdings} {a b : List Given} → Fields f used h a → Fields f used h b → Fields f used h (a ++ b)
fields_append {f} {used} {h} {a} {b} x y = record { by = given_append f used h a b x.by y.by }

pub fields_served : {f : StaticFrame} {used : List ℕ} {h : Holdings} {gs : List Given} → Fields f used h gs → AreServed f h gs
fields_served {f} {used} {h} {gs} x = are_served f used h gs x.by

pub fields_there : {f : StaticFrame} {used : List ℕ} {h : Holdings} {gs : List Given} → Fields f used h gs → AreFields f gs
fields_there {f} {used} {h} {gs} x = are_fields f used h gs x.by

-- Temporaries.

-- temporaries that had been free
pub record Fresh (made : List Temporary) (used : List ℕ) : Type 0 where
  pub by : (j : ℕ) → among j used ≡ true → among j (slots_made made) ≡ false

pub fresh_none : (used : List ℕ) → Fresh [] used
fresh_none used = record { by = λ j e. refl }

pub fresh_append : (x y : List Temporary) (used : List ℕ) → Fresh x used → Fresh y (in_use x used) → Fresh (x ++ y) used
fresh_append x y used a b = record {
  by = λ j e. subst (λ l. among j l ≡ false) (sym (made_append x y))
      (apart_both j (slots_made x) (slots_made y) (a.by j e) (b.by j (among_right j (slots_made x) used e)));
}

fresh_one : (k : ℕ) (b : Bool) (used : List ℕ) → among k used ≡ false → Fresh (temporary k b ∷ []) used
fresh_one k b used free = record { by = λ j e. ap (λ c. c || false) (differs j k used e free) }

pub fresh_apart : {made : List Temporary} {used : List ℕ} → Fresh made used → (j : ℕ) → among j used ≡ true → among j (references made) ≡ false
fresh_apart {made} f j e = apart_within j (references_within made) (f.by j e)

-- a value that is no reference stands in a temporary that is none
pub record Value (l : Lowered) (used : List ℕ) : Type 0 where
  pub slot : ℕ
  pub place : l.operand.place ≡ Slot slot
  pub apart : among slot used ≡ false
  pub inside : among slot (slots_made l.made) ≡ true
  pub free : among slot (references l.made) ≡ false

-- what an expression leaves
pub record Gave (f : StaticFrame) (h : Holdings) (used : List ℕ) (l : Lowered) (kind : Kind) : Type 0 where
  pub leaves : Leaves f h l.terms used (references l.made)
  pub fresh : Fresh l.made used
  pub holds : Holds f (in_use l.made used) (after_terms f l.terms h) l.operand.place kind
  pub value : is_reference kind ≡ false → Value l used

pub references_in_use : (made : List Temporary) (used : List ℕ) → Within (references made) (in_use made used)
references_in_use made used = within_on (references_within made) (within_left (slots_made made) used)

pub stands_made : {f : StaticFrame} {vs : List SlotVariable} {used : List ℕ} {h : Holdings} {ts : SilicaTerms} (made : List Temporary)
    → Stands f vs used h → Leaves f h ts used (references made) → Stands f vs (in_use made used) (after_terms f ts h)
stands_made {f} {vs} {used} made s l = stands_on s l.after (within_right (slots_made made) used) (references_in_use made used)

-- a form that sets a temporary
pub into_gave : {f : StaticFrame} {vs : List SlotVariable} {h : Holdings} {used : List ℕ} (at : Span) (terms : SilicaTerms) (made : List Temporary) (form : SilicaForm) (k : ℕ) (b : Bool) (span : Span) (kind : Kind)
    → Stands f vs used h → Leaves f h terms used (references made) → Fresh made used → among k (in_use made used) ≡ false
    → Plain f (after_terms f terms h) form → slot_written form ≡ Some k → kind_written f (after_terms f terms h) form ≡ Some kind → is_reference kind ≡ b
    → Gave f h used (into (record { frame = f; variables = vs; span = at }) terms made form k b span) kind
into_gave {f} {vs} {h} {used} at terms made form k b span kind s l fresh free p slot is er = record {
  leaves = subst (λ left. Leaves f h (then_terms terms (one_term form at)) used left) (sym (references_append made (temporary k b ∷ [])))
      (then_leaves f l (within_right (slots_made made) used) (set_leaves f at (in_use made used) [] k (Some kind) b p slot is er free (stands_made made s l).quiet));
  fresh = fresh_append made (temporary k b ∷ []) used fresh (fresh_one k b (in_use made used) free);
  holds = record {
    is = ap (λ (g : Holdings). (g k).kind) (after_then f terms (one_term form at) h)
        ∙ ap (λ (g : Holdings). (g k).kind) (set_after f at k (Some kind) p slot is)
        ∙ ap (λ (x : SlotContent). x.kind) (set_at k (held (Some kind)) (after_terms f terms h));
    inside = among_left k (slots_made (made ++ temporary k b ∷ [])) used inside;
  };
  value = λ plain. record {
    slot = k;
    place = refl;
    apart = (apart_parts k (slots_made made) used free).1;
    inside = inside;
    free = subst (λ left. among k left ≡ false) (sym (references_append made (temporary k b ∷ [])))
        (subst (λ c. among k (references made ++ if_refers k c) ≡ false) (sym plain ∙ er)
        (apart_both k (references made) [] (apart_within k (references_within made) (apart_parts k (slots_made made) used free).0) refl));
  };
}
  where
    inside : among k (slots_made (made ++ temporary k b ∷ [])) ≡ true
    inside = subst (λ l. among k l ≡ true) (sym (made_append made (temporary k b ∷ [])))
        (among_right k (slots_made made) (k ∷ []) (ap (λ c. c || false) (nat_same k)))

-- a copy to a slot
pub copy_plain : {f : StaticFrame} {h : Holdings} (k : ℕ) (o : Operand) (kind : Kind) → kind_of_place f h o.place ≡ Some kind → is_reference kind ≡ false
    → f.params < k → (h k).refers ≡ false → Plain f h (copy_form (Slot k) o)
copy_plain {f} {h} k o kind is plain own quiet = record {
  well_formed = record {
    numbers = (tt, place_there f h o.place kind is);
    kinds = (and_so (kind_of_place f h o.place) (λ c. is_reference c ≡ false) kind is plain, tt);
    results = tt;
    params = own;
    references = quiet;
    bodies = tt;
    returns = tt;
    turns = tt;
  };
  within = tt;
  follows = tt;
  after = refl;
  goes_on = refl;
}
