-- Lowering goes on where everything that is named is there.
use Rattle.std.proofs.Common.{◌≡◌, ℕ, ◌+◌, Bool, true, false, List, [], ◌∷◌, ◌++◌, Option, Some, None, IsSome, IsSomeAnd, nat_eq, Result, Ok, Err, refl, sym, ap, ◌∙◌, subst, true≢false}
use Rattle.std.specs.Prelude.{⊤, nat_le, option_map, if◌then◌else◌}
use Rattle.std.proofs.lemmas.Bool.{eqb-true}
use Rattle.ob_base.specs.Limits.{most_slots}
use Rattle.ob_base.specs.declared.fault.Span.{Span}
use Rattle.ob_table.specs.Expressions.{Expression}
use Rattle.ob_table.specs.declared.seen.Kind.{Kind}
use Rattle.ob_table.specs.declared.seen.Seen.{Seen}
use Rattle.ob_table.specs.declared.seen.Seen.TheVariants.{This as ThisSeen, Local, Field as FieldSeen}
use Rattle.ob_table_spec.specs.WellFormed.{StaticFrame, LocalKinds, local_kind, kind_of_seen, kind_of_expression}
use Rattle.ob_silica.specs.Terms.{SilicaForm}
use Rattle.ob_silica.specs.declared.place.Operand.{Operand}
use Rattle.ob_silica.specs.declared.place.Place.{Place}
use Rattle.ob_silica.specs.declared.place.Place.TheVariants.{Slot}
use Rattle.ob_lower_spec.specs.Forms.{AroundExpression, SlotVariable, locals_of, slot_of, place_seen}
use Rattle.ob_lower_functions.specs.Progress.{Stop, full, not_well_formed, ◌>>=◌, found, Slots, next_slot, Progress, into_slot}
use Rattle.ob_lower_functions.specs.ExpressionCode.{valued, value}
use Rattle.ob_lower_functions.proofs.Places.{none_some}

-- lowering goes on with something of which this holds, or needs one slot too many
abbrev pub Keeps : {A : Type 0} → (A → Type 0) → Result A Stop → Type 0
Keeps Q (Ok x) = Q x
Keeps Q (Err (full at)) = ⊤
Keeps Q (Err not_well_formed) = ⊥

pub keeps_bind : {A B : Type 0} (Q : A → Type 0) (R : B → Type 0) (r : Result A Stop) (f : A → Result B Stop)
    → Keeps Q r → ((x : A) → Q x → Keeps R (f x)) → Keeps R (r >>= f)
keeps_bind Q R (Ok x) f k next = next x k
keeps_bind Q R (Err (full at)) f k next = tt
keeps_bind Q R (Err not_well_formed) f k next = absurd k

pub keeps_found : {A : Type 0} (o : Option A) → IsSome o → Keeps (λ x. ⊤) (found o)
keeps_found None is = absurd (true≢false (sym is))
keeps_found (Some x) is = tt

next_by : (b : Bool) (place : Span) (s : Slots × ℕ) → Keeps (λ x. ⊤) (if b then Ok s else Err (full place))
next_by true place s = tt
next_by false place s = tt

pub keeps_next : (place : Span) (s : Slots) → Keeps (λ x. ⊤) (next_slot place s)
keeps_next place s = next_by (nat_le (s.top + 1) most_slots) place (record { top = s.top + 1; references = s.references }, s.top)

pub keeps_into : (a : AroundExpression) (b : Bool) (span : Span) (form : ℕ → SilicaForm) (p : Progress) → Keeps (λ x. ⊤) (into_slot a b span form p)
keeps_into a b span form p = keeps_bind (λ x. ⊤) (λ x. ⊤) (next_slot span p.slots) _ (keeps_next span p.slots) (λ s k. tt)

-- Values.

-- an expression that has a kind gives an operand
abbrev pub HasOne : StaticFrame → LocalKinds → Expression → Progress × Option Operand → Type 0
HasOne f ls e x = IsSome (kind_of_expression f ls e) → IsSome x.1

pub keeps_valued : (f : StaticFrame) (ls : LocalKinds) (e : Expression) (r : Result (Progress × Option Operand) Stop) → IsSome (kind_of_expression f ls e)
    → Keeps (HasOne f ls e) r → Keeps (λ x. ⊤) (r >>= valued)
keeps_valued f ls e r is k =
    keeps_bind (HasOne f ls e) (λ x. ⊤) r valued k
    (λ x one. keeps_bind (λ o. ⊤) (λ x. ⊤) (found x.1) (λ o. Ok (x.0, o)) (keeps_found x.1 (one is)) (λ o t. tt))

pub keeps_some : (f : StaticFrame) (ls : LocalKinds) (e : Expression) (r : Result (Progress × Operand) Stop) → Keeps (λ x. ⊤) r → Keeps (HasOne f ls e) (r >>= value)
keeps_some f ls e r k = keeps_bind (λ x. ⊤) (HasOne f ls e) r value k (λ x t is. refl)

pub some_and : {A : Type 0} (o : Option A) (P : A → Type 0) → IsSomeAnd o P → IsSome o
some_and None P s = absurd s
some_and (Some x) P s = refl

-- Names.

-- the same variables are visible, with the same kinds
pub record Names (ls : LocalKinds) (vs : List SlotVariable) : Type 0 where
  pub by : (n : ℕ) → local_kind ls n ≡ local_kind (locals_of vs) n

pub seen_same : (f : StaticFrame) (ls : LocalKinds) (vs : List SlotVariable) (seen : Seen) → Names ls vs → kind_of_seen f ls seen ≡ kind_of_seen f (locals_of vs) seen
seen_same f ls vs ThisSeen names = refl
seen_same f ls vs (Local n) names = names.by n
seen_same f ls vs (FieldSeen id) names = refl

slot_there : (vs : List SlotVariable) (n : ℕ) → IsSome (local_kind (locals_of vs) n) → IsSome (slot_of vs n)
slot_there [] n is = absurd (true≢false (sym is))
slot_there (v ∷ vs) n is = go (nat_eq n v.local) (slot_there vs n) is
  where
    go : (b : Bool) → (IsSome (local_kind (locals_of vs) n) → IsSome (slot_of vs n))
        → IsSome (if b then Some v.kind else local_kind (locals_of vs) n) → IsSome (if b then Some v.slot else slot_of vs n)
    go true next h = refl
    go false next h = next h

mapped : (o : Option ℕ) (g : ℕ → Place) → IsSome o → IsSome (option_map g o)
mapped None g is = absurd (true≢false (sym is))
mapped (Some x) g is = refl

place_there : (f : StaticFrame) (vs : List SlotVariable) (seen : Seen) → IsSome (kind_of_seen f (locals_of vs) seen) → IsSome (place_seen vs seen)
place_there f vs ThisSeen is = refl
place_there f vs (Local n) is = mapped (slot_of vs n) Slot (slot_there vs n is)
place_there f vs (FieldSeen id) is = refl

-- a name that has a kind has a place
pub keeps_place : (f : StaticFrame) (ls : LocalKinds) (vs : List SlotVariable) (seen : Seen) → Names ls vs → IsSome (kind_of_seen f ls seen) → Keeps (λ x. ⊤) (found (place_seen vs seen))
keeps_place f ls vs seen names is = keeps_found (place_seen vs seen) (place_there f vs seen (subst IsSome (seen_same f ls vs seen names) is))

pub keeps_kind : (f : StaticFrame) (ls : LocalKinds) (vs : List SlotVariable) (seen : Seen) → Names ls vs → IsSome (kind_of_seen f ls seen)
    → Keeps (λ x. ⊤) (found (kind_of_seen f (locals_of vs) seen))
keeps_kind f ls vs seen names is = keeps_found (kind_of_seen f (locals_of vs) seen) (subst IsSome (seen_same f ls vs seen names) is)

-- one more variable, whose number is that of no other
end_step : (l : ℕ × Kind) (ls more : LocalKinds) (local : ℕ) (of : Kind) (n : ℕ) (a b c : Bool) → nat_eq local l.0 ≡ a → nat_eq n l.0 ≡ b → nat_eq n local ≡ c
    → (if a then Some l.1 else local_kind ls local) ≡ None
    → (local_kind ls local ≡ None → local_kind more n ≡ (if c then Some of else local_kind ls n))
    → (if b then Some l.1 else local_kind more n) ≡ (if c then Some of else (if b then Some l.1 else local_kind ls n))
end_step l ls more local of n true b c ea eb ec free rest = absurd (none_some (sym free))
end_step l ls more local of n false true false ea eb ec free rest = refl
end_step l ls more local of n false true true ea eb ec free rest =
    absurd (true≢false (sym eb ∙ ap (λ m. nat_eq m l.0) (eqb-true n local ec) ∙ ea))
end_step l ls more local of n false false c ea eb ec free rest = rest free

at_end : (ls : LocalKinds) (local : ℕ) (of : Kind) (n : ℕ) → local_kind ls local ≡ None
    → local_kind (ls ++ (local, of) ∷ []) n ≡ (if nat_eq n local then Some of else local_kind ls n)
at_end [] local of n free = refl
at_end (l ∷ ls) local of n free =
    end_step l ls (ls ++ (local, of) ∷ []) local of n (nat_eq local l.0) (nat_eq n l.0) (nat_eq n local) refl refl refl free (at_end ls local of n)

pub names_more : (ls : LocalKinds) (vs : List SlotVariable) (v : SlotVariable) → Names ls vs → local_kind ls v.local ≡ None → Names (ls ++ (v.local, v.kind) ∷ []) (v ∷ vs)
names_more ls vs v names free = record {
  by = λ n. at_end ls v.local v.kind n free ∙ ap (λ o. if nat_eq n v.local then Some v.kind else o) (names.by n);
}
