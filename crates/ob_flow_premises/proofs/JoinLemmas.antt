-- What is known after two branches, number by number.
use Rattle.std.proofs.Common.{◌≡◌, ℕ, zero, suc, ◌<◌, ◌≤◌, ⊎_elim, List, [], ◌∷◌, length, get_or, min, Option, Some, None, refl, ap, sym, ◌∙◌, arith, lt-ltb, le-ltb}
use Rattle.std.specs.Prelude.{option_map, if◌then◌else◌}
use Rattle.std.specs.Option.{option_flatten}
use Rattle.std.proofs.Math.Path.{fun_ext}
use Rattle.std.proofs.lemmas.Bool.{cases_lt}
use Rattle.std.proofs.lemmas.Option.{slice_get_past}
use Rattle.ob_silica_places.specs.Known.{Known}
use Rattle.ob_silica_places.specs.Places.{Location, slot, field}
use Rattle.ob_flow_spec.specs.Contexts.{BodyFrame, field_count}
use Rattle.ob_flow_spec.specs.Joining.{joined_known, joined_context}
use Rattle.ob_flow_spec.specs.Calling.{fields_left}
use Rattle.ob_table.specs.declared.contract.Signature.{Signature}
use Rattle.ob_flow_context.specs.declared.context.Known.{Known as KnownOfPlace}
use Rattle.ob_flow_context.specs.declared.context.Context.{Context as ContextOfBody}
use Rattle.ob_flow_context.specs.View.{known_of, known_at, context_of}
use Rattle.ob_flow_context.proofs.KnownLemmas.{known_none}
use Rattle.ob_flow_context.proofs.BeginningLemmas.{first}
use Rattle.ob_flow_premises.specs.Calls.{field_after, fields_after}
use Rattle.ob_flow_premises.specs.Joins.{joined_numbers}

-- a place of the list
pub known_here : (ks : List (Option KnownOfPlace)) (n : ℕ) (d : Option KnownOfPlace) → n < length ks
    → option_map known_of (get_or ks n d) ≡ known_at ks n
unfolding known_at
known_here [] n d h = absurd (omega arith)
known_here (k ∷ ks) zero d h = some_so k
  where
    some_so : (k : Option KnownOfPlace) → option_map known_of k ≡ option_flatten (Some (option_map known_of k))
    some_so None = refl
    some_so (Some k) = refl
known_here (k ∷ ks) (suc n) d h = known_here ks n d (omega arith)

-- one past its end
pub known_past : (ks : List (Option KnownOfPlace)) (n : ℕ) → length ks ≤ n → None ≡ known_at ks n
known_past ks n h = sym (known_none ks n (slice_get_past ks n h))

joined_none : (x : Option Known) → joined_known x None ≡ None
joined_none None = refl
joined_none (Some x) = refl

past_end : (as' bs : List (Option KnownOfPlace)) (n : ℕ) → min (length as') (length bs) ≤ n
    → None ≡ joined_numbers (known_at as') (known_at bs) n
past_end as' bs n le = ⊎_elim
    (λ below. sym (ap (joined_known (known_at as' n)) (known_none bs n (slice_get_past bs n (omega (arith, le, below)))) ∙ joined_none (known_at as' n)))
    (λ above. sym (ap (λ x. joined_known x (known_at bs n)) (known_none as' n (slice_get_past as' n (omega (arith, above))))))
    (cases_lt n (length as'))

-- up to the end of the shorter list all is known
pub joined_all : (as' bs : List (Option KnownOfPlace)) (n : ℕ) → min (length as') (length bs) ≤ n
    → first n (joined_numbers (known_at as') (known_at bs)) ≡ joined_numbers (known_at as') (known_at bs)
joined_all as' bs n le = fun_ext (λ k. ⊎_elim
    (λ below. ap (λ c. if c then joined_numbers (known_at as') (known_at bs) k else None) (lt-ltb k n below))
    (λ above. ap (λ c. if c then joined_numbers (known_at as') (known_at bs) k else None) (le-ltb k n above)
    ∙ past_end as' bs k (omega (arith, le, above)))
    (cases_lt k n))

-- the context of joined lists
pub joined_is : (a b : ContextOfBody) (slots fields : List (Option KnownOfPlace))
    → known_at slots ≡ joined_numbers (known_at a.slots) (known_at b.slots)
    → known_at fields ≡ joined_numbers (known_at a.fields) (known_at b.fields)
    → context_of (record { slots = slots; fields = fields }) ≡ joined_context (context_of a) (context_of b)
unfolding context_of
joined_is a b slots fields s f = fun_ext by
  where
    by : (q : Location) → context_of (record { slots = slots; fields = fields }) q ≡ joined_context (context_of a) (context_of b) q
    by (slot k) = ap (λ g. g k) s
    by (field n) = ap (λ g. g n) f

-- The fields that a call on `this` leaves.

pub fields_first : (b : BodyFrame) (s : Signature) (n : ℕ) → field_count b ≡ n → first n (field_after b s) ≡ fields_after b s
fields_first b s n e = ap (λ m. first m (field_after b s)) (sym e)

pub fields_are : (b : BodyFrame) (s : Signature) (c : ContextOfBody) (slots fields : List (Option KnownOfPlace))
    → slots ≡ c.slots → known_at fields ≡ fields_after b s
    → context_of (record { slots = slots; fields = fields }) ≡ fields_left b s (context_of c)
unfolding context_of
fields_are b s c slots fields e f = fun_ext by
  where
    by : (q : Location) → context_of (record { slots = slots; fields = fields }) q ≡ fields_left b s (context_of c) q
    by (slot k) = ap (λ ks. known_at ks k) e
    by (field n) = ap (λ g. g n) f
