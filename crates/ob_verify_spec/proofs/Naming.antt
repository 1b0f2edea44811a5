-- What an instruction at which no condition holds names: where it leads, the slots that it needs, and those that it copies.
use Rattle.std.proofs.Common.{◌≡◌, ℕ, ◌+◌, ◌<◌, List, [], ◌∷◌, length, map, Option, Some, None, Bool, true, false, ◌&&◌, not, nat_lt, Contains, slice_get, refl, sym, subst, arith, ◌⊎◌, inl, inr}
use Rattle.std.specs.List.{list_all}
use Rattle.std.proofs.lemmas.Bool.{and_parts, or_parts, ltb-true, not-true, not-false}
use Rattle.std.proofs.lemmas.List.Elements.{Contains-append_cases}
use Rattle.ob_base.specs.declared.id.FieldId.{FieldId}
use Rattle.ob_base.specs.declared.operator.Operator.{Operator}
use Rattle.ob_base.specs.declared.operator.Operator.TheVariants as operator
use Rattle.ob_table.specs.declared.seen.Kind.{Kind}
use Rattle.ob_table.specs.declared.seen.Kind.TheVariants as kind
use Rattle.ob_code.specs.declared.image.BodyCode.{BodyCode}
use Rattle.ob_code.specs.declared.instruction.Instruction.{Instruction}
use Rattle.ob_code.specs.declared.instruction.Instruction.TheVariants as is
use Rattle.ob_code.specs.Code.{body_code}
use Rattle.ob_verify_spec.specs.Frames.{CodeFrame, constructor_code, kinds_of_params, kind_of_result, kind_of_field}
use Rattle.ob_verify_spec.specs.Instructions.{reads, targets, goes_on, after_it, leads, Need, of_kind, any_value, any_reference, alike, slots_needed, needs_of_args, needs_of_call, need_of, needs_of_given, needs_of_operator, needs_of_receiver, needs, Effect, keeps, sets, copies, effect_of_call, slot_of_result, effect}
use Rattle.ob_verify_spec.specs.Conditions.{is_within, bad_jump, lacks_slots, names_bad_slot, bad_slot, bad_field, bad_call, no_fuel_mark, may_go_on}
use Rattle.ob_verify_spec.proofs.Listed.{not_empty, head, behind, cases, only, only_head, each_passes}

-- The tests one by one.

passed_tests : (f : CodeFrame) (i : ℕ) (x : Instruction) → may_go_on f i x ≡ true
    → (not (bad_jump f x) ≡ true) × (not (bad_slot f i x) ≡ true)
passed_tests f i x e =
    let a = and_parts (not (bad_jump f x) && not (bad_slot f i x) && not (bad_field f x) && not (bad_call f x)) (not (no_fuel_mark f i x)) e in
    let b = and_parts (not (bad_jump f x) && not (bad_slot f i x) && not (bad_field f x)) (not (bad_call f x)) a.0 in
    let c = and_parts (not (bad_jump f x) && not (bad_slot f i x)) (not (bad_field f x)) b.0 in
    and_parts (not (bad_jump f x)) (not (bad_slot f i x)) c.0

pub goes_jump : (f : CodeFrame) (i : ℕ) (x : Instruction) → may_go_on f i x ≡ true → bad_jump f x ≡ false
goes_jump f i x e = not-true (bad_jump f x) (passed_tests f i x e).0

pub goes_slot : (f : CodeFrame) (i : ℕ) (x : Instruction) → may_go_on f i x ≡ true → bad_slot f i x ≡ false
goes_slot f i x e = not-true (bad_slot f i x) (passed_tests f i x e).1

pub names_no_bad_slot : (f : CodeFrame) (i : ℕ) (x : Instruction) → bad_slot f i x ≡ false → names_bad_slot f x ≡ false
names_no_bad_slot f i x e = (or_parts (lacks_slots f i) (names_bad_slot f x) e).1

pub goes_names : (f : CodeFrame) (i : ℕ) (x : Instruction) → may_go_on f i x ≡ true → names_bad_slot f x ≡ false
goes_names f i x e = names_no_bad_slot f i x (goes_slot f i x e)

pub may_go : (f : CodeFrame) (i : ℕ) (x : Instruction) → bad_jump f x ≡ false → bad_slot f i x ≡ false → bad_field f x ≡ false → bad_call f x ≡ false → no_fuel_mark f i x ≡ false
    → may_go_on f i x ≡ true
may_go f i x p q r s t = rw (p, q, r, s, t) refl

-- Where it leads.

target_or_next : (i t j : ℕ) → Contains (t ∷ (i + 1) ∷ []) j → (i + 1 ≡ j) ⊎ Contains (t ∷ []) j
target_or_next i t j c = elim (cases t j ((i + 1) ∷ []) c) [ inl e ↦ inr (subst (Contains (t ∷ [])) e (head t [])) | inr h ↦ inl (only (i + 1) j h) ]

next_place : (goes : Bool) (i j : ℕ) → Contains (after_it goes i) j → i + 1 ≡ j
next_place true i j c = only (i + 1) j c
next_place false i j c = absurd (not_empty j c)

-- a place is the next one, or a target
pub next_or_target : (i : ℕ) (x : Instruction) (j : ℕ) → Contains (leads i x) j → (i + 1 ≡ j) ⊎ Contains (targets x) j
next_or_target i (is.Jump t) j c = inr c
next_or_target i (is.Unless a t) j c = target_or_next i t j c
next_or_target i (is.Test a k s t) j c = target_or_next i t j c
next_or_target i x j c = inl (next_place (goes_on x) i j c)

pub leads_within : (f : CodeFrame) (i : ℕ) (x : Instruction) (j : ℕ) → i < length f.body.instructions → bad_jump f x ≡ false → Contains (leads i x) j → j < length f.body.instructions + 1
leads_within f i x j lt e c = elim (next_or_target i x j c) [
  | inl same ↦ let next : i + 1 ≡ j = same in omega arith
  | inr h ↦ let within : j < length f.body.instructions = ltb-true j (length f.body.instructions) (each_passes (is_within f) (targets x) j (not-false (list_all (is_within f) (targets x)) e) h) in omega arith
]

-- Slots.

-- each slot of which some need speaks is among these
abbrev pub SpeakOf : List Need → List ℕ → Type 0
SpeakOf needs slots = (n : Need) (k : ℕ) → Contains needs n → Contains (slots_needed n) k → Contains slots k

speak_none : (slots : List ℕ) → SpeakOf [] slots
speak_none slots n k c d = absurd (not_empty n c)

speak_more : (m : Need) (ns : List Need) (slots : List ℕ) → ((k : ℕ) → Contains (slots_needed m) k → Contains slots k) → SpeakOf ns slots → SpeakOf (m ∷ ns) slots
speak_more m ns slots first rest n k c d = elim (cases m n ns c) [
  | inl e ↦ first k (subst (λ z. Contains (slots_needed z) k) (sym e) d)
  | inr h ↦ rest n k h d
]

speak_one : (m : Need) (slots : List ℕ) → ((k : ℕ) → Contains (slots_needed m) k → Contains slots k) → SpeakOf (m ∷ []) slots
speak_one m slots first = speak_more m [] slots first (speak_none slots)

speak_behind : (ns : List Need) (slot : ℕ) (slots : List ℕ) → SpeakOf ns slots → SpeakOf ns (slot ∷ slots)
speak_behind ns slot slots rest n k c d = behind slot k slots (rest n k c d)

args_speak : (args : List ℕ) (ps : List Kind) → SpeakOf (needs_of_args args ps) args
args_speak (a ∷ args) (p ∷ ps) = speak_more (of_kind a p) (needs_of_args args ps) (a ∷ args) (λ k c. only_head a k args c) (speak_behind (needs_of_args args ps) a args (args_speak args ps))
args_speak [] ps = speak_none []
args_speak (a ∷ args) [] = speak_none (a ∷ args)

call_speaks : (args : List ℕ) (b : Option BodyCode) → SpeakOf (needs_of_call args b) args
call_speaks args None = speak_none args
call_speaks args (Some b) = args_speak args (kinds_of_params b)

need_speaks : (a : ℕ) (wanted : Option Kind) → SpeakOf (need_of a wanted) (a ∷ [])
need_speaks a None = speak_none (a ∷ [])
need_speaks a (Some wanted) = speak_one (of_kind a wanted) (a ∷ []) (λ k c. c)

given_speak : (f : CodeFrame) (given : List (FieldId × ℕ)) → SpeakOf (needs_of_given f given) (map (λ pair. pair.1) given)
given_speak f [] n k c d = absurd (not_empty n c)
given_speak f (g ∷ given) n k c d = elim (Contains-append_cases (need_of g.1 (kind_of_field f g.0.0)) (needs_of_given f given) n c) [
  | inl h ↦ only_head g.1 k (map (λ pair. pair.1) given) (need_speaks g.1 (kind_of_field f g.0.0) n k h d)
  | inr h ↦ behind g.1 k (map (λ pair. pair.1) given) (given_speak f given n k h d)
]

second : (a b k : ℕ) → Contains (b ∷ []) k → Contains (a ∷ b ∷ []) k
second a b k c = behind a k (b ∷ []) c

both_speak : (a b : ℕ) (x y : Kind) → SpeakOf (of_kind a x ∷ of_kind b y ∷ []) (a ∷ b ∷ [])
both_speak a b x y = speak_more (of_kind a x) (of_kind b y ∷ []) (a ∷ b ∷ []) (λ k c. only_head a k (b ∷ []) c) (speak_one (of_kind b y) (a ∷ b ∷ []) (λ k c. second a b k c))

operator_speaks : (o : Operator) (a b : ℕ) → SpeakOf (needs_of_operator o a b) (a ∷ b ∷ [])
operator_speaks operator.Equal a b = speak_one (alike a b) (a ∷ b ∷ []) (λ k c. c)
operator_speaks operator.NotEqual a b = speak_one (alike a b) (a ∷ b ∷ []) (λ k c. c)
operator_speaks operator.And a b = both_speak a b kind.Bool kind.Bool
operator_speaks operator.Or a b = both_speak a b kind.Bool kind.Bool
operator_speaks operator.Not a b = both_speak a b kind.Bool kind.Bool
operator_speaks o a b = both_speak a b kind.Int kind.Int

receiver_speaks : (a : ℕ) (wanted : Kind) (args : List ℕ) (b : Option BodyCode) → SpeakOf (needs_of_receiver a wanted args b) (a ∷ args)
receiver_speaks a wanted args None = speak_none (a ∷ args)
receiver_speaks a wanted args (Some b) =
    speak_more (of_kind a wanted) (needs_of_args args (kinds_of_params b)) (a ∷ args) (λ k c. only_head a k args c)
    (speak_behind (needs_of_args args (kinds_of_params b)) a args (args_speak args (kinds_of_params b)))

-- an instruction reads each slot of which its needs speak
pub needs_read : (f : CodeFrame) (x : Instruction) → SpeakOf (needs f x) (reads x)
needs_read f (is.Copy k a) = speak_one (any_value a) (a ∷ []) (λ j c. c)
needs_read f (is.Store field a) = need_speaks a (kind_of_field f field.0)
needs_read f (is.Op k o a b line) = operator_speaks o a b
needs_read f (is.Unless a t) = speak_one (of_kind a kind.Bool) (a ∷ []) (λ j c. c)
needs_read f (is.Test a c s t) = speak_one (of_kind a (kind.Reference c)) (a ∷ []) (λ j d. d)
needs_read f (is.Change s given) = given_speak f given
needs_read f (is.New k c args) = call_speaks args (constructor_code f.image c)
needs_read f (is.Call k a c tx args) = receiver_speaks a (kind.Reference c) args (body_code f.image c tx)
needs_read f (is.SelfCall k tx args) = call_speaks args (slice_get f.own.bodies tx.0)
needs_read f (is.Share a) = speak_one (any_reference a) (a ∷ []) (λ j c. c)
needs_read f (is.Disown a) = speak_one (any_reference a) (a ∷ []) (λ j c. c)
needs_read f (is.RetValue a) = need_speaks a (kind_of_result f.body)
needs_read f (is.Revert a) = speak_one (of_kind a kind.Text) (a ∷ []) (λ j c. c)
needs_read f x = speak_none (reads x)

pub reads_below : (f : CodeFrame) (x : Instruction) (k : ℕ) → names_bad_slot f x ≡ false → Contains (reads x) k → k < f.body.slots
reads_below f x k e c =
    let all = not-false (list_all (λ (j : ℕ). nat_lt j f.body.slots) (reads x)) (or_parts (not (list_all (λ (j : ℕ). nat_lt j f.body.slots) (reads x))) _ e).0 in
    ltb-true k f.body.slots (each_passes (λ (j : ℕ). nat_lt j f.body.slots) (reads x) k all c)

pub needs_below : (f : CodeFrame) (x : Instruction) (n : Need) (k : ℕ) → names_bad_slot f x ≡ false → Contains (needs f x) n → Contains (slots_needed n) k → k < f.body.slots
needs_below f x n k e c d = reads_below f x k e (needs_read f x n k c d)

-- what is copied is within the slots
abbrev pub EffectFits : ℕ → Effect → Type 0
EffectFits n keeps = Unit {0}
EffectFits n (sets k held) = Unit {0}
EffectFits n (copies k a) = a < n

call_fits : (n : ℕ) (k : Option ℕ) (b : Option BodyCode) → EffectFits n (effect_of_call k b)
call_fits n None b = tt
call_fits n (Some k) b = tt

pub effect_fits : (f : CodeFrame) (x : Instruction) → names_bad_slot f x ≡ false → EffectFits f.body.slots (effect f x)
effect_fits f (is.Copy k a) e = reads_below f (is.Copy k a) a e (head a [])
effect_fits f (is.Call k a c tx args) e = call_fits f.body.slots (slot_of_result k) (body_code f.image c tx)
effect_fits f (is.SelfCall k tx args) e = call_fits f.body.slots (slot_of_result k) (slice_get f.own.bodies tx.0)
effect_fits f x e = tt
