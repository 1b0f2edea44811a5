-- What is known at the head of a Loop, number by number.
use Rattle.std.proofs.Common.{◌≡◌, ℕ, zero, suc, ◌<◌, ◌≤◌, ⊎_elim, List, [], ◌∷◌, length, take, min, max, Option, Some, None, nat_lt, refl, sym, ap, ◌∙◌, arith, lt-ltb, le-ltb}
use Rattle.std.specs.Prelude.{slice_get, option_map, if◌then◌else◌}
use Rattle.std.specs.Option.{option_flatten}
use Rattle.std.proofs.Math.Path.{fun_ext}
use Rattle.std.proofs.lemmas.Bool.{cases_lt}
use Rattle.std.proofs.lemmas.Option.{slice_get_past}
use Rattle.ob_table.specs.declared.seen.Kind.{Kind}
use Rattle.ob_silica.specs.Terms.{SilicaTerms}
use Rattle.ob_silica_places.specs.Known.{Known}
use Rattle.ob_silica_places.specs.Places.{Location, slot, field}
use Rattle.ob_silica_formed.specs.Holdings.{at_head}
use Rattle.ob_silica_kinds.specs.Kinds.{Kinds, kinds_of, kinds_held, kinds_at_head}
use Rattle.ob_silica_kinds.proofs.HeldLemmas.{head_held}
use Rattle.ob_flow_spec.specs.Contexts.{BodyFrame, static_of, field_count, Context}
use Rattle.ob_flow_spec.specs.Looping.{holding, slot_at_head, head_context}
use Rattle.ob_flow_context.specs.declared.context.Known.{Known as KnownOfPlace}
use Rattle.ob_flow_context.specs.declared.context.Context.{Context as ContextOfBody}
use Rattle.ob_flow_context.specs.View.{all_known, known_at, context_of}
use Rattle.ob_flow_context.proofs.KnownLemmas.{known_none}
use Rattle.ob_flow_premises.specs.Loops.{numbers_below, all_kinds, kept_by, numbers_kept}

in_front : (ks : List (Option KnownOfPlace)) (count n : ℕ) → n < count
    → option_flatten (slice_get (all_known (take count ks)) n) ≡ option_flatten (slice_get (all_known ks) n)
in_front ks zero n h = absurd (omega arith)
in_front [] (suc count) n h = refl
in_front (k ∷ ks) (suc count) zero h = refl
in_front (k ∷ ks) (suc count) (suc n) h = in_front ks count n (omega arith)

-- a place that is kept
kept_below : (ks : List (Option KnownOfPlace)) (count n : ℕ) → n < count → known_at (take count ks) n ≡ known_at ks n
unfolding known_at
kept_below ks count n h = in_front ks count n h

not_kept : (ks : List (Option KnownOfPlace)) (count n : ℕ) → length (take count ks) ≤ n → known_at (take count ks) n ≡ None
not_kept ks count n h = known_none (take count ks) n (slice_get_past (take count ks) n h)

short : (ks : List (Option KnownOfPlace)) (count : ℕ) → length (take count ks) ≤ count
short ks zero = omega arith
short [] (suc count) = omega arith
short (k ∷ ks) (suc count) = omega (arith, short ks count)

-- as many places of a list as it has, and no more than these
pub kept_is : (ks : List (Option KnownOfPlace)) (count : ℕ)
    → known_at (take (min count (length ks)) ks) ≡ numbers_below count (known_at ks)
kept_is ks count = fun_ext (λ n. ⊎_elim
    (λ below. ⊎_elim
    (λ within. kept_below ks (min count (length ks)) n (omega (arith, below, within))
    ∙ ap (λ c. if c then known_at ks n else None) (sym (lt-ltb n count below)))
    (λ past. not_kept ks (min count (length ks)) n (omega (arith, past, short ks (min count (length ks))))
    ∙ sym (known_none ks n (slice_get_past ks n past))
    ∙ ap (λ c. if c then known_at ks n else None) (sym (lt-ltb n count below)))
    (cases_lt n (length ks)))
    (λ above. not_kept ks (min count (length ks)) n (omega (arith, above, short ks (min count (length ks))))
    ∙ ap (λ c. if c then known_at ks n else None) (sym (le-ltb n count above)))
    (cases_lt n count))

same_below : (k n : ℕ) → nat_lt (suc k) (max n 1) ≡ nat_lt (suc k) n
same_below k n = ⊎_elim
    (λ below. lt-ltb (suc k) (max n 1) (omega (arith, below)) ∙ sym (lt-ltb (suc k) n below))
    (λ above. le-ltb (suc k) (max n 1) (omega (arith, above)) ∙ sym (le-ltb (suc k) n above))
    (cases_lt (suc k) n)

-- Kinds.

kind_at : (ks : List (Option KnownOfPlace)) (n : ℕ) → option_flatten (slice_get (all_kinds ks) n)
    ≡ option_map (λ x. x.kind) (option_flatten (slice_get (all_known ks) n))
kind_at [] n = refl
kind_at (None ∷ ks) zero = refl
kind_at (Some k ∷ ks) zero = refl
kind_at (k ∷ ks) (suc n) = kind_at ks n

kinds_are : (ks : List (Option KnownOfPlace)) → kinds_of (all_kinds ks) ≡ (λ n. option_map (λ x. x.kind) (known_at ks n))
unfolding kinds_of known_at
kinds_are ks = fun_ext (λ n. kind_at ks n)

known_kinds : (c : ContextOfBody) → (λ n. option_map (λ x. x.kind) (known_at c.slots n)) ≡ kinds_held (holding (context_of c))
unfolding context_of
known_kinds c = refl

-- the kinds at the head, from those of what is known before it
pub kinds_turned : (b : BodyFrame) (c : ContextOfBody) (first body : SilicaTerms) (slots before after : List (Option Kind))
    → slots ≡ all_kinds c.slots → before ≡ slots
    → kinds_of after ≡ kinds_at_head (static_of b) first body (kinds_of before)
    → kinds_of after ≡ kinds_held (at_head (static_of b) first body (holding (context_of c)))
kinds_turned b c first body slots before after s e turned = turned
    ∙ ap (λ ks. kinds_at_head (static_of b) first body ks) (ap kinds_of (e ∙ s) ∙ kinds_are c.slots ∙ known_kinds c)
    ∙ head_held (static_of b) (holding (context_of c)) first body

kept_same : (b : BodyFrame) (first body : SilicaTerms) (g : Context) (k : ℕ) (x : Option Known)
    → kept_by (at_head (static_of b) first body (holding g) k).kind x ≡ slot_at_head b first body g k x
kept_same b first body g k None = refl
kept_same b first body g k (Some x) = refl

-- the context of the lists that are cut, without what a turn doesn't leave
pub head_is : (b : BodyFrame) (c : ContextOfBody) (first body : SilicaTerms) (there : Kinds) (slots fields : List (Option KnownOfPlace))
    → there ≡ kinds_held (at_head (static_of b) first body (holding (context_of c)))
    → known_at slots ≡ numbers_below (max b.slots 1) (numbers_kept there (known_at c.slots))
    → known_at fields ≡ numbers_below (field_count b) (known_at c.fields)
    → context_of (record { slots = slots; fields = fields }) ≡ head_context b first body (context_of c)
unfolding context_of
head_is b c first body there slots fields t s f = fun_ext by
  where
    by : (q : Location) → context_of (record { slots = slots; fields = fields }) q ≡ head_context b first body (context_of c) q
    by (slot zero) = ap (λ g. g 0) s ∙ ap (λ x. if x then known_at c.slots 0 else None) (lt-ltb 0 (max b.slots 1) (omega arith))
    by (slot (suc k)) = ap (λ g. g (suc k)) s
        ∙ ap (λ x. if x then kept_by (there (suc k)) (known_at c.slots (suc k)) else None) (same_below k b.slots)
        ∙ ap (λ ks. if nat_lt (suc k) b.slots then kept_by (ks (suc k)) (known_at c.slots (suc k)) else None) t
        ∙ ap (λ x. if nat_lt (suc k) b.slots then x else None) (kept_same b first body (context_of c) (suc k) (known_at c.slots (suc k)))
    by (field n) = ap (λ g. g n) f
