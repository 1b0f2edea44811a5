-- The head of a loop is stable: one more turn from there tells no more of slots. What a form copies is known to be of one kind, so a
-- slot is kept, gets one content, or is joined with one, whatever else slots hold.
use Rattle.std.proofs.Common.{◌≡◌, ℕ, Bool, true, false, ◌||◌, nat_eq, Option, Some, None, refl, sym, ap, ◌∙◌, subst, eqb-true, eq-eqb}
use Rattle.std.specs.Prelude.{IsSomeAnd, if◌then◌else◌}
use Rattle.std.proofs.Math.Path.{fun_ext}
use Rattle.ob_base.specs.declared.id.ContractId.{ContractId}
use Rattle.ob_table.specs.declared.seen.Kind.{Kind}
use Rattle.ob_table.specs.declared.seen.Kind.TheVariants.{Int, Bool as BoolKind, Text, Reference}
use Rattle.ob_table_spec.specs.WellFormed.{StaticFrame}
use Rattle.ob_silica.specs.Terms.{SilicaForm, copy_form, test_form, if_form, loop_form, SilicaTerms, no_terms, and_term}
use Rattle.ob_silica.specs.declared.place.Operand.{Operand}
use Rattle.ob_silica.specs.declared.place.Place.{Place}
use Rattle.ob_silica.specs.declared.place.Place.TheVariants.{This, Slot, Field}
use Rattle.ob_silica_formed.specs.Holdings.{SlotContent, held, Holdings, with_slot_if, kind_of_place, kind_of_operand, slot_written, kind_written, written, terms_end, kinds_equal, common_kind, either_way, joined, after_form, after_terms, at_head, EachWithin, Each}
use Rattle.ob_silica_formed.specs.Points.{HasKinds}
use Rattle.ob_places_laws.proofs.Tables.{there_is}
use Rattle.ob_coherent_spec.specs.Remaining.{HoldToo}

-- Kinds that are known on two ways.

none_known : {A : Type 0} {x : A} → ◌≡◌ {A = Option A} None (Some x) → ⊥
none_known e = absurd cc

same_known : {A : Type 0} {x y : A} → ◌≡◌ {A = Option A} (Some x) (Some y) → x ≡ y
same_known e = cc

kinds_same : (a b : Kind) → kinds_equal a b ≡ true → a ≡ b
kinds_same Int Int e = refl
kinds_same BoolKind BoolKind e = refl
kinds_same Text Text e = refl
kinds_same (Reference c) (Reference d) e = ap (λ n. let made : ContractId = record { 0 = n } in Reference made) (eqb-true c.0 d.0 e)
kinds_same a b e = absurd cc

kinds_self : (a : Kind) → kinds_equal a a ≡ true
kinds_self Int = refl
kinds_self BoolKind = refl
kinds_self Text = refl
kinds_self (Reference c) = eq-eqb c.0 c.0 refl

common_one : (same : Bool) (a b x : Kind) → kinds_equal a b ≡ same → (if same then Some a else None) ≡ Some x → (a ≡ x) × (b ≡ x)
common_one true a b x e g = (same_known g, sym (kinds_same a b e) ∙ same_known g)
common_one false a b x e g = absurd (none_known g)

common_each : (p q : Option Kind) (x : Kind) → common_kind p q ≡ Some x → (p ≡ Some x) × (q ≡ Some x)
common_each None q x e = absurd (none_known e)
common_each (Some a) None x e = absurd (none_known e)
common_each (Some a) (Some b) x e = let c = common_one (kinds_equal a b) a b x refl e in (ap Some c.0, ap Some c.1)

common_same : (p q : Option Kind) (x : Kind) → p ≡ Some x → q ≡ Some x → common_kind p q ≡ Some x
common_same p q x e g = ap (λ z. common_kind z q) e ∙ ap (common_kind (Some x)) g ∙ ap (λ b. if b then Some x else None) (kinds_self x)

-- Contents that tell of one another.

-- Where `known`, each kind that is known of the second is that of the first; the first refers only where the second or `also` does.
record Tells (known also : Bool) (x y : SlotContent) : Type 0 where
  kind : known ≡ true → (kind : Kind) → y.kind ≡ Some kind → x.kind ≡ Some kind
  refers : x.refers ≡ true → (y.refers || also) ≡ true

tells_self : (known also : Bool) (x : SlotContent) → Tells known also x x
tells_self known also x = record { kind = λ is kind e. e; refers = λ e. ap (λ r. r || also) e }

or_true : (b : Bool) → (b || true) ≡ true
or_true true = refl
or_true false = refl

or_first : (p q z : Bool) → (p || z) ≡ true → ((p || q) || z) ≡ true
or_first true q z e = refl
or_first false true z e = refl
or_first false false z e = e

or_second : (p q z : Bool) → (q || z) ≡ true → ((p || q) || z) ≡ true
or_second true q z e = refl
or_second false q z e = e

either_refers : (x y p q z : Bool) → (x ≡ true → (p || z) ≡ true) → (y ≡ true → (q || z) ≡ true) → (x || y) ≡ true
    → ((p || q) || z) ≡ true
either_refers true y p q z first second e = or_first p q z (first refl)
either_refers false y p q z first second e = or_second p q z (second e)

tells_either : (known also : Bool) (x y p q : SlotContent) → Tells known also x p → Tells known also y q
    → Tells known also (either_way x y) (either_way p q)
tells_either known also x y p q first second = record {
  kind = λ is kind e. let c = common_each p.kind q.kind kind e in common_same x.kind y.kind kind (first.kind is kind c.0) (second.kind is kind c.1);
  refers = either_refers x.refers y.refers p.refers q.refers also first.refers second.refers;
}

tells_joined : (known also d e : Bool) (a b p q : Holdings) (k : ℕ) → Tells known also (a k) (p k) → Tells known also (b k) (q k)
    → Tells known also (joined d e a b k) (joined d e p q k)
tells_joined known also true e a b p q k first second = second
tells_joined known also false true a b p q k first second = first
tells_joined known also false false a b p q k first second = tells_either known also (a k) (b k) (p k) (q k) first second

tells_if : (known also here : Bool) (x y z : SlotContent) → Tells known also y z
    → Tells known also (if here then x else y) (if here then x else z)
tells_if known also true x y z t = tells_self known also x
tells_if known also false x y z t = t

tells_set : (known also : Bool) (s : Option ℕ) (x : SlotContent) (a b : Holdings) (k : ℕ) → Tells known also (a k) (b k)
    → Tells known also (with_slot_if s x a k) (with_slot_if s x b k)
tells_set known also None x a b k t = t
tells_set known also (Some j) x a b k t = tells_if known also (nat_eq k j) x (a k) (b k) t

-- Forms.

-- each kind that is known of the second holdings is that of the first ones
abbrev KnowsToo : Holdings → Holdings → Type 0
KnowsToo a w = (k : ℕ) (kind : Kind) → (w k).kind ≡ Some kind → (a k).kind ≡ Some kind

tells_known : (a w : Holdings) → KnowsToo a w → (k : ℕ) → Tells true true (a k) (w k)
tells_known a w knows k = record { kind = λ is kind e. knows k kind e; refers = λ e. or_true (w k).refers }

knows_joined : (e : Bool) (a b : Holdings) → KnowsToo a (joined false e a b)
knows_joined true a b k kind e = e
knows_joined false a b k kind e = (common_each (a k).kind (b k).kind kind e).0

place_known : (f : StaticFrame) (a w : Holdings) (place : Place) (x : Kind) → KnowsToo a w → kind_of_place f w place ≡ Some x
    → kind_of_place f a place ≡ Some x
place_known f a w This x knows e = e
place_known f a w (Slot k) x knows e = knows k x e
place_known f a w (Field id) x knows e = e

copied_same : (f : StaticFrame) (a b w : Holdings) (o : Operand) (P : Kind → Type 0) → KnowsToo a w → KnowsToo b w
    → IsSomeAnd (kind_of_operand f w o) P → kind_of_operand f a o ≡ kind_of_operand f b o
copied_same f a b w o P ka kb is =
    let x = there_is (kind_of_operand f w o) P is in
    place_known f a w o.place x.0 ka x.1 ∙ sym (place_known f b w o.place x.0 kb x.1)

written_same : (f : StaticFrame) (a b w : Holdings) (form : SilicaForm) → KnowsToo a w → KnowsToo b w → HasKinds f w form
    → kind_written f a form ≡ kind_written f b form
written_same f a b w (copy_form to from) ka kb kinds = copied_same f a b w from _ ka kb kinds.0
written_same f a b w form ka kb kinds = refl

-- Whatever holdings know as much as these, after this they tell of each other as before it.
abbrev Through : Holdings → (Holdings → Holdings) → Type 0
Through w after = (a b : Holdings) → KnowsToo a w → KnowsToo b w → (known also : Bool) (k : ℕ) → Tells known also (a k) (b k)
    → Tells known also (after a k) (after b k)

through_knows : (w : Holdings) (after : Holdings → Holdings) → Through w after → (a : Holdings) → KnowsToo a w
    → KnowsToo (after a) (after w)
through_knows w after t a knows k = (t a w knows (λ i kind e. e) true true k (tells_known a w knows k)).kind refl

through_then : (w : Holdings) (one two : Holdings → Holdings) → Through w one → Through (one w) two → Through w (λ a. two (one a))
through_then w one two s t a b ka kb known also k x =
    t (one a) (one b) (through_knows w one s a ka) (through_knows w one s b kb) known also k (s a b ka kb known also k x)

through_joined : (w : Holdings) (one two : Holdings → Holdings) (d e : Bool) → Through w one → Through w two
    → Through w (λ a. joined d e (one a) (two a))
through_joined w one two d e s t a b ka kb known also k x =
    tells_joined known also d e (one a) (two a) (one b) (two b) k (s a b ka kb known also k x) (t a b ka kb known also k x)

-- what knows as much as some holdings knows as much as those that know less
through_less : (less w : Holdings) (after : Holdings → Holdings) → KnowsToo w less → Through less after → Through w after
through_less less w after knows t a b ka kb = t a b (λ j kind e. ka j kind (knows j kind e)) (λ j kind e. kb j kind (knows j kind e))

through_head : (w : Holdings) (turn : Holdings → Holdings) (e : Bool) → Through (joined false e w (turn w)) turn
    → Through w (λ a. joined false e a (turn a))
through_head w turn e t =
    through_joined w (λ a. a) turn false e (λ a b ka kb known also k x. x)
    (through_less (joined false e w (turn w)) w turn (knows_joined e w (turn w)) t)

through_written : (f : StaticFrame) (w : Holdings) (form : SilicaForm) → HasKinds f w form → Through w (written f form)
through_written f w form kinds a b ka kb known also k t =
    subst (λ kind. Tells known also (written f form a k) (with_slot_if (slot_written form) (held kind) b k))
    (written_same f a b w form ka kb kinds)
    (tells_set known also (slot_written form) (held (kind_written f a form)) a b k t)

mutual
  form_tells : (f : StaticFrame) (w : Holdings) (form : SilicaForm) → HasKinds f w form → EachWithin HasKinds f w form
      → Through w (after_form f form)
  form_tells f w (test_form o state branch other join) kinds within =
      through_joined w (after_terms f branch) (after_terms f other) (terms_end branch) (terms_end other)
      (terms_tell f w branch within.0) (terms_tell f w other within.1)
  form_tells f w (if_form o branch other join) kinds within =
      through_joined w (after_terms f branch) (after_terms f other) (terms_end branch) (terms_end other)
      (terms_tell f w branch within.0) (terms_tell f w other within.1)
  form_tells f w (loop_form first o body end) kinds within =
      through_then w (at_head f first body) (after_terms f first)
      (through_head w (λ a. after_terms f body (after_terms f first a)) (terms_end body)
      (through_then (at_head f first body w) (after_terms f first) (after_terms f body)
      (terms_tell f (at_head f first body w) first within.0)
      (terms_tell f (after_terms f first (at_head f first body w)) body within.1)))
      (terms_tell f (at_head f first body w) first within.0)
  form_tells f w form kinds within = through_written f w form kinds

  terms_tell : (f : StaticFrame) (w : Holdings) (terms : SilicaTerms) → Each HasKinds f w terms → Through w (after_terms f terms)
  terms_tell f w no_terms each = λ a b ka kb known also k t. t
  terms_tell f w (and_term form span rest) each =
      through_then w (after_form f form) (after_terms f rest) (form_tells f w form each.0 each.1)
      (terms_tell f (after_form f form w) rest each.2)

-- The head.

-- a content, that after a turn, and that after a turn from the two joined
stays : (x y z : SlotContent) → Tells false y.refers z y
    → ((kind : Kind) → common_kind x.kind y.kind ≡ Some kind → z.kind ≡ Some kind)
    → either_way (either_way x y) z ≡ either_way x y
stays x y z t kinds =
    ap (λ kind. record { kind = kind; refers = (x.refers || y.refers) || z.refers }) (kind (common_kind x.kind y.kind) refl)
    ∙ ap (λ refers. record { kind = common_kind x.kind y.kind; refers = refers }) (refers x.refers y.refers z.refers t.refers)
  where
    kind : (c : Option Kind) → common_kind x.kind y.kind ≡ c → common_kind (common_kind x.kind y.kind) z.kind ≡ common_kind x.kind y.kind
    kind None e = ap (λ c. common_kind c z.kind) e ∙ sym e
    kind (Some c) e = common_same (common_kind x.kind y.kind) z.kind c e (kinds c e) ∙ sym e

    refers : (p q r : Bool) → (r ≡ true → (q || q) ≡ true) → ((p || q) || r) ≡ (p || q)
    refers true q r h = refl
    refers false true r h = refl
    refers false false true h = absurd (let no : false ≡ true = h refl in cc)
    refers false false false h = refl

stays_if : (e : Bool) (x y z : Holdings) (k : ℕ) → (e ≡ false → either_way (either_way (x k) (y k)) (z k) ≡ either_way (x k) (y k))
    → joined false e (joined false e x y) z k ≡ joined false e x y k
stays_if true x y z k so = refl
stays_if false x y z k so = so refl

-- from the head of a loop, the head is the same
pub head_stays : (f : StaticFrame) (first body : SilicaTerms) (h : Holdings) → Each HasKinds f (at_head f first body h) first
    → Each HasKinds f (after_terms f first (at_head f first body h)) body
    → at_head f first body (at_head f first body h) ≡ at_head f first body h
head_stays f first body h one two = fun_ext (λ k. stays_if (terms_end body) h (turn h) (turn head) k (λ e. so k e))
  where
    head : Holdings
    head = at_head f first body h

    turn : Holdings → Holdings
    turn x = after_terms f body (after_terms f first x)

    knows : KnowsToo h head
    knows = knows_joined (terms_end body) h (turn h)

    tells : (known also : Bool) (k : ℕ) → Tells known also (head k) (h k) → Tells known also (turn head k) (turn h k)
    tells known also k t =
        through_then head (after_terms f first) (after_terms f body) (terms_tell f head first one)
        (terms_tell f (after_terms f first head) body two) head h (λ j kind e. e) knows known also k t

    so : (k : ℕ) → terms_end body ≡ false → either_way (either_way (h k) (turn h k)) (turn head k) ≡ either_way (h k) (turn h k)
    so k e = stays (h k) (turn h k) (turn head k)
        (tells false (turn h k).refers k (record { kind = λ is. absurd (let no : false ≡ true = is in cc); refers = from_head }))
        kinds
      where
        here : head k ≡ either_way (h k) (turn h k)
        here = ap (λ b. joined false b h (turn h) k) e

        from_head : (head k).refers ≡ true → ((h k).refers || (turn h k).refers) ≡ true
        from_head r = sym (ap (λ (x : SlotContent). x.refers) here) ∙ r

        kinds : (kind : Kind) → common_kind (h k).kind (turn h k).kind ≡ Some kind → (turn head k).kind ≡ Some kind
        kinds kind c =
            let both = common_each (h k).kind (turn h k).kind kind c in
            let of_head : (head k).kind ≡ Some kind = ap (λ (x : SlotContent). x.kind) here ∙ c in
            (tells true true k (record {
              kind = λ is other o. of_head ∙ sym both.0 ∙ o;
              refers = λ r. or_true (h k).refers;
            })).kind refl kind both.1

-- what slots hold after a turn, where that goes on, holds at the head
pub turn_holds : (f : StaticFrame) (first body : SilicaTerms) (h : Holdings) → Each HasKinds f (at_head f first body h) first
    → Each HasKinds f (after_terms f first (at_head f first body h)) body → terms_end body ≡ false
    → HoldToo (after_terms f body (after_terms f first (at_head f first body h))) (at_head f first body h)
turn_holds f first body h one two e k = record {
  kind = λ kind is. (common_each (head k).kind (turn k).kind kind (ap (λ (x : SlotContent). x.kind) same ∙ is)).1;
  refers = λ is. sym (ap (λ (x : SlotContent). x.refers) same) ∙ or_true_of (head k).refers (turn k).refers is;
}
  where
    head : Holdings
    head = at_head f first body h

    turn : Holdings
    turn = after_terms f body (after_terms f first head)

    same : either_way (head k) (turn k) ≡ head k
    same = sym (ap (λ b. joined false b head turn k) e) ∙ ap (λ (i : Holdings). i k) (head_stays f first body h one two)

    or_true_of : (p q : Bool) → q ≡ true → (p || q) ≡ true
    or_true_of true q is = refl
    or_true_of false q is = is
