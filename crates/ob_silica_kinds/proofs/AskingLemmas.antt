-- What a slot holds after terms is as asked.
use Rattle.std.proofs.Common.{◌≡◌, ℕ, ◌+◌, ◌-◌, ◌<◌, ◌≤◌, Bool, true, false, nat_eq, List, length, drop, get_or, Option, Some, None, refl, sym, ap, ◌∙◌, subst, arith, eqb-true, true≢false}
use Rattle.std.specs.Prelude.{◌&&◌, ⊤, IfSome, is_some, if◌then◌else◌}
use Rattle.std.proofs.lemmas.Bool.{eq-eqb}
use Rattle.std.proofs.Math.ListN.{drop_of_length-le}
use Rattle.ob_base.specs.declared.id.ContractId.{ContractId}
use Rattle.ob_table.specs.declared.seen.Kind.{Kind}
use Rattle.ob_table.specs.declared.seen.Kind.TheVariants.{Int, Bool as BoolKind, Text, Reference}
use Rattle.ob_table_spec.specs.WellFormed.{StaticFrame}
use Rattle.ob_silica.specs.Terms.{SilicaForm, unit_form, const_form, op_form, copy_form, move_form, new_form, call_form, call_this_form, change_form, test_form, if_form, loop_form, assert_form, disown_form, drop_form, return_form, revert_form, bad_row_form, SilicaTerms, no_terms, and_term}
use Rattle.ob_silica.specs.TermsView.{form_of, terms_of}
use Rattle.ob_silica.specs.declared.term.Term.{Term}
use Rattle.ob_silica.specs.declared.place.Place.{Place}
use Rattle.ob_silica.specs.declared.place.Place.TheVariants.{This, Slot, Field}
use Rattle.ob_silica_formed.specs.Holdings.{kind_of_place, slot_written, kind_written, terms_end, kinds_equal, common_kind}
use Rattle.ob_silica_kinds.specs.Kinds.{Kinds, holding, nothing_held, has_kind, with_kind, joined_kinds, kinds_after_form, kinds_after, kinds_turned}
use Rattle.ob_silica_kinds.specs.Asking.{settled, both, is_same, joined_holds, before, at_place, written_holds, asked_slot, straight_holds, unless_left, form_holds, terms_hold, terms_asked, turn_holds, told}
use Rattle.ob_silica_kinds.specs.Leaving.{left_by}
use Rattle.ob_silica_kinds.specs.declared.asking.Holds.{Holds}
use Rattle.ob_silica_kinds.specs.declared.asking.Holds.TheVariants.{Always, Never, As, Unclear}
use Rattle.ob_silica_kinds.proofs.KindsLemmas.{kinds_self}
use Rattle.ob_silica_kinds.proofs.TermsLemmas.{terms_dropped}
use Rattle.ob_silica_kinds.proofs.LeavingLemmas.{form_writes, terms_write, neither, terms_left, terms_leave}

-- Kinds.

kinds_same : (a b : Kind) → kinds_equal a b ≡ true → a ≡ b
kinds_same Int Int e = refl
kinds_same BoolKind BoolKind e = refl
kinds_same Text Text e = refl
kinds_same (Reference c) (Reference d) e = ap (λ n. let made : ContractId = record { 0 = n } in Reference made) (eqb-true c.0 d.0 e)
kinds_same a b e = absurd cc

and_self : (a : Bool) → a ≡ (a && a)
and_self true = refl
and_self false = refl

and_true : (a : Bool) → (a && true) ≡ a
and_true true = refl
and_true false = refl

and_false : (a : Bool) → (a && false) ≡ false
and_false true = refl
and_false false = refl

-- no kind is each of two that differ
apart : (kind a b : Kind) (x y : Bool) → kinds_equal a b ≡ false → kinds_equal kind a ≡ x → kinds_equal kind b ≡ y → false ≡ (x && y)
apart kind a b true true e p q = absurd (true≢false (sym (kinds_self a)
    ∙ ap (λ z. kinds_equal a z) (sym (kinds_same kind a p) ∙ kinds_same kind b q) ∙ e))
apart kind a b true false e p q = refl
apart kind a b false y e p q = refl

has_same : (kind a b : Kind) (same : Bool) → kinds_equal a b ≡ same
    → has_kind kind (if same then Some a else None) ≡ (kinds_equal kind a && kinds_equal kind b)
has_same kind a b true e = and_self (kinds_equal kind a) ∙ ap (λ z. kinds_equal kind a && kinds_equal kind z) (kinds_same a b e)
has_same kind a b false e = apart kind a b (kinds_equal kind a) (kinds_equal kind b) e refl refl

-- a value is of a kind after two ways where it is so after each
has_common : (kind : Kind) (a b : Option Kind) → has_kind kind (common_kind a b) ≡ (has_kind kind a && has_kind kind b)
has_common kind None b = refl
has_common kind (Some a) None = sym (and_false (kinds_equal kind a))
has_common kind (Some a) (Some b) = has_same kind a b (kinds_equal a b) refl

-- What an answer says.

-- of whether a slot holds a value of the kind, where slots hold values of these kinds before
abbrev Says : Holds → Kind → Kinds → Bool → Type 0
Says Always kind kinds is_so = is_so ≡ true
Says Never kind kinds is_so = is_so ≡ false
Says (As k) kind kinds is_so = is_so ≡ has_kind kind (kinds k)
Says Unclear kind kinds is_so = ⊤

says_of : (h : Holds) (kind : Kind) (kinds : Kinds) (x y : Bool) → y ≡ x → Says h kind kinds x → Says h kind kinds y
says_of Always kind kinds x y e s = e ∙ s
says_of Never kind kinds x y e s = e ∙ s
says_of (As k) kind kinds x y e s = e ∙ s
says_of Unclear kind kinds x y e s = tt

settled_says : (is_so : Bool) (kind : Kind) (kinds : Kinds) → Says (settled is_so) kind kinds is_so
settled_says true kind kinds = refl
settled_says false kind kinds = refl

as_says : (i j : ℕ) (kind : Kind) (kinds : Kinds) (x y same : Bool) → nat_eq i j ≡ same
    → x ≡ has_kind kind (kinds i) → y ≡ has_kind kind (kinds j) → Says (if same then As i else Unclear) kind kinds (x && y)
as_says i j kind kinds x y true e p q =
    ap (λ z. z && y) p
    ∙ ap (λ z. has_kind kind (kinds i) && z) (q ∙ ap (λ n. has_kind kind (kinds n)) (sym (eqb-true i j e)))
    ∙ sym (and_self (has_kind kind (kinds i)))
as_says i j kind kinds x y false e p q = tt

both_says : (a b : Holds) (kind : Kind) (kinds : Kinds) (x y : Bool) → Says a kind kinds x → Says b kind kinds y
    → Says (both a b) kind kinds (x && y)
both_says Always b kind kinds x y p q = says_of b kind kinds y (x && y) (ap (λ z. z && y) p) q
both_says Never b kind kinds x y p q = ap (λ z. z && y) p
both_says (As i) Always kind kinds x y p q = ap (λ z. x && z) q ∙ and_true x ∙ p
both_says (As i) Never kind kinds x y p q = ap (λ z. x && z) q ∙ and_false x
both_says (As i) (As j) kind kinds x y p q = as_says i j kind kinds x y (nat_eq i j) refl p q
both_says (As i) Unclear kind kinds x y p q = tt
both_says Unclear Always kind kinds x y p q = tt
both_says Unclear Never kind kinds x y p q = ap (λ z. x && z) q ∙ and_false x
both_says Unclear (As j) kind kinds x y p q = tt
both_says Unclear Unclear kind kinds x y p q = tt

joined_says : (ends other_ends : Bool) (a b : Holds) (kind : Kind) (kinds first second : Kinds) (k : ℕ)
    → Says a kind kinds (has_kind kind (first k)) → Says b kind kinds (has_kind kind (second k))
    → Says (joined_holds ends other_ends a b) kind kinds (has_kind kind (joined_kinds ends other_ends first second k))
joined_says true o a b kind kinds first second k p q = q
joined_says false true a b kind kinds first second k p q = p
joined_says false false a b kind kinds first second k p q =
    says_of (both a b) kind kinds (has_kind kind (first k) && has_kind kind (second k)) (has_kind kind (common_kind (first k) (second k)))
    (has_common kind (first k) (second k))
    (both_says a b kind kinds (has_kind kind (first k)) (has_kind kind (second k)) p q)

before_says : (h : Holds) (asked : ℕ → Holds) (kind : Kind) (kinds between : Kinds) (x : Bool) → Says h kind between x
    → ((j : ℕ) → Says (asked j) kind kinds (has_kind kind (between j))) → Says (before h asked) kind kinds x
before_says Always asked kind kinds between x s all = s
before_says Never asked kind kinds between x s all = s
before_says (As j) asked kind kinds between x s all = says_of (asked j) kind kinds (has_kind kind (between j)) x s (all j)
before_says Unclear asked kind kinds between x s all = tt

-- Forms without branches.

asked_one : (here : Bool) (there : Holds) (known : Option Kind) (kind : Kind) (kinds : Kinds) (k : ℕ)
    → Says there kind kinds (has_kind kind known)
    → Says (if here then there else As k) kind kinds (has_kind kind (if here then known else kinds k))
asked_one true there known kind kinds k s = s
asked_one false there known kind kinds k s = refl

asked_says : (written : Option ℕ) (there : Holds) (known : Option Kind) (kind : Kind) (kinds : Kinds) (k : ℕ)
    → Says there kind kinds (has_kind kind known)
    → Says (asked_slot written there k) kind kinds (has_kind kind (with_kind written known kinds k))
asked_says None there known kind kinds k s = refl
asked_says (Some w) there known kind kinds k s = asked_one (nat_eq k w) there known kind kinds k s

place_says : (f : StaticFrame) (kind : Kind) (kinds : Kinds) (place : Place)
    → Says (at_place f kind place) kind kinds (has_kind kind (kind_of_place f (holding kinds) place))
place_says f kind kinds This = settled_says (has_kind kind (kind_of_place f nothing_held This)) kind kinds
place_says f kind kinds (Slot k) = refl
place_says f kind kinds (Field id) = settled_says (has_kind kind (kind_of_place f nothing_held (Field id))) kind kinds

straight_says : (f : StaticFrame) (kind : Kind) (form : SilicaForm) (kinds : Kinds) (k : ℕ)
    → Says (written_holds f kind form) kind kinds (has_kind kind (kind_written f (holding kinds) form))
    → Says (straight_holds f kind form k) kind kinds
    (has_kind kind (with_kind (slot_written form) (kind_written f (holding kinds) form) kinds k))
straight_says f kind form kinds k s =
    asked_says (slot_written form) (written_holds f kind form) (kind_written f (holding kinds) form) kind kinds k s

made_says : (f : StaticFrame) (kind : Kind) (form : SilicaForm) (kinds : Kinds)
    → Says (settled (has_kind kind (kind_written f nothing_held form))) kind kinds (has_kind kind (kind_written f nothing_held form))
made_says f kind form kinds = settled_says (has_kind kind (kind_written f nothing_held form)) kind kinds

-- Forms and terms.

-- each slot that is known in the kinds that are left is left alone by the terms
abbrev Leaves : Kinds → SilicaTerms → Type 0
Leaves left ts = (k : ℕ) (x : Kind) → left k ≡ Some x → terms_write ts k ≡ false

abbrev LeavesForm : Kinds → SilicaForm → Type 0
LeavesForm left form = (k : ℕ) (x : Kind) → left k ≡ Some x → form_writes form k ≡ false

pruned_says : (left : Kinds) (f : StaticFrame) (kind : Kind) (ts : SilicaTerms) (kinds : Kinds) (k : ℕ) (known : Option Kind)
    → left k ≡ known → Leaves left ts → Says (terms_asked left f kind ts k) kind kinds (has_kind kind (kinds_after f ts kinds k))
    → Says (if is_some known then As k else terms_asked left f kind ts k) kind kinds (has_kind kind (kinds_after f ts kinds k))
pruned_says left f kind ts kinds k None e leaves s = s
pruned_says left f kind ts kinds k (Some x) e leaves s = ap (λ z. has_kind kind z) (terms_left f ts kinds k (leaves k x e))

mutual
  form_says : (left : Kinds) (f : StaticFrame) (kind : Kind) (form : SilicaForm) (kinds : Kinds) (k : ℕ) → LeavesForm left form
      → Says (form_holds left f kind form k) kind kinds (has_kind kind (kinds_after_form f form kinds k))
  form_says left f kind unit_form kinds k leaves = straight_says f kind unit_form kinds k (made_says f kind unit_form kinds)
  form_says left f kind (const_form s v) kinds k leaves =
      straight_says f kind (const_form s v) kinds k (made_says f kind (const_form s v) kinds)
  form_says left f kind (op_form s o a b line) kinds k leaves =
      straight_says f kind (op_form s o a b line) kinds k (made_says f kind (op_form s o a b line) kinds)
  form_says left f kind (copy_form to from) kinds k leaves =
      straight_says f kind (copy_form to from) kinds k (place_says f kind kinds from.place)
  form_says left f kind (move_form to from c) kinds k leaves =
      straight_says f kind (move_form to from c) kinds k (made_says f kind (move_form to from c) kinds)
  form_says left f kind (new_form s c args) kinds k leaves =
      straight_says f kind (new_form s c args) kinds k (made_says f kind (new_form s c args) kinds)
  form_says left f kind (call_form s o c tx args) kinds k leaves =
      straight_says f kind (call_form s o c tx args) kinds k (made_says f kind (call_form s o c tx args) kinds)
  form_says left f kind (call_this_form s tx args) kinds k leaves =
      straight_says f kind (call_this_form s tx args) kinds k (made_says f kind (call_this_form s tx args) kinds)
  form_says left f kind (change_form state given) kinds k leaves = refl
  form_says left f kind (test_form place state branch other join) kinds k leaves =
      let of_branch : Leaves left branch = λ j x e. (neither (terms_write branch j) (terms_write other j) (leaves j x e)).0 in
      let of_other : Leaves left other = λ j x e. (neither (terms_write branch j) (terms_write other j) (leaves j x e)).1 in
      joined_says (terms_end branch) (terms_end other) (terms_hold left f kind branch k) (terms_hold left f kind other k) kind kinds
      (kinds_after f branch kinds) (kinds_after f other kinds) k
      (pruned_says left f kind branch kinds k (left k) refl of_branch (asked_say left f kind branch kinds k of_branch))
      (pruned_says left f kind other kinds k (left k) refl of_other (asked_say left f kind other kinds k of_other))
  form_says left f kind (if_form place branch other join) kinds k leaves =
      let of_branch : Leaves left branch = λ j x e. (neither (terms_write branch j) (terms_write other j) (leaves j x e)).0 in
      let of_other : Leaves left other = λ j x e. (neither (terms_write branch j) (terms_write other j) (leaves j x e)).1 in
      joined_says (terms_end branch) (terms_end other) (terms_hold left f kind branch k) (terms_hold left f kind other k) kind kinds
      (kinds_after f branch kinds) (kinds_after f other kinds) k
      (pruned_says left f kind branch kinds k (left k) refl of_branch (asked_say left f kind branch kinds k of_branch))
      (pruned_says left f kind other kinds k (left k) refl of_other (asked_say left f kind other kinds k of_other))
  form_says left f kind (loop_form first a body end) kinds k leaves =
      let head = joined_kinds false (terms_end body) kinds (kinds_after f body (kinds_after f first kinds)) in
      let of_first : Leaves left first = λ j x e. (neither (terms_write first j) (terms_write body j) (leaves j x e)).0 in
      let of_body : Leaves left body = λ j x e. (neither (terms_write first j) (terms_write body j) (leaves j x e)).1 in
      before_says (terms_hold left f kind first k)
      (λ j. joined_holds false (terms_end body) (As j) (before (terms_hold left f kind body j) (λ i. terms_hold left f kind first i)))
      kind kinds head (has_kind kind (kinds_after f first head k))
      (pruned_says left f kind first head k (left k) refl of_first (asked_say left f kind first head k of_first))
      (λ j. joined_says false (terms_end body) (As j)
      (before (terms_hold left f kind body j) (λ i. terms_hold left f kind first i)) kind kinds
      kinds (kinds_after f body (kinds_after f first kinds)) j refl
      (before_says (terms_hold left f kind body j) (λ i. terms_hold left f kind first i) kind kinds (kinds_after f first kinds)
      (has_kind kind (kinds_after f body (kinds_after f first kinds) j))
      (pruned_says left f kind body (kinds_after f first kinds) j (left j) refl of_body
      (asked_say left f kind body (kinds_after f first kinds) j of_body))
      (λ i. pruned_says left f kind first kinds i (left i) refl of_first (asked_say left f kind first kinds i of_first))))
  form_says left f kind (assert_form o perm) kinds k leaves = refl
  form_says left f kind (disown_form o) kinds k leaves = refl
  form_says left f kind (drop_form s) kinds k leaves = straight_says f kind (drop_form s) kinds k (made_says f kind (drop_form s) kinds)
  form_says left f kind (return_form place) kinds k leaves = refl
  form_says left f kind (revert_form o) kinds k leaves = refl
  form_says left f kind bad_row_form kinds k leaves = refl

  asked_say : (left : Kinds) (f : StaticFrame) (kind : Kind) (ts : SilicaTerms) (kinds : Kinds) (k : ℕ) → Leaves left ts
      → Says (terms_asked left f kind ts k) kind kinds (has_kind kind (kinds_after f ts kinds k))
  asked_say left f kind no_terms kinds k leaves = refl
  asked_say left f kind (and_term form span rest) kinds k leaves =
      before_says (terms_asked left f kind rest k) (λ j. form_holds left f kind form j) kind kinds (kinds_after_form f form kinds)
      (has_kind kind (kinds_after f rest (kinds_after_form f form kinds) k))
      (asked_say left f kind rest (kinds_after_form f form kinds) k
      (λ j x e. (neither (form_writes form j) (terms_write rest j) (leaves j x e)).1))
      (λ j. form_says left f kind form kinds j (λ i x e. (neither (form_writes form i) (terms_write rest i) (leaves i x e)).0))

terms_say : (left : Kinds) (f : StaticFrame) (kind : Kind) (ts : SilicaTerms) (kinds : Kinds) (k : ℕ) → Leaves left ts
    → Says (terms_hold left f kind ts k) kind kinds (has_kind kind (kinds_after f ts kinds k))
terms_say left f kind ts kinds k leaves =
    pruned_says left f kind ts kinds k (left k) refl leaves (asked_say left f kind ts kinds k leaves)

turn_says : (left : Kinds) (f : StaticFrame) (kind : Kind) (first body : SilicaTerms) (kinds : Kinds) (k : ℕ)
    → Leaves left first → Leaves left body
    → Says (turn_holds left f kind first body k) kind kinds (has_kind kind (kinds_turned f first body kinds k))
turn_says left f kind first body kinds k of_first of_body =
    before_says (terms_hold left f kind body k) (λ i. terms_hold left f kind first i) kind kinds (kinds_after f first kinds)
    (has_kind kind (kinds_turned f first body kinds k)) (terms_say left f kind body (kinds_after f first kinds) k of_body)
    (λ i. terms_say left f kind first kinds i of_first)

-- At the head of a loop.

common_has : (kind : Kind) (known : Option Kind) → (if has_kind kind known then Some kind else None) ≡ common_kind (Some kind) known
common_has kind None = refl
common_has kind (Some other) = refl

told_common : (h : Holds) (kind : Kind) (kinds : Kinds) (here known : Option Kind) → here ≡ Some kind
    → Says h kind kinds (has_kind kind known) → IfSome (told kind h kinds) (λ found. found ≡ common_kind here known)
told_common Always kind kinds here known e s = ap (λ b. if b then Some kind else None) (sym s) ∙ common_has kind known
    ∙ ap (λ z. common_kind z known) (sym e)
told_common Never kind kinds here known e s = ap (λ b. if b then Some kind else None) (sym s) ∙ common_has kind known
    ∙ ap (λ z. common_kind z known) (sym e)
told_common (As k) kind kinds here known e s = ap (λ b. if b then Some kind else None) (sym s) ∙ common_has kind known
    ∙ ap (λ z. common_kind z known) (sym e)
told_common Unclear kind kinds here known e s = tt

-- what is told of a slot is so after the loop and a turn
pub slot_told : (left : Kinds) (f : StaticFrame) (kind : Kind) (first body : SilicaTerms) (kinds : Kinds) (k : ℕ) (h : Holds)
    (found : Option (Option Kind)) → left ≡ left_by body (left_by first kinds) → kinds k ≡ Some kind
    → h ≡ turn_holds left f kind first body k → found ≡ told kind h kinds
    → IfSome found (λ x. x ≡ common_kind (kinds k) (kinds_turned f first body kinds k))
slot_told left f kind first body kinds k h found alone here asked is =
    let of_body : Leaves left body = λ j x e. (terms_leave body (left_by first kinds) j x (sym (ap (λ g. g j) alone) ∙ e)).0 in
    let of_first : Leaves left first = λ j x e.
    (terms_leave first kinds j x (terms_leave body (left_by first kinds) j x (sym (ap (λ g. g j) alone) ∙ e)).1).0 in
    subst (λ z. IfSome z (λ x. x ≡ common_kind (kinds k) (kinds_turned f first body kinds k)))
    (sym (is ∙ ap (λ z. told kind z kinds) asked))
    (told_common (turn_holds left f kind first body k) kind kinds (kinds k) (kinds_turned f first body kinds k) here
    (turn_says left f kind first body kinds k of_first of_body))

-- Branches of which the same is so.

same_is : (a b : Holds) → is_same a b ≡ true → a ≡ b
same_is Always Always e = refl
same_is Never Never e = refl
same_is (As i) (As j) e = ap As (eqb-true i j e)
same_is Unclear Unclear e = refl
same_is a b e = absurd cc

joined_self : (ends other_ends : Bool) (a : Holds) → a ≡ joined_holds ends other_ends a a
joined_self true o a = refl
joined_self false true a = refl
joined_self false false Always = refl
joined_self false false Never = refl
joined_self false false (As i) = ap (λ b. if b then As i else Unclear) (sym (eq-eqb i i refl))
joined_self false false Unclear = refl

pub joined_same : (ends other_ends : Bool) (a b : Holds) → is_same a b ≡ true → a ≡ joined_holds ends other_ends a b
joined_same ends o a b e = joined_self ends o a ∙ ap (λ z. joined_holds ends o a z) (same_is a b e)

-- Terms, from the last back.

pub none_asked : (left : Kinds) (f : StaticFrame) (kind : Kind) (xs : List Term) (i k : ℕ) → length xs ≤ i
    → As k ≡ terms_asked left f kind (terms_of (drop i xs)) k
none_asked left f kind xs i k h = sym (ap (λ ts. terms_asked left f kind (terms_of ts) k) (drop_of_length-le xs h))

-- one more is asked
pub one_asked : (left : Kinds) (f : StaticFrame) (kind : Kind) (xs : List Term) (p k : ℕ) (t : Term) (h : Holds) → 0 < p
    → p ≤ length xs → t ≡ get_or xs (p - 1) t → h ≡ terms_asked left f kind (terms_of (drop p xs)) k
    → before h (λ j. form_holds left f kind (form_of t.form) j) ≡ terms_asked left f kind (terms_of (drop (p - 1) xs)) k
one_asked left f kind xs p k t h pos within is e =
    let l : p - 1 < length xs = omega arith in
    let s : p - 1 + 1 ≡ p = omega arith in
    ap (λ z. before z (λ j. form_holds left f kind (form_of t.form) j))
    (e ∙ ap (λ n. terms_asked left f kind (terms_of (drop n xs)) k) (sym s))
    ∙ sym (ap (λ ts. terms_asked left f kind ts k) (terms_dropped xs (p - 1) t l is))

-- what depends on no slot is so before each term
pub is_settled : (h : Holds) (asked : ℕ → Holds) → ((k : ℕ) → h ≡ As k → ⊥) → h ≡ before h asked
is_settled Always asked other = refl
is_settled Never asked other = refl
is_settled (As k) asked other = absurd (other k refl)
is_settled Unclear asked other = refl

-- of a slot that isn't left alone, what is asked
pub unless_asked : (left : Kinds) (k : ℕ) (asked : Holds) → is_some (left k) ≡ false → asked ≡ unless_left left k asked
unless_asked left k asked e = sym (ap (λ b. if b then As k else asked) e)
