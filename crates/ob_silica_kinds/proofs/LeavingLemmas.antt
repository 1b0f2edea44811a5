-- Slots that terms leave alone.
use Rattle.std.proofs.Common.{◌≡◌, ℕ, ◌+◌, ◌<◌, ◌≤◌, Bool, true, false, nat_eq, List, length, drop, get_or, Option, Some, None, refl, sym, ap, ◌∙◌, true≢false}
use Rattle.std.specs.Prelude.{◌||◌, if◌then◌else◌}
use Rattle.std.proofs.Math.ListN.{drop_of_length-le}
use Rattle.ob_table.specs.declared.seen.Kind.{Kind}
use Rattle.ob_table_spec.specs.WellFormed.{StaticFrame}
use Rattle.ob_silica.specs.Terms.{SilicaForm, unit_form, const_form, op_form, copy_form, move_form, new_form, call_form, call_this_form, change_form, test_form, if_form, loop_form, assert_form, disown_form, drop_form, return_form, revert_form, bad_row_form, SilicaTerms, no_terms, and_term}
use Rattle.ob_silica.specs.TermsView.{form_of, terms_of}
use Rattle.ob_silica.specs.declared.term.Term.{Term}
use Rattle.ob_silica_formed.specs.Holdings.{slot_written, kind_written, terms_end, common_kind}
use Rattle.ob_silica_kinds.specs.Kinds.{Kinds, holding, with_kind, joined_kinds, kinds_after_form, kinds_after}
use Rattle.ob_silica_kinds.specs.Leaving.{left_by_form, left_by}
use Rattle.ob_silica_kinds.proofs.KindsLemmas.{kinds_self}
use Rattle.ob_silica_kinds.proofs.TermsLemmas.{terms_dropped}

-- whether this is the slot, if there is one
abbrev slot_is : Option ℕ → ℕ → Bool
slot_is None k = false
slot_is (Some w) k = nat_eq k w

abbrev mutual
  -- whether a form sets or ends a slot
  pub form_writes : SilicaForm → ℕ → Bool
  form_writes (test_form place state branch other join) k = terms_write branch k || terms_write other k
  form_writes (if_form place branch other join) k = terms_write branch k || terms_write other k
  form_writes (loop_form first a body end) k = terms_write first k || terms_write body k
  form_writes form k = slot_is (slot_written form) k

  -- whether one of these does
  pub terms_write : SilicaTerms → ℕ → Bool
  terms_write no_terms k = false
  terms_write (and_term form span rest) k = form_writes form k || terms_write rest k

pub neither : (a b : Bool) → (a || b) ≡ false → (a ≡ false) × (b ≡ false)
neither true b e = absurd (true≢false e)
neither false b e = (refl, e)

none_known : (x : Kind) → ◌≡◌ {A = Option Kind} None (Some x) → ⊥
none_known x e = absurd cc

-- What is left is what was known, of slots that aren't set.

one_leaves : (here : Bool) (known : Option Kind) (x : Kind) → (if here then None else known) ≡ Some x
    → (here ≡ false) × (known ≡ Some x)
one_leaves true known x e = absurd (none_known x e)
one_leaves false known x e = (refl, e)

straight_leaves : (written : Option ℕ) (kinds : Kinds) (k : ℕ) (x : Kind) → with_kind written None kinds k ≡ Some x
    → (slot_is written k ≡ false) × (kinds k ≡ Some x)
straight_leaves None kinds k x e = (refl, e)
straight_leaves (Some w) kinds k x e = one_leaves (nat_eq k w) (kinds k) x e

both_leave : (a b : Bool) (known : Option Kind) (x : Kind) → b ≡ false → (a ≡ false) × (known ≡ Some x)
    → ((a || b) ≡ false) × (known ≡ Some x)
both_leave true b known x e l = absurd (true≢false l.0)
both_leave false b known x e l = (e, l.1)

mutual
  form_leaves : (form : SilicaForm) (kinds : Kinds) (k : ℕ) (x : Kind) → left_by_form form kinds k ≡ Some x
      → (form_writes form k ≡ false) × (kinds k ≡ Some x)
  form_leaves (test_form place state branch other join) kinds k x e =
      let later = terms_leave other (left_by branch kinds) k x e in
      both_leave (terms_write branch k) (terms_write other k) (kinds k) x later.0 (terms_leave branch kinds k x later.1)
  form_leaves (if_form place branch other join) kinds k x e =
      let later = terms_leave other (left_by branch kinds) k x e in
      both_leave (terms_write branch k) (terms_write other k) (kinds k) x later.0 (terms_leave branch kinds k x later.1)
  form_leaves (loop_form first a body end) kinds k x e =
      let later = terms_leave body (left_by first kinds) k x e in
      both_leave (terms_write first k) (terms_write body k) (kinds k) x later.0 (terms_leave first kinds k x later.1)
  form_leaves unit_form kinds k x e = straight_leaves (slot_written unit_form) kinds k x e
  form_leaves (const_form s v) kinds k x e = straight_leaves (slot_written (const_form s v)) kinds k x e
  form_leaves (op_form s o a b line) kinds k x e = straight_leaves (slot_written (op_form s o a b line)) kinds k x e
  form_leaves (copy_form to from) kinds k x e = straight_leaves (slot_written (copy_form to from)) kinds k x e
  form_leaves (move_form to from c) kinds k x e = straight_leaves (slot_written (move_form to from c)) kinds k x e
  form_leaves (new_form s c args) kinds k x e = straight_leaves (slot_written (new_form s c args)) kinds k x e
  form_leaves (call_form s o c tx args) kinds k x e = straight_leaves (slot_written (call_form s o c tx args)) kinds k x e
  form_leaves (call_this_form s tx args) kinds k x e = straight_leaves (slot_written (call_this_form s tx args)) kinds k x e
  form_leaves (change_form state given) kinds k x e = straight_leaves (slot_written (change_form state given)) kinds k x e
  form_leaves (assert_form o perm) kinds k x e = straight_leaves (slot_written (assert_form o perm)) kinds k x e
  form_leaves (disown_form o) kinds k x e = straight_leaves (slot_written (disown_form o)) kinds k x e
  form_leaves (drop_form s) kinds k x e = straight_leaves (slot_written (drop_form s)) kinds k x e
  form_leaves (return_form place) kinds k x e = straight_leaves (slot_written (return_form place)) kinds k x e
  form_leaves (revert_form o) kinds k x e = straight_leaves (slot_written (revert_form o)) kinds k x e
  form_leaves bad_row_form kinds k x e = straight_leaves (slot_written bad_row_form) kinds k x e

  pub terms_leave : (ts : SilicaTerms) (kinds : Kinds) (k : ℕ) (x : Kind) → left_by ts kinds k ≡ Some x
      → (terms_write ts k ≡ false) × (kinds k ≡ Some x)
  terms_leave no_terms kinds k x e = (refl, e)
  terms_leave (and_term form span rest) kinds k x e =
      let later = terms_leave rest (left_by_form form kinds) k x e in
      both_leave (form_writes form k) (terms_write rest k) (kinds k) x later.0 (form_leaves form kinds k x later.1)

-- The kind of a slot that isn't set stays.

one_left : (here : Bool) (to from : Option Kind) → here ≡ false → (if here then to else from) ≡ from
one_left true to from e = absurd (true≢false e)
one_left false to from e = refl

straight_left : (written : Option ℕ) (to : Option Kind) (kinds : Kinds) (k : ℕ) → slot_is written k ≡ false
    → with_kind written to kinds k ≡ kinds k
straight_left None to kinds k e = refl
straight_left (Some w) to kinds k e = one_left (nat_eq k w) to (kinds k) e

common_self : (known : Option Kind) → common_kind known known ≡ known
common_self None = refl
common_self (Some x) = ap (λ b. if b then Some x else None) (kinds_self x)

joined_left : (ends other_ends : Bool) (first second kinds : Kinds) (k : ℕ) → first k ≡ kinds k → second k ≡ kinds k
    → joined_kinds ends other_ends first second k ≡ kinds k
joined_left true o first second kinds k a b = b
joined_left false true first second kinds k a b = a
joined_left false false first second kinds k a b =
    ap (λ z. common_kind z (second k)) a ∙ ap (λ z. common_kind (kinds k) z) b ∙ common_self (kinds k)

mutual
  form_left : (f : StaticFrame) (form : SilicaForm) (kinds : Kinds) (k : ℕ) → form_writes form k ≡ false
      → kinds_after_form f form kinds k ≡ kinds k
  form_left f (test_form place state branch other join) kinds k e =
      let n = neither (terms_write branch k) (terms_write other k) e in
      joined_left (terms_end branch) (terms_end other) (kinds_after f branch kinds) (kinds_after f other kinds) kinds k
      (terms_left f branch kinds k n.0) (terms_left f other kinds k n.1)
  form_left f (if_form place branch other join) kinds k e =
      let n = neither (terms_write branch k) (terms_write other k) e in
      joined_left (terms_end branch) (terms_end other) (kinds_after f branch kinds) (kinds_after f other kinds) kinds k
      (terms_left f branch kinds k n.0) (terms_left f other kinds k n.1)
  form_left f (loop_form first a body end) kinds k e =
      let n = neither (terms_write first k) (terms_write body k) e in
      let turned = kinds_after f body (kinds_after f first kinds) in
      terms_left f first (joined_kinds false (terms_end body) kinds turned) k n.0
      ∙ joined_left false (terms_end body) kinds turned kinds k refl
      (terms_left f body (kinds_after f first kinds) k n.1 ∙ terms_left f first kinds k n.0)
  form_left f unit_form kinds k e =
      straight_left (slot_written unit_form) (kind_written f (holding kinds) unit_form) kinds k e
  form_left f (const_form s v) kinds k e =
      straight_left (slot_written (const_form s v)) (kind_written f (holding kinds) (const_form s v)) kinds k e
  form_left f (op_form s o a b line) kinds k e =
      straight_left (slot_written (op_form s o a b line)) (kind_written f (holding kinds) (op_form s o a b line)) kinds k e
  form_left f (copy_form to from) kinds k e =
      straight_left (slot_written (copy_form to from)) (kind_written f (holding kinds) (copy_form to from)) kinds k e
  form_left f (move_form to from c) kinds k e =
      straight_left (slot_written (move_form to from c)) (kind_written f (holding kinds) (move_form to from c)) kinds k e
  form_left f (new_form s c args) kinds k e =
      straight_left (slot_written (new_form s c args)) (kind_written f (holding kinds) (new_form s c args)) kinds k e
  form_left f (call_form s o c tx args) kinds k e =
      straight_left (slot_written (call_form s o c tx args)) (kind_written f (holding kinds) (call_form s o c tx args)) kinds k e
  form_left f (call_this_form s tx args) kinds k e =
      straight_left (slot_written (call_this_form s tx args)) (kind_written f (holding kinds) (call_this_form s tx args)) kinds k e
  form_left f (change_form state given) kinds k e =
      straight_left (slot_written (change_form state given)) (kind_written f (holding kinds) (change_form state given)) kinds k e
  form_left f (assert_form o perm) kinds k e =
      straight_left (slot_written (assert_form o perm)) (kind_written f (holding kinds) (assert_form o perm)) kinds k e
  form_left f (disown_form o) kinds k e =
      straight_left (slot_written (disown_form o)) (kind_written f (holding kinds) (disown_form o)) kinds k e
  form_left f (drop_form s) kinds k e =
      straight_left (slot_written (drop_form s)) (kind_written f (holding kinds) (drop_form s)) kinds k e
  form_left f (return_form place) kinds k e =
      straight_left (slot_written (return_form place)) (kind_written f (holding kinds) (return_form place)) kinds k e
  form_left f (revert_form o) kinds k e =
      straight_left (slot_written (revert_form o)) (kind_written f (holding kinds) (revert_form o)) kinds k e
  form_left f bad_row_form kinds k e =
      straight_left (slot_written bad_row_form) (kind_written f (holding kinds) bad_row_form) kinds k e

  pub terms_left : (f : StaticFrame) (ts : SilicaTerms) (kinds : Kinds) (k : ℕ) → terms_write ts k ≡ false
      → kinds_after f ts kinds k ≡ kinds k
  terms_left f no_terms kinds k e = refl
  terms_left f (and_term form span rest) kinds k e =
      let n = neither (form_writes form k) (terms_write rest k) e in
      terms_left f rest (kinds_after_form f form kinds) k n.1 ∙ form_left f form kinds k n.0

-- Terms, turn by turn.

-- one term more
pub left_turn : (xs : List Term) (i : ℕ) (t : Term) (kinds next whole : Kinds) → i < length xs → t ≡ get_or xs i t
    → next ≡ left_by_form (form_of t.form) kinds
    → left_by (terms_of (drop i xs)) kinds ≡ whole
    → left_by (terms_of (drop (i + 1) xs)) next ≡ whole
left_turn xs i t kinds next whole h is n e =
    ap (λ ks. left_by (terms_of (drop (i + 1) xs)) ks) n
    ∙ sym (ap (λ ts. left_by ts kinds) (terms_dropped xs i t h is))
    ∙ e

-- no term is left
pub left_done : (xs : List Term) (i : ℕ) (kinds whole : Kinds) → length xs ≤ i
    → left_by (terms_of (drop i xs)) kinds ≡ whole → kinds ≡ whole
left_done xs i kinds whole h e = sym (ap (λ ts. left_by (terms_of ts) kinds) (drop_of_length-le xs h)) ∙ e
