-- The terms of an expression are well-formed.
use Rattle.std.proofs.Common.{◌≡◌, ℕ, ◌<◌, Bool, true, false, ◌&&◌, ◌||◌, List, [], ◌∷◌, ◌++◌, Option, Some, None, option_map, option_and_then, IfSome, IsSomeAnd, IsSome, refl, sym, ap, ◌∙◌, subst, ◌⊎◌, inl, inr, true≢false, is_some}
use Rattle.std.specs.Prelude.{IsTrue, slice_get, if◌then◌else◌}
use Rattle.ob_base.specs.declared.fault.Span.{Span}
use Rattle.ob_base.specs.declared.id.ContractId.{ContractId}
use Rattle.ob_base.specs.declared.id.TxId.{TxId}
use Rattle.ob_table.specs.declared.operator.UnaryOperator.{UnaryOperator}
use Rattle.ob_table.specs.declared.operator.UnaryOperator.TheVariants.{Not, Negate}
use Rattle.ob_table.specs.declared.operator.BinaryOperator.{BinaryOperator}
use Rattle.ob_table.specs.declared.operator.BinaryOperator.TheVariants.{Add, Sub, Mul, Div, Rem, Equal, NotEqual}
use Rattle.ob_table.specs.declared.operator.LogicalOperator.{LogicalOperator}
use Rattle.ob_table.specs.declared.operator.LogicalOperator.TheVariants.{And, Or}
use Rattle.ob_table.specs.Expressions.{Expression, resolved_number, resolved_text, resolved_bool, resolved_seen, resolved_unary, resolved_binary, resolved_logical, resolved_call, resolved_new, Arguments as Args, no_arguments, and_argument}
use Rattle.ob_table.specs.Tables.{ClassTable, contract_at, signature_of}
use Rattle.ob_table.specs.declared.contract.Contract.{Contract}
use Rattle.ob_table.specs.declared.contract.Param.{Param}
use Rattle.ob_table.specs.declared.contract.Signature.{Signature}
use Rattle.ob_table.specs.declared.seen.Kind.{Kind}
use Rattle.ob_table.specs.declared.seen.Kind.TheVariants.{Int, Bool as BoolKind, Text, Reference}
use Rattle.ob_table.specs.declared.seen.Seen.{Seen}
use Rattle.ob_table.specs.declared.seen.Seen.TheVariants.{This as ThisSeen, Local, Field as FieldSeen}
use Rattle.ob_table.specs.declared.seen.SeenAt.{SeenAt}
use Rattle.ob_table_spec.specs.WellFormed.{StaticFrame, LocalKinds, local_kind, kind_of_seen, kind_of_expression, kind_of_unary, kind_of_binary, kind_of_resolved, is_reference, is_constructor, constructor_at, serves_as, ServesAs, HasOperands, PassTo, IsCalled, IsWellFormedExpression, AreWellFormedArguments}
use Rattle.ob_silica.specs.Terms.{SilicaForm, const_form, op_form, copy_form, new_form, call_this_form, if_form, SilicaTerms, no_terms, one_term, then_terms}
use Rattle.ob_silica.specs.declared.place.Constant.TheVariants.{Int as IntConstant, Bool as BoolConstant, Text as TextConstant}
use Rattle.ob_silica.specs.declared.place.Operand.{Operand}
use Rattle.ob_silica.specs.declared.place.Place.{Place}
use Rattle.ob_silica.specs.declared.place.Place.TheVariants.{Slot}
use Rattle.ob_silica.specs.declared.term.SilicaOperator.{SilicaOperator}
use Rattle.ob_silica.specs.declared.term.SilicaOperator.TheVariants.{Unary, Binary}
use Rattle.ob_silica_places.specs.Known.{kind_of_operator}
use Rattle.ob_silica_formed.specs.Holdings.{SlotContent, held, Holdings, kind_of_place, kind_of_operand, slot_of_place, slot_written, kind_written, kind_of_result, after_terms, terms_end, joined}
use Rattle.ob_silica_formed.specs.Points.{IsConstant, IsPlace, HasKind, HaveOperands, ArePassed}
use Rattle.ob_lower_spec.specs.Forms.{SlotVariable, locals_of, slot_of, place_seen, AroundExpression, operand}
use Rattle.ob_lower_spec.specs.Points.{IsFree, Temporary, in_use, references}
use Rattle.ob_lower_spec.specs.ExpressionTerms.{Lowered, LoweredArguments, into, LowersName, IsCall, calls_this, calls_other, copied_into, logical_into, LowersExpression, LowersArguments}
use Rattle.ob_lower_formed.proofs.Sets.{among, free_among, among_left, among_split, apart_both, slots_made, made_append, references_append, Within, within_self, within_left, within_right, within_first, within_second}
use Rattle.ob_lower_formed.proofs.Ways.{IsWellFormedForm, after_then}
use Rattle.ob_lower_formed.proofs.Effects.{Quiet, kept_self, after_on, set_at, held_by, either_of, Leaves, runs_of, leaves_of, none_leaves, leaves_more, then_leaves, Plain, set_leaves, set_after, if_runs}
use Rattle.ob_lower_formed.proofs.Operands.{some_so, and_so, if_so, none_some, some_same, Stands, own_slot, stands_made, Holds, holds_on, place_there, Serving, serving_on, has_kind, Arguments, arguments_on, arguments_pass, arguments_there, Fresh, fresh_none, fresh_append, fresh_apart, Gave, into_gave, copy_plain}

-- Names.

slot_named : (f : StaticFrame) (vs : List SlotVariable) (used : List ℕ) (h : Holdings) (n : ℕ) (o : Option ℕ) (place : Place) (kind : Kind)
    → Stands f vs used h → slot_of vs n ≡ o → option_map Slot o ≡ Some place → local_kind (locals_of vs) n ≡ Some kind → Holds f used h place kind
slot_named f vs used h n None place kind s e p k = absurd (none_some p)
slot_named f vs used h n (Some j) place kind s e p k =
    let x = s.sees n j e in
    subst (λ q. Holds f used h q kind) (some_same p)
    (record { is = ap (λ (o : SlotContent). o.kind) x.holds ∙ sym x.is ∙ k; inside = x.inside })

-- a name's place holds what the name denotes
pub name_holds : {f : StaticFrame} {vs : List SlotVariable} {used : List ℕ} {h : Holdings} (seen : Seen) (place : Place) (kind : Kind)
    → Stands f vs used h → place_seen vs seen ≡ Some place → kind_of_seen f (locals_of vs) seen ≡ Some kind → Holds f used h place kind
name_holds {f} {vs} {used} {h} ThisSeen place kind s p k =
    subst (λ q. Holds f used h q kind) (some_same p) (record { is = k; inside = tt })
name_holds {f} {vs} {used} {h} (Local n) place kind s p k = slot_named f vs used h n (slot_of vs n) place kind s refl p k
name_holds {f} {vs} {used} {h} (FieldSeen id) place kind s p k =
    subst (λ q. Holds f used h q kind) (some_same p) (record { is = k; inside = tt })

-- Kinds.

pub serves_bool : (table : ClassTable) (kind : Kind) → serves_as table BoolKind kind ≡ true → BoolKind ≡ kind
serves_bool table Int e = absurd (true≢false (sym e))
serves_bool table BoolKind e = refl
serves_bool table Text e = absurd (true≢false (sym e))
serves_bool table (Reference c) e = absurd (true≢false (sym e))

pub serving_of : {f : StaticFrame} {used : List ℕ} {h : Holdings} {wanted : Kind} (place : Place) (kind : Kind) → Holds f used h place kind
    → serves_as f.table wanted kind ≡ true → Serving f used h wanted place
serving_of place kind x e = record { kind = kind; holds = x; serves = e }

unary_plain : (o : UnaryOperator) → is_reference (kind_of_unary o) ≡ false
unary_plain Not = refl
unary_plain Negate = refl

binary_plain : (o : BinaryOperator) → is_reference (kind_of_binary o) ≡ false
binary_plain Add = refl
binary_plain Sub = refl
binary_plain Mul = refl
binary_plain Div = refl
binary_plain Rem = refl
binary_plain o = refl

-- Calls.

pub new_plain : {f : StaticFrame} {h : Holdings} {used : List ℕ} (k : ℕ) (contract : ContractId) (os : List Operand) (s : Signature)
    → constructor_at f.table contract ≡ Some s → Arguments f used h s.params os → f.params < k → (h k).refers ≡ false → Plain f h (new_form k contract os)
new_plain {f} {h} {used} k contract os s there args own quiet = record {
  well_formed = record {
    numbers = (contract_there (contract_at f.table contract) there, arguments_there args);
    kinds = if_so (constructor_at f.table contract) (λ s. ArePassed f h s.params os) s there (arguments_pass args);
    results = tt;
    params = own;
    references = quiet;
    bodies = no_interface (contract_at f.table contract) there;
    returns = tt;
    turns = tt;
  };
  within = tt;
  follows = tt;
  after = refl;
  goes_on = refl;
}
  where
    contract_there : (o : Option Contract) → option_and_then (λ c. if c.interface then None else slice_get c.transactions 0) o ≡ Some s → IsSome o
    contract_there None e = absurd (none_some e)
    contract_there (Some c) e = refl

    by_interface : (b : Bool) (o : Option Signature) → (if b then None else o) ≡ Some s → b ≡ false
    by_interface true o e = absurd (none_some e)
    by_interface false o e = refl

    no_interface : (o : Option Contract) → option_and_then (λ c. if c.interface then None else slice_get c.transactions 0) o ≡ Some s → IfSome o (λ c. c.interface ≡ false)
    no_interface None e = tt
    no_interface (Some c) e = by_interface c.interface (slice_get c.transactions 0) e

-- a well-formed call
pub record Called (f : StaticFrame) (h : Holdings) (k : Option ℕ) (contract : ContractId) (tx : TxId) (form : SilicaForm) : Type 0 where
  pub plain : Plain f h form
  pub slot : slot_written form ≡ k
  pub kind : kind_written f h form ≡ kind_of_result f contract tx

pub call_made : {f : StaticFrame} {vs : List SlotVariable} (ws : LocalKinds) {used : List ℕ} {h : Holdings} (at : Span) (agree : (seen : Seen) → kind_of_seen f ws seen ≡ kind_of_seen f (locals_of vs) seen)
    (k : Option ℕ) (receiver : Option SeenAt) (contract : ContractId) (tx : TxId) (os : List Operand) (form : SilicaForm) (s : Signature)
    → IsCall (record { frame = f; variables = vs; span = at }) k receiver contract tx os form → Stands f vs used h
    → signature_of f.table contract tx ≡ Some s → IsCalled f ws receiver contract s → is_constructor f.table contract tx.0 ≡ false → Arguments f used h s.params os
    → is_some k ≡ is_some s.result → IfSome k (λ j. f.params < j) → IfSome k (λ j. (h j).refers ≡ false) → Called f h k contract tx form
call_made {f} {vs} ws {used} {h} at agree k receiver contract tx os form s (calls_this) st sig is apart args result own quiet =
    subst (λ c. Called f h k c tx (call_this_form k tx os)) (sym is) (record {
      plain = record {
        well_formed = record {
          numbers = (ap is_some here, arguments_there args);
          kinds = if_so (signature_of f.table f.here tx) (λ s. ArePassed f h s.params os) s here (arguments_pass args);
          results = if_so (signature_of f.table f.here tx) (λ s. is_some k ≡ is_some s.result) s here result;
          params = own;
          references = quiet;
          bodies = ap (λ c. is_constructor f.table c tx.0) (sym is) ∙ apart;
          returns = tt;
          turns = tt;
        };
        within = tt;
        follows = tt;
        after = refl;
        goes_on = refl;
      };
      slot = refl;
      kind = refl;
    })
  where
    here : signature_of f.table f.here tx ≡ Some s
    here = ap (λ c. signature_of f.table c tx) (sym is) ∙ sig
call_made {f} {vs} ws {used} {h} at agree k (Some receiver) contract tx os form s (calls_other {place = place} e) st sig is apart args result own quiet = record {
  plain = record {
    well_formed = record {
      numbers = (ap is_some sig, place_there f h place (Reference contract) there.is, arguments_there args);
      kinds = (there.is, if_so (signature_of f.table contract tx) (λ s. ArePassed f h s.params os) s sig (arguments_pass args));
      results = if_so (signature_of f.table contract tx) (λ s. is_some k ≡ is_some s.result) s sig result;
      params = own;
      references = quiet;
      bodies = (if_so (signature_of f.table contract tx) (λ s. s.private ≡ false) s sig is.1, apart);
      returns = tt;
      turns = tt;
    };
    within = tt;
    follows = tt;
    after = refl;
    goes_on = refl;
  };
  slot = refl;
  kind = refl;
}
  where
    there : Holds f used h place (Reference contract)
    there = name_holds receiver.of place (Reference contract) st e (sym (agree receiver.of) ∙ is.0)

-- Early stops.

pub within_both : {a b c : List ℕ} → Within a c → Within b c → Within (a ++ b) c
within_both {a} {b} {c} v w = record { by = λ j e. go j (among_split j a b e) }
  where
    go : (j : ℕ) → (among j a ≡ true) ⊎ (among j b ≡ true) → among j c ≡ true
    go j (inl e) = v.by j e
    go j (inr e) = w.by j e

pub nothing_within : (c : List ℕ) → Within [] c
nothing_within c = record { by = λ j e. absurd (true≢false (sym e)) }

-- the slots of both sides that refer
abbrev both_left : Lowered → Lowered → List ℕ
both_left x y = references x.made ++ references y.made

-- what the right side does in a branch after the left one
record Branch (f : StaticFrame) (g : Holdings) (used left : List ℕ) (k : ℕ) (ts : SilicaTerms) : Type 0 where
  leaves : Leaves f g ts used left
  there : after_terms f ts g k ≡ held (Some BoolKind)

pub narrowed : {f : StaticFrame} {g : Holdings} {ts : SilicaTerms} {used mid left more : List ℕ} → Quiet used left g → Within used mid → Leaves f g ts mid more
    → Leaves f g ts used (left ++ more)
narrowed {f} {g} {ts} {used} q w l = record { each = l.each; follows = l.follows; goes_on = l.goes_on; after = after_on (record { kept = kept_self used g; quiet = q }) w l.after }

module _ (f : StaticFrame) (vs : List SlotVariable) (at : Span) where
  abbrev pub here : AroundExpression
  here = record { frame = f; variables = vs; span = at }

  right_branch : {h : Holdings} {used : List ℕ} (x y : Lowered) → Stands f vs used h → (gx : Gave f h used x BoolKind)
      → Gave f (after_terms f x.terms h) (in_use x.made used) y BoolKind
      → Branch f (after_terms f x.terms h) used (both_left x y) (gx.value refl).slot (copied_into here x y)
  right_branch {h} {used} x y s gx gy =
      let v = gx.value refl in
      let k = v.slot in
      let g = after_terms f x.terms h in
      let g2 = after_terms f y.terms g in
      let first : Leaves f g y.terms used (both_left x y) = narrowed gx.leaves.after.quiet (within_right (slots_made x.made) used) gy.leaves in
      let copied : Plain f g2 (copy_form x.operand.place y.operand) = subst (λ p. Plain f g2 (copy_form p y.operand)) (sym v.place)
      (copy_plain k y.operand BoolKind gy.holds.is refl (own_slot s k v.apart)
      (ap (λ (o : SlotContent). o.refers) (gy.leaves.after.kept.by k (among_left k (slots_made x.made) used v.inside)) ∙ gx.leaves.after.quiet.by k v.apart v.free)) in
      let slot : slot_written (copy_form x.operand.place y.operand) ≡ Some k = ap slot_of_place v.place in
      let second : Leaves f g2 (one_term (copy_form x.operand.place y.operand) at) used (both_left x y ++ []) =
      set_leaves f at used (both_left x y) k (Some BoolKind) false copied slot gy.holds.is refl v.apart first.after.quiet in
      record {
        leaves = leaves_more f (then_leaves f first (within_self used) second) (within_both (within_self (both_left x y)) (within_both (within_self (both_left x y)) (nothing_within (both_left x y))));
        there = ap (λ (i : Holdings). i k) (after_then f y.terms (one_term (copy_form x.operand.place y.operand) at) g)
            ∙ ap (λ (i : Holdings). i k) (set_after f at k (Some BoolKind) copied slot gy.holds.is) ∙ set_at k (held (Some BoolKind)) g2;
      }

  -- the left side, and then a form that leaves a truth in its temporary
  stopped : {h : Holdings} {used : List ℕ} (x y : Lowered) (form : SilicaForm) (span : Span) → (gx : Gave f h used x BoolKind)
      → Gave f (after_terms f x.terms h) (in_use x.made used) y BoolKind → Leaves f (after_terms f x.terms h) (one_term form at) used (both_left x y)
      → after_terms f (one_term form at) (after_terms f x.terms h) (gx.value refl).slot ≡ held (Some BoolKind)
      → Gave f h used (record { terms = then_terms x.terms (one_term form at); operand = operand x.operand.place span; made = x.made ++ y.made }) BoolKind
  stopped {h} {used} x y form span gx gy l there =
      let v = gx.value refl in
      let inside : among v.slot (slots_made (x.made ++ y.made)) ≡ true = subst (λ l. among v.slot l ≡ true) (sym (made_append x.made y.made)) (among_left v.slot (slots_made x.made) (slots_made y.made) v.inside) in
      record {
        leaves = subst (λ left. Leaves f h (then_terms x.terms (one_term form at)) used left) (sym (references_append x.made y.made))
            (leaves_more f (then_leaves f gx.leaves (within_self used) l) (within_both (within_left (references x.made) (references y.made)) (within_self (both_left x y))));
        fresh = fresh_append x.made y.made used gx.fresh gy.fresh;
        holds = subst (λ p. Holds f (in_use (x.made ++ y.made) used) (after_terms f (then_terms x.terms (one_term form at)) h) p BoolKind) (sym v.place) (record {
          is = ap (λ (i : Holdings). (i v.slot).kind) (after_then f x.terms (one_term form at) h) ∙ ap (λ (o : SlotContent). o.kind) there;
          inside = among_left v.slot (slots_made (x.made ++ y.made)) used inside;
        });
        value = λ plain. record {
          slot = v.slot;
          place = v.place;
          apart = v.apart;
          inside = inside;
          free = subst (λ left. among v.slot left ≡ false) (sym (references_append x.made y.made))
              (apart_both v.slot (references x.made) (references y.made) v.free (fresh_apart gy.fresh v.slot (among_left v.slot (slots_made x.made) used v.inside)));
        };
      }

  condition_made : {used : List ℕ} {h : Holdings} (o : Operand) (x y : SilicaTerms) (join : Span) → Holds f used h o.place BoolKind → IsWellFormedForm f h (if_form o x y join)
  condition_made {used} {h} o x y join holds = record {
    numbers = place_there f h o.place BoolKind holds.is;
    kinds = has_kind {wanted = BoolKind} o (serving_of o.place BoolKind holds refl);
    results = tt;
    params = tt;
    references = tt;
    bodies = tt;
    returns = tt;
    turns = tt;
  }

  -- the left side's temporary holds its truth
  left_there : {h : Holdings} {used : List ℕ} (x : Lowered) → (gx : Gave f h used x BoolKind) → after_terms f x.terms h (gx.value refl).slot ≡ held (Some BoolKind)
  left_there {h} x gx =
      let v = gx.value refl in
      held_by (after_terms f x.terms h v.slot) (held (Some BoolKind))
      (sym (ap (λ p. kind_of_place f (after_terms f x.terms h) p) v.place) ∙ gx.holds.is) (gx.leaves.after.quiet.by v.slot v.apart v.free)

  stay : {h : Holdings} {used : List ℕ} (x y : Lowered) → Gave f h used x BoolKind → Leaves f (after_terms f x.terms h) no_terms used (both_left x y)
  stay {h} {used} x y gx = leaves_more f (record { each = tt; follows = tt; goes_on = refl; after = record { kept = kept_self used (after_terms f x.terms h); quiet = gx.leaves.after.quiet } }) (within_left (references x.made) (references y.made))

  join_at : (p q : Bool) (a b : Holdings) (k : ℕ) (c : SlotContent) → p ≡ false → q ≡ false → a k ≡ c → b k ≡ c → joined p q a b k ≡ c
  join_at p q a b k c ep eq ea eb =
      ap (λ r. joined r q a b k) ep ∙ ap (λ r. joined false r a b k) eq ∙ either_of (a k) (b k) c ea eb

  pub logical_gave : {h : Holdings} {used : List ℕ} (o : LogicalOperator) (x y : Lowered) (sign span : Span) → Stands f vs used h → Gave f h used x BoolKind
      → Gave f (after_terms f x.terms h) (in_use x.made used) y BoolKind → Gave f h used (logical_into here o x y sign span) BoolKind
  logical_gave {h} {used} And x y sign span s gx gy =
      let b = right_branch x y s gx gy in
      let g = after_terms f x.terms h in
      let c = copied_into here x y in
      let rest = stay x y gx in
      stopped x y (if_form x.operand c no_terms sign) span gx gy
      (leaves_of f (if_runs f x.operand c no_terms sign at used (both_left x y) (condition_made x.operand c no_terms sign gx.holds) (runs_of f b.leaves) (runs_of f rest))
      (ap (λ t. (t && false) || false) b.leaves.goes_on))
      (join_at (terms_end c) false (after_terms f c g) g (gx.value refl).slot (held (Some BoolKind)) b.leaves.goes_on refl b.there (left_there x gx))
  logical_gave {h} {used} Or x y sign span s gx gy =
      let b = right_branch x y s gx gy in
      let g = after_terms f x.terms h in
      let c = copied_into here x y in
      let rest = stay x y gx in
      stopped x y (if_form x.operand no_terms c sign) span gx gy
      (leaves_of f (if_runs f x.operand no_terms c sign at used (both_left x y) (condition_made x.operand no_terms c sign gx.holds) (runs_of f rest) (runs_of f b.leaves)) refl)
      (join_at false (terms_end c) g (after_terms f c g) (gx.value refl).slot (held (Some BoolKind)) refl b.leaves.goes_on (left_there x gx) b.there)

-- Expressions.

-- what arguments leave
pub record GaveAll (f : StaticFrame) (h : Holdings) (used : List ℕ) (l : LoweredArguments) (ps : List Param) : Type 0 where
  pub leaves : Leaves f h l.terms used (references l.made)
  pub fresh : Fresh l.made used
  pub arguments : Arguments f (in_use l.made used) (after_terms f l.terms h) ps l.operands

gave_by : {f : StaticFrame} {h : Holdings} {used : List ℕ} (l m : Lowered) (kind of : Kind) → l ≡ m → Some of ≡ Some kind → Gave f h used m of → Gave f h used l kind
gave_by {f} {h} {used} l m kind of e k g = subst (λ c. Gave f h used l c) (some_same k) (subst (λ n. Gave f h used n of) (sym e) g)

-- the terms of one part and then of another
pub parts_leave : {f : StaticFrame} {h : Holdings} {x y : SilicaTerms} (used : List ℕ) (a b : List Temporary) → Leaves f h x used (references a)
    → Leaves f (after_terms f x h) y (in_use a used) (references b) → Leaves f h (then_terms x y) used (references (a ++ b))
parts_leave {f} {h} {x} {y} used a b l m =
    subst (λ left. Leaves f h (then_terms x y) used left) (sym (references_append a b)) (then_leaves f l (within_right (slots_made a) used) m)

op_plain : {f : StaticFrame} {g : Holdings} (k : ℕ) (o : SilicaOperator) (a b : Operand) (line : ℕ) → IsPlace f a.place → IsPlace f b.place → HaveOperands f g o a b
    → f.params < k → (g k).refers ≡ false → Plain f g (op_form k o a b line)
op_plain k o a b line pa pb have own quiet = record {
  well_formed = record { numbers = (pa, pb); kinds = have; results = tt; params = own; references = quiet; bodies = tt; returns = tt; turns = tt };
  within = tt;
  follows = tt;
  after = refl;
  goes_on = refl;
}

pub const_plain : {f : StaticFrame} {g : Holdings} (k : ℕ) (value : _) → IsConstant value → f.params < k → (g k).refers ≡ false → Plain f g (const_form k value)
const_plain k value is own quiet = record {
  well_formed = record { numbers = tt; kinds = is; results = tt; params = own; references = quiet; bodies = tt; returns = tt; turns = tt };
  within = tt;
  follows = tt;
  after = refl;
  goes_on = refl;
}

-- a transaction whose result has a kind has a result
pub result_there : (table : ClassTable) (o : Option Signature) (s : Signature) (kind : Kind) → o ≡ Some s
    → option_and_then (λ s. option_map kind_of_resolved s.result) o ≡ Some kind → is_some s.result ≡ true
result_there table o s kind e k = by_result s.result (ap (option_and_then (λ s. option_map kind_of_resolved s.result)) (sym e) ∙ k)
  where
    by_result : (r : _) → option_map kind_of_resolved r ≡ Some kind → is_some r ≡ true
    by_result None e = absurd (none_some e)
    by_result (Some x) e = refl

module _ (f : StaticFrame) (vs : List SlotVariable) (ws : LocalKinds) (agree : (n : ℕ) → local_kind ws n ≡ local_kind (locals_of vs) n) (at : Span) where
  pub seen_agree : (seen : Seen) → kind_of_seen f ws seen ≡ kind_of_seen f (locals_of vs) seen
  seen_agree ThisSeen = refl
  seen_agree (Local n) = agree n
  seen_agree (FieldSeen id) = refl

  pub serves_so : (wanted : Kind) (e : Expression) → ServesAs f ws wanted e → (kind : Kind) × (kind_of_expression f ws e ≡ Some kind) × (serves_as f.table wanted kind ≡ true)
  serves_so wanted e h = some_so (kind_of_expression f ws e) (λ has. IsTrue (serves_as f.table wanted has)) h

  abbrev Meant : Expression → Lowered → List ℕ → Holdings → Type 0
  Meant e l used h = (kind : Kind) → kind_of_expression f ws e ≡ Some kind → Gave f h used l kind

  -- an operator between two values
  works : {h : Holdings} {used : List ℕ} (o : SilicaOperator) (x y l : Lowered) (k : ℕ) (sign span : Span) (kx ky kind : Kind) → Stands f vs used h
      → Gave f h used x kx → Gave f (after_terms f x.terms h) (in_use x.made used) y ky → IsFree k (in_use (x.made ++ y.made) used)
      → ((g : Holdings) → kind_of_operand f g x.operand ≡ Some kx → kind_of_operand f g y.operand ≡ Some ky → HaveOperands f g o x.operand y.operand)
      → l ≡ into (here f vs at) (then_terms x.terms y.terms) (x.made ++ y.made) (op_form k o x.operand y.operand sign.line) k false span
      → kind_of_operator o ≡ kind → is_reference kind ≡ false → Gave f h used l kind
  works {h} {used} o x y l k sign span kx ky kind s gx gy free have is ek plain =
      let both : Leaves f h (then_terms x.terms y.terms) used (references (x.made ++ y.made)) = parts_leave used x.made y.made gx.leaves gy.leaves in
      let g = after_terms f (then_terms x.terms y.terms) h in
      let apart : among k (in_use (x.made ++ y.made) used) ≡ false = free_among k (in_use (x.made ++ y.made) used) free in
      let st : Stands f vs (in_use (x.made ++ y.made) used) g = stands_made (x.made ++ y.made) s both in
      let hx : Holds f (in_use (x.made ++ y.made) used) g x.operand.place kx = subst (λ i. Holds f (in_use (x.made ++ y.made) used) i x.operand.place kx) (sym (after_then f x.terms y.terms h))
      (holds_on x.operand.place kx gx.holds gy.leaves.after.kept (within_first x.made y.made used)) in
      let hy : Holds f (in_use (x.made ++ y.made) used) g y.operand.place ky = subst (λ i. Holds f (in_use (x.made ++ y.made) used) i y.operand.place ky) (sym (after_then f x.terms y.terms h))
      (holds_on y.operand.place ky gy.holds (kept_self (in_use y.made (in_use x.made used)) (after_terms f y.terms (after_terms f x.terms h))) (within_second x.made y.made used)) in
      subst (λ n. Gave f h used n kind) (sym is)
      (into_gave at (then_terms x.terms y.terms) (x.made ++ y.made) (op_form k o x.operand y.operand sign.line) k false span kind s both (fresh_append x.made y.made used gx.fresh gy.fresh) apart
      (op_plain k o x.operand y.operand sign.line (place_there f g x.operand.place kx hx.is) (place_there f g y.operand.place ky hy.is) (have g hx.is hy.is)
      (own_slot st k apart) (st.quiet.by k apart refl)) refl (ap Some ek) plain)

  ints_work : {h : Holdings} {used : List ℕ} (o : SilicaOperator) (left right : Expression) (x y l : Lowered) (k : ℕ) (sign span : Span) (of kind : Kind) → Stands f vs used h
      → ServesAs f ws Int left × ServesAs f ws Int right
      → Meant left x used h → (Stands f vs (in_use x.made used) (after_terms f x.terms h) → Meant right y (in_use x.made used) (after_terms f x.terms h))
      → IsFree k (in_use (x.made ++ y.made) used)
      → ((g : Holdings) → HasKind f g Int x.operand → HasKind f g Int y.operand → HaveOperands f g o x.operand y.operand)
      → l ≡ into (here f vs at) (then_terms x.terms y.terms) (x.made ++ y.made) (op_form k o x.operand y.operand sign.line) k false span
      → kind_of_operator o ≡ of → is_reference of ≡ false → Some of ≡ Some kind → Gave f h used l kind
  ints_work {h} {used} o left right x y l k sign span of kind s both mx my free have is ek plain e =
      let sx = serves_so Int left both.0 in
      let sy = serves_so Int right both.1 in
      let gx : Gave f h used x sx.0 = mx sx.0 sx.1 in
      let gy : Gave f (after_terms f x.terms h) (in_use x.made used) y sy.0 = my (stands_made x.made s gx.leaves) sy.0 sy.1 in
      subst (λ c. Gave f h used l c) (some_same e)
      (works o x y l k sign span sx.0 sy.0 of s gx gy free
      (λ g ex ey. have g (and_so (kind_of_operand f g x.operand) (λ c. IsTrue (serves_as f.table Int c)) sx.0 ex sx.2) (and_so (kind_of_operand f g y.operand) (λ c. IsTrue (serves_as f.table Int c)) sy.0 ey sy.2)) is ek plain)

  equals_work : {h : Holdings} {used : List ℕ} (o : SilicaOperator) (left right : Expression) (x y l : Lowered) (k : ℕ) (sign span : Span) (kind : Kind) → Stands f vs used h
      → IsSomeAnd (kind_of_expression f ws left) (λ c. (is_reference c ≡ false) × ServesAs f ws c right)
      → Meant left x used h → (Stands f vs (in_use x.made used) (after_terms f x.terms h) → Meant right y (in_use x.made used) (after_terms f x.terms h))
      → IsFree k (in_use (x.made ++ y.made) used)
      → ((g : Holdings) → IsSomeAnd (kind_of_operand f g x.operand) (λ c. (is_reference c ≡ false) × HasKind f g c y.operand) → HaveOperands f g o x.operand y.operand)
      → l ≡ into (here f vs at) (then_terms x.terms y.terms) (x.made ++ y.made) (op_form k o x.operand y.operand sign.line) k false span
      → kind_of_operator o ≡ BoolKind → Some BoolKind ≡ Some kind → Gave f h used l kind
  equals_work {h} {used} o left right x y l k sign span kind s both mx my free have is ek e =
      let sx = some_so (kind_of_expression f ws left) (λ c. (is_reference c ≡ false) × ServesAs f ws c right) both in
      let sy = serves_so sx.0 right sx.2.1 in
      let gx : Gave f h used x sx.0 = mx sx.0 sx.1 in
      let gy : Gave f (after_terms f x.terms h) (in_use x.made used) y sy.0 = my (stands_made x.made s gx.leaves) sy.0 sy.1 in
      subst (λ c. Gave f h used l c) (some_same e)
      (works o x y l k sign span sx.0 sy.0 BoolKind s gx gy free
      (λ g ex ey. have g (and_so (kind_of_operand f g x.operand) (λ c. (is_reference c ≡ false) × HasKind f g c y.operand) sx.0 ex
      (sx.2.0, and_so (kind_of_operand f g y.operand) (λ c. IsTrue (serves_as f.table sx.0 c)) sy.0 ey sy.2))) is ek refl)

  binary_work : {h : Holdings} {used : List ℕ} (o : BinaryOperator) (left right : Expression) (x y l : Lowered) (k : ℕ) (sign span : Span) (kind : Kind) → Stands f vs used h
      → HasOperands f ws o left right
      → Meant left x used h → (Stands f vs (in_use x.made used) (after_terms f x.terms h) → Meant right y (in_use x.made used) (after_terms f x.terms h))
      → IsFree k (in_use (x.made ++ y.made) used)
      → l ≡ into (here f vs at) (then_terms x.terms y.terms) (x.made ++ y.made) (op_form k (Binary o) x.operand y.operand sign.line) k false span
      → Some (kind_of_binary o) ≡ Some kind → Gave f h used l kind
  binary_work Equal left right x y l k sign span kind s both mx my free is e =
      equals_work (Binary Equal) left right x y l k sign span kind s both mx my free (λ g a. a) is refl e
  binary_work NotEqual left right x y l k sign span kind s both mx my free is e =
      equals_work (Binary NotEqual) left right x y l k sign span kind s both mx my free (λ g a. a) is refl e
  binary_work o left right x y l k sign span kind s both mx my free is e =
      ints_work (Binary o) left right x y l k sign span (kind_of_binary o) kind s both mx my free (λ g a b. (a, b)) is refl (binary_plain o) e

  name_made : {h : Holdings} {used : List ℕ} (b : Bool) (kind : Kind) (o : Operand) (l : Lowered) → Stands f vs used h → Holds f used h o.place kind
      → is_reference kind ≡ b → LowersName (here f vs at) used b o l → Gave f h used l kind
  name_made {h} {used} true kind o l s holds er is = subst (λ n. Gave f h used n kind) (sym is) (record {
    leaves = none_leaves f h used s.quiet;
    fresh = fresh_none used;
    holds = holds;
    value = λ plain. absurd (true≢false (sym er ∙ plain));
  })
  name_made {h} {used} false kind o l s holds er (k, free, is) =
      let apart : among k used ≡ false = free_among k used free in
      subst (λ n. Gave f h used n kind) (sym is)
      (into_gave at no_terms [] (copy_form (Slot k) o) k false o.span kind s (none_leaves f h used s.quiet) (fresh_none used) apart
      (copy_plain k o kind holds.is er (own_slot s k apart) (s.quiet.by k apart refl)) refl holds.is er)

  const_made : {h : Holdings} {used : List ℕ} (k : ℕ) (value : _) (l : Lowered) (span : Span) (of kind : Kind) → IsConstant value → Stands f vs used h → IsFree k used
      → l ≡ into (here f vs at) no_terms [] (const_form k value) k false span → kind_written f h (const_form k value) ≡ Some of → is_reference of ≡ false
      → Some of ≡ Some kind → Gave f h used l kind
  const_made {h} {used} k value l span of kind ranged s free is ek plain e =
      let apart : among k used ≡ false = free_among k used free in
      gave_by l (into (here f vs at) no_terms [] (const_form k value) k false span) kind of is e
      (into_gave at no_terms [] (const_form k value) k false span of s (none_leaves f h used s.quiet) (fresh_none used) apart
      (const_plain k value ranged (own_slot s k apart) (s.quiet.by k apart refl)) refl ek plain)

  mutual
    pub expression_made : (e : Expression) (l : Lowered) (used : List ℕ) (h : Holdings) (kind : Kind) → LowersExpression (here f vs at) used e l
        → IsWellFormedExpression f ws e → Stands f vs used h → kind_of_expression f ws e ≡ Some kind → Gave f h used l kind
    expression_made (resolved_number z span) l used h kind (k, free, is) made s ek = const_made k (IntConstant z) l span Int kind made s free is refl refl ek
    expression_made (resolved_text z span) l used h kind (k, free, is) made s ek = const_made k (TextConstant z) l span Text kind made s free is refl refl ek
    expression_made (resolved_bool z span) l used h kind (k, free, is) made s ek = const_made k (BoolConstant z) l span BoolKind kind tt s free is refl refl ek
    expression_made (resolved_seen seen span) l used h kind (of, eo, place, ep, low) made s ek =
        gave_by l l kind of refl (sym eo ∙ sym (seen_agree seen.of) ∙ ek)
        (name_made (is_reference of) of (operand place span) l s (name_holds seen.of place of s ep eo) refl low)
    expression_made (resolved_unary o sign e span) l used h kind (x, lx, k, free, is) made s ek =
        let sx = serves_so (kind_of_unary o) e made.1 in
        let gx : Gave f h used x sx.0 = expression_made e x used h sx.0 lx made.0 s sx.1 in
        let g = after_terms f x.terms h in
        let st : Stands f vs (in_use x.made used) g = stands_made x.made s gx.leaves in
        let apart : among k (in_use x.made used) ≡ false = free_among k (in_use x.made used) free in
        let there : IsPlace f x.operand.place = place_there f g x.operand.place sx.0 gx.holds.is in
        let have : HasKind f g (kind_of_unary o) x.operand = and_so (kind_of_operand f g x.operand) (λ c. IsTrue (serves_as f.table (kind_of_unary o) c)) sx.0 gx.holds.is sx.2 in
        gave_by l (into (here f vs at) x.terms x.made (op_form k (Unary o) x.operand x.operand sign.line) k false span) kind (kind_of_unary o) is ek
        (into_gave at x.terms x.made (op_form k (Unary o) x.operand x.operand sign.line) k false span (kind_of_unary o) s gx.leaves gx.fresh apart
        (op_plain k (Unary o) x.operand x.operand sign.line there there
        (have, have)
        (own_slot st k apart) (st.quiet.by k apart refl)) refl refl (unary_plain o))
    expression_made (resolved_logical o sign left right span) l used h kind (x, lx, y, ly, is) made s ek =
        let sx = serves_so BoolKind left made.2 in
        let sy = serves_so BoolKind right made.3 in
        let gx : Gave f h used x BoolKind = expression_made left x used h BoolKind lx made.0 s (sx.1 ∙ ap Some (sym (serves_bool f.table sx.0 sx.2))) in
        let gy : Gave f (after_terms f x.terms h) (in_use x.made used) y BoolKind =
        expression_made right y (in_use x.made used) (after_terms f x.terms h) BoolKind ly made.1 (stands_made x.made s gx.leaves) (sy.1 ∙ ap Some (sym (serves_bool f.table sy.0 sy.2))) in
        gave_by l (logical_into (here f vs at) o x y sign span) kind BoolKind is ek (logical_gave f vs at o x y sign span s gx gy)
    expression_made (resolved_binary o sign left right span) l used h kind (x, lx, y, ly, k, free, is) made s ek =
        binary_work o left right x y l k sign span kind s made.2
        (λ c e. expression_made left x used h c lx made.0 s e)
        (λ st c e. expression_made right y (in_use x.made used) (after_terms f x.terms h) c ly made.1 st e) free is ek
    expression_made (resolved_call receiver contract tx name args span) l used h kind (x, lx, of, eo, k, free, form, is_call, is) made s ek =
        let sig = some_so (signature_of f.table contract tx) (λ t. IsCalled f ws receiver contract t × PassTo f ws t.params args) made.2 in
        let gx : GaveAll f h used x sig.0.params = arguments_made sig.0.params args x used h lx made.0 sig.2.1 s in
        let g = after_terms f x.terms h in
        let st : Stands f vs (in_use x.made used) g = stands_made x.made s gx.leaves in
        let apart : among k (in_use x.made used) ≡ false = free_among k (in_use x.made used) free in
        let c : Called f g (Some k) contract tx form = call_made ws at seen_agree (Some k) receiver contract tx x.operands form sig.0 is_call st sig.1 sig.2.0 made.1 gx.arguments
        (sym (result_there f.table (signature_of f.table contract tx) sig.0 of sig.1 eo)) (own_slot st k apart) (st.quiet.by k apart refl) in
        gave_by l (into (here f vs at) x.terms x.made form k (is_reference of) span) kind of is (sym eo ∙ ek)
        (into_gave at x.terms x.made form k (is_reference of) span of s gx.leaves gx.fresh apart c.plain c.slot (c.kind ∙ eo) refl)
    expression_made (resolved_new contract args span) l used h kind (x, lx, k, free, is) made s ek =
        let sig = some_so (constructor_at f.table contract) (λ t. PassTo f ws t.params args) made.1 in
        let gx : GaveAll f h used x sig.0.params = arguments_made sig.0.params args x used h lx made.0 sig.2 s in
        let st : Stands f vs (in_use x.made used) (after_terms f x.terms h) = stands_made x.made s gx.leaves in
        let apart : among k (in_use x.made used) ≡ false = free_among k (in_use x.made used) free in
        gave_by l (into (here f vs at) x.terms x.made (new_form k contract x.operands) k true span) kind (Reference contract) is ek
        (into_gave at x.terms x.made (new_form k contract x.operands) k true span (Reference contract) s gx.leaves gx.fresh apart
        (new_plain k contract x.operands sig.0 sig.1 gx.arguments (own_slot st k apart) (st.quiet.by k apart refl)) refl refl refl)

    pub arguments_made : (ps : List Param) (es : Args) (l : LoweredArguments) (used : List ℕ) (h : Holdings) → LowersArguments (here f vs at) used es l
        → AreWellFormedArguments f ws es → PassTo f ws ps es → Stands f vs used h → GaveAll f h used l ps
    arguments_made [] no_arguments l used h is made pass s =
        subst (λ n. GaveAll f h used n []) (sym is) (record { leaves = none_leaves f h used s.quiet; fresh = fresh_none used; arguments = record { by = tt } })
    arguments_made [] (and_argument e es) l used h low made pass s = absurd pass
    arguments_made (p ∷ ps) no_arguments l used h low made pass s = absurd pass
    arguments_made (p ∷ ps) (and_argument e es) l used h (x, lx, y, ly, is) made pass s =
        let sx = serves_so (kind_of_resolved p.of) e pass.0 in
        let gx : Gave f h used x sx.0 = expression_made e x used h sx.0 lx made.0 s sx.1 in
        let gy : GaveAll f (after_terms f x.terms h) (in_use x.made used) y ps =
        arguments_made ps es y (in_use x.made used) (after_terms f x.terms h) ly made.1 pass.1 (stands_made x.made s gx.leaves) in
        let g2 = after_terms f y.terms (after_terms f x.terms h) in
        subst (λ n. GaveAll f h used n (p ∷ ps)) (sym is) (record {
          leaves = parts_leave used x.made y.made gx.leaves gy.leaves;
          fresh = fresh_append x.made y.made used gx.fresh gy.fresh;
          arguments = subst (λ i. Arguments f (in_use (x.made ++ y.made) used) i (p ∷ ps) (x.operand ∷ y.operands)) (sym (after_then f x.terms y.terms h)) (record {
            by = (
              serving_on x.operand.place (serving_of x.operand.place sx.0 gx.holds sx.2) gy.leaves.after.kept (within_first x.made y.made used),
              (arguments_on gy.arguments (kept_self (in_use y.made (in_use x.made used)) g2) (within_second x.made y.made used)).by,
            );
          });
        })
