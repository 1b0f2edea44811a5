-- What is known of what a request enters: which checks it has passed, and what it is.
use Rattle.std.proofs.Common.{◌≡◌, ℕ, Bool, true, false, not, List, [], ◌∷◌, ◌++◌, length, Option, Some, None, refl, sym, subst, arith}
use Rattle.std.specs.Prelude.{◌||◌, ◌&&◌, IsTrue, zip, filter_map}
use Rattle.std.specs.Option.{option_map_or}
use Rattle.std.specs.List.{list_any, cons_option}
use Rattle.std.proofs.lemmas.Bool.Decides.{nat_tests}
use Rattle.ob_base.specs.Names.{is_label}
use Rattle.ob_base.specs.Optional.{◌>>=◌, where_true}
use Rattle.ob_table.specs.Tables.{ClassTable, contract_at, contract_named, signature_at}
use Rattle.ob_table.specs.declared.contract.Param.{Param}
use Rattle.ob_table_spec.specs.WellFormed.{constructor_at}
use Rattle.ob_heap_spec.specs.Values.{Value}
use Rattle.ob_heap_spec.specs.Contents.{Content, object_at}
use Rattle.ob_heap_spec.specs.Dispatch.{transaction_named}
use Rattle.ob_heap_spec.specs.Handles.{handle_at}
use Rattle.ob_invocation_spec.specs.Requests.{Argument, NewRequest, CallRequest, call_request, HasLabels}
use Rattle.ob_invocation_spec.specs.Handles.{handle_name}
use Rattle.ob_invocation_spec.specs.Entries.{Entry, entry_of_new, entry_of_call, value_of, values_of}
use Rattle.ob_invocation_spec.specs.Checks.{Check, check, refusal_of}
use Rattle.ob_invocation_spec.specs.Refusals.{argument_checks, is_of_type, is_argument_for, entry_checks, found_checks, new_checks, call_checks, is_no_contract, is_not_main, is_no_transaction}
use Rattle.ob_invocation_spec.specs.Replies.{no_contract, not_main, no_transaction}
use Rattle.ob_soundness_laws.specs.Requests.{IsEntered, by_request_new, by_request_call, HasPassed, EntersNew, EntersCall}
use Rattle.ob_soundness_laws.proofs.Resting.{Each}

-- Checks.

-- where no check refuses, none holds
pub each_passes : (checks : List Check) → refusal_of checks ≡ None → Each (λ (c : Check). c.holds ≡ false) checks
each_passes [] e = tt
each_passes (c ∷ checks) e = go c.holds refl (each_passes checks)
  where
    go : (b : Bool) → c.holds ≡ b → (refusal_of checks ≡ None → Each (λ (c : Check). c.holds ≡ false) checks)
        → Each (λ (c : Check). c.holds ≡ false) (c ∷ checks)
    go true is rest = absurd (let z = rw is at e in cc)
    go false is rest = (is, rest (rw is at e))

pub each_after : {A : Type 0} (P : A → Type 0) (xs ys : List A) → Each P (xs ++ ys) → Each P ys
each_after P [] ys a = a
each_after P (x ∷ xs) ys a = each_after P xs ys a.1

module _ (table : ClassTable) (content : Content) (e : Entry) where
  entry_passes : Each (λ (c : Check). c.holds ≡ false) (entry_checks table content e ++ []) → HasPassed table content e
  entry_passes a = record {
    count = a.0;
    kind = a.1.0;
    permission = a.1.1.0;
    repeated = a.1.1.1.0;
    into_missing = a.1.1.1.1.0;
    into_needless = a.1.1.1.1.1.0;
    into = λ name is. let z = rw is at a.1.1.1.1.1.1 in (z.0, z.1.0);
  }

  pub has_passed : IsEntered table content e → HasPassed table content e
  has_passed (by_request_new who r labels is passed within) =
      let all = each_after _ (argument_checks content who r.args)
      (check no_contract (is_no_contract table r.contract) ∷ check not_main (is_not_main table r.contract)
      ∷ found_checks table content (entry_of_new table who r)) (each_passes (new_checks table content who r) passed) in
      entry_passes (subst (λ x. Each (λ (c : Check). c.holds ≡ false) (found_checks table content x)) is all.1.1)
  has_passed (by_request_call who r labels is passed within) =
      let all = each_after _ (argument_checks content who r.args)
      (check no_transaction (is_no_transaction (entry_of_call table content who r))
      ∷ found_checks table content (entry_of_call table content who r)) (each_passes (call_checks table content who r) passed).1 in
      entry_passes (subst (λ x. Each (λ (c : Check). c.holds ≡ false) (found_checks table content x)) is all.1)

-- What is entered.

bound : {A B : Type 0} (x : Option A) (f : A → Option B) (b : B) → (x >>= f) ≡ Some b → (a : A) × (x ≡ Some a) × (f a ≡ Some b)
bound None f b e = absurd cc
bound (Some a) f b e = (a, refl, e)

where_so : {A : Type 0} (t : Bool) (x y : A) → where_true t x ≡ Some y → x ≡ y
where_so true x y e = cc
where_so false x y e = absurd cc

third : (a b c d : Bool) → IsTrue (a && (b && (c && d))) → IsTrue c
third true true true d h = h_true
  where
    h_true : IsTrue true
    h_true = refl
third true true false d h = h
third true false c d h = absurd (let z : false ≡ true = h in cc)
third false b c d h = absurd (let z : false ≡ true = h in cc)

module _ (table : ClassTable) (content : Content) (e : Entry) where
  pub enters_new : (who : List ℕ) (r : NewRequest) → entry_of_new table who r ≡ Some e → EntersNew table e
  enters_new who r is =
      let c = bound (contract_named table.contracts r.contract) _ e is in
      let s = bound (constructor_at table c.0) _ e c.2 in
      let same : record {
        who = who;
        contract = c.0;
        tx = record { 0 = 0 };
        signature = s.0;
        receiver = None;
        given = Some s.0.exit.mode;
        args = r.args;
        into = r.into;
      } ≡ e = cc in
      subst (EntersNew table) same (record { receiver = refl; constructor = s.1; tx = refl; given = refl })

  pub enters_call : (who : List ℕ) (r : CallRequest) → HasLabels (record { who = who; operation = call_request r })
      → entry_of_call table content who r ≡ Some e → EntersCall table content e
  enters_call who r labels is =
      let h = bound (handle_at content (handle_name who r.on)) _ e is in
      let o = bound (object_at content.objects h.0.object) _ e h.2 in
      let own = bound (contract_at table o.0.contract) _ e o.2 in
      let tx = bound (transaction_named own.0 r.tx) _ e own.2 in
      let s = bound (signature_at own.0 tx.0) _ e tx.2 in
      subst (EntersCall table content) (where_so (not s.0.private) _ e s.2) (record {
        name = handle_name who r.on;
        handle = h.0;
        found = h.1;
        object = o.0;
        there = o.1;
        contract = refl;
        own = own.0;
        is_own = own.1;
        asked = r.tx;
        label = third (is_label who) (is_label r.on) (is_label r.tx) _ labels;
        named = tx.1;
        signature = s.1;
        receiver = refl;
        given = refl;
      })

-- Arguments.

-- two lists of the same length are passed together, each argument being of its parameter's type
pub data ArgumentsFit (table : ClassTable) (content : Content) (who : List ℕ) : List Param → List Argument → List Value → Type 0 where
  no_arguments : ArgumentsFit table content who [] [] []
  one_argument : (p : Param) (ps : List Param) (arg : Argument) (args : List Argument) (v : Value) (vs : List Value)
      → value_of content who arg ≡ Some v → is_of_type table content.objects p.of v ≡ true
      → ArgumentsFit table content who ps args vs → ArgumentsFit table content who (p ∷ ps) (arg ∷ args) (v ∷ vs)

pub or_false : (a b : Bool) → (a || b) ≡ false → (a ≡ false) × (b ≡ false)
or_false true b e = absurd cc
or_false false b e = (refl, e)

pub not_false : (a : Bool) → not a ≡ false → a ≡ true
not_false true e = refl
not_false false e = absurd cc

some_value : (test : Value → Bool) (x : Option Value) → option_map_or test x false ≡ true
    → (v : Value) × (x ≡ Some v) × (test v ≡ true)
some_value test None e = absurd cc
some_value test (Some v) e = (v, refl, e)

args_fit : (table : ClassTable) (content : Content) (who : List ℕ) (ps : List Param) (args : List Argument)
    → length args ≡ length ps
    → list_any (λ (pair : Param × Argument). not (is_argument_for table content who pair.0 pair.1)) (zip ps args) ≡ false
    → ArgumentsFit table content who ps args (filter_map (value_of content who) args)
args_fit table content who [] [] count kind = no_arguments
args_fit table content who [] (a ∷ args) count kind = absurd (omega arith)
args_fit table content who (p ∷ ps) [] count kind = absurd (omega arith)
args_fit table content who (p ∷ ps) (a ∷ args) count kind =
    let z = or_false (not (is_argument_for table content who p a)) _ kind in
    let v = some_value (is_of_type table content.objects p.of) (value_of content who a) (not_false _ z.0) in
    let rest = args_fit table content who ps args (omega arith) z.1 in
    subst (λ (x : Option Value). ArgumentsFit table content who (p ∷ ps) (a ∷ args) (cons_option x (filter_map (value_of content who) args)))
    (sym v.1) (one_argument p ps a args v.0 (filter_map (value_of content who) args) v.1 v.2 rest)

pub arguments_fit : (table : ClassTable) (content : Content) (e : Entry) → HasPassed table content e
    → ArgumentsFit table content e.who e.signature.params e.args (values_of content e)
arguments_fit table content e passed = args_fit table content e.who e.signature.params e.args
    (let z = passed.count in grind (arith, nat_tests, not_false _ z)) passed.kind

pub fit_length : (table : ClassTable) (content : Content) (who : List ℕ) (ps : List Param) (args : List Argument) (vs : List Value)
    → ArgumentsFit table content who ps args vs → length vs ≡ length ps
fit_length table content who ps args vs no_arguments = refl
fit_length table content who ps args vs (one_argument p qs a bs v us is fits rest) =
    let z = fit_length table content who qs bs us rest in omega arith
