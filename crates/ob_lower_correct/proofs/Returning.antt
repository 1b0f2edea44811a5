-- Returns by their terms.
use Rattle.std.proofs.Common.{◌≡◌, ℕ, suc, ◌+◌, ◌<◌, ◌≤◌, Bool, true, false, ◌&&◌, List, [], ◌∷◌, map, length, Option, Some, None, refl, sym, ap, ◌∙◌, subst, arith, true≢false, ◌⊎◌, inl, inr}
use Rattle.std.specs.Prelude.{is_some, IsSome, if◌then◌else◌}
use Rattle.std.specs.Option.{option_map_or}
use Rattle.ob_base.specs.declared.fault.Span.{Span}
use Rattle.ob_table.specs.Tables.{ClassTable, contract_at}
use Rattle.ob_silica.specs.declared.place.Operand.{Operand}
use Rattle.ob_heap_spec.specs.Values.{Value, int_value, bool_value, text_value, reference}
use Rattle.ob_heap_spec.specs.Worlds.{World, RunOutcome, gives, ◌>>=◌, with_some}
use Rattle.ob_heap_spec.specs.Marks.{unlock}
use Rattle.ob_source_meaning.specs.Frames.{Calls}
use Rattle.ob_silica.specs.Terms.{SilicaTerms, no_terms, and_term, return_form}
use Rattle.ob_silica_steps.specs.Cells.{Cell, value_in}
use Rattle.ob_silica_places.specs.Places.{Location, located}
use Rattle.ob_silica_steps.specs.Configurations.{SilicaProgram, SlotCells, Rest, Control, runs, leaves, Configuration, goes}
use Rattle.ob_silica_steps.specs.Here.{Here, if_there, read}
use Rattle.ob_silica_steps.specs.Steps.{step}
use Rattle.ob_lower_spec.specs.BodyTerms.{slots_below}
use Rattle.ob_lower_correct.proofs.Slots.{Used}
use Rattle.ob_lower_correct.proofs.Runs.{Ends, one_step}
use Rattle.ob_lower_correct.proofs.Standing.{Setting, config, shape, Kept, Stands, none_some, comes_self}
use Rattle.ob_lower_correct.proofs.Calling.{CallsRun}
use Rattle.ob_lower_correct.proofs.Flows.{Left}
use Rattle.ob_lower_correct.proofs.Changes.{noted_quiet, quiet_later}
use Rattle.ob_lower_correct.proofs.Values.{there, not_there}
use Rattle.ob_silica_steps.specs.Configurations.{stuck}
use Rattle.ob_table.specs.Tables.{signature_of}
use Rattle.ob_table.specs.declared.contract.ResolvedType.{ResolvedType}
use Rattle.ob_table.specs.declared.contract.ResolvedType.TheVariants as typed
use Rattle.ob_table.specs.declared.contract.Param.{Param}
use Rattle.ob_heap_spec.specs.Objects.{Object}
use Rattle.ob_heap_spec.specs.Contents.{object_at}
use Rattle.ob_heap_spec.specs.Worlds.{object_item, is_made, with_read, read_object, set_object, edit_object, if_right, with_object}
use Rattle.ob_heap_spec.specs.Marks.{has_mark, mark_shared, comes_into}
use Rattle.ob_heap_spec.specs.GoingWrong.{is_within, is_held_within, may_leave_args, may_give, may_return, is_finished}
use Rattle.ob_source_meaning.specs.Bodies.{result_goes, this_comes}
use Rattle.ob_silica_steps.specs.Binding.{bound_cell}
use Rattle.ob_silica_places.specs.Parameters.{Parameter, parameter_of}
use Rattle.ob_silica_steps.specs.Configurations.{How, by_receiver, by_this, by_new}
use Rattle.ob_silica_steps.specs.Entering.{are_within}
use Rattle.ob_silica_steps.specs.Here.{self, hand}
use Rattle.ob_silica_steps.specs.Returning as returning
use Rattle.ob_silica_steps.specs.Returning.{at_exit, exits_are_within, return_step}
use Rattle.ob_silica_places.specs.Places.{this}
use Rattle.ob_lower_spec.specs.BodyTerms as low
use Rattle.ob_lower_correct.proofs.Binding.{HoldsFrom}
use Rattle.ob_lower_correct.proofs.Beginning.{within_exits, used_below}
use Rattle.ob_lower_correct.proofs.Changes.{quiet_into}
use Rattle.ob_lower_correct.proofs.Placing.{hand_alike, hand_world}
use Rattle.ob_lower_correct.proofs.Standing.{self_is, this_value}
use Rattle.ob_lower_correct.proofs.Ending.{Finishes}

-- Locks and marks.

unlock_if : (b : Bool) (n : ℕ) (x y : World) → unlock n (if b then x else y) ≡ (if b then unlock n x else unlock n y)
unlock_if true n x y = refl
unlock_if false n x y = refl

unlock_read : (w : World) (m n : ℕ) → read_object (unlock n w) m ≡ unlock n (read_object w m)
unlock_read w m n = sym (unlock_if (is_made w m) n w (with_read w (object_item m)))

unlock_edit : (g : Object → Object) (m n : ℕ) (w : World) → edit_object g m (unlock n w) ≡ unlock n (edit_object g m w)
unlock_edit g m n w = go (object_at w.objects m)
  where
    go : (o : Option Object) → option_map_or (λ o. set_object (unlock n w) m (g o)) o (unlock n w) ≡ unlock n (option_map_or (λ o. set_object w m (g o)) o w)
    go None = refl
    go (Some o) = refl

unlock_shared : (m n : ℕ) (w : World) → mark_shared m (unlock n w) ≡ unlock n (mark_shared m w)
unlock_shared m n w =
    let v = read_object w m in
    ap (λ u. if has_mark (λ o. o.shared) u m then u else edit_object (λ o. record o { shared = true }) m u) (unlock_read w m n)
    ∙ ap (λ u. if has_mark (λ o. o.shared) v m then unlock n v else u) (unlock_edit (λ o. record o { shared = true }) m n v)
    ∙ sym (unlock_if (has_mark (λ o. o.shared) v m) n v (edit_object (λ o. record o { shared = true }) m v))

unlock_marked : (b : Bool) (m n : ℕ) (w : World) → (if b then mark_shared m (unlock n w) else unlock n w) ≡ unlock n (if b then mark_shared m w else w)
unlock_marked true m n w = unlock_shared m n w
unlock_marked false m n w = refl

pub unlock_into : (of : ResolvedType) (v : Value) (n : ℕ) (w : World) → comes_into of v (unlock n w) ≡ unlock n (comes_into of v w)
unlock_into (typed.Reference id p) (reference m) n w = unlock_marked _ m n w
unlock_into (typed.Reference id p) (int_value z) n w = refl
unlock_into (typed.Reference id p) (bool_value z) n w = refl
unlock_into (typed.Reference id p) (text_value z) n w = refl
unlock_into typed.Int v n w = refl
unlock_into typed.Bool v n w = refl
unlock_into typed.Text v n w = refl

unlock_goes : (of : Option ResolvedType) (r : Option Value) (n : ℕ) (w : World) → result_goes of r (unlock n w) ≡ unlock n (result_goes of r w)
unlock_goes (Some of) (Some v) n w = unlock_into of v n w
unlock_goes (Some of) None n w = refl
unlock_goes None r n w = refl

-- what holds of the parameters at the beginning
holds_within : (ps : List Parameter) (vs : List Value) (slots more : SlotCells) (k : ℕ) → ((n : ℕ) → k ≤ n → n < k + length ps → shape (more n) ≡ shape (slots n)) → HoldsFrom slots k ps vs → HoldsFrom more k ps vs
holds_within [] [] slots more k same h = tt
holds_within (p ∷ ps) (v ∷ vs) slots more k same h = (same k (omega arith) (omega arith) ∙ h.0, holds_within ps vs slots more (suc k) (λ n le lt. same n (omega (arith, le)) (omega (arith, lt))) h.1)
holds_within [] (v ∷ vs) slots more k same h = absurd h
holds_within (p ∷ ps) [] slots more k same h = absurd h

as_many_parameters : (params : List Param) → length (map parameter_of params) ≡ length params
as_many_parameters [] = refl
as_many_parameters (p ∷ ps) = ap suc (as_many_parameters ps)

-- how the source's body ends: a transaction's, and a constructor's
abbrev pub gives_back : ClassTable → Setting → List Value → Option Value → World → RunOutcome (Option Value)
gives_back table s args r w = if_right (may_return table w.objects s.here s.signature s.this args r) (gives r (result_goes s.signature.result r w))

abbrev pub gives_object : ClassTable → Setting → List Value → Option Value → World → RunOutcome (Option Value)
gives_object table s args r w =
    if_right (may_return table w.objects s.here s.signature s.this args r)
    (with_object w s.this (λ o. if_right (is_finished s.own o) (gives (Some (reference s.this)) (this_comes s.here s.signature.exit s.this w))))

three : (a b c d : Bool) → (a && b) ≡ d → (a && b && c) ≡ (d && c)
three true b c d e = ap (λ x. x && c) e
three false b c d e = ap (λ x. x && c) e

module _ (program : SilicaProgram) (most : ℕ) (calls : Calls) (called : CallsRun program most calls) (s : Setting) (found : contract_at program.table s.here ≡ Some s.own)
    (start : SlotCells) (args : List Value) (fixed : List ℕ) (zero_fixed : Used 0 fixed) (fixed_is : fixed ≡ low.slots_below (length s.signature.params + 1))
    (signed : signature_of program.table s.here s.tx ≡ Some s.signature) (held : HoldsFrom start 1 (map parameter_of s.signature.params) args) where
  abbrev table : ClassTable
  table = program.table

  -- the test of a return on both sides
  exits_are : (h : Here) (control : Control) → Stands table most s h → Kept fixed start h.slots
      → exits_are_within table (config s h control) s.signature ≡ (is_held_within table h.world.objects s.here s.signature.exit (Some s.this) && may_leave_args table h.world.objects s.signature.params args)
  exits_are h control st k =
      ap (λ o. option_map_or (is_within table h.world.objects (typed.Reference s.here s.signature.exit)) o true && are_within table h.world.objects h.slots 1 (map at_exit (map parameter_of s.signature.params))) (this_value table most st)
      ∙ ap (λ b. is_held_within table h.world.objects s.here s.signature.exit (Some s.this) && b)
      (within_exits table h.world.objects s.signature.params args h.slots 1
      (holds_within (map parameter_of s.signature.params) args start h.slots 1 (λ n le lt. k.by n (subst (Used n) (sym fixed_is) (used_below n (length s.signature.params + 1) (small n (length s.signature.params) (length (map parameter_of s.signature.params)) (as_many_parameters s.signature.params) lt)))) held))
    where
      small : (n a b : ℕ) → b ≡ a → n < 1 + b → n < a + 1
      small n a b e lt = omega (arith, e, lt)

  return_is : (h : Here) (place : Option Location) (control : Control) (outer : List Rest) → Stands table most s h → Kept fixed start h.slots
      → return_step program place outer (config s h control)
      ≡ (if is_held_within table h.world.objects s.here s.signature.exit (Some s.this) && may_leave_args table h.world.objects s.signature.params args then returning.gives_result program s.signature s.signature.result place outer (config s h control) else stuck)
  return_is h place control outer st k =
      ap (λ o. if_there o (λ g. if exits_are_within table (config s h control) g then returning.gives_result program g g.result place outer (config s h control) else stuck)) signed
      ∙ ap (λ b. if b then returning.gives_result program s.signature s.signature.result place outer (config s h control) else stuck) (exits_are h control st k)

  -- a value is handed to the caller
  module _ (finish : Option Value → World → RunOutcome (Option Value)) where
    handed : (of : ResolvedType) (place : Location) (x : Cell) (v : Value) (h : Here) (outer : List Rest) (c : Configuration) → Stands table most s h → x.value ≡ v
        → step program c ≡ goes (config s (hand of place x h) (leaves (Some (bound_cell of x.value)) outer))
        → Left program most calls called s found start finish fixed zero_fixed outer h (Some v) (comes_into of v h.world) c
    handed of place x v h outer c st ev e =
        let t = hand of place x h in
        let al = hand_alike program most of place x h in
        let world_is : t.world ≡ comes_into of v h.world = hand_world program most of place x h ∙ ap (λ u. comes_into of u h.world) ev in
        let quiet = quiet_into of v h.world in
        record {
          slots = t.slots;
          notes = t.notes;
          cell = Some (bound_cell of x.value);
          value = ap Some ev;
          answers = λ is. refl;
          comes = record { kept = record { by = λ n u. al.slots n }; later = quiet_later quiet; noted = noted_quiet st.noted quiet al.notes; fuel = subst (λ i. i ≤ most) (sym quiet.fuel) st.fuel };
          leads = one_step program (e ∙ ap (λ w. goes (config s (record { slots = t.slots; notes = t.notes; world = w }) (leaves (Some (bound_cell of x.value)) outer))) world_is);
        }

  -- A transaction's return.

  abbrev plain : Option Value → World → RunOutcome (Option Value)
  plain r w = gives_back table s args r w

  abbrev E : Here → Bool
  E h = is_held_within table h.world.objects s.here s.signature.exit (Some s.this) && may_leave_args table h.world.objects s.signature.params args

  plain_none : (h : Here) (outer : List Rest) (c : Configuration) (b : Bool) (ro : Option ResolvedType) → ro ≡ None → s.signature.result ≡ None → (s.how ≡ by_new → ⊥) → Stands table most s h → E h ≡ b → step program c ≡ (if b then goes (config s h (leaves None outer)) else stuck)
      → Ends program (Left program most calls called s found start plain fixed zero_fixed outer h) c (if_right (is_held_within table h.world.objects s.here s.signature.exit (Some s.this) && may_leave_args table h.world.objects s.signature.params args && may_give table h.world.objects ro None) (gives None (result_goes ro None h.world)))
  plain_none h outer c b (Some kind) er no_result no_new st eb e = absurd (none_some (sym er))
  plain_none h outer c b None er no_result no_new st eb e = by_test b e (three (is_held_within table h.world.objects s.here s.signature.exit (Some s.this)) (may_leave_args table h.world.objects s.signature.params args) true b eb)
    where
      no_answer : IsSome s.signature.result ⊎ (s.how ≡ by_new) → ⊥
      no_answer (inl is) = true≢false (sym is ∙ ap is_some no_result)
      no_answer (inr is) = no_new is

      by_test : (b : Bool) → step program c ≡ (if b then goes (config s h (leaves None outer)) else stuck)
          → (is_held_within table h.world.objects s.here s.signature.exit (Some s.this) && may_leave_args table h.world.objects s.signature.params args && true) ≡ (b && true)
          → Ends program (Left program most calls called s found start plain fixed zero_fixed outer h) c (if_right (is_held_within table h.world.objects s.here s.signature.exit (Some s.this) && may_leave_args table h.world.objects s.signature.params args && true) (gives None h.world))
      by_test true e t = rw t (record { by = record { slots = h.slots; notes = h.notes; cell = None; value = refl; answers = λ is. absurd (no_answer is); comes = comes_self table most fixed st; leads = one_step program e } })
      by_test false e t = rw t (record { by = one_step program e })

  plain_some : (h : Here) (from : Operand) (o : Option Value) (outer : List Rest) (c : Configuration) (b : Bool) (ro : Option ResolvedType) → IsSome ro → Stands table most s h → E h ≡ b → value_in (read table h (located from)) ≡ o
      → step program c ≡ (if b then returning.gives_result program s.signature ro (Some (located from)) outer (config s h (runs no_terms outer)) else stuck)
      → Ends program (Left program most calls called s found start plain fixed zero_fixed outer h) c (with_some o (λ v. if_right (is_held_within table h.world.objects s.here s.signature.exit (Some s.this) && may_leave_args table h.world.objects s.signature.params args && may_give table h.world.objects ro (Some v)) (gives (Some v) (result_goes ro (Some v) h.world))))
  plain_some h from o outer c b None is st eb er e = absurd (true≢false (sym is))
  plain_some h from None outer c true (Some kind) is st eb er e = record { by = one_step program (e ∙ not_there (read table h (located from)) _ er) }
  plain_some h from None outer c false (Some kind) is st eb er e = record { by = one_step program e }
  plain_some h from (Some v) outer c false (Some kind) is st eb er e = rw (three (is_held_within table h.world.objects s.here s.signature.exit (Some s.this)) (may_leave_args table h.world.objects s.signature.params args) (is_within table h.world.objects kind v) false eb) (record { by = one_step program e })
  plain_some h from (Some v) outer c true (Some kind) is st eb er e =
      let x = there (read table h (located from)) v er in
      rw (three (is_held_within table h.world.objects s.here s.signature.exit (Some s.this)) (may_leave_args table h.world.objects s.signature.params args) (is_within table h.world.objects kind v) true eb)
      (by_test (is_within table h.world.objects kind v) x.0 x.2
      (e ∙ ap (λ z. if_there z (λ x. if is_within table h.world.objects kind x.value then goes (config s (hand kind (located from) x h) (leaves (Some (bound_cell kind x.value)) outer)) else stuck)) x.1
      ∙ ap (λ u. if is_within table h.world.objects kind u then goes (config s (hand kind (located from) x.0 h) (leaves (Some (bound_cell kind x.0.value)) outer)) else stuck) x.2))
    where
      by_test : (d : Bool) (x : Cell) → x.value ≡ v → step program c ≡ (if d then goes (config s (hand kind (located from) x h) (leaves (Some (bound_cell kind x.value)) outer)) else stuck)
          → Ends program (Left program most calls called s found start plain fixed zero_fixed outer h) c (if_right d (gives (Some v) (comes_into kind v h.world)))
      by_test true x ev st2 = record { by = handed plain kind (located from) x v h outer c st ev st2 }
      by_test false x ev st2 = record { by = one_step program st2 }

  plain_unlocks : (r : Option Value) (n : ℕ) (w : World) → plain r (unlock n w) ≡ (plain r w >>= (λ v w1. gives v (unlock n w1)))
  plain_unlocks r n w = by_test (may_return table w.objects s.here s.signature s.this args r)
    where
      by_test : (b : Bool) → if_right b (gives r (result_goes s.signature.result r (unlock n w))) ≡ (if_right b (gives r (result_goes s.signature.result r w)) >>= (λ v w1. gives v (unlock n w1)))
      by_test true = ap (gives r) (unlock_goes s.signature.result r n w)
      by_test false = refl

  leaves_none : (how : How) (h : Here) (outer : List Rest) (control : Control) → (how ≡ by_new → ⊥) → returning.gives_none how program s.signature outer (config s h control) ≡ goes (config s h (leaves None outer))
  leaves_none by_receiver h outer control no_new = refl
  leaves_none by_this h outer control no_new = refl
  leaves_none by_new h outer control no_new = absurd (no_new refl)

  -- a transaction's returns do what the source's do
  pub plain_finishes : (s.how ≡ by_new → ⊥) → Finishes program most calls called s found start plain fixed zero_fixed
  plain_finishes no_new = record {
    none = λ h span rest outer st k er.
        plain_none h outer _ (E h) s.signature.result er er no_new st refl
        (return_is h None (runs (and_term (return_form None) span rest) outer) outer st k
        ∙ ap (λ ro. if E h then returning.gives_result program s.signature ro None outer (config s h (runs (and_term (return_form None) span rest) outer)) else stuck) er
        ∙ ap (λ n. if E h then n else stuck) (leaves_none s.how h outer (runs (and_term (return_form None) span rest) outer) no_new));
    some = λ h from o span rest outer st k is er. plain_some h from o outer _ (E h) s.signature.result is st refl er (return_is h (Some (located from)) (runs (and_term (return_form (Some from)) span rest) outer) outer st k ∙ same_gives h from outer span rest s.signature.result is);
    unlocks = plain_unlocks;
  }
    where
      same_gives : (h : Here) (from : Operand) (outer : List Rest) (span : Span) (rest : SilicaTerms) (ro : Option ResolvedType) → IsSome ro
          → (if E h then returning.gives_result program s.signature ro (Some (located from)) outer (config s h (runs (and_term (return_form (Some from)) span rest) outer)) else stuck)
          ≡ (if E h then returning.gives_result program s.signature ro (Some (located from)) outer (config s h (runs no_terms outer)) else stuck)
      same_gives h from outer span rest None is = absurd (true≢false (sym is))
      same_gives h from outer span rest (Some kind) is = refl

  -- A constructor's.

  abbrev new : Option Value → World → RunOutcome (Option Value)
  new r w = gives_object table s args r w

  new_none : (h : Here) (outer : List Rest) (c : Configuration) (b : Bool) (ro : Option ResolvedType) → ro ≡ None → (st : Stands table most s h) → E h ≡ b
      → step program c ≡ (if b then returning.gives_this program s.signature outer (config s h (runs no_terms outer)) else stuck)
      → Ends program (Left program most calls called s found start new fixed zero_fixed outer h) c (if_right (is_held_within table h.world.objects s.here s.signature.exit (Some s.this) && may_leave_args table h.world.objects s.signature.params args && may_give table h.world.objects ro None)
      (with_object h.world s.this (λ o. if_right (is_finished s.own o) (gives (Some (reference s.this)) (this_comes s.here s.signature.exit s.this h.world)))))
  new_none h outer c b (Some kind) er st eb e = absurd (none_some (sym er))
  new_none h outer c false None er st eb e = rw (three (is_held_within table h.world.objects s.here s.signature.exit (Some s.this)) (may_leave_args table h.world.objects s.signature.params args) true false eb) (record { by = one_step program e })
  new_none h outer c true None er st eb e =
      let x = there (h.slots 0) (reference s.this) (this_value table most st) in
      rw (three (is_held_within table h.world.objects s.here s.signature.exit (Some s.this)) (may_leave_args table h.world.objects s.signature.params args) true true eb, st.object.1)
      (by_test (is_finished s.own st.object.0) x.0 x.2
      (e ∙ ap (λ z. if_there z (λ own. if_there (self h) (λ o. if_there (h.slots 0) (λ x. if is_finished own o then goes (config s (hand (typed.Reference s.here s.signature.exit) this x h) (leaves (Some (bound_cell (typed.Reference s.here s.signature.exit) x.value)) outer)) else stuck)))) found
      ∙ ap (λ z. if_there z (λ o. if_there (h.slots 0) (λ x. if is_finished s.own o then goes (config s (hand (typed.Reference s.here s.signature.exit) this x h) (leaves (Some (bound_cell (typed.Reference s.here s.signature.exit) x.value)) outer)) else stuck))) (ap (λ n. object_at h.world.objects n) (self_is table most st) ∙ st.object.1)
      ∙ ap (λ z. if_there z (λ x. if is_finished s.own st.object.0 then goes (config s (hand (typed.Reference s.here s.signature.exit) this x h) (leaves (Some (bound_cell (typed.Reference s.here s.signature.exit) x.value)) outer)) else stuck)) x.1))
    where
      by_test : (d : Bool) (x : Cell) → x.value ≡ reference s.this → step program c ≡ (if d then goes (config s (hand (typed.Reference s.here s.signature.exit) this x h) (leaves (Some (bound_cell (typed.Reference s.here s.signature.exit) x.value)) outer)) else stuck)
          → Ends program (Left program most calls called s found start new fixed zero_fixed outer h) c (if_right d (gives (Some (reference s.this)) (this_comes s.here s.signature.exit s.this h.world)))
      by_test true x ev st2 = record { by = handed new (typed.Reference s.here s.signature.exit) this x (reference s.this) h outer c st ev st2 }
      by_test false x ev st2 = record { by = one_step program st2 }

  new_unlocks : (r : Option Value) (n : ℕ) (w : World) → new r (unlock n w) ≡ (new r w >>= (λ v w1. gives v (unlock n w1)))
  new_unlocks r n w = by_test (may_return table w.objects s.here s.signature s.this args r) (object_at w.objects s.this)
    where
      finished : (b : Bool) → if_right b (gives (Some (reference s.this)) (this_comes s.here s.signature.exit s.this (unlock n w))) ≡ (if_right b (gives (Some (reference s.this)) (this_comes s.here s.signature.exit s.this w)) >>= (λ v w1. gives v (unlock n w1)))
      finished true = ap (gives (Some (reference s.this))) (unlock_into (typed.Reference s.here s.signature.exit) (reference s.this) n w)
      finished false = refl

      by_test : (b : Bool) (x : Option Object) → if_right b (with_some x (λ o. if_right (is_finished s.own o) (gives (Some (reference s.this)) (this_comes s.here s.signature.exit s.this (unlock n w)))))
          ≡ (if_right b (with_some x (λ o. if_right (is_finished s.own o) (gives (Some (reference s.this)) (this_comes s.here s.signature.exit s.this w)))) >>= (λ v w1. gives v (unlock n w1)))
      by_test false x = refl
      by_test true None = refl
      by_test true (Some o) = finished (is_finished s.own o)

  -- a constructor's returns do what the source's do
  pub new_finishes : s.how ≡ by_new → s.signature.result ≡ None → Finishes program most calls called s found start new fixed zero_fixed
  new_finishes is_new no_result = record {
    none = λ h span rest outer st k er.
        new_none h outer _ (E h) s.signature.result er st refl
        (return_is h None (runs (and_term (return_form None) span rest) outer) outer st k
        ∙ ap (λ ro. if E h then returning.gives_result program s.signature ro None outer (config s h (runs (and_term (return_form None) span rest) outer)) else stuck) er
        ∙ ap (λ how. if E h then returning.gives_none how program s.signature outer (config s h (runs (and_term (return_form None) span rest) outer)) else stuck) is_new);
    some = λ h from o span rest outer st k is er. absurd (true≢false (sym is ∙ ap is_some no_result));
    unlocks = new_unlocks;
  }
