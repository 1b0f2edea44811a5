-- A field of `this` gets a copy of a value, or a reference that is moved.
use Rattle.std.proofs.Common.{◌≡◌, ◌≢◌, ℕ, ◌+◌, true, false, Bool, List, Option, Some, None, refl, sym, ap, ◌∙◌, subst, arith, true≢false, inl, ⊎_elim}
use Rattle.std.specs.Prelude.{slice_get, option_map, option_and_then, if◌then◌else◌}
use Rattle.std.specs.Option.{option_map_or}
use Rattle.std.proofs.lemmas.Bool.{both_ways, cases_Bool}
use Rattle.std.proofs.lemmas.Option.{same_Some, slice_get_within}
use Rattle.ob_base.specs.declared.fault.Span.{Span}
use Rattle.ob_base.specs.declared.id.FieldId.{FieldId}
use Rattle.ob_perm.specs.Permissions.{unowned, owns}
use Rattle.ob_table.specs.Tables.{ClassTable, contract_at, field_at}
use Rattle.ob_table.specs.declared.contract.Contract.{Contract}
use Rattle.ob_table.specs.declared.contract.Field.{Field}
use Rattle.ob_table.specs.declared.contract.ResolvedType.TheVariants.{Int as IntType}
use Rattle.ob_table.specs.declared.seen.Kind.{Kind}
use Rattle.ob_table.specs.declared.seen.Kind.TheVariants.{Int, Bool as BoolKind, Text, Reference}
use Rattle.ob_table_spec.specs.WellFormed.{is_reference, serves_as, kind_of_resolved}
use Rattle.ob_heap_spec.specs.Values.{Value, reference}
use Rattle.ob_heap_spec.specs.Objects.{Object, is_available}
use Rattle.ob_silica.specs.Terms.{SilicaTerms, copy_form, and_term}
use Rattle.ob_silica.specs.declared.place.Operand.{Operand}
use Rattle.ob_silica.specs.declared.place.Place.TheVariants.{Field as FieldPlace}
use Rattle.ob_silica_places.specs.Known.{Known, known}
use Rattle.ob_silica_places.specs.Places.{slot, field}
use Rattle.ob_silica_steps.specs.Cells.{Cell, plain_cell}
use Rattle.ob_silica_steps.specs.Configurations.{SilicaProgram, Rest, runs, Configuration}
use Rattle.ob_silica_steps.specs.Here.{Here, here, self_of, field_of, set_field}
use Rattle.ob_silica_steps.specs.Straight.{available_field}
use Rattle.ob_silica_steps.specs.Steps.{act}
use Rattle.ob_silica_formed.specs.Points.{HasKind}
use Rattle.ob_flow_spec.specs.Contexts.{BodyFrame, Context, put, type_of_field, is_tested, static_of}
use Rattle.ob_places_laws.proofs.Tables.{there_is, if_there_so}
use Rattle.ob_coherent_spec.specs.Counting.{Counted, any, in_cell}
use Rattle.ob_coherent_spec.specs.Runs.{tested_places}
use Rattle.ob_coherent_spec.specs.Standing.{Stands, IsOfKind, NeedsOwner}
use Rattle.ob_coherent_spec.specs.Saying.{SaysOf, own_object}
use Rattle.ob_coherent_spec.specs.Remaining.{IsCheckedProgram, body_of, IsPlaceIn, Remains}
use Rattle.ob_coherent_spec.specs.Coherent.{Beginning, IsRunning, IsCoherent, StepsSo}
use Rattle.ob_soundness_laws.proofs.counting.Cells.{cell_other}
use Rattle.ob_soundness_laws.proofs.counting.Low.{place_low}
use Rattle.ob_soundness_laws.proofs.counting.Writing.{IsLow, in_here, here_field}
use Rattle.ob_soundness_laws.specs.frames.Steps.{moved}
use Rattle.ob_soundness_laws.specs.places.Placed.{Sits, HasRoom, cell_at}
use Rattle.ob_soundness_laws.proofs.places.Reading.{self_is, field_of_is, kind_in_run}
use Rattle.ob_soundness_laws.proofs.places.Writing.{field_written, field_marks}
use Rattle.ob_soundness_laws.proofs.places.Keeping.{own_state}
use Rattle.ob_soundness_laws.proofs.places.Standing.{stands_stay}
use Rattle.ob_soundness_laws.proofs.places.Finding.{sits_read, own_is, field_now}
use Rattle.ob_soundness_laws.proofs.places.Getting.{kind_up}
use Rattle.ob_soundness_laws.proofs.tests.Finding.{stands_at}
use Rattle.ob_soundness_laws.proofs.tests.Unchanged.{opens_so}
use Rattle.ob_soundness_laws.proofs.forms.Amid.{Amid, sits, amid_first, amid_written, form_done}
use Rattle.ob_soundness_laws.proofs.forms.Slots.{plain_value, plain_none, tested_refers}
use Rattle.ob_soundness_laws.proofs.forms.Straight.{plain_stands, plain_says, first, formed, after, operand_found, operand_read, operand_stands, operand_kind}

-- what serves as a kind of no reference isn't wanted as one
serves_plain : (table : ClassTable) (wanted has : Kind) → is_reference has ≡ false → serves_as table wanted has ≡ true
    → is_reference wanted ≡ false
serves_plain table (Reference i) (Reference c) e s = e
serves_plain table (Reference i) Int e s = absurd (true≢false (sym s))
serves_plain table (Reference i) BoolKind e s = absurd (true≢false (sym s))
serves_plain table (Reference i) Text e s = absurd (true≢false (sym s))
serves_plain table Int has e s = refl
serves_plain table BoolKind has e s = refl
serves_plain table Text has e s = refl

-- the type of a field that is declared
pub declared_type : (b : BodyFrame) (n : ℕ) (d : Field) → slice_get b.own.fields n ≡ Some d → type_of_field b n ≡ d.of
declared_type b n d e = ap (λ x. option_map_or (λ (f : Field). f.of) x IntType) e

module _ (program : SilicaProgram) (checked : IsCheckedProgram program) (entry : Option ℕ) (beginning : Beginning)
    (c : Configuration)
    (k : IsRunning program.table entry beginning c) (n : ℕ) (d : Field)
    (declared : slice_get k.whole.parts.own.fields n ≡ Some d)
    (there : is_available (own_object (here c)).state d ≡ true) where
  -- the frame sits so
  abbrev seated : Sits program.table c.frame k.whole.parts (here c) k.context
  seated = sits program.table checked.table entry beginning c k

  -- the body that the frame runs
  abbrev body : BodyFrame
  body = body_of program.table c.frame k.whole.parts

  -- the field is there
  pub field_found : available_field program.table (here c) n ≡ Some d
  field_found =
      ap (λ x. option_and_then (λ (o : Object). option_and_then (λ f. if is_available o.state f then Some f else None)
      (field_of program.table o n)) x)
      (self_is (here c) k.whole.frame.there)
      ∙ ap (λ x. option_and_then (λ f. if is_available (own_object (here c)).state f then Some f else None) x)
      (field_of_is program.table (own_object (here c)) k.whole.parts.own n
      (ap (contract_at program.table) k.whole.frame.contract ∙ k.whole.frame.own) ∙ declared)
      ∙ ap (λ (b : Bool). if b then Some d else None) there

  pub inside_field : IsPlaceIn body (field n)
  inside_field = slice_get_within k.whole.parts.own.fields n d declared

  pub low_field : IsLow (field n)
  low_field = place_low program.table checked.table c.world.objects c.frame k.whole.parts k.whole.frame
      (field n) inside_field

  -- what stands there has the declared kind
  pub field_kind : (x : Cell) → cell_at (here c) (field n) ≡ Some x → x.note.kind ≡ kind_of_resolved d.of
  field_kind x e =
      let r = kind_in_run program.table c.notes c.world.objects (self_of c.frame.slots) seated.object n x e in
      r.4 ∙ ap (λ (f : Field). kind_of_resolved f.of) (same_Some r.1 d (sym r.2
      ∙ ap (λ (o : Contract). slice_get o.fields n)
      (own_is program.table checked.table c.frame k.whole.parts (here c) k.context seated) ∙ declared))

  -- there is room for a value of that kind
  pub field_room : (h : Here) (g : Context) (s : Sits program.table c.frame k.whole.parts h g)
      → (own_object h).state ≡ (own_object (here c)).state
      → (x : Cell) → x.note.kind ≡ kind_of_resolved d.of → HasRoom s.object.own (own_object h).state (field n) (Some x)
  field_room h g s same x e m z is f =
      let i : n ≡ m = number is in (
        d,
        ap (λ (o : Contract). slice_get o.fields m) (own_is program.table checked.table c.frame k.whole.parts h g s)
            ∙ ap (slice_get k.whole.parts.own.fields) (sym i) ∙ declared,
        ap (λ t. is_available t d) same ∙ there,
        ap (λ (y : Cell). y.note.kind) (sym (same_Some x z f)) ∙ e,
      )
    where
      number : {i j : ℕ} → field i ≡ field j → i ≡ j
      number e = cc

  no_slot : (m : ℕ) → field n ≡ slot m → ⊥
  no_slot m e = cc

  pub amid_field : (outer : List Rest) (h : Here) (g : Context) (x : Cell) (y : Known)
      (a : Amid program.table c k.whole.parts outer h g)
      → x.note.kind ≡ kind_of_resolved d.of → Stands program.table (set_field n x h).world.objects x
      → SaysOf (NeedsOwner program.table (set_field n x h).world.objects) (Some y) (Some x)
      → is_tested (tested_places outer) (field n) ≡ false
      → Amid program.table c k.whole.parts outer (set_field n x h) (put g (field n) (Some y))
  amid_field outer h g x y a kind st says untested =
      amid_written program.table checked.table entry beginning c k outer h (set_field n x h) g (field n) (Some x)
      (Some y) a
      (field_written n x h a.sits.frame.there) inside_field
      (λ m e le. absurd (no_slot m e))
      (field_room h g a.sits (own_state (here c) h a.stays) x kind)
      (λ z e. subst (Stands program.table (set_field n x h).world.objects) (same_Some x z e) st)
      says
      (λ e. absurd (no_slot 0 e))
      (λ made e. absurd (no_slot 0 e))
      (λ e. absurd (both_ways _ untested e))

  -- A value that is no reference is copied to the field.
  module _ (terms : SilicaTerms) (outer : List Rest) (so : c.control ≡ runs terms outer) (v : Value)
      (is : IsOfKind program.table c.world.objects (kind_of_resolved d.of) v)
      (plain : is_reference (kind_of_resolved d.of) ≡ false) where
    abbrev pub copied : Here
    copied = set_field n (plain_cell v (kind_of_resolved d.of)) (here c)

    copy_stands : Stands program.table c.world.objects (plain_cell v (kind_of_resolved d.of))
    copy_stands = plain_stands program.table c.world.objects v (kind_of_resolved d.of) is

    was_plain : (x : Cell) → cell_at (here c) (field n) ≡ Some x → (m : ℕ) → x.value ≢ reference m
    was_plain x e = plain_value program.table c.world.objects x
        (stands_at program.table checked.table entry beginning c k (field n) x e)
        (ap is_reference (field_kind x e) ∙ plain)

    untested_field : is_tested (tested_places outer) (field n) ≡ false
    untested_field = ⊎_elim
        (λ e. let r = tested_refers body (here c) outer (field n)
        (opens_so program.table entry beginning c k terms outer so) e in
        absurd (was_plain r.cell
        (sym (sits_read program.table checked.table c.frame k.whole.parts (here c) k.context seated (field n))
        ∙ r.found) r.number r.object))
        (λ e. e)
        (cases_Bool (is_tested (tested_places outer) (field n)))

    pub copy_done : (rest : SilicaTerms) → Remains body k.holdings
        (put k.context (field n) (Some (known (kind_of_resolved (type_of_field body n)) unowned))) rest outer
        → IsCoherent program.table entry beginning (moved c copied rest outer)
    copy_done rest remains = form_done program.table checked.table entry beginning c k terms outer so copied
        (put k.context (field n) (Some (known (kind_of_resolved (type_of_field body n)) unowned))) rest k.holdings
        (amid_field outer (here c) k.context (plain_cell v (kind_of_resolved d.of))
        (known (kind_of_resolved (type_of_field body n)) unowned)
        (amid_first program.table checked.table entry beginning c k terms outer so) refl
        (stands_stay program.table (here c) copied
        (field_written n (plain_cell v (kind_of_resolved d.of)) (here c) k.whole.frame.there).stays
        (plain_cell v (kind_of_resolved d.of)) copy_stands)
        (plain_says (NeedsOwner program.table copied.world.objects) v (kind_of_resolved d.of)
        (kind_of_resolved (type_of_field body n))
        (ap kind_of_resolved (sym (declared_type body n d declared))))
        untested_field)
        (record {
          fewer = λ m. let e = counts_field owns m in let a = none_now owns m in omega (arith, e, a);
          keeps_owner = λ m needs. let e = counts_field owns m in let a = none_before owns m in omega (arith, e, a);
          newly_shared =
              λ m e f. absurd
              (both_ways _ e (sym ((field_marks n (plain_cell v (kind_of_resolved d.of)) (here c)).shared m) ∙ f));
          newly_disowned =
              λ m e f. absurd
              (both_ways _ e (sym ((field_marks n (plain_cell v (kind_of_resolved d.of)) (here c)).disowned m) ∙ f));
          shares = λ j x y le e f s. inl (ap (λ (w : Cell). w.note.permission) (same_Some x y (sym e ∙ f)) ∙ s);
          unreferred = λ m has. let e = counts_field any m in let a = none_now any m in omega (arith, e, a);
        })
        k.held remains
      where
        counts_field : (counts : Counted) (m : ℕ)
            → in_here counts m copied + in_cell counts m (cell_at (here c) (field n))
            ≡ in_here counts m (here c) + in_cell counts m (Some (plain_cell v (kind_of_resolved d.of)))
        counts_field counts m = here_field counts m n (plain_cell v (kind_of_resolved d.of))
            (here c) low_field k.whole.frame.there

        none_now : (counts : Counted) (m : ℕ) → in_cell counts m (Some (plain_cell v (kind_of_resolved d.of))) ≡ 0
        none_now counts m = cell_other counts m (plain_cell v (kind_of_resolved d.of))
            (plain_value program.table c.world.objects (plain_cell v (kind_of_resolved d.of)) copy_stands plain m)

        none_before : (counts : Counted) (m : ℕ) → in_cell counts m (cell_at (here c) (field n)) ≡ 0
        none_before counts m = plain_none counts m (cell_at (here c) (field n)) was_plain

module _ (program : SilicaProgram) (checked : IsCheckedProgram program) (entry : Option ℕ) (beginning : Beginning)
    (c : Configuration)
    (k : IsRunning program.table entry beginning c) (span : Span) (rest : SilicaTerms) (outer : List Rest) where
  pub copy_field_keeps : (id : FieldId) (from : Operand)
      → c.control ≡ runs (and_term (copy_form (FieldPlace id) from) span rest) outer
      → StepsSo program.table entry beginning (act program (copy_form (FieldPlace id) from) rest outer c)
  copy_field_keeps id from so =
      let form = copy_form (FieldPlace id) from in
      let w = formed program checked entry beginning c k form span rest outer so in
      let ps = (first program checked entry beginning c k form span rest outer so).passes in
      let u = operand_found program checked entry beginning c k from ps.0.usable.readable in
      let f = field_now program.table checked.table c.frame k.whole.parts (here c) k.context
      (sits program.table checked.table entry beginning c k) id.0 (ps.0.reached id.0 refl) in
      let has = if_there_so (option_map (λ (x : Field). kind_of_resolved x.of) (field_at k.whole.parts.own id))
      (λ kind. HasKind (static_of (body_of program.table c.frame k.whole.parts)) k.holdings kind from)
      (kind_of_resolved f.0.of)
      (ap (option_map (λ (x : Field). kind_of_resolved x.of)) f.1) w.kinds.1 in
      let r = there_is _ _ has in
      let no = there_is _ _ w.kinds.0 in
      let is = operand_kind program checked entry beginning c k from ps.0.usable.readable r.0 r.1 in
      let same = operand_kind program checked entry beginning c k from ps.0.usable.readable no.0 no.1 in
      let serves : serves_as program.table (kind_of_resolved f.0.of) u.cell.note.kind ≡ true =
      ap (serves_as program.table (kind_of_resolved f.0.of)) is ∙ r.2 in
      rw (
        operand_read program checked entry beginning c k from ps.0.usable.readable,
        field_found program checked entry
            beginning c k id.0 f.0 f.1 f.2,
      )
      (copy_done program checked entry beginning c k id.0 f.0 f.1 f.2 (and_term form span rest) outer so u.cell.value
      (kind_up program.table checked.table c.world.objects u.cell.note.kind
      (kind_of_resolved f.0.of) u.cell.value serves
      (operand_stands program checked entry beginning c k from ps.0.usable.readable).kind)
      (serves_plain program.table (kind_of_resolved f.0.of) u.cell.note.kind (ap is_reference same ∙ no.2) serves)
      rest (after program checked entry beginning c k form span rest outer so _ ps.1))
