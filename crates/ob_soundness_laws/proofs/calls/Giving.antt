-- What a place keeps that is given to a parameter, and what the parameter gets.
use Rattle.std.proofs.Common.{◌≡◌, ℕ, ◌<◌, true, false, List, Option, Some, refl, sym, ap, subst, ◌∙◌, ⊎_elim, ◌⊎◌, inl, inr, true≢false}
use Rattle.ob_base.specs.declared.id.ContractId.{ContractId}
use Rattle.ob_base.specs.declared.permission.Perm.{Perm}
use Rattle.ob_perm.specs.States.{States, no_states}
use Rattle.ob_perm.specs.Permissions.{Permission, owned, shared, unowned, owns, is_unowned, fits, kept}
use Rattle.ob_table.specs.Tables.{ClassTable, contract_at}
use Rattle.ob_table.specs.declared.contract.ResolvedType.{ResolvedType}
use Rattle.ob_table.specs.declared.contract.ResolvedType.TheVariants.{Int as IntType, Bool as BoolType, Text as TextType, Reference as TypedReference}
use Rattle.ob_table.specs.declared.seen.Kind.{Kind}
use Rattle.ob_table.specs.declared.seen.Kind.TheVariants.{Int, Bool as BoolKind, Text, Reference}
use Rattle.ob_table_spec.specs.Conditions.{IsClassTable}
use Rattle.ob_table_spec.specs.WellFormed.{kind_of_resolved, serves_as, is_implemented}
use Rattle.ob_heap_spec.specs.Values.{Value, int_value, bool_value, text_value, reference}
use Rattle.ob_heap_spec.specs.Objects.{Object}
use Rattle.ob_heap_spec.specs.Contents.{IsStateOf}
use Rattle.ob_silica_places.specs.Known.{Known, known, permission_of_type}
use Rattle.ob_silica_places.specs.Converting.{converted}
use Rattle.ob_silica_steps.specs.Cells.{Cell, noted}
use Rattle.ob_silica_steps.specs.Binding.{bound_cell}
use Rattle.ob_flow_spec.specs.Contexts.{with_permission, permission_on}
use Rattle.ob_flow_spec.specs.Joining.{same_mode}
use Rattle.ob_places_laws.specs.Serving.{Allows}
use Rattle.ob_places_laws.proofs.Conversions.{serves_is, serves_reference, serves_onward, serves_implementing, converted_owns, converted_no_say, converted_keeps}
use Rattle.ob_places_laws.proofs.Permissions.{owner_is, fits_owner, fits_shared}
use Rattle.ob_places_laws.proofs.SeenStates.{given_allows_state}
use Rattle.ob_places_laws.proofs.Serves.{fits_allowed}
use Rattle.ob_places_laws.proofs.Tables.{there_is}
use Rattle.ob_coherent_spec.specs.Counting.{nth_object, in_cell}
use Rattle.ob_coherent_spec.specs.Standing.{IsOfKind, RefersToShared, RefersToIn, Stands, HasItsState}
use Rattle.ob_coherent_spec.specs.Saying.{SaysOf}
use Rattle.ob_soundness_laws.proofs.counting.Cells.{counted_cell}

-- What is kept.

-- what a place keeps stands
pub kept_stands : (table : ClassTable) (objects : List Object) (x : Cell) (w : Permission)
    → (w ≡ shared → RefersToShared objects x.value) → Stands table objects x
    → Stands table objects (noted (kept x.note.permission w) x)
kept_stands table objects x (owned a) marked s =
    record { kind = s.kind; marked = λ e. absurd (cc); states = λ b e. absurd (cc) }
kept_stands table objects x shared marked s =
    record { kind = s.kind; marked = λ e. marked refl; states = λ b e. absurd (cc) }
kept_stands table objects x unowned marked s = s

-- a context says of it what is kept
pub kept_says : (N M : ℕ → Type 0) (y : Option Known) (note : Known) (x : Cell) (w : Permission) → y ≡ Some note
    → x.note.kind ≡ note.kind → Allows note.permission x.note.permission
    → ((n : ℕ) → N n → 0 < in_cell owns n (Some x) → owns note.permission ≡ true) → ((n : ℕ) → M n → N n)
    → SaysOf M (with_permission (kept (permission_on y) w) y) (Some (noted (kept x.note.permission w) x))
kept_says N M y note x w told kind serves owner fewer =
    subst (λ z. SaysOf M (with_permission (kept (permission_on z) w) z) (Some (noted (kept x.note.permission w) x)))
    (sym told) (by_want w)
  where
    by_want : (w : Permission)
        → SaysOf M (Some (known note.kind (kept note.permission w))) (Some (noted (kept x.note.permission w) x))
    by_want (owned a) = record {
      known = (kind, tt);
      owner = λ n must some. absurd (true≢false (sym (counted_cell owns n (noted unowned x) some).0));
    }
    by_want shared = record {
      known = (kind, refl);
      owner = λ n must some. absurd (true≢false (sym (counted_cell owns n (noted shared x) some).0));
    }
    by_want unowned = record { known = (kind, serves); owner = λ n must some. owner n (fewer n must) some }

pub kept_mode : (p q w : Permission) → same_mode p q ≡ true → same_mode (kept p w) (kept q w) ≡ true
kept_mode p q (owned a) e = refl
kept_mode p q shared e = refl
kept_mode p q unowned e = e

-- What fits.

-- an owner is given where one is wanted
pub gives_owner : (table : ClassTable) (k l : Kind) (p w : Permission) → fits (converted table k l p) w ≡ true
    → owns w ≡ true → owns p ≡ true
gives_owner table k l p (owned b) f e =
    let r = fits_owner (converted table k l p) b f in
    sym (converted_owns table k l p) ∙ ap owns r.1
gives_owner table k l p shared f e = absurd (true≢false (sym e))
gives_owner table k l p unowned f e = absurd (true≢false (sym e))

-- where a Shared one is wanted the given one has a say
pub gives_say : (table : ClassTable) (k l : Kind) (p : Permission) → fits (converted table k l p) shared ≡ true
    → is_unowned p ≡ false
gives_say table k l p f = sym (converted_no_say table k l p) ∙ by_way (fits_shared (converted table k l p) f)
  where
    by_way : ((a : States) × (converted table k l p ≡ owned a)) ⊎ (converted table k l p ≡ shared)
        → is_unowned (converted table k l p) ≡ false
    by_way (inl (a, e)) = ap is_unowned e
    by_way (inr e) = ap is_unowned e

-- a permission that serves has a say where the first has one
pub allowed_say : (p q : Permission) → Allows p q → is_unowned p ≡ false → is_unowned q ≡ false
allowed_say (owned a) q (b, e, among) say = ap is_unowned e
allowed_say shared q e say = ap is_unowned e
allowed_say unowned q e say = absurd (true≢false say)

-- a type whose permission has a say is that of a reference
pub say_type : (of : ResolvedType) → is_unowned (permission_of_type of) ≡ false
    → (id : ContractId) × (p : Perm) × (of ≡ TypedReference id p)
say_type IntType e = absurd (true≢false e)
say_type BoolType e = absurd (true≢false e)
say_type TextType e = absurd (true≢false e)
say_type (TypedReference id p) e = (id, p, refl)

-- What is got.

module _ (table : ClassTable) (is : IsClassTable table) (objects : List Object) where
  -- a value serves where another kind is needed
  pub kind_serves : (l k : Kind) (v : Value) → serves_as table l k ≡ true → IsOfKind table objects k v
      → IsOfKind table objects l v
  kind_serves l k v e h = ⊎_elim
      (λ same. subst (λ z. IsOfKind table objects z v) (sym same) h)
      (λ r. subst (λ z. IsOfKind table objects z v) (sym r.2)
      (up r.0 r.1 v r.4 (subst (λ z. IsOfKind table objects z v) r.3 h)))
      (serves_is table l k e)
    where
      up : (i c : ContractId) (v : Value) → is_implemented table c i ≡ true → IsOfKind table objects (Reference c) v
          → IsOfKind table objects (Reference i) v
      up i c (reference n) e h = (
        h.0,
        serves_onward table is (Reference i) (Reference c)
            (Reference (nth_object objects n).contract) (serves_implementing table i c e) h.1,
      )
      up i c (int_value z) e h = h
      up i c (bool_value z) e h = h
      up i c (text_value z) e h = h

  -- an owner that is given has its object in a wanted state
  bound_in : (k : Kind) (d : ContractId) (v : Value) (q : Permission) (a : States) → IsOfKind table objects k v
      → serves_as table (Reference d) k ≡ true → ((b : States) → q ≡ owned b → RefersToIn table objects k b v)
      → ((n : ℕ) → v ≡ reference n → HasItsState table (nth_object objects n))
      → fits (converted table k (Reference d) q) (owned a) ≡ true → RefersToIn table objects (Reference d) a v
  bound_in (Reference c) d (reference n) q a h e states placed f =
      let o = nth_object objects n in
      let own = there_is (contract_at table o.contract) (λ x. IsStateOf x o.state) (placed n refl) in
      let b = owner_is q (gives_owner table (Reference c) (Reference d) q (owned a) f refl) in
      given_allows_state table is own.0 o own.1 own.2 c d (owned no_states) (owned b.0) (owned a) h.1
      (serves_onward table is (Reference d) (Reference c) (Reference o.contract) e h.1)
      (states b.0 b.1) (subst (λ z. fits (converted table (Reference c) (Reference d) z) (owned a) ≡ true) b.1 f)
  bound_in (Reference c) d (int_value z) q a h e states placed f = absurd h
  bound_in (Reference c) d (bool_value z) q a h e states placed f = absurd h
  bound_in (Reference c) d (text_value z) q a h e states placed f = absurd h
  bound_in Int d v q a h e states placed f = absurd (true≢false (serves_reference table (Reference d) Int e))
  bound_in BoolKind d v q a h e states placed f = absurd (true≢false (serves_reference table (Reference d) BoolKind e))
  bound_in Text d v q a h e states placed f = absurd (true≢false (serves_reference table (Reference d) Text e))

  -- what a parameter gets stands; the rules know the first permission of the giver, and the second counts in the run
  pub bound_stands : (x : Cell) (of : ResolvedType) (p v : Permission) → Stands table objects x
      → serves_as table (kind_of_resolved of) x.note.kind ≡ true
      → ((n : ℕ) → x.value ≡ reference n → HasItsState table (nth_object objects n))
      → Allows p v → (v ≡ x.note.permission) ⊎ (v ≡ unowned)
      → fits (converted table x.note.kind (kind_of_resolved of) p) (permission_of_type of) ≡ true
      → (permission_of_type of ≡ shared → RefersToShared objects x.value) → Stands table objects (bound_cell of x.value)
  bound_stands x of p v s e placed allows is_or f marked = record {
    kind = kind_serves (kind_of_resolved of) x.note.kind x.value e s.kind;
    marked = marked;
    states = in_states of e f;
  }
    where
      run_fits : (of : ResolvedType) → fits (converted table x.note.kind (kind_of_resolved of) p)
          (permission_of_type of) ≡ true
          → fits (converted table x.note.kind (kind_of_resolved of) v) (permission_of_type of) ≡ true
      run_fits of f = fits_allowed (converted table x.note.kind (kind_of_resolved of) p)
          (converted table x.note.kind (kind_of_resolved of) v) (permission_of_type of)
          (converted_keeps table is x.note.kind (kind_of_resolved of) p v allows) f

      note_fits : (of : ResolvedType) (a : States) → permission_of_type of ≡ owned a
          → fits (converted table x.note.kind (kind_of_resolved of) v) (owned a) ≡ true
          → fits (converted table x.note.kind (kind_of_resolved of) x.note.permission) (owned a) ≡ true
      note_fits of a w f = ⊎_elim
          (λ same. subst (λ z. fits (converted table x.note.kind (kind_of_resolved of) z) (owned a) ≡ true) same f)
          (λ none. absurd (true≢false (sym (ap owns (sym none)
          ∙ gives_owner table x.note.kind (kind_of_resolved of) v (owned a) f refl))))
          is_or

      in_states : (of : ResolvedType) → serves_as table (kind_of_resolved of) x.note.kind ≡ true
          → fits (converted table x.note.kind (kind_of_resolved of) p) (permission_of_type of) ≡ true
          → (a : States) → permission_of_type of ≡ owned a → RefersToIn table objects (kind_of_resolved of) a x.value
      in_states IntType e f a w = absurd (cc)
      in_states BoolType e f a w = absurd (cc)
      in_states TextType e f a w = absurd (cc)
      in_states (TypedReference d q) e f a w =
          bound_in x.note.kind d x.value x.note.permission a s.kind e (λ b i. s.states b i) placed
          (note_fits (TypedReference d q) a w
          (subst (λ z. fits (converted table x.note.kind (Reference d) v) z ≡ true) w
          (run_fits (TypedReference d q) f)))
