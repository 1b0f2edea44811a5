-- A frame sets a slot of its own, or unsets it.
use Rattle.std.proofs.Common.{◌≡◌, ◌≢◌, ℕ, zero, suc, ◌⊎◌, ◌+◌, ◌<◌, ◌≤◌, inl, inr, ⊎_elim, true, false, List, [], ◌∷◌, length, Option, Some, None, refl, sym, ap, ◌∙◌, subst, arith, true≢false}
use Rattle.std.proofs.lemmas.Bool.{cases_Bool, both_ways, or_cases, and_from}
use Rattle.std.proofs.lemmas.Bool.Decides.{eqb_tells}
use Rattle.std.proofs.lemmas.Option.{same_Some}
use Rattle.ob_perm.specs.Permissions.{owns}
use Rattle.ob_table.specs.Tables.{ClassTable}
use Rattle.ob_table.specs.declared.seen.Kind.{Kind}
use Rattle.ob_table.specs.declared.seen.Kind.TheVariants.{Int, Bool as BoolKind, Text, Reference}
use Rattle.ob_table_spec.specs.Conditions.{IsClassTable}
use Rattle.ob_table_spec.specs.WellFormed.{is_reference}
use Rattle.ob_heap_spec.specs.Values.{reference}
use Rattle.ob_heap_spec.specs.Objects.{Object}
use Rattle.ob_silica.specs.Terms.{SilicaTerms}
use Rattle.ob_silica_formed.specs.Holdings.{Holdings, held, with_slot}
use Rattle.ob_silica_places.specs.Known.{Known, at}
use Rattle.ob_silica_places.specs.Places.{Location, slot, same_location}
use Rattle.ob_silica_steps.specs.Cells.{Cell}
use Rattle.ob_silica_steps.specs.Configurations.{SlotCells, Ends, plain_end, test_end, lock_end, loop_end, Rest, runs, Configuration}
use Rattle.ob_silica_steps.specs.Here.{Here, here, self_of, read, set_slot}
use Rattle.ob_flow_spec.specs.Contexts.{BodyFrame, Context, put, permission_on, is_tested, is_asset, is_owned_asset}
use Rattle.ob_coherent_spec.specs.Counting.{Counted, any, in_cell}
use Rattle.ob_coherent_spec.specs.Runs.{tested_places, tested_before}
use Rattle.ob_coherent_spec.specs.Standing.{Stands, AllStand, IsOfKind, NeedsOwner}
use Rattle.ob_coherent_spec.specs.Saying.{Agrees, SaysOf, every}
use Rattle.ob_coherent_spec.specs.Remaining.{body_of, AreHeld, HoldsSo, Remains}
use Rattle.ob_coherent_spec.specs.OpenTests.{IsTestOf, IsOpen, AreOpen}
use Rattle.ob_coherent_spec.specs.Coherent.{Beginning, IsRunning, IsCoherent}
use Rattle.ob_soundness_laws.proofs.counting.Cells.{cell_other}
use Rattle.ob_soundness_laws.proofs.counting.Writing.{in_here, here_slot}
use Rattle.ob_soundness_laws.specs.frames.Steps.{moved}
use Rattle.ob_soundness_laws.proofs.places.Objects.{at_that, at_other}
use Rattle.ob_soundness_laws.proofs.places.Reading.{same_places}
use Rattle.ob_soundness_laws.proofs.places.Writing.{slot_written}
use Rattle.ob_soundness_laws.proofs.remaining.Following.{owner_is_asset}
use Rattle.ob_soundness_laws.proofs.forms.Amid.{Amid, amid_first, amid_written, form_done}

-- Values that are no references.

-- a value of a kind that is no reference's is none
pub no_reference_kind : (table : ClassTable) (objects : List Object) (kind : Kind) (m : ℕ) → is_reference kind ≡ false
    → IsOfKind table objects kind (reference m) → ⊥
no_reference_kind table objects Int m e is = is
no_reference_kind table objects BoolKind m e is = is
no_reference_kind table objects Text m e is = is
no_reference_kind table objects (Reference id) m e is = true≢false e

pub plain_value : (table : ClassTable) (objects : List Object) (x : Cell) → Stands table objects x
    → is_reference x.note.kind ≡ false
    → (m : ℕ) → x.value ≢ reference m
plain_value table objects x s e m is = no_reference_kind table objects x.note.kind m e
    (subst (IsOfKind table objects x.note.kind) is s.kind)

-- Places under test refer to an object.

pub record Refers (b : BodyFrame) (h : Here) (q : Location) : Type 0 where
  pub cell : Cell
  pub found : read b.table h q ≡ Some cell
  pub number : ℕ
  pub object : cell.value ≡ reference number

test_refers : (b : BodyFrame) (h : Here) (p q : Location) (n : ℕ) → IsTestOf b h p n → same_location q p ≡ true
    → Refers b h q
test_refers b h p q n t e = record {
  cell = t.cell;
  found = subst (λ r. read b.table h r ≡ Some t.cell) (sym (same_places q p e)) t.found;
  number = n;
  object = t.object;
}

refers_before : (b : BodyFrame) (h : Here) (ends : Ends) (ps : List Location) (q : Location) → IsOpen b h ends
    → (is_tested ps q ≡ true → Refers b h q) → is_tested (tested_before ends ps) q ≡ true → Refers b h q
refers_before b h plain_end ps q o more e = more e
refers_before b h (test_end p) ps q o more e = ⊎_elim (test_refers b h p q (self_of h.slots) o.1) more
    (or_cases (same_location q p) (is_tested ps q) e)
refers_before b h (lock_end p n) ps q o more e = ⊎_elim (test_refers b h p q n o.1) more
    (or_cases (same_location q p) (is_tested ps q) e)
refers_before b h (loop_end first x body end) ps q o more e = more e

pub tested_refers : (b : BodyFrame) (h : Here) (outer : List Rest) (q : Location) → AreOpen b h outer
    → is_tested (tested_places outer) q ≡ true → Refers b h q
tested_refers b h [] q a e = absurd (true≢false (sym e))
tested_refers b h (r ∷ outer) q a e = refers_before b h r.ends (tested_places outer) q a.0
    (tested_refers b h outer q a.2) e

-- a slot that holds no reference isn't under test
pub plain_untested : (b : BodyFrame) (h : Here) (outer : List Rest) (n : ℕ) → AreOpen b h outer
    → ((x : Cell) → h.slots n ≡ Some x → (m : ℕ) → x.value ≢ reference m)
    → is_tested (tested_places outer) (slot n) ≡ false
plain_untested b h outer n a plain = ⊎_elim
    (λ e. let r = tested_refers b h outer (slot n) a e in absurd (plain r.cell r.found r.number r.object))
    (λ e. e)
    (cases_Bool (is_tested (tested_places outer) (slot n)))

-- What isn't lost.

-- a number is more than 0, or it is 0
pub some_or_none : (m : ℕ) → (0 < m) ⊎ (m ≡ 0)
some_or_none zero = inr refl
some_or_none (suc m) = inl (omega arith)

owns_none : (table : ClassTable) (y : Option Known) (kind : Kind) → is_owned_asset table y ≡ false
    → ((z : Known) → y ≡ Some z → kind ≡ z.kind)
    → owns (permission_on y) ≡ true → is_asset table kind ≡ true → ⊥
owns_none table None kind e same own asset = true≢false (sym own)
owns_none table (Some z) kind e same own asset = both_ways _ e
    (and_from (owns z.permission) (is_asset table z.kind) own
    (subst (λ w. is_asset table w ≡ true) (same z refl) asset))

same_kind : (y : Option Known) (x : Cell) → Agrees y (Some x) → (z : Known) → y ≡ Some z → x.note.kind ≡ z.kind
same_kind None x a z e = absurd (cc)
same_kind (Some w) x a z e = a.0 ∙ ap (λ (v : Known). v.kind) (same_Some w z e)

-- a place that is known to own no asset owns no object that must have an owner
pub no_asset : (table : ClassTable) → IsClassTable table → (objects : List Object) (y : Option Known) (x : Option Cell)
    → ((z : Cell) → x ≡ Some z → Stands table objects z) → SaysOf (NeedsOwner table objects) y x
    → is_owned_asset table y ≡ false
    → (n : ℕ) → NeedsOwner table objects n → in_cell owns n x ≡ 0
no_asset table t objects y None st s e n needs = refl
no_asset table t objects y (Some x) st s e n needs = ⊎_elim
    (λ has. absurd (owns_none table y x.note.kind e (same_kind y x s.known) (s.owner n needs has)
    (owner_is_asset table t objects n x (st x refl) needs has)))
    (λ none. none)
    (some_or_none (in_cell owns n (Some x)))

-- a place that holds no reference counts nothing
pub plain_none : (counts : Counted) (n : ℕ) (x : Option Cell)
    → ((z : Cell) → x ≡ Some z → (m : ℕ) → z.value ≢ reference m) → in_cell counts n x ≡ 0
plain_none counts n None plain = refl
plain_none counts n (Some x) plain = cell_other counts n x (plain x refl n)

-- What slots hold.

pub held_written : (i : Holdings) (slots : SlotCells) (n : ℕ) (kind : Option Kind) (x : Option Cell)
    → ((z : Cell) → x ≡ Some z → HoldsSo (held kind) z) → AreHeld i slots every
    → AreHeld (with_slot n (held kind) i) (at slots n x) every
held_written i slots n kind x so a j z f e = ⊎_elim
    (λ q. rw q.0 (so z (sym (at_that slots n x j q.1) ∙ e)))
    (λ q. rw q.0 (a j z f (sym (at_other slots n x j q.1) ∙ e)))
    (eqb_tells j n)

-- a cell of a kind that is known
pub holds_kind : (kind : Kind) (x : Cell) → x.note.kind ≡ kind → HoldsSo (held (Some kind)) x
holds_kind kind x e = record { kind = λ l is. e ∙ same_Some kind l is; refers = λ r. ap is_reference (sym e) ∙ r }

-- a slot that may hold no reference holds none
pub held_plain : (table : ClassTable) (objects : List Object) (i : Holdings) (slots : SlotCells) (n : ℕ)
    → AreHeld i slots every
    → AllStand table objects slots → (i n).refers ≡ false → (x : Cell) → slots n ≡ Some x → (m : ℕ)
    → x.value ≢ reference m
held_plain table objects i slots n a st none x e = plain_value table objects x (st n x e) (⊎_elim
    (λ r. absurd (both_ways _ none ((a n x refl e).refers r))) (λ r. r) (cases_Bool (is_reference x.note.kind)))

-- Setting a slot.

module _ (table : ClassTable) (t : IsClassTable table) (entry : Option ℕ) (beginning : Beginning) (c : Configuration)
    (k : IsRunning table entry beginning c) (n : ℕ) (low : length k.whole.parts.signature.params < n)
    (inside : n < k.whole.parts.slots) where
  not_this : (m : ℕ) → m ≤ length k.whole.parts.signature.params → m ≢ n
  not_this m le e = omega (arith, le, low, e)

  pub amid_slot : (outer : List Rest) (h : Here) (g : Context) (x : Option Cell) (y : Option Known)
      → Amid table c k.whole.parts outer h g
      → is_tested (tested_places outer) (slot n) ≡ false → ((z : Cell) → x ≡ Some z → Stands table h.world.objects z)
      → SaysOf (NeedsOwner table h.world.objects) y x
      → Amid table c k.whole.parts outer (set_slot n x h) (put g (slot n) y)
  amid_slot outer h g x y a untested st says = amid_written table t entry beginning c k outer h (set_slot n x h) g
      (slot n) x y a
      (slot_written n x h (λ e. absurd (not_this 0 (omega arith) (sym e))))
      inside
      (λ m e le. absurd (not_this m le (let z : n ≡ m = same e in sym z)))
      (λ m z e d. absurd (cc))
      st says
      (λ e. absurd (not_this 0 (omega arith) (let z : n ≡ 0 = same e in sym z)))
      (λ made e. absurd (not_this 0 (omega arith) (let z : n ≡ 0 = same e in sym z)))
      (λ e. absurd (both_ways _ untested e))
    where
      same : {i j : ℕ} → slot i ≡ slot j → i ≡ j
      same e = cc

  pub counts_slot : (counts : Counted) (m : ℕ) (x : Option Cell) (h : Here)
      → in_here counts m (set_slot n x h) + in_cell counts m (h.slots n) ≡ in_here counts m h + in_cell counts m x
  counts_slot counts m x h = here_slot counts m n x h (let few = k.whole.frame.few in omega (arith, few, inside))

  -- A slot of the frame's own is set to a value that is no reference, or unset.
  pub own_slot : (terms : SilicaTerms) (outer : List Rest) → c.control ≡ runs terms outer
      → (x : Option Cell) (y : Option Known) (i : Holdings) (rest : SilicaTerms)
      → is_tested (tested_places outer) (slot n) ≡ false → ((z : Cell) → x ≡ Some z → Stands table c.world.objects z)
      → ((z : Cell) → x ≡ Some z → (m : ℕ) → z.value ≢ reference m)
      → SaysOf (NeedsOwner table c.world.objects) y x
      → ((m : ℕ) → NeedsOwner table c.world.objects m → in_cell owns m (c.frame.slots n) ≡ 0)
      → AreHeld i (at c.frame.slots n x) every → Remains (body_of table c.frame k.whole.parts) i
      (put k.context (slot n) y) rest outer
      → IsCoherent table entry beginning (moved c (set_slot n x (here c)) rest outer)
  own_slot terms outer so x y i rest untested st plain says lost held remains =
      form_done table t entry beginning c k terms outer so (set_slot n x (here c)) (put k.context (slot n) y) rest i
      (amid_slot outer (here c) k.context x y (amid_first table t entry beginning c k terms outer so) untested st says)
      (record {
        fewer = λ m. let e = counts_slot owns m x (here c) in let z = plain_none owns m x plain in omega (arith, e, z);
        keeps_owner = λ m needs. let e = counts_slot owns m x (here c) in let z = lost m needs in omega (arith, e, z);
        newly_shared = λ m e d. absurd (both_ways _ e d);
        newly_disowned = λ m e d. absurd (both_ways _ e d);
        shares = λ j u v le e d is. inl (ap (λ (w : Cell). w.note.permission)
            (same_Some u v (sym e ∙ sym (at_other c.frame.slots n x j (not_this j le)) ∙ d)) ∙ is);
        unreferred = λ m has. let e = counts_slot any m x (here c) in let z = plain_none any m x plain in
            omega (arith, e, z);
      }) held remains
