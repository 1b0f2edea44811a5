-- A row of marks before a call, and what comes into the callee.
use Rattle.std.proofs.Common.{◌≡◌, ℕ, ◌+◌, Bool, true, false, List, [], ◌∷◌, map, length, Option, Some, None, refl, sym, ap, ◌∙◌, subst, arith, length-append}
use Rattle.std.specs.Prelude.{slice_get, if◌then◌else◌, ⊤}
use Rattle.ob_perm.specs.Masks.{permission_of}
use Rattle.ob_perm.specs.Permissions.{is_shared}
use Rattle.ob_table.specs.declared.contract.ResolvedType.{ResolvedType}
use Rattle.ob_table.specs.declared.contract.ResolvedType.TheVariants as typed
use Rattle.ob_heap_spec.specs.Values.{Value, int_value, bool_value, text_value, reference, referred}
use Rattle.ob_heap_spec.specs.Objects.{Object}
use Rattle.ob_heap_spec.specs.Contents.{object_at}
use Rattle.ob_heap_spec.specs.Worlds.{World, SameWorld}
use Rattle.ob_heap_spec.specs.Marks.{mark_shared, comes_into}
use Rattle.ob_base.specs.Optional.{◌>>=◌}
use Rattle.ob_silica_places.specs.Parameters.{Parameter}
use Rattle.ob_silica_steps.specs.Configurations.{SilicaProgram}
use Rattle.ob_code.specs.declared.instruction.Instruction.{Instruction}
use Rattle.ob_code.specs.declared.instruction.Instruction.TheVariants as instruction
use Rattle.ob_code_table.specs.Images.{instruction_at}
use Rattle.ob_machine_steps.specs.Slots.{Slots, value_at, values_at}
use Rattle.ob_machine_steps.specs.Configurations.{Configuration, goes}
use Rattle.ob_machine_steps.specs.Parts.{with_world, goes_on}
use Rattle.ob_machine_steps.specs.Steps.{act}
use Rattle.ob_emit_spec.specs.Operands.{share, shares}
use Rattle.ob_emit_correct.specs.Law.{code_of}
use Rattle.ob_emit_correct.proofs.Placing.{HasAt}
use Rattle.ob_emit_correct.proofs.Stepping.{Reaches, reaches_here, reaches_then, reaches_by}
use Rattle.ob_emit_correct.proofs.Worlds.{same_shared}
use Rattle.ob_emit_correct.proofs.Placed.{has_front, has_back, machine_at}
use Rattle.ob_lower_correct.proofs.Standing.{none_some, some_same}
use Rattle.ob_lower_correct.proofs.Changes.{Quiet, quiet_into, quiet_object}
use Rattle.ob_lower_correct.proofs.Binding.{come_all}

-- Values that may come into places.

-- where a place is a reference's, its value refers to an object that is there
abbrev pub MayCome : World → ResolvedType → Value → Type 0
MayCome w (typed.Reference id p) (reference n) = (o : Object) × (object_at w.objects n ≡ Some o)
MayCome w (typed.Reference id p) (int_value z) = ⊥
MayCome w (typed.Reference id p) (bool_value b) = ⊥
MayCome w (typed.Reference id p) (text_value bytes) = ⊥
MayCome w of v = ⊤

-- the same of several, of which there are as many as parameters
abbrev pub MayAllCome : World → List Parameter → List Value → Type 0
MayAllCome w [] [] = ⊤
MayAllCome w (p ∷ ps) (v ∷ vs) = MayCome w p.of v × MayAllCome w ps vs
MayAllCome w ps vs = ⊥

pub may_come_on : {w v : World} → Quiet w v → (of : ResolvedType) (x : Value) → MayCome w of x → MayCome v of x
may_come_on q (typed.Reference id p) (reference n) h = let x = quiet_object q n h.0 h.1 in (x.0, x.1)
may_come_on q (typed.Reference id p) (int_value z) h = h
may_come_on q (typed.Reference id p) (bool_value b) h = h
may_come_on q (typed.Reference id p) (text_value bytes) h = h
may_come_on q typed.Int x h = tt
may_come_on q typed.Bool x h = tt
may_come_on q typed.Text x h = tt

pub may_all_come_on : {w v : World} → Quiet w v → (ps : List Parameter) (xs : List Value) → MayAllCome w ps xs
    → MayAllCome v ps xs
may_all_come_on q [] [] h = tt
may_all_come_on q (p ∷ ps) (x ∷ xs) h = (may_come_on q p.of x h.0, may_all_come_on q ps xs h.1)
may_all_come_on q [] (x ∷ xs) h = absurd h
may_all_come_on q (p ∷ ps) [] h = absurd h

-- Values in slots.

-- these slots hold these values, one for one
abbrev pub AreIn : Slots → List ℕ → List Value → Type 0
AreIn slots [] [] = ⊤
AreIn slots (k ∷ ks) (v ∷ vs) = (value_at slots k ≡ Some v) × AreIn slots ks vs
AreIn slots ks vs = ⊥

pub are_in : (slots : Slots) (ks : List ℕ) (vs : List Value) → values_at slots ks ≡ Some vs → AreIn slots ks vs
are_in slots [] vs e = subst (AreIn slots []) (some_same [] vs e) tt
are_in slots (k ∷ ks) vs e = by (λ us. are_in slots ks us) (value_at slots k) (values_at slots ks) refl refl e
  where
    by : ((us : List Value) → values_at slots ks ≡ Some us → AreIn slots ks us) → (x : Option Value) (xs : Option (List Value))
        → value_at slots k ≡ x → values_at slots ks ≡ xs → (x >>= λ v. xs >>= λ vs. Some (v ∷ vs)) ≡ Some vs → AreIn slots
        (k ∷ ks) vs
    by rest None xs ek eks e = absurd (none_some e)
    by rest (Some v) None ek eks e = absurd (none_some e)
    by rest (Some v) (Some us) ek eks e = subst (AreIn slots (k ∷ ks)) (some_same (v ∷ us) vs e) (ek, rest us eks)

-- Rows of marks.

-- The innermost frame goes on behind so many instructions, with the same slots, in a world that is the same as this one.
pub record IsMarked (program : SilicaProgram) (m : Configuration) (count : ℕ) (w : World) : Type 0 where
  pub world : World
  pub same : SameWorld w world
  pub reaches : Reaches program m (machine_at m (m.top.at + count) m.top.slots world)

-- the instructions of this code are those of the body that a configuration runs
abbrev pub IsCodeOf : SilicaProgram → Configuration → List Instruction → Type 0
IsCodeOf program m code =
    (at : ℕ) (i : Instruction) → slice_get code at ≡ Some i → instruction_at (code_of program) m.top.contract m.top.tx at ≡ Some i

-- behind the mark of an object
abbrev after_mark : ℕ → Configuration → Configuration
after_mark n m = machine_at m (m.top.at + 1) m.top.slots (mark_shared n m.world)

module _ (program : SilicaProgram) (code : List Instruction) where
  pub unmarked : (m : Configuration) (w : World) → SameWorld w m.world → IsMarked program m 0 w
  unmarked m w s = record {
    world = m.world;
    same = s;
    reaches = subst (λ place. Reaches program m (machine_at m place m.top.slots m.world))
        (let e : m.top.at ≡ m.top.at + 0 = omega arith in e)
        (reaches_here program m);
  }

  -- one mark, where there is one
  pub marks_one : (m : Configuration) (of : ResolvedType) (a : ℕ) (x : Value) (w : World) → IsCodeOf program m code
      → SameWorld w m.world
      → value_at m.top.slots a ≡ Some x → MayCome w of x → HasAt code m.top.at (share of a)
      → IsMarked program m (length (share of a)) (comes_into of x w)
  marks_one m (typed.Reference id p) a (reference n) w is s e there has = by (is_shared (permission_of p)) has
    where
      goes_so : act (code_of program) (instruction.Share a) m ≡ Some (goes (after_mark n m))
      goes_so =
          ap (λ (v : Option Value). (v >>= λ v. referred v) >>= λ n. object_at m.world.objects n >>= λ o. goes_on
          (with_world (mark_shared n m.world) m)) e
          ∙ ap (λ (o : Option Object). o >>= λ o. goes_on (with_world (mark_shared n m.world) m))
          (ap (λ xs. object_at xs n) s.objects ∙ there.1)

      by : (b : Bool) → HasAt code m.top.at (if b then instruction.Share a ∷ [] else [])
          → IsMarked program m (length (if b then instruction.Share a ∷ [] else [])) (if b then mark_shared n w else w)
      by true has = record {
        world = mark_shared n m.world;
        same = same_shared n s;
        reaches = reaches_by program m (after_mark n m) (instruction.Share a) (is m.top.at (instruction.Share a) has.0) goes_so;
      }
      by false has = unmarked m w s
  marks_one m (typed.Reference id p) a (int_value z) w is s e there has = absurd there
  marks_one m (typed.Reference id p) a (bool_value b) w is s e there has = absurd there
  marks_one m (typed.Reference id p) a (text_value bytes) w is s e there has = absurd there
  marks_one m typed.Int a x w is s e there has = unmarked m w s
  marks_one m typed.Bool a x w is s e there has = unmarked m w s
  marks_one m typed.Text a x w is s e there has = unmarked m w s

  -- one row and then another
  pub marked_then : (m : Configuration) (a b : ℕ) (w v : World) (one : IsMarked program m a w)
      → IsMarked program (machine_at m (m.top.at + a) m.top.slots one.world) b v → IsMarked program m (a + b) v
  marked_then m a b w v one next = record {
    world = next.world;
    same = next.same;
    reaches = reaches_then one.reaches
        (subst (λ place. Reaches program (machine_at m (m.top.at + a) m.top.slots one.world)
        (machine_at m place m.top.slots next.world))
        (let e : m.top.at + a + b ≡ m.top.at + (a + b) = omega arith in e) next.reaches);
  }

  -- a row of marks: what comes into parameters is marked, one after another
  pub marks : (ps : List Parameter) (ks : List ℕ) (vs : List Value) (m : Configuration) (w : World) → IsCodeOf program m code
      → SameWorld w m.world → AreIn m.top.slots ks vs → MayAllCome w ps vs → HasAt code m.top.at
      (shares (map (λ (p : Parameter). p.of) ps) ks)
      → IsMarked program m (length (shares (map (λ (p : Parameter). p.of) ps) ks)) (come_all ps vs w)
  marks [] ks vs m w is s at there has = unmarked m w s
  marks (p ∷ ps) (k ∷ ks) (v ∷ vs) m w is s at there has =
      let first = share p.of k in
      let rest = shares (map (λ (p : Parameter). p.of) ps) ks in
      let one = marks_one m p.of k v w is s at.0 there.0 (has_front code m.top.at first rest has) in
      let next = marks ps ks vs (machine_at m (m.top.at + length first) m.top.slots one.world)
      (comes_into p.of v w) is one.same at.1
      (may_all_come_on (quiet_into p.of v w) ps vs there.1) (has_back code m.top.at first rest has) in
      subst (λ n. IsMarked program m n (come_all ps vs (comes_into p.of v w))) (sym (length-append first rest))
      (marked_then m (length first) (length rest) (comes_into p.of v w) (come_all ps vs (comes_into p.of v w)) one next)
  marks (p ∷ ps) [] [] m w is s at there has = absurd there
  marks (p ∷ ps) [] (v ∷ vs) m w is s at there has = absurd at
  marks (p ∷ ps) (k ∷ ks) [] m w is s at there has = absurd at
