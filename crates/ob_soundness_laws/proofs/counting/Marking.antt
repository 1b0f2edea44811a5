-- Objects after one is read, or marked.
use Rattle.std.proofs.Common.{◌≡◌, ◌≢◌, ℕ, ◌<◌, ◌⊎◌, inl, inr, ⊎_elim, true, false, length, refl, sym, ap, ◌∙◌, subst, arith, true≢false}
use Rattle.std.specs.Option.{option_map_or}
use Rattle.std.proofs.lemmas.Bool.{cases_Bool}
use Rattle.std.proofs.lemmas.Bool.Decides.{eqb_tells}
use Rattle.ob_base.specs.declared.id.ContractId.{ContractId}
use Rattle.ob_base.specs.declared.permission.Perm.{Perm}
use Rattle.ob_perm.specs.Permissions.{is_shared}
use Rattle.ob_perm.specs.Masks.{permission_of}
use Rattle.ob_table.specs.declared.contract.ResolvedType.{ResolvedType}
use Rattle.ob_table.specs.declared.contract.ResolvedType.TheVariants.{Int, Bool as BoolKind, Text, Reference}
use Rattle.ob_heap_spec.specs.Values.{Value, int_value, bool_value, text_value, reference}
use Rattle.ob_heap_spec.specs.Objects.{Object}
use Rattle.ob_heap_spec.specs.Worlds.{World, is_made, read_object, edit_object}
use Rattle.ob_heap_spec.specs.Marks.{has_mark, mark_shared, mark_disowned, comes_into}
use Rattle.ob_silica_places.specs.Known.{permission_of_type}
use Rattle.ob_coherent_spec.specs.Counting.{nth_object}
use Rattle.ob_soundness_laws.proofs.counting.Objects.{object_there, edit_length, edit_same, edit_other, edit_keeps, edit_either, edit_locked, edit_progress}

-- What a world keeps but for one mark on objects: objects by number, locks and progress.
pub record Keeps (w v : World) : Type 0 where
  pub count : length v.objects ≡ length w.objects
  pub contract : (m : ℕ) → (nth_object v.objects m).contract ≡ (nth_object w.objects m).contract
  pub state : (m : ℕ) → (nth_object v.objects m).state ≡ (nth_object w.objects m).state
  pub fields : (m : ℕ) → (nth_object v.objects m).fields ≡ (nth_object w.objects m).fields
  pub shared : (m : ℕ) → (nth_object w.objects m).shared ≡ true → (nth_object v.objects m).shared ≡ true
  pub disowned : (m : ℕ) → (nth_object w.objects m).disowned ≡ true → (nth_object v.objects m).disowned ≡ true
  pub locked : v.locked ≡ w.locked
  pub progress : v.progress ≡ w.progress

pub keeps_all : (w v : World) → v.objects ≡ w.objects → v.locked ≡ w.locked → v.progress ≡ w.progress → Keeps w v
keeps_all w v objects locked progress = record {
  count = ap length objects;
  contract = λ m. ap (λ l. (nth_object l m).contract) objects;
  state = λ m. ap (λ l. (nth_object l m).state) objects;
  fields = λ m. ap (λ l. (nth_object l m).fields) objects;
  shared = λ m e. ap (λ l. (nth_object l m).shared) objects ∙ e;
  disowned = λ m e. ap (λ l. (nth_object l m).disowned) objects ∙ e;
  locked = locked;
  progress = progress;
}

pub keeps_then : (w v u : World) → Keeps w v → Keeps v u → Keeps w u
keeps_then w v u a b = record {
  count = b.count ∙ a.count;
  contract = λ m. b.contract m ∙ a.contract m;
  state = λ m. b.state m ∙ a.state m;
  fields = λ m. b.fields m ∙ a.fields m;
  shared = λ m e. b.shared m (a.shared m e);
  disowned = λ m e. b.disowned m (a.disowned m e);
  locked = b.locked ∙ a.locked;
  progress = b.progress ∙ a.progress;
}

-- An object is read.

module _ (w : World) (n : ℕ) where
  pub read_objects : (read_object w n).objects ≡ w.objects
  read_objects = ⊎_elim (λ e. rw e refl) (λ e. rw e refl) (cases_Bool (is_made w n))

  pub read_keeps : Keeps w (read_object w n)
  read_keeps = keeps_all w (read_object w n) read_objects
      (⊎_elim (λ e. rw e refl) (λ e. rw e refl) (cases_Bool (is_made w n)))
      (⊎_elim (λ e. rw e refl) (λ e. rw e refl) (cases_Bool (is_made w n)))

-- What an edit keeps that sets marks alone.

-- an object after one mark is set, or both
pub record Marks (f : Object → Object) : Type 0 where
  pub contract : (o : Object) → (f o).contract ≡ o.contract
  pub state : (o : Object) → (f o).state ≡ o.state
  pub fields : (o : Object) → (f o).fields ≡ o.fields
  pub shared : (o : Object) → o.shared ≡ true → (f o).shared ≡ true
  pub disowned : (o : Object) → o.disowned ≡ true → (f o).disowned ≡ true

pub edit_marks : (f : Object → Object) (n : ℕ) (w : World) → Marks f → Keeps w (edit_object f n w)
edit_marks f n w marks = record {
  count = edit_length f n w;
  contract = edit_keeps f n w (λ o. o.contract) marks.contract;
  state = edit_keeps f n w (λ o. o.state) marks.state;
  fields = edit_keeps f n w (λ o. o.fields) marks.fields;
  shared = λ m e. ⊎_elim (λ same. ap (λ o. o.shared) same ∙ e) (λ p. ap (λ o. o.shared) p.2 ∙ marks.shared _ e)
      (edit_either f n w m);
  disowned = λ m e. ⊎_elim (λ same. ap (λ o. o.disowned) same ∙ e) (λ p. ap (λ o. o.disowned) p.2 ∙ marks.disowned _ e)
      (edit_either f n w m);
  locked = edit_locked f n w;
  progress = edit_progress f n w;
}

-- an object marked as shared, and one marked as disowned
abbrev pub as_shared : Object → Object
as_shared o = record o { shared = true }

abbrev pub as_disowned : Object → Object
as_disowned o = record o { disowned = true }

pub shared_marks : Marks as_shared
shared_marks = record {
  contract = λ o. refl;
  state = λ o. refl;
  fields = λ o. refl;
  shared = λ o e. refl;
  disowned =
      λ o e. e;
}

pub disowned_marks : Marks as_disowned
disowned_marks = record {
  contract = λ o. refl;
  state = λ o. refl;
  fields = λ o. refl;
  shared = λ o e. e;
  disowned =
      λ o e. refl;
}

-- An object is marked as shared.

module _ (n : ℕ) (w : World) where
  -- where it has the mark it is read alone
  pub shared_either : (mark_shared n w ≡ read_object w n)
      ⊎ (mark_shared n w ≡ edit_object as_shared n (read_object w n))
  shared_either = ⊎_elim (λ e. inl (rw e refl)) (λ e. inr (rw e refl))
      (cases_Bool (has_mark (λ o. o.shared) (read_object w n) n))

  pub mark_shared_keeps : Keeps w (mark_shared n w)
  mark_shared_keeps = ⊎_elim
      (λ e. subst (Keeps w) (sym e) (read_keeps w n))
      (λ e. subst (Keeps w) (sym e) (keeps_then w (read_object w n) (edit_object as_shared n (read_object w n))
      (read_keeps w n)
      (edit_marks as_shared n (read_object w n) shared_marks)))
      shared_either

  pub mark_shared_other : (m : ℕ) → m ≢ n → nth_object (mark_shared n w).objects m ≡ nth_object w.objects m
  mark_shared_other m other = ⊎_elim
      (λ e. ap (λ v. nth_object v.objects m) e ∙ ap (λ l. nth_object l m) (read_objects w n))
      (λ e. ap (λ v. nth_object v.objects m) e ∙ edit_other as_shared n (read_object w n) m other
      ∙ ap (λ l. nth_object l m) (read_objects w n))
      shared_either

  pub mark_shared_disowned : (m : ℕ) → (nth_object (mark_shared n w).objects m).disowned
      ≡ (nth_object w.objects m).disowned
  mark_shared_disowned m = ⊎_elim
      (λ e. ap (λ v. (nth_object v.objects m).disowned) e ∙ ap (λ l. (nth_object l m).disowned) (read_objects w n))
      (λ e. ap (λ v. (nth_object v.objects m).disowned) e
      ∙ edit_keeps as_shared n (read_object w n) (λ o. o.disowned) (λ o. refl) m
      ∙ ap (λ l. (nth_object l m).disowned) (read_objects w n))
      shared_either

  pub mark_shared_there : n < length w.objects → (nth_object (mark_shared n w).objects n).shared ≡ true
  mark_shared_there below = ⊎_elim
      (λ e. rw e (ap (λ x. option_map_or (λ o. o.shared) x true)
      (sym (object_there (read_object w n).objects n (omega (arith, below, ap length (read_objects w n))))) ∙ e))
      (λ e. rw e (ap (λ o. o.shared) (edit_same as_shared n (read_object w n)
      (omega (arith, below, ap length (read_objects w n))))))
      (cases_Bool (has_mark (λ o. o.shared) (read_object w n) n))

-- An object is marked as disowned.

module _ (n : ℕ) (w : World) where
  pub disowned_either : (mark_disowned n w ≡ read_object w n)
      ⊎ (mark_disowned n w ≡ edit_object as_disowned n (read_object w n))
  disowned_either = ⊎_elim (λ e. inl (rw e refl)) (λ e. inr (rw e refl))
      (cases_Bool (has_mark (λ o. o.disowned) (read_object w n) n))

  pub mark_disowned_keeps : Keeps w (mark_disowned n w)
  mark_disowned_keeps = ⊎_elim
      (λ e. subst (Keeps w) (sym e) (read_keeps w n))
      (λ e. subst (Keeps w) (sym e) (keeps_then w (read_object w n) (edit_object as_disowned n (read_object w n))
      (read_keeps w n)
      (edit_marks as_disowned n (read_object w n) disowned_marks)))
      disowned_either

  pub mark_disowned_other : (m : ℕ) → m ≢ n → nth_object (mark_disowned n w).objects m ≡ nth_object w.objects m
  mark_disowned_other m other = ⊎_elim
      (λ e. ap (λ v. nth_object v.objects m) e ∙ ap (λ l. nth_object l m) (read_objects w n))
      (λ e. ap (λ v. nth_object v.objects m) e ∙ edit_other as_disowned n (read_object w n) m other
      ∙ ap (λ l. nth_object l m) (read_objects w n))
      disowned_either

  pub mark_disowned_shared : (m : ℕ) → (nth_object (mark_disowned n w).objects m).shared
      ≡ (nth_object w.objects m).shared
  mark_disowned_shared m = ⊎_elim
      (λ e. ap (λ v. (nth_object v.objects m).shared) e ∙ ap (λ l. (nth_object l m).shared) (read_objects w n))
      (λ e. ap (λ v. (nth_object v.objects m).shared) e
      ∙ edit_keeps as_disowned n (read_object w n) (λ o. o.shared) (λ o. refl) m
      ∙ ap (λ l. (nth_object l m).shared) (read_objects w n))
      disowned_either

  pub mark_disowned_there : n < length w.objects → (nth_object (mark_disowned n w).objects n).disowned ≡ true
  mark_disowned_there below = ⊎_elim
      (λ e. rw e (ap (λ x. option_map_or (λ o. o.disowned) x true)
      (sym (object_there (read_object w n).objects n (omega (arith, below, ap length (read_objects w n))))) ∙ e))
      (λ e. rw e (ap (λ o. o.disowned) (edit_same as_disowned n (read_object w n)
      (omega (arith, below, ap length (read_objects w n))))))
      (cases_Bool (has_mark (λ o. o.disowned) (read_object w n) n))

-- A value comes into a place.

pub comes_keeps : (of : ResolvedType) (v : Value) (w : World) → Keeps w (comes_into of v w)
comes_keeps (Reference id p) (reference n) w = ⊎_elim
    (λ e. rw e (mark_shared_keeps n w)) (λ e. rw e (keeps_all w w refl refl refl))
    (cases_Bool (is_shared (permission_of p)))
comes_keeps (Reference id p) (int_value z) w = keeps_all w w refl refl refl
comes_keeps (Reference id p) (bool_value b) w = keeps_all w w refl refl refl
comes_keeps (Reference id p) (text_value bytes) w = keeps_all w w refl refl refl
comes_keeps Int v w = keeps_all w w refl refl refl
comes_keeps BoolKind v w = keeps_all w w refl refl refl
comes_keeps Text v w = keeps_all w w refl refl refl

-- another object than the one to which the value refers stays
pub comes_other : (of : ResolvedType) (v : Value) (w : World) (m : ℕ) → v ≢ reference m
    → nth_object (comes_into of v w).objects m ≡ nth_object w.objects m
comes_other (Reference id p) (reference n) w m other = ⊎_elim
    (λ e. rw e (mark_shared_other n w m (λ z. other (ap reference (sym z))))) (λ e. rw e refl)
    (cases_Bool (is_shared (permission_of p)))
comes_other (Reference id p) (int_value z) w m other = refl
comes_other (Reference id p) (bool_value b) w m other = refl
comes_other (Reference id p) (text_value bytes) w m other = refl
comes_other Int v w m other = refl
comes_other BoolKind v w m other = refl
comes_other Text v w m other = refl

pub comes_disowned : (of : ResolvedType) (v : Value) (w : World) (m : ℕ)
    → (nth_object (comes_into of v w).objects m).disowned ≡ (nth_object w.objects m).disowned
comes_disowned (Reference id p) (reference n) w m = ⊎_elim
    (λ e. rw e (mark_shared_disowned n w m)) (λ e. rw e refl) (cases_Bool (is_shared (permission_of p)))
comes_disowned (Reference id p) (int_value z) w m = refl
comes_disowned (Reference id p) (bool_value b) w m = refl
comes_disowned (Reference id p) (text_value bytes) w m = refl
comes_disowned Int v w m = refl
comes_disowned BoolKind v w m = refl
comes_disowned Text v w m = refl

-- a reference in a place declared Shared marks its object
pub comes_shared : (id : ContractId) (p : Perm) (n : ℕ) (w : World) → is_shared (permission_of p)
    ≡ true → n < length w.objects
    → (nth_object (comes_into (Reference id p) (reference n) w).objects n).shared ≡ true
comes_shared id p n w e below = rw e (mark_shared_there n w below)

-- where an object is marked so, the place was declared Shared
pub comes_newly_shared : (of : ResolvedType) (v : Value) (w : World) (m : ℕ) → (nth_object w.objects m).shared ≡ false
    → (nth_object (comes_into of v w).objects m).shared ≡ true → (v ≡ reference m)
    × (is_shared (permission_of_type of) ≡ true)
comes_newly_shared (Reference id p) (reference n) w m unmarked marked = ⊎_elim
    (λ e. ⊎_elim (λ same. (ap reference (sym same.1), e))
    (λ other. absurd (true≢false (sym marked ∙ ap (λ o. o.shared)
    (comes_other (Reference id p) (reference n) w m (λ z. other.1 (go z))) ∙ unmarked)))
    (eqb_tells m n))
    (λ e. absurd (true≢false (sym marked ∙ rw e unmarked))) (cases_Bool (is_shared (permission_of p)))
  where
    go : reference n ≡ reference m → m ≡ n
    go e = cc
comes_newly_shared (Reference id p) (int_value z) w m unmarked marked = absurd (true≢false (sym marked ∙ unmarked))
comes_newly_shared (Reference id p) (bool_value b) w m unmarked marked = absurd (true≢false (sym marked ∙ unmarked))
comes_newly_shared (Reference id p) (text_value bytes) w m unmarked marked = absurd (true≢false (sym marked ∙ unmarked))
comes_newly_shared Int v w m unmarked marked = absurd (true≢false (sym marked ∙ unmarked))
comes_newly_shared BoolKind v w m unmarked marked = absurd (true≢false (sym marked ∙ unmarked))
comes_newly_shared Text v w m unmarked marked = absurd (true≢false (sym marked ∙ unmarked))
