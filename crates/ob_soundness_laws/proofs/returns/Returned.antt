-- A frame that returns to the one that waits, with its parts by name.
use Rattle.std.proofs.Common.{◌≡◌, ◌≢◌, ℕ, ◌+◌, ◌<◌, ◌≤◌, ◌⊎◌, inl, inr, ⊎_elim, true, false, List, [], ◌∷◌, Option, Some, slice_get, refl, sym, ◌∙◌, subst, arith}
use Rattle.std.proofs.lemmas.Bool.Decides.{eqb_tells}
use Rattle.ob_perm.specs.Permissions.{owns}
use Rattle.ob_perm.specs.Masks.{permission_of}
use Rattle.ob_table.specs.Tables.{ClassTable}
use Rattle.ob_table.specs.declared.contract.Field.{Field}
use Rattle.ob_table_spec.specs.WellFormed.{kind_of_resolved}
use Rattle.ob_heap_spec.specs.Objects.{is_available}
use Rattle.ob_heap_spec.specs.Worlds.{World}
use Rattle.ob_heap_spec.specs.Marks.{without_first}
use Rattle.ob_silica_places.specs.Known.{known}
use Rattle.ob_silica_places.specs.Parameters.{Parameter, all_parameters}
use Rattle.ob_silica_steps.specs.Cells.{Cell}
use Rattle.ob_silica_steps.specs.Configurations.{SlotCells, How, by_receiver, by_this, by_new, SilicaFrame, Waiting, leaves, Notes, Configuration}
use Rattle.ob_silica_steps.specs.Here.{here, self_of}
use Rattle.ob_silica_steps.specs.Returning.{leaves_progress}
use Rattle.ob_flow_spec.specs.Contexts.{exit_of_field}
use Rattle.ob_coherent_spec.specs.Counting.{nth_object, in_cell, references}
use Rattle.ob_coherent_spec.specs.Runs.{times, entered_at, constructing_among}
use Rattle.ob_coherent_spec.specs.Standing.{Stands, NeedsOwner, HasItsState}
use Rattle.ob_coherent_spec.specs.Saying.{SaysOf, own_cell}
use Rattle.ob_coherent_spec.specs.Remaining.{BodyParts, body_of}
use Rattle.ob_coherent_spec.specs.Waiting.{SharesThis, has_lent, gives_back_by, gives_back_as, IsApart, AllLend}
use Rattle.ob_coherent_spec.specs.Coherent.{Beginning, Holds, IsGivenBack, LeavesWith, IsReturning}
use Rattle.ob_soundness_laws.proofs.counting.Numbers.{without_times, without_other}
use Rattle.ob_soundness_laws.proofs.counting.Frames.{entered_here, entered_other}
use Rattle.ob_soundness_laws.proofs.returns.Below.{with_progress}

-- the configuration of a frame that leaves to one that waits, after all its tests
abbrev pub back_to : SilicaFrame → Option Cell → Waiting → List Waiting → Notes → World → Configuration
back_to f result h hs notes w =
    record { frame = f; control = leaves result []; stack = h ∷ hs; notes = notes; world = w }

-- what is so where it returns
pub record Returned (table : ClassTable) (entry : Option ℕ) (beginning : Beginning) (f : SilicaFrame) (result : Option
    Cell)
    (h : Waiting) (hs : List Waiting) (notes : Notes) (w : World) : Type 0 where
  pub whole : Holds table entry beginning (back_to f result h hs notes w)
  pub returned : (x : Cell) → result ≡ Some x → Stands table w.objects x
  pub given : IsGivenBack (NeedsOwner table w.objects) result (gives_back_as f whole.parts)
  pub none : (k : ℕ) → has_lent h.loans k ≡ false → (n : ℕ) → NeedsOwner table w.objects n → in_cell owns n (f.slots k)
      ≡ 0
  pub exits : (k : ℕ) (p : Parameter) (x : Cell) → has_lent h.loans k ≡ true
      → slice_get (all_parameters f.contract whole.parts.signature) k ≡ Some p → f.slots k ≡ Some x
      → LeavesWith (NeedsOwner table w.objects) (permission_of p.exit) x
  pub placed : HasItsState table (nth_object w.objects (self_of f.slots))
  pub fields : (k : ℕ) (d : Field) → slice_get whole.parts.own.fields k ≡ Some d
      → is_available (nth_object w.objects (self_of f.slots)).state d ≡ true
      → SaysOf (NeedsOwner table w.objects)
      (Some (known (kind_of_resolved d.of) (exit_of_field (body_of table f whole.parts) whole.parts.signature k)))
      (own_cell (here (back_to f result h hs notes w)) k)
  pub shares : f.how ≢ by_new → SharesThis f (back_to f result h hs notes w) 0
  pub unreferred : (n : ℕ) → 0 < constructing_among n (h ∷ hs) → references n (back_to f result h hs notes w) ≤ 1
  pub lends : AllLend table h.frame.contract h.frame.tx h.frame.how hs

leaves_result : (x y : Option Cell) → leaves x [] ≡ leaves y [] → x ≡ y
leaves_result x y e = cc

first_of' : (h i : Waiting) (hs is : List Waiting) → (h ∷ hs) ≡ (i ∷ is) → h ≡ i
first_of' h i hs is e = cc

rest_of : (h i : Waiting) (hs is : List Waiting) → (h ∷ hs) ≡ (i ∷ is) → hs ≡ is
rest_of h i hs is e = cc

module _ (table : ClassTable) (entry : Option ℕ) (beginning : Beginning) (f : SilicaFrame) (result : Option Cell)
    (h : Waiting) (hs : List Waiting) (notes : Notes) (w : World) where
  pub from_returning : IsReturning table entry beginning (back_to f result h hs notes w)
      → Returned table entry beginning f result h hs notes w
  from_returning r = record {
    whole = r.whole;
    returned = λ x e. r.returned x (sym same_result ∙ e);
    given = subst (λ x. IsGivenBack (NeedsOwner table w.objects) x (gives_back_as f r.whole.parts)) (sym same_result)
        r.given;
    none = λ k out. r.none k (subst (λ (i : Waiting). has_lent i.loans k ≡ false) same_below out);
    exits = λ k p x lent. r.exits k p x (subst (λ (i : Waiting). has_lent i.loans k ≡ true) same_below lent);
    placed = r.placed;
    fields = r.fields;
    shares = r.shares;
    unreferred = r.unreferred;
    lends = subst (λ (i : Waiting). AllLend table i.frame.contract i.frame.tx i.frame.how hs) (sym same_below)
        (subst (AllLend table r.below.frame.contract r.below.frame.tx r.below.frame.how) (sym same_others) r.lends);
  }
    where
      same_result : result ≡ r.result
      same_result = leaves_result result r.result r.control

      same_below : h ≡ r.below
      same_below = first_of' h r.below hs r.others r.stack

      same_others : hs ≡ r.others
      same_others = rest_of h r.below hs r.others r.stack

  pub to_returning : Returned table entry beginning f result h hs notes w
      → IsReturning table entry beginning (back_to f result h hs notes w)
  to_returning r = record {
    whole = r.whole;
    result = result;
    control = refl;
    below = h;
    others = hs;
    stack = refl;
    returned = r.returned;
    given = r.given;
    none = r.none;
    exits = r.exits;
    placed = r.placed;
    fields = r.fields;
    shares = r.shares;
    unreferred = r.unreferred;
    lends = r.lends;
  }

-- what a frame gives back doesn't depend on its slots
pub same_gift : (how : How) (f : SilicaFrame) (slots : SlotCells) (parts : BodyParts)
    → gives_back_by how (record f { slots = slots }) parts ≡ gives_back_by how f parts
same_gift by_receiver f slots parts = refl
same_gift by_this f slots parts = refl
same_gift by_new f slots parts = refl

-- Progress.

-- the transactions in progress when a frame is left
abbrev pub left_progress : How → ℕ → List ℕ → List ℕ
left_progress by_receiver n ps = without_first n ps
left_progress by_this n ps = ps
left_progress by_new n ps = ps

pub left_is : (how : How) (n : ℕ) (w : World) → leaves_progress how n w ≡ with_progress w (left_progress how n
    w.progress)
left_is by_receiver n w = refl
left_is by_this n w = refl
left_is by_new n w = refl

pub left_times : (how : How) (slots : SlotCells) (ps : List ℕ) (n : ℕ) → entered_at n how slots ≤ times n ps
    → times n (left_progress how (self_of slots) ps) + entered_at n how slots ≡ times n ps
left_times by_this slots ps n e = omega arith
left_times by_new slots ps n e = omega arith
left_times by_receiver slots ps n e = ⊎_elim
    (λ same. subst (λ i. times n (without_first i ps) + entered_at n by_receiver slots ≡ times n ps) (sym same.1)
    (let one = entered_here n by_receiver slots refl same.1 in let a = without_times n ps (omega arith) in omega arith))
    (λ far. let none = entered_other n by_receiver slots far.1 in
    let a = without_other (self_of slots) n ps (λ z. far.1 (sym z)) in omega arith)
    (eqb_tells (self_of slots) n)

pub left_aside : (how : How) (n me : ℕ) (ps : List ℕ) → IsApart how n (me ∷ []) me → (left_progress how me ps ≡ ps) ⊎
    (n ≢ me)
left_aside by_receiver n me ps a = inr a.0
left_aside by_this n me ps a = inl refl
left_aside by_new n me ps a = inl refl
