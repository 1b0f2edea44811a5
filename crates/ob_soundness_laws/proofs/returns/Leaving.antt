-- Where all tests of a frame that leaves have ended: the run ends, or what was lent goes back.
use Rattle.std.proofs.Common.{◌≡◌, ◌≢◌, ℕ, zero, suc, ◌+◌, ◌≤◌, ◌⊎◌, inl, inr, ⊎_elim, true, false, List, [], ◌∷◌, length, map, Option, Some, None, slice_get, refl, sym, ap, ◌∙◌, subst, arith}
use Rattle.std.specs.Option.{option_map_or}
use Rattle.std.proofs.lemmas.Bool.{both_ways, cases_Bool, cases_lt, and_from}
use Rattle.ob_perm.specs.Permissions.{Permission, owned, shared, unowned, owns}
use Rattle.ob_perm.specs.Masks.{permission_of, states_of}
use Rattle.ob_table.specs.Tables.{ClassTable, contract_at}
use Rattle.ob_table.specs.declared.contract.Field.{Field}
use Rattle.ob_table_spec.specs.Conditions.{IsClassTable}
use Rattle.ob_table_spec.specs.WellFormed.{kind_of_resolved}
use Rattle.ob_heap_spec.specs.Objects.{is_available, state_number}
use Rattle.ob_silica_places.specs.Known.{Known, known}
use Rattle.ob_silica_places.specs.Places.{Location, slot, field}
use Rattle.ob_silica_places.specs.Parameters.{Parameter, parameter_of, parameters, all_parameters, this_parameter}
use Rattle.ob_silica_steps.specs.Cells.{Cell, value_in}
use Rattle.ob_silica_steps.specs.Configurations.{How, by_receiver, by_this, by_new, Rest, Waiting, leaves, Configuration}
use Rattle.ob_silica_steps.specs.Here.{here, self_of}
use Rattle.ob_silica_steps.specs.Returning.{left_world}
use Rattle.ob_flow_spec.specs.Contexts.{BodyFrame, Context, permission_on, is_held_as, is_owned_asset, exit_of_field, available, is_asset}
use Rattle.ob_flow_spec.specs.Returning.{tests_ended}
use Rattle.ob_flow_laws.specs.Laws.{MeetsExit}
use Rattle.ob_places_laws.specs.Serving.{Allows}
use Rattle.ob_places_laws.proofs.Serves.{allows_matched}
use Rattle.ob_coherent_spec.specs.Counting.{nth_object, in_cell}
use Rattle.ob_coherent_spec.specs.Runs.{tested_places}
use Rattle.ob_coherent_spec.specs.Standing.{Stands, NeedsOwner}
use Rattle.ob_coherent_spec.specs.Saying.{SaysOf, own_cell}
use Rattle.ob_coherent_spec.specs.Remaining.{body_of}
use Rattle.ob_coherent_spec.specs.Waiting.{has_lent, Lends, AllLend}
use Rattle.ob_coherent_spec.specs.Coherent.{Beginning, LeavesSo, IsLeaving, LeavesWith, IsReturning, HasEnded}
use Rattle.ob_soundness_laws.proofs.counting.Cells.{shared_none}
use Rattle.ob_soundness_laws.proofs.places.Reading.{kind_in_run}
use Rattle.ob_soundness_laws.proofs.places.Held.{held_says}
use Rattle.ob_soundness_laws.proofs.remaining.Following.{owner_is_asset}
use Rattle.ob_table.specs.declared.contract.Contract.{Contract}
use Rattle.std.proofs.lemmas.List.{length-map}
use Rattle.ob_perm.specs.States.{no_states}

-- The run ends where no frame waits.
pub ends_alone : (table : ClassTable) (entry : Option ℕ) (beginning : Beginning) (c : Configuration)
    → (k : IsLeaving table entry beginning c) → k.outer ≡ [] → c.stack ≡ []
    → HasEnded table entry beginning (value_in k.result) (left_world c)
ends_alone table entry beginning c k outer alone =
    record { last = c; leaving = k; outer = outer; alone = alone; gives = refl; world = refl }

-- What is said of a place that is held in some way.

-- its permission serves
held_allows : (N : ℕ → Type 0) (y : Option Known) (x : Cell) (w : Permission) → is_held_as y w ≡ true → SaysOf N y
    (Some x)
    → Allows w x.note.permission
held_allows N None x w held s = absurd (cc)
held_allows N (Some y) x w held s = allows_matched y.permission x.note.permission w s.known.1 held

-- a place that is known not to own an asset owns no object that must have an owner
pub owns_none : (table : ClassTable) → IsClassTable table → (N : _) (y : Option Known) (x : Option Cell)
    → ((z : Cell) → x ≡ Some z → Stands table N z) → is_owned_asset table y ≡ false
    → SaysOf (NeedsOwner table N) y x → (n : ℕ) → NeedsOwner table N n → in_cell owns n x ≡ 0
owns_none table t N y None stands none s n needs = refl
owns_none table t N None (Some x) stands none s n needs = ⊎_elim
    (λ has. absurd (let z : owns (permission_on None) ≡ true = s.owner n needs has in cc))
    (λ zero. omega arith)
    (cases_lt 0 (in_cell owns n (Some x)))
owns_none table t N (Some y) (Some x) stands none s n needs = ⊎_elim
    (λ has. absurd (both_ways _ none (and_from (owns y.permission) _ (s.owner n needs has)
    (subst (λ kind. is_asset table kind ≡ true) s.known.0
    (owner_is_asset table t N n x (stands x refl) needs has)))))
    (λ zero. omega arith)
    (cases_lt 0 (in_cell owns n (Some x)))

-- Exits.

-- where an exit is met, what is in the slot serves as it
pub meets_with : (b : BodyFrame) → IsClassTable b.table → (objects : _) (g : Context) (p : Location) (w : Permission)
    (x : Cell)
    → MeetsExit b g p w → Stands b.table objects x → SaysOf (NeedsOwner b.table objects) (g p) (Some x)
    → LeavesWith (NeedsOwner b.table objects) w x
meets_with b t objects g p (owned a) x meets stands s = held_allows (NeedsOwner b.table objects) (g p) x (owned a) meets
    s
meets_with b t objects g p shared x meets stands s = held_allows (NeedsOwner b.table objects) (g p) x shared meets s
meets_with b t objects g p unowned x meets stands s =
    λ n needs. owns_none b.table t objects (g p) (Some x) (λ z e. subst (Stands b.table objects) (some_same e) stands)
    meets s n needs
  where
    some_same : {x y : Cell} → Some x ≡ Some y → x ≡ y
    some_same e = cc

-- and it owns none that must have an owner, unless the exit is an owner's
pub meets_none : (b : BodyFrame) → IsClassTable b.table → (objects : _) (g : Context) (p : Location) (w : Permission)
    (x : Option Cell)
    → MeetsExit b g p w → owns w ≡ false → ((z : Cell) → x ≡ Some z → Stands b.table objects z)
    → SaysOf (NeedsOwner b.table objects) (g p) x → (n : ℕ) → NeedsOwner b.table objects n → in_cell owns n x ≡ 0
meets_none b t objects g p (owned a) x meets other stands s n needs = absurd (cc)
meets_none b t objects g p shared None meets other stands s n needs = refl
meets_none b t objects g p shared (Some x) meets other stands s n needs =
    shared_none n x (held_allows (NeedsOwner b.table objects) (g p) x shared meets s)
meets_none b t objects g p unowned x meets other stands s n needs = owns_none b.table t objects (g p) x stands meets s n
    needs

-- Parameters.

some_same : {A : Type 0} (x y : A) → Some x ≡ Some y → x ≡ y
some_same x y e = cc

-- what is at a place of a list of things made of others
pub made_of : {A B : Type 0} (f : A → B) (xs : List A) (k : ℕ) (y : B) → slice_get (map f xs) k ≡ Some y
    → (x : A) × (slice_get xs k ≡ Some x) × (y ≡ f x)
made_of f [] k y e = absurd (cc)
made_of f (x ∷ xs) zero y e = (x, refl, some_same y (f x) (sym e))
made_of f (x ∷ xs) (suc k) y e = made_of f xs k y e

nothing_past : {A : Type 0} (xs : List A) (k : ℕ) → slice_get xs k ≡ None → length xs ≤ k
nothing_past [] k e = omega arith
nothing_past (x ∷ xs) zero e = absurd (cc)
nothing_past (x ∷ xs) (suc k) e = let below = nothing_past xs k e in omega arith

is_new : (how : How) → (how ≡ by_new) ⊎ (how ≢ by_new)
is_new by_new = inl refl
is_new by_receiver = inr (λ e. cc)
is_new by_this = inr (λ e. cc)

module _ (table : ClassTable) (entry : Option ℕ) (beginning : Beginning) (c : Configuration) (t : IsClassTable table)
    (k : IsLeaving table entry beginning c) (l : LeavesSo (body_of table c.frame k.whole.parts) c.frame.how k.context
    (state_number (nth_object c.world.objects (self_of c.frame.slots)).state)) where
  stands_at : (j : ℕ) (z : Cell) → c.frame.slots j ≡ Some z → Stands table c.world.objects z
  stands_at j z e = k.whole.slots j z e

  -- each parameter meets its exit, but not the object that a constructor makes
  pub exit_met : (j : ℕ) (p : Parameter) → slice_get (all_parameters c.frame.contract k.whole.parts.signature) j ≡ Some
      p
      → (c.frame.how ≡ by_new → j ≢ 0)
      → MeetsExit (body_of table c.frame k.whole.parts) k.context (slot j) (permission_of p.exit)
  exit_met zero p e made = subst (λ (q : Parameter). MeetsExit (body_of table c.frame k.whole.parts) k.context (slot 0)
      (permission_of q.exit))
      (some_same _ p e) (l.itself (λ new. made new refl))
  exit_met (suc j) p e made = let q = made_of parameter_of k.whole.parts.signature.params j p e in
      let place : j + 1 ≡ suc j = omega arith in
      subst (λ (r : Parameter). MeetsExit (body_of table c.frame k.whole.parts) k.context (slot (suc j)) (permission_of
      r.exit)) (sym q.2)
      (subst (λ i. MeetsExit (body_of table c.frame k.whole.parts) k.context (slot i) (permission_of q.0.exit)) place
      (l.params j q.0 q.1))

  -- a slot that has no loan owns no object that must have an owner
  pub left_none : (h : Waiting) → Lends table c.frame.contract c.frame.tx c.frame.how h
      → (j : ℕ) → has_lent h.loans j ≡ false → (n : ℕ) → NeedsOwner table c.world.objects n → in_cell owns n
      (c.frame.slots j) ≡ 0
  left_none h lends zero out n needs = ⊎_elim
      (λ new. ⊎_elim
      (λ has. absurd (both_ways _ (l.given new) ((k.says.slots 0 refl).owner n needs has)))
      (λ zero. omega arith)
      (cases_lt 0 (in_cell owns n (c.frame.slots 0))))
      (λ old. by_owner (this_parameter c.frame.contract k.whole.parts.signature) refl old
      (cases_Bool (owns (permission_of k.whole.parts.signature.exit))))
      (is_new c.frame.how)
    where
      by_owner : (p : Parameter) → Some (this_parameter c.frame.contract k.whole.parts.signature) ≡ Some p
          → (c.frame.how ≢ by_new)
          → (owns (permission_of k.whole.parts.signature.exit) ≡ true) ⊎
          (owns (permission_of k.whole.parts.signature.exit) ≡ false)
          → in_cell owns n (c.frame.slots 0) ≡ 0
      by_owner p e old (inl o) = absurd (both_ways _ out (lends.owners k.whole.parts.own k.whole.parts.signature
          k.whole.frame.own k.whole.frame.signature
          0 (this_parameter c.frame.contract k.whole.parts.signature) refl o (λ new. absurd (old new))))
      by_owner p e old (inr o) = meets_none (body_of table c.frame k.whole.parts) t c.world.objects k.context (slot 0)
          (permission_of k.whole.parts.signature.exit) (c.frame.slots 0) (l.itself old) o (stands_at 0) (k.says.slots 0
          refl) n needs
  left_none h lends (suc j) out n needs = by_parameter (slice_get (all_parameters c.frame.contract
      k.whole.parts.signature) (suc j)) refl
    where
      by_owner : (p : Parameter) → slice_get (all_parameters c.frame.contract k.whole.parts.signature) (suc j) ≡ Some p
          → (owns (permission_of p.exit) ≡ true) ⊎ (owns (permission_of p.exit) ≡ false) → in_cell owns n (c.frame.slots
          (suc j)) ≡ 0
      by_owner p e (inl o) = absurd (both_ways _ out (lends.owners k.whole.parts.own k.whole.parts.signature
          k.whole.frame.own k.whole.frame.signature
          (suc j) p e o (λ new z. absurd (let w : suc j ≡ 0 = z in omega arith))))
      by_owner p e (inr o) = meets_none (body_of table c.frame k.whole.parts) t c.world.objects k.context (slot (suc j))
          (permission_of p.exit) (c.frame.slots (suc j)) (exit_met (suc j) p e (λ new z. absurd (let w : suc j ≡ 0 = z
          in omega arith))) o
          (stands_at (suc j)) (k.says.slots (suc j) refl) n needs

      past : slice_get (all_parameters c.frame.contract k.whole.parts.signature) (suc j) ≡ None
          → length k.whole.parts.signature.params ≤ j
      past e = let most = nothing_past (parameters k.whole.parts.signature) j e in
          let same = length-map k.whole.parts.signature.params parameter_of in omega arith

      by_parameter : (x : Option Parameter) → slice_get (all_parameters c.frame.contract k.whole.parts.signature)
          (suc j) ≡ x
          → in_cell owns n (c.frame.slots (suc j)) ≡ 0
      by_parameter (Some p) e = by_owner p e (cases_Bool (owns (permission_of p.exit)))
      by_parameter None e = owns_none table t c.world.objects (k.context (slot (suc j))) (c.frame.slots (suc j))
          (stands_at (suc j))
          (l.others (suc j) (let most = past e in omega arith)) (k.says.slots (suc j) refl) n needs

  -- the slot of a loan has what the exit says
  pub left_exits : (h : Waiting) → Lends table c.frame.contract c.frame.tx c.frame.how h
      → (j : ℕ) (p : Parameter) (x : Cell) → has_lent h.loans j ≡ true
      → slice_get (all_parameters c.frame.contract k.whole.parts.signature) j ≡ Some p → c.frame.slots j ≡ Some x
      → LeavesWith (NeedsOwner table c.world.objects) (permission_of p.exit) x
  left_exits h lends j p x lent e set = meets_with (body_of table c.frame k.whole.parts) t c.world.objects k.context
      (slot j) (permission_of p.exit) x
      (exit_met j p e (λ new z. both_ways _ (subst (λ i. has_lent h.loans i ≡ false) (sym z) (lends.made new)) lent))
      (stands_at j x set) (subst (SaysOf (NeedsOwner table c.world.objects) (k.context (slot j))) set (k.says.slots j
      refl))

  -- each field is as the body leaves it
  pub left_fields : (j : ℕ) (f : Field) → slice_get k.whole.parts.own.fields j ≡ Some f
      → is_available (nth_object c.world.objects (self_of c.frame.slots)).state f ≡ true
      → SaysOf (NeedsOwner table c.world.objects)
      (Some (known (kind_of_resolved f.of) (exit_of_field (body_of table c.frame k.whole.parts) k.whole.parts.signature
      j)))
      (own_cell (here c) j)
  left_fields j f e there = held_says (NeedsOwner table c.world.objects) (k.context (field j)) (own_cell (here c) j)
      (exit_of_field (body_of table c.frame k.whole.parts) k.whole.parts.signature j) (kind_of_resolved f.of) kinds
      (l.fields j open') (k.says.fields j open' refl)
    where
      open' : available (body_of table c.frame k.whole.parts) j (state_number (nth_object c.world.objects
          (self_of c.frame.slots)).state) ≡ true
      open' = subst (λ (x : Option Field). option_map_or (λ (y : Field). states_of y.available) x no_states
          (state_number (nth_object c.world.objects (self_of c.frame.slots)).state) ≡ true) (sym e) there

      same_fields : (g : Field) (own : _) → contract_at table (nth_object c.world.objects
          (self_of c.frame.slots)).contract ≡ Some own
          → slice_get own.fields j ≡ Some g → g ≡ f
      same_fields g own is at' = let same : own ≡ k.whole.parts.own = some_same own k.whole.parts.own
          (sym is ∙ ap (contract_at table) k.whole.frame.contract ∙ k.whole.frame.own) in
          some_same g f (sym at' ∙ ap (λ (d : Contract). slice_get d.fields j) same ∙ e)

      kinds : (z : Cell) → own_cell (here c) j ≡ Some z → z.note.kind ≡ kind_of_resolved f.of
      kinds z is = let run = k.whole.objects (self_of c.frame.slots) k.whole.frame.there in
          let r = kind_in_run table c.notes c.world.objects (self_of c.frame.slots) run j z is in
          r.4 ∙ ap (λ (g : Field). kind_of_resolved g.of) (same_fields r.1 run.own run.contract r.2)

-- Where a frame waits, and all tests have ended, loans go back.
pub leaving_returns : (table : ClassTable) (entry : Option ℕ) (beginning : Beginning) (c : Configuration) → IsClassTable
    table
    → (k : IsLeaving table entry beginning c) → k.outer ≡ [] → (h : Waiting) (hs : List Waiting) → c.stack ≡ h ∷ hs
    → IsReturning table entry beginning c
leaving_returns table entry beginning c t k outer h hs stack = record {
  whole = k.whole;
  result = k.result;
  control = k.control ∙ ap (leaves k.result) outer;
  below = h;
  others = hs;
  stack = stack;
  returned = k.returned;
  given = k.given;
  none = left_none table entry beginning c t k so h lends.0;
  exits = left_exits table entry beginning c t k so h lends.0;
  placed = k.placed;
  fields = left_fields table entry beginning c t k so;
  shares = k.shares;
  unreferred = k.unreferred;
  lends = lends.1;
}
  where
    lends : AllLend table c.frame.contract c.frame.tx c.frame.how (h ∷ hs)
    lends = subst (AllLend table c.frame.contract c.frame.tx c.frame.how) stack k.lends

    so : LeavesSo (body_of table c.frame k.whole.parts) c.frame.how k.context
        (state_number (nth_object c.world.objects (self_of c.frame.slots)).state)
    so = subst (λ (o : List Rest). LeavesSo (body_of table c.frame k.whole.parts) c.frame.how
        (tests_ended (tested_places o) k.context)
        (state_number (nth_object c.world.objects (self_of c.frame.slots)).state)) outer k.leaves_so
