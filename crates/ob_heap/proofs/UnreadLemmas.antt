-- What is done to the changes of a run leaves the entries of other numbers, and of those that aren't read.
use Rattle.std.proofs.Common.{◌≡◌, ◌≢◌, ℕ, zero, suc, ◌+◌, ◌-◌, ◌<◌, ◌≤◌, ◌⊎◌, inl, inr, Bool, true, false, List, [], ◌∷◌, ◌++◌, length, Some, None, refl, sym, ap, subst, ◌∙◌, arith, set, true≢false, ⊎_elim}
use Rattle.std.specs.Prelude.{Result, Ok, Err, nat_eq, nat_lt, slice_get, ◌||◌, if◌then◌else◌}
use Rattle.std.specs.List.{list_any}
use Rattle.std.specs.Option.{unwrap_or}
use Rattle.std.specs.Result.{OnOk}
use Rattle.std.proofs.lemmas.Bool.{cases_Bool, cases_lt, ne_eqb}
use Rattle.ob_heap.specs.declared.object.Object.{Object}
use Rattle.ob_heap.specs.declared.edit.Edit.{Edit}
use Rattle.ob_heap.specs.Edits.{with_edit, IsEdited}
use Rattle.ob_heap.specs.Overlays.{changed_at, IsEditedOver, with_number, noted, Changes, KeepsOthers, IsSameBeside, is_read, KeepsUnread, no_object, only, AreChangesRead}

there : (xs : List Object) (n : ℕ) → n < length xs → (x : Object) × (slice_get xs n ≡ Some x)
there [] n h = absurd (omega arith)
there (x ∷ xs) zero h = (x, refl)
there (x ∷ xs) (suc n) h = there xs n (omega arith)

set_other : (xs : List Object) (n m : ℕ) (x : Object) → m ≢ n → slice_get (set xs n x) m ≡ slice_get xs m
set_other [] n m x ne = refl
set_other (y ∷ xs) zero zero x ne = absurd (ne refl)
set_other (y ∷ xs) zero (suc m) x ne = refl
set_other (y ∷ xs) (suc n) zero x ne = refl
set_other (y ∷ xs) (suc n) (suc m) x ne = set_other xs n m x (λ e. ne (ap suc e))

-- An edit.

-- what is done to an object of the base, and to one that was made
pub others_in_base : {E : Type 0} (r : Result Unit E) (base : List Object) (n : ℕ) (e : Edit) (old : Changes) (new : List (ℕ × Object))
    → n < length base → OnOk r (IsEditedOver base n e old.changed new) → OnOk r (KeepsOthers (length base) n old (record old { changed = new }))
others_in_base (Err x) base n e old new h edited = tt
others_in_base (Ok u) base n e old new h edited =
    let x = there base n h in record {
      changed = λ m apart. edited x.0 x.1 m
          ∙ ap (λ b. if b then Some (with_edit e (unwrap_or (changed_at n old.changed) x.0)) else changed_at m old.changed)
          (ne_eqb n m (λ e. ⊎_elim (λ ne. ne (sym e)) (λ past. omega (arith, h, past, e)) apart));
      made = λ m ne. refl;
    }

pub others_in_made : {E : Type 0} (r : Result Unit E) (count n : ℕ) (e : Edit) (old : Changes) (new : List Object)
    → count ≤ n → n < count + length old.made → OnOk r (IsEdited (n - count) e old.made new) → OnOk r (KeepsOthers count n old (record old { made = new }))
others_in_made (Err x) count n e old new low h edited = tt
others_in_made (Ok u) count n e old new low h edited =
    let x = there old.made (n - count) (omega (arith, low, h)) in record {
      changed = λ m apart. refl;
      made = λ m ne. ap (λ os. slice_get os m) (edited x.0 x.1)
          ∙ set_other old.made (n - count) m (with_edit e x.0) (λ e. ne (let z : count + m ≡ n = omega (arith, low, e) in z));
    }

-- What isn't read.

pub unread_itself : (exempt : ℕ → Type 0) (c : Changes) → KeepsUnread exempt c c
unread_itself exempt c = record { reads = λ m e. e; entries = λ m out none. refl }

-- what isn't read in the end wasn't read before
unread_before : (old new : Changes) (m : ℕ) → (is_read m old ≡ true → is_read m new ≡ true) → is_read m new ≡ false → is_read m old ≡ false
unread_before old new m stays none = ⊎_elim (λ yes. absurd (true≢false (sym (stays yes) ∙ none))) (λ no. no) (cases_Bool (is_read m old))

pub unread_onward : (exempt : ℕ → Type 0) (a b c : Changes) → KeepsUnread exempt a b → KeepsUnread exempt b c → KeepsUnread exempt a c
unread_onward exempt a b c first second = record {
  reads = λ m e. second.reads m (first.reads m e);
  entries = λ m out none. second.entries m out none ∙ first.entries m out (unread_before b c m (second.reads m) none);
}

-- fewer are exempt
pub unread_within : (few many : ℕ → Type 0) → ((m : ℕ) → few m → many m) → (a b : Changes) → KeepsUnread few a b → KeepsUnread many a b
unread_within few many more a b k = record { reads = k.reads; entries = λ m out none. k.entries m (λ e. out (more m e)) none }

any_left : (n : ℕ) (xs ys : List ℕ) → list_any (nat_eq n) xs ≡ true → list_any (nat_eq n) (xs ++ ys) ≡ true
any_left n [] ys e = absurd (cc)
any_left n (x ∷ xs) ys e = go (nat_eq n x) e (any_left n xs ys)
  where
    go : (b : Bool) → (b || list_any (nat_eq n) xs) ≡ true → (list_any (nat_eq n) xs ≡ true → list_any (nat_eq n) (xs ++ ys) ≡ true)
        → (b || list_any (nat_eq n) (xs ++ ys)) ≡ true
    go true e rest = refl
    go false e rest = rest e

any_last : (n : ℕ) (xs : List ℕ) → list_any (nat_eq n) (xs ++ n ∷ []) ≡ true
any_last n [] = let e : nat_eq n n ≡ true = grind arith in ap (λ b. b || false) e
any_last n (x ∷ xs) = go (nat_eq n x) (any_last n xs)
  where
    go : (b : Bool) → list_any (nat_eq n) (xs ++ n ∷ []) ≡ true → (b || list_any (nat_eq n) (xs ++ n ∷ [])) ≡ true
    go true rest = refl
    go false rest = rest

with_number_keeps : (n m : ℕ) (ns : List ℕ) → list_any (nat_eq m) ns ≡ true → list_any (nat_eq m) (with_number n ns) ≡ true
with_number_keeps n m ns e = go (list_any (nat_eq n) ns)
  where
    go : (b : Bool) → list_any (nat_eq m) (if b then ns else ns ++ n ∷ []) ≡ true
    go true = e
    go false = any_left m ns (n ∷ []) e

with_number_has : (n : ℕ) (ns : List ℕ) → list_any (nat_eq n) (with_number n ns) ≡ true
with_number_has n ns = go (list_any (nat_eq n) ns) refl
  where
    go : (b : Bool) → list_any (nat_eq n) ns ≡ b → list_any (nat_eq n) (if b then ns else ns ++ n ∷ []) ≡ true
    go true e = e
    go false e = any_last n ns

pub unread_noted : (count n : ℕ) (c : Changes) → KeepsUnread no_object c (noted count n c)
unread_noted count n c = go (nat_lt n count)
  where
    go : (b : Bool) → KeepsUnread no_object c (if b then record c { reads = with_number n c.reads } else c)
    go true = record { reads = λ m e. with_number_keeps n m c.reads e; entries = λ m out none. refl }
    go false = unread_itself no_object c

pub read_noted : (count n : ℕ) (c : Changes) → n < count → is_read n (noted count n c) ≡ true
read_noted count n c h = let e : nat_lt n count ≡ true = grind (arith, h) in
    subst (λ b. is_read n (if b then record c { reads = with_number n c.reads } else c) ≡ true) (sym e) (with_number_has n c.reads)

-- an edit of an object leaves what isn't read, unless it is that of a number of the base
pub unread_edited : (count n : ℕ) (old new : Changes) → KeepsOthers count n old new → IsSameBeside old new → KeepsUnread (only count n) old new
unread_edited count n old new k s = record {
  reads = λ m e. ap (list_any (nat_eq m)) s.reads ∙ e;
  entries = λ m out none. k.changed m (apart m out);
}
  where
    apart : (m : ℕ) → ((m ≡ n) × (m < count) → ⊥) → (m ≢ n) ⊎ (count ≤ m)
    apart m out = ⊎_elim (λ low. inl (λ e. out (e, low))) (λ past. inr past) (cases_lt m count)

-- where that was read nothing is exempt
pub unread_where_read : (count n : ℕ) (old new : Changes) → KeepsUnread (only count n) old new → (n < count → is_read n old ≡ true) → KeepsUnread no_object old new
unread_where_read count n old new some read = record {
  reads = some.reads;
  entries = λ m out none. some.entries m
      (λ e. true≢false (sym (read (subst (λ i. i < count) e.0 e.1)) ∙ subst (λ i. is_read i old ≡ false) e.0
      (unread_before old new m (some.reads m) none))) none;
}

-- and so is an edit of an object that was read
pub unread_edited_read : (count n : ℕ) (old new : Changes) → KeepsOthers count n old new → IsSameBeside old new
    → (n < count → is_read n old ≡ true) → KeepsUnread no_object old new
unread_edited_read count n old new k s read = unread_where_read count n old new (unread_edited count n old new k s) read

pub changes_stay_read : (old new : Changes) → KeepsUnread no_object old new → AreChangesRead old → AreChangesRead new
changes_stay_read old new k were m none =
    k.entries m (λ e. e) none ∙ were m (unread_before old new m (k.reads m) none)
