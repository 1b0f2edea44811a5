-- What a request takes and reads whose run has ended.
use Rattle.std.proofs.Common.{◌≡◌, ℕ, ◌+◌, Bool, true, false, List, [], ◌∷◌, ◌++◌, Option, Some, None, Result, Ok, Err, refl, sym, ap, subst, ◌∙◌, arith, append-nil}
use Rattle.std.specs.Prelude.{not, ◌&&◌, nat_lt, nat_le, Contains, flat_map, IfOk, if◌then◌else◌}
use Rattle.std.specs.Option.{option_map_or}
use Rattle.std.specs.List.{AllByRecursion}
use Rattle.std.proofs.lemmas.List.Sums.{fold-append}
use Rattle.ob_base.specs.declared.permission.Mode.{Mode}
use Rattle.ob_base.specs.declared.permission.Mode.TheVariants.{Owned, Shared, Unowned}
use Rattle.ob_rest_spec.specs.Modes.{is_owned, is_shared}
use Rattle.ob_heap_spec.specs.Marks.{mark_shared}
use Rattle.ob_heap_spec.specs.Values as values
use Rattle.ob_heap_spec.specs.Worlds.{World, ReadItem, object_item, AllRead, ReadSame, is_made, with_read}
use Rattle.ob_heap_spec.specs.Handles.{NamedHandle}
use Rattle.ob_heap.specs.declared.delta.Delta.{Delta}
use Rattle.ob_invocation_spec.specs.Entries.{HandleUse}
use Rattle.ob_invocation_spec.specs.Entering.{handle_in, put_after_use, put_given}
use Rattle.ob_invocation_spec.specs.Handles.{handle_name, mark_put, mark_puts}
use Rattle.ob_wire.specs.declared.reply.Answer.{Answer}
use Rattle.ob_exec_handles.specs.declared.answered.Answered.{Answered}
use Rattle.ob_exec_handles.specs.declared.spent.Spent.{Spent}
use Rattle.ob_exec_handles.proofs.SpendingLemmas.{all_itself, all_on, all_both, all_left, all_right, same_items, first_last, onward_puts, shared_reads, puts_within}
use Rattle.ob_exec.specs.Reading.{object_read, is_shared_given, given_read}
use Rattle.ob_exec.specs.Standing.{AreUsesRead}
use Rattle.ob_exec.specs.declared.invoked.Invoked.{Invoked}
use Rattle.ob_exec.proofs.ReadingLemmas.{uses_more}

-- What is answered, with what is spent.

pub comes_so : {E F : Type 0} (P : Answer → Delta → Type 0) (r : Result Invoked E) (answered : Result Answered F) (spent : Spent)
    → IfOk r (λ i. (answered ≡ Ok (record { answer = i.answer; delta = i.delta })) × (i.spent ≡ spent))
    → IfOk answered (λ a. P a.answer a.delta) → IfOk r (λ i. P i.answer i.delta)
comes_so P (Ok i) answered spent h told = subst (λ x. IfOk x (λ a. P a.answer a.delta)) h.0 told
comes_so P (Err e) answered spent h told = tt

pub spent_so : {E F : Type 0} (P : Spent → Type 0) (r : Result Invoked E) (answered : Result Answered F) (spent : Spent)
    → IfOk r (λ i. (answered ≡ Ok (record { answer = i.answer; delta = i.delta })) × (i.spent ≡ spent))
    → P spent → IfOk r (λ i. P i.spent)
spent_so P (Ok i) answered spent h told = subst P (sym h.1) told
spent_so P (Err e) answered spent h told = tt

-- What handles become.

one_use : (u : HandleUse) (zs : List ReadItem) → Contains zs (object_item u.handle.object)
    → AllByRecursion (λ (h : NamedHandle). Contains zs (object_item h.1.object)) (put_after_use u)
one_use u zs there = by (is_owned u.handle.mode) (is_owned u.entry.mode) (is_shared u.entry.mode)
  where
    other : (c : Bool)
        → AllByRecursion (λ (h : NamedHandle). Contains zs (object_item h.1.object)) (if c then handle_in u.name u.handle.object Shared ∷ [] else [])
    other true = (there, tt)
    other false = tt

    by : (a b c : Bool)
        → AllByRecursion (λ (h : NamedHandle). Contains zs (object_item h.1.object))
        (if a && b then handle_in u.name u.handle.object u.exit.mode ∷ [] else (if c then handle_in u.name u.handle.object Shared ∷ [] else []))
    by true true c = (there, tt)
    by true false c = other c
    by false b c = other c

uses_marks : (uses : List HandleUse) (w : World) (zs : List ReadItem) → AreUsesRead zs uses → AllRead w.reads zs
    → AllRead (mark_puts w (flat_map put_after_use uses)).reads zs
uses_marks [] w zs there all = all
uses_marks (u ∷ uses) w zs there all =
    subst (λ (v : World). AllRead v.reads zs) (sym (fold-append mark_put w (put_after_use u) (flat_map put_after_use uses)))
    (uses_marks uses (mark_puts w (put_after_use u)) zs there.1 (puts_within (put_after_use u) w zs (one_use u zs there.0) all))

no_more : (xs : List ReadItem) (b : Bool) → ReadSame xs (xs ++ (if b then [] else []))
no_more xs true = same_items xs (xs ++ []) (sym (append-nil xs))
no_more xs false = same_items xs (xs ++ []) (sym (append-nil xs))

marked_reads : (w : World) (n count : ℕ) → is_made w n ≡ not (nat_lt n count) → ReadSame (mark_shared n w).reads (w.reads ++ object_read count n)
marked_reads w n count made =
    subst (λ rs. ReadSame rs (w.reads ++ object_read count n)) (sym (shared_reads n w))
    (subst (λ b. ReadSame (if b then w else with_read w (object_item n)).reads (w.reads ++ object_read count n)) (sym made) (by (nat_lt n count)))
  where
    by : (b : Bool) → ReadSame (if not b then w else with_read w (object_item n)).reads (w.reads ++ (if b then object_item n ∷ [] else []))
    by true = first_last (object_item n) w.reads
    by false = same_items w.reads (w.reads ++ []) (sym (append-nil w.reads))

-- the handle on what is given
pub given_reads : (w : World) (count : ℕ) (who : List ℕ) (into : Option (List ℕ)) (given : Option Mode) (value : Option values.Value)
    → ((n : ℕ) → is_made w n ≡ not (nat_lt n count))
    → ReadSame (mark_puts w (option_map_or (λ name. put_given (handle_name who name) given value) into [])).reads (w.reads ++ given_read count into given value)
given_reads w count who None given value made = same_items w.reads (w.reads ++ []) (sym (append-nil w.reads))
given_reads w count who (Some name) None value made = same_items w.reads (w.reads ++ []) (sym (append-nil w.reads))
given_reads w count who (Some name) (Some mode) None made = no_more w.reads (is_shared_given (Some name) (Some mode))
given_reads w count who (Some name) (Some mode) (Some (values.int_value z)) made = no_more w.reads (is_shared_given (Some name) (Some mode))
given_reads w count who (Some name) (Some mode) (Some (values.bool_value b)) made = no_more w.reads (is_shared_given (Some name) (Some mode))
given_reads w count who (Some name) (Some mode) (Some (values.text_value bytes)) made = no_more w.reads (is_shared_given (Some name) (Some mode))
given_reads w count who (Some name) (Some Owned) (Some (values.reference n)) made = same_items w.reads (w.reads ++ []) (sym (append-nil w.reads))
given_reads w count who (Some name) (Some Shared) (Some (values.reference n)) made = marked_reads w n count (made n)
given_reads w count who (Some name) (Some Unowned) (Some (values.reference n)) made = same_items w.reads (w.reads ++ []) (sym (append-nil w.reads))

-- an object is made by the run where it isn't one of the base
pub made_test : (c m n l k : ℕ) → l ≡ c + m → k ≡ m → nat_le l (n + k) ≡ not (nat_lt n c)
made_test c m n l k e f = ap (λ x. nat_le x (n + k)) e ∙ ap (λ x. nat_le (c + m) (n + x)) f ∙ by (nat_lt n c) refl
  where
    by : (b : Bool) → nat_lt n c ≡ b → nat_le (c + m) (n + m) ≡ not b
    by true g = grind arith
    by false g = grind arith

-- The end of a run.

-- what is read where the run gives a result
pub done_reads : (w : World) (uses : List HandleUse) (into : List NamedHandle) (reads run given all : List ReadItem)
    → all ≡ (reads ++ run) ++ given → ReadSame w.reads run → AreUsesRead reads uses
    → ReadSame (mark_puts (mark_puts w (flat_map put_after_use uses)) into).reads ((mark_puts w (flat_map put_after_use uses)).reads ++ given)
    → ReadSame ((mark_puts w (flat_map put_after_use uses ++ into)).reads ++ reads) all
done_reads w uses into reads run given all told same there marks =
    subst (ReadSame ((mark_puts w (flat_map put_after_use uses ++ into)).reads ++ reads)) (sym told)
    (subst (λ (v : World). ReadSame (v.reads ++ reads) ((reads ++ run) ++ given)) (sym (fold-append mark_put w (flat_map put_after_use uses) into)) (
      all_both (mark_puts (mark_puts w (flat_map put_after_use uses)) into).reads reads ((reads ++ run) ++ given)
          (all_on (mark_puts (mark_puts w (flat_map put_after_use uses)) into).reads ((mark_puts w (flat_map put_after_use uses)).reads ++ given)
          ((reads ++ run) ++ given) marks.0
          (all_both (mark_puts w (flat_map put_after_use uses)).reads given ((reads ++ run) ++ given)
          (uses_marks uses w ((reads ++ run) ++ given) (uses_more uses reads ((reads ++ run) ++ given) from_reads there)
          (all_on w.reads run ((reads ++ run) ++ given) same.0 from_run)) (all_right (reads ++ run) given given (all_itself given)))) from_reads,
      all_both (reads ++ run) given ((mark_puts (mark_puts w (flat_map put_after_use uses)) into).reads ++ reads)
          (all_both reads run ((mark_puts (mark_puts w (flat_map put_after_use uses)) into).reads ++ reads)
          (all_right (mark_puts (mark_puts w (flat_map put_after_use uses)) into).reads reads reads (all_itself reads))
          (all_left (mark_puts (mark_puts w (flat_map put_after_use uses)) into).reads reads run (all_on run w.reads
          (mark_puts (mark_puts w (flat_map put_after_use uses)) into).reads same.1 onward)))
          (all_left (mark_puts (mark_puts w (flat_map put_after_use uses)) into).reads reads given
          (all_on given ((mark_puts w (flat_map put_after_use uses)).reads ++ given) (mark_puts (mark_puts w (flat_map put_after_use uses)) into).reads
          (all_right (mark_puts w (flat_map put_after_use uses)).reads given given (all_itself given)) marks.1)),
    ))
  where
    from_reads : AllRead reads ((reads ++ run) ++ given)
    from_reads = all_left (reads ++ run) given reads (all_left reads run reads (all_itself reads))

    from_run : AllRead run ((reads ++ run) ++ given)
    from_run = all_left (reads ++ run) given run (all_right reads run run (all_itself run))

    onward : AllRead w.reads (mark_puts (mark_puts w (flat_map put_after_use uses)) into).reads
    onward =
        let first = onward_puts (flat_map put_after_use uses) w in
        let last = onward_puts into (mark_puts w (flat_map put_after_use uses)) in
        all_on w.reads (mark_puts w (flat_map put_after_use uses)).reads (mark_puts (mark_puts w (flat_map put_after_use uses)) into).reads first.reads last.reads
