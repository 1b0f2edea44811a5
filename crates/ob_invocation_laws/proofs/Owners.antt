-- How many handles pass a test once one is put or has gone.
use Rattle.std.proofs.Common.{◌≡◌, ◌∙◌, ℕ, ◌+◌, Bool, true, false, List, [], ◌∷◌, length, Some, None, refl, ap, arith}
use Rattle.std.specs.Prelude.{cond, not, filter, ◌&&◌, nat_eq, if◌then◌else◌, All, AllPairs}
use Rattle.std.specs.Ordering.{is_eq}
use Rattle.std.specs.declared.cmp.Ordering.{Ordering}
use Rattle.std.specs.declared.cmp.Ordering.TheVariants.{Less, Equal, Greater}
use Rattle.std.specs.FinMap.Entries.{find as find_key, by_order}
use Rattle.ob_heap_spec.specs.Contents.{HandleName, name_order}
use Rattle.ob_rest_spec.specs.Modes.{is_owned}
use Rattle.ob_rest_laws.specs.Laws.{handle_owners}
use Rattle.ob_heap_spec.specs.Handles.{NamedHandle, put_handle, without_handle}
use Rattle.ob_heap_spec.proofs.Names.{names_total}
use Rattle.ob_invocation_laws.specs.Laws.{owners_in}
use Rattle.ob_invocation_laws.proofs.Handles.{Before, head_of, tail_of, head_before, tail_pairs}

-- one more handle is one more owner, or none
one_more : (h : NamedHandle) (handles : List NamedHandle) (b : Bool)
    → length (cond b (h ∷ handles) handles) ≡ (if b then 1 else 0) + length handles
one_more h handles true = omega arith
one_more h handles false = omega arith

pub counted : (n : ℕ) (h : NamedHandle) (handles : List NamedHandle)
    → handle_owners (h ∷ handles) n ≡ owners_in n (Some h.1) + handle_owners handles n
counted n h handles =
    let owns = λ (g : NamedHandle). nat_eq g.1.object n && is_owned g.1.mode in
    one_more h (filter owns handles) (owns h)

-- names before all others aren't found there
pub not_found : (name : HandleName) (handles : List NamedHandle) → All (λ h. name_order name h.0 ≡ Less) handles
    → find_key name_order name handles ≡ None
not_found name [] all = refl
not_found name (h ∷ handles) all =
    let here = head_of (λ g. name_order name g.0 ≡ Less) h handles all in
    rw here (not_found name handles (tail_of (λ g. name_order name g.0 ≡ Less) h handles all))

-- all are kept whose names come after one
all_kept : (name : HandleName) (handles : List NamedHandle) → All (λ h. name_order name h.0 ≡ Less) handles
    → without_handle handles name ≡ handles
all_kept name [] all = refl
all_kept name (h ∷ handles) all =
    let here = head_of (λ g. name_order name g.0 ≡ Less) h handles all in
    rw here (ap (λ rest. h ∷ rest) (all_kept name handles (tail_of (λ g. name_order name g.0 ≡ Less) h handles all)))

-- what comes before or at the first comes before all others
pub before_others : (name : HandleName) (h : NamedHandle) (handles : List NamedHandle) → AllPairs Before (h ∷ handles)
    → name_order name h.0 ≡ Less → All (λ g. name_order name g.0 ≡ Less) handles
before_others name h handles pairs first k d inside =
    names_total.trans name h.0 _ first (head_before h handles pairs k d inside)

at_first : (name : HandleName) (h : NamedHandle) (handles : List NamedHandle) → AllPairs Before (h ∷ handles)
    → name_order name h.0 ≡ Equal → All (λ g. name_order name g.0 ≡ Less) handles
at_first name h handles pairs same k d inside =
    names_total.congr name h.0 _ same ∙ head_before h handles pairs k d inside

-- a handle that is put, by where its name stands
put_at : (n : ℕ) (g h : NamedHandle) (handles : List NamedHandle) → AllPairs Before (g ∷ handles)
    → handle_owners (put_handle handles h) n + owners_in n (find_key name_order h.0 handles)
    ≡ handle_owners handles n + owners_in n (Some h.1)
    → (o : Ordering) → name_order h.0 g.0 ≡ o
    → handle_owners (by_order o (h ∷ g ∷ handles) ((g.0, h.1) ∷ handles) (g ∷ put_handle handles h)) n
    + owners_in n (cond (is_eq o) (Some g.1) (find_key name_order h.0 handles))
    ≡ handle_owners (g ∷ handles) n + owners_in n (Some h.1)
put_at n g h handles pairs more Less is =
    let none = not_found h.0 handles (before_others h.0 g handles pairs is) in
    let first = counted n h (g ∷ handles) in
    rw none (omega arith)
put_at n g h handles pairs more Equal is =
    let new = counted n (g.0, h.1) handles in
    let old = counted n g handles in
    omega arith
put_at n g h handles pairs more Greater is =
    let new = counted n g (put_handle handles h) in
    let old = counted n g handles in
    omega arith

-- a handle that is put takes the place of the one of its name
pub put_counts : (n : ℕ) (handles : List NamedHandle) (h : NamedHandle) → AllPairs Before handles
    → handle_owners (put_handle handles h) n + owners_in n (find_key name_order h.0 handles)
    ≡ handle_owners handles n + owners_in n (Some h.1)
put_counts n [] h pairs = let first = counted n h [] in omega arith
put_counts n (g ∷ handles) h pairs =
    put_at n g h handles pairs (put_counts n handles h (tail_pairs g handles pairs)) (name_order h.0 g.0) refl

-- a handle that goes, by where its name stands
gone_at : (n : ℕ) (g : NamedHandle) (name : HandleName) (handles : List NamedHandle) → AllPairs Before (g ∷ handles)
    → handle_owners (without_handle handles name) n + owners_in n (find_key name_order name handles)
    ≡ handle_owners handles n
    → (o : Ordering) → name_order name g.0 ≡ o
    → handle_owners (cond (not (is_eq o)) (g ∷ without_handle handles name) (without_handle handles name)) n
    + owners_in n (cond (is_eq o) (Some g.1) (find_key name_order name handles))
    ≡ handle_owners (g ∷ handles) n
gone_at n g name handles pairs more Less is =
    let new = counted n g (without_handle handles name) in
    let old = counted n g handles in
    omega arith
gone_at n g name handles pairs more Equal is =
    let kept = all_kept name handles (at_first name g handles pairs is) in
    let old = counted n g handles in
    rw kept (omega arith)
gone_at n g name handles pairs more Greater is =
    let new = counted n g (without_handle handles name) in
    let old = counted n g handles in
    omega arith

-- where a handle goes, what it owned goes with it
pub gone_counts : (n : ℕ) (handles : List NamedHandle) (name : HandleName) → AllPairs Before handles
    → handle_owners (without_handle handles name) n + owners_in n (find_key name_order name handles)
    ≡ handle_owners handles n
gone_counts n [] name pairs = refl
gone_counts n (g ∷ handles) name pairs =
    gone_at n g name handles pairs (gone_counts n handles name (tail_pairs g handles pairs)) (name_order name g.0) refl
