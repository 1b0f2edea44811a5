-- What is found among the handles after a delta, and the same of their plain data.
use Rattle.std.proofs.Common.{◌≡◌, ℕ, zero, suc, ◌<◌, Bool, true, false, cond, List, [], ◌∷◌, length, map, Option, None, Some, refl, sym, ap, ◌∙◌, true≢false, arith}
use Rattle.std.specs.Prelude.{not, AllPairs, slice_index_or, if◌then◌else◌}
use Rattle.std.specs.Option.{unwrap_or, option_or}
use Rattle.std.specs.Ordering.{is_eq, ordering_reverse, eq_by_cmp}
use Rattle.std.specs.FinMap.Entries.{put as put_key, where_key, by_order}
use Rattle.std.specs.declared.cmp.Ordering.{Ordering}
use Rattle.std.specs.declared.cmp.Ordering.TheVariants.{Less, Equal, Greater}
use Rattle.ob_base.specs.declared.name.Label.{Label}
use Rattle.ob_heap.specs.declared.object.Handle.{Handle}
use Rattle.ob_heap.specs.Contents.{name_of, named_of, handle_at, IsInOrder, IsBeforeAll}
use Rattle.ob_heap.specs.Deltas.{label_order, with_handle, without_handle, with_change, with_handles, change_at}
use Rattle.ob_heap.specs.Plain.{handle_of}
use Rattle.ob_heap_spec.specs.Contents.{HandleName, Handle as PlainHandle, name_order}
use Rattle.ob_heap.proofs.HandlesLemmas.{names_total, equal_is}
use Rattle.ob_heap.proofs.DeltasLemmas.{Held}

-- two names that are this one are the same
same_names : (n y : Label × Label) (k : HandleName) → is_eq (name_order (name_of n) k) ≡ true → is_eq (name_order (name_of y) k) ≡ true → label_order n y ≡ Equal
same_names n y k a b =
    names_total.congr (name_of n) k (name_of y) (equal_is _ a)
    ∙ names_total.antisymm k (name_of y) ∙ ap ordering_reverse (equal_is _ b)

alike : (n y : Label × Label) (k : HandleName) → label_order n y ≡ Equal → is_eq (name_order (name_of y) k) ≡ is_eq (name_order (name_of n) k)
alike n y k e = sym (ap is_eq (names_total.congr (name_of n) (name_of y) k e))

shadowed : {A : Type 0} (b c : Bool) (x y z : A) → c ≡ b → cond b x z ≡ cond b x (cond c y z)
shadowed true c x y z e = refl
shadowed false true x y z e = absurd (true≢false e)
shadowed false false x y z e = refl

swapped : {A : Type 0} (b c : Bool) (x y z : A) → (b ≡ true → c ≡ true → ⊥) → cond c y (cond b x z) ≡ cond b x (cond c y z)
swapped true true x y z apart = absurd (apart refl refl)
swapped true false x y z apart = refl
swapped false c x y z apart = refl

-- a handle that is put is found by its name, and the others as before
pub look_with : (k : HandleName) (n : Label × Label) (h : Handle) (hs : List Held)
    → handle_at k (with_handle n h hs) ≡ (if is_eq (name_order (name_of n) k) then Some h else handle_at k hs)
look_with k n h [] = refl
look_with k n h (y ∷ hs) = by (label_order n y.0) refl (look_with k n h hs)
  where
    by : (q : Ordering) → label_order n y.0 ≡ q
        → handle_at k (with_handle n h hs) ≡ (if is_eq (name_order (name_of n) k) then Some h else handle_at k hs)
        → handle_at k (by_order q ((n, h) ∷ y ∷ hs) ((y.0, h) ∷ hs) (y ∷ with_handle n h hs))
        ≡ (if is_eq (name_order (name_of n) k) then Some h else if is_eq (name_order (name_of y.0) k) then Some y.1 else handle_at k hs)
    by Less is rest = refl
    by Equal is rest =
        ap (λ b. cond b (Some h) (handle_at k hs)) (alike n y.0 k is)
        ∙ shadowed (is_eq (name_order (name_of n) k)) (is_eq (name_order (name_of y.0) k)) (Some h) (Some y.1) (handle_at k hs) (alike n y.0 k is)
    by Greater is rest =
        ap (λ r. cond (is_eq (name_order (name_of y.0) k)) (Some y.1) r) rest
        ∙ swapped (is_eq (name_order (name_of n) k)) (is_eq (name_order (name_of y.0) k)) (Some h) (Some y.1) (handle_at k hs)
        (λ a b. let clash : Greater ≡ Equal = sym is ∙ same_names n y.0 k a b in cc)

-- a name that is removed has none, and the others theirs
pub look_without : (k : HandleName) (n : Label × Label) (hs : List Held)
    → handle_at k (without_handle n hs) ≡ (if is_eq (name_order (name_of n) k) then None else handle_at k hs)
look_without k n [] = by (is_eq (name_order (name_of n) k))
  where
    by : (b : Bool) → handle_at k [] ≡ cond b None (handle_at k [])
    by true = refl
    by false = refl
look_without k n (y ∷ hs) = by (label_order n y.0) refl (look_without k n hs)
  where
    other : (q : Ordering) → label_order n y.0 ≡ q → is_eq q ≡ false
        → handle_at k (without_handle n hs) ≡ (if is_eq (name_order (name_of n) k) then None else handle_at k hs)
        → handle_at k (y ∷ without_handle n hs)
        ≡ (if is_eq (name_order (name_of n) k) then None else if is_eq (name_order (name_of y.0) k) then Some y.1 else handle_at k hs)
    other q is f rest =
        ap (λ r. cond (is_eq (name_order (name_of y.0) k)) (Some y.1) r) rest
        ∙ swapped (is_eq (name_order (name_of n) k)) (is_eq (name_order (name_of y.0) k)) None (Some y.1) (handle_at k hs)
        (λ a b. true≢false (sym (ap is_eq (sym is ∙ same_names n y.0 k a b)) ∙ f))

    by : (q : Ordering) → label_order n y.0 ≡ q
        → handle_at k (without_handle n hs) ≡ (if is_eq (name_order (name_of n) k) then None else handle_at k hs)
        → handle_at k (cond (not (is_eq q)) (y ∷ without_handle n hs) (without_handle n hs))
        ≡ (if is_eq (name_order (name_of n) k) then None else if is_eq (name_order (name_of y.0) k) then Some y.1 else handle_at k hs)
    by Less is rest = other Less is refl rest
    by Equal is rest = rest
        ∙ shadowed (is_eq (name_order (name_of n) k)) (is_eq (name_order (name_of y.0) k)) None (Some y.1) (handle_at k hs) (alike n y.0 k is)
    by Greater is rest = other Greater is refl rest

pub look_change : (k : HandleName) (n : Label × Label) (c : Option Handle) (hs : List Held)
    → handle_at k (with_change n c hs) ≡ (if is_eq (name_order (name_of n) k) then c else handle_at k hs)
look_change k n None hs = look_without k n hs
look_change k n (Some h) hs = look_with k n h hs

-- after changes a name denotes what the last of them says of it, or else what it denoted
pub look_changes : (k : HandleName) (hs : List Held) (ds : List ((Label × Label) × Option Handle))
    → handle_at k (with_handles hs ds) ≡ unwrap_or (change_at k ds) (handle_at k hs)
look_changes k hs [] = refl
look_changes k hs (d ∷ ds) = look_changes k (with_change d.0 d.1 hs) ds
    ∙ ap (λ r. unwrap_or (change_at k ds) r) (look_change k d.0 d.1 hs)
    ∙ by (change_at k ds) (is_eq (name_order (name_of d.0) k))
  where
    by : (r : Option (Option Handle)) (b : Bool) → unwrap_or r (cond b d.1 (handle_at k hs))
        ≡ unwrap_or (option_or r (cond b (Some d.1) None)) (handle_at k hs)
    by (Some x) b = refl
    by None true = refl
    by None false = refl

before_each : (n : Label × Label) (hs : List Held) (j : ℕ) (d : HandleName × PlainHandle) → IsBeforeAll n hs → j < length (map named_of hs)
    → name_order (name_of n) (slice_index_or (map named_of hs) j d).0 ≡ Less
before_each n [] j d b l = absurd (omega arith)
before_each n (y ∷ hs) zero d b l = b.0
before_each n (y ∷ hs) (suc j) d b l = before_each n hs j d b.1 (omega arith)

-- the order in which they are kept is that of their plain data
pub plain_order : (hs : List Held) → IsInOrder hs → AllPairs (λ (a b : HandleName × PlainHandle). name_order a.0 b.0 ≡ Less) (map named_of hs)
plain_order [] o i j d l h = absurd (omega arith)
plain_order (y ∷ hs) o zero zero d l h = absurd (omega arith)
plain_order (y ∷ hs) o zero (suc j) d l h = before_each y.0 hs j d o.0 (omega arith)
plain_order (y ∷ hs) o (suc i) zero d l h = absurd (omega arith)
plain_order (y ∷ hs) o (suc i) (suc j) d l h = plain_order hs o.1 i j d (omega arith) (omega arith)

pub plain_with : (n : Label × Label) (h : Handle) (hs : List Held)
    → map named_of (with_handle n h hs) ≡ put_key name_order (name_of n) (handle_of h) (map named_of hs)
plain_with n h [] = refl
plain_with n h (y ∷ hs) = by (label_order n y.0) (plain_with n h hs)
  where
    by : (q : Ordering) → map named_of (with_handle n h hs) ≡ put_key name_order (name_of n) (handle_of h) (map named_of hs)
        → map named_of (by_order q ((n, h) ∷ y ∷ hs) ((y.0, h) ∷ hs) (y ∷ with_handle n h hs))
        ≡ by_order q ((name_of n, handle_of h) ∷ named_of y ∷ map named_of hs) ((name_of y.0, handle_of h) ∷ map named_of hs)
        (named_of y ∷ put_key name_order (name_of n) (handle_of h) (map named_of hs))
    by Less rest = refl
    by Equal rest = refl
    by Greater rest = ap (λ r. named_of y ∷ r) rest

pub plain_without : (n : Label × Label) (hs : List Held)
    → map named_of (without_handle n hs) ≡ where_key name_order (λ other. not (eq_by_cmp name_order (name_of n) other)) (map named_of hs)
plain_without n [] = refl
plain_without n (y ∷ hs) = by (not (is_eq (label_order n y.0))) (plain_without n hs)
  where
    by : (q : Bool) → map named_of (without_handle n hs) ≡ where_key name_order (λ other. not (eq_by_cmp name_order (name_of n) other)) (map named_of hs)
        → map named_of (cond q (y ∷ without_handle n hs) (without_handle n hs))
        ≡ cond q (named_of y ∷ where_key name_order (λ other. not (eq_by_cmp name_order (name_of n) other)) (map named_of hs))
        (where_key name_order (λ other. not (eq_by_cmp name_order (name_of n) other)) (map named_of hs))
    by true rest = ap (λ r. named_of y ∷ r) rest
    by false rest = rest
