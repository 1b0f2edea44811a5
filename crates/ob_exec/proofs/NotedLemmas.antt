-- What a run has read, as it is noted.
use Rattle.std.proofs.Common.{◌≡◌, ℕ, Bool, true, false, List, [], ◌∷◌, ◌++◌, map, inl, inr, sym, ap, subst, ◌∙◌}
use Rattle.std.specs.Prelude.{not, ◌&&◌}
use Rattle.std.proofs.lemmas.List.{map-append}
use Rattle.ob_heap_spec.specs.Worlds.{ReadItem as Item, object_item, next_item, AllRead, ReadSame}
use Rattle.ob_machine_parts.specs.Shown.{next_read}
use Rattle.ob_exec_handles.proofs.SpendingLemmas.{all_itself, all_none, all_on, all_both, all_left, all_right}
use Rattle.ob_exec.specs.Going.{IsFresh}

-- Lists that grow.

pub more_by : (xs ys more : List Item) → ys ≡ xs ++ more → AllRead xs ys
more_by xs ys more e = subst (AllRead xs) (sym e) (all_left xs more xs (all_itself xs))

last_by : (xs ys more : List Item) → ys ≡ xs ++ more → AllRead more ys
last_by xs ys more e = subst (AllRead more) (sym e) (all_right xs more more (all_itself more))

-- What is among the items once it was noted.

next_in : (has next : Bool) (xs ys : List Item) → AllRead (next_read next) xs → ys ≡ xs ++ next_read (has && not next) → AllRead (next_read has) ys
next_in true true xs ys h e = all_on (next_item ∷ []) xs ys h (more_by xs ys [] e)
next_in true false xs ys h e = last_by xs ys (next_item ∷ []) e
next_in false next xs ys h e = all_none ys

numbers_in : (noted all fresh : List ℕ) (xs ys : List Item) → AllRead (map object_item noted) xs → ys ≡ xs ++ map object_item fresh → IsFresh noted all fresh
    → AllRead (map object_item all) ys
numbers_in noted all fresh xs ys h e (inl f) =
    subst (λ ns. AllRead (map object_item ns) ys) (sym f)
    (subst (λ zs. AllRead zs ys) (sym (map-append object_item noted fresh))
    (all_both (map object_item noted) (map object_item fresh) ys (all_on (map object_item noted) xs ys h (more_by xs ys (map object_item fresh) e))
    (last_by xs ys (map object_item fresh) e)))
numbers_in noted all fresh xs ys h e (inr f) = subst (λ ns. AllRead (map object_item ns) ys) (sym f) (last_by xs ys (map object_item fresh) e)

pub noted_all : (has next : Bool) (noted all fresh : List ℕ) (xs ys zs : List Item) → AllRead (next_read next ++ map object_item noted) xs
    → ys ≡ xs ++ next_read (has && not next) → zs ≡ ys ++ map object_item fresh → IsFresh noted all fresh → AllRead (next_read has ++ map object_item all) zs
noted_all has next noted all fresh xs ys zs h e f g =
    all_both (next_read has) (map object_item all) zs
    (all_on (next_read has) ys zs
    (next_in has next xs ys (all_on (next_read next) (next_read next ++ map object_item noted) xs (all_left (next_read next) (map object_item noted) (next_read next) (all_itself (next_read next))) h) e)
    (more_by ys zs (map object_item fresh) f))
    (numbers_in noted all fresh ys zs
    (all_on (map object_item noted) xs ys
    (all_on (map object_item noted) (next_read next ++ map object_item noted) xs (all_right (next_read next) (map object_item noted) (map object_item noted) (all_itself (map object_item noted))) h)
    (more_by xs ys (next_read (has && not next)) e)) f g)

-- What is noted was among the items, or was read.

next_out : (has next : Bool) → AllRead (next_read (has && not next)) (next_read has)
next_out true true = all_none (next_item ∷ [])
next_out true false = all_itself (next_item ∷ [])
next_out false next = all_none []

fresh_out : (noted all fresh : List ℕ) → IsFresh noted all fresh → AllRead (map object_item fresh) (map object_item all)
fresh_out noted all fresh (inl f) =
    subst (λ ns. AllRead (map object_item fresh) (map object_item ns)) (sym f)
    (subst (AllRead (map object_item fresh)) (sym (map-append object_item noted fresh)) (all_right (map object_item noted) (map object_item fresh) (map object_item fresh) (all_itself (map object_item fresh))))
fresh_out noted all fresh (inr f) = subst (λ ns. AllRead (map object_item fresh) (map object_item ns)) (sym f) (all_itself (map object_item fresh))

noted_within : (has next : Bool) (noted all fresh : List ℕ) (xs ys zs : List Item) → ys ≡ xs ++ next_read (has && not next) → zs ≡ ys ++ map object_item fresh
    → IsFresh noted all fresh → AllRead zs (xs ++ (next_read has ++ map object_item all))
noted_within has next noted all fresh xs ys zs e f g =
    let run = next_read has ++ map object_item all in
    subst (λ ws. AllRead ws (xs ++ run)) (sym (f ∙ ap (λ ws. ws ++ map object_item fresh) e))
    (all_both (xs ++ next_read (has && not next)) (map object_item fresh) (xs ++ run)
    (all_both xs (next_read (has && not next)) (xs ++ run) (all_left xs run xs (all_itself xs))
    (all_right xs run (next_read (has && not next)) (all_left (next_read has) (map object_item all) (next_read (has && not next)) (next_out has next))))
    (all_right xs run (map object_item fresh) (all_right (next_read has) (map object_item all) (map object_item fresh) (fresh_out noted all fresh g))))

-- what is noted is all that was read so far
pub noted_same : (has next : Bool) (noted all fresh : List ℕ) (xs ys zs : List Item) → AllRead (next_read next ++ map object_item noted) xs
    → ys ≡ xs ++ next_read (has && not next) → zs ≡ ys ++ map object_item fresh → IsFresh noted all fresh
    → ReadSame (xs ++ (next_read has ++ map object_item all)) zs
noted_same has next noted all fresh xs ys zs h e f g = (
  all_both xs (next_read has ++ map object_item all) zs
      (all_on xs ys zs (more_by xs ys (next_read (has && not next)) e) (more_by ys zs (map object_item fresh) f))
      (noted_all has next noted all fresh xs ys zs h e f g),
  noted_within has next noted all fresh xs ys zs e f g,
)

-- Of a run that goes on.

-- Where these items were read before it, and these in it so far, those of its overlay make all of them.
pub read_on : (before now run checks items all : List Item) → AllRead checks items → AllRead items (before ++ checks) → ReadSame (items ++ run) all → ReadSame now run
    → AllRead before now → ReadSame (now ++ checks) all
read_on before now run checks items all read within noted same grown = (
  all_both now checks all (all_on now run all same.0 (all_on run (items ++ run) all (all_right items run run (all_itself run)) noted.0))
      (all_on checks items all read (all_on items (items ++ run) all (all_left items run items (all_itself items)) noted.0)),
  all_on all (items ++ run) (now ++ checks) noted.1
      (all_both items run (now ++ checks)
      (all_on items (before ++ checks) (now ++ checks) within
      (all_both before checks (now ++ checks) (all_left now checks before grown) (all_right now checks checks (all_itself checks))))
      (all_left now checks run same.1)),
)

-- the same, with what its overlay has read in place of what it has read
pub read_over : (now run checks all : List Item) → ReadSame now run → ReadSame (now ++ checks) all → ReadSame (checks ++ run) all
read_over now run checks all same h = (
  all_both checks run all (all_on checks (now ++ checks) all (all_right now checks checks (all_itself checks)) h.0)
      (all_on run now all same.1 (all_on now (now ++ checks) all (all_left now checks now (all_itself now)) h.0)),
  all_on all (now ++ checks) (checks ++ run) h.1
      (all_both now checks (checks ++ run) (all_right checks run now same.0) (all_left checks run checks (all_itself checks))),
)
