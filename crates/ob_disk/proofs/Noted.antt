-- One more call is noted.
use Rattle.std.proofs.Common.{◌≡◌, ◌⊎◌, inl, inr, ⊎_elim, ℕ, ◌-◌, ◌==◌, cond, List, [], ◌∷◌, ◌++◌, reverse, length, Option, Some, refl, sym, ◌∙◌, ap, subst, arith}
use Rattle.std.proofs.lemmas.Bool.{cond_both}
use Rattle.std.proofs.lemmas.List.{reverse-append}
use Rattle.ob_disk_spec.specs.Disk.{Attach, Torn, Elapses, IsQuiet, IsWrite, overwritten}
use Rattle.ob_disk_spec.proofs.TornLemmas.{torn_same, torn_again, torn_overwritten, unsome}
use Rattle.ob_disk.specs.Notes.{Left, LeftSince, stopped, spoiled, undone, before, own_left}
use Rattle.ob_disk.specs.Memory.{told}
use Rattle.ob_disk.specs.declared.memory.Over.{Over}
use Rattle.ob_disk.specs.declared.memory.Note.{Note}
use Rattle.ob_disk.specs.declared.memory.Note.TheVariants.{Written, Lost, Synced}
use Rattle.ob_disk.proofs.Undoing.{torn_spoiled}

reversed : (notes later : List Note) (note : Note) → later ≡ notes ++ note ∷ [] → reverse later ≡ note ∷ reverse notes
reversed notes later note is = ap reverse is ∙ reverse-append notes (note ∷ [])

elapses : (old new : List ℕ) (notes : List Note) (note : Note) (f g : ℕ) (xs ys : Option (List Attach)) (i j : ℕ) → undone note new ≡ old → Elapses (told old notes f xs i) (told new (note ∷ notes) g ys j)
elapses old new notes note f g xs ys i j back = record {
  only = record {
    later = omega arith;
    each = λ t c le left. ⊎_elim (λ now. inr now) (λ was. inl (subst (λ (b : List ℕ). LeftSince notes t b c) back was.1)) left;
  };
  keeps = λ t c le left. inr (omega (arith, le), subst (λ (b : List ℕ). LeftSince notes t b c) (sym back) left);
}

-- nothing is noted
same_quiet : (bytes : List ℕ) (notes : List Note) (f g : ℕ) (xs ys : Option (List Attach)) (i j : ℕ) → IsQuiet (told bytes notes f xs i) (told bytes notes g ys j)
same_quiet bytes notes f g xs ys i j = record {
  content = λ c reads. reads;
  images = λ c left. left;
  time = record { only = record { later = omega arith; each = λ t c le left. inl left }; keeps = λ t c le left. left };
}

same_write : (bytes : List ℕ) (notes : List Note) (at n f g : ℕ) (xs ys : Option (List Attach)) (i j : ℕ) → IsWrite at n (told bytes notes f xs i) (told bytes notes g ys j)
same_write bytes notes at n f g xs ys i j = record {
  content = λ c reads. (c, reads, torn_same at n c);
  images = λ c left. (c, left, torn_same at n c);
  time = (same_quiet bytes notes f g xs ys i j).time;
}

-- a write that failed is noted
fault_write : (bytes : List ℕ) (notes : List Note) (at n f g : ℕ) (xs ys : Option (List Attach)) (i j : ℕ) → IsWrite at n (told bytes notes f xs i) (told bytes (Lost at n ∷ notes) g ys j)
fault_write bytes notes at n f g xs ys i j = record {
  content = λ c reads. (c, reads, torn_same at n c);
  images = λ c left. ⊎_elim (λ torn. (bytes, own_left notes bytes, torn)) (λ was. was) left;
  time = elapses bytes bytes notes (Lost at n) f g xs ys i j refl;
}

lost_either : (bytes : List ℕ) (notes later : List Note) (at n f g : ℕ) (xs ys : Option (List Attach)) (i j : ℕ) → (later ≡ notes) ⊎ (later ≡ notes ++ Lost at n ∷ []) → IsWrite at n (told bytes (reverse notes) f xs i) (told bytes (reverse later) g ys j)
lost_either bytes notes later at n f g xs ys i j (inl is) = subst (λ (l : List Note). IsWrite at n (told bytes (reverse notes) f xs i) (told bytes (reverse l) g ys j)) (sym is) (same_write bytes (reverse notes) at n f g xs ys i j)
lost_either bytes notes later at n f g xs ys i j (inr is) =
    subst (λ (l : List Note). IsWrite at n (told bytes (reverse notes) f xs i) (told bytes l g ys j)) (sym (reversed notes later (Lost at n) is)) (fault_write bytes (reverse notes) at n f g xs ys i j)

-- a write failed, and it may be that this was noted
pub lost_write : (old new : List ℕ) (notes later : List Note) (at n f g : ℕ) (xs ys : Option (List Attach)) (i j : ℕ) → new ≡ old → (later ≡ notes) ⊎ (later ≡ notes ++ Lost at n ∷ []) → IsWrite at n (told old (reverse notes) f xs i) (told new (reverse later) g ys j)
lost_write old new notes later at n f g xs ys i j same is = subst (λ (b : List ℕ). IsWrite at n (told old (reverse notes) f xs i) (told b (reverse later) g ys j)) (sym same) (lost_either old notes later at n f g xs ys i j is)

-- bytes were written
written_write : (old bytes : List ℕ) (notes : List Note) (over : Over) (f g : ℕ) (xs ys : Option (List Attach)) (i j : ℕ) → over.count ≡ length bytes → before over (overwritten over.at bytes old) ≡ old → IsWrite over.at over.count (told old notes f xs i) (told (overwritten over.at bytes old) (Written over ∷ notes) g ys j)
written_write old bytes notes over f g xs ys i j count back =
    let new = overwritten over.at bytes old in
    let torn : Torn over.at over.count old new = subst (λ (k : ℕ). Torn over.at k old new) (sym count) (torn_overwritten over.at bytes old) in
    record {
      content = λ c reads. (old, refl, subst (λ (b : List ℕ). Torn over.at over.count old b) (unsome new c reads) torn);
      images = λ c left. ⊎_elim (λ more. (old, own_left notes old, torn_again over.at over.count old new c torn more))
          (λ was. (was.0, subst (λ (b : List ℕ). Left notes b was.0) back was.1, was.2)) left;
      time = elapses old new notes (Written over) f g xs ys i j back;
    }

pub put_write : (old new bytes : List ℕ) (notes later : List Note) (over : Over) (at f g : ℕ) (xs ys : Option (List Attach)) (i j : ℕ) → new ≡ overwritten at bytes old → later ≡ notes ++ Written over ∷ [] → over.at ≡ at → over.count ≡ length bytes → before over (overwritten at bytes old) ≡ old → IsWrite at (length bytes) (told old (reverse notes) f xs i) (told new (reverse later) g ys j)
put_write old new bytes notes later over at f g xs ys i j is noted start count back =
    let there = written_write old bytes (reverse notes) over f g xs ys i j count (ap (λ (k : ℕ). before over (overwritten k bytes old)) start ∙ back) in
    let from = subst (λ (k : ℕ). IsWrite k over.count (told old (reverse notes) f xs i) (told (overwritten k bytes old) (Written over ∷ reverse notes) g ys j)) start there in
    let long = subst (λ (k : ℕ). IsWrite at k (told old (reverse notes) f xs i) (told (overwritten at bytes old) (Written over ∷ reverse notes) g ys j)) count from in
    let made = subst (λ (b : List ℕ). IsWrite at (length bytes) (told old (reverse notes) f xs i) (told b (Written over ∷ reverse notes) g ys j)) (sym is) long in
    subst (λ (l : List Note). IsWrite at (length bytes) (told old (reverse notes) f xs i) (told new l g ys j)) (sym (reversed notes later (Written over) noted)) made

-- a sync came to the disk
synced : (bytes : List ℕ) (notes : List Note) (f g : ℕ) (xs ys : Option (List Attach)) (i j : ℕ) → IsQuiet (told bytes notes f xs i) (told bytes (Synced ∷ notes) g ys j)
synced bytes notes f g xs ys i j = record {
  content = λ c reads. reads;
  images = λ c is. subst (λ (b : List ℕ). Left notes bytes b) (sym is) (own_left notes bytes);
  time = elapses bytes bytes notes Synced f g xs ys i j refl;
}

pub sync_quiet : (old new : List ℕ) (notes later : List Note) (f g : ℕ) (xs ys : Option (List Attach)) (i j : ℕ) → new ≡ old → later ≡ notes ++ Synced ∷ [] → IsQuiet (told old (reverse notes) f xs i) (told new (reverse later) g ys j)
sync_quiet old new notes later f g xs ys i j same is =
    subst (λ (b : List ℕ). IsQuiet (told old (reverse notes) f xs i) (told b (reverse later) g ys j)) (sym same)
    (subst (λ (l : List Note). IsQuiet (told old (reverse notes) f xs i) (told old l g ys j)) (sym (reversed notes later Synced is)) (synced old (reverse notes) f g xs ys i j))

pub sync_durable : (bytes : List ℕ) (notes later : List Note) → later ≡ notes ++ Synced ∷ [] → (c : List ℕ) → Left (reverse later) bytes c → Some bytes ≡ Some c
sync_durable bytes notes later is c left =
    let here : c ≡ bytes = subst (λ (l : List Note). Left l bytes c) (reversed notes later Synced is) left in ap (λ (l : List ℕ). Some l) (sym here)

-- ---- stopping

-- what a number selects is an image
pub stopped_left : (n : ℕ) (notes : List Note) (bytes : List ℕ) → Left notes bytes (stopped n notes bytes)
stopped_left n [] bytes = refl
stopped_left n (Written over ∷ notes) bytes =
    let more = stopped (n - 2) notes (before over bytes) in
    cond_both (n == 0) bytes (cond (n == 1) (spoiled over.at over.count bytes) more) (Left (Written over ∷ notes) bytes) (λ zero_is. own_left (Written over ∷ notes) bytes)
    (λ not_zero. cond_both (n == 1) (spoiled over.at over.count bytes) more (Left (Written over ∷ notes) bytes) (λ one. inl (torn_spoiled over.at over.count bytes))
    (λ not_one. inr (more, stopped_left (n - 2) notes (before over bytes), torn_same over.at over.count more)))
stopped_left n (Lost at count ∷ notes) bytes =
    let more = stopped (n - 2) notes bytes in
    cond_both (n == 0) bytes (cond (n == 1) (spoiled at count bytes) more) (Left (Lost at count ∷ notes) bytes) (λ zero_is. own_left (Lost at count ∷ notes) bytes)
    (λ not_zero. cond_both (n == 1) (spoiled at count bytes) more (Left (Lost at count ∷ notes) bytes) (λ one. inl (torn_spoiled at count bytes))
    (λ not_one. inr (more, stopped_left (n - 2) notes bytes, torn_same at count more)))
stopped_left n (Synced ∷ notes) bytes = refl
