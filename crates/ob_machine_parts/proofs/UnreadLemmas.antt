-- What the code notes, marks, changes and makes leaves the entries of what isn't read.
use Rattle.std.proofs.Common.{◌≡◌, ℕ, ◌<◌, true, List, length, refl, sym, subst}
use Rattle.std.specs.Prelude.{Result, Ok, Err}
use Rattle.std.specs.Result.{OnOk}
use Rattle.ob_heap.specs.declared.object.Object.{Object}
use Rattle.ob_heap.specs.Overlays.{Changes, noted, is_read, KeepsOthers, KeepsUnread, no_object, only, IsSameBeside}
use Rattle.ob_heap.proofs.UnreadLemmas.{unread_noted, read_noted, unread_edited, unread_edited_read}

pub noted_unread : {E : Type 0} (r : Result (Unit {0}) E) (base : List Object) (old new : Changes) (n : ℕ) → OnOk r (new ≡ noted (length base) n old)
    → OnOk r (KeepsUnread no_object old new)
noted_unread (Ok u) base old new n e = subst (λ v. KeepsUnread no_object old v) (sym e) (unread_noted (length base) n old)
noted_unread (Err x) base old new n e = tt

pub noted_read : {E : Type 0} (r : Result (Unit {0}) E) (base : List Object) (old new : Changes) (n : ℕ) → OnOk r (new ≡ noted (length base) n old)
    → OnOk r (n < length base → is_read n new ≡ true)
noted_read (Ok u) base old new n e = λ h. subst (λ v. is_read n v ≡ true) (sym e) (read_noted (length base) n old h)
noted_read (Err x) base old new n e = tt

-- an object is edited
pub edited_only : {E : Type 0} (r : Result (Unit {0}) E) (base : List Object) (old new : Changes) (n : ℕ)
    → OnOk r (KeepsOthers (length base) n old new) → OnOk r (IsSameBeside old new) → OnOk r (KeepsUnread (only (length base) n) old new)
edited_only (Ok u) base old new n others same = unread_edited (length base) n old new others same
edited_only (Err x) base old new n others same = tt

-- an object that was read is edited
pub edited_unread : {E : Type 0} (r : Result (Unit {0}) E) (base : List Object) (old new : Changes) (n : ℕ)
    → OnOk r (KeepsOthers (length base) n old new) → OnOk r (IsSameBeside old new)
    → OnOk r ((n < length base → is_read n old ≡ true) → KeepsUnread no_object old new)
edited_unread (Ok u) base old new n others same = unread_edited_read (length base) n old new others same
edited_unread (Err x) base old new n others same = tt

-- objects are made, and which number is the next is read
pub made_unread : (old new : Changes) (made : List Object) → new ≡ record old { made = made; next = true } → KeepsUnread no_object old new
made_unread old new made e =
    subst (λ v. KeepsUnread no_object old v) (sym e) (record { reads = λ m h. h; entries = λ m out none. refl })

pub next_unread : (old new : Changes) → new ≡ record old { next = true } → KeepsUnread no_object old new
next_unread old new e =
    subst (λ v. KeepsUnread no_object old v) (sym e) (record { reads = λ m h. h; entries = λ m out none. refl })
