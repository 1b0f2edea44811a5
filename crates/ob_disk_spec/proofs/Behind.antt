-- What follows the bytes that are written stays.
use Rattle.std.proofs.Common.{◌≡◌, ◌⊎◌, inl, inr, ⊎_elim, ◌<◌, ◌≤◌, ℕ, ◌+◌, ◌-◌, List, length, drop, refl, sym, ◌∙◌, ap, arith}
use Rattle.std.proofs.lemmas.List.{drop-drop, drop_all}
use Rattle.std.proofs.lemmas.Bool.{cases_lt}
use Rattle.ob_disk_spec.specs.Disk.{DiskView, Torn, After, IsQuiet, IsWrite}
use Rattle.ob_disk_spec.specs.Durable.{May, SameBehind, KeepsBehind}
use Rattle.ob_disk_spec.proofs.Moments.{during_to, during_then, during_none, written, quiet}
use Rattle.ob_disk_spec.proofs.TornLemmas.{behind_kept}

-- what is the same from an offset on is so from a later one on
further : (size more : ℕ) (old new : List ℕ) → size ≤ more → SameBehind size old new → SameBehind more old new
further size more old new within same =
    let is : size + (more - size) ≡ more = omega (arith, within) in
    let behind : (l : List ℕ) → drop more l ≡ drop (more - size) (drop size l) = λ l. ap (λ (n : ℕ). drop n l) (sym is) ∙ sym (drop-drop (more - size) size l) in
    behind new ∙ ap (drop (more - size)) same ∙ sym (behind old)

-- a torn write
torn_behind : (at n size : ℕ) (old new : List ℕ) → at + n ≤ size → Torn at n old new → SameBehind size old new
torn_behind at n size old new within torn = either (cases_lt (at + n) (length old)) where
  either : (at + n < length old) ⊎ (length old ≤ at + n) → SameBehind size old new
  either (inl inside) = further (at + n) size old new within (behind_kept at n old new inside torn).1
  either (inr past) = drop_all size new (omega (arith, past, within, torn.no_longer)) ∙ sym (drop_all size old (omega (arith, past, within)))

after_itself : (size : ℕ) (v : DiskView) (c : List ℕ) → May v c → After (May v) (SameBehind size) c
after_itself size v c may = (c, may, refl)

-- where nothing is called
pub behind_none : (size : ℕ) (v : DiskView) → KeepsBehind size v v
behind_none size v = record {
  content = λ c reads. (c, reads, refl);
  crash = during_none v _ (record { content = λ c reads. after_itself size v c (inl reads); images = λ c left. after_itself size v c (inr left) });
}

-- a call that changes no byte
pub behind_quiet : (size : ℕ) (old new : DiskView) → IsQuiet old new → KeepsBehind size old new
behind_quiet size old new is = record {
  content = λ c reads. (c, is.content c reads, refl);
  crash = quiet old new _ is (behind_none size old).crash.now;
}

-- a write within the bytes at the front
pub behind_write : (size at n : ℕ) (old new : DiskView) → at + n ≤ size → IsWrite at n old new → KeepsBehind size old new
behind_write size at n old new within is = record {
  content = λ c reads. let was = is.content c reads in (was.0, was.1, torn_behind at n size was.0 c within was.2);
  crash = during_to old new _ _ (written old new at n is) (λ c was. (was.0, was.1, torn_behind at n size was.0 c within was.2));
}

-- one after another
pub behind_then : (size : ℕ) (old mid new : DiskView) → KeepsBehind size old mid → KeepsBehind size mid new → KeepsBehind size old new
behind_then size old mid new was next = record {
  content = λ c reads. let now = next.content c reads in let before = was.content now.0 now.1 in (before.0, before.1, now.2 ∙ before.2);
  crash = during_then old mid new _ was.crash (during_to mid new _ _ next.crash (λ c now.
      let before = ⊎_elim (was.crash.now.content now.0) (was.crash.now.images now.0) now.1 in (before.0, before.1, now.2 ∙ before.2)));
}

-- what follows more bytes stays too
pub behind_more : (size more : ℕ) (old new : DiskView) → size ≤ more → KeepsBehind size old new → KeepsBehind more old new
behind_more size more old new within is = record {
  content = λ c reads. let was = is.content c reads in (was.0, was.1, further size more was.0 c within was.2);
  crash = during_to old new _ _ is.crash (λ c was. (was.0, was.1, further size more was.0 c within was.2));
}
