-- A write on a disk that never fails.
use Rattle.std.proofs.Common.{◌≡◌, Bool, true, false, inl, ℕ, List, length, Some, None, if◌then◌else◌, ap, subst, refl, arith}
use Rattle.ob_disk_spec.specs.Disk.{Torn, IsWrite, overwritten}
use Rattle.ob_disk_spec.proofs.TornLemmas.{torn_overwritten, unsome}
use Rattle.ob_disk.specs.Sure.{sure_told}

kept : (tells : Bool) (old new bytes : List ℕ) (at : ℕ) → (tells ≡ true → new ≡ overwritten at bytes old) → (c : List ℕ) → (if tells then Some new else None) ≡ Some c → Torn at (length bytes) old c
kept true old new bytes at is c reads =
    let there : overwritten at bytes old ≡ c = subst (λ (b : List ℕ). b ≡ c) (is refl) (unsome new c reads) in
    subst (λ (b : List ℕ). Torn at (length bytes) old b) there (torn_overwritten at bytes old)
kept false old new bytes at is c reads = cc

pub sure_write : (told tells : Bool) (old new bytes : List ℕ) (at i j : ℕ) → told ≡ true → (tells ≡ true → new ≡ overwritten at bytes old) → IsWrite at (length bytes) (sure_told told old i) (sure_told tells new j)
sure_write told tells old new bytes at i j was is = record {
  content = λ c reads. (old, ap (λ t. if t then Some old else None) was, kept tells old new bytes at is c reads);
  images = λ c left. absurd left;
  time = record { only = record { later = omega arith; each = λ t c le left. inl left }; keeps = λ t c le left. left };
}
