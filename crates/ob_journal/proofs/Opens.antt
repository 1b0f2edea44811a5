-- An area is opened: what each of the writes leaves.
use Rattle.std.proofs.Common.{◌≡◌, Bool, true, false, inl, ℕ, zero, suc, ◌+◌, ◌≤◌, nat_eq, List, [], ◌∷◌, ◌++◌, length, length-append, get_or, take, drop, None, refl, sym, ◌∙◌, ap, subst, arith, append_assoc, ℤ}
use Rattle.ob_base.specs.Bytes.{i64_bytes}
use Rattle.std.proofs.lemmas.Bool.{eqb-true, eqb-false}
use Rattle.std.specs.Prelude.{pos}
use Rattle.ob_disk_spec.specs.Disk.{DiskView, Reads, WrittenOver, IsQuiet, IsWrite}
use Rattle.ob_disk_spec.specs.Durable.{May, Throughout, During, TornFrom, KeepsBehind}
use Rattle.ob_disk_spec.proofs.Moments.{throughout_to, throughout_may, during_to, during_then, quiet, written}
use Rattle.ob_journal_spec.specs.Spellings.{sized, header}
use Rattle.ob_journal_spec.specs.Areas.{begun}
use Rattle.ob_journal_spec.specs.Disks.{first, second, IsBlankOrBegunDisk}
use Rattle.ob_journal_spec.specs.Building.{IsShutBeside}
use Rattle.ob_journal_spec.proofs.Beginning.{begun_spelled}
use Rattle.ob_journal_spec.proofs.Bytes.{put_inside}
use Rattle.ob_journal_spec.proofs.DiskBuilding.{close_torn, close_there, close_looked, closed_before, body_torn, body_there, shut_closed, open_torn, open_there, open_beside}
use Rattle.ob_journal_spec.proofs.Spelled.{length-header}
use Rattle.ob_journal.specs.Moments.{IsFresh, IsHeld, LooksClosed, OpensByOne}
use Rattle.ob_journal.specs.Opening.{Opening, IsStart, IsOpening, IsAsBefore, IsNew, IsNewOrNot, IsReady, IsClosedFor, IsShut, ClosedOver, AreaOver, IsFirstOf}

-- two calls that change no byte
pub twice_quiet : (old mid new : DiskView) (P : List ℕ → Type 0) → IsQuiet old mid → IsQuiet mid new → Throughout old P → During old new P
twice_quiet old mid new P look other was =
    let one = quiet old mid P look was in during_then old mid new P one (quiet mid new P other one.now)

module _ (o : Opening) (at : ℕ) (start : IsStart o at) where
  -- ---- the gate is closed

  pub ready_before : (closed : Bool) (v : DiskView) → Throughout v (IsReady o closed) → Throughout v (IsAsBefore o)
  ready_before closed v was = throughout_to v _ _ was (λ c is. is.before)

  pub ready_closed : (closed : Bool) (v : DiskView) → closed ≡ true → Throughout v (IsReady o closed) → Throughout v (IsClosedFor o)
  ready_closed closed v known was =
      let ready = subst (λ (b : Bool). Throughout v (IsReady o b)) known was in
      throughout_to v _ _ ready (λ c is. close_looked o.size o.place o.was o.new start.follows at start.is start.some c is.before is.looks)

  module _ (closed : Bool) (v : DiskView) (known : closed ≡ false) (was : Throughout v (IsReady o closed)) where
    open_ready : Throughout v (IsReady o false)
    open_ready = subst (λ (b : Bool). Throughout v (IsReady o b)) known was

    pub gate_torn : (c : List ℕ) → TornFrom v at 1 c → IsAsBefore o c
    gate_torn c a =
        let ready = throughout_may v _ open_ready a.0 a.1 in close_torn o.size o.place o.was o.new start.follows at start.is start.some a.0 c ready.looks ready.before a.2

    pub gate_there : (w : DiskView) → Throughout w (WrittenOver (Reads v) at (0 ∷ [])) → Throughout w (IsClosedFor o)
    gate_there w now = throughout_to w _ _ now (λ c a. close_there o.size o.place o.was o.new start.follows at start.is start.some a.0 c (open_ready.content a.0 a.1).before a.2)

  -- ---- the area behind it

  module _ (v w : DiskView) (was : Throughout v (IsClosedFor o)) where
    pub area_during : (n : ℕ) → 1 + n ≤ o.size → IsWrite (at + 1) n v w → During v w (IsAsBefore o)
    area_during n within is = during_to v w _ _ (written v w (at + 1) n is) (λ c a.
        closed_before o.size o.place o.was o.new start.follows at start.is start.some c
        (body_torn o.size o.place o.was o.new start.follows at start.is start.some n a.0 c within (throughout_may v _ was a.0 a.1) a.2))

    pub area_shut : (built : List ℕ) → IsOpening o at built → IsWrite (at + 1) (length built) v w → ((c : List ℕ) → Reads w c → WrittenOver (Reads v) (at + 1) built c) → IsShut o w
    area_shut built opening is put = record {
      whole = λ c reads.
          let a = put c reads in
          body_there o.size o.place o.was o.new start.follows at start.is start.some opening.records built a.0 c opening.within opening.is opening.spelled (was.content a.0 a.1) a.2;
      closed = λ c left.
          let a = is.images c left in
          body_torn o.size o.place o.was o.new start.follows at start.is start.some (length built) a.0 c opening.within (was.images a.0 a.1) a.2;
    }

  -- ---- the gate is opened

  module _ (v w : DiskView) (was : IsShut o v) (look : IsQuiet v w) where
    pub settle_during : During v w (IsNewOrNot o)
    settle_during = quiet v w _ look (record {
      content = λ c reads. inl (closed_before o.size o.place o.was o.new start.follows at start.is start.some c (shut_closed o.size o.place o.was o.new start.follows at start.is start.some c (was.whole c reads)));
      images = λ c left. inl (closed_before o.size o.place o.was o.new start.follows at start.is start.some c (was.closed c left));
    })

    module _ (settled : Throughout w (Reads w)) (same : w.content ≡ v.content) where
      shut_settled : Throughout w (IsShutBeside o.size o.place o.was o.new)
      shut_settled = throughout_to w _ _ settled (λ c reads. was.whole c (sym same ∙ reads))

      pub opening_during : (x : DiskView) → During w x (TornFrom w at 1) → During v x (IsNewOrNot o)
      opening_during x put = during_then v w x _ settle_during (during_to w x _ _ put (λ c a.
          open_torn o.size o.place o.was o.new start.follows at start.is start.some a.0 c (throughout_may w _ shut_settled a.0 a.1) a.2))

      pub opening_there : (x : DiskView) → Throughout x (WrittenOver (Reads w) at (1 ∷ [])) → Throughout x (IsNew o)
      opening_there x put = throughout_to x _ _ put (λ c a.
          let shut = shut_settled.content a.0 a.1 in
          record {
            new = open_there o.size o.place o.was o.new start.follows at start.is start.some a.0 c shut a.2;
            there = open_beside o.size o.place o.was o.new start.follows at start.is start.some a.0 c shut a.2;
          })

-- what a sync gives is what was there
pub over_settled : (v w x : DiskView) (at : ℕ) (bytes : List ℕ) → w.content ≡ v.content → Throughout x (WrittenOver (Reads w) at bytes) → Throughout x (WrittenOver (Reads v) at bytes)
over_settled v w x at bytes same put = throughout_to x _ _ put (λ c a. (a.0, sym same ∙ a.1, a.2))

-- a write of a closed gate, or none
pub closed_over : (closed : Bool) (olds : List ℕ → Type 0) (at : ℕ) (w : DiskView) → closed ≡ false → Throughout w (WrittenOver olds at (0 ∷ [])) → Throughout w (ClosedOver closed olds at)
closed_over closed olds at w known put = subst (λ (b : Bool). Throughout w (ClosedOver b olds at)) (sym known) put

pub kept_over : (closed : Bool) (v w x : DiskView) (at : ℕ) → closed ≡ true → w.content ≡ v.content → IsQuiet v w → Throughout x (Reads x) → x.content ≡ w.content → Throughout x (ClosedOver closed (Reads v) at)
kept_over closed v w x at known one quiet_ settled other =
    let now : Throughout x (Reads v) = throughout_to x _ _ settled (λ c reads. sym one ∙ (sym other ∙ reads)) in
    subst (λ (b : Bool). Throughout x (ClosedOver b (Reads v) at)) (sym known) now

pub area_put : (closed : Bool) (v w x : DiskView) (at : ℕ) (built : List ℕ) → Throughout w (ClosedOver closed (Reads v) at) → ((c : List ℕ) → Reads x c → WrittenOver (Reads w) (at + 1) built c) → (c : List ℕ) → Reads x c → WrittenOver (ClosedOver closed (Reads v) at) (at + 1) built c
area_put closed v w x at built one put c reads = let a = put c reads in (a.0, one.content a.0 a.1, a.2)

-- ---- all of it

pub put_during : (o : Opening) (v w x : DiskView) → During v w (IsAsBefore o) → During w x (IsNewOrNot o) → During v x (IsNewOrNot o)
put_during o v w x one other = during_then v w x _ (during_to v w _ _ one (λ c is. inl is)) other

pub area_over : (closed : Bool) (v w x : DiskView) (at : ℕ) (built : List ℕ) → ((c : List ℕ) → Reads w c → WrittenOver (ClosedOver closed (Reads v) at) (at + 1) built c) → Throughout x (WrittenOver (Reads w) at (1 ∷ [])) → Throughout x (AreaOver closed (Reads v) at built)
area_over closed v w x at built one other = throughout_to x _ _ other (λ c a. (a.0, one a.0 a.1, a.2))

-- the bytes of a header behind others
pub header_put : (out letters numbers all : List ℕ) (serial : ℤ) (image : List ℕ) → letters ≡ out ++ 79 ∷ 66 ∷ 83 ∷ 65 ∷ [] → numbers ≡ letters ++ i64_bytes serial → all ≡ numbers ++ sized.bytes image → all ≡ out ++ header.bytes (serial, image)
header_put out letters numbers all serial image one two three =
    three ∙ ap (λ (l : List ℕ). l ++ sized.bytes image) two ∙ append_assoc letters (i64_bytes serial) (sized.bytes image)
    ∙ ap (λ (l : List ℕ). l ++ (i64_bytes serial ++ sized.bytes image)) one ∙ append_assoc out (79 ∷ 66 ∷ 83 ∷ 65 ∷ []) (i64_bytes serial ++ sized.bytes image)

-- ---- the first byte, as it was read

by_first : (t : Bool) (b : ℕ) (bytes : List ℕ) → nat_eq b 0 ≡ t → LooksClosed t (b ∷ bytes)
by_first true b bytes same = (bytes, ap (λ (n : ℕ). n ∷ bytes) (eqb-true b 0 same))
by_first false b bytes same = λ rest is. eqb-false b 0 same (ap (λ (l : List ℕ). get_or l 0 0) is)

pub looks : (c read : List ℕ) → ¬ (length c ≡ 0) → read ≡ take 1 c → LooksClosed (nat_eq (get_or read 0 0) 0) c
looks [] read some is = absurd (some refl)
looks (b ∷ bytes) read some is =
    let same : b ≡ get_or read 0 0 = sym (ap (λ (l : List ℕ). get_or l 0 0) is) in by_first (nat_eq (get_or read 0 0) 0) b bytes (ap (λ (n : ℕ). nat_eq n 0) same)

-- what is seen of bytes is seen of an area that they begin
pub looks_within : (size : ℕ) (closed : Bool) (c : List ℕ) → 1 ≤ size → LooksClosed closed c → LooksClosed closed (take size c)
looks_within zero closed c some is = absurd (omega (arith, some))
looks_within (suc size) true c some is = (take size is.0, ap (take (suc size)) is.1)
looks_within (suc size) false [] some is = λ rest same. is rest same
looks_within (suc size) false (b ∷ c) some is = λ rest same. is c (ap (λ (l : List ℕ). get_or l 0 0 ∷ c) same)

-- ---- the first area of a blank disk

-- what is opened there
abbrev pub first_opening : ℕ → List ℕ → Opening
first_opening size image = record { size = size; place = second; was = None; new = begun image }

module _ (size : ℕ) (image built : List ℕ) (is : IsFirstOf size image built) where
  pub first_start : IsStart (first_opening size image) 0
  first_start = record { is = refl; some = omega (arith, is.within); follows = tt }

  pub first_opens : IsOpening (first_opening size image) 0 built
  first_opens = record { start = first_start; within = is.within; records = []; spelled = begun_spelled image is.small; is = is.is }

-- while nothing is written, a settled disk reads as it did
pub still_reads : (old new : DiskView) → Throughout old (Reads old) → During old new (May old) → Throughout new (Reads old)
still_reads old new settled look = throughout_to new _ _ look.now (throughout_may old (Reads old) settled)

module _ (size : ℕ) (image built : List ℕ) (is : IsFirstOf size image built) (old : DiskView) (fresh : IsFresh size old) where
  -- while nothing is written, the disk stays blank
  pub still_blank : (new : DiskView) → During old new (May old) → During old new (IsBlankOrBegunDisk size image)
  still_blank new look = during_to old new _ _ look (λ c may. inl (fresh.blank c (throughout_may old (Reads old) fresh.settled c may)))

  module _ (one new : DiskView) (look : During old one (May old)) (same : one.content ≡ old.content) (next : During one new (May one)) where
    -- what is read after two looks was read before them
    still_old : Throughout new (Reads old)
    still_old =
        let now = still_reads old one fresh.settled look in throughout_to new _ _ next.now (throughout_may one (Reads old) now)

    pub blank_twice : During old new (IsBlankOrBegunDisk size image)
    blank_twice = during_then old one new _ (still_blank one look) (during_to one new _ _ next (λ c may.
        inl (fresh.blank c (throughout_may one (Reads old) (still_reads old one fresh.settled look) c may))))

    pub seen_ready : (closed : Bool) → ((c : List ℕ) → Reads old c → LooksClosed closed (drop 0 c)) → Throughout new (IsReady (first_opening size image) closed)
    seen_ready closed seen = throughout_to new _ _ still_old (λ c reads. record {
      before = fresh.blank c reads;
      looks = looks_within size closed c (omega (arith, is.within)) (seen c reads);
    })

    pub first_during : (last : DiskView) → During new last (IsNewOrNot (first_opening size image)) → During old last (IsBlankOrBegunDisk size image)
    first_during last put = during_then old new last _ blank_twice put

    -- the second area's first byte stays
    pub first_held : (closed : Bool) → ((c : List ℕ) → Reads one c → LooksClosed closed (drop size c)) → (last : DiskView) → Throughout last (IsNew (first_opening size image)) → KeepsBehind size new last → IsHeld size first (begun image) closed last
    first_held closed seen last put keeps = record {
      whole = throughout_to last _ _ put (λ c new_. new_.new);
      other = throughout_to last _ _ keeps.crash.now (λ c a.
          let reads = throughout_may new (Reads old) still_old a.0 a.1 in
          looks_within size closed (drop size c) (omega (arith, is.within)) (subst (LooksClosed closed) (sym a.2) (seen a.0 (same ∙ reads))));
    }

pub opened_there : (olds : List ℕ → Type 0) (w : DiskView) → Throughout w (WrittenOver olds 0 (1 ∷ [])) → Throughout w OpensByOne
opened_there olds w now = throughout_to w _ _ now (λ c a. (drop 1 a.0, a.2 ∙ put_inside [] a.0 (1 ∷ []) 0 refl))

-- how long what is written to begin an area is
pub begun_length : (image built : List ℕ) → built ≡ header.bytes (pos 1, image) ++ 0 ∷ [] → 1 + length built ≡ 18 + length image
begun_length image built is = omega (arith, ap (λ (l : List ℕ). length l) is, length-append (header.bytes (pos 1, image)) (0 ∷ []), length-header (pos 1) image)
