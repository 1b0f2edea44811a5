-- The walk of `clap` over options with their values and plain words.
use Rattle.std.proofs.Common.{◌≡◌, ◌∙◌, ℕ, Bool, true, false, List, [], ◌∷◌, Option, None, Some, refl, ap, ap₂, codes, nat_eq, ◌&&◌}
use Rattle.std.specs.Prelude.{⊤, fold, is_some, unwrap_or}
use Rattle.std.specs.Str.{bytes_eq}
use Rattle.clap.specs.Lexer.{long_of, short_of}
use Rattle.clap.specs.Kinds.{Kinds, or_else}
use Rattle.clap.specs.Faults.{check_fault, default_fault, defaults_fault, entered_fault, fault_of, settle_fault, turn_fault, use_fault, walk_fault, word_fault}
use Rattle.clap.specs.Walk.{Held, Row, Rule, Text, Waiting, Walk, arg_by_id, idle, option, positional, plain_word, finished, has_row, nothing_held, settled, settled_rows, used, walk, walk_from, walked, with_default, word_met}
use Rattle.clap.specs.Simple.{Shape, built, entered, matches_of, new_rule}
use Rattle.clap.specs.Takes.{is_given}
use Rattle.std.specs.List.{list_all}
use Rattle.clap.proofs.OnLiterals.{clap_on_literals}
use Rattle.ob_words.specs.CommandLine.{command_line}
use Rattle.ob_words.specs.Settings.{Setting, fuel, lanes, slice, name_of}
use Rattle.ob_words.specs.Written.{is_plain}
use Rattle.ob_base.proofs.OptionalLemmas.{both_true}

-- the command as built
abbrev pub shape : Shape
shape = (built command_line).top

abbrev pub rules : List Rule
rules = shape.rules

-- what a value is given of: a setting, the word for the command, or the words after it
pub data Part : Type 0 where
  setting : Setting → Part
  command : Part
  words : Part

abbrev pub id_of : Part → Text
id_of (setting s) = name_of s
id_of command = codes "command"
id_of words = codes "words"

abbrev pub rule_at : Part → Rule
rule_at part = unwrap_or (arg_by_id rules (id_of part)) (new_rule [])

abbrev pub pending_of : Option (Part × Text) → Option (Text × List Text)
pending_of None = None
pending_of (Some p) = Some (id_of p.0, p.1 ∷ [])

-- the walk between two parts: what was found, and the last value, which is yet to be put there
abbrev pub state : List Row → Option (Part × Text) → Waiting → ℕ → Walk
state rows p waiting position = record {
  held = record { rows = rows; pending = pending_of p; skip = 0 };
  waiting = waiting;
  position = position;
  is_trailing = false;
  stopped = None;
}

abbrev pub with_last : List Row → Option (Part × Text) → List Row
with_last rows None = rows
with_last rows (Some p) = used (rule_at p.0) (p.1 ∷ []) rows

abbrev pub last_fault : List Row → Option (Part × Text) → Kinds
last_fault rows None = []
last_fault rows (Some p) = use_fault false (rule_at p.0) (p.1 ∷ []) rows

-- nothing waits for a value
abbrev pub IsFree : Waiting → Type 0
IsFree (option id) = ⊥
IsFree _ = ⊤

settles : (rows : List Row) (p : Option (Part × Text)) → settled_rows rules (pending_of p) rows ≡ with_last rows p
unfolding clap_on_literals
settles rows None = refl
settles rows (Some (setting fuel, v)) = refl
settles rows (Some (setting lanes, v)) = refl
settles rows (Some (setting slice, v)) = refl
settles rows (Some (command, v)) = refl
settles rows (Some (words, v)) = refl

settle_faults : (rows : List Row) (p : Option (Part × Text))
    → settle_fault rules false (record { rows = rows; pending = pending_of p; skip = 0 }) ≡ last_fault rows p
unfolding clap_on_literals
settle_faults rows None = refl
settle_faults rows (Some (setting fuel, v)) = refl
settle_faults rows (Some (setting lanes, v)) = refl
settle_faults rows (Some (setting slice, v)) = refl
settle_faults rows (Some (command, v)) = refl
settle_faults rows (Some (words, v)) = refl

-- ---- plain words

no_dashes : (v : Text) → is_plain v ≡ true → bytes_eq v (45 ∷ 45 ∷ []) ≡ false
no_dashes [] e = refl
no_dashes (c ∷ cs) e = go (nat_eq c 45) refl
  where
    go : (t : Bool) → nat_eq c 45 ≡ t → bytes_eq (c ∷ cs) (45 ∷ 45 ∷ []) ≡ false
    go true t = let no : false ≡ true = rw t at e in cc
    go false t = rw t refl

no_long : (v : Text) → is_plain v ≡ true → long_of v ≡ None
no_long [] e = refl
no_long (c ∷ cs) e = go (nat_eq c 45) refl
  where
    go : (t : Bool) → nat_eq c 45 ≡ t → long_of (c ∷ cs) ≡ None
    go true t = let no : false ≡ true = rw t at e in cc
    go false t = rw t refl

no_short : (v : Text) → is_plain v ≡ true → short_of v ≡ None
no_short [] e = refl
no_short (c ∷ cs) e = go (nat_eq c 45) refl
  where
    go : (t : Bool) → nat_eq c 45 ≡ t → short_of (c ∷ cs) ≡ None
    go true t = let no : false ≡ true = rw t at e in cc
    go false t = rw t refl

-- a plain word is a value of what waits, or goes to a positional
plain_met : (waiting : Waiting) (position : ℕ) (v : Text) (h : Held) → is_plain v ≡ true
    → word_met rules [] false waiting position v h ≡ plain_word rules waiting v h
plain_met idle position v h e = rw (no_dashes v e, no_long v e, no_short v e) refl
plain_met positional position v h e = rw (no_dashes v e, no_long v e, no_short v e) refl
plain_met (option id) position v h e = rw (no_dashes v e, no_long v e, no_short v e) refl

-- ---- an option

abbrev pub dashed : Setting → Text
dashed s = 45 ∷ 45 ∷ name_of s

-- after the name of an option its value is waited for
abbrev waits_for : Setting → List Row → ℕ → Walk
waits_for s rows position = record {
  held = record { rows = rows; pending = Some (name_of s, []); skip = 0 };
  waiting = option (name_of s);
  position = position;
  is_trailing = false;
  stopped = None;
}

named : (s : Setting) (rows : List Row) (p : Option (Part × Text)) (waiting : Waiting) (position : ℕ) → IsFree waiting
    → walked rules [] (state rows p waiting position) (dashed s) ≡ waits_for s (with_last rows p) position
unfolding clap_on_literals
named fuel rows p idle position free = ap (λ rs. waits_for fuel rs position) (settles rows p)
named lanes rows p idle position free = ap (λ rs. waits_for lanes rs position) (settles rows p)
named slice rows p idle position free = ap (λ rs. waits_for slice rs position) (settles rows p)
named fuel rows p positional position free = ap (λ rs. waits_for fuel rs position) (settles rows p)
named lanes rows p positional position free = ap (λ rs. waits_for lanes rs position) (settles rows p)
named slice rows p positional position free = ap (λ rs. waits_for slice rs position) (settles rows p)
named fuel rows p (option id) position free = absurd free
named lanes rows p (option id) position free = absurd free
named slice rows p (option id) position free = absurd free

valued : (s : Setting) (rows : List Row) (position : ℕ) (v : Text) → is_plain v ≡ true
    → walked rules [] (waits_for s rows position) v ≡ state rows (Some (setting s, v)) idle position
unfolding clap_on_literals
valued fuel rows position v e = rw (plain_met (option (name_of fuel)) position v _ e) refl
valued lanes rows position v e = rw (plain_met (option (name_of lanes)) position v _ e) refl
valued slice rows position v e = rw (plain_met (option (name_of slice)) position v _ e) refl

-- ---- a word

to_command : (rows : List Row) (p : Option (Part × Text)) (waiting : Waiting) (v : Text) → IsFree waiting → is_plain v ≡ true
    → walked rules [] (state rows p waiting 1) v ≡ state (with_last rows p) (Some (command, v)) idle 2
unfolding clap_on_literals
to_command rows p (option id) v free e = absurd free
to_command rows None idle v free e = rw (plain_met idle 1 v _ e) refl
to_command rows (Some (setting fuel, w)) idle v free e = rw (plain_met idle 1 v _ e) refl
to_command rows (Some (setting lanes, w)) idle v free e = rw (plain_met idle 1 v _ e) refl
to_command rows (Some (setting slice, w)) idle v free e = rw (plain_met idle 1 v _ e) refl
to_command rows (Some (command, w)) idle v free e = rw (plain_met idle 1 v _ e) refl
to_command rows (Some (words, w)) idle v free e = rw (plain_met idle 1 v _ e) refl
to_command rows None positional v free e = rw (plain_met positional 1 v _ e) refl
to_command rows (Some (setting fuel, w)) positional v free e = rw (plain_met positional 1 v _ e) refl
to_command rows (Some (setting lanes, w)) positional v free e = rw (plain_met positional 1 v _ e) refl
to_command rows (Some (setting slice, w)) positional v free e = rw (plain_met positional 1 v _ e) refl
to_command rows (Some (command, w)) positional v free e = rw (plain_met positional 1 v _ e) refl
to_command rows (Some (words, w)) positional v free e = rw (plain_met positional 1 v _ e) refl

to_words : (rows : List Row) (p : Option (Part × Text)) (waiting : Waiting) (v : Text) → IsFree waiting → is_plain v ≡ true
    → walked rules [] (state rows p waiting 2) v ≡ state (with_last rows p) (Some (words, v)) positional 2
unfolding clap_on_literals
to_words rows p (option id) v free e = absurd free
to_words rows None idle v free e = rw (plain_met idle 2 v _ e) refl
to_words rows (Some (setting fuel, w)) idle v free e = rw (plain_met idle 2 v _ e) refl
to_words rows (Some (setting lanes, w)) idle v free e = rw (plain_met idle 2 v _ e) refl
to_words rows (Some (setting slice, w)) idle v free e = rw (plain_met idle 2 v _ e) refl
to_words rows (Some (command, w)) idle v free e = rw (plain_met idle 2 v _ e) refl
to_words rows (Some (words, w)) idle v free e = rw (plain_met idle 2 v _ e) refl
to_words rows None positional v free e = rw (plain_met positional 2 v _ e) refl
to_words rows (Some (setting fuel, w)) positional v free e = rw (plain_met positional 2 v _ e) refl
to_words rows (Some (setting lanes, w)) positional v free e = rw (plain_met positional 2 v _ e) refl
to_words rows (Some (setting slice, w)) positional v free e = rw (plain_met positional 2 v _ e) refl
to_words rows (Some (command, w)) positional v free e = rw (plain_met positional 2 v _ e) refl
to_words rows (Some (words, w)) positional v free e = rw (plain_met positional 2 v _ e) refl

-- ---- the faults of these turns

or_none : (kinds : Kinds) → or_else kinds [] ≡ kinds
or_none [] = refl
or_none (k ∷ ks) = refl

named_fault : (s : Setting) (rows : List Row) (p : Option (Part × Text)) (waiting : Waiting) (position : ℕ) → IsFree waiting
    → turn_fault shape [] (state rows p waiting position) (dashed s) ≡ last_fault rows p
unfolding clap_on_literals
named_fault s rows p (option id) position free = absurd free
named_fault fuel rows p idle position free = or_none _ ∙ settle_faults rows p
named_fault lanes rows p idle position free = or_none _ ∙ settle_faults rows p
named_fault slice rows p idle position free = or_none _ ∙ settle_faults rows p
named_fault fuel rows p positional position free = or_none _ ∙ settle_faults rows p
named_fault lanes rows p positional position free = or_none _ ∙ settle_faults rows p
named_fault slice rows p positional position free = or_none _ ∙ settle_faults rows p

-- a plain word has no fault of its own
plain_fault : (waiting : Waiting) (v : Text) (h : Held) → is_plain v ≡ true → word_fault shape [] false waiting v h ≡ []
plain_fault idle v h e = rw (no_dashes v e, no_long v e, no_short v e) refl
plain_fault positional v h e = rw (no_dashes v e, no_long v e, no_short v e) refl
plain_fault (option id) v h e = rw (no_dashes v e, no_long v e, no_short v e) refl

valued_fault : (s : Setting) (rows : List Row) (position : ℕ) (v : Text) → is_plain v ≡ true
    → turn_fault shape [] (waits_for s rows position) v ≡ []
unfolding clap_on_literals
valued_fault fuel rows position v e = rw (plain_fault (option (name_of fuel)) v _ e, plain_met (option (name_of fuel)) position v _ e) refl
valued_fault lanes rows position v e = rw (plain_fault (option (name_of lanes)) v _ e, plain_met (option (name_of lanes)) position v _ e) refl
valued_fault slice rows position v e = rw (plain_fault (option (name_of slice)) v _ e, plain_met (option (name_of slice)) position v _ e) refl

command_fault : (rows : List Row) (p : Option (Part × Text)) (waiting : Waiting) (v : Text) → IsFree waiting → is_plain v ≡ true
    → turn_fault shape [] (state rows p waiting 1) v ≡ last_fault rows p
unfolding clap_on_literals
command_fault rows p (option id) v free e = absurd free
command_fault rows None idle v free e = rw (plain_fault idle v _ e, plain_met idle 1 v _ e) refl
command_fault rows (Some (setting fuel, w)) idle v free e = rw (plain_fault idle v _ e, plain_met idle 1 v _ e) refl
command_fault rows (Some (setting lanes, w)) idle v free e = rw (plain_fault idle v _ e, plain_met idle 1 v _ e) refl
command_fault rows (Some (setting slice, w)) idle v free e = rw (plain_fault idle v _ e, plain_met idle 1 v _ e) refl
command_fault rows (Some (command, w)) idle v free e = rw (plain_fault idle v _ e, plain_met idle 1 v _ e) refl
command_fault rows (Some (words, w)) idle v free e = rw (plain_fault idle v _ e, plain_met idle 1 v _ e) refl
command_fault rows None positional v free e = rw (plain_fault positional v _ e, plain_met positional 1 v _ e) refl
command_fault rows (Some (setting fuel, w)) positional v free e = rw (plain_fault positional v _ e, plain_met positional 1 v _ e) refl
command_fault rows (Some (setting lanes, w)) positional v free e = rw (plain_fault positional v _ e, plain_met positional 1 v _ e) refl
command_fault rows (Some (setting slice, w)) positional v free e = rw (plain_fault positional v _ e, plain_met positional 1 v _ e) refl
command_fault rows (Some (command, w)) positional v free e = rw (plain_fault positional v _ e, plain_met positional 1 v _ e) refl
command_fault rows (Some (words, w)) positional v free e = rw (plain_fault positional v _ e, plain_met positional 1 v _ e) refl

words_fault : (rows : List Row) (p : Option (Part × Text)) (waiting : Waiting) (v : Text) → IsFree waiting → is_plain v ≡ true
    → turn_fault shape [] (state rows p waiting 2) v ≡ last_fault rows p
unfolding clap_on_literals
words_fault rows p (option id) v free e = absurd free
words_fault rows None idle v free e = rw (plain_fault idle v _ e, plain_met idle 2 v _ e) refl
words_fault rows (Some (setting fuel, w)) idle v free e = rw (plain_fault idle v _ e, plain_met idle 2 v _ e) refl
words_fault rows (Some (setting lanes, w)) idle v free e = rw (plain_fault idle v _ e, plain_met idle 2 v _ e) refl
words_fault rows (Some (setting slice, w)) idle v free e = rw (plain_fault idle v _ e, plain_met idle 2 v _ e) refl
words_fault rows (Some (command, w)) idle v free e = rw (plain_fault idle v _ e, plain_met idle 2 v _ e) refl
words_fault rows (Some (words, w)) idle v free e = rw (plain_fault idle v _ e, plain_met idle 2 v _ e) refl
words_fault rows None positional v free e = rw (plain_fault positional v _ e, plain_met positional 2 v _ e) refl
words_fault rows (Some (setting fuel, w)) positional v free e = rw (plain_fault positional v _ e, plain_met positional 2 v _ e) refl
words_fault rows (Some (setting lanes, w)) positional v free e = rw (plain_fault positional v _ e, plain_met positional 2 v _ e) refl
words_fault rows (Some (setting slice, w)) positional v free e = rw (plain_fault positional v _ e, plain_met positional 2 v _ e) refl
words_fault rows (Some (command, w)) positional v free e = rw (plain_fault positional v _ e, plain_met positional 2 v _ e) refl
words_fault rows (Some (words, w)) positional v free e = rw (plain_fault positional v _ e, plain_met positional 2 v _ e) refl

-- ---- parts in a row

abbrev pub Parts : Type 0
Parts = List (Part × Text)

abbrev pub part_words : Parts → List Text
part_words [] = []
part_words ((setting s, v) ∷ ps) = dashed s ∷ v ∷ part_words ps
part_words ((command, v) ∷ ps) = v ∷ part_words ps
part_words ((words, v) ∷ ps) = v ∷ part_words ps

abbrev pub uses : List Row → Parts → List Row
uses rows [] = rows
uses rows (g ∷ gs) = uses (used (rule_at g.0) (g.1 ∷ []) rows) gs

-- no use has a fault
abbrev pub IsClean : List Row → Parts → Type 0
IsClean rows [] = ⊤
IsClean rows (g ∷ gs) = (use_fault false (rule_at g.0) (g.1 ∷ []) rows ≡ []) × IsClean (used (rule_at g.0) (g.1 ∷ []) rows) gs

-- the word for the command is the first that is no option's, if it isn't there yet
abbrev pub IsInOrder : Bool → Parts → Type 0
IsInOrder here [] = ⊤
IsInOrder here ((setting s, v) ∷ ps) = IsInOrder here ps
IsInOrder false ((command, v) ∷ ps) = IsInOrder true ps
IsInOrder true ((command, v) ∷ ps) = ⊥
IsInOrder false ((words, v) ∷ ps) = ⊥
IsInOrder true ((words, v) ∷ ps) = IsInOrder true ps

abbrev place : Bool → ℕ
place false = 1
place true = 2

-- a walk that ended with these rows
record Ends (total : List Row) (w : Walk) : Type 0 where
  rows : List Row
  last : Option (Part × Text)
  waiting : Waiting
  position : ℕ
  is : w ≡ state rows last waiting position
  sum : with_last rows last ≡ total
  fine : last_fault rows last ≡ []

turn : (w next : Walk) (word : Text) (rest : List Text) → turn_fault shape [] w word ≡ [] → walked rules [] w word ≡ next
    → walk_fault shape [] next rest ≡ [] → walk_fault shape [] w (word ∷ rest) ≡ []
unfolding walk_fault
turn w next word rest none is after = ap₂ or_else none (ap (λ x. walk_fault shape [] x rest) is) ∙ after

turned : (total : List Row) (w next : Walk) (ws : List Text) → w ≡ next → Ends total (fold (walked rules []) next ws) → Ends total (fold (walked rules []) w ws)
turned total w next ws e h = rw e h

no_words : (w : Walk) → walk_fault shape [] w [] ≡ []
unfolding walk_fault
no_words w = refl

walks : (ps : Parts) (here : Bool) (rows : List Row) (p : Option (Part × Text)) (waiting : Waiting) → IsFree waiting
    → last_fault rows p ≡ [] → IsInOrder here ps → list_all (λ g. is_plain g.1) ps ≡ true → IsClean (with_last rows p) ps
    → (walk_fault shape [] (state rows p waiting (place here)) (part_words ps) ≡ [])
    × Ends (uses (with_last rows p) ps) (fold (walked rules []) (state rows p waiting (place here)) (part_words ps))
walks [] here rows p waiting free none order plain clean = (
  no_words _,
  record {
    rows = rows;
    last = p;
    waiting = waiting;
    position = place here;
    is = refl;
    sum = refl;
    fine = none;
  },
)
walks ((setting s, v) ∷ ps) here rows p waiting free none order plain clean =
    let is_plains = both_true _ _ plain in
    let rest = walks ps here (with_last rows p) (Some (setting s, v)) idle tt clean.0 order is_plains.1 clean.1 in
    let name_is = named s rows p waiting (place here) free in
    let value_is = valued s (with_last rows p) (place here) v is_plains.0 in (
      turn _ _ _ _ (named_fault s rows p waiting (place here) free ∙ none) name_is
          (turn _ _ _ _ (valued_fault s (with_last rows p) (place here) v is_plains.0) value_is rest.0),
      turned _ _ _ (part_words ps) (ap (λ x. walked rules [] x v) name_is ∙ value_is) rest.1,
    )
walks ((command, v) ∷ ps) true rows p waiting free none order plain clean = absurd order
walks ((command, v) ∷ ps) false rows p waiting free none order plain clean =
    let is_plains = both_true _ _ plain in
    let rest = walks ps true (with_last rows p) (Some (command, v)) idle tt clean.0 order is_plains.1 clean.1 in
    let is = to_command rows p waiting v free is_plains.0 in
    (turn _ _ _ _ (command_fault rows p waiting v free is_plains.0 ∙ none) is rest.0, turned _ _ _ (part_words ps) is rest.1)
walks ((words, v) ∷ ps) false rows p waiting free none order plain clean = absurd order
walks ((words, v) ∷ ps) true rows p waiting free none order plain clean =
    let is_plains = both_true _ _ plain in
    let rest = walks ps true (with_last rows p) (Some (words, v)) positional tt clean.0 order is_plains.1 clean.1 in
    let is = to_words rows p waiting v free is_plains.0 in
    (turn _ _ _ _ (words_fault rows p waiting v free is_plains.0 ∙ none) is rest.0, turned _ _ _ (part_words ps) is rest.1)

-- ---- after the walk

abbrev NoDefaults : List Rule → Type 0
NoDefaults [] = ⊤
NoDefaults (a ∷ rest) = (a.defaults ≡ []) × NoDefaults rest

no_default : (rows : List Row) (a : Rule) → a.defaults ≡ [] → (default_fault rows a ≡ []) × (with_default rows a ≡ rows)
no_default rows a e = go (has_row a.id rows) refl
  where
    go : (t : Bool) → has_row a.id rows ≡ t → (default_fault rows a ≡ []) × (with_default rows a ≡ rows)
    go true t = (rw t refl, rw t refl)
    go false t = (rw (t, e) refl, rw (t, e) refl)

no_defaults : (rs : List Rule) (rows : List Row) → NoDefaults rs → (defaults_fault rows rs ≡ []) × (fold with_default rows rs ≡ rows)
unfolding defaults_fault
no_defaults [] rows h = (refl, refl)
no_defaults (a ∷ rs) rows h =
    let one = no_default rows a h.0 in
    let rest = no_defaults rs rows h.1 in
    (ap₂ or_else one.0 (ap (λ x. defaults_fault x rs) one.1) ∙ rest.0, ap (λ x. fold with_default x rs) one.1 ∙ rest.1)

ours : NoDefaults rules
ours = (refl, (refl, (refl, (refl, (refl, (refl, tt))))))

-- what comes after the walk's own faults
abbrev ending : Walk → Kinds → Kinds
ending w kinds = or_else kinds (or_else (entered_fault (built command_line) w.stopped) (or_else (settle_fault rules false w.held)
    (or_else (defaults_fault (settled rules w.held).rows rules)
    (check_fault shape (finished rules w.held) (is_some (entered (built command_line) w.stopped))))))

abbrev closing : Kinds → List Row → Kinds
closing kinds rows = or_else kinds (or_else (defaults_fault rows rules) (check_fault shape (fold with_default rows rules) false))

fault_is : (ws : List Text) → fault_of command_line ws
    ≡ ending (walk rules [] nothing_held ws) (walk_fault shape [] (walk_from nothing_held) ws)
fault_is ws = refl

required_there : (rows : List Row) → is_given (codes "command") rows ≡ true → check_fault shape rows false ≡ []
required_there rows e = rw e refl

closes : (rows : List Row) → is_given (codes "command") rows ≡ true → closing [] rows ≡ []
closes rows e =
    let none = no_defaults rules rows ours in
    ap₂ or_else none.0 (ap (λ x. check_fault shape x false) none.1) ∙ required_there rows e

pub parts_taken : (ps : Parts) → IsInOrder false ps → list_all (λ g. is_plain g.1) ps ≡ true → IsClean [] ps
    → is_given (codes "command") (uses [] ps) ≡ true
    → (fault_of command_line (part_words ps) ≡ []) × (matches_of command_line (part_words ps) ≡ uses [] ps)
parts_taken ps order plain clean there =
    let all = walks ps false [] None idle tt refl order plain clean in
    let end = all.1 in
    let settled_is = settles end.rows end.last ∙ end.sum in (
      fault_is (part_words ps) ∙ ap₂ ending end.is all.0
          ∙ ap₂ closing (settle_faults end.rows end.last ∙ end.fine) settled_is ∙ closes (uses [] ps) there,
      ap (λ (w : Walk). finished rules w.held) end.is ∙ ap (λ rs. fold with_default rs rules) settled_is ∙ (no_defaults rules (uses [] ps) ours).1,
    )
