-- Plain words with options before and after them are taken, and ask for what they say.
use Rattle.std.proofs.Common.{◌≡◌, ◌∙◌, ◌≤◌, Bool, true, false, ◌&&◌, List, [], ◌∷◌, ◌++◌, Option, None, Some, refl, sym, ap, ap₂, codes, length, nat_eq, arith}
use Rattle.std.specs.Prelude.{slice_get, unwrap_or, option_map, Result, Ok, Err, IfOk, IsErrOf, MatchResult}
use Rattle.ob_words.specs.declared.asked.Asked.{Asked as CodeAsked}
use Rattle.ob_words.specs.declared.asked.WordsError.{WordsError}
use Rattle.ob_words.specs.declared.asked.WordsError.TheVariants.{Usage, Memory}
use Rattle.ob_words.specs.AskedView.{asked_view}
use Rattle.std.specs.List.{list_all}
use Rattle.std.specs.Str.{bytes_eq}
use Rattle.std.proofs.lemmas.Bool.{eqb-true, lt-ltb}
use Rattle.std.proofs.lemmas.List.{append-nil}
use Rattle.clap.specs.Faults.{fault_of}
use Rattle.clap.specs.Simple.{matches_of}
use Rattle.clap.specs.Walk.{Row, Text, all_of, first_of}
use Rattle.ob_base.proofs.OptionalLemmas.{both_true}
use Rattle.ob_words.specs.Asked.{Command, check, serve, serve_stored, audit, trial, Limits, Asked, asked_with, asked_of, command_of, limits_of}
use Rattle.ob_words.specs.CommandLine.{command_line}
use Rattle.ob_words.specs.Settings.{Setting, fuel, lanes, slice, name_of, setting_of}
use Rattle.ob_words.specs.Written.{Given, IsRow, IsWritten, is_in_range, is_plain, option_words, values_of}
use Rattle.ob_words.proofs.RowLemmas.{all_seen, first_seen, given, given_seen, some_of}
use Rattle.ob_words.proofs.WalkLemmas.{IsInOrder, Parts, command, part_words, parts_taken, setting, uses, words}
use Rattle.ob_words.proofs.PartLemmas.{HasParts, IsOnce, found, values_append, values_at}

-- ---- the words as parts

abbrev lifted : List Given → Parts
lifted [] = []
lifted (g ∷ gs) = (setting g.0, g.1) ∷ lifted gs

abbrev after_command : List Text → Parts
after_command [] = []
after_command (w ∷ ws) = (words, w) ∷ after_command ws

abbrev whole : List Given → Text → List Text → List Given → Parts
whole before w ws after = lifted before ++ (command, w) ∷ (after_command ws ++ lifted after)

words_append : (a b : Parts) → part_words (a ++ b) ≡ part_words a ++ part_words b
words_append [] b = refl
words_append ((setting s, v) ∷ a) b = ap (λ xs. (45 ∷ 45 ∷ name_of s) ∷ v ∷ xs) (words_append a b)
words_append ((command, v) ∷ a) b = ap (λ xs. v ∷ xs) (words_append a b)
words_append ((words, v) ∷ a) b = ap (λ xs. v ∷ xs) (words_append a b)

lifted_words : (gs : List Given) → part_words (lifted gs) ≡ option_words gs
lifted_words [] = refl
lifted_words (g ∷ gs) = ap (λ xs. (45 ∷ 45 ∷ name_of g.0) ∷ g.1 ∷ xs) (lifted_words gs)

after_words : (ws : List Text) → part_words (after_command ws) ≡ ws
after_words [] = refl
after_words (w ∷ ws) = ap (λ xs. w ∷ xs) (after_words ws)

whole_words : (before : List Given) (w : Text) (ws : List Text) (after : List Given)
    → part_words (whole before w ws after) ≡ option_words before ++ (w ∷ (ws ++ option_words after))
whole_words before w ws after =
    words_append (lifted before) _
    ∙ ap₂ (λ xs ys. xs ++ w ∷ ys) (lifted_words before) (words_append (after_command ws) (lifted after) ∙ ap₂ (λ xs ys. xs ++ ys) (after_words ws) (lifted_words after))

-- ---- their order

order_end : (here : Bool) (gs : List Given) → IsInOrder here (lifted gs)
order_end here [] = tt
order_end here (g ∷ gs) = order_end here gs

order_lifted : (here : Bool) (gs : List Given) (rest : Parts) → IsInOrder here rest → IsInOrder here (lifted gs ++ rest)
order_lifted here [] rest h = h
order_lifted here (g ∷ gs) rest h = order_lifted here gs rest h

order_after : (ws : List Text) (rest : Parts) → IsInOrder true rest → IsInOrder true (after_command ws ++ rest)
order_after [] rest h = h
order_after (w ∷ ws) rest h = order_after ws rest h

-- ---- plain words

all_split : {X : Type 0} (test : X → Bool) (a b : List X) → list_all test (a ++ b) ≡ true → (list_all test a ≡ true) × (list_all test b ≡ true)
all_split test [] b h = (refl, h)
all_split test (x ∷ a) b h =
    let parts = both_true (test x) (list_all test (a ++ b)) h in
    let rest = all_split test a b parts.1 in
    (rw (parts.0, rest.0) refl, rest.1)

all_join : {X : Type 0} (test : X → Bool) (a b : List X) → list_all test a ≡ true → list_all test b ≡ true → list_all test (a ++ b) ≡ true
all_join test [] b h k = k
all_join test (x ∷ a) b h k =
    let parts = both_true (test x) (list_all test a) h in
    rw (parts.0, all_join test a b parts.1 k) refl

number_plain : (g : Given) → is_in_range g ≡ true → is_plain g.1 ≡ true
number_plain (s, []) h = refl
number_plain (s, c ∷ cs) h = go (nat_eq c 45) refl
  where
    go : (t : Bool) → nat_eq c 45 ≡ t → is_plain (c ∷ cs) ≡ true
    go false t = rw t refl
    go true t =
        let same : c ≡ 45 = eqb-true _ _ t in
        let no : false ≡ true = rw (same, lt-ltb 0 (length (45 ∷ cs)) (omega arith)) at h in
        cc

numbers_plain : (gs : List Given) → list_all is_in_range gs ≡ true → list_all (λ g. is_plain g.1) (lifted gs) ≡ true
numbers_plain [] h = refl
numbers_plain (g ∷ gs) h =
    let parts = both_true (is_in_range g) (list_all is_in_range gs) h in
    rw (number_plain g parts.0, numbers_plain gs parts.1) refl

after_plain : (ws : List Text) → list_all is_plain ws ≡ true → list_all (λ g. is_plain g.1) (after_command ws) ≡ true
after_plain [] h = refl
after_plain (w ∷ ws) h =
    let parts = both_true (is_plain w) (list_all is_plain ws) h in
    rw (parts.0, after_plain ws parts.1) refl

-- ---- their values

of_append : (s : Setting) (a b : List Given) → values_of s (a ++ b) ≡ values_of s a ++ values_of s b
of_append s [] b = refl
of_append s (g ∷ gs) b = go (bytes_eq (name_of g.0) (name_of s)) refl (of_append s gs b)
  where
    go : (t : Bool) → bytes_eq (name_of g.0) (name_of s) ≡ t → values_of s (gs ++ b) ≡ values_of s gs ++ values_of s b
        → values_of s ((g ∷ gs) ++ b) ≡ values_of s (g ∷ gs) ++ values_of s b
    go true t e = rw t (ap (λ xs. g.1 ∷ xs) e)
    go false t e = rw t e

lifted_values : (s : Setting) (gs : List Given) → values_at (setting s) (lifted gs) ≡ values_of s gs
lifted_values s [] = refl
lifted_values s (g ∷ gs) = go (bytes_eq (name_of g.0) (name_of s)) refl (lifted_values s gs)
  where
    go : (t : Bool) → bytes_eq (name_of g.0) (name_of s) ≡ t → values_at (setting s) (lifted gs) ≡ values_of s gs
        → values_at (setting s) (lifted (g ∷ gs)) ≡ values_of s (g ∷ gs)
    go true t e = rw t (ap (λ xs. g.1 ∷ xs) e)
    go false t e = rw t e

lifted_command : (gs : List Given) → values_at command (lifted gs) ≡ []
lifted_command [] = refl
lifted_command ((fuel, v) ∷ gs) = lifted_command gs
lifted_command ((lanes, v) ∷ gs) = lifted_command gs
lifted_command ((slice, v) ∷ gs) = lifted_command gs

lifted_after : (gs : List Given) → values_at words (lifted gs) ≡ []
lifted_after [] = refl
lifted_after ((fuel, v) ∷ gs) = lifted_after gs
lifted_after ((lanes, v) ∷ gs) = lifted_after gs
lifted_after ((slice, v) ∷ gs) = lifted_after gs

setting_after : (s : Setting) (ws : List Text) → values_at (setting s) (after_command ws) ≡ []
setting_after s [] = refl
setting_after fuel (w ∷ ws) = setting_after fuel ws
setting_after lanes (w ∷ ws) = setting_after lanes ws
setting_after slice (w ∷ ws) = setting_after slice ws

command_after : (ws : List Text) → values_at command (after_command ws) ≡ []
command_after [] = refl
command_after (w ∷ ws) = command_after ws

words_after : (ws : List Text) → values_at words (after_command ws) ≡ ws
words_after [] = refl
words_after (w ∷ ws) = ap (λ xs. w ∷ xs) (words_after ws)

skip_command : (s : Setting) (w : Text) (rest : Parts) → values_at (setting s) ((command, w) ∷ rest) ≡ values_at (setting s) rest
skip_command fuel w rest = refl
skip_command lanes w rest = refl
skip_command slice w rest = refl

whole_setting : (before : List Given) (w : Text) (ws : List Text) (after : List Given) (s : Setting)
    → values_at (setting s) (whole before w ws after) ≡ values_of s (before ++ after)
whole_setting before w ws after s =
    values_append (setting s) (lifted before) _
    ∙ ap₂ (λ xs ys. xs ++ ys) (lifted_values s before)
    (skip_command s w _ ∙ values_append (setting s) (after_command ws) (lifted after) ∙ ap₂ (λ xs ys. xs ++ ys) (setting_after s ws) (lifted_values s after))
    ∙ sym (of_append s before after)

whole_command : (before : List Given) (w : Text) (ws : List Text) (after : List Given) → values_at command (whole before w ws after) ≡ w ∷ []
whole_command before w ws after =
    values_append command (lifted before) _
    ∙ ap₂ (λ xs ys. xs ++ w ∷ ys) (lifted_command before)
    (values_append command (after_command ws) (lifted after) ∙ ap₂ (λ xs ys. xs ++ ys) (command_after ws) (lifted_command after))

whole_after : (before : List Given) (w : Text) (ws : List Text) (after : List Given) → values_at words (whole before w ws after) ≡ ws
whole_after before w ws after =
    values_append words (lifted before) _
    ∙ ap₂ (λ xs ys. xs ++ ys) (lifted_after before)
    (values_append words (after_command ws) (lifted after) ∙ ap₂ (λ xs ys. xs ++ ys) (words_after ws) (lifted_after after) ∙ append-nil ws)

once_whole : (before : List Given) (w : Text) (ws : List Text) (after : List Given)
    → ((s : Setting) → length (values_of s (before ++ after)) ≤ 1) → IsOnce (whole before w ws after)
once_whole before w ws after once (setting s) single = rw (whole_setting before w ws after s) (once s)
once_whole before w ws after once command single = rw (whole_command before w ws after) (omega arith)
once_whole before w ws after once words single = absurd single

-- ---- the law

nothing : HasParts [] []
nothing part = refl

reads : (x : List Text) (rows : List Row) (f l s w : Option Text) (ws : Option (List Text))
    → fault_of command_line x ≡ [] → matches_of command_line x ≡ rows
    → first_of (codes "fuel") rows ≡ f → first_of (codes "lanes") rows ≡ l → first_of (codes "slice") rows ≡ s
    → first_of (codes "command") rows ≡ w → all_of (codes "words") rows ≡ ws → asked_of x ≡ asked_with (limits_of f l s) w ws
reads x rows f l s w ws none is fs ls ss cs wss = rw (none, is, fs, ls, ss, cs, wss) refl

-- A word for the command and words after it, none of which begins with a hyphen, with each option at most once before or
-- after them: they ask for what their values do.
plain_words : (before : List Given) (w : Text) (ws : List Text) (after : List Given) → list_all is_plain (w ∷ ws) ≡ true
    → ((s : Setting) → length (values_of s (before ++ after)) ≤ 1) → list_all is_in_range (before ++ after) ≡ true
    → asked_of (option_words before ++ (w ∷ (ws ++ option_words after)))
    ≡ asked_with (limits_of (slice_get (values_of fuel (before ++ after)) 0) (slice_get (values_of lanes (before ++ after)) 0)
    (slice_get (values_of slice (before ++ after)) 0)) (Some w) (some_of ws)
plain_words before w ws after plain once numbers =
    let ps = whole before w ws after in
    let sides = all_split is_in_range before after numbers in
    let plains = both_true (is_plain w) (list_all is_plain ws) plain in
    let middle = all_join (λ g. is_plain g.1) (after_command ws) (lifted after) (after_plain ws plains.1) (numbers_plain after sides.1) in
    let all_plain = all_join (λ g. is_plain g.1) (lifted before) ((command, w) ∷ (after_command ws ++ lifted after)) (numbers_plain before sides.0) (rw (plains.0, middle) refl) in
    let order = order_lifted false before _ (order_after ws _ (order_end true after)) in
    let has = found ps [] [] nothing (once_whole before w ws after once) in
    let rows = uses [] ps in
    let fuel_seen = first_seen (codes "fuel") rows _ (has.1 (setting fuel)) ∙ ap (λ vs. slice_get vs 0) (whole_setting before w ws after fuel) in
    let lanes_seen = first_seen (codes "lanes") rows _ (has.1 (setting lanes)) ∙ ap (λ vs. slice_get vs 0) (whole_setting before w ws after lanes) in
    let slice_seen = first_seen (codes "slice") rows _ (has.1 (setting slice)) ∙ ap (λ vs. slice_get vs 0) (whole_setting before w ws after slice) in
    let command_is = has.1 command ∙ ap given (whole_command before w ws after) in
    let command_seen = first_seen (codes "command") rows (w ∷ []) command_is in
    let words_seen = all_seen (codes "words") rows _ (has.1 words ∙ ap given (whole_after before w ws after)) in
    let taken = parts_taken ps order all_plain has.0 (given_seen (codes "command") rows w [] command_is) in
    ap asked_of (sym (whole_words before w ws after))
    ∙ reads (part_words ps) rows _ _ _ _ _ taken.0 taken.1 fuel_seen lanes_seen slice_seen command_seen words_seen

-- a row has a first word, which is no option, and its command is that of its words
record Split (row : List Text) (c : Command) : Type 0 where
  word : Text
  names : List Text
  is : row ≡ word ∷ names
  some : some_of names ≡ Some names
  command : command_of word names ≡ Some c

split : (row : List Text) (c : Command) → IsRow row c → Split row c
split row (check p) is = record { word = codes "check"; names = p ∷ []; is = is; some = refl; command = refl }
split row (serve p) is = record { word = codes "serve"; names = p ∷ []; is = is; some = refl; command = refl }
split row (serve_stored p store) is = record { word = codes "serve"; names = p ∷ store ∷ []; is = is; some = refl; command = refl }
split row (audit p store) is = record { word = codes "audit"; names = p ∷ store ∷ []; is = is; some = refl; command = refl }
split row (trial n) is = record { word = codes "trial"; names = is.0 ∷ []; is = is.1; some = refl; command = ap (option_map trial) is.2 }

limits_are : (f l s : Option Text) (limits : Limits) → setting_of fuel f ≡ Some limits.fuel → setting_of lanes l ≡ Some limits.lanes
    → setting_of slice s ≡ Some limits.slice → limits_of f l s ≡ Some limits
limits_are f l s limits fs ls ss = rw (fs, ls, ss) refl

asks : (limits : Option Limits) (w : Text) (ws : List Text) (a : Asked) → limits ≡ Some a.limits → some_of ws ≡ Some ws
    → command_of w ws ≡ Some a.command → asked_with limits (Some w) (some_of ws) ≡ Some a
asks limits w ws a ls some is = rw (ls, some, is) refl

pub written : (ws : List Text) (asked : Asked) → IsWritten ws asked → asked_of ws ≡ Some asked
written ws asked h =
    let parts = split h.row asked.command h.command in
    let gs = h.before ++ h.after in
    let limits = limits_are (slice_get (values_of fuel gs) 0) (slice_get (values_of lanes gs) 0) (slice_get (values_of slice gs) 0)
    asked.limits h.fuel_is h.lanes_is h.slice_is in
    ap asked_of (h.is ∙ ap (λ r. option_words h.before ++ (r ++ option_words h.after)) parts.is)
    ∙ plain_words h.before parts.word parts.names h.after (sym (ap (list_all is_plain) parts.is) ∙ h.plain) h.once h.in_range
    ∙ asks _ parts.word parts.names asked limits parts.some parts.command

pub when_written : (r : Result CodeAsked WordsError) (ws : List Text) → IfOk r (λ a. asked_of ws ≡ Some (asked_view a))
    → (IsErrOf r Usage → asked_of ws ≡ None) → (asked : Asked) → IsWritten ws asked
    → MatchResult r (λ a. asked_view a ≡ asked) (λ error. error ≡ Memory)
when_written (Ok a) ws ok usage asked h = ap (λ (o : Option Asked). unwrap_or o asked) (sym ok ∙ written ws asked h)
when_written (Err Memory) ws ok usage asked h = refl
when_written (Err Usage) ws ok usage asked h = let no : None ≡ Some asked = sym (usage refl) ∙ written ws asked h in cc
