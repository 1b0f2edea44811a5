-- What the parse of `clap` says of the words.
use Rattle.std.proofs.Common.{◌≡◌, Option, List, [], ◌∷◌, None, true, refl, inl, inr}
use Rattle.clap.specs.Walk.{Row, Text, rows_of}
use Rattle.clap.specs.Values.{kind_of}
use Rattle.clap.specs.Simple.{App, HasMatchesOf, is_simple}
use Rattle.clap.specs.Matches.{found_of}
use Rattle.clap.specs.Kinds.{Kinds, IsAmong, HasKind}
use Rattle.clap.specs.Faults.{fault_of, is_simple_and_free}
use Rattle.clap.specs.declared.error.Error.{Error}
use Rattle.clap.specs.declared.error.kind.ErrorKind.{ErrorKind}
use Rattle.clap.specs.declared.error.kind.ErrorKind.TheVariants.{OutOfMemory}
use Rattle.clap.specs.declared.parser.matches.ArgMatches.{ArgMatches}
use Rattle.clap.proofs.OnLiterals.{clap_on_literals}
use Rattle.std.specs.Prelude.{if◌then◌else◌}
use Rattle.ob_words.specs.CommandLine.{command_line, is_taken, values_in}
use Rattle.ob_words.specs.Asked.{asked_in, asked_of}

is_ours : is_simple_and_free command_line ≡ true
unfolding clap_on_literals
is_ours = refl

is_plain : is_simple command_line ≡ true
unfolding clap_on_literals
is_plain = refl

-- words that it took ask for what its matches ask for
pub words_taken : (a : App) (words : List Text) (m : ArgMatches) → a ≡ command_line
    → (is_simple_and_free a ≡ true → fault_of a words ≡ []) → HasMatchesOf a words m
    → asked_of words ≡ asked_in (rows_of (found_of m))
words_taken a words m is taken matches =
    let none : fault_of command_line words ≡ [] = (rw is at taken) is_ours in
    let rows = ((rw is at matches) is_plain).0 in
    rw (none, rows) refl

among_none : (k : ErrorKind) (kinds : Kinds) → IsAmong k kinds → (kinds ≡ [] → ⊥)
among_none k [] h = λ _. h
among_none k (x ∷ xs) h = λ e. cc

-- words that it refused for another cause than memory ask for nothing
pub words_refused : (a : App) (words : List Text) (e : Error) → a ≡ command_line
    → (is_simple_and_free a ≡ true → HasKind (fault_of a words) e) → (kind_of e ≡ OutOfMemory → ⊥)
    → asked_of words ≡ None
words_refused a words e is fails other = go (fault_of command_line words) refl ((rw is at fails) is_ours)
  where
    go : (kinds : Kinds) → fault_of command_line words ≡ kinds → HasKind kinds e → asked_of words ≡ None
    go kinds same (inl memory) = absurd (other memory)
    go [] same (inr among) = absurd among
    go (k ∷ ks) same (inr among) = rw same refl

-- the same of whatever is found in the values
pub taken_by : {X : Type 0} (find : List Row → Option X) (a : App) (words : List Text) (m : ArgMatches) → a ≡ command_line
    → (is_simple_and_free a ≡ true → fault_of a words ≡ []) → HasMatchesOf a words m
    → (if is_taken words then find (values_in words) else None) ≡ find (rows_of (found_of m))
taken_by find a words m is taken matches =
    let none : fault_of command_line words ≡ [] = (rw is at taken) is_ours in
    let rows = ((rw is at matches) is_plain).0 in
    rw (none, rows) refl

pub refused_by : {X : Type 0} (find : List Row → Option X) (a : App) (words : List Text) (e : Error) → a ≡ command_line
    → (is_simple_and_free a ≡ true → HasKind (fault_of a words) e) → (kind_of e ≡ OutOfMemory → ⊥)
    → (if is_taken words then find (values_in words) else None) ≡ None
refused_by {X} find a words e is fails other = go (fault_of command_line words) refl ((rw is at fails) is_ours)
  where
    go : (kinds : Kinds) → fault_of command_line words ≡ kinds → HasKind kinds e → (if is_taken words then find (values_in words) else None) ≡ None
    go kinds same (inl memory) = absurd (other memory)
    go [] same (inr among) = absurd among
    go (k ∷ ks) same (inr among) = rw same refl
