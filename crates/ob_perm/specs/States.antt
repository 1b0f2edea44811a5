-- Sets of the states in which an object may be (Coblenz et al., TOPLAS 42(3), 2020, "Permissions"; how a set is given
-- is this project's own).
use Rattle.std.specs.Prelude.{◌≡◌, ◌<◌, ℕ, zero, suc, Bool, true, false, not, ◌&&◌, ◌||◌, ◌==◌, nat_lt, nat_le}

-- A set of states, by number. The states of a contract or interface have the numbers 0 to 31.
abbrev pub States : Type 0
States = ℕ → Bool

-- the number of no state, which an object of a contract without states is in
abbrev pub stateless : ℕ
stateless = 32

-- the number of any state that an interface doesn't name
abbrev pub unnamed : ℕ
unnamed = 33

-- how many numbers there are
unfoldable pub states_max : ℕ
states_max = 34

-- Each state of the set has one of these numbers.
abbrev pub IsNumbered : States → Type 0
IsNumbered a = (i : ℕ) → a i ≡ true → i < states_max

-- whether a test holds of some number below a bound
abbrev pub any_below : ℕ → (ℕ → Bool) → Bool
any_below zero f = false
any_below (suc n) f = f n || any_below n f

-- whether a test holds of each number below a bound
abbrev pub all_below : ℕ → (ℕ → Bool) → Bool
all_below zero f = true
all_below (suc n) f = f n && all_below n f

-- the empty set
abbrev pub no_states : States
no_states = λ i. false

-- this state alone
abbrev pub only : ℕ → States
only s = λ i. i == s

-- what is in one of two sets
abbrev pub union : States → States → States
union a b = λ i. a i || b i

-- what is in both
abbrev pub intersection : States → States → States
intersection a b = λ i. a i && b i

-- what is in the first set and not in the second
abbrev pub difference : States → States → States
difference a b = λ i. a i && not (b i)

-- a set cut to one state
abbrev pub within : States → ℕ → States
within a s = λ i. a i && i == s

-- a set with one state taken out
abbrev pub without : States → ℕ → States
without a s = λ i. a i && not (i == s)

-- whether each state of the first set that has a number is in the second
abbrev pub subset : States → States → Bool
subset a b = all_below states_max (λ i. not (a i) || b i)

-- whether some state that has a number is in both
abbrev pub meets : States → States → Bool
meets a b = any_below states_max (λ i. a i && b i)

-- What `Owned` says of a contract of n states: all of them, or no state alone where it has none.
abbrev pub all_states : ℕ → States
all_states n = λ i. nat_lt i n || (n == 0 && i == stateless)

-- What `Owned` says of an interface that names n states: these and any other, and no state too where it names none.
abbrev pub interface_states : ℕ → States
interface_states n = λ i. all_states n i || i == unnamed

-- Every state, and none: where a field at the top of a contract is available.
abbrev pub anywhere : States
anywhere = λ i. nat_le i stateless

-- what the states of a set that have a number are called elsewhere
abbrev pub image : (ℕ → ℕ) → States → States
image f a = λ i. any_below states_max (λ s. a s && i == f s)

-- the states that are called elsewhere as one of a set
abbrev pub preimage : (ℕ → ℕ) → States → States
preimage f a = λ s. a (f s)
