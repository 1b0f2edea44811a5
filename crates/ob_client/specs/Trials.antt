-- The trial: request lines for the vending machine of the language's article (Coblenz et al., TOPLAS 42(3), 2020), of any length. Which
-- request comes next is drawn from a row of numbers; the trial is this project's own.
use Rattle.std.specs.Prelude.{ℕ, zero, suc, pos, ◌+◌, ◌*◌, ◌/◌, ◌%◌, nat_eq, Bool, true, false, if◌then◌else◌, List, [], ◌∷◌, ◌++◌, Option, Some, None, slice_get, drop, codes, decimal}
use Rattle.ob_wire.specs.declared.request.Arg.{Arg}
use Rattle.ob_wire.specs.declared.request.Arg.TheVariants as arg
use Rattle.ob_wire.specs.declared.request.Request.{Request}
use Rattle.ob_wire.specs.declared.request.Op.TheVariants.{New, Call}
use Rattle.ob_client.specs.RequestLines.{request_line}

-- The one client of a trial: what it holds of what it got, coins and candies by the numbers of the requests that gave them, the oldest
-- first; and whether the machine is full.
pub record TrialClient : Type 0 where
  pub coins : List ℕ
  pub candies : List ℕ
  pub is_full : Bool

-- at the beginning the machine is empty
abbrev pub nothing_held : TrialClient
nothing_held = record { coins = []; candies = []; is_full = false }

-- what is asked of the machine: a coin; a candy; that it takes this candy; that it sells its candy for this coin
pub data Wish : Type 0 where
  mint : Wish
  bake : Wish
  restock : ℕ → Wish
  buy : ℕ → Wish

-- the oldest of these numbers, if there is one
abbrev pub oldest : List ℕ → Option ℕ
oldest numbers = slice_get numbers 0

-- the machine takes a candy, if it is empty and there is one; else one is baked
abbrev pub restock_or_bake : Bool → Option ℕ → Wish
restock_or_bake false (Some candy) = restock candy
restock_or_bake _ _ = bake

-- the machine sells for a coin, if it is full and there is one; else one is minted
abbrev pub buy_or_mint : Bool → Option ℕ → Wish
buy_or_mint true (Some coin) = buy coin
buy_or_mint _ _ = mint

-- what is asked where a number from 0 to 3 was drawn
abbrev pub wish_of : ℕ → TrialClient → Wish
wish_of drawn held =
    if nat_eq drawn 0 then mint
    else (if nat_eq drawn 1 then bake
    else (if nat_eq drawn 2 then restock_or_bake held.is_full (oldest held.candies)
    else buy_or_mint held.is_full (oldest held.coins)))

-- what is held after the request of this number
abbrev pub holding_after : ℕ → Wish → TrialClient → TrialClient
holding_after number mint held = record held { coins = held.coins ++ number ∷ [] }
holding_after number bake held = record held { candies = held.candies ++ number ∷ [] }
holding_after number (restock candy) held = record held { candies = drop 1 held.candies; is_full = true }
holding_after number (buy coin) held =
    record { coins = drop 1 held.coins; candies = held.candies ++ number ∷ []; is_full = false }

-- the name of the handle on the coin that a request gave
abbrev pub coin_name : ℕ → List ℕ
coin_name number = codes "c" ++ decimal number

-- the name of the handle on the candy that a request gave
abbrev pub candy_name : ℕ → List ℕ
candy_name number = codes "d" ++ decimal number

-- the argument that is handed over, if there is one
abbrev pub handed : Option (List ℕ) → List Arg
handed None = []
handed (Some name) = arg.Handle name ∷ []

-- a request of this number, by the one client, of the one machine
abbrev pub request_for : ℕ → List ℕ → Option (List ℕ) → Option (List ℕ) → Request
request_for number tx given into = record { id = pos number; who = codes "alice"; op = Call (codes "m") tx (handed given) into }

-- the request of this number for what is asked
abbrev pub request_of : ℕ → Wish → Request
request_of number mint = request_for number (codes "mint") None (Some (coin_name number))
request_of number bake = request_for number (codes "bake") None (Some (candy_name number))
request_of number (restock candy) = request_for number (codes "restock") (Some (candy_name candy)) None
request_of number (buy coin) = request_for number (codes "buy") (Some (coin_name coin)) (Some (candy_name number))

-- the first request, which makes the machine
abbrev pub first_request : Request
first_request = record { id = pos 0; who = codes "alice"; op = New (codes "Machine") [] (Some (codes "m")) }

-- the number that is drawn after another: a row of all numbers below 256
abbrev pub drawn_after : ℕ → ℕ
drawn_after drawn = (5 * drawn + 3) % 256

-- so many requests from this number on, where that was drawn last and this is held
abbrev pub requests_from : ℕ → ℕ → ℕ → TrialClient → List Request
requests_from zero number drawn held = []
requests_from (suc left) number drawn held =
    request_of number (wish_of (drawn_after drawn / 64) held)
    ∷ requests_from left (suc number) (drawn_after drawn) (holding_after number (wish_of (drawn_after drawn / 64) held) held)

-- the requests of the trial of a length
abbrev pub trial_requests : ℕ → List Request
trial_requests length = first_request ∷ requests_from length 1 (length % 256) nothing_held

-- the lines of requests, each with its newline
abbrev pub lines_of_requests : List Request → List ℕ
lines_of_requests [] = []
lines_of_requests (r ∷ requests) = request_line r ++ (codes "\n" ++ lines_of_requests requests)

-- the lines of the trial of a length
abbrev pub trial_lines : ℕ → List ℕ
trial_lines length = lines_of_requests (trial_requests length)
