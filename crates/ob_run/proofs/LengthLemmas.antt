-- How long the lines of a trial are.
use Rattle.std.proofs.Common.{ℕ, zero, suc, ◌+◌, ◌*◌, ◌^◌, ◌-◌, ◌/◌, ◌%◌, ◌≤◌, ◌<◌, nat_lt, Bool, true, false, cond, List, [], ◌∷◌, ◌++◌, length, length-append, drop, arith}
use Rattle.std.specs.Prelude.{decimal, ⊤, nat_eq, if◌then◌else◌}
use Rattle.std.specs.Char.{digit_char}
use Rattle.std.proofs.lemmas.Fmt.{length-decimal-le}
use Rattle.json.specs.Print.{escape_letter, escape_byte, escape}
use Rattle.serde_json.proofs.OnLiterals.{serde_json_on_literals}
use Rattle.ob_client.specs.RequestLines.{request_line}
use Rattle.ob_client.specs.Trials.{TrialClient, Wish, mint, bake, restock, buy, nothing_held, restock_or_bake, buy_or_mint, wish_of, oldest, holding_after, request_of, first_request, drawn_after, requests_from, lines_of_requests, trial_lines}

escaped_short : (l m n x : ℕ) (a b : Bool) → length (cond a (92 ∷ l ∷ []) (cond b (92 ∷ 117 ∷ 48 ∷ 48 ∷ m ∷ n ∷ []) (x ∷ []))) ≤ 6
escaped_short l m n x true b = omega arith
escaped_short l m n x false true = omega arith
escaped_short l m n x false false = omega arith

short_byte : (x : ℕ) → length (escape_byte x) ≤ 6
unfolding escape_byte
short_byte x = escaped_short (escape_letter x) (digit_char (x / 16)) (digit_char (x % 16)) x (nat_lt 0 (escape_letter x)) (nat_lt x 32)

short_escape : (s : List ℕ) → length (escape s) ≤ 6 * length s
short_escape [] = omega arith
short_escape (x ∷ s) = omega (arith, short_byte x, short_escape s, length-append (escape_byte x) (escape s))

-- a number of 32 bits has ten digits at most
abbrev pub IsShort : ℕ → Type 0
IsShort n = n < 2 ^ 32

short_number : (n : ℕ) → IsShort n → length (decimal n) ≤ 10
short_number n h = length-decimal-le 10 n (omega arith) (omega (arith, h)) (omega (arith, h))

short_name : (n : ℕ) → IsShort n → length (escape (decimal n)) ≤ 60
short_name n h = omega (arith, short_escape (decimal n), short_number n h)

-- ---- what is asked, and what is held

abbrev pub IsShortWish : Wish → Type 0
IsShortWish mint = ⊤
IsShortWish bake = ⊤
IsShortWish (restock candy) = IsShort candy
IsShortWish (buy coin) = IsShort coin

abbrev pub AreShort : List ℕ → Type 0
AreShort [] = ⊤
AreShort (n ∷ ns) = IsShort n × AreShort ns

pub record IsShortClient (held : TrialClient) : Type 0 where
  pub coins : AreShort held.coins
  pub candies : AreShort held.candies

one_more : (ns : List ℕ) (n : ℕ) → AreShort ns → IsShort n → AreShort (ns ++ n ∷ [])
one_more [] n all is = (is, tt)
one_more (m ∷ ns) n all is = (all.0, one_more ns n all.1 is)

one_less : (ns : List ℕ) → AreShort ns → AreShort (drop 1 ns)
one_less [] all = tt
one_less (n ∷ ns) all = all.1

restock_short : (full : Bool) (ns : List ℕ) → AreShort ns → IsShortWish (restock_or_bake full (oldest ns))
restock_short false [] all = tt
restock_short false (n ∷ ns) all = all.0
restock_short true [] all = tt
restock_short true (n ∷ ns) all = tt

buy_short : (full : Bool) (ns : List ℕ) → AreShort ns → IsShortWish (buy_or_mint full (oldest ns))
buy_short true [] all = tt
buy_short true (n ∷ ns) all = all.0
buy_short false [] all = tt
buy_short false (n ∷ ns) all = tt

wish_short : (drawn : ℕ) (held : TrialClient) → IsShortClient held → IsShortWish (wish_of drawn held)
wish_short drawn held short = by (nat_eq drawn 0) (nat_eq drawn 1) (nat_eq drawn 2)
  where
    by : (a b c : Bool) → IsShortWish (if a then mint else (if b then bake else (if c then restock_or_bake held.is_full (oldest held.candies) else buy_or_mint held.is_full (oldest held.coins))))
    by true b c = tt
    by false true c = tt
    by false false true = restock_short held.is_full held.candies short.candies
    by false false false = buy_short held.is_full held.coins short.coins

held_short : (number : ℕ) (wish : Wish) (held : TrialClient) → IsShort number → IsShortClient held → IsShortClient (holding_after number wish held)
held_short number mint held is short = record { coins = one_more held.coins number short.coins is; candies = short.candies }
held_short number bake held is short = record { coins = short.coins; candies = one_more held.candies number short.candies is }
held_short number (restock candy) held is short = record { coins = short.coins; candies = one_less held.candies short.candies }
held_short number (buy coin) held is short = record { coins = one_less held.coins short.coins; candies = one_more held.candies number short.candies is }

-- ---- lines

line_short : (n : ℕ) (wish : Wish) → IsShort n → IsShortWish wish → length (request_line (request_of n wish)) ≤ 254
unfolding serde_json_on_literals
line_short n mint h w = grind (arith, length-append, short_number n h, short_name n h)
line_short n bake h w = grind (arith, length-append, short_number n h, short_name n h)
line_short n (restock candy) h w = grind (arith, length-append, short_number n h, short_name candy w)
line_short n (buy coin) h w = grind (arith, length-append, short_number n h, short_name n h, short_name coin w)

first_short : length (request_line first_request) ≤ 254
unfolding serde_json_on_literals
first_short = grind (arith, length-append, short_number 0 (omega arith))

rest_short : (left number drawn : ℕ) (held : TrialClient) → number + left ≤ 2 ^ 32 → IsShortClient held
    → length (lines_of_requests (requests_from left number drawn held)) ≤ 255 * left
rest_short zero number drawn held le short = omega arith
rest_short (suc left) number drawn held le short =
    let wish = wish_of (drawn_after drawn / 64) held in
    let is : IsShort number = omega (arith, le) in
    let rest = rest_short left (suc number) (drawn_after drawn) (holding_after number wish held) (omega (arith, le)) (held_short number wish held is short) in
    let line = line_short number wish is (wish_short (drawn_after drawn / 64) held short) in
    let more = lines_of_requests (requests_from left (suc number) (drawn_after drawn) (holding_after number wish held)) in
    omega (arith, rest, line, length-append (request_line (request_of number wish)) (10 ∷ more))

-- all of them are far fewer bytes than are taken of an input
pub trial_short : (n : ℕ) → n < 2 ^ 32 → length (trial_lines n) < 2 ^ 40
trial_short n lt =
    let rest = rest_short n 1 (n % 256) nothing_held (omega (arith, lt)) (record { coins = tt; candies = tt }) in
    omega (arith, lt, rest, first_short, length-append (request_line first_request) (10 ∷ lines_of_requests (requests_from n 1 (n % 256) nothing_held)))
