-- Requests for stored objects: those of an instance are numbered by its accepted asks.
use Rattle.std.specs.Prelude.{ℕ, ◌+◌, List, [], ◌∷◌, ◌++◌, Bool, ◌==◌, not, find, filter}
use Rattle.std.specs.Prelude.{Option}
use Rattle.std.specs.Option.{option_map}

-- a request that is not answered: its number, and the key that was asked for
pub record Asked : Type 0 where
  pub number : ℕ
  pub key : List ℕ

-- how many asks of an instance were accepted, and those that are not answered, in their order
pub record Requests : Type 0 where
  pub count : ℕ
  pub unanswered : List Asked

abbrev pub no_requests : Requests
no_requests = record { count = 0; unanswered = [] }

abbrev pub is_numbered : ℕ → Asked → Bool
is_numbered number asked = asked.number == number

-- the key of a request that is not answered
abbrev pub key_in : Requests → ℕ → Option (List ℕ)
key_in requests number =
    option_map (λ asked. asked.key) (find (is_numbered number) requests.unanswered)

-- one ask more
abbrev pub with_ask : List ℕ → Requests → Requests
with_ask key requests = record {
  count = requests.count + 1;
  unanswered = requests.unanswered ++ record { number = requests.count; key = key } ∷ [];
}

-- a request is answered
abbrev pub without_request : ℕ → Requests → Requests
without_request number requests = record requests {
  unanswered = filter (λ asked. not (is_numbered number asked)) requests.unanswered;
}
