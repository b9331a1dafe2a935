-- What a drill prints: its numbers, and how many of its acts had which outcome.
use Rattle.std.specs.Prelude.{ℕ, ◌+◌, ◌≤◌, List, [], ◌∷◌, ◌++◌, Bool, true, false, not, length}
use Rattle.std.specs.Prelude.{codes, decimal, if◌then◌else◌}
use Rattle.ibos_kinds.specs.declared.names.Verdict.TheVariants.{Missed}
use Rattle.ibos_kinds.specs.declared.outcome.Item.{Item}
use Rattle.ibos_kinds.specs.declared.outcome.Item.TheVariants.{VerdictIs}
use Rattle.ibos_kinds.specs.declared.outcome.Outcome.{Outcome}
use Rattle.ibos_make.specs.Drill.{drill_acts, drill_table}
use Rattle.ibos_model.specs.Journal.{Journal, is_heard, is_ok, is_sent}
use Rattle.ibos_model.specs.Runs.{run}
use Rattle.ibos_run.specs.declared.tally.Tally.{Tally}

-- the journal of a drill, for which the device wrote W
abbrev pub drill_journal : ℕ → ℕ → List (List ℕ) → Journal
drill_journal seed rounds W = run drill_table (drill_acts seed rounds) W

-- one more, where that is so
abbrev pub one_if : Bool → ℕ → ℕ
one_if is n = if is then n + 1 else n

-- how many entries have such an outcome
abbrev pub count_of : (Outcome → Bool) → Journal → ℕ
count_of is [] = 0
count_of is (e ∷ J) = one_if (is e.outcome) (count_of is J)

abbrev pub is_done : Outcome → Bool
is_done outcome = is_ok outcome.head

abbrev pub is_denied : Outcome → Bool
is_denied outcome = not (is_ok outcome.head)

abbrev pub misses : List Item → Bool
misses (VerdictIs Missed ∷ items) = true
misses items = false

-- the frame of the act was missed
abbrev pub is_missed : Outcome → Bool
is_missed outcome = misses outcome.items

-- how many acts there were, and how many of each outcome
abbrev pub tally_of : Journal → Tally
tally_of J = record {
  acts = length J;
  done = count_of is_done J;
  denied = count_of is_denied J;
  heard = count_of is_heard J;
  missed = count_of is_missed J;
  sent = count_of is_sent J;
}

-- each count is of some of the acts
pub record IsTally (tally : Tally) : Type 0 where
  pub done : tally.done ≤ tally.acts
  pub denied : tally.denied ≤ tally.acts
  pub heard : tally.heard ≤ tally.acts
  pub missed : tally.missed ≤ tally.acts
  pub sent : tally.sent ≤ tally.acts

-- after one more act
abbrev pub tally_after : Tally → Outcome → Tally
tally_after tally outcome = record {
  acts = tally.acts + 1;
  done = one_if (is_done outcome) tally.done;
  denied = one_if (is_denied outcome) tally.denied;
  heard = one_if (is_heard outcome) tally.heard;
  missed = one_if (is_missed outcome) tally.missed;
  sent = one_if (is_sent outcome) tally.sent;
}

-- a word, a number, and what stands behind them
abbrev pub numbered : List ℕ → ℕ → List ℕ → List ℕ
numbered word n rest = word ++ (decimal n ++ rest)

unfoldable pub numbers_text : ℕ → ℕ → List ℕ
numbers_text seed rounds = numbered (codes "drill ") seed (numbered (codes " ") rounds [])

unfoldable pub acts_text : Tally → List ℕ
acts_text tally =
    numbered (codes " acts ") tally.acts (numbered (codes " ok ") tally.done
    (numbered (codes " denied ") tally.denied []))

unfoldable pub frames_text : Tally → List ℕ
frames_text tally =
    numbered (codes " heard ") tally.heard (numbered (codes " missed ") tally.missed
    (numbered (codes " sent ") tally.sent (codes "\n")))

-- the line of a tally
unfoldable pub summary_line : ℕ → ℕ → Tally → List ℕ
summary_line seed rounds tally =
    numbers_text seed rounds ++ acts_text tally ++ frames_text tally

-- the text of a drill
unfoldable pub drill_text : ℕ → ℕ → List (List ℕ) → List ℕ
drill_text seed rounds W = summary_line seed rounds (tally_of (drill_journal seed rounds W))
