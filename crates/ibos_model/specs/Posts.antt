-- The posts of receive buffers, and the frames that bells gave an instance, each in order.
use Rattle.std.specs.Prelude.{ℕ, ◌+◌, List, [], ◌∷◌, ◌++◌, Bool, ◌&&◌, filter, if◌then◌else◌}
use Rattle.ibos_kinds.specs.declared.names.Handle.{Handle}
use Rattle.ibos_kinds.specs.declared.names.Instance.{Instance}
use Rattle.ibos_kinds.specs.declared.act.Act.{Act}
use Rattle.ibos_kinds.specs.declared.act.Act.TheVariants.{Done, RxPost, RxBell}
use Rattle.ibos_kinds.specs.declared.outcome.Item.{Item}
use Rattle.ibos_kinds.specs.declared.party.Party.TheVariants.{Page}
use Rattle.ibos_kinds.specs.Bells.{frames_in}
use Rattle.ibos_kinds.specs.Parties.{is_to, same}
use Rattle.ibos_model.specs.Journal.{Journal, is_accepted}

abbrev pub posts_by : Bool → Act → List Handle
posts_by ok (RxPost slot handle) = if ok then handle ∷ [] else []
posts_by ok other = []

-- the handles of accepted posts
abbrev pub posts : Journal → List Handle
posts [] = []
posts (e ∷ J) = posts J ++ posts_by (is_accepted e) e.act

-- a handle of the same buffer, taken back once more
abbrev pub next_turn : Handle → Handle
next_turn handle = record { name = handle.name; turn = handle.turn + 1 }

abbrev pub bell_frames : Instance → Bool → Act → List Item → List (List ℕ)
bell_frames p ok RxBell items = if ok then frames_in (filter (is_to (Page p)) items) else []
bell_frames p ok other items = []

-- the frames that bells gave an instance
abbrev pub frames_for : Instance → Journal → List (List ℕ)
frames_for p [] = []
frames_for p (e ∷ J) = frames_for p J ++ bell_frames p (is_accepted e) e.act e.outcome.items

abbrev pub done_by : Instance → Bool → Act → ℕ → ℕ
done_by p ok (Done who) count = if same who p && ok then count + 1 else count
done_by p ok other count = count

-- how many of them it is done with
abbrev pub done_count : Instance → Journal → ℕ
done_count p [] = 0
done_count p (e ∷ J) = done_by p (is_accepted e) e.act (done_count p J)
